-- Rows of a block, of which the first tells for all whether the predicate may hold in their cell.
use Rattle.std.proofs.Common.{◌≡◌, ◌∙◌, List, [], ◌∷◌, ◌++◌, Bool, true, false, None, Option, Some, ap, arith, inl, inr, refl, suc, sym}
use Rattle.std.specs.Prelude.{Contains, IsTrue, if◌then◌else◌}
use Rattle.std.proofs.lemmas.Bool.{cases_Bool, false≢true}
use Rattle.std.proofs.lemmas.List.Elements.{filter-append}
use Rattle.mdc_values.specs.declared.value.Value.{Value}
use Rattle.mdc_ast.specs.Truth.{qualifies}
use Rattle.mdc_ast.specs.declared.definition.TableDef.{TableDef}
use Rattle.mdc_ast.specs.declared.predicate.Pred.{Pred}
use Rattle.cell_filter.specs.Cells.{may_hold_at}
use Rattle.cell_filter.proofs.MayHoldLemmas.{may_hold_at-true}
use Rattle.row_filter.specs.Filtering.{may_filter}
use Rattle.block_map.proofs.MapLinesLemmas.{contains_cases}
use Rattle.block_rows.specs.HeldRows.{qualifying}
use Rattle.block_rows.specs.SeenRows.{AreInCell}
use Rattle.table_trees.specs.RowCells.{cell_places, cell_values}
use Rattle.mdc_sound.specs.TableRows.{PlacedRow}
use Rattle.table_scan.specs.Settled.{IsLeftOf, MayHoldIfAny}
use Rattle.executor.specs.Settling.{known_or, may_hold_if_any, settled, verdict_of}
use Rattle.executor.proofs.PassingLemmas.{filter_none, filter_same}

-- ---- one row more

module _ (def : TableDef) (pred : Option Pred) (placed : PlacedRow) {was : Option Bool} {may : Bool} (told : may ≡ known_or was (may_hold_if_any def pred placed.row.values)) where
  -- the verdict is that of the rows before it, or else its own
  pub verdict_more : (given : List PlacedRow) → was ≡ verdict_of def pred given → Some may ≡ verdict_of def pred (given ++ placed ∷ [])
  verdict_more [] is = ap Some (told ∙ ap (λ known. known_or known (may_hold_if_any def pred placed.row.values)) is)
  verdict_more (first ∷ rest) is = ap Some (told ∙ ap (λ known. known_or known (may_hold_if_any def pred placed.row.values)) is)

  module _ (left : Option Pred) where
    -- it isn't taken where the predicate may not hold
    pub settled_past : (given : List PlacedRow) → was ≡ verdict_of def pred given → may ≡ false → settled def pred left (given ++ placed ∷ []) ≡ settled def pred left given
    settled_past [] is it_may_not =
        ap (λ b. if b then qualifying left (placed ∷ []) else []) (sym (told ∙ ap (λ known. known_or known (may_hold_if_any def pred placed.row.values)) is) ∙ it_may_not)
    settled_past (first ∷ rest) is it_may_not =
        let first_no : may_hold_if_any def pred first.row.values ≡ false = sym (told ∙ ap (λ known. known_or known (may_hold_if_any def pred placed.row.values)) is) ∙ it_may_not in
        ap (λ b. if b then qualifying left (first ∷ (rest ++ placed ∷ [])) else []) first_no
        ∙ sym (ap (λ b. if b then qualifying left (first ∷ rest) else []) first_no)

    -- and else if what is left is true of it
    pub settled_more : (given : List PlacedRow) → was ≡ verdict_of def pred given → may ≡ true
        → settled def pred left (given ++ placed ∷ []) ≡ settled def pred left given ++ qualifying left (placed ∷ [])
    settled_more [] is it_may =
        ap (λ b. if b then qualifying left (placed ∷ []) else []) (sym (told ∙ ap (λ known. known_or known (may_hold_if_any def pred placed.row.values)) is) ∙ it_may)
    settled_more (first ∷ rest) is it_may =
        let first_yes : may_hold_if_any def pred first.row.values ≡ true = sym (told ∙ ap (λ known. known_or known (may_hold_if_any def pred placed.row.values)) is) ∙ it_may in
        ap (λ b. if b then qualifying left (first ∷ (rest ++ placed ∷ [])) else []) first_yes
        ∙ (filter-append (λ (one : PlacedRow). qualifies left one.row.values) (first ∷ rest) (placed ∷ [])
        ∙ sym (ap (λ b. (if b then qualifying left (first ∷ rest) else []) ++ qualifying left (placed ∷ [])) first_yes))

-- ---- all rows

-- rows of one cell have one verdict
same_verdict : (def : TableDef) (pred : Option Pred) (a b : List Value) → cell_values def a ≡ cell_values def b → may_hold_if_any def pred a ≡ may_hold_if_any def pred b
same_verdict def None a b same = refl
same_verdict def (Some pred) a b same = ap (λ values. may_hold_at (cell_places def) values pred) same

holds : (def : TableDef) (pred : Option Pred) (values : List Value) → may_hold_if_any def pred values ≡ true → MayHoldIfAny def pred values
holds def None values may = tt
holds def (Some pred) values may = may

-- a row doesn't qualify where the predicate may not hold in its cell
not_qualified : (def : TableDef) (pred : Option Pred) (values : List Value) → may_hold_if_any def pred values ≡ false → qualifies pred values ≡ false
not_qualified def None values not = absurd (false≢true (sym not))
not_qualified def (Some pred) values not = elim (cases_Bool (qualifies (Some pred) values)) [
  | inl qualified ↦ absurd (false≢true (sym not ∙ may_hold_at-true (cell_places def) values pred qualified))
  | inr fails ↦ fails
]

-- each row has the cell of the first
of_first : (def : TableDef) (first placed : PlacedRow) (rest : List PlacedRow) → AreInCell (cell_places def) None (first ∷ rest) → Contains (first ∷ rest) placed → cell_values def placed.row.values ≡ cell_values def first.row.values
of_first def first placed rest one there = elim (contains_cases placed first rest there) [
  | inl same ↦ ap (λ (p : PlacedRow). cell_values def p.row.values) (sym same)
  | inr (k, low, at) ↦ sym (one 0 (suc k) placed (omega arith) (omega (arith, low)) ∙ ap (λ (p : PlacedRow). cell_values def p.row.values) at)
]

-- of the rows of one cell those are taken that qualify
pub settled_all : (def : TableDef) (pred left : Option Pred) → IsLeftOf def pred left → (rows : List PlacedRow) → AreInCell (cell_places def) None rows
    → ((placed : PlacedRow) → Contains rows placed → IsTrue (may_filter pred placed.row.values)) → settled def pred left rows ≡ qualifying pred rows
settled_all def pred left are [] one judged = refl
settled_all def pred left are (first ∷ rest) one judged =
    let verdict : (placed : PlacedRow) → Contains (first ∷ rest) placed → may_hold_if_any def pred placed.row.values ≡ may_hold_if_any def pred first.row.values =
    λ placed there. same_verdict def pred placed.row.values first.row.values (of_first def first placed rest one there) in
    elim (cases_Bool (may_hold_if_any def pred first.row.values)) [
      | inl may ↦
          ap (λ b. if b then qualifying left (first ∷ rest) else []) may
          ∙ filter_same (λ (placed : PlacedRow). qualifies left placed.row.values) (λ (placed : PlacedRow). qualifies pred placed.row.values) (first ∷ rest)
          (λ placed there. are.same placed.row.values (judged placed there) (holds def pred placed.row.values (verdict placed there ∙ may)))
      | inr not ↦
          ap (λ b. if b then qualifying left (first ∷ rest) else []) not
          ∙ sym (filter_none (λ (placed : PlacedRow). qualifies pred placed.row.values) (first ∷ rest) (λ placed there. not_qualified def pred placed.row.values (verdict placed there ∙ not)))
    ]
