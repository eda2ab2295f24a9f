-- The blocks that are listed under a cell in which a predicate may hold, one cell after the other.
use Rattle.std.proofs.Common.{◌≡◌, ◌<◌, ◌≤◌, ◌+◌, ℕ, List, [], ◌∷◌, ◌++◌, true, false, get_or, length, map, take, ap, arith, inl, inr, subst, sym, ◌∙◌, Vec, Global}
use Rattle.std.specs.Prelude.{AllPairs, Contains, Some, filter, IfOk, IsPermutation, Result, Ok, Err}
use Rattle.std.specs.List.{AllByRecursion}
use Rattle.std.proofs.lemmas.List.{append-nil, get_or-map, get_or_default, length-map, map-append, take_all, take_more}
use Rattle.std.proofs.lemmas.List.Elements.{Contains-append_cases, filter-append}
use Rattle.std.proofs.lemmas.List.Sorted.{Contains-permutation, IsPermutation-sym}
use Rattle.mdc_ast.specs.declared.definition.TableDef.{TableDef}
use Rattle.mdc_ast.specs.declared.predicate.Pred.{Pred}
use Rattle.mdc_ast.specs.declared.row.Cell.{Cell}
use Rattle.mdc_values.specs.Rising.{IsLower, IsRising}
use Rattle.cell_filter.specs.Cells.{may_hold}
use Rattle.block_index.specs.declared.listed_cells.CellBlock.{CellBlock}
use Rattle.block_map.proofs.MapLinesLemmas.{contains_cases}
use Rattle.block_rows.proofs.MetRowsLemmas.{each_append}
use Rattle.mdc_sound.proofs.BlockRulesLemmas.{each_of}
use Rattle.mdc_sound.proofs.ElementsLemmas.{each_in}
use Rattle.table_scan.specs.Choices.{ChoosesBlocks, HaveSameMembers, IsChoiceOf, IsOfEntry, blocks_chosen, blocks_that_may}
use Rattle.table_scan.specs.declared.choosing.ChosenEntry.{ChosenEntry}
use Rattle.table_scan.proofs.RisingNumbersLemmas.{same_moved}
use Rattle.table_scan.proofs.ScanningLemmas.{filter_first, filter_past}

module _ (def : TableDef) (pred : Pred) where
  -- those of one cell more
  those_behind : (listed : List CellBlock) (one : CellBlock) → blocks_that_may def pred (listed ++ one ∷ []) ≡ blocks_that_may def pred listed ++ blocks_that_may def pred (one ∷ [])
  those_behind listed one =
      ap (map (λ (one : CellBlock). one.block)) (filter-append (λ (one : CellBlock). may_hold def one.cell pred) listed (one ∷ []))
      ∙ map-append (λ (one : CellBlock). one.block) (filter (λ (one : CellBlock). may_hold def one.cell pred) listed) (filter (λ (one : CellBlock). may_hold def one.cell pred) (one ∷ []))

  module _ (listed : List CellBlock) (i : ℕ) (one : CellBlock) (low : i < length listed) (is : one ≡ get_or listed i one) (blocks : List ℕ)
      (so_far : blocks ≡ blocks_that_may def pred (take i listed)) where
    one_more : blocks_that_may def pred (take (i + 1) listed) ≡ blocks ++ blocks_that_may def pred (one ∷ [])
    one_more =
        ap (blocks_that_may def pred) (take_more listed i one low ∙ ap (λ (o : CellBlock). take i listed ++ o ∷ []) (sym is)) ∙ those_behind (take i listed) one
        ∙ ap (λ front. front ++ blocks_that_may def pred (one ∷ [])) (sym so_far)

    -- the predicate may hold in it
    pub may_more : may_hold def one.cell pred ≡ true → blocks ++ one.block ∷ [] ≡ blocks_that_may def pred (take (i + 1) listed)
    may_more may =
        sym (one_more ∙ ap (λ (kept : List CellBlock). blocks ++ map (λ (one : CellBlock). one.block) kept)
        (filter_first (λ (one : CellBlock). may_hold def one.cell pred) one [] may))

    -- or not
    pub may_past : may_hold def one.cell pred ≡ false → blocks ≡ blocks_that_may def pred (take (i + 1) listed)
    may_past may =
        sym (one_more ∙ ap (λ (kept : List CellBlock). blocks ++ map (λ (one : CellBlock). one.block) kept)
        (filter_past (λ (one : CellBlock). may_hold def one.cell pred) one [] may) ∙ append-nil blocks)

  -- an entry more was chosen
  pub choice_more : (listed : List CellBlock) (i : ℕ) (one : CellBlock) (chosen now : List ChosenEntry) → i < length listed → one ≡ get_or listed i one → now ≡ chosen ++ record { block = one.block; at = i } ∷ []
      → may_hold def one.cell pred ≡ true → AllByRecursion (IsChoiceOf def pred listed) chosen → AllByRecursion (IsChoiceOf def pred listed) now
  choice_more listed i one chosen now low is pushed may were =
      subst (AllByRecursion (IsChoiceOf def pred listed)) (sym pushed) (each_append (IsChoiceOf def pred listed) chosen (record { block = one.block; at = i } ∷ []) were (
        record {
          there = low;
          is_its = λ d. ap (λ (o : CellBlock). o.block) (get_or_default listed i d one low ∙ sym is);
          may = λ d. ap (λ (o : CellBlock). may_hold def o.cell pred) (get_or_default listed i d one low ∙ sym is) ∙ may;
        },
        tt,
      ))

-- all cells were gone over, and what was found was brought in order, each once
pub chooses : {E : Type 0} (def : TableDef) (pred : Pred) (listed : List CellBlock) (i : ℕ) (found sorted : List ℕ) (result : Result (Vec ChosenEntry Global) E)
    → length listed ≤ i → found ≡ blocks_that_may def pred (take i listed) → IsPermutation found sorted
    → IfOk result (λ once. HaveSameMembers sorted (blocks_chosen once.items)) → IfOk result (λ once. IsRising IsLower (blocks_chosen once.items))
    → IfOk result (λ once. ChoosesBlocks def pred listed (blocks_chosen once.items))
chooses def pred listed i found sorted (Ok once) all so_far moved same rising = record {
  rising = rising;
  same = subst (λ those. HaveSameMembers those (blocks_chosen once.items)) (so_far ∙ ap (blocks_that_may def pred) (take_all i listed all)) (same_moved found sorted (blocks_chosen once.items) moved same);
}
chooses def pred listed i found sorted (Err e) all so_far moved same rising = tt

-- what holds of each holds of those that are left
pub kept_in_order : {E : Type 0} (P : ChosenEntry → Type 0) (found sorted slice : List ChosenEntry) (result : Result (Vec ChosenEntry Global) E)
    → AllByRecursion P found → IsPermutation found sorted → slice ≡ sorted → IfOk result (λ once. (entry : ChosenEntry) → Contains once.items entry → Contains slice entry)
    → IfOk result (λ once. AllByRecursion P once.items)
kept_in_order P found sorted slice (Ok once) all moved same some =
    each_in P once.items (λ entry there. each_of P found entry all (Contains-permutation sorted found entry (IsPermutation-sym found sorted moved) (subst (λ l. Contains l entry) same (some entry there))))
kept_in_order P found sorted slice (Err e) all moved same some = tt

-- ---- entries in their order

-- what an element is mapped to
pub element_at : {X : Type 0} (f : X → ℕ) (xs : List X) (i : ℕ) (x : X) (d : ℕ) → i < length xs → x ≡ get_or xs i x → get_or (map f xs) i d ≡ f x
element_at f xs i x d low is = get_or-map f xs i x d low ∙ ap f (sym is)

-- the blocks of entries in order
pub mapped_in_order : (entries : List ChosenEntry) → AllPairs (λ a b. a.block ≤ b.block) entries → AllPairs (λ a b. a ≤ b) (blocks_chosen entries)
mapped_in_order entries sorted i j d below within =
    let f : ChosenEntry → ℕ = λ one. one.block in
    let e : ChosenEntry = record { block = 0; at = 0 } in
    let high : j < length entries = omega (arith, within, length-map entries f) in
    omega (arith, get_or-map f entries i e d (omega (arith, below, high)), get_or-map f entries j e d high, sorted i j e below high)

-- an element more of a list
pub pushed_there : (entries once now : List ChosenEntry) (i : ℕ) (one : ChosenEntry) → i < length entries → one ≡ get_or entries i one → now ≡ once ++ one ∷ []
    → ((entry : ChosenEntry) → Contains once entry → Contains entries entry) → (entry : ChosenEntry) → Contains now entry → Contains entries entry
pushed_there entries once now i one low is pushed some entry there = elim (Contains-append_cases once (one ∷ []) entry (subst (λ l. Contains l entry) pushed there)) [
  | inl early ↦ some entry early
  | inr last ↦ elim (contains_cases entry one [] last) [
    | inl same ↦ (i, low, get_or_default entries i entry one low ∙ (sym is ∙ same))
    | inr none ↦ absurd (omega (arith, none.1))
  ]
]

-- the block of a chosen entry, listed under the cell of its entry
pub entry_chosen : (def : TableDef) (pred : Pred) (listed : List CellBlock) (chosen : ChosenEntry) (entry : CellBlock) (cell : Cell) (rows : ℕ) → IsChoiceOf def pred listed chosen → entry ≡ get_or listed chosen.at entry
    → cell ≡ entry.cell → IsOfEntry def pred listed (record { block = chosen.block; rows = rows; cell = Some cell })
entry_chosen def pred listed chosen entry cell rows choice is copy = record {
  cell = entry.cell;
  cell_is = ap Some copy;
  there = subst (λ b. Contains listed (record { cell = entry.cell; block = b })) (ap (λ (o : CellBlock). o.block) is ∙ choice.is_its entry) (chosen.at, choice.there, get_or_default listed chosen.at _ entry choice.there ∙ sym is);
  may = ap (λ (o : CellBlock). may_hold def o.cell pred) is ∙ choice.may entry;
}
