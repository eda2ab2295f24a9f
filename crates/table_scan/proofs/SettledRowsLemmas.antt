-- On the rows of a block that was chosen, what is left of a predicate is true exactly where the predicate is.
use Rattle.std.proofs.Common.{◌≡◌, ◌∙◌, ◌≤◌, ◌<◌, ◌+◌, ℕ, List, [], ◌∷◌, ◌++◌, Bool, length, get_or, take, refl, ap, arith, subst, sym, inl, inr, Option, None, Some}
use Rattle.std.specs.Prelude.{Contains, IsTrue, filter, flat_map}
use Rattle.std.specs.List.{AllByRecursion}
use Rattle.std.proofs.lemmas.Bool.{cases_Bool}
use Rattle.store_api.specs.declared.shape.Shape.{Shape}
use Rattle.std.proofs.lemmas.List.{flat_map_more, map-append, take_all, take_more}
use Rattle.mdc_ast.specs.declared.definition.TableDef.{TableDef}
use Rattle.mdc_ast.specs.declared.predicate.Pred.{Pred}
use Rattle.mdc_ast.specs.declared.row.Row.{Row}
use Rattle.mdc_ast.specs.Truth.{qualifies}
use Rattle.cell_filter.specs.Cells.{may_hold_at}
use Rattle.row_filter.specs.Filtering.{may_filter}
use Rattle.block_map.proofs.MapLinesLemmas.{contains_more}
use Rattle.block_rows.specs.Giving.{WasGiven}
use Rattle.block_rows.specs.HeldRows.{HasReadValues, qualifying}
use Rattle.block_rows.specs.declared.row_sink.RowSink.{Ghosts}
use Rattle.table_trees.specs.RowCells.{cell_places, cell_values}
use Rattle.block_rows.specs.SeenRows.{AreInCell, IsInCell}
use Rattle.block_rows.proofs.GivingLemmas.{given_more_qualifying, given_none}
use Rattle.block_rows.proofs.MetRowsLemmas.{each_append}
use Rattle.table_trees.specs.ToldPages.{PageList}
use Rattle.mdc_sound.specs.TableRows.{PlacedRow, rows_in_block}
use Rattle.mdc_sound.proofs.BlockRulesLemmas.{each_of}
use Rattle.mdc_table.specs.SeenBlocks.{HasSeenBlock}
use Rattle.mdc_table.specs.declared.listed.ListedBlock.{ListedBlock}
use Rattle.table_scan.specs.SeenTable.{HasCellThatMay, blocks_listed}
use Rattle.table_scan.specs.Settled.{IsLeftOf, MayHoldIfAny}
use Rattle.table_scan.proofs.ScanningLemmas.{filter_first, filter_past}

-- tests that agree on each element leave the same elements
filter_agrees : {X : Type 0} (p q : X → Bool) (xs : List X) → ((x : X) → Contains xs x → p x ≡ q x) → filter p xs ≡ filter q xs
filter_agrees p q [] agree = refl
filter_agrees p q (x ∷ xs) agree =
    let rest : filter p xs ≡ filter q xs = filter_agrees p q xs (λ y there. agree y (contains_more y x xs there)) in
    let here : p x ≡ q x = agree x (0, omega arith, refl) in
    elim (cases_Bool (q x)) [
      | inl passes ↦ filter_first p x xs (here ∙ passes) ∙ ap (λ kept. x ∷ kept) rest ∙ sym (filter_first q x xs passes)
      | inr fails ↦ filter_past p x xs (here ∙ fails) ∙ rest ∙ sym (filter_past q x xs fails)
    ]

-- the blocks so far were seen, and a sink was given their rows that qualify
pub record ScansTo {K : Type 0} (sinks : Ghosts K) (old now : K) (shape : Shape) (pages : PageList) (def : TableDef) (pred : Option Pred) (done : List ListedBlock) : Type 0 where
  pub seen : AllByRecursion (HasSeenBlock shape pages def) done
  pub given : WasGiven sinks old now (qualifying pred (flat_map (rows_in_block shape pages def) (blocks_listed done)))

module _ (shape : Shape) (pages : PageList) (def : TableDef) where
  -- the predicate may hold in the cell of each row of a block that was seen
  may_of_each : (pred : Option Pred) (one : ListedBlock) → HasCellThatMay def pred one → HasSeenBlock shape pages def one → (placed : PlacedRow) → Contains (rows_in_block shape pages def one.block) placed
      → MayHoldIfAny def pred placed.row.values
  may_of_each None one may seen placed within = tt
  may_of_each (Some pred) one may seen placed within =
      let (cell, is, holds) = may in
      let all : AllByRecursion (IsInCell (cell_places def) cell) (rows_in_block shape pages def one.block) = subst (λ given. AreInCell (cell_places def) given (rows_in_block shape pages def one.block)) is seen.cell in
      let here : cell.values ≡ cell_values def placed.row.values = each_of (IsInCell (cell_places def) cell) (rows_in_block shape pages def one.block) placed all within in
      ap (λ values. may_hold_at (cell_places def) values pred) (sym here) ∙ holds

  -- so those that qualify by what is left are those that qualify
  left_qualifies : (pred left : Option Pred) (one : ListedBlock) → IsLeftOf def pred left → ((row : Row) → HasReadValues def.columns row → IsTrue (may_filter pred row.values))
      → HasCellThatMay def pred one → HasSeenBlock shape pages def one → qualifying left (rows_in_block shape pages def one.block) ≡ qualifying pred (rows_in_block shape pages def one.block)
  left_qualifies pred left one are judged may seen =
      let rows = rows_in_block shape pages def one.block in
      filter_agrees (λ placed. qualifies left placed.row.values) (λ placed. qualifies pred placed.row.values) rows (λ placed within.
      are.same placed.row.values (judged placed.row (each_of (λ placed. HasReadValues def.columns placed.row) rows placed seen.rows.read within)) (may_of_each pred one may seen placed within))

  module _ {K : Type 0} {sinks : Ghosts K} (pred : Option Pred) where
    -- none was seen
    pub scans_to_none : (sink : K) → ScansTo sinks sink sink shape pages def pred []
    scans_to_none sink = record { seen = tt; given = given_none sinks sink }

    -- one block more
    pub scans_to_more : (left : Option Pred) (old mid now : K) (items : List ListedBlock) (i : ℕ) (one : ListedBlock) → i < length items → one ≡ get_or items i one
        → IsLeftOf def pred left → ((row : Row) → HasReadValues def.columns row → IsTrue (may_filter pred row.values)) → HasCellThatMay def pred one → HasSeenBlock shape pages def one
        → WasGiven sinks mid now (qualifying left (rows_in_block shape pages def one.block)) → ScansTo sinks old mid shape pages def pred (take i items) → ScansTo sinks old now shape pages def pred (take (i + 1) items)
    scans_to_more left old mid now items i one low is are judged may seen given so_far =
        let rows_at : ℕ → List PlacedRow = rows_in_block shape pages def in
        let done = take i items in
        let more : take (i + 1) items ≡ done ++ one ∷ [] = take_more items i one low ∙ ap (λ (o : ListedBlock). done ++ o ∷ []) (sym is) in
        let rows : flat_map rows_at (blocks_listed done) ++ rows_at one.block ≡ flat_map rows_at (blocks_listed (done ++ one ∷ [])) =
        flat_map_more rows_at [] (blocks_listed done) one.block ∙ ap (flat_map rows_at) (sym (map-append (λ (o : ListedBlock). o.block) done (one ∷ []))) in
        subst (ScansTo sinks old now shape pages def pred) (sym more) (record {
          seen = each_append (HasSeenBlock shape pages def) done (one ∷ []) so_far.seen (seen, tt);
          given = subst (λ rows. WasGiven sinks old now (qualifying pred rows)) rows
              (given_more_qualifying sinks pred old mid now (flat_map rows_at (blocks_listed done)) (rows_at one.block) so_far.given
              (subst (WasGiven sinks mid now) (left_qualifies pred left one are judged may seen) given));
        })

    -- all were
    pub scans_whole : (old now : K) (items : List ListedBlock) (n : ℕ) → length items ≤ n → ScansTo sinks old now shape pages def pred (take n items) → ScansTo sinks old now shape pages def pred items
    scans_whole old now items n all scans = subst (ScansTo sinks old now shape pages def pred) (take_all n items all) scans
