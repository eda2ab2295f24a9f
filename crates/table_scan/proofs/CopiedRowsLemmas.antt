-- Copies of the rows that a scan gave, brought in order.
use Rattle.std.proofs.Common.{◌≡◌, ◌≤◌, List, Option, arith, subst}
use Rattle.std.specs.Prelude.{AllPairs, IsPermutation, map}
use Rattle.std.specs.List.Sorted.{IsNonDecreasingBy}
use Rattle.std.proofs.lemmas.List.Sorted.{IsPermutation-map, IsPermutation-trans}
use Rattle.mdc_ast.specs.declared.definition.TableDef.{TableDef}
use Rattle.mdc_ast.specs.declared.predicate.Pred.{Pred}
use Rattle.store_api.specs.declared.pages.Pages.{Ghosts}
use Rattle.store_api.specs.declared.shape.Shape.{Shape}
use Rattle.block_rows.specs.HeldRows.{placed_row, qualifying}
use Rattle.block_rows.specs.declared.hit.Hit.{Hit}
use Rattle.mdc_sound.specs.StandingTable.{TableForests, pages_of}
use Rattle.mdc_sound.specs.TableRows.{PlacedRow, rows_in_table}
use Rattle.table_scan.specs.FoundRows.{FindsRows}
use Rattle.table_scan.specs.SeenTable.{HasSeenBlocks, HasSeenTable}

module _ (rows : List PlacedRow) (hits sorted : List Hit) (copies : map placed_row hits ≡ rows) (moved : IsPermutation hits sorted) (rising : IsNonDecreasingBy (λ (hit : Hit). hit.row.number) sorted) where
  all_copied : IsPermutation rows (map placed_row sorted)
  all_copied = subst (λ those. IsPermutation those (map placed_row sorted)) copies (IsPermutation-map placed_row hits sorted moved)

  in_order : AllPairs (λ a b. a.row.number ≤ b.row.number) sorted
  in_order i j d below within = rising i j d (omega (arith, below)) within

  module _ {S : Type 0} {g : Ghosts S} (shape : Shape) (s : S) (def : TableDef) (pred : Option Pred) where
    -- those of all rows that qualify
    pub finds_rows : (forests : TableForests) → IsPermutation (qualifying pred (rows_in_table shape (pages_of g s) def forests.map)) rows → FindsRows g shape s def pred sorted forests
    finds_rows forests all = record {
      found = IsPermutation-trans (qualifying pred (rows_in_table shape (pages_of g s) def forests.map)) rows (map placed_row sorted) all all_copied;
      in_order = in_order;
    }

    -- and of all that were seen
    pub has_seen_table : HasSeenBlocks g shape s def pred rows → HasSeenTable g shape s def pred sorted
    has_seen_table seen = record { rows = rows; seen = seen; found = all_copied; in_order = in_order }
