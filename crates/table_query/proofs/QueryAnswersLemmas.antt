-- How many rows a query has.
use Rattle.std.proofs.Common.{◌≡◌, ◌∙◌, ℕ, List, Option, length, map, sym}
use Rattle.std.proofs.lemmas.List.{length-map}
use Rattle.std.proofs.lemmas.List.Sorted.{length_permutation}
use Rattle.mdc_ast.specs.declared.definition.TableDef.{TableDef}
use Rattle.mdc_ast.specs.declared.predicate.Pred.{Pred}
use Rattle.mdc_ast.specs.declared.row.Row.{Row}
use Rattle.store_api.specs.declared.pages.Pages.{Ghosts}
use Rattle.store_api.specs.declared.shape.Shape.{Shape}
use Rattle.block_rows.specs.HeldRows.{qualifying}
use Rattle.mdc_sound.specs.StandingTable.{TableForests, pages_of}
use Rattle.mdc_sound.specs.TableRows.{PlacedRow, rows_in_table}
use Rattle.table_query.specs.QueryAnswers.{AreQueryRows}

-- as many rows as qualify
pub rows_counted_are : {S : Type 0} (g : Ghosts S) (shape : Shape) (s : S) (def : TableDef) (pred : Option Pred) (forests : TableForests) (rows : List Row) (count : ℕ)
    → AreQueryRows g shape s def pred forests rows → count ≡ length (qualifying pred (rows_in_table shape (pages_of g s) def forests.map)) → length rows ≡ count
rows_counted_are g shape s def pred forests rows count are counted =
    let all : List PlacedRow = qualifying pred (rows_in_table shape (pages_of g s) def forests.map) in
    length_permutation (map (λ (placed : PlacedRow). placed.row) all) rows are.found ∙ length-map all (λ (placed : PlacedRow). placed.row) ∙ sym counted
