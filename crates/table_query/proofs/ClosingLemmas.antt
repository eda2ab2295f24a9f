-- What a scan has given to lines is closed as the rows of the query.
use Rattle.std.proofs.Common.{◌≡◌, List, map}
use Rattle.std.specs.Prelude.{IsPermutation, IsTrue}
use Rattle.std.proofs.lemmas.List.Sorted.{IsPermutation-map, IsPermutation-sym, IsPermutation-trans}
use Rattle.mdc_ast.specs.declared.bound.BoundSelect.{BoundSelect}
use Rattle.mdc_ast.specs.declared.definition.ColumnDef.{ColumnDef}
use Rattle.mdc_ast.specs.declared.definition.TableDef.{TableDef}
use Rattle.mdc_ast.specs.declared.row.Row.{Row}
use Rattle.store_api.specs.declared.pages.Pages.{Ghosts}
use Rattle.store_api.specs.declared.shape.Shape.{Shape}
use Rattle.block_rows.specs.HeldRows.{qualifying}
use Rattle.mdc_sound.specs.StandingTable.{TableForests, pages_of}
use Rattle.mdc_sound.specs.TableRows.{PlacedRow, rows_in_table}
use Rattle.row_groups.specs.Lines.{made_lines, shares_lines}
use Rattle.row_groups.specs.Numbers.{by_number, values_of}
use Rattle.row_groups.specs.Shape.{shape_of}
use Rattle.answer_text.specs.Answering.{AreLinesOf, Rise}
use Rattle.answer_text.specs.declared.query_lines.QueryLines.{QueryLines}
use Rattle.table_query.specs.Gathering.{HasLinesOf}
use Rattle.table_query.specs.QueryAnswers.{AreQueryRows}
use Rattle.table_query.proofs.GatheredLemmas.{others_by_number, others_make, others_rise}

-- These are the lines of others by rising number, which make the lines of the rows.
pub record StandForRows (columns : List ColumnDef) (select : BoundSelect) (rows : List Row) (lines : QueryLines) : Type 0 where
  pub others : List Row
  pub are : AreLinesOf columns select others lines
  pub rise : Rise others
  pub make : made_lines (shape_of select) (values_of others) ≡ made_lines (shape_of select) (values_of rows)

-- so it is where the rows that qualify were given, in some order
pub stand_for_rows : {S : Type 0} (g : Ghosts S) (shape : Shape) (s : S) (def : TableDef) (select : BoundSelect) (forests : TableForests) (placed : List PlacedRow) (rows : List Row) (lines : QueryLines)
    → IsTrue (shares_lines (shape_of select)) → IsPermutation (qualifying select.pred (rows_in_table shape (pages_of g s) def forests.map)) placed → HasLinesOf def.columns select (map (λ one. one.row) placed) lines
    → AreQueryRows g shape s def select.pred forests rows → StandForRows def.columns select rows lines
stand_for_rows g shape s def select forests placed rows lines shares found has are =
    let all : List PlacedRow = qualifying select.pred (rows_in_table shape (pages_of g s) def forests.map) in
    let given : List Row = map (λ (one : PlacedRow). one.row) placed in
    let same : IsPermutation given rows =
    IsPermutation-trans given (map (λ (one : PlacedRow). one.row) all) rows
    (IsPermutation-sym (map (λ (one : PlacedRow). one.row) all) given (IsPermutation-map (λ (one : PlacedRow). one.row) all placed found)) are.found in
    record {
      others = by_number has.others;
      are = others_by_number def.columns select given has.others rows has.agree same are.rise lines shares has.are;
      rise = others_rise def.columns select given has.others rows has.agree same are.rise;
      make = others_make def.columns select given has.others rows has.agree same are.rise;
    }
