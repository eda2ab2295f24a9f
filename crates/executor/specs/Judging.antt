-- What the rows of parts of lists are judged with.
use Rattle.std.specs.Prelude.{◌≡◌, length, IsTrue, None, Option}
use Rattle.mdc_ast.specs.declared.definition.TableDef.{TableDef}
use Rattle.mdc_ast.specs.declared.predicate.Pred.{Pred}
use Rattle.mdc_ast.specs.declared.row.Row.{Row}
use Rattle.row_filter.specs.Filtering.{may_filter}
use Rattle.block_rows.specs.CellColumns.{AreCellColumns, places_of}
use Rattle.block_rows.specs.HeldRows.{HasReadValues}
use Rattle.table_trees.specs.RowCells.{cell_places}
use Rattle.executor.specs.declared.judges.Judges.{Judges}

-- a predicate, where there is one, may be judged on each row that was read
abbrev pub IsJudged : TableDef → Option Pred → Type 0
IsJudged def pred = (row : Row) → HasReadValues def.columns row → IsTrue (may_filter pred row.values)

-- the columns of the cell, a filter by the predicate, and one that takes every row
pub record AreJudges (def : TableDef) (pred : Option Pred) (judges : Judges) : Type 0 where
  pub are : AreCellColumns def.columns judges.cells
  pub places : places_of judges.cells.columns.items ≡ cell_places def
  pub whole_wide : length def.columns ≡ length judges.whole.values
  pub whole_is : judges.whole.pred.now ≡ pred
  pub every_wide : length def.columns ≡ length judges.every.values
  pub every_is : judges.every.pred.now ≡ None
