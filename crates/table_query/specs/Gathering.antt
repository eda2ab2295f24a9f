-- Lines of rows of which the columns alone are read that the query names.
use Rattle.std.specs.Prelude.{◌≡◌, ℕ, List, IsTrue, length}
use Rattle.std.specs.List.{AllZip}
use Rattle.mdc_values.specs.declared.value.Value.{Value}
use Rattle.mdc_ast.specs.declared.bound.BoundSelect.{BoundSelect}
use Rattle.mdc_ast.specs.declared.definition.ColumnDef.{ColumnDef}
use Rattle.mdc_ast.specs.declared.row.Row.{Row}
use Rattle.row_groups.specs.Naming.{AgreeInNamed}
use Rattle.row_groups.specs.Shape.{shape_of}
use Rattle.answer_text.specs.Answering.{AreLinesOf}
use Rattle.answer_text.specs.Lines.{are_outs_within}
use Rattle.answer_text.specs.declared.query_lines.QueryLines.{QueryLines}
use Rattle.table_query.specs.Named.{named_columns}

-- These are the lines, so far, of rows that agree with the given ones in what the query names.
pub record HasLinesOf (columns : List ColumnDef) (select : BoundSelect) (rows : List Row) (lines : QueryLines) : Type 0 where
  pub others : List Row
  pub agree : AllZip (AgreeInNamed (shape_of select)) rows others
  pub are : AreLinesOf columns select others lines

-- Rows of these columns may be added: the lines are those of some rows, there is a value for each column, and those are read that
-- the query names.
pub record MayTakeRows (columns : List ColumnDef) (select : BoundSelect) (lines : QueryLines) (named : List ℕ) (values : List Value) : Type 0 where
  pub shown : IsTrue (are_outs_within (length columns) select.outs)
  pub rows : List Row
  pub are : AreLinesOf columns select rows lines
  pub named_are : named ≡ named_columns (shape_of select) (length columns)
  pub wide : length values ≡ length columns
