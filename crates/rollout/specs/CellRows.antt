-- A row that stands for all rows of a cell: where a predicate names dimension columns alone, they qualify where it does.
use Rattle.std.specs.Prelude.{◌≡◌, ◌<◌, ℕ, true, IsTrue, List, length, map, slice_index_or}
use Rattle.mdc_values.specs.declared.value.Value.{Value}
use Rattle.mdc_ast.specs.Truth.{value_at}
use Rattle.mdc_ast.specs.declared.definition.ColumnDef.{ColumnDef}
use Rattle.mdc_ast.specs.declared.definition.TableDef.{TableDef}
use Rattle.mdc_ast.specs.declared.row.Cell.{Cell}
use Rattle.mdc_ast.specs.declared.row.Row.{Row}
use Rattle.key_codec.specs.Keys.{has_key, type_of_column}
use Rattle.block_index.specs.Cells.{FitsCell}
use Rattle.block_rows.specs.HeldRows.{HasReadValues}
use Rattle.table_trees.specs.RowCells.{IsCellOf}
use Rattle.rollout.specs.Applying.{is_dimension}

-- Values for these columns, each with a key in its column. In these places they are the values of any row that has those there.
pub record HasCellValues (columns : List ColumnDef) (places : List ℕ) (values made : List Value) : Type 0 where
  pub each : (place : ℕ) → place < length columns → (place < length made) × IsTrue (has_key (type_of_column columns place) (value_at made place))
  pub same : (row : List Value) → values ≡ map (value_at row) places → (k : ℕ) → k < length places → value_at made (slice_index_or places k 0) ≡ value_at row (slice_index_or places k 0)

-- The values of the cell have keys in their columns. The row has a value in each column, with a key in it, and in the dimension columns
-- those of each row of the cell.
pub record IsRowOfCell (def : TableDef) (cell : Cell) (row : Row) : Type 0 where
  pub fits : FitsCell def cell.values
  pub read : HasReadValues def.columns row
  pub same : (values : List Value) → IsCellOf def cell values → (column : ℕ) → is_dimension def column ≡ true → value_at row.values column ≡ value_at values column
