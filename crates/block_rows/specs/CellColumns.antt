-- Where the columns of the cell lie in the bytes of a row, and rows in the bytes of a page.
use Rattle.std.specs.Prelude.{◌≡◌, ◌<◌, ◌+◌, ℕ, List, length, map, take, slice_index_or}
use Rattle.std.specs.List.{AllByRecursion}
use Rattle.mdc_ast.specs.declared.definition.ColumnDef.{ColumnDef}
use Rattle.row_page.specs.Row.{row_width_of}
use Rattle.row_page.specs.RowPage.{slots_start}
use Rattle.block_rows.specs.declared.cell_columns.CellColumn.{CellColumn}
use Rattle.block_rows.specs.declared.cell_columns.CellColumns.{CellColumns}

-- a column of these, with its type and the places where its bytes begin and end
pub record IsCellColumn (columns : List ColumnDef) (column : CellColumn) : Type 0 where
  pub there : column.place < length columns
  pub ty : (d : ColumnDef) → column.ty ≡ (slice_index_or columns column.place d).ty
  pub start : column.start ≡ row_width_of (take column.place columns)
  pub end : column.end ≡ row_width_of (take (column.place + 1) columns)

-- the places of such columns
abbrev pub places_of : List CellColumn → List ℕ
places_of columns = map (λ column. column.place) columns

-- each is such a column, and rows lie so in a page of these columns
pub record AreCellColumns (columns : List ColumnDef) (cells : CellColumns) : Type 0 where
  pub each : AllByRecursion (IsCellColumn columns) cells.columns.items
  pub slots_start : cells.slots_start ≡ slots_start columns
  pub row_width : cells.row_width ≡ row_width_of columns
