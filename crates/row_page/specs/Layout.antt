-- Where the rows of a page lie, as the code keeps it.
use Rattle.std.specs.Prelude.{◌≡◌, List}
use Rattle.mdc_ast.specs.declared.definition.ColumnDef.{ColumnDef}
use Rattle.row_page.specs.declared.layout.Layout.{Layout}
use Rattle.row_page.specs.Row.{AreRowColumns, row_width_of}
use Rattle.row_page.specs.RowPage.{slot_count, slots_start}

-- the layout of pages of these columns, which are within the limits
pub record IsLayoutOf (columns : List ColumnDef) (layout : Layout) : Type 0 where
  pub within : AreRowColumns columns
  pub slots : layout.slots ≡ slot_count columns
  pub width : layout.width ≡ row_width_of columns
  pub start : layout.start ≡ slots_start columns
