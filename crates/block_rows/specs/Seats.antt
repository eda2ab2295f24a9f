-- Where a row goes in a block whose lowest slot has a row of its cell.
use Rattle.std.specs.Prelude.{◌≡◌, ℕ, List, Option, Some, None, slice_index_or}
use Rattle.mdc_ast.specs.declared.definition.TableDef.{TableDef}
use Rattle.mdc_ast.specs.declared.row.Row.{Row}
use Rattle.table_trees.specs.RowCells.{AreOfOneCell}
use Rattle.mdc_sound.specs.Placing.{IsEmptySlot, IsLowestAt}

-- the lowest slot has a row of this one's cell
pub record BeginsInCell (def : TableDef) (row : Row) (slots : List (Option Row)) : Type 0 where
  pub first : Row
  pub there : slice_index_or slots 0 None ≡ Some first
  pub one_cell : AreOfOneCell def first.values row.values

-- so it is, and this is the lowest slot that is empty
pub record IsSeat (def : TableDef) (row : Row) (slots : List (Option Row)) (slot : ℕ) : Type 0 where
  pub begins : BeginsInCell def row slots
  pub lowest : IsLowestAt IsEmptySlot slots slot None
