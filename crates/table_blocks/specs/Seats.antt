-- Where a row goes in a Used block of its cell, as the block map and the block's pages say it.
use Rattle.std.specs.Prelude.{◌≡◌, ◌<◌, ◌*◌, ℕ, List, Option}
use Rattle.mdc_ast.specs.declared.definition.TableDef.{TableDef}
use Rattle.mdc_ast.specs.declared.row.Row.{Row}
use Rattle.store_api.specs.declared.pages.Pages.{Ghosts}
use Rattle.store_api.specs.declared.shape.Shape.{Shape}
use Rattle.row_page.specs.RowPage.{slot_count}
use Rattle.entry_tree.specs.Forest.{Forest}
use Rattle.entry_tree.specs.HeldTrees.{HoldsTree}
use Rattle.entry_tree.specs.declared.tree.Tree.{Tree}
use Rattle.block_map.specs.BlockMaps.{HasRow}
use Rattle.block_map.specs.Counting.{used_row}
use Rattle.block_map.specs.FoundRows.{IsRowFound}
use Rattle.block_map.specs.declared.looking.FoundRow.{FoundRow}
use Rattle.mdc_sound.specs.Placing.{block_slot_count}
use Rattle.block_rows.specs.HeldRows.{HoldsRows}
use Rattle.block_rows.specs.Seats.{IsSeat}

-- Any tree that the pages hold where the block map lies has the block's row, as that of a Used block with fewer rows than slots, and
-- it stands where it was found. The block's lowest slot has a row of the cell of this one, and the slot is the lowest that is empty.
pub record HasSeat {S : Type 0} (g : Ghosts S) (shape : Shape) (s : S) (def : TableDef) (tree : Tree) (block : ℕ) (row : Row) (line : FoundRow) (slot : ℕ) : Type 0 where
  pub used : line.row ≡ used_row block line.row.rows
  pub there : (t : Forest) → HoldsTree g s tree t → HasRow line.row t
  pub stands : IsRowFound g s tree line
  pub few : line.row.rows < 65535
  pub fewer : line.row.rows < shape.extent_pages * slot_count def.columns
  pub below : slot < block_slot_count shape def
  pub seats : (slots : List (Option Row)) → HoldsRows g shape s def block slots → IsSeat def row slots slot
