-- Which block comes into use next, and what it is then.
use Rattle.std.specs.Prelude.{ℕ, List, Contains}
use Rattle.mdc_ast.specs.declared.definition.TableDef.{TableDef}
use Rattle.mdc_ast.specs.declared.row.Row.{Row}
use Rattle.store_api.specs.declared.pages.Pages.{Ghosts}
use Rattle.store_api.specs.declared.shape.Shape.{Shape}
use Rattle.extent_map.specs.Owners.{AreRightNotes, IsLowestFree}
use Rattle.extent_map.specs.declared.kind.Kind.{Kind}
use Rattle.extent_map.specs.declared.space_notes.SpaceNotes.{SpaceNotes}
use Rattle.entry_tree.specs.Forest.{Forest}
use Rattle.block_map.specs.BlockMaps.{IsLowestFreeBlock}
use Rattle.block_map.specs.MapLines.{free_blocks}
use Rattle.table_trees.specs.SpaceChanges.{RunsFull}
use Rattle.table_trees.specs.ToldPages.{PageList}
use Rattle.mdc_sound.specs.Placing.{HasRoomFor, HoldsNowhere}
use Rattle.mdc_sound.specs.Placing.Spot.{FreeBlock}
use Rattle.mdc_sound.specs.RunningFull.{RowRunsFull, block_changes}
use Rattle.mdc_sound.specs.StandingTable.{MeetsNoFree, TableForests, pages_of, spots_of}
use Rattle.table_blocks.specs.BlockSteps.{BeginsBlock, NewBlockRunsFull}

-- the block that comes into use next: the table's lowest Free block, else the lowest free extent
pub data IsNextBlock (owners : List Kind) (map_tree : Forest) (block : ℕ) : Type 0 where
  free_block : IsLowestFreeBlock map_tree 0 block → IsNextBlock owners map_tree block
  free_extent : ((other : ℕ) → Contains (free_blocks map_tree) other → ⊥) → IsLowestFree owners block → IsNextBlock owners map_tree block

-- The next block of a table that stood is Used now, with one row in its lowest slot; after that trees may have taken free
-- extents.
pub record BeginsNext {S : Type 0} (g : Ghosts S) (shape : Shape) (before noted : SpaceNotes) (old new : S) (def : TableDef) (block : ℕ) (row : Row) (owners : List Kind) (forests : TableForests) : Type 0 where
  pub next : AreRightNotes shape before owners → IsNextBlock owners forests.map block
  pub begins : BeginsBlock g shape before noted old new def block row owners forests

-- The next block for the row runs full: what a Free block needs, or a new one.
pub data NextBlockRunsFull (shape : Shape) (work : PageList) (def : TableDef) (row : Row) (owners : List Kind) (map_tree : Forest) : Type 0 where
  free_block : (block : ℕ) → IsLowestFreeBlock map_tree 0 block → RunsFull shape work (block_changes def row block FreeBlock) → NextBlockRunsFull shape work def row owners map_tree
  new_block : ((other : ℕ) → Contains (free_blocks map_tree) other → ⊥) → NewBlockRunsFull shape work def row owners → NextBlockRunsFull shape work def row owners map_tree

-- Why a row isn't placed: no Used block of its cell has room, and what it needs asks for more extents than are free.
pub record FindsNoPlace {S : Type 0} (g : Ghosts S) (shape : Shape) (old new : S) (def : TableDef) (row : Row) (owners : List Kind) (forests : TableForests) : Type 0 where
  pub no_room : HoldsNowhere (HasRoomFor def row) (spots_of g shape old def owners forests)
  pub runs_full : RowRunsFull shape (pages_of g old) def (spots_of g shape old def owners forests) row
  pub none_free : MeetsNoFree g shape new
