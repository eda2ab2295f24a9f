-- What giving the Free blocks of a table back makes of it.
use Rattle.std.specs.Prelude.{◌≡◌, ℕ, List, length, map}
use Rattle.mdc_words.specs.ByteOrder.{Entry}
use Rattle.mdc_ast.specs.declared.definition.TableDef.{TableDef}
use Rattle.store_api.specs.declared.pages.Pages.{Ghosts}
use Rattle.store_api.specs.declared.shape.Shape.{Shape}
use Rattle.extent_map.specs.declared.kind.Kind.{Kind}
use Rattle.extent_map.specs.declared.space_notes.SpaceNotes.{SpaceNotes}
use Rattle.block_map.specs.MapLines.{free_blocks}
use Rattle.mdc_sound.specs.Placing.{SpotsAfterReturns, reclaimed_spot}
use Rattle.mdc_sound.specs.StandingTable.{AreRightRooms, ChangesTable, RoomNote, TableForests, spots_of}

-- Each Free block of the table is a free extent now, and trees may have given extents back; all other spots are as they were, and so are
-- the trees of all indexes. It was answered how many blocks went. Notes of rooms that were right are.
pub record ReclaimsFree {S : Type 0} (g : Ghosts S) (shape : Shape) (before noted : SpaceNotes) (old new : S) (def : TableDef) (count : ℕ) (owners : List Kind) (forests : TableForests) : Type 0 where
  pub owners_now : List Kind
  pub forests_now : TableForests
  pub changes : ChangesTable g shape before noted old new def owners forests owners_now forests_now
  pub composite : forests_now.composite ≡ forests.composite
  pub dims : forests_now.dims ≡ forests.dims
  pub records : forests_now.indexes ≡ forests.indexes
  pub spots : SpotsAfterReturns (map reclaimed_spot (spots_of g shape old def owners forests)) (spots_of g shape new def owners_now forests_now)
  pub counted : count ≡ length (free_blocks forests.map)
  pub rooms : (room_of : Entry → RoomNote) → AreRightRooms def room_of (spots_of g shape old def owners forests) → AreRightRooms def room_of (spots_of g shape new def owners_now forests_now)
