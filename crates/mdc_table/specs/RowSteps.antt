-- What putting a row into a table makes of it, what taking one out does, and what writing one over does: one record each, of what holds
-- whatever the notes say, and of what right notes give besides.
use Rattle.std.specs.Prelude.{◌≡◌, List, Option, Some, slice_index_or, slice_set}
use Rattle.mdc_words.specs.ByteOrder.{Entry}
use Rattle.mdc_values.specs.declared.rid.Rid.{Rid}
use Rattle.mdc_ast.specs.declared.definition.TableDef.{TableDef}
use Rattle.mdc_ast.specs.declared.row.Row.{Row}
use Rattle.store_api.specs.declared.pages.Pages.{Ghosts}
use Rattle.store_api.specs.declared.shape.Shape.{Shape}
use Rattle.extent_map.specs.declared.kind.Kind.{Kind}
use Rattle.extent_map.specs.declared.space_notes.SpaceNotes.{SpaceNotes}
use Rattle.row_page.specs.RowPage.{count_rows}
use Rattle.table_trees.specs.RowCells.{AreOfOneCell}
use Rattle.table_trees.specs.SpaceChanges.{IsSameSpace, MakesChanges}
use Rattle.mdc_sound.specs.Placing.{IsRowAt}
use Rattle.mdc_sound.specs.Placing.Spot.{OtherBlock, UsedBlock}
use Rattle.mdc_sound.specs.RunningFull.{block_changes, left_changes}
use Rattle.mdc_sound.specs.StandingTable.{ChangesTable, IsReadyTable, KeepsBlocksBut, OverwritesRow, PlacesRow, RoomNote, TableForests, TakesRowOut, pages_of, spots_of}
use Rattle.mdc_table.specs.AnyPlace.{PlacesAnywhere, TakesOutAnywhere}

-- The row was put into a table that stood, with these notes of free space and of the rooms before and now.
pub record PlacesRowInTable {S : Type 0} (g : Ghosts S) (shape : Shape) (before noted : SpaceNotes) (room_of room_now : Entry → RoomNote) (old new : S) (def : TableDef) (row : Row) (rid : Rid)
    (owners : List Kind) (forests : TableForests) : Type 0 where
  -- it lies in a slot that was empty, of a Used block of its cell, of a Free block or of a free extent
  pub anywhere : PlacesAnywhere g shape before noted old new def owners forests row rid
  -- the table's other blocks stay
  pub stay : KeepsBlocksBut g shape old new def owners (λ block. block ≡ rid.block)
  -- where the notes were right it lies where placing says, and they are right
  pub places : IsReadyTable g shape before room_of old def owners forests → PlacesRow g shape before noted room_now old new def owners forests row rid
  -- and no more space was taken than it asks for there
  pub makes : IsReadyTable g shape before room_of old def owners forests
      → MakesChanges shape (pages_of g old) (block_changes def row rid.block (slice_index_or (spots_of g shape old def owners forests) rid.block OtherBlock)) (pages_of g new)

-- The row was taken out of a table that stood, in which it lay in this place, with these notes of free space and of the rooms before
-- and now.
pub record TakesRowFromTable {S : Type 0} (g : Ghosts S) (shape : Shape) (before noted : SpaceNotes) (room_of room_now : Entry → RoomNote) (old new : S) (def : TableDef) (row : Row) (rid : Rid)
    (owners : List Kind) (forests : TableForests) : Type 0 where
  -- it alone left
  pub leaves : TakesOutAnywhere g shape before noted old new def owners forests row rid
  -- space changed as it asks for
  pub makes : (slots : List (Option Row)) → IsRowAt (spots_of g shape old def owners forests) rid row slots
      → MakesChanges shape (pages_of g old) (left_changes def row rid.block (count_rows slots)) (pages_of g new)
  -- where the notes were right they are
  pub takes : IsReadyTable g shape before room_of old def owners forests → TakesRowOut g shape before noted room_now old new def owners forests row rid

-- Another row was written over this one, which lay in this place of a table that stood, with these notes of the rooms.
pub record OverwritesRowInTable {S : Type 0} (g : Ghosts S) (shape : Shape) (room_of : Entry → RoomNote) (old new : S) (def : TableDef) (was row : Row) (rid : Rid)
    (owners : List Kind) (forests : TableForests) : Type 0 where
  -- space is as it was
  pub makes : IsSameSpace shape (pages_of g old) (pages_of g new)
  -- where both are of one cell the table stands with the owners and the trees that it had, whatever is noted
  pub leaves : AreOfOneCell def was.values row.values → (noted : SpaceNotes) → ChangesTable g shape noted noted old new def owners forests owners forests
  -- the other row lies in the place, and all else is as it was
  pub anywhere : AreOfOneCell def was.values row.values → (slots : List (Option Row)) → IsRowAt (spots_of g shape old def owners forests) rid was slots
      → spots_of g shape new def owners forests ≡ slice_set (spots_of g shape old def owners forests) rid.block (UsedBlock (slice_set slots rid.slot (Some row)))
  -- and where the notes were right they are
  pub overwrites : AreOfOneCell def was.values row.values → (noted : SpaceNotes) → IsReadyTable g shape noted room_of old def owners forests
      → OverwritesRow g shape noted noted room_of old new def owners forests was row rid
