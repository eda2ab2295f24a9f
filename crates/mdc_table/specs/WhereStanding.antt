-- What is so of a table wherever it stands or is ready, whatever owners and trees it has.
use Rattle.std.specs.Prelude.{List}
use Rattle.mdc_words.specs.ByteOrder.{Entry}
use Rattle.mdc_values.specs.declared.rid.Rid.{Rid}
use Rattle.mdc_ast.specs.declared.definition.TableDef.{TableDef}
use Rattle.mdc_ast.specs.declared.row.Row.{Row}
use Rattle.store_api.specs.declared.pages.Pages.{Ghosts}
use Rattle.store_api.specs.declared.shape.Shape.{Shape}
use Rattle.extent_map.specs.declared.kind.Kind.{Kind}
use Rattle.extent_map.specs.declared.space_notes.SpaceNotes.{SpaceNotes}
use Rattle.mdc_sound.specs.StandingTable.{IsReadyTable, RoomNote, StandsTable, TableForests}
use Rattle.table_blocks.specs.BlockSteps.{HasThisRow}

-- this is so of the table wherever it stands, whatever is noted
abbrev pub WhereStands : {S : Type 0} → Ghosts S → Shape → S → TableDef → (List Kind → TableForests → Type 0) → Type 0
WhereStands g shape s def Is = (owners : List Kind) (forests : TableForests) → StandsTable g shape s def owners forests → Is owners forests

-- wherever it stands, and this row lies in its place
abbrev pub WhereStandsWithRow : {S : Type 0} → Ghosts S → Shape → S → TableDef → Rid → Row → (List Kind → TableForests → Type 0) → Type 0
WhereStandsWithRow g shape s def rid row Is =
    (owners : List Kind) (forests : TableForests) → StandsTable g shape s def owners forests → HasThisRow g shape s def rid row owners forests → Is owners forests

-- wherever it is ready, with these notes of free space and of the rooms
abbrev pub WhereReady : {S : Type 0} → Ghosts S → Shape → SpaceNotes → (Entry → RoomNote) → S → TableDef → (List Kind → TableForests → Type 0) → Type 0
WhereReady g shape noted room_of s def Is = (owners : List Kind) (forests : TableForests) → IsReadyTable g shape noted room_of s def owners forests → Is owners forests

-- wherever it is ready, and this row lies in its place
abbrev pub WhereReadyWithRow : {S : Type 0} → Ghosts S → Shape → SpaceNotes → (Entry → RoomNote) → S → TableDef → Rid → Row → (List Kind → TableForests → Type 0) → Type 0
WhereReadyWithRow g shape noted room_of s def rid row Is =
    (owners : List Kind) (forests : TableForests) → IsReadyTable g shape noted room_of s def owners forests → HasThisRow g shape s def rid row owners forests → Is owners forests
