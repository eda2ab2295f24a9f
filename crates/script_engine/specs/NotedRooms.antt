-- What is noted of where rows of each table find room.
use Rattle.std.specs.Prelude.{◌≡◌, ◌≢◌, ◌<◌, ℕ, Option, Some, None, slice_get}
use Rattle.mdc_words.specs.ByteOrder.{Entry}
use Rattle.mdc_sound.specs.StandingTable.{RoomNote}
use Rattle.free_space.specs.RoomNotes.{no_note, room_of}
use Rattle.free_space.specs.declared.rooms.Rooms.{Rooms}
use Rattle.script_engine.specs.declared.table_rooms.TableRooms.{TableRooms}

-- what notes say, and where there are none, that any block may have room
abbrev pub note_in : Option Rooms → Entry → RoomNote
note_in None = λ key. no_note
note_in (Some rooms) = room_of rooms

-- what is noted of each cell of the table in a place
abbrev pub rooms_at : TableRooms → ℕ → Entry → RoomNote
rooms_at rooms table = note_in (slice_get rooms.by_table table)

-- nothing is noted of any cell of any table
abbrev pub AreForgotten : TableRooms → Type 0
AreForgotten rooms = (table : ℕ) → table < 16 → (key : Entry) → rooms_at rooms table key ≡ no_note

-- of the tables in all other places there is noted what was noted of them
abbrev pub KeepsOtherRooms : TableRooms → TableRooms → ℕ → Type 0
KeepsOtherRooms old new table = (other : ℕ) → other ≢ table → rooms_at new other ≡ rooms_at old other
