-- What the notes say of a cell, and what a call makes of them.
use Rattle.std.specs.Prelude.{◌≡◌, ◌≢◌, ◌⊎◌, ℕ, true, false, nat_le, if◌then◌else◌}
use Rattle.std.specs.Option.{unwrap_or}
use Rattle.std.specs.Map.{lookup}
use Rattle.std.specs.Str.{bytes_eq}
use Rattle.mdc_words.specs.ByteOrder.{Entry}
use Rattle.mdc_sound.specs.StandingTable.{RoomNote}
use Rattle.free_space.specs.declared.rooms.Room.{Room}
use Rattle.free_space.specs.declared.rooms.Rooms.{Rooms}

-- what a note says
abbrev pub note_of : Room → RoomNote
note_of room = record { from = room.first; is_of_cell = room.is_of_cell }

-- nothing is noted: any block of the cell may have room
abbrev pub no_note : RoomNote
no_note = record { from = 0; is_of_cell = false }

-- what is noted of the cell with this key
abbrev pub room_of : Rooms → Entry → RoomNote
room_of rooms key = note_of (unwrap_or (lookup (λ noted. bytes_eq key noted.items) rooms.rooms.entries) (record { first = 0; is_of_cell = false }))

-- nothing is noted of any cell
abbrev pub IsForgotten : Rooms → Type 0
IsForgotten rooms = (key : Entry) → room_of rooms key ≡ no_note

-- this is noted of one cell, and of the others what was noted of them
pub record IsNoted (key : Entry) (note : RoomNote) (old new : Rooms) : Type 0 where
  pub noted : room_of new key ≡ note
  pub others : (other : Entry) → other ≢ key → room_of new other ≡ room_of old other

-- the same, or all is forgotten
abbrev pub Notes : Entry → RoomNote → Rooms → Rooms → Type 0
Notes key note old new = IsNoted key note old new ⊎ IsForgotten new

-- the block is one of the cell, and none below it has room
abbrev pub found_at : ℕ → RoomNote
found_at block = record { from = block; is_of_cell = true }

-- a note once the block may have room and may be none of the cell any more: the block itself where the noted one isn't below it
abbrev pub lowered_to : ℕ → RoomNote → RoomNote
lowered_to block note = if nat_le block note.from then record { from = block; is_of_cell = false } else note

-- what is noted of one cell is lowered to the block, or all is forgotten
abbrev pub Lowers : Entry → ℕ → Rooms → Rooms → Type 0
Lowers key block old new = Notes key (lowered_to block (room_of old key)) old new

-- a note says no more than another: it is the same, or nothing is noted
abbrev pub SaysNoMore : RoomNote → RoomNote → Type 0
SaysNoMore now note = (now ≡ note) ⊎ (now ≡ no_note)
