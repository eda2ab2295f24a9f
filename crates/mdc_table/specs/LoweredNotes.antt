-- What becomes of the notes of rooms where a row was taken out of a block.
use Rattle.std.specs.Prelude.{◌≡◌, ◌≢◌, ◌<◌, ◌+◌, ℕ}
use Rattle.mdc_words.specs.ByteOrder.{Entry}
use Rattle.mdc_ast.specs.declared.definition.TableDef.{TableDef}
use Rattle.mdc_ast.specs.declared.row.Row.{Row}
use Rattle.mdc_sound.specs.StandingTable.{RoomNote}
use Rattle.free_space.specs.FoundRoom.{cell_key_of}
use Rattle.free_space.specs.RoomNotes.{SaysNoMore, lowered_to}

-- The note of the row's cell is lowered to the block, and the others are as they were; any of them may be lost.
pub record LowersNoteOf (def : TableDef) (row : Row) (block : ℕ) (from now : Entry → RoomNote) : Type 0 where
  pub cell : SaysNoMore (now (cell_key_of def row.values)) (lowered_to block (from (cell_key_of def row.values)))
  pub others : (other : Entry) → other ≢ cell_key_of def row.values → SaysNoMore (now other) (from other)

-- What becomes of them where so many rows are left in the block, of n slots: they stay where it had room before and keeps rows, and else
-- the note of the row's cell is lowered.
pub data NotesRowTaken (def : TableDef) (row : Row) (block left n : ℕ) (from now : Entry → RoomNote) : Type 0 where
  stay : 0 < left → left + 1 < n → now ≡ from → NotesRowTaken def row block left n from now
  lowered : LowersNoteOf def row block from now → NotesRowTaken def row block left n from now
