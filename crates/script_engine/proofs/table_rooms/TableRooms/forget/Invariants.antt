use Rattle.std.proofs.Common.{◌≡◌, ◌<◌, ℕ}
use Rattle.mdc_words.specs.ByteOrder.{Entry}
use Rattle.free_space.specs.RoomNotes.{no_note}
use Rattle.script_engine.specs.NotedRooms.{rooms_at}
use Rattle.script_engine.proofs.table_rooms.TableRooms.forget.Given as goal

abbrev pub invariant-loop-table : goal.invariant-loop-table
invariant-loop-table l = (t : ℕ) → t < l.table → (key : Entry) → rooms_at l.self t key ≡ no_note
