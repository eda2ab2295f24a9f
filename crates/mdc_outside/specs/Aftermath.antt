-- What a crash in the midst of recorded calls leaves.
use Rattle.std.specs.Prelude.{◌≡◌, ◌-◌, ℕ, Bool, true, false, List, [], ◌∷◌, ◌++◌, Option, Some, None, length, take, fold, replicate, slice_get, if◌then◌else◌}
use Rattle.mdc_outside.specs.Disk.{Since, IsImage, all_synced, file_at_first, overwritten}
use Rattle.mdc_outside.specs.Replay.{Past, State, replay, since_within}
use Rattle.mdc_outside.specs.declared.call.Event.{Event}
use Rattle.mdc_outside.specs.declared.call.Event.TheVariants.{Attach, Len, Read, Write, Sync, Say}
use Rattle.mdc_outside.specs.declared.call.Entry.{Entry}

-- what a range holds: the bytes that were written, or the fill
abbrev pub filled : Option ℕ → List ℕ → List ℕ
filled None piece = piece
filled (Some fill) piece = replicate (length piece) fill

-- the bytes with what the call's range holds
abbrev pub torn_bytes : Option ℕ → List ℕ → Event → List ℕ
torn_bytes fill bytes (Attach path make) = bytes
torn_bytes fill bytes Len = bytes
torn_bytes fill bytes (Read at) = bytes
torn_bytes fill bytes (Write at piece) = overwritten at (filled fill piece) bytes
torn_bytes fill bytes Sync = bytes
torn_bytes fill bytes (Say piece) = bytes

-- the same of a recorded call, done or not
abbrev pub torn_by : Option ℕ → List ℕ → Entry → List ℕ
torn_by fill bytes entry = torn_bytes fill bytes entry.event

-- the bytes after a recorded call
abbrev pub bytes_after : List ℕ → Entry → List ℕ
bytes_after bytes entry = if entry.done then torn_bytes None bytes entry.event else bytes

-- the tape with what the call says
abbrev pub said_bytes : List ℕ → Event → List ℕ
said_bytes tape (Attach path make) = tape
said_bytes tape Len = tape
said_bytes tape (Read at) = tape
said_bytes tape (Write at piece) = tape
said_bytes tape Sync = tape
said_bytes tape (Say piece) = tape ++ piece

-- the tape after a recorded call
abbrev pub tape_after : List ℕ → Entry → List ℕ
tape_after tape entry = if entry.done then said_bytes tape entry.event else tape

-- whether a call makes the file where there is none: a write does so even if it fails
abbrev pub makes_file_by : Event → Bool → Bool
makes_file_by (Attach path make) done = done
makes_file_by Len done = false
makes_file_by (Read at) done = false
makes_file_by (Write at piece) done = true
makes_file_by Sync done = false
makes_file_by (Say piece) done = false

-- the same of a recorded call
abbrev pub makes_file : Entry → Bool
makes_file entry = makes_file_by entry.event entry.done

-- what a crash may leave after these calls, if none of them were a sync
abbrev pub since_all : Since → List Entry → Since
since_all since [] = since
since_all since (entry ∷ entries) = since_all (since_within entry.event since) entries

-- a file that was on the disk before the calls is so after them
abbrev pub EndsSynced : List Entry → Type 0
EndsSynced entries = (state : State) → state.file.since ≡ all_synced state.file.bytes → (replay state entries).file.since ≡ all_synced (replay state entries).file.bytes

-- the calls put nothing on the disk
abbrev pub PutsNothing : List Entry → Type 0
PutsNothing entries = (state : State) → (replay state entries).file.since ≡ since_all state.file.since entries

-- a crash after these calls may leave the bytes, if the first ones were on the disk before
abbrev pub MayBeLeft : List ℕ → List Entry → List ℕ → Type 0
MayBeLeft first entries bytes = (state : State) → state.file.bytes ≡ first → state.file.since ≡ all_synced first → IsImage (replay state entries).file.since bytes

-- What a crash after these calls leaves: what was written up to a sync, and in the ranges written since what each holds.
pub record IsLeftByCalls (fill : Option ℕ) (first : List ℕ) (entries : List Entry) (bytes : List ℕ) : Type 0 where
  pub before : List Entry
  pub since : List Entry
  pub all : entries ≡ before ++ since
  pub synced : EndsSynced before
  pub nothing : PutsNothing since
  pub torn : bytes ≡ fold (torn_by fill) (fold bytes_after first before) since

-- What a crash within the call of this number leaves: what the calls before it leave, and in its range what that holds.
pub record IsLeftWithin (fill : Option ℕ) (call : ℕ) (past : Past) (bytes : List ℕ) : Type 0 where
  pub left : List ℕ
  pub entry : Entry
  pub is : slice_get past.entries (call - 1) ≡ Some entry
  pub before : IsLeftByCalls fill (file_at_first past.first).bytes (take (call - 1) past.entries) left
  pub torn : bytes ≡ torn_bytes fill left entry.event
