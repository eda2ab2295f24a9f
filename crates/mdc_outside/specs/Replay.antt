-- What a host in memory tells: it replays the calls that it has recorded.
use Rattle.std.specs.Prelude.{◌≡◌, ◌⊎◌, ◌-◌, ℕ, Bool, true, false, List, [], ◌∷◌, ◌++◌, Option, Some, Result, Ok, Err, take, drop, length, if◌then◌else◌}
use Rattle.mdc_outside.specs.Disk.{File, Since, file_at_first, opened, torn, written, settled}
use Rattle.mdc_outside.specs.Moments.{Beside, IsMoment}
use Rattle.mdc_outside.specs.declared.call.Event.{Event}
use Rattle.mdc_outside.specs.declared.call.Event.TheVariants.{Attach, Len, Read, Write, Sync, Say}
use Rattle.mdc_outside.specs.declared.call.Entry.{Entry}
use Rattle.mdc_outside.specs.declared.source.Failed.{Failed}
use Rattle.mdc_values.specs.declared.memory.Memory.{Memory}

-- the file and the tape at one time
pub record State : Type 0 where
  pub file : File
  pub tape : List ℕ

-- what a crash within the call may leave of the file
abbrev pub since_within : Event → Since → Since
since_within (Attach path make) since = since
since_within Len since = since
since_within (Read at) since = since
since_within (Write at bytes) since = torn at (length bytes) since
since_within Sync since = since
since_within (Say piece) since = since

-- what the call says
abbrev pub piece_within : Event → List ℕ
piece_within (Attach path make) = []
piece_within Len = []
piece_within (Read at) = []
piece_within (Write at bytes) = []
piece_within Sync = []
piece_within (Say piece) = piece

-- after the call, where it is done
abbrev pub after_done : Event → State → State
after_done (Attach path make) state = record state { file = opened state.file }
after_done Len state = state
after_done (Read at) state = state
after_done (Write at bytes) state = record state { file = written at bytes state.file }
after_done Sync state = record state { file = settled state.file }
after_done (Say piece) state = record state { tape = state.tape ++ piece }

-- after a call that failed: a write has torn its range, and left the bytes
abbrev pub after_failed : Event → State → State
after_failed (Attach path make) state = state
after_failed Len state = state
after_failed (Read at) state = state
after_failed (Write at bytes) state = record state { file = record { is_there = true; bytes = state.file.bytes; since = torn at (length bytes) state.file.since } }
after_failed Sync state = state
after_failed (Say piece) state = state

-- after the call
abbrev pub entry_step : Entry → State → State
entry_step entry state = if entry.done then after_done entry.event state else after_failed entry.event state

-- after the calls, the first of them first
abbrev pub replay : State → List Entry → State
replay state [] = state
replay state (entry ∷ entries) = replay (entry_step entry state) entries

-- a crash within one of the calls, or after the last, may leave this
abbrev pub ReplayLeaves : State → List Entry → List ℕ → List ℕ → Type 0
ReplayLeaves state [] image tape = IsMoment state.file.since state.tape [] image tape
ReplayLeaves state (entry ∷ entries) image tape =
    IsMoment (since_within entry.event state.file.since) state.tape (piece_within entry.event) image tape
    ⊎ ReplayLeaves (entry_step entry state) entries image tape

-- the attaches, with the path and `make` of this call if it is one
abbrev pub with_attach : Event → List (List ℕ × Bool) → List (List ℕ × Bool)
with_attach (Attach path make) rest = (path, make) ∷ rest
with_attach Len rest = rest
with_attach (Read at) rest = rest
with_attach (Write at bytes) rest = rest
with_attach Sync rest = rest
with_attach (Say piece) rest = rest

-- the path and `make` of each attach among the calls
abbrev pub attaches_in : List Entry → List (List ℕ × Bool)
attaches_in [] = []
attaches_in (entry ∷ entries) = with_attach entry.event (attaches_in entries)

-- What contracts see of a host in memory: its first file and tape, all its calls, whether a file is attached, and the
-- counts.
pub record Past : Type 0 where
  pub first : Option (List ℕ)
  pub heard : List ℕ
  pub entries : List Entry
  pub is_attached : Bool
  pub disk_faults : ℕ
  pub say_faults : ℕ

-- before the first call
abbrev pub at_first : Option (List ℕ) → List ℕ → State
at_first first heard = record { file = file_at_first first; tape = heard }

-- after the last call so far
abbrev pub host_state : Past → State
host_state past = replay (at_first past.first past.heard) past.entries

-- before the call of this number, counted from 1
abbrev pub state_before : ℕ → Past → State
state_before call past = replay (at_first past.first past.heard) (take (call - 1) past.entries)

-- what lies beside the disk
abbrev pub beside_of : Past → Beside
beside_of past = record { tape = Some (host_state past).tape; say_faults = past.say_faults }

-- a crash since so many calls may leave this
abbrev pub may_leave : Past → ℕ → List ℕ → List ℕ → Type 0
may_leave past t image tape = ReplayLeaves (replay (at_first past.first past.heard) (take t past.entries)) (drop t past.entries) image tape

-- a host that was made of this file and tape, with no call yet
abbrev pub fresh : Option (List ℕ) → List ℕ → Past
fresh first heard = record { first = first; heard = heard; entries = []; is_attached = false; disk_faults = 0; say_faults = 0 }

-- the past with one more call
abbrev pub called : Event → Bool → Past → Past
called event done past = record past { entries = past.entries ++ record { event = event; done = done } ∷ [] }

-- the past with another count of disk faults
abbrev pub with_disk_faults : ℕ → Past → Past
with_disk_faults faults past = record past { disk_faults = faults }

-- the past with another count of faults of `say`
abbrev pub with_say_faults : ℕ → Past → Past
with_say_faults faults past = record past { say_faults = faults }

-- the past with a file attached
abbrev pub with_file : Past → Past
with_file past = record past { is_attached = true }

-- Where the call was recorded, it was done as the result says. Where it wasn't, it came to nothing.
abbrev pub IsRecorded : Event → Result Bool Memory → Past → Past → Type 0
IsRecorded event (Ok done) old new = new ≡ called event done old
IsRecorded event (Err e) old new = new ≡ old

-- The call was recorded as done. Or it was recorded as failed, or came to nothing, and a fault of the disk was counted.
abbrev pub IsAnswered : Event → Result (Unit {0}) Failed → Past → Past → Type 0
IsAnswered event (Ok done) old new = new ≡ called event true old
IsAnswered event (Err e) old new =
    (new ≡ with_disk_faults new.disk_faults (called event false old)) ⊎ (new ≡ with_disk_faults new.disk_faults old)

-- The bytes were said. Or the call was recorded as failed, or came to nothing, and a fault of `say` was counted.
abbrev pub IsSaid : List ℕ → Result (Unit {0}) Failed → Past → Past → Type 0
IsSaid piece (Ok done) old new = new ≡ called (Say piece) true old
IsSaid piece (Err e) old new =
    (new ≡ with_say_faults new.say_faults (called (Say piece) false old)) ⊎ (new ≡ with_say_faults new.say_faults old)

-- what a host holds is what the calls have made
pub record IsUpToDate (bytes : List ℕ) (is_there : Bool) (tape : List ℕ) (state : State) : Type 0 where
  pub file : bytes ≡ state.file.bytes
  pub there : is_there ≡ state.file.is_there
  pub said : tape ≡ state.tape

-- a call that keeps the bytes and the tape
abbrev pub IsQuiet : Event → Type 0
IsQuiet (Attach path make) = ⊥
IsQuiet Len = Unit {0}
IsQuiet (Read at) = Unit {0}
IsQuiet (Write at bytes) = ⊥
IsQuiet Sync = Unit {0}
IsQuiet (Say piece) = ⊥
