-- The moments of a host in memory, one point of its record after another.
use Rattle.std.specs.Prelude.{ℕ, List, [], ◌∷◌, take, drop}
use Rattle.mdc_outside.specs.Moments.{IsMoment}
use Rattle.mdc_outside.specs.Replay.{Past, State, replay, at_first, since_within, piece_within}
use Rattle.mdc_outside.specs.declared.call.Entry.{Entry}

-- A crash within the next call may leave this: the bytes that were on the disk, with any in the ranges that were written
-- since, the call's own too, and on the tape any first part of what the call says. Or a crash after the last call.
abbrev pub IsNext : State → List Entry → List ℕ → List ℕ → Type 0
IsNext state [] image tape = IsMoment state.file.since state.tape [] image tape
IsNext state (entry ∷ entries) image tape = IsMoment (since_within entry.event state.file.since) state.tape (piece_within entry.event) image tape

-- a crash at the point after so many calls may leave this
abbrev pub IsLeftAt : Past → ℕ → List ℕ → List ℕ → Type 0
IsLeftAt past k image tape = IsNext (replay (at_first past.first past.heard) (take k past.entries)) (drop k past.entries) image tape
