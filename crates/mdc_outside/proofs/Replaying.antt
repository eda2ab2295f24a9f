-- What one more call does to what a host in memory tells.
use Rattle.std.proofs.Common.{◌≡◌, ◌⊎◌, ◌↔◌, ◌≤◌, ◌||◌, ℕ, Bool, true, false, List, [], ◌∷◌, ◌++◌, Some, length, arith, refl, ap, ◌∙◌, inl, inr, length-append}
use Rattle.mdc_outside.specs.Disk.{File, overwritten}
use Rattle.mdc_outside.specs.Moments.{IsMoment, IsWithinCall, LeavesEachPart}
use Rattle.mdc_words.specs.Time.{OverTime}
use Rattle.mdc_outside.specs.Replay.{Past, State, host_state, at_first, may_leave, replay, entry_step, since_within, piece_within, called, with_disk_faults, with_say_faults, with_file, attaches_in, with_attach, IsQuiet, IsUpToDate}
use Rattle.mdc_outside.specs.ReplayLaws.{sound-first, leaves_grown_since}
use Rattle.mdc_outside.specs.declared.call.Event.{Event}
use Rattle.mdc_outside.specs.declared.call.Event.TheVariants.{Attach, Len, Read, Write, Sync, Say}
use Rattle.mdc_outside.specs.declared.call.Entry.{Entry}

-- one more call is one more entry_step
pub replay-grown : (state : State) (entries : List Entry) (entry : Entry) → replay state (entries ++ entry ∷ []) ≡ entry_step entry (replay state entries)
replay-grown state [] entry = refl
replay-grown state (first ∷ entries) entry = replay-grown (entry_step first state) entries entry

-- the state after one more call
pub state-called : (event : Event) (done : Bool) (past : Past) → host_state (called event done past) ≡ entry_step (record { event = event; done = done }) (host_state past)
state-called event done past = replay-grown (at_first past.first past.heard) past.entries (record { event = event; done = done })

-- the attaches of more calls stand behind that of the first
with_attach-append : (event : Event) (xs ys : List (List ℕ × Bool)) → with_attach event (xs ++ ys) ≡ with_attach event xs ++ ys
with_attach-append (Attach path make) xs ys = refl
with_attach-append Len xs ys = refl
with_attach-append (Read at) xs ys = refl
with_attach-append (Write at bytes) xs ys = refl
with_attach-append Sync xs ys = refl
with_attach-append (Say piece) xs ys = refl

-- the attaches with one more call
pub attaches-called : (entries : List Entry) (entry : Entry) → attaches_in (entries ++ entry ∷ []) ≡ attaches_in entries ++ with_attach entry.event []
attaches-called [] entry = refl
attaches-called (first ∷ entries) entry =
    ap (with_attach first.event) (attaches-called entries entry) ∙ with_attach-append first.event (attaches_in entries) (with_attach entry.event [])

-- over a recorded call there are the moments within it, and no others
moments-called : (event : Event) (done : Bool) (past : Past) (file : File) (piece : List ℕ) → file.since ≡ since_within event (host_state past).file.since → piece ≡ piece_within event
    → (t : ℕ) (image tape : List ℕ) → t ≤ length past.entries
    → may_leave (called event done past) t image tape ↔ (may_leave past t image tape ⊎ IsMoment file.since (host_state past).tape piece image tape)
moments-called event done past file piece same said t image tape le =
    rw (same, said) (leaves_grown_since (at_first past.first past.heard) past.entries (record { event = event; done = done }) t image tape (sound-first past.first) le)

-- time goes on over a recorded call
pub over_time-called : (event : Event) (done : Bool) (past : Past) (file : File) (piece : List ℕ) → file.since ≡ since_within event (host_state past).file.since → piece ≡ piece_within event
    → OverTime (λ past. length past.entries) may_leave (IsWithinCall (Some file) (Some (host_state past).tape) piece) past (called event done past)
over_time-called event done past file piece same said = record {
  later = omega (arith, length-append past.entries (record { event = event; done = done } ∷ []));
  keeps = λ t image tape le was. (moments-called event done past file piece same said t image tape le).1 (inl was);
  only = λ t image tape le now. (moments-called event done past file piece same said t image tape le).0 now;
}

-- a fault that is counted adds no moment
pub over_time-with_disk_faults : {Within : List ℕ → List ℕ → Type 0} {old new : Past} (faults : ℕ) → OverTime (λ past. length past.entries) may_leave Within old new
    → OverTime (λ past. length past.entries) may_leave Within old (with_disk_faults faults new)
over_time-with_disk_faults faults run = record { later = run.later; keeps = run.keeps; only = run.only }

-- nor does one of `say`
pub over_time-with_say_faults : {Within : List ℕ → List ℕ → Type 0} {old new : Past} (faults : ℕ) → OverTime (λ past. length past.entries) may_leave Within old new
    → OverTime (λ past. length past.entries) may_leave Within old (with_say_faults faults new)
over_time-with_say_faults faults run = record { later = run.later; keeps = run.keeps; only = run.only }

-- nor a file that is attached
pub over_time-with_file : {Within : List ℕ → List ℕ → Type 0} {old new : Past} → OverTime (λ past. length past.entries) may_leave Within old new
    → OverTime (λ past. length past.entries) may_leave Within old (with_file new)
over_time-with_file run = record { later = run.later; keeps = run.keeps; only = run.only }

-- each moment within a recorded call is one since it began
pub leaves_each-called : (event : Event) (done : Bool) (past : Past) (file : File) (piece : List ℕ) → file.since ≡ since_within event (host_state past).file.since → piece ≡ piece_within event
    → LeavesEachPart (Some file) (Some (host_state past).tape) piece (may_leave (called event done past) (length past.entries))
leaves_each-called event done past file piece same said image tape within =
    (moments-called event done past file piece same said (length past.entries) image tape (omega arith)).1 (inr within)

-- with a true one it is true
pub or-true : (b : Bool) → b || true ≡ true
or-true true = refl
or-true false = refl

-- with a false one it stays
pub or-false : (b : Bool) → b || false ≡ b
or-false true = refl
or-false false = refl

-- a call that keeps the bytes and the tape leaves what is held up to date
entry_step-quiet : (event : Event) (done : Bool) (state : State) (bytes : List ℕ) (is_there : Bool) (tape : List ℕ) → IsQuiet event
    → IsUpToDate bytes is_there tape state → IsUpToDate bytes is_there tape (entry_step (record { event = event; done = done }) state)
entry_step-quiet (Attach path make) done state bytes is_there tape quiet held = absurd quiet
entry_step-quiet Len true state bytes is_there tape quiet held = held
entry_step-quiet Len false state bytes is_there tape quiet held = held
entry_step-quiet (Read at) true state bytes is_there tape quiet held = held
entry_step-quiet (Read at) false state bytes is_there tape quiet held = held
entry_step-quiet (Write at piece) done state bytes is_there tape quiet held = absurd quiet
entry_step-quiet Sync true state bytes is_there tape quiet held = record { file = held.file; there = held.there; said = held.said }
entry_step-quiet Sync false state bytes is_there tape quiet held = held
entry_step-quiet (Say piece) done state bytes is_there tape quiet held = absurd quiet

-- the same behind the calls so far
pub held-quiet : (state : State) (entries : List Entry) (event : Event) (done : Bool) (bytes : List ℕ) (is_there : Bool) (tape : List ℕ) → IsQuiet event
    → IsUpToDate bytes is_there tape (replay state entries) → IsUpToDate bytes is_there tape (replay state (entries ++ record { event = event; done = done } ∷ []))
held-quiet state entries event done bytes is_there tape quiet held =
    rw (replay-grown state entries (record { event = event; done = done })) (entry_step-quiet event done (replay state entries) bytes is_there tape quiet held)

-- an attach that is done has the file there
pub held-attach : (state : State) (entries : List Entry) (path : List ℕ) (make done : Bool) (bytes : List ℕ) (is_there : Bool) (tape : List ℕ)
    → IsUpToDate bytes is_there tape (replay state entries) → IsUpToDate bytes (is_there || done) tape (replay state (entries ++ record { event = Attach path make; done = done } ∷ []))
held-attach state entries path make true bytes is_there tape held =
    rw (replay-grown state entries (record { event = Attach path make; done = true })) (record { file = held.file; there = or-true is_there; said = held.said })
held-attach state entries path make false bytes is_there tape held =
    rw (replay-grown state entries (record { event = Attach path make; done = false })) (record { file = held.file; there = or-false is_there ∙ held.there; said = held.said })

-- a write that is done has its bytes in the file
pub held-written : (state : State) (entries : List Entry) (at : ℕ) (piece bytes : List ℕ) (is_there : Bool) (tape : List ℕ)
    → IsUpToDate bytes is_there tape (replay state entries) → IsUpToDate (overwritten at piece bytes) true tape (replay state (entries ++ record { event = Write at piece; done = true } ∷ []))
held-written state entries at piece bytes is_there tape held =
    rw (replay-grown state entries (record { event = Write at piece; done = true })) (record { file = ap (overwritten at piece) held.file; there = refl; said = held.said })

-- a write that failed leaves the bytes
pub held-torn : (state : State) (entries : List Entry) (at : ℕ) (piece bytes : List ℕ) (is_there : Bool) (tape : List ℕ)
    → IsUpToDate bytes is_there tape (replay state entries) → IsUpToDate bytes true tape (replay state (entries ++ record { event = Write at piece; done = false } ∷ []))
held-torn state entries at piece bytes is_there tape held =
    rw (replay-grown state entries (record { event = Write at piece; done = false })) (record { file = held.file; there = refl; said = held.said })

-- a say that is done has its piece on the tape
pub held-said : (state : State) (entries : List Entry) (piece bytes : List ℕ) (is_there : Bool) (tape : List ℕ)
    → IsUpToDate bytes is_there tape (replay state entries) → IsUpToDate bytes is_there (tape ++ piece) (replay state (entries ++ record { event = Say piece; done = true } ∷ []))
held-said state entries piece bytes is_there tape held =
    rw (replay-grown state entries (record { event = Say piece; done = true })) (record { file = held.file; there = held.there; said = ap (λ said. said ++ piece) held.said })

-- a say that failed leaves the tape
pub held-unsaid : (state : State) (entries : List Entry) (piece bytes : List ℕ) (is_there : Bool) (tape : List ℕ)
    → IsUpToDate bytes is_there tape (replay state entries) → IsUpToDate bytes is_there tape (replay state (entries ++ record { event = Say piece; done = false } ∷ []))
held-unsaid state entries piece bytes is_there tape held =
    rw (replay-grown state entries (record { event = Say piece; done = false })) held
