-- What an answered call of a host in memory means for what the host tells.
use Rattle.std.proofs.Common.{◌≡◌, ◌⊎◌, ℕ, Bool, true, false, List, [], ◌∷◌, ◌++◌, Some, Result, Ok, Err, OnOk, OnErr, IsTrue, length, refl, sym, ap, ◌∙◌, inl, inr}
use Rattle.std.proofs.lemmas.List.{append-nil}
use Rattle.mdc_outside.specs.Disk.{Since, IsTorn, IsUnsettled, Becomes, written, settled, opened}
use Rattle.mdc_outside.specs.Outside.{Takes, TakesPart}
use Rattle.mdc_outside.specs.Moments.{IsWithinCall, LeavesEachPart}
use Rattle.mdc_words.specs.Time.{OverTime}
use Rattle.mdc_words.proofs.TimeLemmas.{over_time_none}
use Rattle.mdc_outside.specs.Replay.{Past, State, host_state, beside_of, may_leave, entry_step, after_done, after_failed, since_within, piece_within, called, attaches_in, with_attach, IsAnswered, IsSaid}
use Rattle.mdc_outside.specs.ReplayLaws.{sound, image-torn}
use Rattle.mdc_outside.specs.declared.call.Event.{Event}
use Rattle.mdc_outside.specs.declared.call.Event.TheVariants.{Attach, Len, Read, Write, Sync, Say}
use Rattle.mdc_outside.specs.declared.source.Failed.{Failed}
use Rattle.mdc_outside.proofs.Replaying.{state-called, attaches-called, over_time-called, over_time-with_disk_faults, over_time-with_say_faults, leaves_each-called}

-- the call tears nothing and says nothing
abbrev pub IsMild : Event → Type 0
IsMild (Attach path make) = Unit {0}
IsMild Len = Unit {0}
IsMild (Read at) = Unit {0}
IsMild (Write at bytes) = ⊥
IsMild Sync = Unit {0}
IsMild (Say piece) = ⊥

-- the call says nothing
abbrev pub IsSilent : Event → Type 0
IsSilent (Attach path make) = Unit {0}
IsSilent Len = Unit {0}
IsSilent (Read at) = Unit {0}
IsSilent (Write at bytes) = Unit {0}
IsSilent Sync = Unit {0}
IsSilent (Say piece) = ⊥

-- the call only reads
abbrev pub IsReading : Event → Type 0
IsReading (Attach path make) = ⊥
IsReading Len = Unit {0}
IsReading (Read at) = Unit {0}
IsReading (Write at bytes) = ⊥
IsReading Sync = ⊥
IsReading (Say piece) = ⊥

-- a fact that holds at all holds on an error
pub on_err : {T E : Type 0} {P : Type 0} (result : Result T E) → P → OnErr result P
on_err (Ok x) fact = tt
on_err (Err e) fact = fact

-- the file after a done call
pub state-done : (event : Event) (old new : Past) → new ≡ called event true old → host_state new ≡ after_done event (host_state old)
state-done event old new is = ap host_state is ∙ state-called event true old

-- a failed call that tears nothing changes nothing
mild-failed : (event : Event) (state : State) → IsMild event → after_failed event state ≡ state
mild-failed (Attach path make) state mild = refl
mild-failed Len state mild = refl
mild-failed (Read at) state mild = refl
mild-failed (Write at bytes) state mild = absurd mild
mild-failed Sync state mild = refl
mild-failed (Say piece) state mild = absurd mild

-- the same of the host
pub same-failed : (event : Event) (old new : Past) (e : Failed) → IsMild event → IsAnswered event (Err e) old new → host_state new ≡ host_state old
same-failed event old new e mild (inl is) = ap host_state is ∙ (state-called event false old ∙ mild-failed event (host_state old) mild)
same-failed event old new e mild (inr is) = ap host_state is

-- a call that only reads changes nothing
pub same-read : (event : Event) (result : Result (Unit {0}) Failed) (old new : Past) → IsReading event → IsAnswered event result old new → host_state new ≡ host_state old
same-read (Attach path make) result old new reading is = absurd reading
same-read Len (Ok done) old new reading is = state-done Len old new is
same-read Len (Err e) old new reading is = same-failed Len old new e tt is
same-read (Read at) (Ok done) old new reading is = state-done (Read at) old new is
same-read (Read at) (Err e) old new reading is = same-failed (Read at) old new e tt is
same-read (Write at bytes) result old new reading is = absurd reading
same-read Sync result old new reading is = absurd reading
same-read (Say piece) result old new reading is = absurd reading

-- such a call behind the others adds none
unadded : (event : Event) (done : Bool) (old : Past) → with_attach event [] ≡ [] → attaches_in (called event done old).entries ≡ attaches_in old.entries
unadded event done old none =
    attaches-called old.entries (record { event = event; done = done }) ∙ (ap (λ more. attaches_in old.entries ++ more) none ∙ append-nil (attaches_in old.entries))

-- a call that isn't an attach adds none
pub same-attaches : (event : Event) (result : Result (Unit {0}) Failed) (old new : Past) → with_attach event [] ≡ [] → IsAnswered event result old new → attaches_in new.entries ≡ attaches_in old.entries
same-attaches event (Ok done) old new none is = ap (λ past. attaches_in past.entries) is ∙ unadded event true old none
same-attaches event (Err e) old new none (inl is) = ap (λ past. attaches_in past.entries) is ∙ unadded event false old none
same-attaches event (Err e) old new none (inr is) = ap (λ past. attaches_in past.entries) is

-- a silent call keeps the tape
silent-entry_step : (event : Event) (done : Bool) (state : State) → IsSilent event → (entry_step (record { event = event; done = done }) state).tape ≡ state.tape
silent-entry_step (Attach path make) true state silent = refl
silent-entry_step (Attach path make) false state silent = refl
silent-entry_step Len true state silent = refl
silent-entry_step Len false state silent = refl
silent-entry_step (Read at) true state silent = refl
silent-entry_step (Read at) false state silent = refl
silent-entry_step (Write at bytes) true state silent = refl
silent-entry_step (Write at bytes) false state silent = refl
silent-entry_step Sync true state silent = refl
silent-entry_step Sync false state silent = refl
silent-entry_step (Say piece) done state silent = absurd silent

-- what lies beside the disk after a silent call
silent-called : (event : Event) (done : Bool) (old : Past) → IsSilent event → beside_of (called event done old) ≡ beside_of old
silent-called event done old silent =
    let tape : (host_state (called event done old)).tape ≡ (host_state old).tape =
    ap (λ state. state.tape) (state-called event done old) ∙ silent-entry_step event done (host_state old) silent in
    ap (λ tape. record { tape = Some tape; say_faults = old.say_faults }) tape

-- a silent call keeps what lies beside the disk
pub same-beside : (event : Event) (result : Result (Unit {0}) Failed) (old new : Past) → IsSilent event → IsAnswered event result old new → beside_of new ≡ beside_of old
same-beside event (Ok done) old new silent is = ap beside_of is ∙ silent-called event true old silent
same-beside event (Err e) old new silent (inl is) = ap beside_of is ∙ silent-called event false old silent
same-beside event (Err e) old new silent (inr is) = ap beside_of is

-- a call that tears nothing has the file as it was
mild-since : (event : Event) (since : Since) → IsMild event → since ≡ since_within event since
mild-since (Attach path make) since mild = refl
mild-since Len since mild = refl
mild-since (Read at) since mild = refl
mild-since (Write at bytes) since mild = absurd mild
mild-since Sync since mild = refl
mild-since (Say piece) since mild = absurd mild

-- and says nothing
mild-piece : (event : Event) → IsMild event → [] ≡ piece_within event
mild-piece (Attach path make) mild = refl
mild-piece Len mild = refl
mild-piece (Read at) mild = refl
mild-piece (Write at bytes) mild = absurd mild
mild-piece Sync mild = refl
mild-piece (Say piece) mild = absurd mild

-- over it there are the moments of the file as it was
pub mild-time : (event : Event) (result : Result (Unit {0}) Failed) (old new : Past) → IsMild event → IsAnswered event result old new
    → OverTime (λ past. length past.entries) may_leave (IsWithinCall (Some (host_state old).file) (Some (host_state old).tape) []) old new
mild-time event (Ok done) old new mild is =
    rw is (over_time-called event true old (host_state old).file [] (mild-since event (host_state old).file.since mild) (mild-piece event mild))
mild-time event (Err e) old new mild (inl is) =
    rw is (over_time-with_disk_faults new.disk_faults (over_time-called event false old (host_state old).file [] (mild-since event (host_state old).file.since mild) (mild-piece event mild)))
mild-time event (Err e) old new mild (inr is) = rw is (over_time-with_disk_faults new.disk_faults over_time_none)

-- after a sync that succeeded
pub sync-settled : (result : Result (Unit {0}) Failed) (old new : Past) → IsAnswered Sync result old new → OnOk result (Some (host_state new).file ≡ Some (settled (host_state old).file))
sync-settled (Ok done) old new is = ap (λ state. Some state.file) (state-done Sync old new is)
sync-settled (Err e) old new is = tt

-- after a sync that failed
pub sync-unsettled : (result : Result (Unit {0}) Failed) (old new : Past) → IsAnswered Sync result old new → OnErr result (Becomes (Some (host_state old).file) IsUnsettled (Some (host_state new).file))
sync-unsettled (Ok done) old new is = tt
sync-unsettled (Err e) old new is =
    ((host_state old).file, ap (λ state. Some state.file) (same-failed Sync old new e tt is), ((host_state old).file.bytes, (sound old).image, refl))

-- after a write that succeeded
pub write-written : (at : ℕ) (piece : List ℕ) (result : Result (Unit {0}) Failed) (old new : Past) → IsAnswered (Write at piece) result old new
    → OnOk result (Some (host_state new).file ≡ Some (written at piece (host_state old).file))
write-written at piece (Ok done) old new is = ap (λ state. Some state.file) (state-done (Write at piece) old new is)
write-written at piece (Err e) old new is = tt

-- after a write that failed
pub write-torn : (at : ℕ) (piece : List ℕ) (result : Result (Unit {0}) Failed) (old new : Past) → IsAnswered (Write at piece) result old new
    → OnErr result (Becomes (Some (host_state old).file) (λ old new. IsTorn at (length piece) old new ⊎ (new ≡ old)) (Some (host_state new).file))
write-torn at piece (Ok done) old new is = tt
write-torn at piece (Err e) old new (inl is) = (
  (after_failed (Write at piece) (host_state old)).file,
  ap (λ state. Some state.file) (ap host_state is ∙ state-called (Write at piece) false old),
  inl ((host_state old).file.bytes, image-torn (host_state old).file.since (host_state old).file.bytes at (length piece) (sound old).image, refl),
)
write-torn at piece (Err e) old new (inr is) = ((host_state old).file, ap (λ past. Some (host_state past).file) is, inr refl)

-- over a write there are the moments of the file as it is after it
pub write-time : (at : ℕ) (piece : List ℕ) (result : Result (Unit {0}) Failed) (old new : Past) → IsAnswered (Write at piece) result old new
    → OverTime (λ past. length past.entries) may_leave (IsWithinCall (Some (host_state new).file) (Some (host_state old).tape) []) old new
write-time at piece (Ok done) old new is =
    rw is (over_time-called (Write at piece) true old (host_state (called (Write at piece) true old)).file [] (ap (λ state. state.file.since) (state-called (Write at piece) true old)) refl)
write-time at piece (Err e) old new (inl is) =
    rw is (over_time-with_disk_faults new.disk_faults
    (over_time-called (Write at piece) false old (host_state (called (Write at piece) false old)).file [] (ap (λ state. state.file.since) (state-called (Write at piece) false old)) refl))
write-time at piece (Err e) old new (inr is) = rw is (over_time-with_disk_faults new.disk_faults over_time_none)

-- the attaches after an attach that was recorded
attach-called : (path : List ℕ) (make done : Bool) (old : Past) → attaches_in (called (Attach path make) done old).entries ≡ attaches_in old.entries ++ (path, make) ∷ []
attach-called path make done old = attaches-called old.entries (record { event = Attach path make; done = done })

-- the attaches after an attach that was done
pub attach-listed : (path : List ℕ) (make : Bool) (old new : Past) → new ≡ called (Attach path make) true old → attaches_in new.entries ≡ attaches_in old.entries ++ (path, make) ∷ []
attach-listed path make old new is = ap (λ past. attaches_in past.entries) is ∙ attach-called path make true old

-- the attaches after an attach that failed
pub attach-listed_failed : (path : List ℕ) (make : Bool) (old new : Past) (e : Failed) → IsAnswered (Attach path make) (Err e) old new
    → (Some (attaches_in new.entries) ≡ Some (attaches_in old.entries ++ (path, make) ∷ [])) ⊎ (Some (attaches_in new.entries) ≡ Some (attaches_in old.entries))
attach-listed_failed path make old new e (inl is) = inl (ap Some (ap (λ past. attaches_in past.entries) is ∙ attach-called path make false old))
attach-listed_failed path make old new e (inr is) = inr (ap (λ past. Some (attaches_in past.entries)) is)

-- the tape after a say
pub say-takes : (piece : List ℕ) (result : Result (Unit {0}) Failed) (old new : Past) → IsSaid piece result old new → OnOk result (Takes (Some (host_state old).tape) piece (Some (host_state new).tape))
say-takes piece (Ok done) old new is = ap (λ state. Some state.tape) (state-done (Say piece) old new is)
say-takes piece (Err e) old new is = tt

-- the tape after a say that failed
pub say-takes_part : (piece : List ℕ) (result : Result (Unit {0}) Failed) (old new : Past) → IsSaid piece result old new → OnErr result (TakesPart (Some (host_state old).tape) piece (Some (host_state new).tape))
say-takes_part piece (Ok done) old new is = tt
say-takes_part piece (Err e) old new (inl is) =
    ([], piece, refl, ap (λ state. Some state.tape) (ap host_state is ∙ state-called (Say piece) false old) ∙ ap Some (sym (append-nil (host_state old).tape)))
say-takes_part piece (Err e) old new (inr is) = ([], piece, refl, ap (λ past. Some (host_state past).tape) is ∙ ap Some (sym (append-nil (host_state old).tape)))

-- a say keeps the file
pub say-file : (piece : List ℕ) (result : Result (Unit {0}) Failed) (old new : Past) → IsSaid piece result old new → (host_state new).file ≡ (host_state old).file
say-file piece (Ok done) old new is = ap (λ state. state.file) (state-done (Say piece) old new is)
say-file piece (Err e) old new (inl is) = ap (λ state. state.file) (ap host_state is ∙ state-called (Say piece) false old)
say-file piece (Err e) old new (inr is) = ap (λ past. (host_state past).file) is

-- a say adds no attach
pub say-attaches : (piece : List ℕ) (result : Result (Unit {0}) Failed) (old new : Past) → IsSaid piece result old new → attaches_in new.entries ≡ attaches_in old.entries
say-attaches piece (Ok done) old new is = ap (λ past. attaches_in past.entries) is ∙ unadded (Say piece) true old refl
say-attaches piece (Err e) old new (inl is) = ap (λ past. attaches_in past.entries) is ∙ unadded (Say piece) false old refl
say-attaches piece (Err e) old new (inr is) = ap (λ past. attaches_in past.entries) is

-- over a say there are at most the moments of each first part of its piece
pub say-time : (piece : List ℕ) (result : Result (Unit {0}) Failed) (old new : Past) → IsSaid piece result old new
    → OverTime (λ past. length past.entries) may_leave (IsWithinCall (Some (host_state old).file) (Some (host_state old).tape) piece) old new
say-time piece (Ok done) old new is = rw is (over_time-called (Say piece) true old (host_state old).file piece refl refl)
say-time piece (Err e) old new (inl is) =
    rw is (over_time-with_say_faults new.say_faults (over_time-called (Say piece) false old (host_state old).file piece refl refl))
say-time piece (Err e) old new (inr is) = rw is (over_time-with_say_faults new.say_faults over_time_none)

-- and each of them is there
pub say-parts : (piece : List ℕ) (result : Result (Unit {0}) Failed) (old new : Past) → IsSaid piece result old new
    → OnOk result (LeavesEachPart (Some (host_state old).file) (Some (host_state old).tape) piece (may_leave new (length old.entries)))
say-parts piece (Ok done) old new is = rw is (leaves_each-called (Say piece) true old (host_state old).file piece refl refl)
say-parts piece (Err e) old new is = tt

-- after a fault too, or there are none
pub say-parts_failed : (piece : List ℕ) (result : Result (Unit {0}) Failed) (old new : Past) → IsSaid piece result old new
    → OnErr result (LeavesEachPart (Some (host_state old).file) (Some (host_state old).tape) piece (may_leave new (length old.entries))
    ⊎ OverTime (λ past. length past.entries) may_leave (IsWithinCall (Some (host_state old).file) (Some (host_state old).tape) []) old new)
say-parts_failed piece (Ok done) old new is = tt
say-parts_failed piece (Err e) old new (inl is) = inl (rw is (leaves_each-called (Say piece) false old (host_state old).file piece refl refl))
say-parts_failed piece (Err e) old new (inr is) = inr (rw is (over_time-with_say_faults new.say_faults over_time_none))

-- the file after an attach that failed
pub attach-file_failed : (path : List ℕ) (make : Bool) (old new : Past) (e : Failed) → IsAnswered (Attach path make) (Err e) old new
    → Becomes (Some (host_state old).file) (λ old new. (new ≡ old) ⊎ (IsTrue make × (new ≡ opened old))) (Some (host_state new).file)
attach-file_failed path make old new e is = ((host_state old).file, ap (λ state. Some state.file) (same-failed (Attach path make) old new e tt is), inl refl)
