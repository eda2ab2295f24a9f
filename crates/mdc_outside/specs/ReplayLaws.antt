-- Laws of what a host in memory tells.
use Rattle.std.proofs.Common.{◌≡◌, ◌⊎◌, ◌↔◌, ◌≤◌, ◌<◌, ◌+◌, ◌-◌, min, ℕ, zero, suc, Bool, true, false, List, [], ◌∷◌, ◌++◌, Option, Some, None, take, drop, length, get_or, get_or-take, get_or-drop, arith, refl, sym, ap, ◌∙◌, inl, inr, length-take, length-append, length-drop}
use Rattle.std.proofs.Math.Seq.{take-length, drop-length}
use Rattle.std.proofs.lemmas.List.{append-nil, get_or_append_left, get_or-append_right}
use Rattle.mdc_outside.specs.Disk.{Since, IsSound, IsImage, IsOutside, all_synced, file_at_first, torn, overwritten, settled}
use Rattle.mdc_outside.specs.Moments.{IsMoment}
use Rattle.mdc_words.specs.Time.{ReachesBack}
use Rattle.mdc_outside.specs.Replay.{Past, State, host_state, at_first, may_leave, replay, entry_step, after_done, after_failed, since_within, piece_within, ReplayLeaves}
use Rattle.mdc_outside.specs.declared.call.Event.{Event}
use Rattle.mdc_outside.specs.declared.call.Event.TheVariants.{Attach, Len, Read, Write, Sync, Say}
use Rattle.mdc_outside.specs.declared.call.Entry.{Entry}

-- what may be left before a write may be left within it
pub image-torn : (since : Since) (image : List ℕ) (at count : ℕ) → IsImage since image → IsImage (torn at count since) image
image-torn since image at count is = record {
  no_shorter = is.no_shorter;
  no_longer = omega (arith, is.no_longer);
  kept = λ i below outside. is.kept i below outside.1;
}

-- how long the bytes are after a write
length-overwritten : (at : ℕ) (piece bytes : List ℕ) → length (overwritten at piece bytes) ≡ min at (length bytes) + length piece + (length bytes - (at + length piece))
length-overwritten at piece bytes = simp (length-append, length-take, length-drop)

-- a byte before the piece stays
get_or-overwritten_before : (at : ℕ) (piece bytes : List ℕ) (i : ℕ) → i < length bytes → i < at → get_or (overwritten at piece bytes) i 0 ≡ get_or bytes i 0
get_or-overwritten_before at piece bytes i inside before =
    let in_front : i < length (take at bytes) = omega (arith, length-take at bytes) in
    let in_both : i < length (take at bytes ++ piece) = omega (arith, length-append (take at bytes) piece) in
    get_or_append_left (take at bytes ++ piece) (drop (at + length piece) bytes) 0 i in_both
    ∙ (get_or_append_left (take at bytes) piece 0 i in_front ∙ get_or-take at bytes i 0 before)

-- a byte behind the piece stays
get_or-overwritten_behind : (at : ℕ) (piece bytes : List ℕ) (i : ℕ) → i < length bytes → at + length piece ≤ i → get_or (overwritten at piece bytes) i 0 ≡ get_or bytes i 0
get_or-overwritten_behind at piece bytes i inside behind =
    let front : length (take at bytes ++ piece) ≡ at + length piece = omega (arith, length-append (take at bytes) piece, length-take at bytes) in
    let place : at + length piece + (i - (at + length piece)) ≡ i = omega arith in
    get_or-append_right (take at bytes ++ piece) (drop (at + length piece) bytes) (at + length piece) i 0 front behind
    ∙ (get_or-drop (at + length piece) bytes (i - (at + length piece)) 0 ∙ ap (λ j. get_or bytes j 0) place)

-- a byte that the piece doesn't cover stays
get_or-overwritten : (at : ℕ) (piece bytes : List ℕ) (i : ℕ) → i < length bytes → IsOutside i (record { at = at; count = length piece }) → get_or (overwritten at piece bytes) i 0 ≡ get_or bytes i 0
get_or-overwritten at piece bytes i inside (inl before) = get_or-overwritten_before at piece bytes i inside before
get_or-overwritten at piece bytes i inside (inr behind) = get_or-overwritten_behind at piece bytes i inside behind

-- what a write makes of an image may be left within it
pub image-overwritten : (since : Since) (image piece : List ℕ) (at : ℕ) → IsImage since image → IsImage (torn at (length piece) since) (overwritten at piece image)
image-overwritten since image piece at is = record {
  no_shorter = omega (arith, is.no_shorter, length-overwritten at piece image);
  no_longer = omega (arith, is.no_longer, length-overwritten at piece image);
  kept = λ i below outside.
      let inside : i < length image = omega (arith, is.no_shorter) in
      get_or-overwritten at piece image i inside outside.0 ∙ is.kept i below outside.1;
}

-- what is on the disk as a whole may be left
pub image-synced : (bytes : List ℕ) → IsImage (all_synced bytes) bytes
image-synced bytes = record { no_shorter = omega arith; no_longer = omega arith; kept = λ i below outside. refl }

-- what is left once all bytes are on the disk might have been left before
image-before_sync : (since : Since) (bytes image : List ℕ) → IsImage since bytes → IsImage (all_synced bytes) image → IsImage since image
image-before_sync since bytes image was is = record {
  no_shorter = omega (arith, was.no_shorter, is.no_shorter);
  no_longer = omega (arith, was.no_longer, is.no_longer);
  kept = λ i below outside.
      let inside : i < length bytes = omega (arith, was.no_shorter) in
      is.kept i inside tt ∙ was.kept i below outside;
}

-- a call that was done keeps a file sound
sound-done : (event : Event) (state : State) → IsSound state.file → IsSound (after_done event state).file
sound-done (Attach path make) state is = record { image = is.image; absent = λ no. cc }
sound-done Len state is = is
sound-done (Read at) state is = is
sound-done (Write at bytes) state is = record { image = image-overwritten state.file.since state.file.bytes bytes at is.image; absent = λ no. cc }
sound-done Sync state is = record { image = image-synced state.file.bytes; absent = λ no. ap settled (is.absent no) }
sound-done (Say piece) state is = is

-- a call that failed keeps a file sound
sound-failed : (event : Event) (state : State) → IsSound state.file → IsSound (after_failed event state).file
sound-failed (Attach path make) state is = is
sound-failed Len state is = is
sound-failed (Read at) state is = is
sound-failed (Write at bytes) state is = record { image = image-torn state.file.since state.file.bytes at (length bytes) is.image; absent = λ no. cc }
sound-failed Sync state is = is
sound-failed (Say piece) state is = is

-- a call keeps a file sound
pub sound-entry_step : (event : Event) (done : Bool) (state : State) → IsSound state.file → IsSound (entry_step (record { event = event; done = done }) state).file
sound-entry_step event true state is = sound-done event state is
sound-entry_step event false state is = sound-failed event state is

-- calls keep a file sound
pub sound-replay : (state : State) (entries : List Entry) → IsSound state.file → IsSound (replay state entries).file
sound-replay state [] is = is
sound-replay state (entry ∷ entries) is = sound-replay (entry_step entry state) entries (sound-entry_step entry.event entry.done state is)

-- the file that a disk has at first is sound
pub sound-first : (first : Option (List ℕ)) → IsSound (file_at_first first)
sound-first None = record { image = image-synced []; absent = λ no. refl }
sound-first (Some bytes) = record { image = image-synced bytes; absent = λ no. cc }

-- the file is one that a crash may leave as it reads
pub sound : (past : Past) → IsSound (host_state past).file
sound past = sound-replay (at_first past.first past.heard) past.entries (sound-first past.first)

-- since the last call there is what may be left now
pub only_now : (past : Past) (image tape : List ℕ) → may_leave past (length past.entries) image tape ↔ IsMoment (host_state past).file.since (host_state past).tape [] image tape
only_now past image tape = rw (take-length past.entries, drop-length past.entries) (λ may. may, λ may. may)

-- what may be left after some of the calls may be left since the first
earlier_than : (state : State) (entries : List Entry) (t : ℕ) (image tape : List ℕ) → ReplayLeaves (replay state (take t entries)) (drop t entries) image tape → ReplayLeaves state entries image tape
earlier_than state [] zero image tape may = may
earlier_than state [] (suc t) image tape may = may
earlier_than state (entry ∷ entries) zero image tape may = may
earlier_than state (entry ∷ entries) (suc t) image tape may = inr (earlier_than (entry_step entry state) entries t image tape may)

-- what may be left since a call may be left since an earlier one
earlier_since : (state : State) (entries : List Entry) (s t : ℕ) (image tape : List ℕ) → s ≤ t → ReplayLeaves (replay state (take t entries)) (drop t entries) image tape → ReplayLeaves (replay state (take s entries)) (drop s entries) image tape
earlier_since state [] zero t image tape le may = earlier_than state [] t image tape may
earlier_since state [] (suc s) zero image tape le may = may
earlier_since state [] (suc s) (suc t) image tape le may = may
earlier_since state (entry ∷ entries) zero t image tape le may = earlier_than state (entry ∷ entries) t image tape may
earlier_since state (entry ∷ entries) (suc s) zero image tape le may = absurd (omega arith)
earlier_since state (entry ∷ entries) (suc s) (suc t) image tape le may = earlier_since (entry_step entry state) entries s t image tape (omega arith) may

-- the moments since a time are among those since an earlier one
pub earlier : (past : Past) → ReachesBack (λ past. length past.entries) may_leave past
earlier past s t image tape le within may = earlier_since (at_first past.first past.heard) past.entries s t image tape le may

-- nothing is a first part of nothing
part-nil : (part unsaid : List ℕ) → [] ≡ part ++ unsaid → part ≡ []
part-nil [] unsaid e = refl
part-nil (x ∷ part) unsaid e = cc

-- what may be left before a call may be left within it
before_call : (event : Event) (state : State) (image tape : List ℕ) → IsMoment state.file.since state.tape [] image tape
    → IsMoment (since_within event state.file.since) state.tape (piece_within event) image tape
before_call (Attach path make) state image tape m = m
before_call Len state image tape m = m
before_call (Read at) state image tape m = m
before_call (Write at bytes) state image tape m = record { left = image-torn state.file.since image at (length bytes) m.left; said = m.said }
before_call Sync state image tape m = m
before_call (Say piece) state image tape m =
    record { left = m.left; said = ([], piece, refl, m.said.3 ∙ ap (λ part. state.tape ++ part) (part-nil m.said.0 m.said.1 m.said.2)) }

-- what may be left after a call that was done may be left within it
after_done_call : (event : Event) (state : State) (image tape : List ℕ) → IsImage state.file.since state.file.bytes
    → IsMoment (after_done event state).file.since (after_done event state).tape [] image tape
    → IsMoment (since_within event state.file.since) state.tape (piece_within event) image tape
after_done_call (Attach path make) state image tape was m = m
after_done_call Len state image tape was m = m
after_done_call (Read at) state image tape was m = m
after_done_call (Write at bytes) state image tape was m = m
after_done_call Sync state image tape was m = record { left = image-before_sync state.file.since state.file.bytes image was m.left; said = m.said }
after_done_call (Say piece) state image tape was m =
    let none = part-nil m.said.0 m.said.1 m.said.2 in
    record { left = m.left; said = (piece, [], sym (append-nil piece), m.said.3 ∙ (ap (λ part. state.tape ++ piece ++ part) none ∙ append-nil (state.tape ++ piece))) }

-- what may be left after a call that failed may be left within it
after_failed_call : (event : Event) (state : State) (image tape : List ℕ)
    → IsMoment (after_failed event state).file.since (after_failed event state).tape [] image tape
    → IsMoment (since_within event state.file.since) state.tape (piece_within event) image tape
after_failed_call (Attach path make) state image tape m = m
after_failed_call Len state image tape m = m
after_failed_call (Read at) state image tape m = m
after_failed_call (Write at bytes) state image tape m = m
after_failed_call Sync state image tape m = m
after_failed_call (Say piece) state image tape m = before_call (Say piece) state image tape m

-- what may be left after a call may be left within it
after_call : (event : Event) (done : Bool) (state : State) (image tape : List ℕ) → IsImage state.file.since state.file.bytes
    → IsMoment (entry_step (record { event = event; done = done }) state).file.since (entry_step (record { event = event; done = done }) state).tape [] image tape
    → IsMoment (since_within event state.file.since) state.tape (piece_within event) image tape
after_call event true state image tape was m = after_done_call event state image tape was m
after_call event false state image tape was m = after_failed_call event state image tape m

-- one more call adds what may be left within it, and nothing else
leaves_grown : (state : State) (entries : List Entry) (entry : Entry) (image tape : List ℕ) → IsSound state.file
    → ReplayLeaves state (entries ++ entry ∷ []) image tape
    ↔ (ReplayLeaves state entries image tape ⊎ IsMoment (since_within entry.event (replay state entries).file.since) (replay state entries).tape (piece_within entry.event) image tape)
leaves_grown state [] entry image tape is = (
  elim [ inl within ↦ inr within | inr now ↦ inr (after_call entry.event entry.done state image tape is.image now) ],
  elim [ inl now ↦ inl (before_call entry.event state image tape now) | inr within ↦ inl within ],
)
leaves_grown state (first ∷ entries) entry image tape is =
    let rest = leaves_grown (entry_step first state) entries entry image tape (sound-entry_step first.event first.done state is) in (
      elim [ inl within ↦ inl (inl within) | inr more ↦ elim (rest.0 more) [ inl old ↦ inl (inr old) | inr new ↦ inr new ] ],
      elim [ inl old ↦ elim old [ inl within ↦ inl within | inr more ↦ inr (rest.1 (inl more)) ] | inr new ↦ inr (rest.1 (inr new)) ],
    )

-- the same since each time
pub leaves_grown_since : (state : State) (entries : List Entry) (entry : Entry) (t : ℕ) (image tape : List ℕ) → IsSound state.file → t ≤ length entries
    → ReplayLeaves (replay state (take t (entries ++ entry ∷ []))) (drop t (entries ++ entry ∷ [])) image tape
    ↔ (ReplayLeaves (replay state (take t entries)) (drop t entries) image tape ⊎ IsMoment (since_within entry.event (replay state entries).file.since) (replay state entries).tape (piece_within entry.event) image tape)
leaves_grown_since state [] entry zero image tape is le = leaves_grown state [] entry image tape is
leaves_grown_since state [] entry (suc t) image tape is le = absurd (omega arith)
leaves_grown_since state (first ∷ entries) entry zero image tape is le = leaves_grown state (first ∷ entries) entry image tape is
leaves_grown_since state (first ∷ entries) entry (suc t) image tape is le =
    leaves_grown_since (entry_step first state) entries entry t image tape (sound-entry_step first.event first.done state is) (omega arith)
