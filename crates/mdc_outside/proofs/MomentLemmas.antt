-- What a call of a disk or a host leaves, where the file and the tape are told.
use Rattle.std.proofs.Common.{◌≡◌, ◌⊎◌, ◌↔◌, ◌≤◌, ℕ, List, [], ◌∷◌, ◌++◌, Option, Some, None, IfSome, subst, arith, refl, sym, ◌∙◌, ap, inl, inr, append-nil}
use Rattle.mdc_words.specs.Time.{OverTime, ReachesBack}
use Rattle.mdc_outside.specs.Disk.{File, Since, IsSound}
use Rattle.mdc_outside.specs.Moments.{IsMoment, IsWithinCall, LeavesEachPart, WhereTold}

-- a fact of the file and the tape, at what they are told to be
pub where_told : (file : Option File) (tape : Option (List ℕ)) (before : File) (said : List ℕ) (fact : File → List ℕ → Type 0)
    → file ≡ Some before → tape ≡ Some said → WhereTold file tape fact → fact before said
where_told None tape before said fact is heard holds = absurd (cc)
where_told (Some f) None before said fact is heard holds = absurd (cc)
where_told (Some f) (Some s) before said fact is heard holds =
    let same : f ≡ before = cc in
    let same_said : s ≡ said = cc in
    subst (λ (g : File). fact g said) same (subst (λ xs. fact f xs) same_said holds)

-- what a crash within a call leaves, at what the file and the tape are told to be
pub within_call-told : {file : Option File} {tape : Option (List ℕ)} {piece : List ℕ} (before : File) (said image taken : List ℕ)
    → file ≡ Some before → tape ≡ Some said → IsWithinCall file tape piece image taken → IsMoment before.since said piece image taken
within_call-told {file} {tape} {piece} before said image taken is heard within =
    where_told file tape before said (λ file said. IsMoment file.since said piece image taken) is heard within

-- nothing said is a first part of any piece
pub moment-nothing : {since : Since} {said image taken : List ℕ} (piece : List ℕ) → IsMoment since said [] image taken → IsMoment since said piece image taken
moment-nothing {since} {said} {image} {taken} piece moment = record {
  left = moment.left;
  said = ([], piece, refl, moment.said.3 ∙ ap (λ part. said ++ part) (nothing-part moment.said.0 moment.said.1 moment.said.2));
} where
  nothing-part : (part unsaid : List ℕ) → [] ≡ part ++ unsaid → part ≡ []
  nothing-part [] unsaid e = refl
  nothing-part (x ∷ part) unsaid e = cc

module _ {D : Type 0} {clock : D → ℕ} {moment : D → ℕ → List ℕ → List ℕ → Type 0} where
  -- a call that tears nothing and says nothing leaves each moment of the file as it was
  pub leaves_each-quiet : {Within : List ℕ → List ℕ → Type 0} (file : Option File) (tape : Option (List ℕ)) {old new : D} → OverTime clock moment Within old new
      → WhereTold file tape (λ file said. (image taken : List ℕ) → moment old (clock old) image taken ↔ IsMoment file.since said [] image taken)
      → LeavesEachPart file tape [] (moment new (clock old))
  leaves_each-quiet None tape run now = tt
  leaves_each-quiet (Some file) None run now = tt
  leaves_each-quiet (Some file) (Some said) {old} run now = λ image taken within. run.keeps (clock old) image taken (omega arith) ((now image taken).1 within)

  -- a call that says nothing leaves each moment of the file as it is after the call
  pub leaves_each-after : {Within : List ℕ → List ℕ → Type 0} (file : Option File) (tape : Option (List ℕ)) {old new : D} → OverTime clock moment Within old new → ReachesBack clock moment new
      → WhereTold file tape (λ file said. (image taken : List ℕ) → moment new (clock new) image taken ↔ IsMoment file.since said [] image taken)
      → LeavesEachPart file tape [] (moment new (clock old))
  leaves_each-after None tape run back now = tt
  leaves_each-after (Some file) None run back now = tt
  leaves_each-after (Some file) (Some said) {old} {new} run back now = λ image taken within. back (clock old) (clock new) image taken run.later (omega arith) ((now image taken).1 within)

  -- since an earlier time a crash leaves what it could leave before the call, and each moment of the call, and nothing else
  pub moments-over_time : (file : Option File) (tape : Option (List ℕ)) (piece : List ℕ) {old new : D} → OverTime clock moment (IsWithinCall file tape piece) old new → ReachesBack clock moment new
      → LeavesEachPart file tape piece (moment new (clock old))
      → WhereTold file tape (λ file said. (t : ℕ) (image taken : List ℕ) → t ≤ clock old
      → moment new t image taken ↔ (moment old t image taken ⊎ IsMoment file.since said piece image taken))
  moments-over_time None tape piece run back each = tt
  moments-over_time (Some file) None piece run back each = tt
  moments-over_time (Some file) (Some said) piece {old} {new} run back each = λ t image taken early. (
    λ now. run.only t image taken early now,
    elim [ inl was ↦ run.keeps t image taken early was | inr within ↦ back t (clock old) image taken early run.later (each image taken within) ],
  )

-- a file that is told is one that a crash leaves, with the tape as it is
pub left-as_read : (file : Option File) (tape : Option (List ℕ)) (left : List ℕ → List ℕ → Type 0) → IfSome file IsSound
    → WhereTold file tape (λ file said. (image taken : List ℕ) → left image taken ↔ IsMoment file.since said [] image taken)
    → WhereTold file tape (λ file said. left file.bytes said)
left-as_read None tape left sound now = tt
left-as_read (Some file) None left sound now = tt
left-as_read (Some file) (Some said) left sound now = (now file.bytes said).1 (record { left = sound.image; said = ([], [], refl, sym (append-nil said)) })
