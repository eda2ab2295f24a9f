-- Runs of calls by the kind of image that a crash within them leaves.
use Rattle.std.proofs.Common.{◌≡◌, ℕ, Bool, List, [], ◌∷◌, ◌++◌, Option, Some, None, IfSome, inl, inr, subst, arith, refl, sym, ap, ◌∙◌, append-nil}
use Rattle.mdc_words.specs.Time.{OverTime}
use Rattle.mdc_words.proofs.TimeLemmas.{over_time_none, over_time_then, over_time_wider}
use Rattle.mdc_outside.specs.Disk.{File, Since, IsImage, IsSound}
use Rattle.mdc_outside.specs.Moments.{Beside}
use Rattle.page_file.specs.Runs.{Runs, IsWithin}
use Rattle.page_file.specs.Leaving.{Leaves}

-- where nothing is said, the tape is as it was
pub nothing_said : (part unsaid said tape : List ℕ) → [] ≡ part ++ unsaid → tape ≡ said ++ part → tape ≡ said
nothing_said [] unsaid said tape is now = now ∙ append-nil said
nothing_said (x ∷ part) unsaid said tape is now = cc

-- two files that an option has are one
pub one_file : {told : Option File} {first second : File} → told ≡ Some first → told ≡ Some second → first ≡ second
one_file {told} {first} {second} a b = let both : Some first ≡ Some second = sym a ∙ b in cc

-- a told file is one of its own images
pub sound_image : (told : Option File) (file : File) → IfSome told IsSound → told ≡ Some file → IsImage file.since file.bytes
sound_image None file sound is = absurd (cc)
sound_image (Some told) file sound is = let same : told ≡ file = cc in subst (λ (f : File). IsImage f.since f.bytes) same sound.image

-- what a run leaves by two clauses on time, each of which says what image it is
over_time_both : {S A B : Type 0} {clock : S → ℕ} {left : S → ℕ → A → B → Type 0} {One Other : A → Type 0} {Said : B → Type 0} {old new : S}
    → OverTime clock left (λ image heard. One image × Said heard) old new → OverTime clock left (λ image heard. Other image × Said heard) old new
    → OverTime clock left (λ image heard. (One image × Other image) × Said heard) old new
over_time_both one other = record {
  later = one.later;
  keeps = one.keeps;
  only = λ t image heard early now. elim (one.only t image heard early now) [
    | inl past ↦ inl past
    | inr first ↦ elim (other.only t image heard early now) [
      | inl past ↦ inl past
      | inr second ↦ inr ((first.0, second.0), first.1)
    ]
  ];
}

module _ {D : Type 0} {file : D → Option File} {aside : D → Beside} {attaches : D → Option (List (List ℕ × Bool))} {is_attached : D → Bool} {clock : D → ℕ} {moment : D → ℕ → List ℕ → List ℕ → Type 0} where
  -- a run whose images are all of a kind
  pub runs_leave : {allowed : Since → Since} {Kind : File → List ℕ → Type 0} {old new : D}
      → Runs file aside attaches is_attached clock moment IsWithin allowed old new
      → ((after : File) → file new ≡ Some after → IsImage after.since after.bytes)
      → ((before : File) (image : List ℕ) → file old ≡ Some before → IsImage (allowed before.since) image → Kind before image)
      → Leaves file aside attaches is_attached clock moment Kind old new
  runs_leave {allowed} {Kind} {old} {new} run as_read kind = record {
    untold = run.untold;
    told = λ before is.
        let after = run.told before is in
        (after.0, after.1, kind before after.0.bytes is (after.2 after.0.bytes (as_read after.0 after.1)), λ image left. kind before image is (after.2 image left));
    crash = λ before said is tape. over_time_wider (run.crash before said is tape) (λ image heard moment.
        (kind before image is moment.left, nothing_said moment.said.0 moment.said.1 said heard moment.said.2 moment.said.3));
    later = run.later;
    attached = run.attached;
    listed = run.listed;
    beside = run.beside;
  }

  -- a run and then another
  pub leaves_then : {First Second Both : File → List ℕ → Type 0} {old middle new : D}
      → Leaves file aside attaches is_attached clock moment First old middle
      → Leaves file aside attaches is_attached clock moment Second middle new
      → ((before : File) (image : List ℕ) → file old ≡ Some before → First before image → Both before image)
      → ((before half : File) (image : List ℕ) → file old ≡ Some before → file middle ≡ Some half → First before half.bytes → Second half image → Both before image)
      → Leaves file aside attaches is_attached clock moment Both old new
  leaves_then {First} {Second} {Both} {old} {middle} {new} first second in_first in_second = record {
    untold = λ none. second.untold (first.untold none);
    told = λ before is.
        let half = first.told before is in
        let after = second.told half.0 half.1 in
        (after.0, after.1, in_second before half.0 after.0.bytes is half.1 half.2 after.2, λ image left. in_second before half.0 image is half.1 half.2 (after.3 image left));
    crash = λ before said is tape.
        let half = first.told before is in
        over_time_then (over_time_wider (first.crash before said is tape) (λ image heard left. (in_first before image is left.0, left.1)))
        (over_time_wider (second.crash half.0 said half.1 (ap (λ b. b.tape) first.beside ∙ tape)) (λ image heard left. (in_second before half.0 image is half.1 half.2 left.0, left.1)));
    later = omega (arith, first.later, second.later);
    attached = second.attached ∙ first.attached;
    listed = second.listed ∙ first.listed;
    beside = second.beside ∙ first.beside;
  }

  -- a wider kind
  pub leaves_as : {Kind Wider : File → List ℕ → Type 0} {old new : D}
      → Leaves file aside attaches is_attached clock moment Kind old new
      → ((before : File) (image : List ℕ) → file old ≡ Some before → Kind before image → Wider before image)
      → Leaves file aside attaches is_attached clock moment Wider old new
  leaves_as {Kind} {Wider} {old} {new} leaves wider = record {
    untold = leaves.untold;
    told = λ before is. let after = leaves.told before is in (after.0, after.1, wider before after.0.bytes is after.2, λ image left. wider before image is (after.3 image left));
    crash = λ before said is tape. over_time_wider (leaves.crash before said is tape) (λ image heard left. (wider before image is left.0, left.1));
    later = leaves.later;
    attached = leaves.attached;
    listed = leaves.listed;
    beside = leaves.beside;
  }

  -- two kinds of one run
  pub leaves_both : {One Other : File → List ℕ → Type 0} {old new : D}
      → Leaves file aside attaches is_attached clock moment One old new
      → Leaves file aside attaches is_attached clock moment Other old new
      → Leaves file aside attaches is_attached clock moment (λ before image. One before image × Other before image) old new
  leaves_both {One} {Other} {old} {new} one other = record {
    untold = one.untold;
    told = λ before is.
        let after = one.told before is in
        let again = other.told before is in
        let same : again.0 ≡ after.0 = one_file again.1 after.1 in (
          after.0,
          after.1,
          (after.2, subst (λ (f : File). Other before f.bytes) same again.2),
          λ image left. (after.3 image left, again.3 image (subst (λ (f : File). IsImage f.since image) (sym same) left)),
        );
    crash = λ before said is tape. over_time_both (one.crash before said is tape) (other.crash before said is tape);
    later = one.later;
    attached = one.attached;
    listed = one.listed;
    beside = one.beside;
  }

  -- Where nothing is called, a crash leaves an image of the file.
  pub leaves_itself : {Kind : File → List ℕ → Type 0} {disk : D}
      → ((before : File) → file disk ≡ Some before → IsImage before.since before.bytes)
      → ((before : File) (image : List ℕ) → file disk ≡ Some before → IsImage before.since image → Kind before image)
      → Leaves file aside attaches is_attached clock moment Kind disk disk
  leaves_itself {Kind} {disk} as_read kind = record {
    untold = λ none. none;
    told = λ before is. (before, is, kind before before.bytes is (as_read before is), λ image left. kind before image is left);
    crash = λ before said is tape. over_time_none;
    later = omega arith;
    attached = refl;
    listed = refl;
    beside = refl;
  }

  -- a file that is told was told before
  pub told_before : {Kind : File → List ℕ → Type 0} {old new : D} → Leaves file aside attaches is_attached clock moment Kind old new
      → (after : File) → file new ≡ Some after → (before : File) × (file old ≡ Some before)
  told_before {Kind} {old} {new} leaves after is = go (file old) refl where
    go : (told : Option File) → file old ≡ told → (before : File) × (file old ≡ Some before)
    go None none = absurd (let gone = leaves.untold none in cc)
    go (Some before) some = (before, some)
