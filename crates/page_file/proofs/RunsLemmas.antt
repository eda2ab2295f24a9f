-- One run of calls of a disk after another.
use Rattle.std.proofs.Common.{◌≡◌, ◌≤◌, ◌+◌, ◌⊎◌, ℕ, Bool, List, [], Option, Some, None, inl, inr, arith, refl, ◌∙◌, ap}
use Rattle.mdc_words.proofs.TimeLemmas.{over_time_then, over_time_wider}
use Rattle.mdc_outside.specs.Disk.{File, Since, torn}
use Rattle.mdc_outside.specs.Moments.{Beside, IsMoment}
use Rattle.page_file.specs.Runs.{Runs, IsWithin, IsCovered}
use Rattle.page_file.proofs.CoverLemmas.{covered_is_within, covers_through, covers_part}

-- a moment that is allowed by the second is allowed by the first
pub moment_within : {allowed since : Since} {said image tape : List ℕ} → IsWithin allowed since → IsMoment since said [] image tape → IsMoment allowed said [] image tape
moment_within {allowed} {since} {said} {image} {tape} within moment = record { left = within image moment.left; said = moment.said }

-- an option is empty or not
pub cases_Option : {A : Type 0} (o : Option A) → (o ≡ None) ⊎ ((x : A) × (o ≡ Some x))
cases_Option None = inl refl
cases_Option (Some x) = inr (x, refl)

module _ {D : Type 0} {file : D → Option File} {aside : D → Beside} {attaches : D → Option (List (List ℕ × Bool))} {is_attached : D → Bool} {clock : D → ℕ} {moment : D → ℕ → List ℕ → List ℕ → Type 0} where
  -- Two runs are one, where what the second allows is within what the first allows.
  pub runs_then : {First Second Both : Since → Since → Type 0} {allowed more : Since → Since} {old middle new : D}
      → Runs file aside attaches is_attached clock moment First allowed old middle
      → Runs file aside attaches is_attached clock moment Second more middle new
      → ((before half : File) → file old ≡ Some before → file middle ≡ Some half → First (allowed before.since) half.since → IsWithin (allowed before.since) (more half.since))
      → ((before half after : File) → file old ≡ Some before → file middle ≡ Some half → file new ≡ Some after → First (allowed before.since) half.since → Second (more half.since) after.since → Both (allowed before.since) after.since)
      → Runs file aside attaches is_attached clock moment Both allowed old new
  runs_then {First} {Second} {Both} {allowed} {more} {old} {middle} {new} first second within both = record {
    untold = λ none. second.untold (first.untold none);
    told = λ before is.
        let half = first.told before is in
        let after = second.told half.0 half.1 in
        (after.0, after.1, both before half.0 after.0 is half.1 after.1 half.2 after.2);
    crash = λ before said is tape.
        let half = first.told before is in
        over_time_then (first.crash before said is tape)
        (over_time_wider (second.crash half.0 said half.1 (ap (λ b. b.tape) first.beside ∙ tape)) (λ image tape left. moment_within (within before half.0 is half.1 half.2) left));
    later = omega (arith, first.later, second.later);
    attached = second.attached ∙ first.attached;
    listed = second.listed ∙ first.listed;
    beside = second.beside ∙ first.beside;
  }

  -- a run that covers is one that is within
  pub runs_within : {allowed : Since → Since} {old new : D}
      → Runs file aside attaches is_attached clock moment IsCovered allowed old new
      → Runs file aside attaches is_attached clock moment IsWithin allowed old new
  runs_within {allowed} {old} {new} run = record {
    untold = run.untold;
    told = λ before is. let after = run.told before is in (after.0, after.1, covered_is_within (allowed before.since) after.0.since after.2);
    crash = run.crash;
    later = run.later;
    attached = run.attached;
    listed = run.listed;
    beside = run.beside;
  }

  -- a run that covers, and then one that tears nothing, as a sync
  pub runs_then_settle : {allowed : Since → Since} {old middle new : D}
      → Runs file aside attaches is_attached clock moment IsCovered allowed old middle
      → Runs file aside attaches is_attached clock moment IsWithin (λ since. since) middle new
      → Runs file aside attaches is_attached clock moment IsWithin allowed old new
  runs_then_settle {allowed} {old} {middle} {new} first second = runs_then first second
      (λ before half is_before is_half covered. covered_is_within (allowed before.since) half.since covered)
      (λ before half after is_before is_half is_after covered within image left. covered_is_within (allowed before.since) half.since covered image (within image left))

  -- a run that covers, and then one that writes more which the first covers too
  pub runs_then_covered : {allowed more : Since → Since} {old middle new : D}
      → Runs file aside attaches is_attached clock moment IsCovered allowed old middle
      → Runs file aside attaches is_attached clock moment IsCovered more middle new
      → ((before half : File) → file old ≡ Some before → file middle ≡ Some half → IsCovered (allowed before.since) half.since → IsCovered (allowed before.since) (more half.since))
      → Runs file aside attaches is_attached clock moment IsCovered allowed old new
  runs_then_covered {allowed} {more} {old} {middle} {new} first second covers = runs_then first second
      (λ before half is_before is_half covered. covered_is_within (allowed before.since) (more half.since) (covers before half is_before is_half covered))
      (λ before half after is_before is_half is_after covered more_covered. covers_through (covers before half is_before is_half covered) more_covered)

  -- a write within the range that is being written
  pub runs_part : {from total at count : ℕ} {old middle new : D}
      → Runs file aside attaches is_attached clock moment IsCovered (torn from total) old middle
      → Runs file aside attaches is_attached clock moment IsCovered (torn at count) middle new
      → from ≤ at → at + count ≤ from + total
      → Runs file aside attaches is_attached clock moment IsCovered (torn from total) old new
  runs_part {from} {total} {at} {count} {old} {middle} {new} first second low high =
      runs_then_covered first second (λ before half is_before is_half covered. covers_part before.since half.since from total at count low high covered)

  -- a file that is told was told before
  pub was_told : {Within : Since → Since → Type 0} {allowed : Since → Since} {old new : D}
      → Runs file aside attaches is_attached clock moment Within allowed old new
      → (after : File) → file new ≡ Some after → (before : File) × (file old ≡ Some before)
  was_told {old} {new} run after is = elim (cases_Option (file old)) [
    | inl none ↦ (let untold = run.untold none in absurd (cc))
    | inr some ↦ some
  ]

  -- a run that tears nothing, before one that does
  pub runs_wider : {allowed : Since → Since} {old new : D} → ((since : Since) → IsCovered (allowed since) since)
      → Runs file aside attaches is_attached clock moment IsCovered (λ since. since) old new
      → Runs file aside attaches is_attached clock moment IsCovered allowed old new
  runs_wider {allowed} {old} {new} covers run = record {
    untold = run.untold;
    told = λ before is. let after = run.told before is in (after.0, after.1, covers_through (covers before.since) after.2);
    crash = λ before said is tape.
        over_time_wider (run.crash before said is tape) (λ image heard left. moment_within (covered_is_within (allowed before.since) before.since (covers before.since)) left);
    later = run.later;
    attached = run.attached;
    listed = run.listed;
    beside = run.beside;
  }

  -- two runs that tear nothing
  pub runs_on : {old middle new : D}
      → Runs file aside attaches is_attached clock moment IsCovered (λ since. since) old middle
      → Runs file aside attaches is_attached clock moment IsCovered (λ since. since) middle new
      → Runs file aside attaches is_attached clock moment IsCovered (λ since. since) old new
  runs_on first second = runs_then_covered first second (λ before half is_before is_half covered. covered)
