-- What the bytes were before a run of calls, and what they are behind it.
use Rattle.std.proofs.Common.{◌≡◌, ◌≤◌, ◌-◌, ℕ, Bool, List, ◌++◌, length, Option, Some, arith, ap, sym, subst, ◌∙◌, replicate, length-append}
use Rattle.std.proofs.lemmas.List.{length-replicate}
use Rattle.std.specs.Option.{option_map, ForSome}
use Rattle.mdc_outside.specs.Disk.{File, Since, written, overwritten}
use Rattle.mdc_outside.specs.Moments.{Beside}
use Rattle.page_file.specs.Runs.{Runs, Between}
use Rattle.page_file.proofs.RunsLemmas.{was_told}

-- what an option that was mapped is
pub mapped : {A B : Type 0} (f : A → B) (o : Option A) (new : Option B) (x : A) (y : B) → new ≡ option_map f o → o ≡ Some x → new ≡ Some y → y ≡ f x
mapped f o new x y is old now = let both : Some y ≡ Some (f x) = sym now ∙ (is ∙ ap (option_map f) old) in cc

-- what a write makes of the bytes
pub written_between : (old new : Option File) (at : ℕ) (piece : List ℕ) → new ≡ option_map (written at piece) old
    → Between old new (λ before after. after ≡ overwritten at piece before)
written_between old new at piece is = record {
  holds = λ before after is_before is_after.
      let then : Some after ≡ Some (written at piece before) = sym is_after ∙ (is ∙ ap (option_map (written at piece)) is_before) in
      let same : after ≡ written at piece before = cc in
      ap (λ f. f.bytes) same;
}

-- where nothing was done
pub between_same : (told : Option File) {fact : List ℕ → List ℕ → Type 0} → ((bytes : List ℕ) → fact bytes bytes) → Between told told fact
between_same told {fact} holds = record {
  holds = λ before after is_before is_after.
      let same : after ≡ before = let both : Some after ≡ Some before = sym is_after ∙ is_before in cc in
      let P : File → Type 0 = λ f. fact before.bytes f.bytes in
      subst P (sym same) (holds before.bytes);
}

module _ {D : Type 0} {file : D → Option File} {aside : D → Beside} {attaches : D → Option (List (List ℕ × Bool))} {is_attached : D → Bool} {clock : D → ℕ} {moment : D → ℕ → List ℕ → List ℕ → Type 0} where
  -- what the bytes were, and then became
  pub between_then : {Within : Since → Since → Type 0} {allowed : Since → Since} {old middle new : D} {First Second Both : List ℕ → List ℕ → Type 0}
      → Runs file aside attaches is_attached clock moment Within allowed old middle
      → Between (file old) (file middle) First → Between (file middle) (file new) Second
      → ((before half after : File) → file old ≡ Some before → First before.bytes half.bytes → Second half.bytes after.bytes → Both before.bytes after.bytes)
      → Between (file old) (file new) Both
  between_then run first second both = record {
    holds = λ before after is_before is_after.
        let half = run.told before is_before in
        both before half.0 after is_before (first.holds before half.0 is_before half.1) (second.holds half.0 after half.1 is_after);
  }

  -- what holds of the file now, by what it was
  pub now_holds : {Within : Since → Since → Type 0} {allowed : Since → Since} {old new : D} {First : List ℕ → List ℕ → Type 0} (Before Now : File → Type 0)
      → Runs file aside attaches is_attached clock moment Within allowed old new
      → Between (file old) (file new) First → ForSome (file old) Before
      → ((before after : File) → Before before → First before.bytes after.bytes → Now after)
      → ForSome (file new) Now
  now_holds Before Now run first was now after is =
      let before = was_told run after is in
      now before.0 after (was before.0 before.1) (first.holds before.0 after before.1 is)

  -- zeros up to a place reach it
  pub zeros_reach : (from to : ℕ) {Within : Since → Since → Type 0} {allowed : Since → Since} {old new : D}
      → Runs file aside attaches is_attached clock moment Within allowed old new
      → Between (file old) (file new) (λ before after. after ≡ before ++ replicate (to - from) 0)
      → ForSome (file old) (λ f. from ≡ length f.bytes) → ForSome (file new) (λ f. to ≤ length f.bytes)
  zeros_reach from to run filled end = now_holds (λ f. from ≡ length f.bytes) (λ f. to ≤ length f.bytes) run filled end
      (λ before after size is. omega (arith, ap length is, length-append before.bytes (replicate (to - from) 0), length-replicate {A = ℕ} (to - from) 0))
