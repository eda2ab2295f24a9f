-- An image that is put into an overlay: the numbers still rise, and all other pages are as they were.
use Rattle.std.proofs.Common.{◌≡◌, ◌≢◌, ◌<◌, ◌==◌, ℕ, zero, suc, List, [], ◌∷◌, set, slice_get, Some, Box, Global, if◌then◌else◌, arith, refl, ap, sym, subst, ◌∙◌, inl, inr}
use Rattle.std.specs.List.{All, insert}
use Rattle.std.proofs.lemmas.Bool.{cases_eq, eq-eqb, ne_eqb}
use Rattle.std.proofs.lemmas.List.Elements.{All-cons}
use Rattle.redo_journal.specs.Images.{Numbered, AreRising, unboxed}
use Rattle.redo_journal.proofs.RisingLemmas.{All-at, All-rest}
use Rattle.store_api.proofs.BoxesLemmas.{Boxed}
use Rattle.redo_log.specs.Places.{IsThere, BelongsThere}
use Rattle.redo_log.specs.Standing.{image_of}

-- a box that is put at a place
pub unboxed_set : (entries : List Boxed) (at : ℕ) (entry : Boxed) → unboxed (set entries at entry) ≡ set (unboxed entries) at (entry.0, entry.1.value)
unboxed_set [] at entry = refl
unboxed_set (first ∷ entries) zero entry = refl
unboxed_set (first ∷ entries) (suc at) entry = ap (λ rest. (first.0, first.1.value) ∷ rest) (unboxed_set entries at entry)

-- a box that comes between others
pub unboxed_insert : (entries : List Boxed) (at : ℕ) (entry : Boxed) → unboxed (insert entries at entry) ≡ insert (unboxed entries) at (entry.0, entry.1.value)
unboxed_insert entries zero entry = refl
unboxed_insert [] (suc at) entry = refl
unboxed_insert (first ∷ entries) (suc at) entry = ap (λ rest. (first.0, first.1.value) ∷ rest) (unboxed_insert entries at entry)

-- one image is put: of each page it is the old one or this, the numbers rise, and what is below all old ones and this is below all
pub record IsPut (p : ℕ) (page : List ℕ) (old new : Numbered) : Type 0 where
  pub rising : AreRising new
  pub same : (q : ℕ) → image_of new q ≡ (if p == q then Some page else image_of old q)
  pub above : (n : ℕ) → All (λ image. n < image.0) old → n < p → All (λ image. n < image.0) new

-- behind an image whose number is lower
put_behind : (first : ℕ × List ℕ) (p : ℕ) (page : List ℕ) (old new : Numbered) → AreRising (first ∷ old) → first.0 < p → IsPut p page old new → IsPut p page (first ∷ old) (first ∷ new)
put_behind first p page old new rising below is = record {
  rising = (is.above first.0 rising.0 below, is.rising);
  same = λ q. elim (cases_eq p q) [
    | inl same ↦
        let other : first.0 ≢ q = λ one. omega arith in
        rw (ne_eqb first.0 q other) (is.same q)
    | inr apart ↦
        let passes : (if p == q then Some page else image_of (first ∷ old) q) ≡ image_of (first ∷ old) q = rw (ne_eqb p q apart) refl in
        let rest : image_of new q ≡ image_of old q = is.same q ∙ rw (ne_eqb p q apart) refl in
        ap (λ x. if first.0 == q then Some first.1 else x) rest ∙ sym passes
  ];
  above = λ n all less. All-cons (λ (image : ℕ × List ℕ). n < image.0) first new (all 0 first (omega arith)) (is.above n (All-rest (λ (image : ℕ × List ℕ). n < image.0) first old all) less);
}

-- in the place of the older one
pub put_over : (images : Numbered) (at p : ℕ) (page : List ℕ) → AreRising images → IsThere p at images → IsPut p page images (set images at (p, page))
put_over [] at p page rising (was, there) = absurd (cc)
put_over (first ∷ images) zero p page rising (was, there) =
    let is : first ≡ (p, was) = cc in
    let number : first.0 ≡ p = ap (λ (x : ℕ × List ℕ). x.0) is in
    record {
      rising = (subst (λ (n : ℕ). All (λ (behind : ℕ × List ℕ). n < behind.0) images) number rising.0, rising.1);
      same = λ q. elim (cases_eq p q) [
        | inl same ↦ rw (eq-eqb p q same) refl
        | inr other ↦
            let apart : first.0 ≢ q = λ one. other (sym number ∙ one) in
            rw (ne_eqb p q other, ne_eqb first.0 q apart) refl
      ];
      above = λ n all less. All-cons (λ (image : ℕ × List ℕ). n < image.0) (p, page) images less (All-rest (λ (image : ℕ × List ℕ). n < image.0) first images all);
    }
put_over (first ∷ images) (suc at) p page rising (was, there) =
    put_behind first p page images (set images at (p, page)) rising (All-at (λ behind. first.0 < behind.0) images at (p, was) rising.0 there) (put_over images at p page rising.1 (was, there))

-- where its number belongs
pub put_between : (images : Numbered) (at p : ℕ) (page : List ℕ) → AreRising images → BelongsThere p at images → IsPut p page images (insert images at (p, page))
put_between images zero p page rising belongs = record {
  rising = (all_above images rising (λ image is. belongs.above image is), rising);
  same = λ q. refl;
  above = λ n all less. All-cons (λ (image : ℕ × List ℕ). n < image.0) (p, page) images less all;
}
  where
    all_above : (rest : Numbered) → AreRising rest → ((image : ℕ × List ℕ) → slice_get rest 0 ≡ Some image → p < image.0) → All (λ (behind : ℕ × List ℕ). p < behind.0) rest
    all_above [] rises head k d lt = absurd (omega arith)
    all_above (first ∷ rest) rises head zero d lt = head first refl
    all_above (first ∷ rest) rises head (suc k) d lt = omega (arith, head first refl, rises.0 k d (omega arith))
put_between [] (suc at) p page rising belongs = absurd (omega (arith, belongs.within))
put_between (first ∷ images) (suc at) p page rising belongs =
    put_behind first p page images (insert images at (p, page)) rising (belongs.below 0 first (omega arith))
    (put_between images at p page rising.1 (record {
      within = omega (arith, belongs.within);
      below = λ k d lt. belongs.below (suc k) d (omega arith);
      above = λ image is. belongs.above image is;
    }))

-- the same of boxes
pub boxes_put_over : (entries new : List Boxed) (old : Numbered) (at p : ℕ) (box : Box (List ℕ) Global) → unboxed entries ≡ old → AreRising (unboxed entries) → IsThere p at (unboxed entries)
    → new ≡ set entries at (p, box) → IsPut p box.value old (unboxed new)
boxes_put_over entries new old at p box is rising there now =
    subst (λ (xs : Numbered). IsPut p box.value xs (unboxed new)) is
    (subst (λ (xs : Numbered). IsPut p box.value (unboxed entries) xs) (sym (ap unboxed now ∙ unboxed_set entries at (p, box))) (put_over (unboxed entries) at p box.value rising there))

pub boxes_put_between : (entries new : List Boxed) (old : Numbered) (at p : ℕ) (box : Box (List ℕ) Global) → unboxed entries ≡ old → AreRising (unboxed entries) → BelongsThere p at (unboxed entries)
    → new ≡ insert entries at (p, box) → IsPut p box.value old (unboxed new)
boxes_put_between entries new old at p box is rising belongs now =
    subst (λ (xs : Numbered). IsPut p box.value xs (unboxed new)) is
    (subst (λ (xs : Numbered). IsPut p box.value (unboxed entries) xs) (sym (ap unboxed now ∙ unboxed_insert entries at (p, box))) (put_between (unboxed entries) at p box.value rising belongs))
