-- Lists with rising numbers.
use Rattle.std.proofs.Common.{◌≡◌, ◌<◌, ℕ, zero, suc, List, [], ◌∷◌, ◌++◌, length, ◌-◌, slice_get, Some, ap, ◌∙◌, arith, subst, sym}
use Rattle.std.specs.List.{All}
use Rattle.std.proofs.lemmas.List.Elements.{All-append, All-nil}
use Rattle.std.proofs.lemmas.Option.{get_or_from_slice_get, slice_get_within, slice_get-map}
use Rattle.store_api.specs.NumberedPages.{Numbered, AreRising, unboxed}
use Rattle.store_api.proofs.BoxesLemmas.{Boxed, length-unboxed, unboxed-push}
use Rattle.std.specs.Option.{option_map}

-- what holds of one, holds of each of a list of one
pub All-one : {X : Type 0} (P : X → Type 0) (x : X) → P x → All P (x ∷ [])
All-one P x is zero d lt = is
All-one P x is (suc k) d lt = absurd (omega arith)

-- what holds of each, holds of each behind the first
pub All-rest : {X : Type 0} (P : X → Type 0) (x : X) (xs : List X) → All P (x ∷ xs) → All P xs
All-rest P x xs all k d lt = all (suc k) d (omega arith)

-- one that is above all goes to the end
pub AreRising-push : (images : Numbered) (image : ℕ × List ℕ) → AreRising images → All (λ before. before.0 < image.0) images → AreRising (images ++ image ∷ [])
AreRising-push [] image rising below = (All-nil (λ behind. image.0 < behind.0), tt)
AreRising-push (first ∷ images) image rising below = (
  All-append (λ behind. first.0 < behind.0) images (image ∷ []) rising.0 (All-one (λ behind. first.0 < behind.0) image (below 0 image (omega arith))),
  AreRising-push images image rising.1 (All-rest (λ before. before.0 < image.0) first images below),
)

-- what holds of each, holds of the one at a place
pub All-at : {X : Type 0} (P : X → Type 0) (xs : List X) (i : ℕ) (x : X) → All P xs → slice_get xs i ≡ Some x → P x
All-at P xs i x all is = subst P (get_or_from_slice_get xs i x x is) (all i x (slice_get_within xs i x is))

-- a number above the last is above all
pub above_last : (images : Numbered) (i : ℕ) (last : ℕ × List ℕ) (p : ℕ) → AreRising images → suc i ≡ length images → slice_get images i ≡ Some last → last.0 < p → All (λ y. y.0 < p) images
above_last [] i last p rising end is above k d lt = absurd (omega arith)
above_last (image ∷ images) zero last p rising end is above zero d lt = let same : image ≡ last = cc in subst (λ (y : ℕ × List ℕ). y.0 < p) (sym same) above
above_last (image ∷ images) zero last p rising end is above (suc k) d lt = absurd (omega arith)
above_last (image ∷ images) (suc i) last p rising end is above zero d lt = let less = All-at (λ y. image.0 < y.0) images i last rising.0 is in omega (arith, less, above)
above_last (image ∷ images) (suc i) last p rising end is above (suc k) d lt = above_last images i last p rising.1 (omega arith) is above k d (omega arith)

-- a box whose number is above all comes last
pub rising_pushed : (entries new : List Boxed) (old : Numbered) (entry : Boxed) → unboxed entries ≡ old → AreRising (unboxed entries) → All (λ before. before.0 < entry.0) old → new ≡ entries ++ entry ∷ []
    → AreRising (unboxed new)
rising_pushed entries new old entry is rising below pushed =
    let above : All (λ before. before.0 < entry.0) (unboxed entries) = subst (λ (pages : Numbered). All (λ before. before.0 < entry.0) pages) (sym is) below in
    subst (λ (pages : Numbered). AreRising pages) (sym (ap unboxed pushed ∙ unboxed-push entries entry)) (AreRising-push (unboxed entries) (entry.0, entry.1.value) rising above)

-- one number is above that of the last page where it is above all
pub above_all : (entries : List Boxed) (images : Numbered) (i p : ℕ) (last : Boxed) → unboxed entries ≡ images → AreRising (unboxed entries) → i ≡ length entries - 1 → slice_get entries i ≡ Some last
    → (last.0 < p → All (λ before. before.0 < p) images) × (All (λ before. before.0 < p) images → last.0 < p)
above_all entries images i p last is rising place there =
    let here : slice_get (unboxed entries) i ≡ Some (last.0, last.1.value) =
    slice_get-map (λ (e : Boxed). (e.0, e.1.value)) entries i ∙ ap (option_map (λ (e : Boxed). (e.0, e.1.value))) there in
    let within : i < length (unboxed entries) = slice_get_within (unboxed entries) i (last.0, last.1.value) here in (
      (λ above. subst (λ (pages : Numbered). All (λ before. before.0 < p) pages) is
          (above_last (unboxed entries) i (last.0, last.1.value) p rising (omega (arith, within, length-unboxed entries)) here above)),
      (λ all. All-at (λ before. before.0 < p) (unboxed entries) i (last.0, last.1.value) (subst (λ (pages : Numbered). All (λ before. before.0 < p) pages) (sym is) all) here),
    )
