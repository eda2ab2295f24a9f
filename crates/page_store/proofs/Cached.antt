-- What holds of the clean pages in memory once the file or its images have changed.
use Rattle.std.proofs.Common.{◌≡◌, ◌≤◌, ◌<◌, ◌==◌, ℕ, zero, suc, ◌+◌, true, false, nat_eq, List, [], ◌∷◌, None, unwrap_or, refl, ap, sym, ◌∙◌, subst, arith, length, drop, get_or, set}
use Rattle.std.proofs.lemmas.Bool.Decides.{Decides-eqb, nat_tests}
use Rattle.std.proofs.lemmas.Grind.{common_steps}
use Rattle.std.proofs.lemmas.List.{drop-set-lt}
use Rattle.std.proofs.lemmas.Map.{keys-set_value}
use Rattle.std.proofs.lemmas.Map.Keys.{IsDistinct-head, IsDistinct-tail}
use Rattle.std.specs.List.{All, AllByRecursion, IsDistinct}
use Rattle.std.specs.Map.{keys_of, set_value}
use Rattle.redo_journal.specs.Images.{Numbered, AreRising, unboxed}
use Rattle.store_api.proofs.BoxesLemmas.{Boxed}
use Rattle.page_file.specs.Layout.{home_page}
use Rattle.redo_journal.proofs.RisingLemmas.{All-rest}
use Rattle.page_store.specs.Standing.{image_of}
use Rattle.page_store.specs.Cached.{AreHome, renewed}

-- clean pages stay clean where the file has each image in its place
pub renewed_home : (images entries : Numbered) (file after : List ℕ) (count next : ℕ) → AreHome file count entries → count ≤ next
    → ((p : ℕ) → p < next → home_page after p ≡ unwrap_or (image_of images p) (home_page file p))
    → AreHome after next (renewed images entries)
renewed_home images [] file after count next home le stands k d lt = absurd (omega arith)
renewed_home images (entry ∷ entries) file after count next home le stands zero d lt =
    let first = home 0 d (omega arith) in
    (omega arith, ap (unwrap_or (image_of images entry.0)) first.1 ∙ sym (stands entry.0 (omega arith)))
renewed_home images (entry ∷ entries) file after count next home le stands (suc k) d lt =
    renewed_home images entries file after count next (λ j e less. home (suc j) e (omega arith)) le stands k d (omega arith)

-- no image has a number below all of theirs
pub image_of-below : (images : Numbered) (p : ℕ) → All (λ behind. p < behind.0) images → image_of images p ≡ None
image_of-below [] p above = refl
image_of-below (image ∷ images) p above =
    let less : p < image.0 = above 0 image (omega arith) in
    let apart : (image.0 == p) ≡ false = grind (arith, nat_tests) in
    rw apart (image_of-below images p (All-rest (λ behind. p < behind.0) image images above))

-- an image of a page that isn't here
pub renewed-absent : (image : ℕ × List ℕ) (images entries : Numbered) → AllByRecursion (λ q. nat_eq image.0 q ≡ false) (keys_of entries)
    → renewed (image ∷ images) entries ≡ renewed images entries
renewed-absent image images [] absent = refl
renewed-absent image images (entry ∷ entries) absent =
    let apart : (image.0 == entry.0) ≡ false = absent.0 in
    rw (apart, renewed-absent image images entries absent.1) refl

-- An image that is put in the place of its page is the image that counts there, since all behind it have other numbers.
pub renewed-step : (image : ℕ × List ℕ) (images entries : Numbered) → All (λ behind. image.0 < behind.0) images → IsDistinct nat_eq (keys_of entries)
    → renewed images (set_value (nat_eq image.0) entries image.1) ≡ renewed (image ∷ images) entries
renewed-step image images [] above distinct = refl
renewed-step image images (entry ∷ entries) above distinct =
    (elim (nat_eq image.0 entry.0) as (λ here. nat_eq image.0 entry.0 ≡ here → renewed images (set_value (nat_eq image.0) (entry ∷ entries) image.1) ≡ renewed (image ∷ images) (entry ∷ entries)) [
      | true ↦ λ here.
          let same : image.0 ≡ entry.0 = (Decides-eqb image.0 entry.0).0 here in
          let none : image_of images entry.0 ≡ None = subst (λ p. image_of images p ≡ None) same (image_of-below images image.0 above) in
          let absent : AllByRecursion (λ q. nat_eq image.0 q ≡ false) (keys_of entries) = subst (λ p. AllByRecursion (λ q. nat_eq p q ≡ false) (keys_of entries)) (sym same) (IsDistinct-head nat_eq entry.0 (keys_of entries) distinct) in
          rw (here, none, renewed-absent image images entries absent) refl
      | false ↦ λ apart. rw (apart, renewed-step image images entries above (IsDistinct-tail nat_eq entry.0 (keys_of entries) distinct)) refl
    ]) refl

-- no image changes nothing
pub renewed-none : (entries : Numbered) → renewed [] entries ≡ entries
renewed-none [] = refl
renewed-none (entry ∷ entries) = ap (λ rest. entry ∷ rest) (renewed-none entries)

-- the boxes from a place on
from_box : (boxes : List Boxed) (i : ℕ) (box : Boxed) → i < length boxes → box ≡ get_or boxes i box → drop i boxes ≡ box ∷ drop (i + 1) boxes
from_box boxes i box lt is = grind (arith, common_steps)

-- The pages once the image at a place has been put in, where those before it are in already.
pub renewed-next : (boxes : List Boxed) (i : ℕ) (image left : Boxed) (entries new : Numbered) → i < length boxes → image ≡ get_or boxes i image
    → AreRising (unboxed (drop i boxes)) → IsDistinct nat_eq (keys_of entries) → new ≡ set_value (nat_eq image.0) entries image.1.value
    → (renewed (unboxed (drop (i + 1) (set boxes i left))) new ≡ renewed (unboxed (drop i boxes)) entries) × AreRising (unboxed (drop (i + 1) (set boxes i left))) × IsDistinct nat_eq (keys_of new)
renewed-next boxes i image left entries new lt is rising distinct put =
    let split : drop i boxes ≡ image ∷ drop (i + 1) boxes = from_box boxes i image lt is in
    let rest : drop (i + 1) (set boxes i left) ≡ drop (i + 1) boxes = drop-set-lt (i + 1) boxes i left (omega arith) in
    let rises : AreRising (unboxed (image ∷ drop (i + 1) boxes)) = subst (λ (all : List Boxed). AreRising (unboxed all)) split rising in (
      ap (λ (all : List Boxed). renewed (unboxed all) new) rest
          ∙ (ap (renewed (unboxed (drop (i + 1) boxes))) put ∙ (renewed-step (image.0, image.1.value) (unboxed (drop (i + 1) boxes)) entries rises.0 distinct ∙ ap (λ (all : List Boxed). renewed (unboxed all) entries) (sym split))),
      subst (λ (all : List Boxed). AreRising (unboxed all)) (sym rest) rises.1,
      subst (λ keys. IsDistinct nat_eq keys) (sym (ap keys_of put ∙ keys-set_value (nat_eq image.0) entries image.1.value)) distinct,
    )
