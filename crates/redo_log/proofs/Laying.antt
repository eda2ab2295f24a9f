-- The overlay is made record by record: in a record no page comes twice, and what is laid last counts.
use Rattle.std.proofs.Common.{◌≡◌, ◌<◌, ◌+◌, ℕ, suc, add-one, List, [], ◌∷◌, ◌++◌, Some, None, ◌==◌, inl, inr, arith, refl, ap, sym, subst, ◌∙◌, if◌then◌else◌, append_assoc}
use Rattle.std.specs.Option.{option_or}
use Rattle.std.specs.List.{All}
use Rattle.std.proofs.lemmas.Bool.{cases_eq, eq-eqb, ne_eqb}
use Rattle.redo_journal.specs.Images.{Numbered}
use Rattle.redo_log.specs.Checkpointing.{AreOverlay}
use Rattle.redo_log.specs.Layout.{record_at, newest, leading, need_of}
use Rattle.redo_log.specs.Replaying.{LaysOver}
use Rattle.redo_log.specs.Standing.{image_of}
use Rattle.redo_log.proofs.Overlays.{image_of-append}

-- below a number there is no image of it
pub none_of_below : (n : ℕ) (images : Numbered) → All (λ image. image.0 < n) images → image_of images n ≡ None
none_of_below n [] below = refl
none_of_below n (image ∷ images) below =
    let less : image.0 < n = below 0 image (omega arith) in
    rw (ne_eqb image.0 n (λ same. omega arith)) (none_of_below n images (λ k d lt. below (suc k) d (omega arith)))

-- one image more is laid over an overlay, whose number is above those before
pub laid_next : (images more old overlay new : Numbered) (p : ℕ) (page : List ℕ) → LaysOver images old overlay → All (λ image. image.0 < p) images
    → ((q : ℕ) → image_of new q ≡ (if p == q then Some page else image_of overlay q)) → more ≡ images ++ (p, page) ∷ [] → LaysOver more old new
laid_next images more old overlay new p page laid below put is = λ q.
    let split : image_of (more ++ old) q ≡ option_or (image_of images q) (image_of ((p, page) ∷ old) q) =
    ap (λ xs. image_of (xs ++ old) q) is ∙ (ap (λ xs. image_of xs q) (append_assoc images ((p, page) ∷ []) old) ∙ image_of-append images ((p, page) ∷ old) q) in
    elim (cases_eq p q) [
      | inl same ↦
          let here : (if p == q then Some page else image_of overlay q) ≡ Some page = rw (eq-eqb p q same) refl in
          let none : image_of images q ≡ None = ap (λ n. image_of images n) (sym same) ∙ none_of_below p images below in
          let last : image_of ((p, page) ∷ old) q ≡ Some page = rw (eq-eqb p q same) refl in
          let whole : option_or (image_of images q) (image_of ((p, page) ∷ old) q) ≡ Some page = ap (λ x. option_or x (image_of ((p, page) ∷ old) q)) none ∙ last in
          put q ∙ (here ∙ sym (split ∙ whole))
      | inr other ↦
          let there : (if p == q then Some page else image_of overlay q) ≡ image_of overlay q = rw (ne_eqb p q other) refl in
          let passes : image_of ((p, page) ∷ old) q ≡ image_of old q = rw (ne_eqb p q other) refl in
          let whole : option_or (image_of images q) (image_of ((p, page) ∷ old) q) ≡ image_of (images ++ old) q =
          ap (λ x. option_or (image_of images q) x) passes ∙ sym (image_of-append images old q) in
          put q ∙ (there ∙ (laid q ∙ sym (split ∙ whole)))
    ]

-- an overlay of n records, with the images of the next laid over it, is one of one more
pub overlay_more : (n : ℕ) (file : List ℕ) (old new : Numbered) → AreOverlay n file old → LaysOver (record_at n file) old new → AreOverlay (suc n) file new
overlay_more n file old new over laid = λ p.
    laid p ∙ (image_of-append (record_at n file) old p ∙ (ap (λ x. option_or (image_of (record_at n file) p) x) (over p) ∙ sym (image_of-append (record_at n file) (newest n file) p)))

-- the same of one record more in a loop
pub overlay_next : (n : ℕ) (file : List ℕ) (old new : Numbered) → AreOverlay n file old → LaysOver (record_at n file) old new → AreOverlay (n + 1) file new
overlay_next n file old new over laid = subst (λ (m : ℕ). AreOverlay m file new) (sym (add-one n)) (overlay_more n file old new over laid)

-- rows: gates behind a closed one don't count, the pages of 31 and of 63 images, and of one too many
row_leading : leading (79 ∷ 79 ∷ 0 ∷ 79 ∷ []) ≡ 2
row_leading = refl

row_need : (need_of 1 ≡ 2) × (need_of 31 ≡ 32) × (need_of 63 ≡ 64) × (need_of 64 ≡ 65)
row_need = (refl, refl, refl, refl)

-- an overlay of no record has nothing
pub overlay_none : (file : List ℕ) → AreOverlay 0 file []
overlay_none file p = refl
