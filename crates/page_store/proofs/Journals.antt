-- The images of a journal, by their numbers.
use Rattle.std.proofs.Common.{◌≡◌, ◌≢◌, ◌<◌, ℕ, List, [], ◌∷◌, length, Some, None, slice_get, unwrap_or, arith, refl, sym, ap, ◌∙◌, length-drop}
use Rattle.std.specs.List.{All}
use Rattle.std.proofs.lemmas.List.{length-take}
use Rattle.std.proofs.lemmas.Bool.{ne_eqb}
use Rattle.redo_journal.specs.Images.{Numbered, AreRising}
use Rattle.page_file.specs.Layout.{home_page}
use Rattle.redo_journal.proofs.RisingLemmas.{All-rest}
use Rattle.page_store.specs.Standing.{image_of, counted, page_of}

-- where all numbers are above one, none is 0
none_above : (images : Numbered) (n : ℕ) → All (λ behind. n < behind.0) images → image_of images 0 ≡ None
none_above [] n above = refl
none_above (image ∷ images) n above =
    let here : n < image.0 = above 0 image (omega arith) in
    let other : image.0 ≢ 0 = omega arith in
    let rest = none_above images n (All-rest (λ behind. n < behind.0) image images above) in
    rw (ne_eqb image.0 0 other) rest

-- the image of page 0 is the first one, or there is none
pub first_or_none : (images : Numbered) (first : ℕ × List ℕ) → AreRising images → slice_get images 0 ≡ Some first
    → (first.0 ≡ 0 → image_of images 0 ≡ Some first.1) × (first.0 ≢ 0 → image_of images 0 ≡ None)
first_or_none [] first rising is = absurd (cc)
first_or_none (image ∷ images) first rising is =
    let same : image ≡ first = cc in (
      λ root. (let number : image.0 ≡ 0 = ap (λ x. x.0) same ∙ root in rw number (ap (λ x. Some x.1) same)),
      λ other. (let number : image.0 ≢ 0 = (λ n. other (sym (ap (λ x. x.0) same) ∙ n)) in rw (ne_eqb image.0 0 number) (none_above images image.0 rising.0)),
    )

-- where a file ends within page 0 and no image of it counts, the page isn't whole
pub root_cut : (file : List ℕ) (bytes : ℕ) → bytes ≡ length file → bytes < 274432 → image_of (counted file) 0 ≡ None → length (page_of file 0) ≢ 4096
root_cut file bytes size short none whole =
    let home : page_of file 0 ≡ home_page file 0 = ap (λ o. unwrap_or o (home_page file 0)) none in
    let count : length (page_of file 0) ≡ length (home_page file 0) = ap length home in
    omega (arith, length-take {A = ℕ}, length-drop {A = ℕ})
