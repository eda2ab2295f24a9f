-- The pages that a file stands for, by its gate and its journal.
use Rattle.std.proofs.Common.{◌≡◌, ◌≢◌, ◌≤◌, ◌<◌, ◌+◌, ◌*◌, ℕ, suc, IsTrue, IsFalse, List, [], ◌∷◌, length, Option, Some, None, unwrap_or, arith, refl, sym, ap, subst, ◌∙◌, inl, inr, if◌then◌else◌}
use Rattle.std.specs.List.{All}
use Rattle.std.proofs.lemmas.Bool.{cases_eq, eq-eqb, ne_eqb}
use Rattle.std.proofs.lemmas.List.Elements.{All-nil, All-cons}
use Rattle.store_api.specs.StoreState.{stated_in}
use Rattle.redo_journal.specs.Images.{Numbered, AreRising}
use Rattle.page_file.specs.Layout.{file_page, home_page, home_start}
use Rattle.redo_journal.specs.Layout.{is_open, start_of, number_of, journal_of, index_pages}
use Rattle.mdc_words.specs.Listed.{listed}
use Rattle.page_store.specs.Standing.{image_of, page_of, count_of, pages_in, is_made, IsFitting, IsFormed}
use Rattle.mdc_words.proofs.ListedLemmas.{listed_same}

-- where the gate isn't open, a page is its home page
pub page_of-closed : (file : List ℕ) (p : ℕ) → IsFalse (is_open file) → page_of file p ≡ home_page file p
page_of-closed file p closed = ap (λ b. unwrap_or (image_of (if b then journal_of file else []) p) (home_page file p)) closed

-- where it is open, the image of a page comes first
pub page_of-open : (file : List ℕ) (p : ℕ) → IsTrue (is_open file) → page_of file p ≡ unwrap_or (image_of (journal_of file) p) (home_page file p)
page_of-open file p gate = ap (λ b. unwrap_or (image_of (if b then journal_of file else []) p) (home_page file p)) gate

-- where there is an image, the home page doesn't count
pub unwrap_or-same : (image : Option (List ℕ)) (x y : List ℕ) → (image ≡ None → x ≡ y) → unwrap_or image x ≡ unwrap_or image y
unwrap_or-same None x y same = same refl
unwrap_or-same (Some page) x y same = refl

-- a page without an image has another number than each image
pub image_of-none : (images : Numbered) (p : ℕ) → image_of images p ≡ None → All (λ image. image.0 ≢ p) images
image_of-none [] p none = All-nil (λ image. image.0 ≢ p)
image_of-none (image ∷ images) p none = elim (cases_eq image.0 p) [
  | inl same ↦ (let found = rw (eq-eqb image.0 p same) at none in absurd (cc))
  | inr other ↦ (let rest = rw (ne_eqb image.0 p other) at none in All-cons (λ (x : ℕ × List ℕ). x.0 ≢ p) image images other (image_of-none images p rest))
]

-- where each image is in its home page, that page is what counts
pub image_of-home : (images : Numbered) (p : ℕ) (home : ℕ → List ℕ) → All (λ image. home image.0 ≡ image.1) images → unwrap_or (image_of images p) (home p) ≡ home p
image_of-home [] p home is = refl
image_of-home (image ∷ images) p home is = elim (cases_eq image.0 p) [
  | inl same ↦ (let found = eq-eqb image.0 p same in rw found (let first : home image.0 ≡ image.1 = is 0 image (omega arith) in sym first ∙ ap home same))
  | inr other ↦ rw (ne_eqb image.0 p other) (image_of-home images p home (λ k d lt. is (suc k) d (omega arith)))
]

-- a journal that fits, by its parts
pub fits : (file : List ℕ) (start number n : ℕ) (images : Numbered) → start_of file ≡ start → number_of file ≡ number → journal_of file ≡ images → count_of file ≡ n
    → 66 + n ≤ start → 4096 * (start + index_pages number + number) ≤ length file → AreRising images → All (λ image. image.0 < n) images → IsFitting file
fits file start number n images is_start is_number is_journal is_count behind within rising named = record {
  behind = omega arith;
  journal = record {
    behind_gates = omega arith;
    within = rw (is_start, is_number) within;
    rising = subst AreRising (sym is_journal) rising;
  };
  named = rw (is_count, is_journal) named;
}

-- what is formed as a formed file is, but for its pages, which f gives
pub formed_again : (bytes image : List ℕ) (f : ℕ → List ℕ) → IsFormed bytes → is_made image ≡ is_made bytes → file_page image 1 ≡ file_page bytes 1
    → count_of image ≡ stated_in (f 0) → home_start (stated_in (f 0)) ≤ length image → (IsTrue (is_open image) → IsFitting image) → IsFormed image
formed_again bytes image f formed made birth count whole fitting = record {
  made = made ∙ formed.made;
  birth = rw birth formed.birth;
  journal = fitting;
  whole = rw count whole;
}

-- the pages of a file are those that f gives, which agree below their number
pub pages_again : (image : List ℕ) (f : ℕ → List ℕ) → count_of image ≡ stated_in (f 0) → ((p : ℕ) → p < stated_in (f 0) → page_of image p ≡ f p)
    → pages_in image ≡ listed (stated_in (f 0)) f
pages_again image f count same = ap (λ n. listed n (page_of image)) count ∙ listed_same (stated_in (f 0)) (page_of image) f same
