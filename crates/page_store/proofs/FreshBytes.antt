-- The bytes of an empty database, piece by piece.
use Rattle.std.proofs.Common.{◌≡◌, ◌+◌, ◌-◌, ◌*◌, ℕ, zero, suc, List, ◌++◌, length, drop, replicate, get_or, arith, refl, ap, ◌∙◌, length-append, length-drop}
use Rattle.std.proofs.lemmas.List.{length-replicate, drop-replicate}
use Rattle.store_api.specs.StoreState.{zero_page}
use Rattle.store_api.specs.Extents.{map_pages}
use Rattle.page_store.specs.Shape.{birth_page}
use Rattle.page_store.specs.Fresh.{zero_pages, gates, root_page, front_with, file_with, fresh_len}
use Rattle.page_file.specs.Layout.{page_start}

-- a page of zeros has the length of a page
pub length-zero_page : length zero_page ≡ 4096
unfolding zero_page
length-zero_page = length-replicate {A = ℕ} 4096 0

-- it is made of zeros
pub zero_page_is : zero_page ≡ replicate 4096 0
unfolding zero_page
zero_page_is = refl

-- what is left of zeros
pub drop_zeros : (m n k : ℕ) (zeros : List ℕ) → zeros ≡ replicate n 0 → n - m ≡ k → drop m zeros ≡ replicate k 0
drop_zeros m n k zeros is count = ap (drop m) is ∙ (drop-replicate m n 0 ∙ ap (λ i. replicate i 0) count)

-- so do the gates
pub length-gates : (made : ℕ) → length (gates made) ≡ 4096
length-gates made = omega (arith, length-zero_page, length-drop 1 zero_page)

-- so does a birth page
pub length-birth_page : (extents extent_pages : ℕ) → length (birth_page extents extent_pages) ≡ 4096
length-birth_page extents extent_pages = omega (arith, length-zero_page, length-drop 16 zero_page)

-- so does a root page
pub length-root_page : (extents : ℕ) → length (root_page extents) ≡ 4096
length-root_page extents = omega (arith, length-zero_page, length-drop 12 zero_page)

-- pages of zeros
pub length-zero_pages : (n : ℕ) → length (zero_pages n) ≡ 4096 * n
unfolding zero_pages
length-zero_pages n = length-replicate {A = ℕ} (4096 * n) 0

-- the gates and the birth page
abbrev pub first_two : ℕ → ℕ → ℕ → List ℕ
first_two made extents extent_pages = gates made ++ birth_page extents extent_pages

-- all up to the root page
abbrev pub up_to_root : ℕ → ℕ → ℕ → List ℕ
up_to_root made extents extent_pages = front_with made extents extent_pages ++ root_page extents

-- the first two pages have the length of two
pub length-first_two : (made extents extent_pages : ℕ) → length (first_two made extents extent_pages) ≡ page_start 2
length-first_two made extents extent_pages =
    length-append (gates made) (birth_page extents extent_pages) ∙ omega (arith, length-gates made, length-birth_page extents extent_pages)

-- the root page is file page 66
pub length-front_with : (made extents extent_pages : ℕ) → length (front_with made extents extent_pages) ≡ 270336
length-front_with made extents extent_pages =
    length-append (first_two made extents extent_pages) (zero_pages 64) ∙ omega (arith, length-first_two made extents extent_pages, length-zero_pages 64)

-- page 1 is file page 67
pub length-up_to_root : (made extents extent_pages : ℕ) → length (up_to_root made extents extent_pages) ≡ 274432
length-up_to_root made extents extent_pages =
    length-append (front_with made extents extent_pages) (root_page extents) ∙ omega (arith, length-front_with made extents extent_pages, length-root_page extents)

-- the whole file
pub length-file_with : (made extents extent_pages : ℕ) → length (file_with made extents extent_pages) ≡ fresh_len extents
length-file_with made extents extent_pages =
    length-append (up_to_root made extents extent_pages) (zero_pages (16 + map_pages extents)) ∙ omega (arith, length-up_to_root made extents extent_pages, length-zero_pages (16 + map_pages extents))

-- the files with two made bytes are the same behind it
pub same_behind_made : (a b extents extent_pages i : ℕ) → (i ≡ 0 → ⊥) → get_or (file_with a extents extent_pages) i 0 ≡ get_or (file_with b extents extent_pages) i 0
same_behind_made a b extents extent_pages zero behind = absurd (behind refl)
same_behind_made a b extents extent_pages (suc i) behind = refl
