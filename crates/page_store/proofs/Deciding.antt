-- Whether a file is formed, and of which shape, is decided. So each image that a host may leave is one that its store leaves.
use Rattle.std.proofs.Common.{◌≡◌, ◌⊎◌, ◌≤◌, ◌<◌, ◌+◌, ◌*◌, ℕ, zero, suc, Bool, IsTrue, List, [], ◌∷◌, length, Option, Some, inl, inr, arith, refl, get_or, subst}
use Rattle.std.specs.List.{All}
use Rattle.std.proofs.lemmas.Bool.{cases_lt, cases_Bool, both_ways}
use Rattle.std.proofs.lemmas.Bool.Decides.{not_from_Decides}
use Rattle.std.proofs.lemmas.Slice.Eq.{bytes_eq-Decides}
use Rattle.std.proofs.lemmas.List.Elements.{All-nil, All-cons}
use Rattle.std.specs.Str.{bytes_eq}
use Rattle.mdc_outside.specs.Disk.{File, IsOutside}
use Rattle.redo_journal.specs.Images.{Numbered, AreRising}
use Rattle.page_file.specs.Layout.{file_page, home_start, IsNoPlaceOfJournal}
use Rattle.redo_journal.specs.Layout.{is_open, start_of, number_of, journal_of, index_pages, IsJournal}
use Rattle.store_api.specs.declared.shape.Shape.{Shape}
use Rattle.store_api.specs.Extents.{is_shape}
use Rattle.page_store.specs.Shape.{IsBirth, birth_page, extents_in, extent_pages_in}
use Rattle.page_store.specs.Standing.{count_of, is_made, IsFitting, IsFormed, IsFormedAs, FrontAgrees, IsStoreImage}
use Rattle.page_store.specs.FileStore.{left_of, IsLeft}

-- it holds or not
abbrev pub Decided : Type 0 → Type 0
Decided P = P ⊎ (¬ P)

-- what is the same as something decided
decided_as : {P Q : Type 0} → (P → Q) → (Q → P) → Decided P → Decided Q
decided_as into back (inl holds) = inl (into holds)
decided_as into back (inr fails) = inr (λ q. fails (back q))

-- two that are decided
decided_both : {P Q : Type 0} → Decided P → Decided Q → Decided (P × Q)
decided_both (inl p) (inl q) = inl (p, q)
decided_both (inl p) (inr fails) = inr (λ both. fails both.1)
decided_both (inr fails) q = inr (λ both. fails both.0)

-- one that matters only where another holds
decided_where : {P Q : Type 0} → Decided P → Decided Q → Decided (P → Q)
decided_where p (inl q) = inl (λ is. q)
decided_where (inl p) (inr fails) = inr (λ gives. fails (gives p))
decided_where (inr none) (inr fails) = inl (λ is. absurd (none is))

-- a test
decided_test : (b : Bool) → Decided (IsTrue b)
decided_test b = elim (cases_Bool b) [ inl is ↦ inl is | inr not_so ↦ inr (both_ways b not_so) ]

-- an order
decided_le : (m n : ℕ) → Decided (m ≤ n)
decided_le m n = elim (cases_lt n m) [ inl above ↦ inr (λ le. omega arith) | inr le ↦ inl le ]

-- the same number
decided_same : (m n : ℕ) → Decided (m ≡ n)
decided_same m n = decided_as {P = (m ≤ n) × (n ≤ m)} (λ both. omega (arith, both.0, both.1)) (λ same. (omega (arith, same), omega (arith, same))) (decided_both (decided_le m n) (decided_le n m))

-- a fact on each
decided_All : {X : Type 0} (P : X → Type 0) → ((x : X) → Decided (P x)) → (xs : List X) → Decided (All P xs)
decided_All P each [] = inl (All-nil P)
decided_All P each (x ∷ xs) = decided_as {P = P x × All P xs} (λ both. All-cons P x xs both.0 both.1)
    (λ all. (all 0 x (omega arith), λ k d lt. all (suc k) d (omega arith))) (decided_both (each x) (decided_All P each xs))

-- rising numbers
decided_rising : (images : Numbered) → Decided (AreRising images)
decided_rising [] = inl tt
decided_rising (image ∷ images) =
    decided_both (decided_All (λ (behind : ℕ × List ℕ). image.0 < behind.0) (λ behind. decided_le (suc image.0) behind.0) images) (decided_rising images)

-- lists of numbers
decided_bytes : (xs ys : List ℕ) → Decided (xs ≡ ys)
decided_bytes xs ys = elim (cases_Bool (bytes_eq xs ys)) [
  | inl same ↦ inl ((bytes_eq-Decides xs ys).0 same)
  | inr other ↦ inr (not_from_Decides (bytes_eq xs ys) (bytes_eq-Decides xs ys) other)
]

-- a birth page
decided_birth : (page : List ℕ) → Decided (IsBirth page)
decided_birth page = decided_as {P = IsTrue (is_shape (extents_in page) (extent_pages_in page)) × (page ≡ birth_page (extents_in page) (extent_pages_in page))}
    (λ both. record { limits = both.0; bytes = both.1 }) (λ birth. (birth.limits, birth.bytes))
    (decided_both (decided_test (is_shape (extents_in page) (extent_pages_in page))) (decided_bytes page (birth_page (extents_in page) (extent_pages_in page))))

-- a journal
decided_journal : (file : List ℕ) → Decided (IsJournal file)
decided_journal file =
    decided_as {P = (66 ≤ start_of file) × ((4096 * (start_of file + index_pages (number_of file) + number_of file) ≤ length file) × AreRising (journal_of file))}
    (λ all. record { behind_gates = all.0; within = all.1.0; rising = all.1.1 }) (λ journal. (journal.behind_gates, (journal.within, journal.rising)))
    (decided_both (decided_le 66 (start_of file)) (decided_both (decided_le (4096 * (start_of file + index_pages (number_of file) + number_of file)) (length file)) (decided_rising (journal_of file))))

-- a journal that fits
decided_fitting : (file : List ℕ) → Decided (IsFitting file)
decided_fitting file =
    decided_as {P = (66 + count_of file ≤ start_of file) × (IsJournal file × All (λ image. image.0 < count_of file) (journal_of file))}
    (λ all. record { behind = all.0; journal = all.1.0; named = all.1.1 }) (λ fitting. (fitting.behind, (fitting.journal, fitting.named)))
    (decided_both (decided_le (66 + count_of file) (start_of file)) (decided_both (decided_journal file)
    (decided_All (λ (image : ℕ × List ℕ). image.0 < count_of file) (λ image. decided_le (suc image.0) (count_of file)) (journal_of file))))

-- a formed file
decided_formed : (file : List ℕ) → Decided (IsFormed file)
decided_formed file =
    decided_as {P = IsTrue (is_made file) × (IsBirth (file_page file 1) × ((IsTrue (is_open file) → IsFitting file) × (home_start (count_of file) ≤ length file)))}
    (λ all. record { made = all.0; birth = all.1.0; journal = all.1.1.0; whole = all.1.1.1 })
    (λ formed. (formed.made, (formed.birth, (formed.journal, formed.whole))))
    (decided_both (decided_test (is_made file)) (decided_both (decided_birth (file_page file 1))
    (decided_both (decided_where (decided_test (is_open file)) (decided_fitting file)) (decided_le (home_start (count_of file)) (length file)))))

-- a formed file that states this shape
decided_formed_as : (shape : Shape) (file : List ℕ) → Decided (IsFormedAs shape file)
decided_formed_as shape file =
    decided_as {P = IsFormed file × ((extents_in (file_page file 1) ≡ shape.extents) × (extent_pages_in (file_page file 1) ≡ shape.extent_pages))}
    (λ all. record { formed = all.0; extents = all.1.0; extent_pages = all.1.1 }) (λ formed. (formed.formed, (formed.extents, formed.extent_pages)))
    (decided_both (decided_formed file) (decided_both (decided_same (extents_in (file_page file 1)) shape.extents) (decided_same (extent_pages_in (file_page file 1)) shape.extent_pages)))

-- one of two
decided_either : {P Q : Type 0} → Decided P → Decided Q → Decided (P ⊎ Q)
decided_either (inl p) q = inl (inl p)
decided_either (inr none) (inl q) = inl (inr q)
decided_either (inr none) (inr fails) = inr (λ either. elim either [ inl p ↦ none p | inr q ↦ fails q ])

-- a fact on each number below one
decided_below : (P : ℕ → Type 0) → ((i : ℕ) → Decided (P i)) → (n : ℕ) → Decided ((i : ℕ) → i < n → P i)
decided_below P each zero = inl (λ i lt. absurd (omega arith))
decided_below P each (suc n) = decided_as {P = P n × ((i : ℕ) → i < n → P i)}
    (λ both i lt. elim (cases_lt i n) [
      | inl below ↦ both.1 i below
      | inr there ↦ (let same : n ≡ i = omega arith in subst P same both.0)
    ])
    (λ all. (all n (omega arith), λ i lt. all i (omega arith))) (decided_both (each n) (decided_below P each n))

-- a place before or behind a range
decided_outside : (i at count : ℕ) → Decided (IsOutside i (record { at = at; count = count }))
decided_outside i at count = decided_either (decided_le (suc i) at) (decided_le (at + count) i)

-- what two files have in common before their first home page
decided_front : (file image : List ℕ) → Decided (FrontAgrees file image)
decided_front file image = decided_as {P = (i : ℕ) → i < home_start 0 → IsNoPlaceOfJournal i → get_or image i 0 ≡ get_or file i 0}
    (λ same. record { same = same }) (λ agrees. agrees.same)
    (decided_below (λ i. IsNoPlaceOfJournal i → get_or image i 0 ≡ get_or file i 0)
    (λ i. decided_where (decided_both (decided_outside i 512 1) (decided_outside i 1024 8)) (decided_same (get_or image i 0) (get_or file i 0))) (home_start 0))

-- an image of a store's file
decided_store_image : (shape : Shape) (file image : List ℕ) → Decided (IsStoreImage shape file image)
decided_store_image shape file image = decided_as {P = IsFormedAs shape image × FrontAgrees file image}
    (λ both. record { formed = both.0; front = both.1 }) (λ whole. (whole.formed, whole.front))
    (decided_both (decided_formed_as shape image) (decided_front file image))

-- each image and tape that a host may leave is what its store leaves
pub each_left : (shape : Shape) (told : Option File) (tape : Option (List ℕ)) (moment : ℕ → List ℕ → List ℕ → Type 0) (file : File) (said : List ℕ) → told ≡ Some file → tape ≡ Some said
    → (t : ℕ) (image heard : List ℕ) → moment t image heard → IsLeft shape file.bytes (left_of shape told tape moment t) image heard
each_left shape told tape moment file said is heard_is t image heard now = elim (decided_store_image shape file.bytes image) [
  | inl whole ↦ inl (whole, (file, is, said, heard_is, image, now, (whole, refl)))
  | inr fails ↦ inr (file, is, said, heard_is, image, now, fails)
]
