-- Bytes that two files share, and what they share with them.
use Rattle.std.proofs.Common.{◌≡◌, ◌≢◌, ◌≤◌, ◌<◌, ◌+◌, ◌*◌, ℕ, zero, suc, List, [], ◌∷◌, length, take, drop, get_or, nat_eq, min, arith, refl, ap, ◌∙◌, inl, inr}
use Rattle.std.specs.List.{All}
use Rattle.std.proofs.lemmas.Bool.{cases_order}
use Rattle.mdc_outside.specs.Disk.{Since, IsImage, IsInNone, IsOutside, all_synced, torn}
use Rattle.redo_journal.specs.Images.{Numbered}
use Rattle.page_file.specs.Layout.{FrontStays, file_page, home_page, home_start, page_start}
use Rattle.redo_journal.specs.Layout.{entries, start_of, number_of, journal_of, index_pages, torn_home, torn_journal}
use Rattle.redo_journal.proofs.TornLemmas.{torn_home-synced, front_torn_gate}
use Rattle.page_file.proofs.BytesLemmas.{same_part, same_behind, same_number}
use Rattle.page_store.specs.Standing.{is_made}
use Rattle.page_file.specs.declared.layout.TheConstants.{GATE}

-- as many entries as were asked for
length-entries : (n : ℕ) (index pages : List ℕ) → length (entries n index pages) ≡ n
length-entries zero index pages = refl
length-entries (suc n) index pages = ap suc (length-entries n (drop 4 index) (drop 4096 pages))

-- the journal has as many images as it states
pub length-journal_of : (file : List ℕ) → length (journal_of file) ≡ number_of file
length-journal_of file =
    length-entries (number_of file) (drop (4096 * start_of file) file) (drop (4096 * (start_of file + index_pages (number_of file))) file)

-- one start, one number, and the same bytes from the start on make one journal
pub same_journal : (a b : List ℕ) → start_of a ≡ start_of b → number_of a ≡ number_of b
    → ((at : ℕ) → 4096 * start_of b ≤ at → drop at a ≡ drop at b) → journal_of a ≡ journal_of b
same_journal a b starts numbers same =
    ap (λ s. entries (number_of a) (drop (4096 * s) a) (drop (4096 * (s + index_pages (number_of a))) a)) starts
    ∙ (ap (λ n. entries n (drop (4096 * start_of b) a) (drop (4096 * (start_of b + index_pages n)) a)) numbers
    ∙ (ap (λ xs. entries (number_of b) xs (drop (4096 * (start_of b + index_pages (number_of b))) a)) (same (4096 * start_of b) (omega arith))
    ∙ ap (λ xs. entries (number_of b) (drop (4096 * start_of b) b) xs) (same (4096 * (start_of b + index_pages (number_of b))) (omega arith))))

-- what a torn gate leaves: the same length, and each other byte
gate_left : (bytes image : List ℕ) → page_start 2 ≤ length bytes → IsImage (torn GATE 1 (all_synced bytes)) image
    → (length image ≡ length bytes) × ((i : ℕ) → i < length bytes → i ≢ 512 → get_or image i 0 ≡ get_or bytes i 0)
gate_left bytes image long left = (
  omega (arith, left.no_shorter, left.no_longer),
  λ i lt other. elim (cases_order i 512) [
    | inl same ↦ absurd (other same)
    | inr apart ↦ elim apart [ inl before ↦ left.kept i lt (inl before, tt) | inr behind ↦ left.kept i lt (inr (omega arith), tt) ]
  ],
)

-- home pages below the nth that are torn make the file no longer than they reach
torn_home-longest : (images : Numbered) (since : Since) (n m : ℕ) → All (λ image. image.0 < n) images → since.longest ≤ m
    → home_start n ≤ m → (torn_home images since).longest ≤ m
torn_home-longest [] since n m below short reach = short
torn_home-longest (image ∷ images) since n m below short reach =
    let first : image.0 < n = below 0 image (omega arith) in
    torn_home-longest images (torn (home_start image.0) 4096 since) n m (λ k d lt. below (suc k) d (omega arith)) (omega arith) reach

-- a place in no home page of these is in none that is torn
none_of_home : (i : ℕ) (images : Numbered) (since : Since) → All (λ image. IsOutside i (record { at = home_start image.0; count = 4096 })) images
    → IsInNone i since.ranges → IsInNone i (torn_home images since).ranges
none_of_home i [] since outside none = none
none_of_home i (image ∷ images) since outside none =
    none_of_home i images (torn (home_start image.0) 4096 since) (λ k d lt. outside (suc k) d (omega arith)) (outside 0 image (omega arith), none)

-- what torn home pages within the file leave: the same length, and each byte that is in none
pub home_left : (bytes image : List ℕ) (images : Numbered) (n : ℕ) → All (λ image. image.0 < n) images → home_start n ≤ length bytes
    → IsImage (torn_home images (all_synced bytes)) image
    → (length image ≡ length bytes)
    × ((i : ℕ) → i < length bytes → All (λ image. IsOutside i (record { at = home_start image.0; count = 4096 })) images → get_or image i 0 ≡ get_or bytes i 0)
home_left bytes image images n below reach left =
    let synced : (torn_home images (all_synced bytes)).synced ≡ bytes = torn_home-synced images (all_synced bytes) in
    let same : length (torn_home images (all_synced bytes)).synced ≡ length bytes = ap length synced in
    let longest : (torn_home images (all_synced bytes)).longest ≤ length bytes = torn_home-longest images (all_synced bytes) n (length bytes) below (omega arith) reach in (
      omega (arith, left.no_shorter, left.no_longer),
      λ i lt outside. left.kept i (omega arith) (none_of_home i images (all_synced bytes) outside tt) ∙ ap (λ xs. get_or xs i 0) synced,
    )

-- what a torn journal leaves: no less, and each byte before it that isn't in its header
pub journal_left : (bytes image : List ℕ) (start n : ℕ) → IsImage (torn_journal start n (all_synced bytes)) image
    → (length bytes ≤ length image)
    × ((i : ℕ) → i < length bytes → i < 4096 * start → IsOutside i (record { at = 1024; count = 8 }) → get_or image i 0 ≡ get_or bytes i 0)
journal_left bytes image start n left = (left.no_shorter, λ i lt before outside. left.kept i lt (inl before, (outside, tt)))

-- a place in the home page of p is in no home page of an image with another number
pub outside_home : (images : Numbered) (p i : ℕ) → All (λ image. image.0 ≢ p) images → home_start p ≤ i → i < home_start p + 4096
    → All (λ image. IsOutside i (record { at = home_start image.0; count = 4096 })) images
outside_home images p i others low high = λ k d lt. elim (cases_order (get_or images k d).0 p) [
  | inl same ↦ absurd (others k d lt same)
  | inr apart ↦ elim apart [ inl below ↦ inr (omega arith) | inr above ↦ inl (omega arith) ]
]

-- an image that is as the bytes are, but for the gate of the journal
pub record IsSameButGate (bytes image : List ℕ) : Type 0 where
  pub size : length image ≡ length bytes
  pub front : FrontStays bytes image
  pub made : is_made image ≡ is_made bytes
  pub birth : file_page image 1 ≡ file_page bytes 1
  pub starts : start_of image ≡ start_of bytes
  pub numbers : number_of image ≡ number_of bytes
  pub journal : journal_of image ≡ journal_of bytes
  pub home : (p : ℕ) → home_page image p ≡ home_page bytes p

-- a torn gate leaves such an image, where the journal lies behind the gates
pub same_but_gate : (bytes image : List ℕ) → page_start 2 ≤ length bytes → 66 ≤ start_of bytes → IsImage (torn GATE 1 (all_synced bytes)) image → IsSameButGate bytes image
same_but_gate bytes image long behind left =
    let kept = gate_left bytes image long left in
    let size : length image ≡ length bytes = kept.0 in
    let part : (at k : ℕ) → 512 < at → take k (drop at image) ≡ take k (drop at bytes) = λ at k after.
    same_part at k image bytes (ap (λ n. min (at + k) n) size) (λ i low high lt. kept.1 i lt (λ same. omega arith)) in
    let starts : start_of image ≡ start_of bytes = same_number 1024 image bytes (part 1024 4 (omega arith)) in
    let numbers : number_of image ≡ number_of bytes = same_number 1028 image bytes (part 1028 4 (omega arith)) in
    record {
      size = size;
      front = front_torn_gate bytes image left;
      made = ap (λ b. nat_eq b 77) (kept.1 0 (omega arith) (λ same. omega arith));
      birth = part 4096 4096 (omega arith);
      starts = starts;
      numbers = numbers;
      journal = same_journal image bytes starts numbers (λ at le. same_behind at image bytes size (λ i low lt. kept.1 i lt (λ same. omega arith)));
      home = λ p. part (home_start p) 4096 (omega arith);
    }
