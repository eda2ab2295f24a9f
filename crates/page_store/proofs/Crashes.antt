-- What the images stand for that a crash may leave at each step of a commit, and of what follows a crash.
use Rattle.std.proofs.Common.{◌≡◌, ◌⊎◌, ◌≤◌, ◌<◌, ◌+◌, ◌*◌, nat_eq, ℕ, IsTrue, IsFalse, List, length, take, drop, get_or, min, unwrap_or, arith, sym, ap, ◌∙◌, inl, inr}
use Rattle.std.specs.List.{All}
use Rattle.std.proofs.lemmas.Bool.{cases_Bool, both_ways}
use Rattle.std.proofs.lemmas.List.{ext_get_or}
use Rattle.store_api.specs.StoreState.{stated_in}
use Rattle.mdc_outside.specs.Disk.{IsImage, all_synced, torn}
use Rattle.redo_journal.specs.Images.{Numbered}
use Rattle.page_file.specs.Layout.{FrontStays, file_page, home_page, home_start, page_start}
use Rattle.redo_journal.specs.Layout.{is_open, start_of, number_of, journal_of, index_pages, torn_journal, torn_home}
use Rattle.redo_journal.proofs.TornLemmas.{front_torn_journal, front_torn_home}
use Rattle.page_store.specs.Standing.{image_of, page_of, count_of, pages_in, is_made, IsFormed, Stands}
use Rattle.page_store.specs.Commit.{AreFitting, count_with_images, pages_with}
use Rattle.page_file.proofs.BytesLemmas.{same_part, same_behind, same_number}
use Rattle.page_store.proofs.Kept.{same_journal, length-journal_of, home_left, journal_left, outside_home, IsSameButGate, same_but_gate}
use Rattle.page_store.proofs.Pages.{page_of-closed, page_of-open, unwrap_or-same, image_of-none, image_of-home, fits, formed_again, pages_again}
use Rattle.page_file.specs.declared.layout.TheConstants.{GATE}

-- where all is on the disk, a crash leaves what the file holds
pub only_itself : (bytes image : List ℕ) → IsImage (all_synced bytes) image → image ≡ bytes
only_itself bytes image left =
    ext_get_or 0 image bytes (omega (arith, left.no_shorter, left.no_longer)) (λ i lt. left.kept i (omega (arith, left.no_longer, lt)) tt)

-- while a journal is written behind all pages
pub while_written : (bytes image : List ℕ) (start n : ℕ) → IsFormed bytes → IsFalse (is_open bytes) → 0 < count_of bytes → 66 + count_of bytes ≤ start
    → IsImage (torn_journal start n (all_synced bytes)) image
    → IsFalse (is_open image) × Stands bytes (pages_in bytes) image
while_written bytes image start n formed closed some behind left =
    let kept = journal_left bytes image start n left in
    let whole : home_start (count_of bytes) ≤ length bytes = formed.whole in
    let gate : is_open image ≡ is_open bytes = ap (λ b. nat_eq b 79) (kept.1 512 (omega arith) (omega arith) (inl (omega arith))) in
    let shut : IsFalse (is_open image) = gate ∙ closed in
    let made : is_made image ≡ is_made bytes = ap (λ b. nat_eq b 77) (kept.1 0 (omega arith) (omega arith) (inl (omega arith))) in
    let birth : file_page image 1 ≡ file_page bytes 1 =
    same_part 4096 4096 image bytes (omega (arith, kept.0)) (λ i low high lt. kept.1 i lt (omega arith) (inr (omega arith))) in
    let home : (p : ℕ) → p < count_of bytes → page_of image p ≡ page_of bytes p = λ p named.
    page_of-closed image p shut
    ∙ (same_part (home_start p) 4096 image bytes (omega (arith, kept.0)) (λ i low high lt. kept.1 i lt (omega arith) (inr (omega arith)))
    ∙ sym (page_of-closed bytes p closed)) in
    let count : count_of image ≡ count_of bytes = ap stated_in (home 0 some) in (
      shut,
      record {
        formed = formed_again bytes image (page_of bytes) formed made birth count (omega (arith, kept.0)) (λ opened. absurd (both_ways (is_open image) shut opened));
        pages = pages_again image (page_of bytes) count home;
        birth = birth;
        front = front_torn_journal start n bytes image (omega arith) left;
      },
    )

-- an image that is the same but for the gate, which neither has open
stays_closed : (bytes image : List ℕ) → IsFormed bytes → IsSameButGate bytes image → IsFalse (is_open bytes) → IsFalse (is_open image)
    → Stands bytes (pages_in bytes) image
stays_closed bytes image formed same closed shut =
    let home : (p : ℕ) → page_of image p ≡ page_of bytes p = λ p. page_of-closed image p shut ∙ (same.home p ∙ sym (page_of-closed bytes p closed)) in
    let count : count_of image ≡ count_of bytes = ap stated_in (home 0) in
    let whole : home_start (count_of bytes) ≤ length image = omega (arith, formed.whole, same.size) in
    record {
      formed = formed_again bytes image (page_of bytes) formed same.made same.birth count whole (λ opened. absurd (both_ways (is_open image) shut opened));
      pages = pages_again image (page_of bytes) count (λ p lt. home p);
      birth = same.birth;
      front = same.front;
    }

-- an image that is the same but for the gate, which it has open
stands_open : (bytes image : List ℕ) (start : ℕ) (images : Numbered) → IsFormed bytes → IsSameButGate bytes image → IsTrue (is_open image)
    → start_of bytes ≡ start → journal_of bytes ≡ images → AreFitting start images bytes
    → Stands bytes (pages_with images bytes) image
stands_open bytes image start images formed same opened starts journal fitting =
    let listed_so : journal_of image ≡ images = same.journal ∙ journal in
    let home : (p : ℕ) → page_of image p ≡ unwrap_or (image_of images p) (home_page bytes p) = λ p.
    page_of-open image p opened
    ∙ (ap (λ xs. unwrap_or (image_of xs p) (home_page image p)) listed_so ∙ ap (λ page. unwrap_or (image_of images p) page) (same.home p)) in
    let count : count_of image ≡ count_with_images images bytes = ap stated_in (home 0) in
    let number : number_of image ≡ length images = sym (length-journal_of image) ∙ ap length listed_so in
    let within : 4096 * (start + index_pages (length images) + length images) ≤ length image = omega (arith, fitting.within, same.size) in
    let whole : (home_start (count_with_images images bytes)) ≤ length image = omega (arith, fitting.behind, within) in
    record {
      formed = formed_again bytes image (λ p. unwrap_or (image_of images p) (home_page bytes p)) formed same.made same.birth count whole
          (λ gate. fits image start (length images) (count_with_images images bytes) images (same.starts ∙ starts) number listed_so count fitting.behind within fitting.rising fitting.named);
      pages = pages_again image (λ p. unwrap_or (image_of images p) (home_page bytes p)) count (λ p lt. home p);
      birth = same.birth;
      front = same.front;
    }

-- while its gate is opened
pub while_opened : (bytes image : List ℕ) (start : ℕ) (images : Numbered) → IsFormed bytes → IsFalse (is_open bytes)
    → start_of bytes ≡ start → journal_of bytes ≡ images → AreFitting start images bytes
    → IsImage (torn GATE 1 (all_synced bytes)) image
    → (IsFalse (is_open image) × Stands bytes (pages_in bytes) image)
    ⊎ (IsTrue (is_open image) × (journal_of image ≡ images) × Stands bytes (pages_with images bytes) image)
while_opened bytes image start images formed closed starts journal fitting left =
    let long : page_start 2 ≤ length bytes = omega (arith, formed.whole) in
    let behind : 66 ≤ start_of bytes = omega (arith, fitting.behind, starts) in
    let same = same_but_gate bytes image long behind left in
    elim (cases_Bool (is_open image)) [
      | inl opened ↦ inr (opened, same.journal ∙ journal, stands_open bytes image start images formed same opened starts journal fitting)
      | inr shut ↦ inl (shut, stays_closed bytes image formed same closed shut)
    ]

-- an image of one length that has the same journal and the same pages
stands_again : (bytes image : List ℕ) → IsFormed bytes → is_made image ≡ is_made bytes → file_page image 1 ≡ file_page bytes 1 → length image ≡ length bytes → FrontStays bytes image
    → start_of image ≡ start_of bytes → number_of image ≡ number_of bytes → journal_of image ≡ journal_of bytes
    → ((p : ℕ) → page_of image p ≡ page_of bytes p) → IsTrue (is_open bytes) → Stands bytes (pages_in bytes) image
stands_again bytes image formed made birth size front starts numbers journal home gate =
    let fit = formed.journal gate in
    let count : count_of image ≡ count_of bytes = ap stated_in (home 0) in
    let whole : home_start (count_of bytes) ≤ length image = omega (arith, formed.whole, size) in
    let within : 4096 * (start_of bytes + index_pages (number_of bytes) + number_of bytes) ≤ length image = omega (arith, fit.journal.within, size) in
    record {
      formed = formed_again bytes image (page_of bytes) formed made birth count whole
          (λ opened. fits image (start_of bytes) (number_of bytes) (count_of bytes) (journal_of bytes) starts numbers journal count fit.behind within fit.journal.rising fit.named);
      pages = pages_again image (page_of bytes) count (λ p lt. home p);
      birth = birth;
      front = front;
    }

-- while its images are written home
pub while_home : (bytes image : List ℕ) → IsFormed bytes → IsTrue (is_open bytes)
    → IsImage (torn_home (journal_of bytes) (all_synced bytes)) image
    → IsTrue (is_open image) × (journal_of image ≡ journal_of bytes) × Stands bytes (pages_in bytes) image
while_home bytes image formed gate left =
    let fit = formed.journal gate in
    let whole : home_start (count_of bytes) ≤ length bytes = formed.whole in
    let kept = home_left bytes image (journal_of bytes) (count_of bytes) fit.named whole left in
    let size : length image ≡ length bytes = kept.0 in
    let before : (i : ℕ) → i < 270336 → get_or image i 0 ≡ get_or bytes i 0 = λ i lt. kept.1 i (omega arith) (λ k d less. inl (omega arith)) in
    let behind : (i : ℕ) → home_start (count_of bytes) ≤ i → i < length bytes → get_or image i 0 ≡ get_or bytes i 0 = λ i le lt.
    kept.1 i lt (λ k d less. inr (omega (arith, fit.named k d less))) in
    let opened : IsTrue (is_open image) = ap (λ b. nat_eq b 79) (before 512 (omega arith)) ∙ gate in
    let made : is_made image ≡ is_made bytes = ap (λ b. nat_eq b 77) (before 0 (omega arith)) in
    let part : (at k : ℕ) → at + k ≤ 270336 → take k (drop at image) ≡ take k (drop at bytes) = λ at k le.
    same_part at k image bytes (ap (λ n. min (at + k) n) size) (λ i low high lt. before i (omega arith)) in
    let birth : file_page image 1 ≡ file_page bytes 1 = part 4096 4096 (omega arith) in
    let starts : start_of image ≡ start_of bytes = same_number 1024 image bytes (part 1024 4 (omega arith)) in
    let numbers : number_of image ≡ number_of bytes = same_number 1028 image bytes (part 1028 4 (omega arith)) in
    let journal : journal_of image ≡ journal_of bytes =
    same_journal image bytes starts numbers (λ at le. same_behind at image bytes size (λ i low lt. behind i (omega (arith, fit.behind)) lt)) in
    let home : (p : ℕ) → page_of image p ≡ page_of bytes p = λ p.
    page_of-open image p opened
    ∙ (ap (λ images. unwrap_or (image_of images p) (home_page image p)) journal
    ∙ (unwrap_or-same (image_of (journal_of bytes) p) (home_page image p) (home_page bytes p) (λ none.
    same_part (home_start p) 4096 image bytes (ap (λ n. min (home_start p + 4096) n) size) (λ i low high lt.
    kept.1 i lt (outside_home (journal_of bytes) p i (image_of-none (journal_of bytes) p none) low high)))
    ∙ sym (page_of-open bytes p gate))) in
    (opened, journal, stands_again bytes image formed made birth size (front_torn_home (journal_of bytes) bytes image left) starts numbers journal home gate)

-- where the images are in their home pages, the gate changes no page
same_pages : (bytes image : List ℕ) → IsSameButGate bytes image → IsTrue (is_open bytes) → All (λ listed. home_page bytes listed.0 ≡ listed.1) (journal_of bytes)
    → (p : ℕ) → page_of image p ≡ page_of bytes p
same_pages bytes image same gate home p = elim (cases_Bool (is_open image)) [
  | inl opened ↦ page_of-open image p opened
      ∙ (ap (λ images. unwrap_or (image_of images p) (home_page image p)) same.journal
      ∙ (ap (λ page. unwrap_or (image_of (journal_of bytes) p) page) (same.home p) ∙ sym (page_of-open bytes p gate)))
  | inr shut ↦ page_of-closed image p shut
      ∙ (same.home p ∙ (sym (image_of-home (journal_of bytes) p (home_page bytes) home) ∙ sym (page_of-open bytes p gate)))
]

-- while the gate is closed, with all images in their home pages
pub while_closed : (bytes image : List ℕ) → IsFormed bytes → IsTrue (is_open bytes)
    → All (λ listed. home_page bytes listed.0 ≡ listed.1) (journal_of bytes)
    → IsImage (torn GATE 1 (all_synced bytes)) image
    → Stands bytes (pages_in bytes) image
while_closed bytes image formed gate home left =
    let fit = formed.journal gate in
    let long : page_start 2 ≤ length bytes = omega (arith, formed.whole) in
    let same = same_but_gate bytes image long fit.journal.behind_gates left in
    stands_again bytes image formed same.made same.birth same.size same.front same.starts same.numbers same.journal (same_pages bytes image same gate home) gate
