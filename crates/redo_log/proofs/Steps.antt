-- What a crash leaves at each step of a commit by the log, of a checkpoint and of an opening.
use Rattle.std.proofs.Common.{◌≡◌, ◌⊎◌, ◌≤◌, ◌<◌, ◌+◌, ◌-◌, ℕ, suc, IsFalse, List, length, get_or, min, below_more, arith, ap, sym, ◌∙◌, inl, inr}
use Rattle.std.proofs.lemmas.Bool.{cases_eq, both_ways}
use Rattle.mdc_outside.specs.Disk.{IsImage, IsOutside, all_synced, torn}
use Rattle.page_file.specs.Layout.{home_page, home_start, page_start}
use Rattle.page_file.proofs.BytesLemmas.{same_part}
use Rattle.redo_journal.specs.Images.{Numbered}
use Rattle.redo_journal.specs.Layout.{index_pages, is_open}
use Rattle.redo_log.specs.Appending.{HasIndex}
use Rattle.redo_log.specs.Layout.{header_at, log_end, need_of, torn_record, HasRecords, NoneFrom}
use Rattle.redo_log.specs.Standing.{page_by, IsFormedBy}
use Rattle.redo_log.proofs.Keeps.{KeepsLog, StandsBy, keeps_log, log_within, page_same, pages_same, stands_by}

-- a place outside a range is outside each range within it
pub outside : (i at count wide long : ℕ) → wide ≤ at → at + count ≤ wide + long → IsOutside i (record { at = wide; count = long }) → IsOutside i (record { at = at; count = count })
outside i at count wide long low high is = elim is [ inl before ↦ inl (omega arith) | inr behind ↦ inr (omega arith) ]

-- where the gates stay, as many records count
pub gates_stay : (n : ℕ) (bytes image : List ℕ) → page_start 2 ≤ length bytes → HasRecords n bytes
    → ((i : ℕ) → i < length bytes → 2048 ≤ i → i < 2080 → get_or image i 0 ≡ get_or bytes i 0) → HasRecords n image
gates_stay n bytes image long has same = record {
  most = has.most;
  opened = λ k lt. same (2048 + k) (omega arith) (omega arith) (omega (arith, has.most)) ∙ has.opened k lt;
  stops = λ lt stays. has.stops lt (sym (same (2048 + n) (omega arith) (omega arith) (omega arith)) ∙ stays);
}

-- where the gates stay, no other is open
pub none_stay : (n : ℕ) (bytes image : List ℕ) → page_start 2 ≤ length bytes → NoneFrom n bytes
    → ((i : ℕ) → i < length bytes → 2048 ≤ i → i < 2080 → get_or image i 0 ≡ get_or bytes i 0) → NoneFrom n image
none_stay n bytes image long none same = record {
  shut = λ k from lt stays. none.shut k from lt (sym (same (2048 + k) (omega arith) (omega arith) (omega arith)) ∙ stays);
}

-- While a record is written behind the log, the file stands for what it stood for.
pub while_recorded : (n m : ℕ) (bytes image : List ℕ) → IsFormedBy n bytes → HasRecords n bytes → NoneFrom n bytes → n < 32 → IsFalse (is_open bytes)
    → log_end n bytes + need_of m ≤ 66 → IsImage (torn_record n (log_end n bytes) m (all_synced bytes)) image
    → StandsBy n bytes image × NoneFrom n image
while_recorded n m bytes image formed has none room shut fits left =
    let long : page_start 2 ≤ length bytes = formed.long in
    let ends = log_within n bytes formed in
    let log : page_start (log_end n bytes) ≤ length bytes = ends.2 in
    let low : 2 ≤ log_end n bytes = ends.0 in
    let high : log_end n bytes + need_of m ≤ 66 = fits in
    let keeps = keeps_log n bytes image formed left.no_shorter has.most
    (λ i below one lt. left.kept i lt (inl (omega arith), (inl (omega arith), tt)))
    (λ i from below lt. left.kept i lt (inl (omega arith), (inl (omega arith), tt)))
    (λ i from below lt. left.kept i lt (inl (omega arith), (inr (omega arith), tt)))
    (λ opened. absurd (both_ways (is_open bytes) shut opened))
    (λ opened. absurd (both_ways (is_open bytes) shut opened)) in
    let gates : (i : ℕ) → i < length bytes → 2048 ≤ i → i < 2080 → get_or image i 0 ≡ get_or bytes i 0 = λ i lt from below. left.kept i lt (inl (omega arith), (inl (omega arith), tt)) in (
      stands_by n bytes image keeps formed (gates_stay n bytes image long has gates)
          (pages_same n bytes image keeps formed (λ p i named whole gone from below. left.kept i (omega arith) (inr (omega arith), (inr (omega arith), tt))))
          (record {
            no_shorter = left.no_shorter;
            same = λ i lt front other. left.kept i lt (outside i (page_start (log_end n bytes)) (page_start (need_of m)) 8192 262144 (omega arith) (omega arith) other.log, (outside i (header_at n) 8 3072 256 (omega arith) (omega arith) other.headers, tt));
          }),
      none_stay n bytes image long none gates,
    )

-- An image that differs from the file in the gates of the log alone.
pub record OnlyGates (bytes image : List ℕ) : Type 0 where
  pub size : length image ≡ length bytes
  pub same : (i : ℕ) → i < length bytes → IsOutside i (record { at = 2048; count = 32 }) → get_or image i 0 ≡ get_or bytes i 0

-- Its home pages are the file's.
pub gates_home : (bytes image : List ℕ) → OnlyGates bytes image → (p : ℕ) → home_page image p ≡ home_page bytes p
gates_home bytes image only p =
    same_part (home_start p) 4096 image bytes (ap (λ n. min (home_start p + 4096) n) only.size) (λ i low high lt. only.same i lt (inr (omega arith)))

-- It keeps the records, whatever its gates say.
pub gates_keep : (m : ℕ) (bytes image : List ℕ) → OnlyGates bytes image → IsFormedBy m bytes → m ≤ 32 → KeepsLog m bytes image
gates_keep m bytes image only formed most =
    keeps_log m bytes image formed (omega (arith, only.size)) most
    (λ i below one lt. only.same i lt (inl (omega arith)))
    (λ i from below lt. only.same i lt (inr (omega arith)))
    (λ i from below lt. only.same i lt (inr (omega arith)))
    (λ opened i from lt. only.same i lt (inr (omega (arith, (formed.journal opened).journal.behind_gates))))
    (λ opened more none. gates_home bytes image only 0)

-- It keeps each index of the log's pages.
pub gates_index : (start : ℕ) (images : Numbered) (bytes image : List ℕ) → OnlyGates bytes image → 2 ≤ start → HasIndex start images bytes → HasIndex start images image
gates_index start images bytes image only low has =
    same_part (page_start start) (page_start (index_pages (length images))) image bytes (ap (λ n. min (page_start start + page_start (index_pages (length images))) n) only.size)
    (λ i from below lt. only.same i lt (inr (omega arith))) ∙ has

-- So each page is the same by so many records.
pub gates_pages : (m : ℕ) (bytes image : List ℕ) → OnlyGates bytes image → IsFormedBy m bytes → m ≤ 32 → (p : ℕ) → page_by m image p ≡ page_by m bytes p
gates_pages m bytes image only formed most p = page_same m p bytes image (gates_keep m bytes image only formed most) (λ none. gates_home bytes image only p)

-- Such an image stands for what the records make of the file that count in the image.
pub only_gates : (m : ℕ) (bytes image : List ℕ) → OnlyGates bytes image → IsFormedBy m bytes → HasRecords m image → StandsBy m bytes image
only_gates m bytes image only formed has =
    stands_by m bytes image (gates_keep m bytes image only formed has.most) formed has (λ p lt. gates_pages m bytes image only formed has.most p)
    (record { no_shorter = omega (arith, only.size); same = λ i lt front other. only.same i lt other.gates })

-- an image of a file some of whose gates are torn
pub torn_gates : (at count : ℕ) (bytes image : List ℕ) → page_start 2 ≤ length bytes → 2048 ≤ at → at + count ≤ 2080 → IsImage (torn at count (all_synced bytes)) image
    → OnlyGates bytes image × ((i : ℕ) → i < length bytes → IsOutside i (record { at = at; count = count }) → get_or image i 0 ≡ get_or bytes i 0)
torn_gates at count bytes image long low high left = (
  record {
    size = omega (arith, left.no_shorter, left.no_longer);
    same = λ i lt other. left.kept i lt (outside i at count 2048 32 low high other, tt);
  },
  λ i lt other. left.kept i lt (other, tt),
)

-- Where the gate of a new record reads as open, the record counts.
pub gate_opened : (n : ℕ) (bytes image : List ℕ) → HasRecords n bytes → NoneFrom n bytes → n < 32 → IsFormedBy (suc n) bytes
    → IsImage (torn (2048 + n) 1 (all_synced bytes)) image → get_or image (2048 + n) 0 ≡ 79 → StandsBy (suc n) bytes image × NoneFrom (suc n) image
gate_opened n bytes image has none room more left opened =
    let long : page_start 2 ≤ length bytes = more.long in
    let torn_so = torn_gates (2048 + n) 1 bytes image long (omega arith) (omega arith) left in
    let below : (k : ℕ) → k < n → get_or image (2048 + k) 0 ≡ 79 = λ k lt. torn_so.1 (2048 + k) (omega arith) (inl (omega arith)) ∙ has.opened k lt in (
      only_gates (suc n) bytes image torn_so.0 more (record {
        most = omega arith;
        opened = λ k lt. below_more (λ k. get_or image (2048 + k) 0 ≡ 79) n below opened k (omega arith);
        stops = λ lt stays. none.shut (suc n) (omega arith) lt (sym (torn_so.1 (2048 + suc n) (omega arith) (inr (omega arith))) ∙ stays);
      }),
      record { shut = λ k from lt stays. none.shut k (omega arith) lt (sym (torn_so.1 (2048 + k) (omega arith) (inr (omega arith))) ∙ stays) },
    )

-- While the gate of a new record is opened, the file stands for what it stood for, or for that with the record.
pub while_opened : (n : ℕ) (bytes image : List ℕ) → IsFormedBy n bytes → HasRecords n bytes → NoneFrom n bytes → n < 32 → IsFormedBy (suc n) bytes
    → IsImage (torn (2048 + n) 1 (all_synced bytes)) image
    → StandsBy n bytes image ⊎ (StandsBy (suc n) bytes image × NoneFrom (suc n) image)
while_opened n bytes image formed has none room more left =
    let long : page_start 2 ≤ length bytes = formed.long in
    let torn_so = torn_gates (2048 + n) 1 bytes image long (omega arith) (omega arith) left in
    let below : (k : ℕ) → k < n → get_or image (2048 + k) 0 ≡ 79 = λ k lt. torn_so.1 (2048 + k) (omega arith) (inl (omega arith)) ∙ has.opened k lt in
    elim (cases_eq (get_or image (2048 + n) 0) 79) [
      | inl opened ↦ inr (gate_opened n bytes image has none room more left opened)
      | inr shut ↦ inl (only_gates n bytes image torn_so.0 formed (record { most = has.most; opened = below; stops = λ lt. shut }))
    ]

-- While gates are closed behind the first that isn't open, whatever they hold, the file stands for what it stood for.
pub while_others_closed : (n : ℕ) (bytes image : List ℕ) → IsFormedBy n bytes → HasRecords n bytes → n < 32
    → IsImage (torn (2049 + n) (31 - n) (all_synced bytes)) image → StandsBy n bytes image
while_others_closed n bytes image formed has room left =
    let long : page_start 2 ≤ length bytes = formed.long in
    let torn_so = torn_gates (2049 + n) (31 - n) bytes image long (omega arith) (omega arith) left in
    only_gates n bytes image torn_so.0 formed (record {
      most = has.most;
      opened = λ k lt. torn_so.1 (2048 + k) (omega arith) (inl (omega arith)) ∙ has.opened k lt;
      stops = λ lt stays. has.stops lt (sym (torn_so.1 (2048 + n) (omega arith) (inl (omega arith))) ∙ stays);
    })
