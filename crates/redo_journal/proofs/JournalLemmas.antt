-- What a journal that was written reads as.
use Rattle.std.proofs.Common.{◌≡◌, ◌≤◌, ◌<◌, ◌+◌, ◌-◌, ◌*◌, ◌^◌, ℕ, zero, suc, List, [], ◌∷◌, ◌++◌, length, take, drop, get_or, arith, refl, ap, sym, ◌∙◌, append_assoc, append-nil, length-append, length-drop}
use Rattle.std.specs.List.{All}
use Rattle.std.proofs.lemmas.List.{take_all, drop_all, take_at, drop_at, length-take-le, drop-drop, length-replicate, get_or_append_left}
use Rattle.std.proofs.Math.Seq.{take-add}
use Rattle.std.proofs.lemmas.Grind.{common_steps}
use Rattle.mdc_outside.specs.Disk.{overwritten}
use Rattle.byteorder.specs.Endian.{big_bytes, big_number}
use Rattle.byteorder.specs.Numbers.{big_number-reads_back}
use Rattle.store_api.specs.StoreState.{zero_page}
use Rattle.redo_journal.specs.Images.{Numbered, IsPageImage}
use Rattle.redo_journal.specs.Layout.{entries, index_pages, start_of, number_of, journal_of}
use Rattle.redo_journal.specs.Pieces.{number_bytes, page_bytes, chunk, index_page, index_bytes, header}
use Rattle.redo_journal.proofs.PiecesLemmas.{number_bytes-append, length-index_bytes}
use Rattle.redo_journal.proofs.RisingLemmas.{All-rest}

-- the entries of numbers and pages that stand one after the other
pub entries_read : (images : Numbered) (behind after : List ℕ) → All IsPageImage images → entries (length images) (number_bytes images ++ behind) (page_bytes images ++ after) ≡ images
entries_read [] behind after all = refl
entries_read (image ∷ images) behind after all =
    let is : IsPageImage image = all 0 image (omega arith) in
    let fits : image.0 < 256 ^ 4 = is.0 in
    let index : number_bytes (image ∷ images) ++ behind ≡ big_bytes 4 image.0 ++ (number_bytes images ++ behind) = append_assoc (big_bytes 4 image.0) (number_bytes images) behind in
    let pages : page_bytes (image ∷ images) ++ after ≡ image.1 ++ (page_bytes images ++ after) = append_assoc image.1 (page_bytes images) after in
    let number : big_number 4 (number_bytes (image ∷ images) ++ behind) ≡ image.0 = ap (big_number 4) index ∙ big_number-reads_back 4 image.0 (number_bytes images ++ behind) fits in
    let page : take 4096 (page_bytes (image ∷ images) ++ after) ≡ image.1 = ap (take 4096) pages ∙ take_at image.1 (page_bytes images ++ after) 4096 is.1 in
    let index_rest : drop 4 (number_bytes (image ∷ images) ++ behind) ≡ number_bytes images ++ behind = ap (drop 4) index ∙ drop_at (big_bytes 4 image.0) (number_bytes images ++ behind) 4 refl in
    let pages_rest : drop 4096 (page_bytes (image ∷ images) ++ after) ≡ page_bytes images ++ after = ap (drop 4096) pages ∙ drop_at image.1 (page_bytes images ++ after) 4096 is.1 in
    let rest : entries (length images) (drop 4 (number_bytes (image ∷ images) ++ behind)) (drop 4096 (page_bytes (image ∷ images) ++ after)) ≡ images =
    ap (λ xs. entries (length images) xs (drop 4096 (page_bytes (image ∷ images) ++ after))) index_rest ∙ (ap (λ xs. entries (length images) (number_bytes images ++ behind) xs) pages_rest ∙ entries_read images behind after (All-rest IsPageImage image images all)) in
    ap (λ n. (n, take 4096 (page_bytes (image ∷ images) ++ after)) ∷ entries (length images) (drop 4 (number_bytes (image ∷ images) ++ behind)) (drop 4096 (page_bytes (image ∷ images) ++ after))) number
    ∙ (ap (λ xs. (image.0, xs) ∷ entries (length images) (drop 4 (number_bytes (image ∷ images) ++ behind)) (drop 4096 (page_bytes (image ∷ images) ++ after))) page
    ∙ ap (λ xs. image ∷ xs) rest)

-- numbers behind numbers
numbers_behind : (k : ℕ) (images : Numbered) → number_bytes (take k images) ++ number_bytes (chunk k images) ≡ number_bytes (take (k + 1024) images)
numbers_behind k images = sym (number_bytes-append (take k images) (take 1024 (drop k images))) ∙ ap number_bytes (sym (take-add k 1024 images))

-- index pages that are full
pub full_index : (k : ℕ) (images : Numbered) → k * 1024 ≤ length images → index_bytes k images ≡ number_bytes (take (k * 1024) images)
unfolding zero_page
full_index zero images le = refl
full_index (suc k) images le =
    let size : length (chunk (k * 1024) images) ≡ 1024 = length-take-le 1024 (drop (k * 1024) images) (omega (arith, length-drop (k * 1024) images)) in
    let none : drop (4 * length (chunk (k * 1024) images)) zero_page ≡ [] = drop_all (4 * length (chunk (k * 1024) images)) zero_page (omega (arith, length-replicate {A = ℕ} 4096 0)) in
    let count : k * 1024 + 1024 ≡ suc k * 1024 = omega arith in
    ap (λ bytes. bytes ++ index_page (chunk (k * 1024) images)) (full_index k images (omega arith))
    ∙ (ap (λ zeros. number_bytes (take (k * 1024) images) ++ (number_bytes (chunk (k * 1024) images) ++ zeros)) none
    ∙ (ap (λ bytes. number_bytes (take (k * 1024) images) ++ bytes) (append-nil (number_bytes (chunk (k * 1024) images)))
    ∙ (numbers_behind (k * 1024) images ∙ ap (λ n. number_bytes (take n images)) count)))

-- so many index pages that the last holds the last number
pub index_reads : (pages : ℕ) (images : Numbered) → length images ≤ pages * 1024 → pages * 1024 < length images + 1024 → (rest : List ℕ) × (index_bytes pages images ≡ number_bytes images ++ rest)
index_reads zero [] le lt = ([], refl)
index_reads zero (image ∷ images) le lt = absurd (omega arith)
index_reads (suc k) images le lt =
    let whole : take (k * 1024 + 1024) images ≡ images = take_all (k * 1024 + 1024) images (omega arith) in
    let zeros : List ℕ = drop (4 * length (chunk (k * 1024) images)) zero_page in (
      drop (4 * length (chunk (k * 1024) images)) zero_page,
      ap (λ bytes. bytes ++ index_page (chunk (k * 1024) images)) (full_index k images (omega arith))
          ∙ (sym (append_assoc (number_bytes (take (k * 1024) images)) (number_bytes (chunk (k * 1024) images)) (drop (4 * length (chunk (k * 1024) images)) zero_page))
          ∙ ap (λ bytes. bytes ++ drop (4 * length (chunk (k * 1024) images)) zero_page) (numbers_behind (k * 1024) images ∙ ap number_bytes whole)),
    )

-- what is kept before a place: a byte below it
pub byte_before : (at i : ℕ) (old behind : List ℕ) → i < at → at ≤ length old → get_or (take at old ++ behind) i 0 ≡ get_or old i 0
byte_before at i old behind lt le = grind (arith, common_steps)

-- The bytes of a journal, step by step: zeros up to its start, the index, the pages, and the start and number.
pub journal_stands : (start : ℕ) (images : Numbered) (place next : ℕ) (zeros old first second third last after_index after_pages : List ℕ)
    → All IsPageImage images → start < 4294967296 → length images < 4294967296 → 66 ≤ start → 8192 ≤ length old
    → place ≡ 4096 * start → next ≡ place + 4096 * index_pages (length images)
    → place ≤ length first → first ≡ old ++ zeros
    → second ≡ take place first ++ index_bytes (index_pages (length images)) images ++ after_index
    → third ≡ take next second ++ page_bytes images ++ after_pages
    → last ≡ overwritten 1024 (header start (length images)) third
    → (start_of last ≡ start) × (journal_of last ≡ images) × (get_or last 512 0 ≡ get_or old 512 0)
    × (take (4096 * index_pages (length images)) (drop (4096 * start) last) ≡ index_bytes (index_pages (length images)) images)
journal_stands start images place next zeros old first second third last after_index after_pages all start_fits few behind long place_is next_is reach is_first is_second is_third is_last =
    let P : ℕ = index_pages (length images) in
    let index : List ℕ = index_bytes (index_pages (length images)) images in
    let size : length (index_bytes (index_pages (length images)) images) ≡ 4096 * index_pages (length images) = length-index_bytes (index_pages (length images)) images in
    let front_size : length (take place first) ≡ place = length-take-le place first reach in
    let both_size : length (take place first ++ index_bytes (index_pages (length images)) images) ≡ next = omega (arith, length-append (take place first) (index_bytes (index_pages (length images)) images)) in
    let kept : take next second ≡ take place first ++ index_bytes (index_pages (length images)) images =
    ap (take next) is_second ∙ take_at (take place first ++ index_bytes (index_pages (length images)) images) after_index next both_size in
    let whole : third ≡ (take place first ++ index_bytes (index_pages (length images)) images) ++ (page_bytes images ++ after_pages) =
    is_third ∙ (ap (λ xs. xs ++ page_bytes images ++ after_pages) kept ∙ append_assoc (take place first ++ index_bytes (index_pages (length images)) images) (page_bytes images) after_pages) in
    let long_third : next ≤ length third = omega (arith, ap length whole, length-append (take place first ++ index_bytes (index_pages (length images)) images) (page_bytes images ++ after_pages)) in
    let header_behind : last ≡ take 1024 third ++ (header start (length images) ++ drop 1032 third) = is_last ∙ append_assoc (take 1024 third) (header start (length images)) (drop 1032 third) in
    let front_last : length (take 1024 third) ≡ 1024 = length-take-le 1024 third (omega arith) in
    let from_header : drop 1024 last ≡ header start (length images) ++ drop 1032 third = ap (drop 1024) header_behind ∙ drop_at (take 1024 third) (header start (length images) ++ drop 1032 third) 1024 front_last in
    let start_is : start_of last ≡ start = ap (big_number 4) (from_header ∙ append_assoc (big_bytes 4 start) (big_bytes 4 (length images)) (drop 1032 third)) ∙ big_number-reads_back 4 start (big_bytes 4 (length images) ++ drop 1032 third) start_fits in
    let from_number : drop 1028 last ≡ big_bytes 4 (length images) ++ drop 1032 third =
    sym (drop-drop 4 1024 last) ∙ (ap (drop 4) (from_header ∙ append_assoc (big_bytes 4 start) (big_bytes 4 (length images)) (drop 1032 third)) ∙ drop_at (big_bytes 4 start) (big_bytes 4 (length images) ++ drop 1032 third) 4 refl) in
    let number_is : number_of last ≡ length images = ap (big_number 4) from_number ∙ big_number-reads_back 4 (length images) (drop 1032 third) few in
    let header_size : length (take 1024 third ++ header start (length images)) ≡ 1032 = omega (arith, length-append (take 1024 third) (header start (length images))) in
    let from_place : (at : ℕ) → 1032 ≤ at → drop at last ≡ drop at third = λ at le.
    let count : 1032 + (at - 1032) ≡ at = omega arith in
    let apart : drop 1032 last ≡ drop 1032 third = ap (drop 1032) is_last ∙ drop_at (take 1024 third ++ header start (length images)) (drop 1032 third) 1032 header_size in
    ap (λ n. drop n last) (sym count) ∙ (sym (drop-drop (at - 1032) 1032 last) ∙ (ap (drop (at - 1032)) apart ∙ (drop-drop (at - 1032) 1032 third ∙ ap (λ n. drop n third) count))) in
    let body : drop place third ≡ index_bytes (index_pages (length images)) images ++ (page_bytes images ++ after_pages) =
    ap (drop place) (whole ∙ append_assoc (take place first) (index_bytes (index_pages (length images)) images) (page_bytes images ++ after_pages)) ∙ drop_at (take place first) (index_bytes (index_pages (length images)) images ++ (page_bytes images ++ after_pages)) place front_size in
    let pages : drop next third ≡ page_bytes images ++ after_pages = ap (drop next) whole ∙ drop_at (take place first ++ index_bytes (index_pages (length images)) images) (page_bytes images ++ after_pages) next both_size in
    let reads : (rest : List ℕ) × (index_bytes (index_pages (length images)) images ≡ number_bytes images ++ rest) = index_reads (index_pages (length images)) images (omega arith) (omega arith) in
    let index_at : drop (4096 * start) last ≡ number_bytes images ++ (reads.0 ++ (page_bytes images ++ after_pages)) =
    ap (λ n. drop n last) (sym place_is) ∙ (from_place place (omega arith) ∙ (body ∙ (ap (λ xs. xs ++ (page_bytes images ++ after_pages)) reads.1 ∙ append_assoc (number_bytes images) reads.0 (page_bytes images ++ after_pages)))) in
    let next_at : 4096 * (start + index_pages (length images)) ≡ next = omega arith in
    let pages_at : drop (4096 * (start + index_pages (length images))) last ≡ page_bytes images ++ after_pages = ap (λ n. drop n last) next_at ∙ (from_place next (omega arith) ∙ pages) in
    let journal_is : journal_of last ≡ images =
    ap (λ s. entries (number_of last) (drop (4096 * s) last) (drop (4096 * (s + index_pages (number_of last))) last)) start_is
    ∙ (ap (λ n. entries n (drop (4096 * start) last) (drop (4096 * (start + index_pages n)) last)) number_is
    ∙ (ap (λ xs. entries (length images) xs (drop (4096 * (start + index_pages (length images))) last)) index_at
    ∙ (ap (λ xs. entries (length images) (number_bytes images ++ (reads.0 ++ (page_bytes images ++ after_pages))) xs) pages_at
    ∙ entries_read images (reads.0 ++ (page_bytes images ++ after_pages)) after_pages all))) in
    let gate : get_or last 512 0 ≡ get_or old 512 0 =
    ap (λ xs. get_or xs 512 0) header_behind ∙ (byte_before 1024 512 third (header start (length images) ++ drop 1032 third) (omega arith) (omega arith)
    ∙ (ap (λ xs. get_or xs 512 0) (whole ∙ append_assoc (take place first) (index_bytes (index_pages (length images)) images) (page_bytes images ++ after_pages))
    ∙ (byte_before place 512 first (index_bytes (index_pages (length images)) images ++ (page_bytes images ++ after_pages)) (omega arith) reach
    ∙ (ap (λ xs. get_or xs 512 0) is_first ∙ get_or_append_left old zeros 0 512 (omega arith))))) in
    let index_is : take (4096 * index_pages (length images)) (drop (4096 * start) last) ≡ index_bytes (index_pages (length images)) images =
    ap (λ n. take (4096 * index_pages (length images)) (drop n last)) (sym place_is)
    ∙ (ap (take (4096 * index_pages (length images))) (from_place place (omega arith) ∙ body)
    ∙ take_at (index_bytes (index_pages (length images)) images) (page_bytes images ++ after_pages) (4096 * index_pages (length images)) size) in
    (start_is, journal_is, gate, index_is)
