-- A fresh file is an empty database.
use Rattle.std.proofs.Common.{◌≡◌, ◌≤◌, ◌<◌, ◌+◌, ◌-◌, ◌*◌, ℕ, zero, suc, IsTrue, IsFalse, if◌then◌else◌, List, [], ◌∷◌, ◌++◌, length, take, drop, replicate, map, get_or, unwrap_or, nat_eq, arith, refl, ap, sym, ◌∙◌, append_assoc, length-drop, lit<}
use Rattle.std.specs.List.{range_with_len}
use Rattle.std.proofs.Math.Seq.{drop-append-add}
use Rattle.std.proofs.lemmas.Nat.{from_be_bytes-to_be_bytes_4}
use Rattle.std.proofs.lemmas.Grind.{get_or_after_one}
use Rattle.std.proofs.lemmas.List.{take_at, drop_at, take-replicate, drop-replicate, length-replicate, get_or-replicate, get_or_append_left, same_lists}
use Rattle.std.proofs.lemmas.List.FromFn.{length-map-range_with_len, get_or-map-range_with_len}
use Rattle.byteorder.specs.Endian.{big_bytes, big_number}
use Rattle.byteorder.specs.Numbers.{big_number-reads_back}
use Rattle.store_api.specs.StoreState.{zero_page, stated_in}
use Rattle.page_file.specs.Layout.{file_page, home_page, home_start}
use Rattle.redo_journal.specs.Layout.{is_open, journal_of}
use Rattle.store_api.specs.Extents.{is_shape, map_pages, first_count}
use Rattle.page_store.specs.Shape.{IsBirth, birth_page, extents_in, extent_pages_in}
use Rattle.page_store.specs.Fresh.{zero_pages, gates, root_page, front_with, fresh_file, fresh_len}
use Rattle.page_store.specs.Standing.{image_of, page_of, count_of, pages_in}
use Rattle.page_store.specs.Opening.{version_of}
use Rattle.page_store.specs.Empty.{IsEmptyDatabase}
use Rattle.page_store.proofs.FreshBytes.{zero_page_is, length-gates, length-birth_page, length-root_page, length-front_with, length-up_to_root, length-file_with, up_to_root}

-- five pieces, the first apart
five_parts : (a b c d e : List ℕ) → a ++ b ++ c ++ d ++ e ≡ a ++ (b ++ c ++ d ++ e)
five_parts a b c d e =
    ap (λ xs. xs ++ d ++ e) (append_assoc a b c) ∙ (ap (λ xs. xs ++ e) (append_assoc a (b ++ c) d) ∙ append_assoc a (b ++ c ++ d) e)

-- the second of five pieces
second_of : (a b c d e : List ℕ) (n m : ℕ) → length a ≡ n → length b ≡ m → take m (drop n (a ++ b ++ c ++ d ++ e)) ≡ b
second_of a b c d e n m first second =
    let rest : b ++ c ++ d ++ e ≡ b ++ (c ++ d ++ e) = ap (λ xs. xs ++ e) (append_assoc b c d) ∙ append_assoc b (c ++ d) e in
    let whole : a ++ b ++ c ++ d ++ e ≡ a ++ (b ++ (c ++ d ++ e)) = five_parts a b c d e ∙ ap (λ xs. a ++ xs) rest in
    ap (λ xs. take m (drop n xs)) whole ∙ (ap (take m) (drop_at a (b ++ (c ++ d ++ e)) n first) ∙ take_at b (c ++ d ++ e) m second)

-- the second of three pieces
middle_of : (a b c : List ℕ) (n m : ℕ) → length a ≡ n → length b ≡ m → take m (drop n (a ++ b ++ c)) ≡ b
middle_of a b c n m first second =
    ap (λ xs. take m (drop n xs)) (append_assoc a b c) ∙ (ap (take m) (drop_at a (b ++ c) n first) ∙ take_at b c m second)

-- a part of zeros that stand behind a piece
zeros_behind : (front zeros : List ℕ) (n m total at place : ℕ) → zeros ≡ replicate total 0 → length front ≡ n → place ≡ n + at → at + m ≤ total
    → take m (drop place (front ++ zeros)) ≡ replicate m 0
zeros_behind front zeros n m total at place are size is within =
    let there : place ≡ length front + at = omega arith in
    ap (λ k. take m (drop k (front ++ zeros))) there ∙ (ap (take m) (drop-append-add front zeros at)
    ∙ (ap (λ xs. take m (drop at xs)) are ∙ (ap (take m) (drop-replicate at total 0) ∙ take-replicate m (total - at) 0 (omega arith))))

-- a byte of the gates behind the made byte
gate_byte : (made i n : ℕ) (zeros rest : List ℕ) → zeros ≡ replicate n 0 → suc i < n → get_or ((made ∷ drop 1 zeros) ++ rest) (suc i) 0 ≡ 0
gate_byte made i n zeros rest are lt =
    let size : suc i < length (made ∷ drop 1 zeros) = omega (arith, ap length are, length-replicate {A = ℕ} n 0, length-drop 1 zeros) in
    get_or_append_left (made ∷ drop 1 zeros) rest 0 (suc i) size
    ∙ (get_or_after_one zeros i 0 ∙ (ap (λ xs. get_or xs (1 + i) 0) are ∙ get_or-replicate n (1 + i) 0 0 (omega arith)))

-- the pages of a file whose gate is closed are its home pages
pub page_closed : (file : List ℕ) (p : ℕ) → IsFalse (is_open file) → page_of file p ≡ home_page file p
page_closed file p closed = ap (λ gate. unwrap_or (image_of (if gate then journal_of file else []) p) (home_page file p)) closed

-- the birth page is where it belongs
pub fresh_birth : (extents extent_pages : ℕ) → file_page (fresh_file extents extent_pages) 1 ≡ birth_page extents extent_pages
fresh_birth extents extent_pages =
    second_of (gates 77) (birth_page extents extent_pages) (zero_pages 64) (root_page extents) (zero_pages (16 + map_pages extents)) 4096 4096 (length-gates 77) (length-birth_page extents extent_pages)

-- so is the root page
pub fresh_root : (extents extent_pages : ℕ) → home_page (fresh_file extents extent_pages) 0 ≡ root_page extents
fresh_root extents extent_pages =
    middle_of (front_with 77 extents extent_pages) (root_page extents) (zero_pages (16 + map_pages extents)) 270336 4096 (length-front_with 77 extents extent_pages) (length-root_page extents)

-- and the others are zeros
pub fresh_other : (extents extent_pages p : ℕ) → p < 16 + map_pages extents → home_page (fresh_file extents extent_pages) (suc p) ≡ zero_page
unfolding zero_pages
fresh_other extents extent_pages p lt =
    zeros_behind (up_to_root 77 extents extent_pages) (zero_pages (16 + map_pages extents)) 274432 4096 (4096 * (16 + map_pages extents)) (4096 * p) (home_start (suc p))
    refl (length-up_to_root 77 extents extent_pages) (omega arith) (omega arith) ∙ sym zero_page_is

-- its gate is closed
pub fresh_closed : (extents extent_pages : ℕ) → IsFalse (is_open (fresh_file extents extent_pages))
fresh_closed extents extent_pages =
    let whole : fresh_file extents extent_pages ≡ gates 77 ++ (birth_page extents extent_pages ++ zero_pages 64 ++ root_page extents ++ zero_pages (16 + map_pages extents)) = five_parts (gates 77) (birth_page extents extent_pages) (zero_pages 64) (root_page extents) (zero_pages (16 + map_pages extents)) in
    let byte : get_or (fresh_file extents extent_pages) 512 0 ≡ 0 = ap (λ xs. get_or xs 512 0) whole ∙ gate_byte 77 511 4096 zero_page (birth_page extents extent_pages ++ zero_pages 64 ++ root_page extents ++ zero_pages (16 + map_pages extents)) zero_page_is (omega arith) in
    ap (λ b. nat_eq b 79) byte

-- the page count of a root page
pub root_states : (extents : ℕ) → first_count extents < 4294967296 → stated_in (root_page extents) ≡ first_count extents
root_states extents fits = from_be_bytes-to_be_bytes_4 (first_count extents) fits

-- a page that is a birth page of a shape
pub is_birth : (extents extent_pages : ℕ) (page : List ℕ) → extents < 4294967296 → extent_pages < 4294967296 → IsTrue (is_shape extents extent_pages) → page ≡ birth_page extents extent_pages
    → IsBirth page × (extents_in page ≡ extents) × (extent_pages_in page ≡ extent_pages)
is_birth extents extent_pages page first second shape is =
    let e : extents_in page ≡ extents = ap extents_in is ∙ big_number-reads_back 4 extents (big_bytes 4 extent_pages ++ drop 16 zero_page) first in
    let p : extent_pages_in page ≡ extent_pages = ap extent_pages_in is ∙ big_number-reads_back 4 extent_pages (drop 16 zero_page) second in (
      record {
        limits = ap (λ x. is_shape x (extent_pages_in page)) e ∙ (ap (λ y. is_shape extents y) p ∙ shape);
        bytes = is ∙ (ap (λ x. birth_page x extent_pages) (sym e) ∙ ap (λ y. birth_page (extents_in page) y) (sym p));
      },
      e,
      p,
    )

-- each page of a fresh file
fresh_page : (extents extent_pages p : ℕ) (pages : List (List ℕ)) (d : List ℕ) → pages ≡ root_page extents ∷ replicate (16 + map_pages extents) zero_page → p < first_count extents
    → page_of (fresh_file extents extent_pages) p ≡ get_or pages p d
fresh_page extents extent_pages zero pages d are lt =
    page_closed (fresh_file extents extent_pages) 0 (fresh_closed extents extent_pages) ∙ (fresh_root extents extent_pages ∙ ap (λ xs. get_or xs 0 d) (sym are))
fresh_page extents extent_pages (suc p) pages d are lt =
    page_closed (fresh_file extents extent_pages) (suc p) (fresh_closed extents extent_pages)
    ∙ (fresh_other extents extent_pages p (omega arith) ∙ (sym (get_or-replicate (16 + map_pages extents) p zero_page d (omega arith)) ∙ ap (λ xs. get_or xs (suc p) d) (sym are)))

-- all pages of a fresh file
fresh_pages : (extents extent_pages count : ℕ) → count ≡ first_count extents
    → map (page_of (fresh_file extents extent_pages)) (range_with_len 0 count) ≡ root_page extents ∷ replicate (16 + map_pages extents) zero_page
fresh_pages extents extent_pages count is =
    same_lists (map (page_of (fresh_file extents extent_pages)) (range_with_len 0 count)) (root_page extents ∷ replicate (16 + map_pages extents) zero_page)
    (length-map-range_with_len (page_of (fresh_file extents extent_pages)) 0 count ∙ omega (arith, length-replicate {A = List ℕ} (16 + map_pages extents) zero_page))
    (λ k d lt.
    let below : k < count = omega (arith, length-map-range_with_len (page_of (fresh_file extents extent_pages)) 0 count) in
    get_or-map-range_with_len (page_of (fresh_file extents extent_pages)) 0 count k k d below (omega arith)
    ∙ fresh_page extents extent_pages k (root_page extents ∷ replicate (16 + map_pages extents) zero_page) d refl (omega arith))

-- no extent more
no_more : (count pages : ℕ) → count ≡ count + 0 * pages
no_more count pages = omega arith

-- A fresh file is formed, can be served, and has the root page and pages of zeros.
pub fresh_is_empty : (extents extent_pages : ℕ) → extents < 4294967296 → extent_pages < 4294967296 → IsTrue (is_shape extents extent_pages) → IsEmptyDatabase extents (fresh_file extents extent_pages)
fresh_is_empty extents extent_pages first second shape =
    let file : List ℕ = fresh_file extents extent_pages in
    let closed : IsFalse (is_open (fresh_file extents extent_pages)) = fresh_closed extents extent_pages in
    let root : page_of (fresh_file extents extent_pages) 0 ≡ root_page extents = page_closed (fresh_file extents extent_pages) 0 closed ∙ fresh_root extents extent_pages in
    let count : count_of (fresh_file extents extent_pages) ≡ first_count extents = ap stated_in root ∙ root_states extents (omega arith) in
    let size : length (fresh_file extents extent_pages) ≡ fresh_len extents = length-file_with 77 extents extent_pages in
    let birth = is_birth extents extent_pages (file_page (fresh_file extents extent_pages) 1) first second shape (fresh_birth extents extent_pages) in
    let whole : home_start (count_of (fresh_file extents extent_pages)) ≤ length (fresh_file extents extent_pages) = omega arith in
    let version : version_of (fresh_file extents extent_pages) ≡ 1 = ap (λ page. big_number 4 (drop 4 page)) root ∙ big_number-reads_back 4 1 (big_bytes 4 (first_count extents) ++ drop 12 zero_page) (lit< tt) in
    let pages : pages_in (fresh_file extents extent_pages) ≡ root_page extents ∷ replicate (16 + map_pages extents) zero_page = fresh_pages extents extent_pages (count_of (fresh_file extents extent_pages)) count in
    record {
      formed = record { made = refl; birth = birth.0; journal = λ opened. absurd (cc); whole = whole };
      served = (
        (omega arith, refl),
        birth.0,
        record {
          journal = λ opened. absurd (cc);
          root = record {
            size = ap length root ∙ length-root_page extents;
            begins = ap (take 4) root;
            counts = (0, omega arith, ap stated_in root ∙ (root_states extents (omega arith) ∙ (ap first_count (sym birth.1) ∙ no_more (first_count (extents_in (file_page (fresh_file extents extent_pages) 1))) (extent_pages_in (file_page (fresh_file extents extent_pages) 1)))));
          };
        },
        whole,
        version,
      );
      pages = pages;
    }
