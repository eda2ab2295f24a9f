-- Bytes that are written behind others.
use Rattle.std.proofs.Common.{◌≡◌, ◌≤◌, ◌<◌, ◌+◌, ◌-◌, ◌*◌, ℕ, List, [], ◌∷◌, ◌++◌, length, take, drop, arith, refl, ap, sym, subst, ◌∙◌, append_assoc, append-nil, length-append, length-drop, min, slice_get, get_or, Some, zero, suc, add-one}
use Rattle.std.proofs.lemmas.List.{take_all, drop_all, length-replicate, take_at, length-take-le}
use Rattle.std.proofs.lemmas.Grind.{common_steps, flat_map-append}
use Rattle.std.proofs.lemmas.List.{drop-drop, drop_at, take_min, length-take}
use Rattle.std.proofs.lemmas.Option.{slice_get_within, get_or_from_slice_get}
use borrow.Rule.Slice.PartMut.{put_mid, mid_of}
use Rattle.byteorder.specs.Endian.{big_bytes}
use Rattle.store_api.specs.StoreState.{zero_page}
use Rattle.std.specs.List.{All}
use Rattle.mdc_outside.specs.Disk.{overwritten}
use Rattle.redo_journal.specs.Images.{Numbered, IsPageImage}
use Rattle.redo_journal.specs.Pieces.{Replaces, number_bytes, page_bytes, chunk, index_page, index_bytes}
use Rattle.redo_journal.proofs.RisingLemmas.{All-rest, All-one}
use Rattle.std.proofs.lemmas.List.Elements.{All-append}

-- nothing is replaced yet
pub replaces_nothing : (at : ℕ) (bytes : List ℕ) → Replaces at [] bytes bytes
replaces_nothing at bytes = (drop at bytes, grind (arith, common_steps))

-- one piece more, behind what was replaced so far
pub replaces_more : (at place : ℕ) (sofar piece old mid : List ℕ) → at ≤ length old → place ≡ at + length sofar → Replaces at sofar old mid
    → Replaces at (sofar ++ piece) old (overwritten place piece mid)
replaces_more at place sofar piece old mid le is (rest, was) =
    let front : take place mid ≡ take at old ++ sofar = ap (take place) was ∙ take_at (take at old ++ sofar) rest place (omega (arith, length-append (take at old) sofar, length-take-le at old le)) in
    (drop (place + length piece) mid, rw front (ap (λ bytes. bytes ++ drop (place + length piece) mid) (append_assoc (take at old) sofar piece)))

-- a write to the rest of a page, from a place on
pub put_bytes : (page buf bytes : List ℕ) (at n : ℕ) → length page ≡ n → at + 4 ≤ n → length bytes ≡ 4 → buf ≡ bytes ++ drop 4 (mid_of at (n - at) page)
    → put_mid at (n - at) page buf ≡ take at page ++ bytes ++ drop (at + 4) page
put_bytes page buf bytes at n size fits four is =
    let all : mid_of at (n - at) page ≡ drop at page = take_all (n - at) (drop at page) (omega (arith, length-drop at page)) in
    let none : drop (n - at) (drop at page) ≡ [] = drop_all (n - at) (drop at page) (omega (arith, length-drop at page)) in
    let rest : drop 4 (drop at page) ≡ drop (at + 4) page = drop-drop 4 at page in
    let whole : buf ≡ bytes ++ drop (at + 4) page = is ∙ ap (λ xs. bytes ++ xs) (ap (drop 4) all ∙ rest) in
    ap (λ xs. take at page ++ (buf ++ xs)) none ∙ (ap (λ xs. take at page ++ xs) (append-nil buf ∙ whole) ∙ sym (append_assoc (take at page) bytes (drop (at + 4) page)))

-- the first k elements from a place on, and the next
pub take_next : {X : Type 0} (xs : List X) (first k : ℕ) (x : X) → slice_get xs (first + k) ≡ Some x → take (k + 1) (drop first xs) ≡ take k (drop first xs) ++ x ∷ []
take_next xs first k x is =
    let lt : first + k < length xs = slice_get_within xs (first + k) x is in
    let here : get_or xs (first + k) x ≡ x = get_or_from_slice_get xs (first + k) x x is in
    grind (arith, common_steps)

-- each number has four bytes
pub length-number_bytes : (images : Numbered) → length (number_bytes images) ≡ 4 * length images
length-number_bytes [] = refl
length-number_bytes (image ∷ images) = simp (length-append, length-number_bytes images) (omega arith)

-- the numbers of two lists
pub number_bytes-append : (xs ys : Numbered) → number_bytes (xs ++ ys) ≡ number_bytes xs ++ number_bytes ys
number_bytes-append xs ys = flat_map-append (λ image. big_bytes 4 image.0) xs ys

-- one number more in an index page
pub next_number : (images : Numbered) (first k : ℕ) (x : ℕ × List ℕ) (zeros page new : List ℕ) → slice_get images (first + k) ≡ Some x
    → page ≡ number_bytes (take k (drop first images)) ++ drop (4 * k) zeros
    → new ≡ take (4 * k) page ++ big_bytes 4 x.0 ++ drop (4 * k + 4) page
    → new ≡ number_bytes (take (k + 1) (drop first images)) ++ drop (4 * (k + 1)) zeros
next_number images first k x zeros page new is was now =
    let lt : first + k < length images = slice_get_within images (first + k) x is in
    let N : List ℕ = number_bytes (take k (drop first images)) in
    let size : length (number_bytes (take k (drop first images))) ≡ 4 * k = length-number_bytes (take k (drop first images)) ∙ ap (λ n. 4 * n) (length-take-le k (drop first images) (omega (arith, length-drop first images))) in
    let front : take (4 * k) page ≡ number_bytes (take k (drop first images)) = ap (take (4 * k)) was ∙ take_at (number_bytes (take k (drop first images))) (drop (4 * k) zeros) (4 * k) size in
    let count : 4 * k + 4 ≡ 4 * (k + 1) = omega arith in
    let rest : drop (4 * k + 4) page ≡ drop (4 * (k + 1)) zeros =
    ap (drop (4 * k + 4)) was ∙ (sym (drop-drop 4 (4 * k) (number_bytes (take k (drop first images)) ++ drop (4 * k) zeros))
    ∙ (ap (drop 4) (drop_at (number_bytes (take k (drop first images))) (drop (4 * k) zeros) (4 * k) size) ∙ (drop-drop 4 (4 * k) zeros ∙ ap (λ n. drop n zeros) count))) in
    let numbers : number_bytes (take (k + 1) (drop first images)) ≡ number_bytes (take k (drop first images)) ++ big_bytes 4 x.0 =
    ap number_bytes (take_next images first k x is) ∙ number_bytes-append (take k (drop first images)) (x ∷ []) in
    now ∙ (rw (front, rest, numbers))

-- as many numbers as there are, and no more than a page has
pub whole_index : (xs : Numbered) (k n : ℕ) (zeros page : List ℕ) → k ≡ min n (length xs) → page ≡ number_bytes (take k xs) ++ drop (4 * k) zeros
    → page ≡ number_bytes (take n xs) ++ drop (4 * length (take n xs)) zeros
whole_index xs k n zeros page is was =
    let same : take k xs ≡ take n xs = ap (λ m. take m xs) is ∙ take_min n xs in
    let count : k ≡ length (take n xs) = is ∙ sym (length-take n xs) in
    was ∙ (ap (λ ys. number_bytes ys ++ drop (4 * k) zeros) same ∙ ap (λ m. number_bytes (take n xs) ++ drop (4 * m) zeros) count)

-- one piece more, by what was made of the bytes
pub replaces_step : (at place : ℕ) (sofar piece whole old mid new : List ℕ) → at ≤ length old → place ≡ at + length sofar → whole ≡ sofar ++ piece
    → Replaces at sofar old mid → new ≡ overwritten place piece mid → Replaces at whole old new
replaces_step at place sofar piece whole old mid new le is all was now =
    let more = replaces_more at place sofar piece old mid le is was in
    (more.0, now ∙ (more.1 ∙ ap (λ bytes. take at old ++ bytes ++ more.0) (sym all)))

-- what was replaced lies within the file
pub replaces_length : (at : ℕ) (piece old new : List ℕ) → at ≤ length old → Replaces at piece old new → at + length piece ≤ length new
replaces_length at piece old new le (rest, is) =
    omega (arith, ap length is, length-append (take at old ++ piece) rest, length-append (take at old) piece, length-take-le at old le)

-- a write makes no file shorter
pub overwritten_length : (at : ℕ) (piece bytes : List ℕ) → at ≤ length bytes → length bytes ≤ length (overwritten at piece bytes)
overwritten_length at piece bytes le =
    omega (arith, length-append (take at bytes ++ piece) (drop (at + length piece) bytes), length-append (take at bytes) piece, length-take-le at bytes le, length-drop (at + length piece) bytes)

-- an index page has the length of a page
pub length-index_page : (images : Numbered) → length images ≤ 1024 → length (index_page images) ≡ 4096
unfolding zero_page
length-index_page images few =
    let zeros : length zero_page ≡ 4096 = length-replicate {A = ℕ} 4096 0 in
    omega (arith, length-append (number_bytes images) (drop (4 * length images) zero_page), length-number_bytes images, length-drop (4 * length images) zero_page, zeros)

-- the first k index pages
pub length-index_bytes : (k : ℕ) (images : Numbered) → length (index_bytes k images) ≡ 4096 * k
length-index_bytes zero images = refl
length-index_bytes (suc k) images =
    let few : length (chunk (k * 1024) images) ≤ 1024 = omega (arith, length-take 1024 (drop (k * 1024) images)) in
    omega (arith, length-append (index_bytes k images) (index_page (chunk (k * 1024) images)), length-index_bytes k images, length-index_page (chunk (k * 1024) images) few)

-- one index page more
pub next_index : (k : ℕ) (images : Numbered) → index_bytes (k + 1) images ≡ index_bytes k images ++ index_page (chunk (k * 1024) images)
next_index k images = rw (add-one k) refl

-- the pages of images, one after the other
pub length-page_bytes : (images : Numbered) → All IsPageImage images → length (page_bytes images) ≡ 4096 * length images
length-page_bytes [] all = refl
length-page_bytes (image ∷ images) all =
    let rest : length (page_bytes images) ≡ 4096 * length images = length-page_bytes images (All-rest IsPageImage image images all) in
    let first : length image.1 ≡ 4096 = (all 0 image (omega arith)).1 in
    omega (arith, length-append image.1 (page_bytes images), rest, first)

-- the pages of the first images
pub length-first_pages : (images : Numbered) (i : ℕ) → All IsPageImage (take i images) → i ≤ length images → length (page_bytes (take i images)) ≡ 4096 * i
length-first_pages images i all le =
    let size : length (take i images) ≡ i = length-take-le i images le in
    length-page_bytes (take i images) all ∙ ap (λ n. 4096 * n) size

-- what holds of the first of a list, holds of one more
pub All-next : {X : Type 0} (P : X → Type 0) (xs : List X) (i : ℕ) (x : X) → All P (take i xs) → slice_get xs i ≡ Some x → P x → All P (take (i + 1) xs)
All-next P xs i x all is here =
    let zero_more : 0 + i ≡ i = omega arith in
    subst (All P) (sym (take_next xs 0 i x (rw zero_more is))) (All-append P (take i xs) (x ∷ []) all (All-one P x here))

-- one page more
pub next_page : (images : Numbered) (i : ℕ) (number : ℕ) (page : List ℕ) → slice_get images i ≡ Some (number, page) → page_bytes (take (i + 1) images) ≡ page_bytes (take i images) ++ page
next_page images i number page is =
    let zero_more : 0 + i ≡ i = omega arith in
    let next : take (i + 1) images ≡ take i images ++ (number, page) ∷ [] = take_next images 0 i (number, page) (rw zero_more is) in
    ap page_bytes next ∙ (flat_map-append (λ image. image.1) (take i images) ((number, page) ∷ []) ∙ ap (λ bytes. page_bytes (take i images) ++ bytes) (append-nil page))
