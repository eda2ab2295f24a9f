-- Bytes that are written into a page one part after another.
use Rattle.std.proofs.Common.{◌≡◌, ◌+◌, ◌-◌, ◌≤◌, ℕ, List, [], ◌++◌, length, take, drop, ap, sym, ◌∙◌, arith, append_assoc, length-append}
use Rattle.std.specs.List.{copy_within}
use Rattle.std.proofs.lemmas.List.{append-nil, take_at, drop_at, drop-drop, drop_all, take-take, take-append-le, length-take-le, length-drop, length-replicate}
use Rattle.store_api.specs.StoreState.{patched, zero_page}
use Rattle.node_page.specs.Slots.{opened_up}

-- a page of zeros has the length of a page
pub length-zeros : length zero_page ≡ 4096
unfolding zero_page
length-zeros = length-replicate {A = ℕ} 4096 0

-- one part behind another is both at once
pub patched_twice : (xs ys page : List ℕ) (at : ℕ) → at ≤ length page → patched (at + length xs) ys (patched at xs page) ≡ patched at (xs ++ ys) page
patched_twice xs ys page at le =
    let a = take at page in
    let r = drop (at + length xs) page in
    let long : length (a ++ xs) ≡ at + length xs = omega (arith, length-append a xs, length-take-le at page le) in
    let front : take (at + length xs) (a ++ xs ++ r) ≡ a ++ xs = take_at (a ++ xs) r (at + length xs) long in
    let rest : drop (at + length xs + length ys) (a ++ xs ++ r) ≡ drop (at + length (xs ++ ys)) page =
    sym (drop-drop (length ys) (at + length xs) (a ++ xs ++ r)) ∙ ap (drop (length ys)) (drop_at (a ++ xs) r (at + length xs) long)
    ∙ drop-drop (length ys) (at + length xs) page ∙ ap (λ i. drop i page) (omega (arith, length-append xs ys)) in
    rw (front, rest) (ap (λ zs. zs ++ drop (at + length (xs ++ ys)) page) (append_assoc a xs ys))

-- bytes that are written where a gap was made
pub gap_filled : (page bytes : List ℕ) (at end to : ℕ) → at ≤ end → at + length bytes ≡ to → to ≤ length page
    → patched at bytes (copy_within page at end to) ≡ opened_up at end bytes page
gap_filled page bytes at end to le there fits =
    let g = take to page in
    let m = take (end - at) (drop at page) in
    let t = drop (to + (end - at)) page in
    let long : length g ≡ to = length-take-le to page fits in
    let form : copy_within page at end to ≡ g ++ (m ++ t) = append_assoc g m t in
    let front : take at (g ++ (m ++ t)) ≡ take at page = take-append-le at g (m ++ t) (omega arith) ∙ take-take at to page (omega arith) in
    let rest : drop (at + length bytes) (g ++ (m ++ t)) ≡ m ++ t = drop_at g (m ++ t) (at + length bytes) (omega arith) in
    let last : t ≡ drop (end + length bytes) page = ap (λ i. drop i page) (omega arith) in
    ap (patched at bytes) form ∙ rw (front, rest) (sym (append_assoc (take at page ++ bytes) m t)) ∙ ap (λ zs. take at page ++ bytes ++ m ++ zs) last

-- a page that is written from its head to its zeros
pub laid_down : (page head slots : List ℕ) → length page ≡ 4096 → length head ≡ 16 → length slots ≤ 4080
    → patched (16 + length slots) (drop (16 + length slots) zero_page) (patched 16 slots (patched 0 head page)) ≡ head ++ (slots ++ drop (16 + length slots) zero_page)
laid_down page head slots long wide fits =
    let z = drop (16 + length slots) zero_page in
    let sixteen : 0 + length head ≡ 16 = omega arith in
    let behind : 0 + length (head ++ slots) ≡ 16 + length slots = omega (arith, length-append head slots) in
    let one : patched 16 slots (patched 0 head page) ≡ patched 0 (head ++ slots) page =
    ap (λ i. patched i slots (patched 0 head page)) (sym sixteen) ∙ patched_twice head slots page 0 (omega arith) in
    let two : patched (16 + length slots) z (patched 0 (head ++ slots) page) ≡ patched 0 (head ++ slots ++ z) page =
    ap (λ i. patched i z (patched 0 (head ++ slots) page)) (sym behind) ∙ patched_twice (head ++ slots) z page 0 (omega arith) in
    let none : drop (0 + length (head ++ slots ++ z)) page ≡ [] =
    drop_all (0 + length (head ++ slots ++ z)) page (omega (arith, long, wide, length-append (head ++ slots) z, length-append head slots, length-drop (16 + length slots) zero_page, length-zeros)) in
    ap (patched (16 + length slots) z) one ∙ two ∙ ap (λ zs. (head ++ slots ++ z) ++ zs) none ∙ append-nil (head ++ slots ++ z) ∙ append_assoc head slots z
