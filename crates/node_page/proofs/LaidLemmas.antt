-- What the changes of bytes make of a page of head, body and zeros.
use Rattle.std.proofs.Common.{◌≡◌, ◌+◌, ◌-◌, ◌≤◌, ℕ, List, ◌++◌, length, take, drop, refl, ap, sym, ◌∙◌, arith, append_assoc, length-append}
use Rattle.std.proofs.lemmas.List.{take_at, drop_at, drop-drop, take-append-drop}
use Rattle.byteorder.specs.Endian.{big_bytes}
use Rattle.store_api.specs.StoreState.{patched, zero_page}
use Rattle.node_page.specs.Node.{node_head, filled_page}
use Rattle.node_page.specs.Slots.{opened_up, closed_up, blanked, with_count, zeros_between}
use Rattle.node_page.specs.Laid.{laid}

-- what is left behind two parts
drop_two : (a b c : List ℕ) (n : ℕ) → length a + length b ≡ n → drop n (a ++ (b ++ c)) ≡ c
drop_two a b c n is = ap (λ xs. drop n xs) (sym (append_assoc a b c)) ∙ drop_at (a ++ b) c n (length-append a b ∙ is)

-- bytes that are put in between two parts
opened_parts : (a b c x : List ℕ) (at end : ℕ) → length a ≡ at → at + length b ≡ end → opened_up at end x (a ++ (b ++ c)) ≡ a ++ (x ++ (b ++ drop (length x) c))
opened_parts a b c x at end front back =
    let before : take at (a ++ (b ++ c)) ≡ a = take_at a (b ++ c) at front in
    let behind : drop at (a ++ (b ++ c)) ≡ b ++ c = drop_at a (b ++ c) at front in
    let moved : take (end - at) (b ++ c) ≡ b = take_at b c (end - at) (omega arith) in
    let last : drop end (a ++ (b ++ c)) ≡ c = drop_two a b c end (omega arith) in
    let rest : drop (end + length x) (a ++ (b ++ c)) ≡ drop (length x) c = sym (drop-drop (length x) end (a ++ (b ++ c))) ∙ ap (drop (length x)) last in
    rw (before, behind, moved, rest) (simp append_assoc)

-- bytes that are taken out between two parts
closed_parts : (a x b c : List ℕ) (at n end : ℕ) → length a ≡ at → length x ≡ n → at + n + length b ≡ end
    → closed_up at n end (a ++ (x ++ (b ++ c))) ≡ a ++ (b ++ (zeros_between (end - n) end ++ c))
closed_parts a x b c at n end front out back =
    let before : take at (a ++ (x ++ (b ++ c))) ≡ a = take_at a (x ++ (b ++ c)) at front in
    let behind : drop (at + n) (a ++ (x ++ (b ++ c))) ≡ b ++ c = drop_two a x (b ++ c) (at + n) (omega arith) in
    let moved : take (end - (at + n)) (b ++ c) ≡ b = take_at b c (end - (at + n)) (omega arith) in
    let rest : drop end (a ++ (x ++ (b ++ c))) ≡ c =
    ap (λ xs. drop end (a ++ xs)) (sym (append_assoc x b c)) ∙ drop_two a (x ++ b) c end (omega (arith, length-append x b)) in
    rw (before, behind, moved, rest) (simp append_assoc)

-- zeros over a part
blanked_parts : (a b c : List ℕ) (from end : ℕ) → length a ≡ from → from + length b ≡ end → blanked from end (a ++ (b ++ c)) ≡ a ++ (zeros_between from end ++ c)
blanked_parts a b c from end front back =
    let before : take from (a ++ (b ++ c)) ≡ a = take_at a (b ++ c) from front in
    let rest : drop end (a ++ (b ++ c)) ≡ c = drop_two a b c end (omega arith) in
    rw (before, rest) (append_assoc a (zeros_between from end) c)

-- bytes over a part
patched_parts : (a b c x : List ℕ) (at : ℕ) → length a ≡ at → length b ≡ length x → patched at x (a ++ (b ++ c)) ≡ a ++ (x ++ c)
patched_parts a b c x at front same =
    let before : take at (a ++ (b ++ c)) ≡ a = take_at a (b ++ c) at front in
    let rest : drop (at + length x) (a ++ (b ++ c)) ≡ c = drop_two a b c (at + length x) (omega arith) in
    rw (before, rest) (append_assoc a x c)

-- zeros up to the zeros
zeros_join : (from end : ℕ) → from ≤ end → zeros_between from end ++ drop end zero_page ≡ drop from zero_page
zeros_join from end le =
    let there : from + (end - from) ≡ end = omega arith in
    let rest : drop end zero_page ≡ drop (end - from) (drop from zero_page) = ap (λ k. drop k zero_page) (sym there) ∙ sym (drop-drop (end - from) from zero_page) in
    rw rest (take-append-drop (end - from) (drop from zero_page))

-- another count in a head
counted_head : (mark width n k child : ℕ) (rest : List ℕ) → with_count k (node_head mark width n child ++ rest) ≡ node_head mark width k child ++ rest
counted_head mark width n k child rest = refl

-- another first child in a head
pub headed : (mark width n child other : ℕ) (body : List ℕ) → patched 8 (big_bytes 4 other) (laid mark width n child body) ≡ laid mark width n other body
headed mark width n child other body = refl

-- a body in two parts stands behind the head and before the zeros
pub laid_parts : (mark width n child : ℕ) (p q : List ℕ)
    → laid mark width n child (p ++ q) ≡ (node_head mark width n child ++ p) ++ (q ++ drop (16 + (length p + length q)) zero_page)
laid_parts mark width n child p q = rw (length-append p q, append_assoc p q) (sym (append_assoc (node_head mark width n child) p (q ++ drop (16 + (length p + length q)) zero_page)))

-- a page is the head and the body, and then zeros
pub laid_page : (mark width n child : ℕ) (body : List ℕ) → filled_page (node_head mark width n child ++ body) ≡ laid mark width n child body
laid_page mark width n child body =
    append_assoc (node_head mark width n child) body (drop (length (node_head mark width n child ++ body)) zero_page)
    ∙ ap (λ k. node_head mark width n child ++ (body ++ drop k zero_page)) (length-append (node_head mark width n child) body)

-- one more is put in
pub laid_in : (mark width n k child : ℕ) (p q x : List ℕ) (at end : ℕ) → 16 + length p ≡ at → at + length q ≡ end
    → with_count k (opened_up at end x (laid mark width n child (p ++ q))) ≡ laid mark width k child (p ++ (x ++ q))
laid_in mark width n k child p q x at end front back =
    let head = node_head mark width n child in
    let zeros = drop (16 + (length p + length q)) zero_page in
    let wide : length (head ++ p) ≡ at = length-append head p ∙ front in
    let made : opened_up at end x (laid mark width n child (p ++ q)) ≡ head ++ (p ++ (x ++ (q ++ drop (length x) zeros))) =
    ap (opened_up at end x) (laid_parts mark width n child p q) ∙ opened_parts (head ++ p) q zeros x at end wide back ∙ append_assoc head p (x ++ (q ++ drop (length x) zeros)) in
    let less : drop (length x) zeros ≡ drop (16 + length (p ++ (x ++ q))) zero_page =
    drop-drop (length x) (16 + (length p + length q)) zero_page ∙ ap (λ i. drop i zero_page) (omega (arith, length-append p (x ++ q), length-append x q)) in
    ap (with_count k) made ∙ counted_head mark width n k child (p ++ (x ++ (q ++ drop (length x) zeros)))
    ∙ ap (λ z. node_head mark width k child ++ (p ++ (x ++ (q ++ z)))) less
    ∙ ap (λ xs. node_head mark width k child ++ xs) (sym (append_assoc p (x ++ q) (drop (16 + length (p ++ (x ++ q))) zero_page) ∙ ap (λ xs. p ++ xs) (append_assoc x q (drop (16 + length (p ++ (x ++ q))) zero_page))))

-- one is taken out
pub laid_out : (mark width n k child : ℕ) (p x q : List ℕ) (at m end : ℕ) → 16 + length p ≡ at → length x ≡ m → at + m + length q ≡ end
    → with_count k (closed_up at m end (laid mark width n child (p ++ (x ++ q)))) ≡ laid mark width k child (p ++ q)
laid_out mark width n k child p x q at m end front out back =
    let head = node_head mark width n child in
    let zeros = drop end zero_page in
    let wide : length (head ++ p) ≡ at = length-append head p ∙ front in
    let count : 16 + (length p + length (x ++ q)) ≡ end = omega (arith, length-append x q) in
    let form : laid mark width n child (p ++ (x ++ q)) ≡ (head ++ p) ++ (x ++ (q ++ zeros)) =
    laid_parts mark width n child p (x ++ q) ∙ ap (λ i. (head ++ p) ++ ((x ++ q) ++ drop i zero_page)) count ∙ ap (λ xs. (head ++ p) ++ xs) (append_assoc x q zeros) in
    let less : zeros_between (end - m) end ++ zeros ≡ drop (16 + (length p + length q)) zero_page =
    zeros_join (end - m) end (omega arith) ∙ ap (λ i. drop i zero_page) (omega arith) in
    ap (λ xs. with_count k (closed_up at m end xs)) form
    ∙ ap (with_count k) (closed_parts (head ++ p) x q zeros at m end wide out back ∙ ap (λ z. (head ++ p) ++ (q ++ z)) less ∙ sym (laid_parts mark width n child p q))
    ∙ counted_head mark width n k child ((p ++ q) ++ drop (16 + length (p ++ q)) zero_page)

-- what stands behind is cut off
pub laid_cut : (mark width n k child : ℕ) (p q : List ℕ) (from end : ℕ) → 16 + length p ≡ from → from + length q ≡ end
    → with_count k (blanked from end (laid mark width n child (p ++ q))) ≡ laid mark width k child p
laid_cut mark width n k child p q from end front back =
    let head = node_head mark width n child in
    let zeros = drop end zero_page in
    let wide : length (head ++ p) ≡ from = length-append head p ∙ front in
    let form : laid mark width n child (p ++ q) ≡ (head ++ p) ++ (q ++ zeros) =
    laid_parts mark width n child p q ∙ ap (λ i. (head ++ p) ++ (q ++ drop i zero_page)) (omega arith) in
    let less : zeros_between from end ++ zeros ≡ drop (16 + length p) zero_page =
    zeros_join from end (omega arith) ∙ ap (λ i. drop i zero_page) (sym front) in
    ap (λ xs. with_count k (blanked from end xs)) form
    ∙ ap (with_count k) (blanked_parts (head ++ p) q zeros from end wide back ∙ ap (λ z. (head ++ p) ++ z) less ∙ append_assoc head p (drop (16 + length p) zero_page))
    ∙ counted_head mark width n k child (p ++ drop (16 + length p) zero_page)

-- one is written over
pub laid_over : (mark width n child : ℕ) (p x q y : List ℕ) (at : ℕ) → 16 + length p ≡ at → length x ≡ length y
    → patched at y (laid mark width n child (p ++ (x ++ q))) ≡ laid mark width n child (p ++ (y ++ q))
laid_over mark width n child p x q y at front same =
    let head = node_head mark width n child in
    let wide : length (head ++ p) ≡ at = length-append head p ∙ front in
    let zeros = drop (16 + (length p + length (x ++ q))) zero_page in
    let count : 16 + (length p + length (x ++ q)) ≡ 16 + (length p + length (y ++ q)) = omega (arith, length-append x q, length-append y q) in
    ap (patched at y) (laid_parts mark width n child p (x ++ q) ∙ ap (λ xs. (head ++ p) ++ xs) (append_assoc x q zeros))
    ∙ patched_parts (head ++ p) x (q ++ zeros) y at wide same
    ∙ ap (λ i. (head ++ p) ++ (y ++ (q ++ drop i zero_page))) count
    ∙ ap (λ xs. (head ++ p) ++ xs) (sym (append_assoc y q (drop (16 + (length p + length (y ++ q))) zero_page)))
    ∙ sym (laid_parts mark width n child p (y ++ q))
