-- Bytes that are written at the end, and parts that two lists of bytes share.
use Rattle.std.proofs.Common.{◌≡◌, ◌≤◌, ◌<◌, ◌+◌, ◌-◌, ℕ, List, [], ◌++◌, length, take, drop, get_or, min, replicate, arith, ap, sym, ◌∙◌, append_assoc, append-nil, length-append}
use Rattle.std.proofs.lemmas.List.{take_all, drop_all, replicate-append-replicate, length-replicate, ext_get_or, length-take, length-drop, get_or-take, get_or-drop}
use Rattle.byteorder.specs.Endian.{big_number}
use Rattle.byteorder.specs.Numbers.{big_from-take}
use Rattle.mdc_outside.specs.Disk.{overwritten}

-- a piece that is written at the end
pub overwritten_end : (at : ℕ) (piece bytes : List ℕ) → at ≡ length bytes → overwritten at piece bytes ≡ bytes ++ piece
overwritten_end at piece bytes end =
    let all : take at bytes ≡ bytes = take_all at bytes (omega arith) in
    let none : drop (at + length piece) bytes ≡ [] = drop_all (at + length piece) bytes (omega arith) in
    rw (all, none) (append-nil (bytes ++ piece))

-- zeros behind zeros
pub more_zeros : (old mid : List ℕ) (at from n : ℕ) → mid ≡ old ++ replicate (at - from) 0 → from ≡ length old → from ≤ at
    → overwritten at (replicate n 0) mid ≡ old ++ replicate (at + n - from) 0
more_zeros old mid at from n is start le =
    let size : at ≡ length mid = omega (arith, ap length is, length-append old (replicate (at - from) 0), length-replicate {A = ℕ} (at - from) 0) in
    let count : at - from + n ≡ at + n - from = omega arith in
    overwritten_end at (replicate n 0) mid size
    ∙ (ap (λ bytes. bytes ++ replicate n 0) is ∙ (append_assoc old (replicate (at - from) 0) (replicate n 0)
    ∙ ap (λ zeros. old ++ zeros) (replicate-append-replicate (at - from) n 0 ∙ ap (λ k. replicate k 0) count)))

-- a part whose bytes are the same
pub same_part : (at k : ℕ) (a b : List ℕ) → min (at + k) (length a) ≡ min (at + k) (length b)
    → ((i : ℕ) → at ≤ i → i < at + k → i < length b → get_or a i 0 ≡ get_or b i 0) → take k (drop at a) ≡ take k (drop at b)
same_part at k a b size same =
    let long : length (take k (drop at a)) ≡ length (take k (drop at b)) =
    omega (arith, length-take k (drop at a), length-drop at a, length-take k (drop at b), length-drop at b) in
    ext_get_or 0 (take k (drop at a)) (take k (drop at b)) long (λ i lt.
    let inside : i < k = omega (arith, length-take k (drop at a)) in
    let within : at + i < length b = omega (arith, length-take k (drop at b), length-drop at b) in
    get_or-take k (drop at a) i 0 inside ∙ (get_or-drop at a i 0 ∙ (same (at + i) (omega arith) (omega arith) within
    ∙ sym (get_or-take k (drop at b) i 0 inside ∙ get_or-drop at b i 0))))

-- files of one length whose bytes are the same from a place on
pub same_behind : (at : ℕ) (a b : List ℕ) → length a ≡ length b → ((i : ℕ) → at ≤ i → i < length b → get_or a i 0 ≡ get_or b i 0)
    → drop at a ≡ drop at b
same_behind at a b size same =
    ext_get_or 0 (drop at a) (drop at b) (omega (arith, length-drop at a, length-drop at b)) (λ i lt.
    get_or-drop at a i 0 ∙ (same (at + i) (omega arith) (omega (arith, length-drop at a)) ∙ sym (get_or-drop at b i 0)))

-- a number is that of its four bytes
pub same_number : (at : ℕ) (a b : List ℕ) → take 4 (drop at a) ≡ take 4 (drop at b) → big_number 4 (drop at a) ≡ big_number 4 (drop at b)
same_number at a b same =
    sym (big_from-take 0 4 4 (drop at a) (omega arith)) ∙ (ap (big_number 4) same ∙ big_from-take 0 4 4 (drop at b) (omega arith))
