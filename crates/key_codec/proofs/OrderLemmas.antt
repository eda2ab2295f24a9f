-- The order of byte strings: what stands behind them, fronts, complements, and numbers.
use Rattle.std.proofs.Common.{◌≡◌, ℕ, zero, suc, ◌+◌, ◌-◌, ◌*◌, ◌%◌, ◌^◌, ◌<◌, ◌≤◌, List, [], ◌∷◌, ◌++◌, length, map, replicate, take, Bool, true, false, refl, sym, ap, ◌∙◌, arith, Ordering}
use Rattle.std.specs.Prelude.{not, nat_lt, ◌==◌, Some, None, Option, slice_index, if◌then◌else◌}
use Rattle.std.specs.declared.cmp.Ordering.TheVariants.{Less, Equal, Greater}
use Rattle.std.specs.Ordering.{nat_cmp, is_ge, is_gt, is_lt, ordering_then, ordering_reverse}
use Rattle.std.specs.Cmp.{then_flip}
use Rattle.std.specs.Cmp.Lexicographic.{slice_cmp}
use Rattle.std.specs.Int.{byte_at}
use Rattle.std.proofs.lemmas.Bool.Decides.{nat_tests}
use Rattle.std.proofs.lemmas.Cmp.{nat_cmp_total}
use Rattle.std.proofs.Math.Arith.{mod-mul}
use Rattle.std.proofs.Math.Nat.{mod-lt, mul-le-mul_right, pow-succ'}
use Rattle.byteorder.specs.Endian.{big_bytes}
use Rattle.mdc_words.specs.ByteOrder.{below}
use Rattle.key_codec.specs.Edges.{behind_front, front_order, is_past, put_before}
use Rattle.key_codec.specs.Spans.{reaches}
use Rattle.key_codec.specs.Keys.{AreBytes}

pub then-then : (o p q : Ordering) → ordering_then o (ordering_then p q) ≡ ordering_then (ordering_then o p) q
then-then Less p q = refl
then-then Equal p q = refl
then-then Greater p q = refl

pub then-Equal : (o : Ordering) → ordering_then o Equal ≡ o
then-Equal Less = refl
then-Equal Equal = refl
then-Equal Greater = refl

pub nat_cmp-same : (a : ℕ) → nat_cmp a a ≡ Equal
nat_cmp-same a = grind (arith, nat_tests)

pub slice_cmp-same : (x : List ℕ) → slice_cmp nat_cmp x x ≡ Equal
slice_cmp-same [] = refl
slice_cmp-same (b ∷ x) = rw (nat_cmp-same b) (slice_cmp-same x)

-- byte strings of one length decide before what follows them
pub slice_cmp-append : (x y r s : List ℕ) → length x ≡ length y → slice_cmp nat_cmp (x ++ r) (y ++ s) ≡ ordering_then (slice_cmp nat_cmp x y) (slice_cmp nat_cmp r s)
slice_cmp-append [] [] r s e = refl
slice_cmp-append [] (c ∷ y) r s e = absurd (omega (arith, e))
slice_cmp-append (b ∷ x) [] r s e = absurd (omega (arith, e))
slice_cmp-append (b ∷ x) (c ∷ y) r s e =
    ap (ordering_then (nat_cmp b c)) (slice_cmp-append x y r s (omega (arith, e))) ∙ then-then (nat_cmp b c) (slice_cmp nat_cmp x y) (slice_cmp nat_cmp r s)

-- ---- fronts

pub front_order-none : (x : List ℕ) → front_order x [] ≡ Equal
front_order-none [] = refl
front_order-none (b ∷ x) = refl

pub front_order-whole : (x y : List ℕ) → length x ≡ length y → front_order x y ≡ slice_cmp nat_cmp x y
front_order-whole [] [] e = refl
front_order-whole [] (c ∷ y) e = refl
front_order-whole (b ∷ x) [] e = absurd (omega (arith, e))
front_order-whole (b ∷ x) (c ∷ y) e = ap (ordering_then (nat_cmp b c)) (front_order-whole x y (omega (arith, e)))

-- what stands behind a front doesn't matter
pub front_order-append : (x front rest : List ℕ) → length front ≤ length x → front_order (x ++ rest) front ≡ front_order x front
front_order-append x [] rest le = front_order-none (x ++ rest) ∙ sym (front_order-none x)
front_order-append [] (c ∷ front) rest le = absurd (omega (arith, le))
front_order-append (b ∷ x) (c ∷ front) rest le = ap (ordering_then (nat_cmp b c)) (front_order-append x front rest (omega (arith, le)))

-- a bound is reached by all that is at or past it
pub reaches-front : (entry front : List ℕ) → reaches (Some front) entry ≡ is_ge (front_order entry front)
unfolding below
reaches-front [] [] = refl
reaches-front [] (c ∷ front) = refl
reaches-front (b ∷ entry) [] = refl
reaches-front (b ∷ entry) (c ∷ front) = first (nat_cmp b c) (slice_cmp nat_cmp entry front) (front_order entry front) (reaches-front entry front)
  where
    first : (o p q : Ordering) → not (is_lt p) ≡ is_ge q → not (is_lt (ordering_then o p)) ≡ is_ge (ordering_then o q)
    first Less p q h = refl
    first Equal p q h = h
    first Greater p q h = refl

-- one byte more before both
reaches-before : (b c : ℕ) (entry : List ℕ) (o : Option (List ℕ)) (past : Ordering) → b < 256 → reaches o entry ≡ is_gt past
    → reaches (put_before c o) (b ∷ entry) ≡ is_gt (ordering_then (nat_cmp b c) past)
unfolding below
reaches-before b c entry (Some bytes) past lt h = first (nat_cmp b c) (slice_cmp nat_cmp entry bytes) past h
  where
    first : (o p q : Ordering) → not (is_lt p) ≡ is_gt q → not (is_lt (ordering_then o p)) ≡ is_gt (ordering_then o q)
    first Less p q h = refl
    first Equal p q h = h
    first Greater p q h = refl
reaches-before b c entry None past lt h = by_full (c == 255) refl
  where
    none_below : (entry : List ℕ) → is_lt (slice_cmp nat_cmp entry []) ≡ false
    none_below [] = refl
    none_below (d ∷ entry) = refl

    at_next : (o : Ordering) (p : Ordering) → is_lt p ≡ false → not (is_lt (ordering_then o p)) ≡ is_ge o
    at_next Less p h = refl
    at_next Equal p h = rw h refl
    at_next Greater p h = refl

    beyond : (b c : ℕ) → is_ge (nat_cmp b (suc c)) ≡ is_gt (nat_cmp b c)
    beyond b c = grind (arith, nat_tests)

    none_past : (o p : Ordering) → false ≡ is_gt p → is_gt o ≡ is_gt (ordering_then o p)
    none_past Less p h = refl
    none_past Equal p h = h
    none_past Greater p h = refl

    never : (b c : ℕ) → b < 256 → (c == 255) ≡ true → false ≡ is_gt (nat_cmp b c)
    never b c lt full = grind (arith, nat_tests)

    by_full : (full : Bool) → (c == 255) ≡ full → reaches (if full then None else Some (suc c ∷ [])) (b ∷ entry) ≡ is_gt (ordering_then (nat_cmp b c) past)
    by_full false e = at_next (nat_cmp b (suc c)) (slice_cmp nat_cmp entry []) (none_below entry) ∙ beyond b c ∙ none_past (nat_cmp b c) past h
    by_full true e = never b c lt e ∙ none_past (nat_cmp b c) past h

-- the first byte string behind a front is reached by all that is past the front
pub reaches-behind_front : (entry front : List ℕ) → ((k : ℕ) → k < length front → slice_index entry k < 256) → reaches (behind_front front) entry ≡ is_gt (front_order entry front)
unfolding below
reaches-behind_front entry [] bytes = ap is_gt (sym (front_order-none entry))
reaches-behind_front [] (c ∷ front) bytes = nothing (behind_front front)
  where
    nothing : (o : Option (List ℕ)) → reaches (put_before c o) [] ≡ false
    nothing (Some bytes) = refl
    nothing None = by_full (c == 255)
      where
        by_full : (full : Bool) → reaches (if full then None else Some (suc c ∷ [])) [] ≡ false
        by_full true = refl
        by_full false = refl
reaches-behind_front (b ∷ entry) (c ∷ front) bytes =
    reaches-before b c entry (behind_front front) (front_order entry front) (bytes 0 (omega arith)) (reaches-behind_front entry front (λ k lt. bytes (suc k) (omega (arith, lt))))

-- a place before or behind a front
pub reaches-past : (behind : Bool) (entry front : List ℕ) → ((k : ℕ) → k < length front → slice_index entry k < 256)
    → reaches (if behind then behind_front front else Some front) entry ≡ is_past behind (front_order entry front)
reaches-past true entry front bytes = reaches-behind_front entry front bytes
reaches-past false entry front bytes = reaches-front entry front

-- ---- complements

nat_cmp-complement : (a b : ℕ) → a < 256 → b < 256 → nat_cmp (255 - a) (255 - b) ≡ ordering_reverse (nat_cmp a b)
nat_cmp-complement a b la lb = turned_round ∙ nat_cmp_total.antisymm b a
  where
    turned_round : nat_cmp (255 - a) (255 - b) ≡ nat_cmp b a
    turned_round = grind (arith, nat_tests)

pub front_order-complement : (x front : List ℕ) → length front ≤ length x → AreBytes x → AreBytes front
    → front_order (map (λ byte. 255 - byte) x) (map (λ byte. 255 - byte) front) ≡ ordering_reverse (front_order x front)
front_order-complement x [] le bx bf = front_order-none (map (λ byte. 255 - byte) x) ∙ ap ordering_reverse (sym (front_order-none x))
front_order-complement [] (c ∷ front) le bx bf = absurd (omega (arith, le))
front_order-complement (b ∷ x) (c ∷ front) le bx bf =
    ap (λ o. ordering_then o (front_order (map (λ byte. 255 - byte) x) (map (λ byte. 255 - byte) front))) (nat_cmp-complement b c (bx 0) (bf 0))
    ∙ ap (ordering_then (ordering_reverse (nat_cmp b c))) (front_order-complement x front (omega (arith, le)) (λ k. bx (suc k)) (λ k. bf (suc k)))
    ∙ then_flip (nat_cmp b c) (front_order x front)

-- ---- numbers

digits_cmp : (m h k r s : ℕ) → r < m → s < m → nat_cmp (h * m + r) (k * m + s) ≡ ordering_then (nat_cmp h k) (nat_cmp r s)
digits_cmp m h k r s lr ls = by (nat_lt h k) (nat_lt k h) refl refl
  where
    by : (a b : Bool) → nat_lt h k ≡ a → nat_lt k h ≡ b → nat_cmp (h * m + r) (k * m + s) ≡ ordering_then (nat_cmp h k) (nat_cmp r s)
    by true b ea eb =
        let lt : h + 1 ≤ k = grind (arith, nat_tests, ea) in
        let more : (h + 1) * m ≤ k * m = mul-le-mul_right m lt in
        let less : h * m + r < k * m + s = omega (arith, more, lr) in
        let first : nat_cmp h k ≡ Less = grind (arith, nat_tests, lt) in
        let whole : nat_cmp (h * m + r) (k * m + s) ≡ Less = grind (arith, nat_tests, less) in
        rw (first, whole) refl
    by false true ea eb =
        let lt : k + 1 ≤ h = grind (arith, nat_tests, eb) in
        let more : (k + 1) * m ≤ h * m = mul-le-mul_right m lt in
        let less : k * m + s < h * m + r = omega (arith, more, ls) in
        let first : nat_cmp h k ≡ Greater = grind (arith, nat_tests, lt) in
        let whole : nat_cmp (h * m + r) (k * m + s) ≡ Greater = grind (arith, nat_tests, less) in
        rw (first, whole) refl
    by false false ea eb =
        let same : h ≡ k = grind (arith, nat_tests, ea, eb) in
        let first : nat_cmp h k ≡ Equal = grind (arith, nat_tests, same) in
        let moved : nat_cmp (k * m + r) (k * m + s) ≡ nat_cmp r s = grind (arith, nat_tests) in
        rw (first, same) moved

pow_positive : (n : ℕ) → 0 < 256 ^ n
pow_positive zero = omega arith
pow_positive (suc n) = let before = pow_positive n in omega (arith, before)

-- the highest of n + 1 bytes, and the rest
top_byte : (n a : ℕ) → a % 256 ^ suc n ≡ byte_at n a * 256 ^ n + a % 256 ^ n
top_byte zero a = omega arith
top_byte (suc n) a = ap (λ m. a % m) (pow-succ' 256 (suc n)) ∙ mod-mul a (omega arith) (pow_positive (suc n))

-- bytes of numbers go as the numbers do
pub slice_cmp-big_bytes : (n a b : ℕ) → slice_cmp nat_cmp (big_bytes n a) (big_bytes n b) ≡ nat_cmp (a % 256 ^ n) (b % 256 ^ n)
slice_cmp-big_bytes zero a b = let ea : a % 1 ≡ 0 = omega arith in let eb : b % 1 ≡ 0 = omega arith in rw (ea, eb) refl
slice_cmp-big_bytes (suc n) a b =
    ap (ordering_then (nat_cmp (byte_at n a) (byte_at n b))) (slice_cmp-big_bytes n a b)
    ∙ sym (digits_cmp (256 ^ n) (byte_at n a) (byte_at n b) (a % 256 ^ n) (b % 256 ^ n) (mod-lt a (pow_positive n)) (mod-lt b (pow_positive n)))
    ∙ ap (λ x. nat_cmp x (byte_at n b * 256 ^ n + b % 256 ^ n)) (sym (top_byte n a))
    ∙ ap (nat_cmp (a % 256 ^ suc n)) (sym (top_byte n b))

byte_at-lt : (i a : ℕ) → byte_at i a < 256
byte_at-lt zero a = omega arith
byte_at-lt (suc i) a = omega arith

-- ---- bytes

pub AreBytes-none : (k : ℕ) → slice_index [] k < 256
AreBytes-none zero = omega arith
AreBytes-none (suc k) = omega arith

pub AreBytes-cons : (b : ℕ) (xs : List ℕ) → b < 256 → AreBytes xs → (k : ℕ) → slice_index (b ∷ xs) k < 256
AreBytes-cons b xs lt h zero = lt
AreBytes-cons b xs lt h (suc k) = h k

pub AreBytes-append : (xs ys : List ℕ) → AreBytes xs → AreBytes ys → AreBytes (xs ++ ys)
AreBytes-append [] ys hx hy = hy
AreBytes-append (x ∷ xs) ys hx hy = AreBytes-cons x (xs ++ ys) (hx 0) (AreBytes-append xs ys (λ k. hx (suc k)) hy)

pub AreBytes-take : (n : ℕ) (xs : List ℕ) → AreBytes xs → AreBytes (take n xs)
AreBytes-take zero xs h = AreBytes-none
AreBytes-take (suc n) [] h = AreBytes-none
AreBytes-take (suc n) (x ∷ xs) h = AreBytes-cons x (take n xs) (h 0) (AreBytes-take n xs (λ k. h (suc k)))

pub AreBytes-replicate : (n b : ℕ) → b < 256 → AreBytes (replicate n b)
AreBytes-replicate zero b lt = AreBytes-none
AreBytes-replicate (suc n) b lt = AreBytes-cons b (replicate n b) lt (AreBytes-replicate n b lt)

pub AreBytes-big_bytes : (n a : ℕ) → AreBytes (big_bytes n a)
AreBytes-big_bytes zero a = AreBytes-none
AreBytes-big_bytes (suc n) a = AreBytes-cons (byte_at n a) (big_bytes n a) (byte_at-lt n a) (AreBytes-big_bytes n a)

pub AreBytes-complement : (xs : List ℕ) → AreBytes (map (λ byte. 255 - byte) xs)
AreBytes-complement [] = AreBytes-none
AreBytes-complement (x ∷ xs) = AreBytes-cons (255 - x) (map (λ byte. 255 - byte) xs) (omega arith) (AreBytes-complement xs)
