-- A walk over the entries of an index, leaf by leaf.
use Rattle.std.proofs.Common.{◌≡◌, ◌<◌, ◌≤◌, ◌+◌, ◌*◌, ◌^◌, ℕ, suc, List, [], ◌∷◌, ◌++◌, refl, ap, arith, sym, ◌∙◌, subst, append-nil, length, take, nat_cmp}
use Rattle.std.specs.Prelude.{true, Some, None, nat_lt}
use Rattle.std.specs.Cmp.{ranks}
use Rattle.std.specs.Ordering.{is_lt, MatchOrdering}
use Rattle.std.specs.declared.cmp.Ordering.{Ordering}
use Rattle.std.specs.declared.cmp.Ordering.TheVariants.{Less, Equal, Greater}
use Rattle.std.specs.Slice.Scan.{big_endian}
use Rattle.std.proofs.Math.Nat.{mul_assoc, mul-le-mul_right, pow-succ'}
use Rattle.std.proofs.Math.Seq.{take-length}
use Rattle.std.proofs.lemmas.Bool.{le-ltb, lt-ltb}
use Rattle.std.proofs.lemmas.Bool.Decides.{nat_tests}
use Rattle.mdc_words.specs.ByteOrder.{Entry, below}
use Rattle.node_page.proofs.NodeLemmas.{AreBytes}
use Rattle.node_page.proofs.WordsLemmas.{order_at_end}
use Rattle.entry_tree.specs.EntryBounds.{Bound}
use Rattle.entry_tree.specs.Reading.{IsLeafFrom, RestBegins, entries_from}
use Rattle.entry_tree.proofs.EntryBoundsLemmas.{from_below}
use Rattle.entry_tree.proofs.WalksLemmas.{first_from, leaf_alone, leaf_and_rest}
use Rattle.block_index.specs.Reading.{entries_left, room_above}

-- a leaf that was read, and what lies behind it
pub leaf_then_left : (all : List Entry) (bound : Entry) (given : List Entry) (next : Bound) → IsLeafFrom all bound given next → entries_from bound all ≡ given ++ entries_left all next
leaf_then_left all bound given None l = leaf_alone all bound given l ∙ sym (append-nil given)
leaf_then_left all bound given (Some next) l = leaf_and_rest all bound next given l

-- the bound at which the rest begins lies above the one that was looked from
pub rest_above : (all : List Entry) (bound next : Entry) (given : List Entry) → IsLeafFrom all bound given (Some next) → below bound next ≡ true
rest_above all bound next [] l = absurd (subst (RestBegins [] (Some next)) (l.some refl) l.begins)
rest_above all bound next (x ∷ given) l = go l.rest l.whole l.begins
  where
    go : (rest : List Entry) → entries_from bound all ≡ (x ∷ given) ++ rest → RestBegins (x ∷ given) (Some next) rest → below bound next ≡ true
    go [] whole b = absurd b
    go (y ∷ ys) whole b = from_below bound x next (first_from bound x all (given ++ y ∷ ys) whole) b.0.0

-- ---- an end of each walk

small_number : (n : ℕ) (xs : List ℕ) → AreBytes xs → big_endian n xs < (n + 1) * 256 ^ length xs
small_number n [] are = omega arith
small_number n (x ∷ xs) are =
    let here : x < 256 = are 0 in
    let rest : big_endian (n * 256 + x) xs < (n * 256 + x + 1) * 256 ^ length xs = small_number (n * 256 + x) xs (λ k. are (suc k)) in
    let wider : (n * 256 + x + 1) * 256 ^ length xs ≤ ((n + 1) * 256) * 256 ^ length xs = mul-le-mul_right (256 ^ length xs) (omega (arith, here)) in
    let more : ((n + 1) * 256) * 256 ^ length xs ≡ (n + 1) * 256 ^ suc (length xs) = mul_assoc (n + 1) 256 (256 ^ length xs) ∙ ap (λ k. (n + 1) * k) (sym (pow-succ' 256 (length xs))) in
    omega (arith, rest, wider, more)

number_fits : (xs : Entry) → AreBytes xs → big_endian 0 xs < 256 ^ length xs
number_fits xs are = omega (arith, small_number 0 xs are)

pub some_room : (xs : Entry) → AreBytes xs → 0 < room_above (length xs) (Some xs)
some_room xs are = omega (arith, number_fits xs are)

-- the test of numbers
test_less : (x y : ℕ) → nat_lt x y ≡ is_lt (nat_cmp x y)
test_less x y = by (nat_cmp x y) (ranks x y)
  where
    by : (r : Ordering) → MatchOrdering r (x < y) (x ≡ y) (y < x) → nat_lt x y ≡ is_lt r
    by Less l = lt-ltb x y l
    by Equal e = let same : x ≡ y = e in le-ltb x y (omega arith)
    by Greater l = let over : y < x = l in le-ltb x y (omega arith)

-- numbers tell the order of byte strings of one length
number_below : (low high : Entry) → AreBytes low → AreBytes high → length high ≡ length low → nat_lt (big_endian 0 low) (big_endian 0 high) ≡ below low high
unfolding below
number_below low high are too same =
    let w = length low in
    let number_of = λ (xs : Entry) (e : length xs ≡ w). ap (big_endian 0) (sym (ap (λ n. take n xs) (sym e) ∙ take-length xs)) in
    test_less (big_endian 0 low) (big_endian 0 high)
    ∙ ap is_lt (order_at_end w low high are too 0 (big_endian 0 low) (big_endian 0 high) (omega arith) (sym same) refl (number_of low refl) (number_of high same))

pub room_falls : (low high : Entry) → AreBytes low → AreBytes high → length high ≡ length low → below low high ≡ true → room_above (length low) (Some high) < room_above (length low) (Some low)
room_falls low high are too same above =
    let tells = number_below low high are too same in
    let less : big_endian 0 low < big_endian 0 high = grind (arith, nat_tests, tells, above) in
    let most : big_endian 0 high < 256 ^ length low = subst (λ n. big_endian 0 high < 256 ^ n) same (number_fits high too) in
    omega (arith, less, most)
