-- Sums over a list of which one item changes, and how many places of one extent are used as its kind changes.
use Rattle.std.proofs.Common.{◌≡◌, ◌≢◌, ◌<◌, ◌≤◌, ◌+◌, ◌*◌, ◌==◌, ℕ, zero, suc, Bool, true, false, cond, List, [], ◌∷◌, length, get_or, set, inl, inr, refl, ap, ◌∙◌, arith}
use Rattle.std.specs.Prelude.{count_by, sum_by}
use Rattle.std.specs.Int.{bit_at}
use Rattle.std.specs.List.{range_with_len}
use Rattle.std.proofs.lemmas.Bool.{cases_eq}
use Rattle.std.proofs.lemmas.List.FromFn.{get_or-range_with_len, length-range_with_len}
use Rattle.std.proofs.lemmas.List.Sums.{sum_by-cons}
use Rattle.std.proofs.lemmas.Nat.Bits.{bit_at-lt}
use Rattle.extent_map.specs.Kinds.{is_block_kind, is_free_kind, is_used_place, is_unused_place, with_used_place, without_place}
use Rattle.extent_map.specs.declared.kind.Kind.{Kind}
use Rattle.extent_map.specs.declared.kind.Kind.TheVariants.{Free, Block, Index}
use Rattle.extent_map.proofs.BitsLemmas.{used_place-with_place_other, used_place-with_place_same, used_place-without_place_same, used_place-without_place_other}

-- one for what passes a test
abbrev pub one_if : Bool → ℕ
one_if b = cond b 1 0

-- it is one at most
one_if-le : (b : Bool) → one_if b ≤ 1
one_if-le true = omega arith
one_if-le false = omega arith

module _ {X : Type 0} (f : X → ℕ) where
  -- one item gives at most so much more than the one before it
  pub sum_by-set_le : (xs : List X) (i : ℕ) (y d : X) (more : ℕ) → f y ≤ f (get_or xs i d) + more → sum_by f (set xs i y) ≤ sum_by f xs + more
  sum_by-set_le [] i y d more le = omega arith
  sum_by-set_le (x ∷ xs) zero y d more le = omega (arith, le, sum_by-cons f y xs, sum_by-cons f x xs)
  sum_by-set_le (x ∷ xs) (suc i) y d more le = omega (arith, sum_by-set_le xs i y d more le, sum_by-cons f x (set xs i y), sum_by-cons f x xs)

  -- one item gives no less than the one before it
  pub sum_by-set_ge : (xs : List X) (i : ℕ) (y d : X) → f (get_or xs i d) ≤ f y → sum_by f xs ≤ sum_by f (set xs i y)
  sum_by-set_ge [] i y d le = omega arith
  sum_by-set_ge (x ∷ xs) zero y d le = omega (arith, le, sum_by-cons f y xs, sum_by-cons f x xs)
  sum_by-set_ge (x ∷ xs) (suc i) y d le = omega (arith, sum_by-set_ge xs i y d le, sum_by-cons f x (set xs i y), sum_by-cons f x xs)

  -- each item gives nothing
  pub sum_by-none : (xs : List X) (d : X) → ((i : ℕ) → i < length xs → f (get_or xs i d) ≡ 0) → sum_by f xs ≡ 0
  sum_by-none [] d none = refl
  sum_by-none (x ∷ xs) d none = omega (arith, none 0 (omega arith), sum_by-none xs d (λ i less. none (suc i) (omega (arith, less))), sum_by-cons f x xs)

-- ---- tests of places

-- two tests that agree
count_all : (p q : ℕ → Bool) (a n : ℕ) → ((i : ℕ) → a ≤ i → q i ≡ p i) → count_by q (range_with_len a n) ≡ count_by p (range_with_len a n)
count_all p q a zero same = refl
count_all p q a (suc n) same =
    omega (
      arith,
      ap one_if (same a (omega arith)),
      count_all p q (a + 1) n (λ i le. same i (omega (arith, le))),
      sum_by-cons (λ i. one_if (p i)) a (range_with_len (a + 1) n),
      sum_by-cons (λ i. one_if (q i)) a (range_with_len (a + 1) n),
    )

-- two tests that differ at one place alone
count_but : (p q : ℕ → Bool) (j a n : ℕ) → ((i : ℕ) → i ≢ j → q i ≡ p i) → a ≤ j → j < a + n
    → count_by q (range_with_len a n) + one_if (p j) ≡ count_by p (range_with_len a n) + one_if (q j)
count_but p q j a zero same from below = absurd (omega (arith, from, below))
count_but p q j a (suc n) same from below =
    let first = sum_by-cons (λ i. one_if (p i)) a (range_with_len (a + 1) n) in
    let second = sum_by-cons (λ i. one_if (q i)) a (range_with_len (a + 1) n) in
    elim (cases_eq a j) [
      | inl here ↦
          omega (arith, first, second, ap (λ i. one_if (p i)) here, ap (λ i. one_if (q i)) here, count_all p q (a + 1) n (λ i le. same i (λ is. omega (arith, is, le, here))))
      | inr other ↦
          omega (arith, first, second, ap one_if (same a other), count_but p q j (a + 1) n same (omega (arith, from, other)) (omega (arith, below)))
    ]

-- what passes the first passes the second
count_le : (p q : ℕ → Bool) (a n : ℕ) → ((i : ℕ) → i < a + n → one_if (p i) ≤ one_if (q i)) → count_by p (range_with_len a n) ≤ count_by q (range_with_len a n)
count_le p q a zero le = omega arith
count_le p q a (suc n) le =
    omega (
      arith,
      le a (omega arith),
      count_le p q (a + 1) n (λ i less. le i (omega (arith, less))),
      sum_by-cons (λ i. one_if (p i)) a (range_with_len (a + 1) n),
      sum_by-cons (λ i. one_if (q i)) a (range_with_len (a + 1) n),
    )

-- each place passes one of two tests
count_both : (p q : ℕ → Bool) (a n : ℕ) → ((i : ℕ) → one_if (p i) + one_if (q i) ≡ 1) → count_by p (range_with_len a n) + count_by q (range_with_len a n) ≡ n
count_both p q a zero each = refl
count_both p q a (suc n) each =
    omega (arith, each a, count_both p q (a + 1) n each, sum_by-cons (λ i. one_if (p i)) a (range_with_len (a + 1) n), sum_by-cons (λ i. one_if (q i)) a (range_with_len (a + 1) n))

-- no place passes
pub count_none : (p : ℕ → Bool) (n : ℕ) → ((i : ℕ) → i < n → p i ≡ false) → count_by p (range_with_len 0 n) ≡ 0
count_none p n none =
    sum_by-none (λ i. one_if (p i)) (range_with_len 0 n) 0
    (λ i less.
    let below : i < n = omega (arith, less, length-range_with_len 0 n) in
    let here : get_or (range_with_len 0 n) i 0 ≡ i = get_or-range_with_len 0 n i 0 below ∙ omega arith in
    ap (λ k. one_if (p k)) here ∙ ap one_if (none i below))

-- ---- places of one extent

-- how many places are used, and how many aren't
abbrev pub used_in : ℕ → Kind → ℕ
used_in n kind = count_by (λ j. is_used_place j kind) (range_with_len 0 n)

abbrev pub unused_in : ℕ → Kind → ℕ
unused_in n kind = count_by (λ j. is_unused_place j kind) (range_with_len 0 n)

-- how many pages may still be claimed there
abbrev pub room_in : ℕ → Kind → ℕ
room_in n kind = unused_in n kind + n * one_if (is_free_kind kind)

-- a place more that is used
pub used_in-with_place_le : (n j : ℕ) (kind : Kind) → j < n → used_in n (with_used_place j kind) ≤ used_in n kind + 1
used_in-with_place_le n j kind less =
    omega (
      arith,
      count_but (λ i. is_used_place i kind) (λ i. is_used_place i (with_used_place j kind)) j 0 n (λ i other. used_place-with_place_other i j kind other) (omega arith) (omega (arith, less)),
      one_if-le (is_used_place j (with_used_place j kind)),
    )

-- and exactly one more where it wasn't used
used_in-with_place : (n j : ℕ) (kind : Kind) → j < n → is_block_kind kind ≡ false → is_used_place j kind ≡ false → used_in n (with_used_place j kind) ≡ used_in n kind + 1
used_in-with_place n j kind less owned unused =
    omega (
      arith,
      count_but (λ i. is_used_place i kind) (λ i. is_used_place i (with_used_place j kind)) j 0 n (λ i other. used_place-with_place_other i j kind other) (omega arith) (omega (arith, less)),
      ap one_if (used_place-with_place_same j kind owned),
      ap one_if unused,
    )

-- a place is used after one was given back only where it was before
less_used : (i j : ℕ) (kind : Kind) → i < 32 → j < 32 → one_if (is_used_place i (without_place j kind)) ≤ one_if (is_used_place i kind)
less_used i j kind less few = elim (cases_eq i j) [
  | inl here ↦ omega (arith, ap (λ x. one_if (is_used_place x (without_place j kind))) here, ap one_if (used_place-without_place_same j kind few))
  | inr other ↦ omega (arith, ap one_if (used_place-without_place_other i j kind less few other))
]

-- no more places are used then
pub used_in-without_place : (n j : ℕ) (kind : Kind) → n ≤ 32 → j < n → used_in n (without_place j kind) ≤ used_in n kind
used_in-without_place n j kind few less =
    count_le (λ i. is_used_place i (without_place j kind)) (λ i. is_used_place i kind) 0 n (λ i below. less_used i j kind (omega (arith, below, few)) (omega (arith, less, few)))

-- a bit is set or not
bit_either : (b : ℕ) → b < 2 → one_if (b == 0) + one_if (b == 1) ≡ 1
bit_either zero less = refl
bit_either (suc zero) less = refl
bit_either (suc (suc b)) less = absurd (omega (arith, less))

-- a page of an extent that is no block is used or may be claimed
room_and_used : (n : ℕ) (kind : Kind) → is_block_kind kind ≡ false → room_in n kind + used_in n kind ≡ n
room_and_used n Free owned = omega (arith, count_none (λ j. false) n (λ i less. refl))
room_and_used n (Block table) owned = absurd (cc)
room_and_used n (Index used) owned = omega (arith, count_both (λ j. is_unused_place j (Index used)) (λ j. is_used_place j (Index used)) 0 n (λ i. bit_either (bit_at used i) (bit_at-lt used i)))

-- what is no block stays none
with_place-no_block : (j : ℕ) (kind : Kind) → is_block_kind kind ≡ false → is_block_kind (with_used_place j kind) ≡ false
with_place-no_block j Free owned = refl
with_place-no_block j (Block table) owned = absurd (cc)
with_place-no_block j (Index used) owned = refl

-- each claim leaves room for one page less
pub room_in-with_place : (n j : ℕ) (kind : Kind) → j < n → is_block_kind kind ≡ false → is_used_place j kind ≡ false → room_in n (with_used_place j kind) + 1 ≡ room_in n kind
room_in-with_place n j kind less owned unused =
    omega (arith, used_in-with_place n j kind less owned unused, room_and_used n kind owned, room_and_used n (with_used_place j kind) (with_place-no_block j kind owned))
