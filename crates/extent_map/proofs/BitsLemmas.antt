-- Kinds with one page more or less in use.
use Rattle.std.proofs.Common.{◌≡◌, ◌≢◌, ◌<◌, ◌≤◌, ◌+◌, ◌-◌, ◌^◌, ◌==◌, ℕ, Bool, true, false, min, max, nat_lt, if◌then◌else◌, IsTrue, Some, None, is_some, bit_or, bit_and, inl, inr, refl, ap, sym, subst, ◌∙◌, arith}
use Rattle.std.specs.Int.{bit_at, bit_not, trailing_ones, w32, w64}
use Rattle.std.proofs.Math.Pow.{pow-lt, pow_mono}
use Rattle.std.proofs.lemmas.Bool.{cases_eq, ltb-true, ltb-false, eq-eqb, eqb-true, ne_eqb}
use Rattle.std.proofs.lemmas.Nat.{or_lt, le_or_l, and_le_l, pow_pos}
use Rattle.std.proofs.lemmas.Nat.Bits.{bit_at_or, bit_at_and, bit_at_not, bit_at-lt, bit_at-pow_same, bit_at-pow_other, bit_at-trailing_ones, bit_at-zero}
use Rattle.std.proofs.lemmas.Option.{same_Some}
use Rattle.extent_map.specs.Kinds.{IsKindOf, is_used_place, is_unused_place, is_free_kind, is_block_kind, with_used_place, without_place, index_or_free, lowest_unused_place}
use Rattle.extent_map.specs.declared.kind.Kind.{Kind}
use Rattle.extent_map.specs.declared.kind.Kind.TheVariants.{Free, Block, Index}

pub is_free-Free : (kind : Kind) → is_free_kind kind ≡ true → kind ≡ Free
is_free-Free Free is = refl
is_free-Free (Block table) is = absurd (cc)
is_free-Free (Index used) is = absurd (cc)

pub is_free-not : (kind : Kind) → is_free_kind kind ≡ false → kind ≢ Free
is_free-not kind is free = let same : is_free_kind kind ≡ true = ap is_free_kind free in cc

-- a page more keeps the form
pub is_kind-with_place : (n j : ℕ) (kind : Kind) → j < n → IsKindOf n kind → IsKindOf n (with_used_place j kind)
is_kind-with_place n j Free less is = (pow_pos j, pow-lt less)
is_kind-with_place n j (Block table) less is = is
is_kind-with_place n j (Index used) less is = (omega (arith, is.0, le_or_l used (2 ^ j)), or_lt n used (2 ^ j) is.1 (pow-lt less))

is_kind-index_or_free : (n used : ℕ) → used < 2 ^ n → IsKindOf n (index_or_free used)
is_kind-index_or_free n used few = elim (cases_eq used 0) [
  | inl none ↦ subst (λ u. IsKindOf n (index_or_free u)) (sym none) tt
  | inr some ↦ subst (λ b. IsKindOf n (if b then Free else Index used)) (sym (ne_eqb used 0 some)) (omega (arith, some), few)
]

-- a page less keeps the form
pub is_kind-without_place : (n j : ℕ) (kind : Kind) → IsKindOf n kind → IsKindOf n (without_place j kind)
is_kind-without_place n j Free is = tt
is_kind-without_place n j (Block table) is = is
is_kind-without_place n j (Index used) is = is_kind-index_or_free n (bit_and used (bit_not w32 (2 ^ j))) (omega (arith, is.1, and_le_l used (bit_not w32 (2 ^ j))))

-- the lowest page that isn't used
if_some : {A : Type 0} (b : Bool) (x y : A) → (if b then Some x else None) ≡ Some y → (b ≡ true) × (x ≡ y)
if_some true x y is = (refl, same_Some x y is)
if_some false x y is = absurd (cc)

pub lowest_unused_below : (n j : ℕ) (kind : Kind) → lowest_unused_place n kind ≡ Some j → j < n
lowest_unused_below n j Free is = absurd (cc)
lowest_unused_below n j (Block table) is = absurd (cc)
lowest_unused_below n j (Index used) is =
    let found = if_some (nat_lt (trailing_ones w64 used) n) (trailing_ones w64 used) j is in
    let less : trailing_ones w64 used < n = ltb-true (trailing_ones w64 used) n found.0 in
    omega (arith, less, found.1)

-- the lowest page that isn't used isn't used, and each lower one is
ones_below : (n used : ℕ) → n ≤ 32 → used < 2 ^ n → used + 1 < 2 ^ 64
ones_below n used few fits = let most : 2 ^ n ≤ 2 ^ 32 = pow_mono few in omega (arith, most, fits)

unused_of-zero : (used j : ℕ) → bit_at used j ≡ 0 → IsTrue (is_unused_place j (Index used))
unused_of-zero used j is = eq-eqb (bit_at used j) 0 is

pub unused_not-one : (used j : ℕ) → bit_at used j ≡ 1 → IsTrue (is_unused_place j (Index used)) → ⊥
unused_not-one used j is unused = omega (arith, is, eqb-true (bit_at used j) 0 unused)

pub lowest_unused_is : (n j : ℕ) (kind : Kind) → n ≤ 32 → IsKindOf n kind → lowest_unused_place n kind ≡ Some j → IsTrue (is_unused_place j kind)
lowest_unused_is n j Free few fits is = absurd (cc)
lowest_unused_is n j (Block table) few fits is = absurd (cc)
lowest_unused_is n j (Index used) few fits is =
    let found = if_some (nat_lt (trailing_ones w64 used) n) (trailing_ones w64 used) j is in
    let ones = bit_at-trailing_ones w64 used (ones_below n used few fits.1) in
    subst (λ k. IsTrue (is_unused_place k (Index used))) found.1 (unused_of-zero used (trailing_ones w64 used) ones.1)

pub lowest_unused_lowest : (n j i : ℕ) (kind : Kind) → n ≤ 32 → IsKindOf n kind → lowest_unused_place n kind ≡ Some j → i < j → IsTrue (is_unused_place i kind) → ⊥
lowest_unused_lowest n j i Free few fits is less unused = absurd (cc)
lowest_unused_lowest n j i (Block table) few fits is less unused = absurd (cc)
lowest_unused_lowest n j i (Index used) few fits is less unused =
    let found = if_some (nat_lt (trailing_ones w64 used) n) (trailing_ones w64 used) j is in
    let ones = bit_at-trailing_ones w64 used (ones_below n used few fits.1) in
    let below : i < trailing_ones w64 used = subst (λ k. i < k) (sym found.1) less in
    unused_not-one used i (ones.2 i below) unused

-- where there is none, each page is used
if_none : {A : Type 0} (b : Bool) (x : A) → is_some (if b then Some x else None) ≡ false → b ≡ false
if_none true x is = absurd (cc)
if_none false x is = refl

pub none_unused : (n j : ℕ) (kind : Kind) → n ≤ 32 → IsKindOf n kind → is_some (lowest_unused_place n kind) ≡ false → j < n → IsTrue (is_unused_place j kind) → ⊥
none_unused n j Free few fits is less unused = absurd (cc)
none_unused n j (Block table) few fits is less unused = absurd (cc)
none_unused n j (Index used) few fits is less unused =
    let past : n ≤ trailing_ones w64 used = ltb-false (trailing_ones w64 used) n (if_none (nat_lt (trailing_ones w64 used) n) (trailing_ones w64 used) is) in
    let ones = bit_at-trailing_ones w64 used (ones_below n used few fits.1) in
    let below : j < trailing_ones w64 used = omega (arith, less, past) in
    unused_not-one used j (ones.2 j below) unused

pub with_place-owned : (j : ℕ) (kind : Kind) → with_used_place j kind ≢ Free
with_place-owned j Free is = cc
with_place-owned j (Block table) is = cc
with_place-owned j (Index used) is = cc

-- a page that is used, after another became used
max_one : (a : ℕ) → a < 2 → max a 1 ≡ 1
max_one a less = omega arith

max_zero : (a : ℕ) → max a 0 ≡ a
max_zero a = omega arith

min_one : (a : ℕ) → a < 2 → min a 1 ≡ a
min_one a less = omega arith

min_zero : (a : ℕ) → min a 0 ≡ 0
min_zero a = omega arith

set_bit_same : (used j : ℕ) → bit_at (bit_or used (2 ^ j)) j ≡ 1
set_bit_same used j = bit_at_or used (2 ^ j) j ∙ (ap (max (bit_at used j)) (bit_at-pow_same j) ∙ max_one (bit_at used j) (bit_at-lt used j))

set_bit_other : (used i j : ℕ) → i ≢ j → bit_at (bit_or used (2 ^ j)) i ≡ bit_at used i
set_bit_other used i j other = bit_at_or used (2 ^ j) i ∙ (ap (max (bit_at used i)) (bit_at-pow_other j i other) ∙ max_zero (bit_at used i))

clear_bit_same : (used j : ℕ) → j < 32 → bit_at (bit_and used (bit_not w32 (2 ^ j))) j ≡ 0
clear_bit_same used j few =
    bit_at_and used (bit_not w32 (2 ^ j)) j
    ∙ (ap (min (bit_at used j)) (bit_at_not w32 (2 ^ j) j (pow-lt few) few ∙ ap (λ b. 1 - b) (bit_at-pow_same j)) ∙ min_zero (bit_at used j))

clear_bit_other : (used i j : ℕ) → i < 32 → j < 32 → i ≢ j → bit_at (bit_and used (bit_not w32 (2 ^ j))) i ≡ bit_at used i
clear_bit_other used i j less few other =
    bit_at_and used (bit_not w32 (2 ^ j)) i
    ∙ (ap (min (bit_at used i)) (bit_at_not w32 (2 ^ j) i (pow-lt few) less ∙ ap (λ b. 1 - b) (bit_at-pow_other j i other)) ∙ min_one (bit_at used i) (bit_at-lt used i))

pub used_place-with_place_other : (i j : ℕ) (kind : Kind) → i ≢ j → is_used_place i (with_used_place j kind) ≡ is_used_place i kind
used_place-with_place_other i j Free other = ap (λ b. b == 1) (bit_at-pow_other j i other)
used_place-with_place_other i j (Block table) other = refl
used_place-with_place_other i j (Index used) other = ap (λ b. b == 1) (set_bit_other used i j other)

pub used_place-with_place_same : (j : ℕ) (kind : Kind) → is_block_kind kind ≡ false → IsTrue (is_used_place j (with_used_place j kind))
used_place-with_place_same j Free owner = ap (λ b. b == 1) (bit_at-pow_same j)
used_place-with_place_same j (Block table) owner = absurd (cc)
used_place-with_place_same j (Index used) owner = ap (λ b. b == 1) (set_bit_same used j)

used_index_or_free : (i used : ℕ) → is_used_place i (index_or_free used) ≡ (bit_at used i == 1)
used_index_or_free i used = elim (cases_eq used 0) [
  | inl none ↦ subst (λ u. is_used_place i (index_or_free u) ≡ (bit_at u i == 1)) (sym none) (ap (λ b. b == 1) (sym (bit_at-zero i)))
  | inr some ↦ ap (λ b. is_used_place i (if b then Free else Index used)) (ne_eqb used 0 some)
]

pub used_place-without_place_same : (j : ℕ) (kind : Kind) → j < 32 → is_used_place j (without_place j kind) ≡ false
used_place-without_place_same j Free few = refl
used_place-without_place_same j (Block table) few = refl
used_place-without_place_same j (Index used) few = used_index_or_free j (bit_and used (bit_not w32 (2 ^ j))) ∙ ap (λ b. b == 1) (clear_bit_same used j few)

pub used_place-without_place_other : (i j : ℕ) (kind : Kind) → i < 32 → j < 32 → i ≢ j → is_used_place i (without_place j kind) ≡ is_used_place i kind
used_place-without_place_other i j Free less few other = refl
used_place-without_place_other i j (Block table) less few other = refl
used_place-without_place_other i j (Index used) less few other = used_index_or_free i (bit_and used (bit_not w32 (2 ^ j))) ∙ ap (λ b. b == 1) (clear_bit_other used i j less few other)

-- a page that is used, or could be, is in no block, and what is used is owned
pub used_place-no_block : (j : ℕ) (kind : Kind) → IsTrue (is_used_place j kind) → is_block_kind kind ≡ false
used_place-no_block j Free is = refl
used_place-no_block j (Block table) is = absurd (cc)
used_place-no_block j (Index used) is = refl

pub unused_place-no_block : (j : ℕ) (kind : Kind) → IsTrue (is_unused_place j kind) → is_block_kind kind ≡ false
unused_place-no_block j Free is = refl
unused_place-no_block j (Block table) is = absurd (cc)
unused_place-no_block j (Index used) is = refl

pub used_place-owned : (j : ℕ) (kind : Kind) → IsTrue (is_used_place j kind) → kind ≢ Free
used_place-owned j kind is free = let no : is_used_place j kind ≡ false = ap (is_used_place j) free in cc

pub unused_place-not_used : (j : ℕ) (kind : Kind) → IsTrue (is_unused_place j kind) → IsTrue (is_used_place j kind) → ⊥
unused_place-not_used j Free unused used = cc
unused_place-not_used j (Block table) unused used = cc
unused_place-not_used j (Index bits) unused used = unused_not-one bits j (eqb-true (bit_at bits j) 1 used) unused
