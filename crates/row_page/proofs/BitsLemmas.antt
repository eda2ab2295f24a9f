-- The bits of a number.
use Rattle.std.proofs.Common.{◌≡◌, ◌≤◌, ◌<◌, ◌+◌, ◌-◌, ◌*◌, ◌/◌, ◌%◌, ◌^◌, ℕ, zero, suc, true, false, List, get_or, refl, ap, sym, ◌∙◌, inl, inr, arith}
use Rattle.std.proofs.lemmas.Bool.{cases_lt}
use Rattle.byteorder.specs.Endian.{big_from}
use Rattle.byteorder.specs.Numbers.{big_from-lt}
use Rattle.std.specs.Prelude.{◌==◌}
use Rattle.std.proofs.lemmas.Bool.Decides.{nat_tests}
use Rattle.std.specs.Int.{Width, bit_at, bit_not, leading_ones}
use mir.Val.{bits}
use Rattle.std.proofs.lemmas.Nat.{leading_length, pow-add}
use Rattle.std.proofs.lemmas.Nat.Bits.{bit_at-lt, bit_at_above, bit_at_cat_high, bit_at_cat_low, bit_at_not}
use Rattle.std.proofs.Math.Nat.{div-div-eq-div-mul, div-eq_of_lt-le, div-one, pow-succ'}

-- what the test of a bit says
pub even_bit : (n : ℕ) → (n % 2 == 1) ≡ false → n % 2 ≡ 0
even_bit n e = grind (arith, nat_tests)

pub odd_bit : (n : ℕ) → (n % 2 == 1) ≡ true → n % 2 ≡ 1
odd_bit n e = grind (arith, nat_tests)

-- the bits behind the lowest are those of the half
half : (n k : ℕ) → n / 2 ^ suc k ≡ n / 2 / 2 ^ k
half n k = ap (λ p. n / p) (pow-succ' 2 k) ∙ sym (div-div-eq-div-mul n 2 (2 ^ k))

whole : (n : ℕ) → n / 2 ^ zero ≡ n
whole n = div-one n

-- a mask, counted from the other side
pub mask-sub : (k : ℕ) → k < 8 → 128 / 2 ^ k ≡ 2 ^ (7 - k)
mask-sub zero lt = refl
mask-sub (suc zero) lt = refl
mask-sub (suc (suc zero)) lt = refl
mask-sub (suc (suc (suc zero))) lt = refl
mask-sub (suc (suc (suc (suc zero)))) lt = refl
mask-sub (suc (suc (suc (suc (suc zero))))) lt = refl
mask-sub (suc (suc (suc (suc (suc (suc zero)))))) lt = refl
mask-sub (suc (suc (suc (suc (suc (suc (suc zero))))))) lt = refl
mask-sub (suc (suc (suc (suc (suc (suc (suc (suc k)))))))) lt = absurd (omega arith)

-- a number of m bits with another of them set
pub bit_added-lt : (n k m : ℕ) → k < m → n < 2 ^ m → n / 2 ^ k % 2 ≡ 0 → n + 2 ^ k < 2 ^ m
bit_added-lt n k zero lt small e = absurd (omega arith)
bit_added-lt n zero (suc m) lt small e =
    let twice : 2 ^ suc m ≡ 2 * 2 ^ m = pow-succ' 2 m in
    let even : n % 2 ≡ 0 = ap (λ x. x % 2) (sym (whole n)) ∙ e in
    omega arith
bit_added-lt n (suc k) (suc m) lt small e =
    let twice : 2 ^ suc m ≡ 2 * 2 ^ m = pow-succ' 2 m in
    let also : 2 ^ suc k ≡ 2 * 2 ^ k = pow-succ' 2 k in
    let less : n / 2 + 2 ^ k < 2 ^ m = bit_added-lt (n / 2) k m (omega arith) (omega arith) (ap (λ x. x % 2) (sym (half n k)) ∙ e) in
    omega arith

-- a bit that is set counts
pub bit-le : (n k : ℕ) → n / 2 ^ k % 2 ≡ 1 → 2 ^ k ≤ n
bit-le n zero e = let odd : n % 2 ≡ 1 = ap (λ x. x % 2) (sym (whole n)) ∙ e in omega arith
bit-le n (suc k) e =
    let also : 2 ^ suc k ≡ 2 * 2 ^ k = pow-succ' 2 k in
    let less : 2 ^ k ≤ n / 2 = bit-le (n / 2) k (ap (λ x. x % 2) (sym (half n k)) ∙ e) in
    omega arith

-- ---- one bit set

pub bit_added-same : (n k : ℕ) → n / 2 ^ k % 2 ≡ 0 → (n + 2 ^ k) / 2 ^ k % 2 ≡ 1
bit_added-same n zero e =
    let even : n % 2 ≡ 0 = ap (λ x. x % 2) (sym (whole n)) ∙ e in
    let one : 2 ^ zero ≡ 1 = refl in
    ap (λ x. x % 2) (whole (n + 2 ^ zero)) ∙ omega arith
bit_added-same n (suc k) e =
    let also : 2 ^ suc k ≡ 2 * 2 ^ k = pow-succ' 2 k in
    let halved : (n + 2 ^ suc k) / 2 ≡ n / 2 + 2 ^ k = omega arith in
    ap (λ x. x % 2) (half (n + 2 ^ suc k) k ∙ ap (λ x. x / 2 ^ k) halved) ∙ bit_added-same (n / 2) k (ap (λ x. x % 2) (sym (half n k)) ∙ e)

pub bit_added-other : (n k j : ℕ) → (j ≡ k → ⊥) → n / 2 ^ k % 2 ≡ 0 → (n + 2 ^ k) / 2 ^ j % 2 ≡ n / 2 ^ j % 2
bit_added-other n zero zero ne e = absurd (ne refl)
bit_added-other n zero (suc j) ne e =
    let even : n % 2 ≡ 0 = ap (λ x. x % 2) (sym (whole n)) ∙ e in
    let one : 2 ^ zero ≡ 1 = refl in
    let halved : (n + 2 ^ zero) / 2 ≡ n / 2 = omega arith in
    ap (λ x. x % 2) (half (n + 2 ^ zero) j ∙ ap (λ x. x / 2 ^ j) halved ∙ sym (half n j))
bit_added-other n (suc k) zero ne e =
    let also : 2 ^ suc k ≡ 2 * 2 ^ k = pow-succ' 2 k in
    ap (λ x. x % 2) (whole (n + 2 ^ suc k)) ∙ (omega arith ∙ ap (λ x. x % 2) (sym (whole n)))
bit_added-other n (suc k) (suc j) ne e =
    let also : 2 ^ suc k ≡ 2 * 2 ^ k = pow-succ' 2 k in
    let halved : (n + 2 ^ suc k) / 2 ≡ n / 2 + 2 ^ k = omega arith in
    ap (λ x. x % 2) (half (n + 2 ^ suc k) j ∙ ap (λ x. x / 2 ^ j) halved)
    ∙ (bit_added-other (n / 2) k j (λ same. ne (ap suc same)) (ap (λ x. x % 2) (sym (half n k)) ∙ e) ∙ ap (λ x. x % 2) (sym (half n j)))

-- ---- one bit cleared

pub bit_taken-same : (n k : ℕ) → n / 2 ^ k % 2 ≡ 1 → (n - 2 ^ k) / 2 ^ k % 2 ≡ 0
bit_taken-same n zero e =
    let odd : n % 2 ≡ 1 = ap (λ x. x % 2) (sym (whole n)) ∙ e in
    let one : 2 ^ zero ≡ 1 = refl in
    ap (λ x. x % 2) (whole (n - 2 ^ zero)) ∙ omega arith
bit_taken-same n (suc k) e =
    let also : 2 ^ suc k ≡ 2 * 2 ^ k = pow-succ' 2 k in
    let halved : (n - 2 ^ suc k) / 2 ≡ n / 2 - 2 ^ k = omega arith in
    ap (λ x. x % 2) (half (n - 2 ^ suc k) k ∙ ap (λ x. x / 2 ^ k) halved) ∙ bit_taken-same (n / 2) k (ap (λ x. x % 2) (sym (half n k)) ∙ e)

pub bit_taken-other : (n k j : ℕ) → (j ≡ k → ⊥) → n / 2 ^ k % 2 ≡ 1 → (n - 2 ^ k) / 2 ^ j % 2 ≡ n / 2 ^ j % 2
bit_taken-other n zero zero ne e = absurd (ne refl)
bit_taken-other n zero (suc j) ne e =
    let odd : n % 2 ≡ 1 = ap (λ x. x % 2) (sym (whole n)) ∙ e in
    let one : 2 ^ zero ≡ 1 = refl in
    let halved : (n - 2 ^ zero) / 2 ≡ n / 2 = omega arith in
    ap (λ x. x % 2) (half (n - 2 ^ zero) j ∙ ap (λ x. x / 2 ^ j) halved ∙ sym (half n j))
bit_taken-other n (suc k) zero ne e =
    let also : 2 ^ suc k ≡ 2 * 2 ^ k = pow-succ' 2 k in
    let less : 2 ^ suc k ≤ n = bit-le n (suc k) e in
    ap (λ x. x % 2) (whole (n - 2 ^ suc k)) ∙ (omega arith ∙ ap (λ x. x % 2) (sym (whole n)))
bit_taken-other n (suc k) (suc j) ne e =
    let also : 2 ^ suc k ≡ 2 * 2 ^ k = pow-succ' 2 k in
    let halved : (n - 2 ^ suc k) / 2 ≡ n / 2 - 2 ^ k = omega arith in
    ap (λ x. x % 2) (half (n - 2 ^ suc k) j ∙ ap (λ x. x / 2 ^ j) halved)
    ∙ (bit_taken-other (n / 2) k j (λ same. ne (ap suc same)) (ap (λ x. x % 2) (sym (half n k)) ∙ e) ∙ ap (λ x. x % 2) (sym (half n j)))

-- ---- the ones at the front of a number

module _ (w : Width) (n : ℕ) (small : n < 2 ^ bits w) where
  least : (m : ℕ) × (leading_ones w n + m ≡ bits w) × (bit_not w n < 2 ^ m) × (2 ^ m ≤ 2 * bit_not w n + 1)
  least = leading_length (bits w) (bit_not w n) (omega arith)

  pub leading_ones-set : (k : ℕ) → k < leading_ones w n → bit_at n (bits w - 1 - k) ≡ 1
  leading_ones-set k lt =
      let other : bit_at (bit_not w n) (bits w - 1 - k) ≡ 0 = bit_at_above (bit_not w n) least.0 (bits w - 1 - k) least.2 (omega (arith, least.1)) in
      omega (arith, other, bit_at_not w n (bits w - 1 - k) small (omega (arith, least.1)), bit_at-lt n (bits w - 1 - k))

  pub leading_ones-ends : leading_ones w n < bits w → bit_at n (bits w - 1 - leading_ones w n) ≡ 0
  leading_ones-ends some =
      let j : ℕ = bits w - 1 - leading_ones w n in
      let place : least.0 ≡ suc j = omega (arith, least.1) in
      let twice : 2 ^ least.0 ≡ 2 * 2 ^ j = ap (λ m. 2 ^ m) place ∙ pow-succ' 2 j in
      let one : bit_not w n / 2 ^ j ≡ 1 = div-eq_of_lt-le {k = 1} (2 ^ j) (omega (arith, twice, least.3)) (omega (arith, twice, least.2)) in
      let other : bit_at (bit_not w n) j ≡ 1 = ap (λ d. d % 2) one in
      omega (arith, other, bit_at_not w n j small (omega arith), bit_at-lt n j)

-- ---- the bits of a number in its bytes, the highest first

pow-bytes : (n : ℕ) → 256 ^ n ≡ 2 ^ (8 * n)
pow-bytes zero = refl
pow-bytes (suc n) =
    let more : 8 * suc n ≡ 8 + 8 * n = omega arith in
    pow-succ' 256 n ∙ (ap (λ p. 256 * p) (pow-bytes n) ∙ (sym (pow-add 2 8 (8 * n)) ∙ ap (λ m. 2 ^ m) (sym more)))

pub big_from-bit : (n i k : ℕ) (bytes : List ℕ) → ((j : ℕ) → get_or bytes j 0 < 256) → k < 8 * n → bit_at (big_from i n bytes) (8 * n - 1 - k) ≡ bit_at (get_or bytes (i + k / 8) 0) (7 - k % 8)
big_from-bit zero i k bytes are lt = absurd (omega arith)
big_from-bit (suc n) i k bytes are lt =
    let size : 256 ^ n ≡ 2 ^ (8 * n) = pow-bytes n in
    let parts : big_from i (suc n) bytes ≡ get_or bytes i 0 * 2 ^ (8 * n) + big_from (suc i) n bytes = ap (λ p. get_or bytes i 0 * p + big_from (suc i) n bytes) size in
    let rest : big_from (suc i) n bytes < 2 ^ (8 * n) = omega (arith, big_from-lt (suc i) n bytes are, size) in
    ap (λ m. bit_at m (8 * suc n - 1 - k)) parts ∙ elim (cases_lt k 8) [
      | inl early ↦
          let place : 8 * suc n - 1 - k - 8 * n ≡ 7 - k % 8 = omega arith in
          let at : i ≡ i + k / 8 = omega arith in
          bit_at_cat_high (get_or bytes i 0) (8 * n) (big_from (suc i) n bytes) (8 * suc n - 1 - k) rest (omega arith)
          ∙ (ap (bit_at (get_or bytes i 0)) place ∙ ap (λ j. bit_at (get_or bytes j 0) (7 - k % 8)) at)
      | inr late ↦
          let place : 8 * suc n - 1 - k ≡ 8 * n - 1 - (k - 8) = omega arith in
          let at : suc i + (k - 8) / 8 ≡ i + k / 8 = omega arith in
          let same : 7 - (k - 8) % 8 ≡ 7 - k % 8 = omega arith in
          bit_at_cat_low (get_or bytes i 0) (8 * n) (big_from (suc i) n bytes) (8 * suc n - 1 - k) (omega arith)
          ∙ (ap (bit_at (big_from (suc i) n bytes)) place ∙ (big_from-bit n (suc i) (k - 8) bytes are (omega arith)
          ∙ (ap (λ j. bit_at (get_or bytes j 0) (7 - (k - 8) % 8)) at ∙ ap (bit_at (get_or bytes (i + k / 8) 0)) same)))
    ]
