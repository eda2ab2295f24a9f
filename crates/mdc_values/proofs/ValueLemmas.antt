-- Texts without the blanks at their end, and texts of bytes.
use Rattle.std.proofs.Common.{◌≡◌, ℕ, zero, suc, ◌-◌, ◌<◌, ◌≤◌, List, [], ◌∷◌, length, take, get_or, Bool, true, false, refl, sym, ap, ◌∙◌, arith}
use Rattle.std.specs.Prelude.{◌≢◌, IsTrue, ◌==◌, ◌&&◌, if◌then◌else◌, nat_lt}
use Rattle.std.proofs.lemmas.Bool.Decides.{nat_tests}
use Rattle.mdc_values.specs.Value.{are_bytes, before_text, trimmed}

-- a blank behind a text says nothing
pub trimmed-take_blank : (n : ℕ) (text : List ℕ) → n < length text → get_or text n 0 ≡ 32 → trimmed (take (suc n) text) ≡ trimmed (take n text)
trimmed-take_blank n [] lt e = absurd (omega (arith, lt))
trimmed-take_blank zero (b ∷ text) lt e = rw e refl
trimmed-take_blank (suc n) (b ∷ text) lt e = ap (before_text b) (trimmed-take_blank n text (omega (arith, lt)) e)

before_text-other : (b : ℕ) (text : List ℕ) → b ≢ 32 → before_text b text ≡ b ∷ text
before_text-other b [] ne = grind (arith, nat_tests)
before_text-other b (c ∷ text) ne = refl

before_text-more : (b c : ℕ) (text : List ℕ) → before_text b (c ∷ text) ≡ b ∷ c ∷ text
before_text-more b c text = refl

-- a text that ends with another byte stays
pub trimmed-take_other : (n : ℕ) (text : List ℕ) → n < length text → get_or text n 0 ≢ 32 → trimmed (take (suc n) text) ≡ take (suc n) text
trimmed-take_other n [] lt ne = absurd (omega (arith, lt))
trimmed-take_other zero (b ∷ text) lt ne = before_text-other b [] ne
trimmed-take_other (suc n) (b ∷ []) lt ne = absurd (omega (arith, lt))
trimmed-take_other (suc n) (b ∷ c ∷ text) lt ne = rw (trimmed-take_other n (c ∷ text) (omega (arith, lt)) ne) refl

-- ---- the same at the n-th byte from the front, counted from 1

pub trimmed-before_blank : (n : ℕ) (text : List ℕ) → 0 < n → n ≤ length text → get_or text (n - 1) 0 ≡ 32 → trimmed (take (n - 1) text) ≡ trimmed (take n text)
trimmed-before_blank zero text lt le e = absurd (omega (arith, lt))
trimmed-before_blank (suc n) text lt le e =
    let less : suc n - 1 ≡ n = omega arith in
    let blank : get_or text n 0 ≡ 32 = ap (λ i. get_or text i 0) (sym less) ∙ e in
    rw less (sym (trimmed-take_blank n text (omega (arith, le)) blank))

pub trimmed-up_to_other : (n : ℕ) (text : List ℕ) → 0 < n → n ≤ length text → get_or text (n - 1) 0 ≢ 32 → trimmed (take n text) ≡ take n text
trimmed-up_to_other zero text lt le ne = absurd (omega (arith, lt))
trimmed-up_to_other (suc n) text lt le ne =
    let less : suc n - 1 ≡ n = omega arith in
    trimmed-take_other n text (omega (arith, le)) (λ e. ne (ap (λ i. get_or text i 0) less ∙ e))

pub trimmed-nothing : (n : ℕ) (text : List ℕ) → n ≤ 0 → trimmed (take n text) ≡ take n text
trimmed-nothing zero text le = refl
trimmed-nothing (suc n) text le = absurd (omega (arith, le))

-- ---- texts of bytes

-- a text has bytes alone where each of its numbers is one
pub are_bytes-from : (text : List ℕ) → ((i : ℕ) → get_or text i 0 < 256) → are_bytes text ≡ true
are_bytes-from [] below = refl
are_bytes-from (b ∷ text) below =
    let first : nat_lt b 256 ≡ true = grind (arith, nat_tests, below 0) in
    rw (first, are_bytes-from text (λ i. below (suc i))) refl

-- a byte, and bytes behind it
pub are_bytes-parts : (b : ℕ) (text : List ℕ) → IsTrue (are_bytes (b ∷ text)) → (b < 256) × IsTrue (are_bytes text)
are_bytes-parts b text h = by (nat_lt b 256) refl h
  where
    by : (low : Bool) → nat_lt b 256 ≡ low → IsTrue (low && are_bytes text) → (b < 256) × IsTrue (are_bytes text)
    by true e h = (grind (arith, nat_tests, e), h)
    by false e h = absurd cc

-- and the other way: each number of a text of bytes is below 256, and so is what is read behind its end
pub are_bytes-at : (text : List ℕ) → IsTrue (are_bytes text) → (i : ℕ) → get_or text i 0 < 256
are_bytes-at [] h i = omega arith
are_bytes-at (b ∷ text) h zero = (are_bytes-parts b text h).0
are_bytes-at (b ∷ text) h (suc i) = are_bytes-at text (are_bytes-parts b text h).1 i

-- a byte before bytes
pub are_bytes-cons : (b : ℕ) (text : List ℕ) → b < 256 → IsTrue (are_bytes text) → IsTrue (are_bytes (b ∷ text))
are_bytes-cons b text low h = let first : nat_lt b 256 ≡ true = grind (arith, nat_tests, low) in rw first h

-- without the blanks at its end a text of bytes is one
pub are_bytes-trimmed : (text : List ℕ) → IsTrue (are_bytes text) → IsTrue (are_bytes (trimmed text))
are_bytes-trimmed [] h = refl
are_bytes-trimmed (b ∷ text) h =
    let parts = are_bytes-parts b text h in
    before b (trimmed text) parts.0 (are_bytes-trimmed text parts.1)
  where
    before : (b : ℕ) (text : List ℕ) → b < 256 → IsTrue (are_bytes text) → IsTrue (are_bytes (before_text b text))
    before b [] low h = by (b == 32)
      where
        by : (blank : Bool) → IsTrue (are_bytes (if blank then [] else b ∷ []))
        by true = refl
        by false = are_bytes-cons b [] low refl
    before b (c ∷ text) low h = are_bytes-cons b (c ∷ text) low h
