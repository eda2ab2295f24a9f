-- The number that digits write, where it is kept at the greatest that fits.
use Rattle.std.proofs.Common.{◌≡◌, ℕ, ◌+◌, ◌-◌, ◌*◌, ◌≤◌, min, List, [], ◌∷◌, length, get_or, sym, ◌∙◌, subst, arith}
use Rattle.std.specs.Prelude.{IsTrue}
use Rattle.std.specs.Char.{IsAsciiDigit}
use Rattle.std.proofs.lemmas.Bool.Decides.{nat_tests}
use Rattle.mdc_ast.specs.Tokens.{number_behind}
use Rattle.mdc_values.specs.Calendar.{is_digit}
use Rattle.sql_reader.specs.Digits.{EndsNumber}
use Rattle.sql_reader.proofs.Fronts.{longest_more, tail, first_and_tail}

-- what ends the number from here on ends it from the first digit on
pub record GoesOn (kept : ℕ) (bytes : List ℕ) (number : ℕ) (rest : List ℕ) : Type 0 where
  pub fits : number ≤ 18446744073709551615
  pub ends : (value : ℕ) (left : List ℕ) → EndsNumber number rest value left → EndsNumber kept bytes value left

-- numbers that are kept alike go on alike
kept_alike : (m n k : ℕ) (digits : List ℕ) → min n m ≡ min k m → min (number_behind n digits) m ≡ min (number_behind k digits) m
kept_alike m n k [] e = e
kept_alike m n k (digit ∷ digits) e = kept_alike m (10 * n + (digit - 48)) (10 * k + (digit - 48)) digits (omega arith)

-- a digit more is in the number
pub ends_more : (number digit next : ℕ) (rest : List ℕ) (value : ℕ) (left : List ℕ) → IsTrue (is_digit digit)
    → next ≡ min (min (number * 10) 18446744073709551615 + (digit - 48)) 18446744073709551615
    → EndsNumber next rest value left → EndsNumber number (digit ∷ rest) value left
ends_more number digit next rest value left h e ends = record {
  digits = digit ∷ ends.digits;
  longest = longest_more is_digit digit rest ends.digits left h ends.longest;
  value = ends.value ∙ kept_alike 18446744073709551615 next (10 * number + (digit - 48)) ends.digits (omega arith);
}

-- what is a digit of ASCII is a digit
is_digit-from_ascii : (b : ℕ) → IsAsciiDigit b → IsTrue (is_digit b)
is_digit-from_ascii b h = grind (arith, nat_tests)

-- a step of the loop over digits
pub goes_on_more : (kept : ℕ) (bytes : List ℕ) (number : ℕ) (rest : List ℕ) (next : ℕ) → GoesOn kept bytes number rest → 1 ≤ length rest → IsAsciiDigit (get_or rest 0 0)
    → next ≡ min (min (number * 10) 18446744073709551615 + (get_or rest 0 0 - 48)) 18446744073709551615
    → GoesOn kept bytes next (tail rest)
goes_on_more kept bytes number rest next before some h e = record {
  fits = omega arith;
  ends = λ value left ends.
      let P : List ℕ → Type 0 = λ l. EndsNumber number l value left in
      before.ends value left (subst P (sym (first_and_tail rest some)) (ends_more number (get_or rest 0 0) next (tail rest) value left (is_digit-from_ascii (get_or rest 0 0) h) e ends));
}
