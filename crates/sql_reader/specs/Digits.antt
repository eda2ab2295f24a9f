-- The number that digits write.
use Rattle.std.specs.Prelude.{◌≡◌, ℕ, List, ◌++◌, min, Bool}
use Rattle.mdc_ast.specs.Cutting.{Passes}
use Rattle.mdc_ast.specs.Tokens.{Stops, number_behind}
use Rattle.mdc_values.specs.Calendar.{is_digit}

-- the front is all that passes the test from the first byte on
pub record IsLongestFront (test : ℕ → Bool) (bytes front rest : List ℕ) : Type 0 where
  pub whole : bytes ≡ front ++ rest
  pub passes : Passes test front
  pub stops : Stops test rest

-- the digits at the front go on from n to a number, and the rest is behind them
pub record EndsNumber (n : ℕ) (bytes : List ℕ) (number : ℕ) (rest : List ℕ) : Type 0 where
  pub digits : List ℕ
  pub longest : IsLongestFront is_digit bytes digits rest
  pub value : number ≡ min (number_behind n digits) 18446744073709551615
