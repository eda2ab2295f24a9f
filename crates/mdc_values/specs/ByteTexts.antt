-- Texts with a number above 255, worked by hand: no program has one, and none fits a column.
use Rattle.std.specs.Prelude.{◌≡◌, refl, ℕ, List, [], ◌∷◌, false, Ok, Err}
use Rattle.mdc_values.specs.declared.fitting.ValueFault.TheVariants.{NoDate, WrongType}
use Rattle.mdc_values.specs.declared.literal.Literal.TheVariants as literal
use Rattle.mdc_values.specs.declared.value.ColType.TheVariants.{Integer, Bigint, Char, Date}
use Rattle.mdc_values.specs.Fitting.{fit_of}
use Rattle.mdc_values.specs.declared.value.Value.TheVariants.{Text}
use Rattle.mdc_values.specs.Value.{are_bytes}

-- 256 is no byte, and 255 is the last one
no_byte : are_bytes (97 ∷ 256 ∷ []) ≡ false
no_byte = refl

last_byte : fit_of (Char 2) (literal.Text (97 ∷ 255 ∷ 32 ∷ [])) ≡ Ok (Text (97 ∷ 255 ∷ []))
last_byte = refl

-- whatever stands behind it, and however long the column is
in_no_char : (n : ℕ) (text : List ℕ) → fit_of (Char n) (literal.Text (256 ∷ text)) ≡ Err WrongType
in_no_char n text = refl

in_no_integer : (text : List ℕ) → fit_of Integer (literal.Text (256 ∷ text)) ≡ Err WrongType
in_no_integer text = refl

in_no_bigint : (text : List ℕ) → fit_of Bigint (literal.Text (256 ∷ text)) ≡ Err WrongType
in_no_bigint text = refl

-- ten characters of which the first is none of a date
in_no_date : fit_of Date (literal.Text (256 ∷ 48 ∷ 50 ∷ 52 ∷ 45 ∷ 48 ∷ 49 ∷ 45 ∷ 48 ∷ 49 ∷ [])) ≡ Err NoDate
in_no_date = refl
