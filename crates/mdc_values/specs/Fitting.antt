-- Which literals fit a column (docs/SQL.md, "Values").
use Rattle.std.specs.Prelude.{◌≡◌, ℕ, ℤ, pos, neg_ℤ, int_le, List, length, Bool, true, false, ◌&&◌, nat_le, if◌then◌else◌, Option, Some, None, Result, Ok, Err}
use Rattle.mdc_values.specs.declared.fitting.ValueFault.{ValueFault}
use Rattle.mdc_values.specs.declared.fitting.ValueFault.TheVariants.{WrongType, OutOfRange, TooLong, NoDate, Memory}
use Rattle.mdc_values.specs.declared.literal.Literal.{Literal}
use Rattle.mdc_values.specs.declared.literal.Literal.TheVariants as literal
use Rattle.mdc_values.specs.declared.value.ColType.{ColType}
use Rattle.mdc_values.specs.declared.value.ColType.TheVariants.{Integer, Bigint, Char, Date}
use Rattle.mdc_values.specs.declared.value.Value.{Value}
use Rattle.mdc_values.specs.declared.value.Value.TheVariants.{Null, Int, Text, Day}
use Rattle.mdc_values.specs.Calendar.{day_named}
use Rattle.mdc_values.specs.Value.{IsText, are_bytes, trimmed}

-- the number that a sign and a magnitude write
abbrev pub signed : Bool → ℕ → ℤ
signed true size = neg_ℤ (pos size)
signed false size = pos size

-- INTEGER goes from -2147483648 to 2147483647
abbrev pub in_integer : ℤ → Bool
in_integer n = int_le (neg_ℤ (pos 2147483648)) n && int_le n (pos 2147483647)

-- BIGINT has 64 bits
abbrev pub in_bigint : ℤ → Bool
in_bigint n = int_le (neg_ℤ (pos 9223372036854775808)) n && int_le n (pos 9223372036854775807)

-- the number where its column may hold it, else the fault that is told as 31
abbrev pub number_if : Bool → ℤ → Result Value ValueFault
number_if fits n = if fits then Ok (Int n) else Err OutOfRange

-- the day that a text names, else the fault that is told as 34
abbrev pub day_if : Option ℕ → Result Value ValueFault
day_if None = Err NoDate
day_if (Some day) = Ok (Day day)

-- a text of at most n bytes
abbrev pub text_within : ℕ → List ℕ → Result Value ValueFault
text_within n text = if nat_le (length text) n then Ok (Text text) else Err TooLong

-- a text of at most n bytes once the blanks at its end are gone; one that isn't of bytes, as no program has, fits none
abbrev pub text_fit : ℕ → List ℕ → Result Value ValueFault
text_fit n text = if are_bytes text then text_within n (trimmed text) else Err WrongType

-- what a literal is in a column of that type: NULL fits every column, a number INTEGER and BIGINT, a text CHAR without
-- the blanks at its end, a text and a DATE text DATE
abbrev pub fit_of : ColType → Literal → Result Value ValueFault
fit_of ty literal.Null = Ok Null
fit_of Integer (literal.Number negative size) = number_if (in_integer (signed negative size)) (signed negative size)
fit_of Bigint (literal.Number negative size) = number_if (in_bigint (signed negative size)) (signed negative size)
fit_of (Char n) (literal.Text text) = text_fit n text
fit_of Date (literal.Text text) = day_if (day_named text)
fit_of Date (literal.Date text) = day_if (day_named text)
fit_of ty literal = Err WrongType

-- a value that takes memory
abbrev pub TakesMemory : Result Value ValueFault → Type 0
TakesMemory (Ok value) = IsText value
TakesMemory (Err fault) = ⊥

-- the answer is this one, or want of memory for a text
abbrev pub AnswersFit : Result Value ValueFault → Result Value ValueFault → Type 0
AnswersFit fitted (Err Memory) = TakesMemory fitted
AnswersFit fitted result = result ≡ fitted
