-- What literals are, once they are judged: of the kind and of the type of their column.
use Rattle.std.proofs.Common.{◌≡◌, ℤ, ℕ, ◌+◌, ◌≤◌, List, [], ◌∷◌, length, Bool, true, false, cond, refl, ◌∙◌, arith}
use Rattle.std.specs.Prelude.{IsTrue, IfSome, ◌&&◌, ◌==◌, nat_le, pos, int_le, ◌*◌, ◌/◌, ◌%◌, if◌then◌else◌, Option, Some, None, Ok, Err}
use Rattle.std.proofs.lemmas.Bool.Decides.{nat_tests}
use Rattle.mdc_values.specs.declared.literal.Literal.{Literal}
use Rattle.mdc_values.specs.declared.literal.Literal.TheVariants as literal
use Rattle.mdc_values.specs.declared.value.ColType.{ColType}
use Rattle.mdc_values.specs.declared.value.ColType.TheVariants.{Integer, Bigint, Char, Date}
use Rattle.mdc_values.specs.declared.value.Value.TheVariants.{Null, Int, Text}
use Rattle.mdc_values.specs.Calendar.{day_named, day_of, is_date, is_day_text, two_digits_at}
use Rattle.mdc_values.specs.Value.{are_bytes, before_text, trimmed}
use Rattle.mdc_values.proofs.ValueLemmas.{are_bytes-trimmed}
use Rattle.mdc_values.specs.declared.fitting.ValueFault.TheVariants.{TooLong, WrongType}
use Rattle.mdc_values.specs.Fitting.{day_if, in_bigint, in_integer, fit_of, number_if, signed}
use Rattle.mdc_ast.specs.Database.{is_day_number, is_of_type}
use Rattle.mdc_ast.specs.Kinds.{Numbers, Days, kind_of}
use Rattle.statement_meaning.specs.Judging.{fit_compared, judged_value}
use Rattle.mdc_ast.proofs.FitsLemmas.{is_of_type-text}
use Rattle.mdc_ast.proofs.KindsLemmas.{is_of_kind}

-- ---- kinds

-- what a literal is, once it is judged, has the kind of its column

number_kind : (b : Bool) (n : ℤ) → IsTrue (is_of_kind (judged_value (number_if b n)) Numbers)
number_kind true n = refl
number_kind false n = refl

day_kind : (o : Option ℕ) → IsTrue (is_of_kind (judged_value (day_if o)) Days)
day_kind None = refl
day_kind (Some day) = refl

pub is_of_kind-fit_compared : (ty : ColType) (lit : Literal) → IsTrue (is_of_kind (judged_value (fit_compared ty lit)) (kind_of ty))
is_of_kind-fit_compared Integer (literal.Number negative size) = number_kind (in_bigint (signed negative size)) (signed negative size)
is_of_kind-fit_compared Bigint (literal.Number negative size) = number_kind (in_bigint (signed negative size)) (signed negative size)
is_of_kind-fit_compared Date (literal.Text text) = day_kind (day_named text)
is_of_kind-fit_compared Date (literal.Date text) = day_kind (day_named text)
is_of_kind-fit_compared Integer literal.Null = refl
is_of_kind-fit_compared Integer (literal.Text text) = refl
is_of_kind-fit_compared Integer (literal.Date text) = refl
is_of_kind-fit_compared Bigint literal.Null = refl
is_of_kind-fit_compared Bigint (literal.Text text) = refl
is_of_kind-fit_compared Bigint (literal.Date text) = refl
is_of_kind-fit_compared (Char n) literal.Null = refl
is_of_kind-fit_compared (Char n) (literal.Number negative size) = refl
is_of_kind-fit_compared (Char n) (literal.Text text) = refl
is_of_kind-fit_compared (Char n) (literal.Date text) = refl
is_of_kind-fit_compared Date literal.Null = refl
is_of_kind-fit_compared Date (literal.Number negative size) = refl

-- ---- literals are of the type of their column

number_type : (ty : ColType) (holds : ℤ → Bool) → ((n : ℤ) → is_of_type ty (Int n) ≡ holds n) → IsTrue (is_of_type ty Null) → (n : ℤ) (b : Bool) → holds n ≡ b → IsTrue (is_of_type ty (judged_value (number_if b n)))
number_type ty holds is null n true e = is n ∙ e
number_type ty holds is null n false e = null

before_text-trimmed : (byte : ℕ) (text : List ℕ) → trimmed text ≡ text → trimmed (before_text byte text) ≡ before_text byte text
before_text-trimmed byte [] e = by_byte (byte == 32) refl
  where
    by_byte : (b : Bool) → (byte == 32) ≡ b → trimmed (if b then [] else byte ∷ []) ≡ (if b then [] else byte ∷ [])
    by_byte true is = refl
    by_byte false is = rw is refl
before_text-trimmed byte (next ∷ text) e = rw e refl

trimmed-trimmed : (text : List ℕ) → trimmed (trimmed text) ≡ trimmed text
trimmed-trimmed [] = refl
trimmed-trimmed (byte ∷ text) = before_text-trimmed byte (trimmed text) (trimmed-trimmed text)

text_type : (n : ℕ) (text : List ℕ) (bytes short : Bool) → are_bytes text ≡ bytes → nat_le (length (trimmed text)) n ≡ short
    → IsTrue (is_of_type (Char n) (judged_value (if bytes then (if short then Ok (Text (trimmed text)) else Err TooLong) else Err WrongType)))
text_type n text true true are e =
    let le : length (trimmed text) ≤ n = grind (arith, nat_tests, e) in
    is_of_type-text n (trimmed text) (record { short = le; ends = trimmed-trimmed text; bytes = are_bytes-trimmed text are })
text_type n text true false are e = refl
text_type n text false short are e = refl

days_few : (p q r : Bool) → cond p (cond q 29 28) (cond r 30 31) ≤ 31
days_few true true r = omega arith
days_few true false r = omega arith
days_few false q true = omega arith
days_few false q false = omega arith

-- the parts of a number yyyymmdd
year_of : (year month day : ℕ) → month ≤ 99 → day ≤ 99 → (10000 * year + 100 * month + day) / 10000 ≡ year
year_of year month day m d = omega (arith, m, d)

month_of : (year month day : ℕ) → month ≤ 99 → day ≤ 99 → (10000 * year + 100 * month + day) / 100 % 100 ≡ month
month_of year month day m d = omega (arith, m, d)

date_of : (year month day : ℕ) → month ≤ 99 → day ≤ 99 → (10000 * year + 100 * month + day) % 100 ≡ day
date_of year month day m d = omega (arith, m, d)

le_of : (m n : ℕ) → IsTrue (int_le (pos m) (pos n)) → m ≤ n
le_of m n h = grind (arith, nat_tests, h)

day_few : (day : ℕ) (p q r : Bool) → IsTrue (int_le (pos day) (pos (cond p (cond q 29 28) (cond r 30 31)))) → day ≤ 99
day_few day p q r h = omega (arith, le_of day (cond p (cond q 29 28) (cond r 30 31)) h, days_few p q r)

fourth_and_last : (a b c d e f : Bool) → IsTrue (a && b && c && d && e && f) → IsTrue d × IsTrue f
fourth_and_last true true true true true f h = (refl, h)
fourth_and_last true true true true false f h = cc
fourth_and_last true true true false e f h = cc
fourth_and_last true true false d e f h = cc
fourth_and_last true false c d e f h = cc
fourth_and_last false b c d e f h = cc

day_is : (year month day : ℕ) → IsTrue (is_date (pos year) (pos month) (pos day)) → IsTrue (is_day_number (10000 * year + 100 * month + day))
day_is year month day h =
    let ends = fourth_and_last (int_le (pos 1) (pos year)) (int_le (pos year) (pos 9999)) (int_le (pos 1) (pos month)) (int_le (pos month) (pos 12)) (int_le (pos 1) (pos day)) _ h in
    let m : month ≤ 99 = omega (arith, le_of month 12 ends.0) in
    let d : day ≤ 99 = day_few day _ _ _ ends.1 in
    rw (year_of year month day m d, month_of year month day m d, date_of year month day m d) h

day_type : (o : Option ℕ) → IfSome o (λ day. IsTrue (is_day_number day)) → IsTrue (is_of_type Date (judged_value (day_if o)))
day_type None h = refl
day_type (Some day) h = h

day_of_is : (year month day : ℕ) (b : Bool) → is_date (pos year) (pos month) (pos day) ≡ b → IfSome (if b then Some (10000 * year + 100 * month + day) else None) (λ day. IsTrue (is_day_number day))
day_of_is year month day true e = day_is year month day e
day_of_is year month day false e = tt

day_named_is : (text : List ℕ) (b : Bool) (year month day : ℕ) → IfSome (if b then day_of (pos year) (pos month) (pos day) else None) (λ day. IsTrue (is_day_number day))
day_named_is text true year month day = day_of_is year month day (is_date (pos year) (pos month) (pos day)) refl
day_named_is text false year month day = tt

date_type : (text : List ℕ) → IsTrue (is_of_type Date (judged_value (day_if (day_named text))))
date_type text = day_type (day_named text) (day_named_is text (is_day_text text) (100 * two_digits_at text 0 + two_digits_at text 2) (two_digits_at text 5) (two_digits_at text 8))

-- what a literal is in a column
pub is_of_type-fit_of : (ty : ColType) (lit : Literal) → IsTrue (is_of_type ty (judged_value (fit_of ty lit)))
is_of_type-fit_of Integer (literal.Number negative size) = number_type Integer in_integer (λ n. refl) refl (signed negative size) (in_integer (signed negative size)) refl
is_of_type-fit_of Bigint (literal.Number negative size) = number_type Bigint in_bigint (λ n. refl) refl (signed negative size) (in_bigint (signed negative size)) refl
is_of_type-fit_of (Char n) (literal.Text text) = text_type n text (are_bytes text) (nat_le (length (trimmed text)) n) refl refl
is_of_type-fit_of Date (literal.Text text) = date_type text
is_of_type-fit_of Date (literal.Date text) = date_type text
is_of_type-fit_of Integer literal.Null = refl
is_of_type-fit_of Integer (literal.Text text) = refl
is_of_type-fit_of Integer (literal.Date text) = refl
is_of_type-fit_of Bigint literal.Null = refl
is_of_type-fit_of Bigint (literal.Text text) = refl
is_of_type-fit_of Bigint (literal.Date text) = refl
is_of_type-fit_of (Char n) literal.Null = refl
is_of_type-fit_of (Char n) (literal.Number negative size) = refl
is_of_type-fit_of (Char n) (literal.Date text) = refl
is_of_type-fit_of Date literal.Null = refl
is_of_type-fit_of Date (literal.Number negative size) = refl
