-- The span of generated values that a span of base values derives.
use Rattle.std.specs.Prelude.{ℤ, pos, neg_ℤ, ◌+ℤ◌, ◌-ℤ◌, int_lt, unsigned_abs, Bool, true, false, IsTrue, IsFalse, Option, None, Some, if◌then◌else◌}
use Rattle.mdc_values.specs.declared.value.ColType.{ColType}
use Rattle.mdc_values.specs.declared.value.ColType.TheVariants as column
use Rattle.mdc_values.specs.declared.value.Value.{Value}
use Rattle.mdc_values.specs.declared.value.Value.TheVariants.{Null, Int, Text, Day}
use Rattle.mdc_ast.specs.Database.{is_null, is_of_type}
use Rattle.mdc_ast.specs.FittingRows.{generated_value}
use Rattle.mdc_ast.specs.Kinds.{is_number}
use Rattle.mdc_ast.specs.TableLimits.{accepts_base}
use Rattle.mdc_ast.specs.declared.definition.GenExpr.{GenExpr}
use Rattle.mdc_ast.specs.declared.definition.GenKind.{GenKind}
use Rattle.mdc_ast.specs.declared.definition.GenKind.TheVariants.{Month}
use Rattle.mdc_ast.specs.declared.span.Cut.{Cut}
use Rattle.mdc_ast.specs.declared.span.Cut.TheVariants.{First, Before, After, Last}
use Rattle.mdc_ast.specs.declared.span.Span.{Span}
use Rattle.key_codec.specs.Spans.{lies_in_span, span_has_kind_of}

-- ---- values as numbers

-- a number, or a null where there is none
abbrev pub number_or_null : Option ℤ → Value
number_or_null None = Null
number_or_null (Some n) = Int n

-- the number that a value counts as: itself, or a day yyyymmdd
abbrev pub counted_number : Value → ℤ
counted_number Null = pos 0
counted_number (Int n) = n
counted_number (Text text) = pos 0
counted_number (Day day) = pos day

-- the value of a base that counts as this number; of a DATE also a day that the calendar doesn't have
abbrev pub counted_as : ColType → ℤ → Value
counted_as column.Integer n = Int n
counted_as column.Bigint n = Int n
counted_as (column.Char length) n = Int n
counted_as column.Date n = Day (unsigned_abs n)

-- the least number of a base: of a DATE that of 0001-01-01
abbrev pub least_number : ColType → ℤ
least_number column.Integer = neg_ℤ (pos 2147483648)
least_number column.Bigint = neg_ℤ (pos 9223372036854775808)
least_number (column.Char length) = pos 0
least_number column.Date = pos 10101

-- the greatest number of a base: of a DATE that of 9999-12-31
abbrev pub greatest_number : ColType → ℤ
greatest_number column.Integer = pos 2147483647
greatest_number column.Bigint = pos 9223372036854775807
greatest_number (column.Char length) = pos 0
greatest_number column.Date = pos 99991231

-- ---- the ends of a span as numbers

-- the low number of a cut: no value of the base above the cut counts as a lower one, and no number is above a null
abbrev pub low_number : ColType → Cut → ℤ
low_number base First = least_number base
low_number base (Before Null) = greatest_number base +ℤ pos 1
low_number base (Before value) = counted_number value
low_number base (After Null) = greatest_number base +ℤ pos 1
low_number base (After value) = counted_number value +ℤ pos 1
low_number base Last = greatest_number base +ℤ pos 1

-- the high number of a cut: no value of the base below the cut counts as a higher one, and each number is below a null
abbrev pub high_number : ColType → Cut → ℤ
high_number base First = least_number base -ℤ pos 1
high_number base (Before Null) = greatest_number base
high_number base (Before value) = counted_number value -ℤ pos 1
high_number base (After Null) = greatest_number base
high_number base (After value) = counted_number value
high_number base Last = greatest_number base

-- ---- the derived span

-- the nearest number of 64 bits
abbrev pub nearest : ℤ → ℤ
nearest n =
    if int_lt n (neg_ℤ (pos 9223372036854775808)) then neg_ℤ (pos 9223372036854775808)
    else if int_lt (pos 9223372036854775807) n then pos 9223372036854775807
    else n

-- a generated value, or the nearest one of 64 bits
abbrev pub nearest_value : Value → Value
nearest_value Null = Null
nearest_value (Int n) = Int (nearest n)
nearest_value (Text text) = Text text
nearest_value (Day day) = Day day

-- the generated value for the base value that counts as this number, or the nearest one of 64 bits
abbrev pub end_at : GenExpr → ColType → ℤ → Value
end_at e base n = nearest_value (generated_value e.kind e.k (counted_as base n))

-- From what is made of the low number to what is made of the high one, both included. Where low is above high nothing lies in it.
abbrev pub span_of_numbers : GenExpr → ColType → ℤ → ℤ → Span
span_of_numbers e base low high =
    if int_lt high low then record { low = Last; high = First }
    else record { low = Before (end_at e base low); high = After (end_at e base high) }

-- the month alone doesn't rise with the date, as all else that expressions make does
abbrev pub is_month : GenKind → Bool
is_month Month = true
is_month kind = false

-- the derived span; MONTH derives none
abbrev pub derived_span : GenExpr → ColType → Span → Option Span
derived_span e base span =
    if is_month e.kind then None
    else Some (span_of_numbers e base (low_number base span.low) (high_number base span.high))

-- ---- what lies in it

-- Of each value of a base that isn't null and lies in its span, and whose generated value is within its column's type, the generated
-- value lies in the range. The expression accepts the base, and the span is one of the base's kind, of values within its type or not.
abbrev pub CoversValues : GenExpr → ColType → Span → Span → Type 0
CoversValues e base span range =
    IsTrue (accepts_base e.kind base e.k) → IsTrue (span_has_kind_of base span)
    → (target : ColType) (value : Value) → IsTrue (is_of_type base value) → IsFalse (is_null value) → IsTrue (lies_in_span span value)
    → IsTrue (is_of_type target (generated_value e.kind e.k value)) → IsTrue (lies_in_span range (generated_value e.kind e.k value))

-- the span may be asked of any column of numbers
abbrev pub IsOfNumbers : Span → Type 0
IsOfNumbers range = (target : ColType) → IsTrue (is_number target) → IsTrue (span_has_kind_of target range)
