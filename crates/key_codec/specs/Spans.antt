-- What lies in a span of values, and in a range of keys.
use Rattle.std.specs.Prelude.{◌≡◌, ◌≤◌, ℕ, Bool, true, false, not, ◌&&◌, List, [], ◌∷◌, ◌++◌, length, Option, Some, None, IsTrue, if◌then◌else◌}
use Rattle.std.specs.Ordering.{is_ge, is_gt}
use Rattle.mdc_words.specs.ByteOrder.{Entry, below}
use Rattle.mdc_values.specs.declared.value.ColType.{ColType}
use Rattle.mdc_values.specs.declared.value.ColType.TheVariants as column
use Rattle.mdc_values.specs.declared.value.Value.{Value}
use Rattle.mdc_values.specs.declared.value.Value.TheVariants.{Null, Int, Text, Day}
use Rattle.mdc_values.specs.Order.{order}
use Rattle.mdc_ast.specs.declared.definition.KeyPart.{KeyPart}
use Rattle.mdc_ast.specs.declared.span.Cut.{Cut}
use Rattle.mdc_ast.specs.declared.span.Cut.TheVariants.{First, Before, After, Last}
use Rattle.mdc_ast.specs.declared.span.Span.{Span}
use Rattle.key_codec.specs.Keys.{has_key, part_bytes}

-- ---- values

-- a value lies above a cut, in SQL order
abbrev pub is_above : Cut → Value → Bool
is_above First value = true
is_above (Before other) value = is_ge (order value other)
is_above (After other) value = is_gt (order value other)
is_above Last value = false

-- a value lies in a span: above its low cut and below its high one
abbrev pub lies_in_span : Span → Value → Bool
lies_in_span span value = is_above span.low value && not (is_above span.high value)

-- a value is of the kind of a type, within it or not
abbrev pub has_kind_of : ColType → Value → Bool
has_kind_of column.Integer (Int n) = true
has_kind_of column.Bigint (Int n) = true
has_kind_of (column.Char n) (Text text) = true
has_kind_of column.Date (Day day) = true
has_kind_of ty Null = true
has_kind_of ty value = false

-- the value that a cut stands beside is of that kind; the first and the last cut have none
abbrev pub cut_has_kind_of : ColType → Cut → Bool
cut_has_kind_of ty First = true
cut_has_kind_of ty (Before value) = has_kind_of ty value
cut_has_kind_of ty (After value) = has_kind_of ty value
cut_has_kind_of ty Last = true

-- both cuts of a span are so
abbrev pub span_has_kind_of : ColType → Span → Bool
span_has_kind_of ty span = cut_has_kind_of ty span.low && cut_has_kind_of ty span.high

-- ---- keys

-- an entry is at or above a bound; none is where there is no bound
abbrev pub reaches : Option Entry → Entry → Bool
reaches None entry = false
reaches (Some bound) entry = not (below entry bound)

-- an entry lies in a half open range, which has no end where there is no high bound
abbrev pub is_in_range : Entry → Option Entry → Entry → Bool
is_in_range low high entry = reaches (Some low) entry && not (reaches high entry)

-- the column of the first part
abbrev pub first_column : List KeyPart → ℕ
first_column [] = 0
first_column (part ∷ parts) = part.column

-- the first part is descending, so that greater values have lower keys
abbrev pub is_first_descending : List KeyPart → Bool
is_first_descending [] = false
is_first_descending (part ∷ parts) = part.descending

-- Whatever stands behind a value in a key, the key lies in the range exactly where the value lies in the span.
abbrev pub IsRangeOf : ColType → Bool → Span → Entry → Option Entry → Type 0
IsRangeOf ty descending span low high =
    (value : Value) (rest : List ℕ) → IsTrue (has_key ty value)
    → is_in_range low high (part_bytes ty descending value ++ rest) ≡ lies_in_span span value

-- a bound, if there is one, is no longer than this
abbrev pub IsShortBound : ℕ → Option Entry → Type 0
IsShortBound n None = Unit {0}
IsShortBound n (Some bound) = length bound ≤ n

-- The keys of the values above a cut reach a bound, and in a descending part those of the values below it.
abbrev pub IsBoundOf : ColType → Bool → Cut → Option Entry → Type 0
IsBoundOf ty descending cut bound =
    (value : Value) (rest : List ℕ) → IsTrue (has_key ty value)
    → reaches bound (part_bytes ty descending value ++ rest) ≡ (if descending then not (is_above cut value) else is_above cut value)
