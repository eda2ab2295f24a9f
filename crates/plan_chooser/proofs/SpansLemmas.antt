-- A value lies in the spans of a test exactly where the test is true of it.
use Rattle.std.proofs.Common.{◌≡◌, ◌∙◌, List, [], ◌∷◌, Bool, true, false, map, not, refl, sym}
use Rattle.std.specs.Prelude.{◌&&◌, ◌||◌}
use Rattle.std.specs.declared.cmp.Ordering.{Ordering}
use Rattle.std.specs.declared.cmp.Ordering.TheVariants as ordering
use Rattle.std.specs.Ordering.{is_ge, is_gt}
use Rattle.std.proofs.lemmas.Bool.{false≢true}
use Rattle.mdc_values.specs.declared.truth.Op.{Op}
use Rattle.mdc_values.specs.declared.truth.Op.TheVariants.{Equal, Unequal, Less, AtMost, Greater, AtLeast}
use Rattle.mdc_values.specs.declared.value.Value.{Value}
use Rattle.mdc_values.specs.declared.value.Value.TheVariants.{Null, Int, Text, Day}
use Rattle.mdc_values.specs.Order.{compared, holds, order, told}
use Rattle.mdc_ast.specs.Database.{is_null}
use Rattle.mdc_ast.specs.declared.span.Span.{Span}
use Rattle.mdc_ast.specs.Truth.{is_true, negated_if}
use Rattle.key_codec.specs.Spans.{lies_in_span}
use Rattle.cell_filter.specs.Cells.{any_true}
use Rattle.plan_chooser.specs.Spans.{null_span, spans_beside, spans_of}

-- a value lies in one of them
abbrev pub lies_in_any : List Span → Value → Bool
lies_in_any spans value = any_true (map (λ span. lies_in_span span value) spans)

-- beside a value that isn't a null lies what is told by the order
abbrev by_order : Op → Ordering → Bool
by_order Equal o = (is_ge o && not (is_gt o)) || false
by_order Unequal o = (true && not (is_ge o)) || ((is_gt o && true) || false)
by_order Less o = (true && not (is_ge o)) || false
by_order AtMost o = (true && not (is_gt o)) || false
by_order Greater o = (is_gt o && true) || false
by_order AtLeast o = (is_ge o && true) || false

ordered : (op : Op) (o : Ordering) → by_order op o ≡ is_true (told (holds op o))
ordered Equal ordering.Less = refl
ordered Equal ordering.Equal = refl
ordered Equal ordering.Greater = refl
ordered Unequal ordering.Less = refl
ordered Unequal ordering.Equal = refl
ordered Unequal ordering.Greater = refl
ordered Less ordering.Less = refl
ordered Less ordering.Equal = refl
ordered Less ordering.Greater = refl
ordered AtMost ordering.Less = refl
ordered AtMost ordering.Equal = refl
ordered AtMost ordering.Greater = refl
ordered Greater ordering.Less = refl
ordered Greater ordering.Equal = refl
ordered Greater ordering.Greater = refl
ordered AtLeast ordering.Less = refl
ordered AtLeast ordering.Equal = refl
ordered AtLeast ordering.Greater = refl

-- the value and the other are no nulls
known : (op : Op) (x v : Value) → is_null x ≡ false → is_null v ≡ false → lies_in_any (spans_beside op v) x ≡ by_order op (order x v)
known op Null v hx hv = absurd (false≢true (sym hx))
known op (Int a) Null hx hv = absurd (false≢true (sym hv))
known op (Text a) Null hx hv = absurd (false≢true (sym hv))
known op (Day a) Null hx hv = absurd (false≢true (sym hv))
known Equal (Int a) v hx hv = refl
known Equal (Text a) v hx hv = refl
known Equal (Day a) v hx hv = refl
known Unequal (Int a) v hx hv = refl
known Unequal (Text a) v hx hv = refl
known Unequal (Day a) v hx hv = refl
known Less (Int a) v hx hv = refl
known Less (Text a) v hx hv = refl
known Less (Day a) v hx hv = refl
known AtMost (Int a) v hx hv = refl
known AtMost (Text a) v hx hv = refl
known AtMost (Day a) v hx hv = refl
known Greater (Int a) v hx hv = refl
known Greater (Text a) v hx hv = refl
known Greater (Day a) v hx hv = refl
known AtLeast (Int a) v hx hv = refl
known AtLeast (Text a) v hx hv = refl
known AtLeast (Day a) v hx hv = refl

-- no comparison is true of a null
null_lies : (op : Op) (v : Value) → is_null v ≡ false → lies_in_any (spans_beside op v) Null ≡ false
null_lies op Null hv = absurd (false≢true (sym hv))
null_lies Equal (Int b) hv = refl
null_lies Equal (Text b) hv = refl
null_lies Equal (Day b) hv = refl
null_lies Unequal (Int b) hv = refl
null_lies Unequal (Text b) hv = refl
null_lies Unequal (Day b) hv = refl
null_lies Less (Int b) hv = refl
null_lies Less (Text b) hv = refl
null_lies Less (Day b) hv = refl
null_lies AtMost (Int b) hv = refl
null_lies AtMost (Text b) hv = refl
null_lies AtMost (Day b) hv = refl
null_lies Greater (Int b) hv = refl
null_lies Greater (Text b) hv = refl
null_lies Greater (Day b) hv = refl
null_lies AtLeast (Int b) hv = refl
null_lies AtLeast (Text b) hv = refl
null_lies AtLeast (Day b) hv = refl

-- A value lies in the spans of a comparison exactly where the comparison is true of it.
pub lies_as_compared : (op : Op) (x v : Value) → lies_in_any (spans_of op v) x ≡ is_true (compared op x v)
lies_as_compared op Null Null = refl
lies_as_compared op (Int a) Null = refl
lies_as_compared op (Text a) Null = refl
lies_as_compared op (Day a) Null = refl
lies_as_compared op Null (Int b) = null_lies op (Int b) refl
lies_as_compared op Null (Text b) = null_lies op (Text b) refl
lies_as_compared op Null (Day b) = null_lies op (Day b) refl
lies_as_compared op (Int a) (Int b) = known op (Int a) (Int b) refl refl ∙ ordered op (order (Int a) (Int b))
lies_as_compared op (Int a) (Text b) = known op (Int a) (Text b) refl refl ∙ ordered op (order (Int a) (Text b))
lies_as_compared op (Int a) (Day b) = known op (Int a) (Day b) refl refl ∙ ordered op (order (Int a) (Day b))
lies_as_compared op (Text a) (Int b) = known op (Text a) (Int b) refl refl ∙ ordered op (order (Text a) (Int b))
lies_as_compared op (Text a) (Text b) = known op (Text a) (Text b) refl refl ∙ ordered op (order (Text a) (Text b))
lies_as_compared op (Text a) (Day b) = known op (Text a) (Day b) refl refl ∙ ordered op (order (Text a) (Day b))
lies_as_compared op (Day a) (Int b) = known op (Day a) (Int b) refl refl ∙ ordered op (order (Day a) (Int b))
lies_as_compared op (Day a) (Text b) = known op (Day a) (Text b) refl refl ∙ ordered op (order (Day a) (Text b))
lies_as_compared op (Day a) (Day b) = known op (Day a) (Day b) refl refl ∙ ordered op (order (Day a) (Day b))

pub lies_as_null : (negated : Bool) (x : Value) → lies_in_any (null_span negated ∷ []) x ≡ is_true (negated_if negated (told (is_null x)))
lies_as_null true Null = refl
lies_as_null true (Int a) = refl
lies_as_null true (Text a) = refl
lies_as_null true (Day a) = refl
lies_as_null false Null = refl
lies_as_null false (Int a) = refl
lies_as_null false (Text a) = refl
lies_as_null false (Day a) = refl
