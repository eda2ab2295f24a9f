-- The spans of values of which a test is true.
use Rattle.std.specs.Prelude.{List, [], ◌∷◌, Bool, true, false, if◌then◌else◌}
use Rattle.mdc_values.specs.declared.truth.Op.{Op}
use Rattle.mdc_values.specs.declared.truth.Op.TheVariants.{Equal, Unequal, Less, AtMost, Greater, AtLeast}
use Rattle.mdc_values.specs.declared.value.Value.{Value}
use Rattle.mdc_values.specs.declared.value.Value.TheVariants.{Null}
use Rattle.mdc_ast.specs.declared.span.Cut.{Cut}
use Rattle.mdc_ast.specs.declared.span.Cut.TheVariants.{First, Before, After, Last}
use Rattle.mdc_ast.specs.declared.span.Span.{Span}
use Rattle.mdc_ast.specs.Database.{is_null}

-- what lies between two cuts
abbrev pub span_between : Cut → Cut → Span
span_between low high = record { low = low; high = high }

-- the spans of a comparison with a value that isn't a null
abbrev pub spans_beside : Op → Value → List Span
spans_beside Equal value = span_between (Before value) (After value) ∷ []
spans_beside Unequal value = span_between First (Before value) ∷ span_between (After value) (Before Null) ∷ []
spans_beside Less value = span_between First (Before value) ∷ []
spans_beside AtMost value = span_between First (After value) ∷ []
spans_beside Greater value = span_between (After value) (Before Null) ∷ []
spans_beside AtLeast value = span_between (Before value) (Before Null) ∷ []

-- the spans of a comparison with a value: nothing lies in that of a null
abbrev pub spans_of : Op → Value → List Span
spans_of op value = if is_null value then span_between Last First ∷ [] else spans_beside op value

-- nulls, or what isn't one
abbrev pub null_span : (negated : Bool) → Span
null_span true = span_between First (Before Null)
null_span false = span_between (Before Null) Last
