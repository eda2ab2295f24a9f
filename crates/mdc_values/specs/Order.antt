-- SQL order, and the truth of comparisons (docs/SQL.md, "Values").
use Rattle.std.specs.Prelude.{ℕ, ◌-◌, List, ◌++◌, length, replicate, Bool, true, false, not}
use Rattle.std.specs.declared.cmp.Ordering.{Ordering}
use Rattle.std.specs.Ordering.{nat_cmp, int_cmp, is_lt, is_le, is_eq, is_gt, is_ge}
use Rattle.std.specs.declared.cmp.Ordering.TheVariants as ordering
use Rattle.std.specs.Cmp.Lexicographic.{slice_cmp}
use Rattle.mdc_values.specs.declared.truth.Op.{Op}
use Rattle.mdc_values.specs.declared.truth.Op.TheVariants.{Equal, Unequal, Less, AtMost, Greater, AtLeast}
use Rattle.mdc_values.specs.declared.truth.Truth.{Truth}
use Rattle.mdc_values.specs.declared.truth.Truth.TheVariants.{True, False, Unknown}
use Rattle.mdc_values.specs.declared.value.Value.{Value}
use Rattle.mdc_values.specs.declared.value.Value.TheVariants.{Null, Int, Text, Day}

-- two values of one kind, or one is a null
abbrev pub are_alike : Value → Value → Bool
are_alike Null b = true
are_alike a Null = true
are_alike (Int a) (Int b) = true
are_alike (Text a) (Text b) = true
are_alike (Day a) (Day b) = true
are_alike a b = false

-- a text with blanks behind it, up to n bytes
abbrev pub padded : ℕ → List ℕ → List ℕ
padded n text = text ++ replicate (n - length text) 32

-- texts go by bytes, the shorter one as if padded with blanks
abbrev pub text_order : List ℕ → List ℕ → Ordering
text_order a b = slice_cmp nat_cmp (padded (length b) a) (padded (length a) b)

-- the order of a text and as many blanks
abbrev pub order_to_blanks : List ℕ → Ordering
order_to_blanks text = slice_cmp nat_cmp text (replicate (length text) 32)

-- SQL order: numbers and days go by size, and a null stands above all; values of two kinds don't meet
abbrev pub order : Value → Value → Ordering
order Null Null = ordering.Equal
order Null b = ordering.Greater
order a Null = ordering.Less
order (Int a) (Int b) = int_cmp a b
order (Text a) (Text b) = text_order a b
order (Day a) (Day b) = nat_cmp a b
order a b = ordering.Equal

-- what an order says of a comparison
abbrev pub holds : Op → Ordering → Bool
holds Equal o = is_eq o
holds Unequal o = not (is_eq o)
holds Less o = is_lt o
holds AtMost o = is_le o
holds Greater o = is_gt o
holds AtLeast o = is_ge o

-- what is known is true or false
abbrev pub told : Bool → Truth
told true = True
told false = False

-- a comparison with a null is unknown
abbrev pub compared : Op → Value → Value → Truth
compared op Null b = Unknown
compared op a Null = Unknown
compared op a b = told (holds op (order a b))
