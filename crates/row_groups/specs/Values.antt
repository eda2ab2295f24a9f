-- How groups, aggregates and ORDER BY look at values.
use Rattle.std.specs.Prelude.{ℕ, ℤ, pos, nat_lt, length, Bool, true, false, ◌||◌, ◌==◌, if◌then◌else◌}
use Rattle.std.specs.Ordering.{int_eq, int_cmp, nat_cmp, is_lt, is_gt, ordering_then}
use Rattle.std.specs.Str.{bytes_eq}
use Rattle.std.specs.declared.cmp.Ordering.{Ordering}
use Rattle.std.specs.declared.cmp.Ordering.TheVariants as ordering
use Rattle.mdc_values.specs.declared.value.Value.{Value}
use Rattle.mdc_values.specs.declared.value.Value.TheVariants.{Null, Int, Text, Day}
use Rattle.mdc_values.specs.Order.{text_order}
use Rattle.mdc_values.specs.Value.{trimmed}
use Rattle.mdc_values.specs.Fitting.{in_bigint}
use Rattle.mdc_ast.specs.Database.{is_null}

-- two values belong to one group: a null with a null, and texts whatever blanks stand at their ends (Db2, "group-by-clause")
abbrev pub belong_together : Value → Value → Bool
belong_together Null Null = true
belong_together (Int a) (Int b) = int_eq a b
belong_together (Text a) (Text b) = bytes_eq (trimmed a) (trimmed b)
belong_together (Day a) (Day b) = a == b
belong_together a b = false

-- SQL order, in which a null stands above all (Db2, "order-by-clause"); where the kinds differ numbers come first, then texts, then days
abbrev pub sql_order : Value → Value → Ordering
sql_order (Int a) (Int b) = int_cmp a b
sql_order (Text a) (Text b) = text_order a b
sql_order (Day a) (Day b) = nat_cmp a b
sql_order Null Null = ordering.Equal
sql_order (Int a) b = ordering.Less
sql_order Null b = ordering.Greater
sql_order a (Int b) = ordering.Greater
sql_order a Null = ordering.Less
sql_order (Text a) b = ordering.Less
sql_order (Day a) b = ordering.Greater

-- the bytes of a text, and none of all else
abbrev pub size_of : Value → ℕ
size_of (Text text) = length text
size_of value = 0

-- SQL order, and the shorter text before one with more blanks at its end: no two values tie
abbrev pub value_order : Value → Value → Ordering
value_order a b = ordering_then (sql_order a b) (nat_cmp (size_of a) (size_of b))

-- the lesser of the best so far and a value; a null is the best of none
abbrev pub lesser : Value → Value → Value
lesser best value = if is_null best || is_lt (value_order value best) then value else best

-- the greater one
abbrev pub greater : Value → Value → Value
greater best value = if is_null best || is_gt (value_order value best) then value else best

-- the value as a number
abbrev pub number_in : Value → ℤ
number_in (Int n) = n
number_in value = pos 0

-- a number has 64 bits and a day 32, as all have that a row may hold
abbrev pub is_small : Value → Bool
is_small (Int n) = in_bigint n
is_small (Day day) = nat_lt day 4294967296
is_small value = true
