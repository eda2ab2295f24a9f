-- Whether a row qualifies: truth with three values (docs/SQL.md, "SELECT").
use Rattle.std.specs.Prelude.{ℕ, List, [], ◌∷◌, map, length, Bool, true, false, ◌&&◌, nat_lt, slice_get, unwrap_or, Option, Some, None}
use Rattle.std.specs.List.{list_all}
use Rattle.mdc_values.specs.declared.truth.Op.TheVariants.{Equal, AtMost, AtLeast}
use Rattle.mdc_values.specs.declared.truth.Truth.{Truth}
use Rattle.mdc_values.specs.declared.truth.Truth.TheVariants.{True, False, Unknown}
use Rattle.mdc_values.specs.declared.value.Value.{Value}
use Rattle.mdc_values.specs.declared.value.Value.TheVariants as value
use Rattle.mdc_values.specs.Order.{are_alike, compared, told}
use Rattle.mdc_ast.specs.Database.{is_null}
use Rattle.mdc_ast.specs.declared.predicate.Atom.{Atom}
use Rattle.mdc_ast.specs.declared.predicate.Right.{Right}
use Rattle.mdc_ast.specs.declared.predicate.Right.TheVariants as right
use Rattle.mdc_ast.specs.declared.predicate.Test.{Test}
use Rattle.mdc_ast.specs.declared.predicate.Test.TheVariants.{Compare, Between, Within, IsNull}
use Rattle.mdc_ast.specs.declared.predicate.Pred.{Pred}
use Rattle.mdc_ast.specs.declared.predicate.Pred.TheOpen.{Pred-F}
use Rattle.mdc_ast.specs.declared.predicate.Pred.TheOpen as layer
use Rattle.mdc_ast.specs.declared.predicate.Pred.TheFolds.{fold-Pred}

-- ---- the three values

-- NOT: what is unknown stays unknown
abbrev pub not_of : Truth → Truth
not_of True = False
not_of False = True
not_of Unknown = Unknown

-- AND: false where one is false, and true where both are true
abbrev pub and_of : Truth → Truth → Truth
and_of True b = b
and_of False b = False
and_of Unknown False = False
and_of Unknown b = Unknown

-- OR: true where one is true, and false where both are false
abbrev pub or_of : Truth → Truth → Truth
or_of True b = True
or_of False b = b
or_of Unknown True = True
or_of Unknown b = Unknown

-- AND of all, which is true where there is none
abbrev pub all_of : List Truth → Truth
all_of [] = True
all_of (t ∷ ts) = and_of t (all_of ts)

-- OR of all, which is false where there is none
abbrev pub any_of : List Truth → Truth
any_of [] = False
any_of (t ∷ ts) = or_of t (any_of ts)

-- under the NOT within a test
abbrev pub negated_if : Bool → Truth → Truth
negated_if true t = not_of t
negated_if false t = t

-- true alone, so that what is unknown doesn't qualify
abbrev pub is_true : Truth → Bool
is_true True = true
is_true t = false

-- ---- tests

-- the value in a column of a row
abbrev pub value_at : List Value → ℕ → Value
value_at values column = unwrap_or (slice_get values column) value.Null

-- what a column is compared with
abbrev pub value_of : List Value → Right → Value
value_of values (right.Value value) = value
value_of values (right.Column column) = value_at values column

-- BETWEEN is two comparisons joined by AND, IN is equalities joined by OR, and IS NULL is never unknown
abbrev pub test_truth : List Value → Value → Test → Truth
test_truth values value (Compare op right) = compared op value (value_of values right)
test_truth values value (Between low high) = and_of (compared AtLeast value low) (compared AtMost value high)
test_truth values value (Within others) = any_of (map (compared Equal value) others)
test_truth values value IsNull = told (is_null value)

-- one test on the values of a row, turned around where NOT stands within it
abbrev pub atom_truth : List Value → Atom → Truth
atom_truth values atom = negated_if atom.negated (test_truth values (value_at values atom.column) atom.test)

-- ---- predicates

-- one layer of a predicate, with the truth of each part in its place
abbrev pub layer_truth : List Value → Pred-F Truth → Truth
layer_truth values (layer.Atom atom) = atom_truth values atom
layer_truth values (layer.All truths) = all_of truths
layer_truth values (layer.Any truths) = any_of truths
layer_truth values (layer.Not truth) = not_of truth

-- the truth of a predicate on the values of a row
abbrev pub truth : List Value → Pred → Truth
truth values = fold-Pred Truth (layer_truth values)

-- ---- what may be compared

-- a column that is there
abbrev pub has_column : List Value → ℕ → Bool
has_column values column = nat_lt column (length values)

-- the other side is there, and is of one kind with the value
abbrev pub meets : List Value → Value → Right → Bool
meets values value (right.Value other) = are_alike value other
meets values value (right.Column column) = has_column values column && are_alike value (value_at values column)

-- what a test compares with is there and of one kind with the value; IS NULL may always be asked
abbrev pub may_test : List Value → Value → Test → Bool
may_test values value (Compare op right) = meets values value right
may_test values value (Between low high) = are_alike value low && are_alike value high
may_test values value (Within others) = list_all (are_alike value) others
may_test values value IsNull = true

-- the column of a test is there, and may be tested so
abbrev pub may_test_atom : List Value → Atom → Bool
may_test_atom values atom = has_column values atom.column && may_test values (value_at values atom.column) atom.test

-- each of them is true
abbrev pub all_true : List Bool → Bool
all_true = list_all (λ b. b)

-- one layer of a predicate, told of each of its parts whether it may be judged
abbrev pub layer_may_test : List Value → Pred-F Bool → Bool
layer_may_test values (layer.Atom atom) = may_test_atom values atom
layer_may_test values (layer.All tests) = all_true tests
layer_may_test values (layer.Any tests) = all_true tests
layer_may_test values (layer.Not test) = test

-- a predicate names columns that are there, and compares values of one kind
abbrev pub may_judge : List Value → Pred → Bool
may_judge values = fold-Pred Bool (layer_may_test values)

-- ---- which rows

-- a row qualifies where the predicate is true, or where there is none
abbrev pub qualifies : Option Pred → List Value → Bool
qualifies None values = true
qualifies (Some pred) values = is_true (truth values pred)
