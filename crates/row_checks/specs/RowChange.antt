-- What is said first against the new values of a row, and what their computing needs.
use Rattle.std.specs.Prelude.{ℕ, List, Bool, true, false, ◌&&◌, nat_lt, slice_get}
use Rattle.std.specs.List.{list_all}
use Rattle.std.specs.Option.{option_map_or}
use Rattle.mdc_values.specs.Fitting.{in_bigint}
use Rattle.mdc_values.specs.declared.value.Value.{Value}
use Rattle.mdc_values.specs.declared.value.Value.TheVariants as value
use Rattle.mdc_ast.specs.declared.bound.BoundItem.{BoundItem}
use Rattle.mdc_ast.specs.declared.bound.BoundItem.TheVariants.{One, Two}
use Rattle.mdc_ast.specs.declared.bound.BoundOperand.{BoundOperand}
use Rattle.mdc_ast.specs.declared.bound.BoundOperand.TheVariants as operand
use Rattle.mdc_ast.specs.declared.bound.BoundSet.{BoundSet}
use Rattle.statement_meaning.specs.Cause as cause
use Rattle.statement_meaning.specs.Cause.{Cause}
use Rattle.mdc_ast.specs.Database.{is_null}
use Rattle.statement_meaning.specs.Doing.{item_on}
use Rattle.row_checks.specs.declared.row_change.given.Given.{Given}
use Rattle.row_checks.specs.declared.row_change.given.Given.TheVariants.{Lent, Number, Null}
use Rattle.row_checks.specs.declared.row_change.misfits.Misfit.{Misfit}
use Rattle.row_checks.specs.declared.row_change.misfits.Misfit.TheVariants.{Overflow, TextTooLong, NullIn}

-- the cause that a misfit is
abbrev pub misfit_cause : Misfit → Cause
misfit_cause (Overflow name) = cause.Overflow name.now
misfit_cause (TextTooLong name) = cause.TextTooLong name.now
misfit_cause (NullIn name) = cause.NullIn name.now

-- the value that is given, a number of any size
abbrev pub value_given : Given → Value
value_given (Lent value) = value.now
value_given (Number n) = value.Int n
value_given Null = value.Null

-- whether a column is there and null
abbrev pub is_null_at : ℕ → List Value → Bool
is_null_at place values = option_map_or is_null (slice_get values place) false

-- a column that an operand names is one of the first n
abbrev pub operand_is_within : ℕ → BoundOperand → Bool
operand_is_within n (operand.Column column) = nat_lt column n
operand_is_within n (operand.Value value) = true

-- and so are those of an item
abbrev pub item_is_within : ℕ → BoundItem → Bool
item_is_within n (One operand) = operand_is_within n operand
item_is_within n (Two a sign b) = operand_is_within n a && operand_is_within n b

-- the column that is set, and those that it is computed from, are among the first n
abbrev pub is_within : ℕ → BoundSet → Bool
is_within n set = nat_lt set.column n && item_is_within n set.item

-- and so for each item
abbrev pub are_within : ℕ → List BoundSet → Bool
are_within n sets = list_all (is_within n) sets

-- a number has 64 bits
abbrev pub is_storable : Value → Bool
is_storable (value.Int n) = in_bigint n
is_storable value = true

-- each value that a row is set to can be stored
abbrev pub are_storable : List Value → List BoundSet → Bool
are_storable was sets = list_all (λ set. is_storable (item_on was set.item)) sets
