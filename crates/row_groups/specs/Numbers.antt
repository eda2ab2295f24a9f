-- Rows by their numbers, in whatever order they came.
use Rattle.std.specs.Prelude.{nat_lt, List, map, Bool, ◌==◌}
use Rattle.std.specs.List.{IsDistinct}
use Rattle.mdc_values.specs.declared.value.Value.{Value}
use Rattle.mdc_ast.specs.declared.row.Row.{Row}
use Rattle.row_groups.specs.Ordering.{ordered}

-- a row has a lower number than another
abbrev pub is_lower : Row → Row → Bool
is_lower a b = nat_lt a.number b.number

-- the rows by rising number
abbrev pub by_number : List Row → List Row
by_number rows = ordered is_lower rows

-- the values of rows
abbrev pub values_of : List Row → List (List Value)
values_of rows = map (λ row. row.values) rows

-- no two rows have the same number, as in a table
abbrev pub DifferInNumber : List Row → Type 0
DifferInNumber rows = IsDistinct (λ a b. a == b) (map (λ row. row.number) rows)
