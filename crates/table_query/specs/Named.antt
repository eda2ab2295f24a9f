-- The columns that a query names, and the values that are read in them.
use Rattle.std.specs.Prelude.{◌≡◌, ℕ, List, Bool, false, ◌==◌, ◌||◌, filter}
use Rattle.std.specs.List.{All, list_any, range_with_len}
use Rattle.mdc_values.specs.declared.value.Value.{Value}
use Rattle.mdc_ast.specs.declared.bound.BoundOut.{BoundOut}
use Rattle.mdc_ast.specs.declared.bound.BoundOut.TheVariants as out
use Rattle.mdc_ast.specs.Truth.{value_at}
use Rattle.row_groups.specs.Shape.{Shape}

-- an entry of the list names the column, and COUNT(*) names none
abbrev pub shows_column : ℕ → BoundOut → Bool
shows_column column (out.Column other) = other == column
shows_column column out.CountAll = false
shows_column column (out.Count other) = other == column
shows_column column (out.Sum other) = other == column
shows_column column (out.Min other) = other == column
shows_column column (out.Max other) = other == column

-- the list, GROUP BY or ORDER BY names the column
abbrev pub is_named : Shape → ℕ → Bool
is_named shape column =
    list_any (shows_column column) shape.outs || list_any (λ other. other == column) shape.group || list_any (λ part. part.column == column) shape.order

-- those of the first so many columns that are named, each once
abbrev pub named_columns : Shape → ℕ → List ℕ
named_columns shape width = filter (is_named shape) (range_with_len 0 width)

-- the first has the values of the second in these columns
abbrev pub HasValuesIn : List ℕ → List Value → List Value → Type 0
HasValuesIn columns values row = All (λ column. value_at values column ≡ value_at row column) columns
