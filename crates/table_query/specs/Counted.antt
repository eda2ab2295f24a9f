-- A query that shows how many rows there are, and nothing else of them.
use Rattle.std.specs.Prelude.{ℕ, List, [], map, Bool, true, false, ◌&&◌}
use Rattle.std.specs.List.{list_all, range_with_len}
use Rattle.mdc_ast.specs.declared.bound.BoundOut.{BoundOut}
use Rattle.mdc_ast.specs.declared.bound.BoundOut.TheVariants as out
use Rattle.mdc_ast.specs.declared.row.Row.{Row}
use Rattle.row_groups.specs.Shape.{Shape}
use Rattle.answer_text.specs.Lines.{is_nothing}

-- COUNT(*)
abbrev pub is_count_all : BoundOut → Bool
is_count_all out.CountAll = true
is_count_all out = false

-- the list has COUNT(*) alone, and there is no GROUP BY and no ORDER BY
abbrev pub counts_rows_alone : Shape → Bool
counts_rows_alone shape = list_all is_count_all shape.outs && is_nothing shape.group && is_nothing shape.order

-- so many rows without values, numbered from 0
abbrev pub rows_counted : ℕ → List Row
rows_counted count = map (λ number. record { number = number; values = [] }) (range_with_len 0 count)
