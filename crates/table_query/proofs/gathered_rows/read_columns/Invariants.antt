use Rattle.std.proofs.Common.{◌≡◌, ◌<◌, ℕ, get_or, length}
use Rattle.mdc_ast.specs.Truth.{value_at}
use Rattle.row_page.specs.Row.{row_in}
use Rattle.table_query.proofs.gathered_rows.read_columns.Given as goal

abbrev pub invariant-loop-column : goal.invariant-loop-column
invariant-loop-column l =
    (length l.values ≡ length l.fn.values)
    × ((k : ℕ) → k < l.column-index → value_at l.values (get_or l.columns k 0) ≡ value_at (row_in l.row.columns.now l.row.bytes.now).values (get_or l.columns k 0))
