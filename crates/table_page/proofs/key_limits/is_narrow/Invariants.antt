use Rattle.std.proofs.Common.{◌≡◌, ◌+◌, drop}
use Rattle.mdc_ast.specs.Definitions.{column_types, row_width}
use Rattle.table_page.proofs.key_limits.is_narrow.Given as goal

-- the room that the first columns leave
abbrev pub invariant-loop-column : goal.invariant-loop-column
invariant-loop-column l = row_width (column_types l.columns) + l.room ≡ row_width (column_types (drop l.column-index l.columns)) + 990
