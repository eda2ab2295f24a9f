use Rattle.std.proofs.Common.{◌≡◌}
use Rattle.row_groups.specs.Shape.{shape_of}
use Rattle.table_query.specs.Named.{named_columns}
use Rattle.table_query.proofs.named.named_columns.Given as goal

abbrev pub invariant-loop-column : goal.invariant-loop-column
invariant-loop-column l = l.columns.items ≡ named_columns (shape_of l.select) l.column
