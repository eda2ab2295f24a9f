use Rattle.std.proofs.Common.{◌≡◌, map, take}
use Rattle.statement_meaning.specs.Binding.{bound_column}
use Rattle.binder.proofs.table_binding.bound_columns.Given as goal

abbrev pub invariant-loop-column : goal.invariant-loop-column
invariant-loop-column l = l.defs ≡ map bound_column (take l.column-index l.columns)
