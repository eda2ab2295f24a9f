use Rattle.std.proofs.Common.{◌↔◌, drop}
use Rattle.mdc_ast.specs.Definitions.{AllNamesDiffer, column_names}
use Rattle.table_page.proofs.column_limits.do_columns_differ.Given as goal

-- none of the first ones stands again
abbrev pub invariant-loop-i : goal.invariant-loop-i
invariant-loop-i l = AllNamesDiffer (column_names (drop l.i l.columns)) ↔ AllNamesDiffer (column_names l.columns)
