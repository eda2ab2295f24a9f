use Rattle.std.proofs.Common.{take}
use Rattle.binder.specs.WholeRows.{AreFitted}
use Rattle.binder.proofs.whole_rows.fitted_row.Given as goal

abbrev pub invariant-loop-place : goal.invariant-loop-place
invariant-loop-place l = AreFitted (take l.place l.columns) (take l.place l.items) l.row.items
