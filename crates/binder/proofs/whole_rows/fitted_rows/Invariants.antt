use Rattle.std.proofs.Common.{take}
use Rattle.binder.specs.WholeRows.{AreWhole}
use Rattle.binder.proofs.whole_rows.fitted_rows.Given as goal

abbrev pub invariant-loop-tuple : goal.invariant-loop-tuple
invariant-loop-tuple l = AreWhole l.columns (take l.tuple-index l.tuples) l.rows.items
