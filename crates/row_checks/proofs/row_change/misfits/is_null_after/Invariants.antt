use Rattle.std.proofs.Common.{◌≡◌, take}
use Rattle.statement_meaning.specs.Doing.{set_on}
use Rattle.row_checks.specs.RowChange.{is_null_at}
use Rattle.row_checks.proofs.row_change.misfits.is_null_after.Given as goal

abbrev pub invariant-loop-set : goal.invariant-loop-set
invariant-loop-set l = l.null ≡ is_null_at l.place (set_on l.values (take l.set-index l.sets) l.values)
