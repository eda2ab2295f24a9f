use Rattle.std.proofs.Common.{◌≡◌, drop}
use Rattle.statement_meaning.specs.Doing.{null_causes, set_on}
use Rattle.binder.specs.Saying.{first_of}
use Rattle.row_checks.proofs.row_change.misfits.null_among.Given as goal

abbrev pub invariant-loop-place : goal.invariant-loop-place
invariant-loop-place l =
    first_of (null_causes l.columns (set_on l.values l.sets l.values))
    ≡ first_of (null_causes (drop l.place l.columns) (drop l.place (set_on l.values l.sets l.values)))
