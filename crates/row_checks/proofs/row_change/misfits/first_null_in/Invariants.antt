use Rattle.std.proofs.Common.{◌≡◌, drop}
use Rattle.std.specs.List.{flat_map}
use Rattle.statement_meaning.specs.Doing.{null_causes}
use Rattle.binder.specs.Saying.{first_of}
use Rattle.row_checks.proofs.row_change.misfits.first_null_in.Given as goal

abbrev pub invariant-loop-tuple : goal.invariant-loop-tuple
invariant-loop-tuple l =
    first_of (flat_map (null_causes l.columns) l.tuples) ≡ first_of (flat_map (null_causes l.columns) (drop l.tuple-index l.tuples))
