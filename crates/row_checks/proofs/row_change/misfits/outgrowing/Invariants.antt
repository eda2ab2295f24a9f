use Rattle.std.proofs.Common.{◌≡◌, drop}
use Rattle.std.specs.List.{flat_map}
use Rattle.statement_meaning.specs.Doing.{set_causes}
use Rattle.binder.specs.Saying.{first_of}
use Rattle.row_checks.proofs.row_change.misfits.outgrowing.Given as goal

abbrev pub invariant-loop-set : goal.invariant-loop-set
invariant-loop-set l =
    first_of (flat_map (set_causes l.columns l.values) l.sets) ≡ first_of (flat_map (set_causes l.columns l.values) (drop l.set-index l.sets))
