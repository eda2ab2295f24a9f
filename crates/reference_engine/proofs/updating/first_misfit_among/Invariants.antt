use Rattle.std.proofs.Common.{◌≡◌, drop}
use Rattle.std.specs.List.{flat_map}
use Rattle.statement_meaning.specs.Doing.{changed_causes}
use Rattle.binder.specs.Saying.{first_of}
use Rattle.reference_engine.proofs.updating.first_misfit_among.Given as goal

abbrev pub invariant-loop-row : goal.invariant-loop-row
invariant-loop-row l =
    first_of (flat_map (changed_causes l.columns l.sets l.pred) l.rows)
    ≡ first_of (flat_map (changed_causes l.columns l.sets l.pred) (drop l.row-index l.rows))
