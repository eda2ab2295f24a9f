use Rattle.std.proofs.Common.{◌≡◌, drop}
use Rattle.std.specs.Prelude.{None, flat_map}
use Rattle.statement_meaning.specs.Doing.{changed_causes}
use Rattle.binder.specs.Saying.{first_of}
use Rattle.script_engine.proofs.updating.first_misfit_of_hits.Given as goal

abbrev pub invariant-loop-hit : goal.invariant-loop-hit
invariant-loop-hit l =
    first_of (flat_map (λ hit. changed_causes l.columns l.sets None hit.row) l.hits)
    ≡ first_of (flat_map (λ hit. changed_causes l.columns l.sets None hit.row) (drop l.hit-index l.hits))
