use Rattle.std.proofs.Common.{◌≡◌, drop, map}
use Rattle.std.specs.Prelude.{flat_map}
use Rattle.statement_meaning.specs.Doing.{twin_causes}
use Rattle.binder.specs.Saying.{first_of}
use Rattle.row_checks.proofs.keys.twins.first_duplicate.Given as goal

abbrev pub invariant-loop-index : goal.invariant-loop-index
invariant-loop-index l =
    first_of (flat_map (twin_causes (map (λ row. row.now) l.rows)) l.indexes)
    ≡ first_of (flat_map (twin_causes (map (λ row. row.now) l.rows)) (drop l.index-index l.indexes))
