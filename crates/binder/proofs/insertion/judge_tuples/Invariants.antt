use Rattle.std.proofs.Common.{◌≡◌, drop}
use Rattle.std.specs.Prelude.{flat_map}
use Rattle.binder.specs.Classes.{target_names, tuple_causes}
use Rattle.binder.specs.Saying.{first_of}
use Rattle.binder.proofs.insertion.judge_tuples.Given as goal

abbrev pub invariant-loop-tuple : goal.invariant-loop-tuple
invariant-loop-tuple l =
    first_of (flat_map (tuple_causes l.class l.columns (target_names l.targets)) l.tuples)
    ≡ first_of (flat_map (tuple_causes l.class l.columns (target_names l.targets)) (drop l.tuple-index l.tuples))
