use Rattle.std.proofs.Common.{◌≡◌, drop}
use Rattle.std.specs.Prelude.{flat_map}
use Rattle.binder.specs.Classes.{setting_causes}
use Rattle.binder.specs.Saying.{first_of}
use Rattle.binder.proofs.updating.judge_sets.Given as goal

abbrev pub invariant-loop-set : goal.invariant-loop-set
invariant-loop-set l = first_of (flat_map (setting_causes l.class l.columns) l.sets) ≡ first_of (flat_map (setting_causes l.class l.columns) (drop l.set-index l.sets))
