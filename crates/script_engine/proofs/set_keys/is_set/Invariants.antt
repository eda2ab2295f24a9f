use Rattle.std.proofs.Common.{◌≡◌, drop}
use Rattle.script_engine.specs.SetKeys.{is_set}
use Rattle.script_engine.proofs.set_keys.is_set.Given as goal

abbrev pub invariant-loop-set : goal.invariant-loop-set
invariant-loop-set l = is_set l.sets l.column ≡ is_set (drop l.set-index l.sets) l.column
