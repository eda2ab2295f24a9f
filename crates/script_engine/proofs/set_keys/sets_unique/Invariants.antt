use Rattle.std.proofs.Common.{◌≡◌, drop}
use Rattle.script_engine.specs.SetKeys.{sets_unique}
use Rattle.script_engine.proofs.set_keys.sets_unique.Given as goal

abbrev pub invariant-loop-index : goal.invariant-loop-index
invariant-loop-index l = sets_unique l.sets l.indexes ≡ sets_unique l.sets (drop l.index-index l.indexes)
