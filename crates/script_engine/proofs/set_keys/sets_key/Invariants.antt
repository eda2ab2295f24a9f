use Rattle.std.proofs.Common.{◌≡◌, drop}
use Rattle.script_engine.specs.SetKeys.{sets_key}
use Rattle.script_engine.proofs.set_keys.sets_key.Given as goal

abbrev pub invariant-loop-part : goal.invariant-loop-part
invariant-loop-part l = sets_key l.sets l.parts ≡ sets_key l.sets (drop l.part-index l.parts)
