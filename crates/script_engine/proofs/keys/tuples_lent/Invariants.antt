use Rattle.std.proofs.Common.{◌≡◌, map, take}
use Rattle.script_engine.proofs.keys.tuples_lent.Given as goal

abbrev pub invariant-loop-tuple : goal.invariant-loop-tuple
invariant-loop-tuple l = map (λ values. values.now) l.lent.items ≡ take l.tuple-index l.tuples
