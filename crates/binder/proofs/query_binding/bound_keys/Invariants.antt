use Rattle.std.proofs.Common.{◌≡◌, map, take}
use Rattle.statement_meaning.specs.Binding.{bound_key}
use Rattle.binder.proofs.query_binding.bound_keys.Given as goal

abbrev pub invariant-loop-key : goal.invariant-loop-key
invariant-loop-key l = l.bound ≡ map (bound_key l.columns) (take l.key-index l.keys)
