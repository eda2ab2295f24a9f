use Rattle.std.proofs.Common.{◌≡◌, map, take}
use Rattle.statement_meaning.specs.Binding.{bound_set}
use Rattle.binder.proofs.set_binding.bound_sets.Given as goal

abbrev pub invariant-loop-set : goal.invariant-loop-set
invariant-loop-set l = l.bound ≡ map (bound_set l.columns) (take l.set-index l.sets)
