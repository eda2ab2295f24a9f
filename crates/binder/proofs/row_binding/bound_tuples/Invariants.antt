use Rattle.std.proofs.Common.{◌≡◌, map, take}
use Rattle.statement_meaning.specs.Binding.{bound_tuple}
use Rattle.binder.specs.Classes.{target_names}
use Rattle.binder.proofs.row_binding.bound_tuples.Given as goal

abbrev pub invariant-loop-tuple : goal.invariant-loop-tuple
invariant-loop-tuple l = l.rows ≡ map (bound_tuple l.columns (target_names l.targets)) (take l.tuple-index l.tuples)
