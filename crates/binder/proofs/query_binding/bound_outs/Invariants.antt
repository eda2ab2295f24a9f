use Rattle.std.proofs.Common.{◌≡◌, map, take}
use Rattle.statement_meaning.specs.Binding.{bound_out_of}
use Rattle.binder.proofs.query_binding.bound_outs.Given as goal

abbrev pub invariant-loop-out : goal.invariant-loop-out
invariant-loop-out l = l.shown ≡ map (bound_out_of l.columns) (take l.out-index l.outs)
