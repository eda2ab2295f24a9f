use Rattle.std.proofs.Common.{◌≡◌, map, take}
use Rattle.statement_meaning.specs.Judging.{fit_compared, judged_value}
use Rattle.binder.proofs.where_binding.bound_values.Given as goal

abbrev pub invariant-loop-literal : goal.invariant-loop-literal
invariant-loop-literal l = l.values ≡ map (λ literal. judged_value (fit_compared l.ty literal)) (take l.literal-index l.literals)
