use Rattle.std.proofs.Common.{◌≡◌, drop, map}
use Rattle.mdc_ast.specs.Truth.{all_of, and_of, any_of, or_of, truth}
use Rattle.predicate.proofs.judging.+truth.Given as goal

abbrev pub decreases-truth : goal.decreases-truth
decreases-truth l = goal.size-truth l

abbrev pub invariant-loop-pred : goal.invariant-loop-pred
invariant-loop-pred l =
    all_of (map (truth l.values) l.pred-items) ≡ and_of l.all (all_of (map (truth l.values) (drop l.pred-index l.pred-items)))

abbrev pub invariant-loop-pred-2 : goal.invariant-loop-pred-2
invariant-loop-pred-2 l =
    any_of (map (truth l.values) l.pred-items) ≡ or_of l.any (any_of (map (truth l.values) (drop l.pred-index l.pred-items)))
