use Rattle.std.proofs.Common.{take}
use Rattle.predicate.specs.Pushed.{ArePushedFrom}
use Rattle.predicate.proofs.pushing.+pushed.Given as goal

abbrev pub decreases-pushed : goal.decreases-pushed
decreases-pushed l = goal.size-pushed l

abbrev pub invariant-loop-pred : goal.invariant-loop-pred
invariant-loop-pred l = ArePushedFrom l.negated (take l.pred-index l.pred-items) l.parts

abbrev pub invariant-loop-pred-2 : goal.invariant-loop-pred-2
invariant-loop-pred-2 l = ArePushedFrom l.negated (take l.pred-index l.pred-items) l.parts
