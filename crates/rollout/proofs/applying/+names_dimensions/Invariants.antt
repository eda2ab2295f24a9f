use Rattle.std.proofs.Common.{◌≡◌, drop, map}
use Rattle.mdc_ast.specs.Truth.{all_true}
use Rattle.rollout.specs.Applying.{names_dimensions}
use Rattle.rollout.proofs.applying.+names_dimensions.Given as goal

abbrev pub decreases-names_dimensions : goal.decreases-names_dimensions
decreases-names_dimensions l = goal.size-names_dimensions l

-- the parts that are left decide
abbrev pub invariant-loop-pred : goal.invariant-loop-pred
invariant-loop-pred l = all_true (map (names_dimensions l.def) l.pred-items) ≡ all_true (map (names_dimensions l.def) (drop l.pred-index l.pred-items))
