use Rattle.std.proofs.Common.{◌≡◌, map, take}
use Rattle.mdc_ast.specs.declared.predicate.Pred.{Pred}
use Rattle.mdc_ast.specs.declared.predicate.PredText.TheFolds.{fold-PredText}
use Rattle.statement_meaning.specs.Binding.{bound_layer}
use Rattle.binder.proofs.where_binding.+bound_pred.Given as goal

abbrev pub decreases-bound_pred : goal.decreases-bound_pred
decreases-bound_pred l = goal.size-bound_pred l

abbrev pub invariant-loop-part : goal.invariant-loop-part
invariant-loop-part l = l.all ≡ map (fold-PredText Pred (bound_layer l.columns)) (take l.part-index l.part-items)

abbrev pub invariant-loop-part-2 : goal.invariant-loop-part-2
invariant-loop-part-2 l = l.any ≡ map (fold-PredText Pred (bound_layer l.columns)) (take l.part-index l.part-items)
