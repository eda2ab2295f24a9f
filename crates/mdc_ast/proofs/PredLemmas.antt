-- The truth of a predicate by its parts, and whether it may be judged.
use Rattle.std.proofs.Common.{◌≡◌, List, Bool, map, sym, ap, ◌∙◌}
use Rattle.mdc_values.specs.declared.truth.Truth.{Truth}
use Rattle.mdc_values.specs.declared.value.Value.{Value}
use Rattle.mdc_ast.specs.declared.predicate.Atom.{Atom}
use Rattle.mdc_ast.specs.declared.predicate.Pred.{Pred}
use Rattle.mdc_ast.specs.declared.predicate.Pred.TheFolds.{fold-roll-Pred}
use Rattle.mdc_ast.specs.declared.predicate.Pred.TheOpen as layer
use Rattle.mdc_ast.specs.declared.predicate.Pred.TheVariants as pred
use Rattle.mdc_ast.specs.declared.predicate.Pred.TheVariants.{rolls-All, rolls-Any, rolls-Atom, rolls-Not}
use Rattle.mdc_ast.specs.Truth.{all_of, all_true, any_of, atom_truth, layer_may_test, layer_truth, may_judge, may_test_atom, not_of, truth}

pub truth-Atom : (values : List Value) (atom : Atom) → truth values (pred.Atom atom) ≡ atom_truth values atom
truth-Atom values atom = ap (truth values) (sym (rolls-Atom atom)) ∙ fold-roll-Pred Truth (layer_truth values) (layer.Atom atom)

pub truth-All : (values : List Value) (preds : List Pred) → truth values (pred.All preds) ≡ all_of (map (truth values) preds)
truth-All values preds = ap (truth values) (sym (rolls-All preds)) ∙ fold-roll-Pred Truth (layer_truth values) (layer.All preds)

pub truth-Any : (values : List Value) (preds : List Pred) → truth values (pred.Any preds) ≡ any_of (map (truth values) preds)
truth-Any values preds = ap (truth values) (sym (rolls-Any preds)) ∙ fold-roll-Pred Truth (layer_truth values) (layer.Any preds)

pub truth-Not : (values : List Value) (part : Pred) → truth values (pred.Not part) ≡ not_of (truth values part)
truth-Not values part = ap (truth values) (sym (rolls-Not part)) ∙ fold-roll-Pred Truth (layer_truth values) (layer.Not part)

pub may_judge-Atom : (values : List Value) (atom : Atom) → may_judge values (pred.Atom atom) ≡ may_test_atom values atom
may_judge-Atom values atom = ap (may_judge values) (sym (rolls-Atom atom)) ∙ fold-roll-Pred Bool (layer_may_test values) (layer.Atom atom)

pub may_judge-All : (values : List Value) (preds : List Pred) → may_judge values (pred.All preds) ≡ all_true (map (may_judge values) preds)
may_judge-All values preds = ap (may_judge values) (sym (rolls-All preds)) ∙ fold-roll-Pred Bool (layer_may_test values) (layer.All preds)

pub may_judge-Any : (values : List Value) (preds : List Pred) → may_judge values (pred.Any preds) ≡ all_true (map (may_judge values) preds)
may_judge-Any values preds = ap (may_judge values) (sym (rolls-Any preds)) ∙ fold-roll-Pred Bool (layer_may_test values) (layer.Any preds)

pub may_judge-Not : (values : List Value) (part : Pred) → may_judge values (pred.Not part) ≡ may_judge values part
may_judge-Not values part = ap (may_judge values) (sym (rolls-Not part)) ∙ fold-roll-Pred Bool (layer_may_test values) (layer.Not part)
