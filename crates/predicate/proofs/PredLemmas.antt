-- The truth of predicates, layer by layer.
use Rattle.std.proofs.Common.{◌≡◌, ℕ, zero, suc, ◌<◌, List, [], ◌∷◌, Bool, length, get_or, map, arith, sym, ap, ◌∙◌}
use Rattle.std.specs.Prelude.{IsTrue}
use Rattle.mdc_ast.specs.declared.predicate.Atom.{Atom}
use Rattle.mdc_ast.specs.declared.predicate.Pred.{Pred}
use Rattle.mdc_ast.specs.declared.predicate.Pred.TheFolds.{fold-roll-Pred}
use Rattle.mdc_ast.specs.declared.predicate.Pred.TheOpen as layer
use Rattle.mdc_ast.specs.declared.predicate.Pred.TheVariants as pred
use Rattle.mdc_ast.specs.declared.predicate.Pred.TheVariants.{All, Any, rolls-All, rolls-Any, rolls-Atom}
use Rattle.mdc_ast.specs.Truth.{all_true}
use Rattle.mdc_ast.proofs.TestsLemmas.{both}
use Rattle.predicate.specs.Pushed.{is_pushed, is_pushed_test, layer_is_pushed}

pub is_pushed-Atom : (atom : Atom) → is_pushed (pred.Atom atom) ≡ is_pushed_test atom.negated atom.test
is_pushed-Atom atom = ap is_pushed (sym (rolls-Atom atom)) ∙ fold-roll-Pred Bool layer_is_pushed (layer.Atom atom)

pub is_pushed-All : (preds : List Pred) → is_pushed (All preds) ≡ all_true (map is_pushed preds)
is_pushed-All preds = ap is_pushed (sym (rolls-All preds)) ∙ fold-roll-Pred Bool layer_is_pushed (layer.All preds)

pub is_pushed-Any : (preds : List Pred) → is_pushed (Any preds) ≡ all_true (map is_pushed preds)
is_pushed-Any preds = ap is_pushed (sym (rolls-Any preds)) ∙ fold-roll-Pred Bool layer_is_pushed (layer.Any preds)

-- what all of them pass, each passes
pub all_true-at : {X : Type 0} (f : X → Bool) (xs : List X) (i : ℕ) (x : X) → i < length xs → IsTrue (all_true (map f xs)) → IsTrue (f (get_or xs i x))
all_true-at f [] i x lt h = absurd (omega (arith, lt))
all_true-at f (y ∷ xs) zero x lt h = (both (f y) (all_true (map f xs)) h).0
all_true-at f (y ∷ xs) (suc i) x lt h = all_true-at f xs i x (omega (arith, lt)) (both (f y) (all_true (map f xs)) h).1
