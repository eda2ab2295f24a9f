-- Predicates whose NOTs were pushed to their tests.
use Rattle.std.specs.Prelude.{◌≡◌, List, map, Bool, true, false, not, IsTrue}
use Rattle.mdc_values.specs.declared.truth.Op.{Op}
use Rattle.mdc_values.specs.declared.truth.Op.TheVariants.{Equal, Unequal, Less, AtMost, Greater, AtLeast}
use Rattle.mdc_values.specs.declared.value.Value.{Value}
use Rattle.mdc_ast.specs.declared.predicate.Test.{Test}
use Rattle.mdc_ast.specs.declared.predicate.Test.TheVariants.{Compare, IsNull}
use Rattle.mdc_ast.specs.declared.predicate.Pred.{Pred}
use Rattle.mdc_ast.specs.declared.predicate.Pred.TheOpen.{Pred-F}
use Rattle.mdc_ast.specs.declared.predicate.Pred.TheOpen as layer
use Rattle.mdc_ast.specs.declared.predicate.Pred.TheFolds.{fold-Pred}
use Rattle.mdc_ast.specs.Truth.{all_true, may_judge, negated_if, truth}

-- a comparison, IS NULL or IS NOT NULL
abbrev pub is_pushed_test : (negated : Bool) → Test → Bool
is_pushed_test negated (Compare op right) = not negated
is_pushed_test negated IsNull = true
is_pushed_test negated test = false

-- such a test, or an AND or OR of which each part is so already, and no NOT
abbrev pub layer_is_pushed : Pred-F Bool → Bool
layer_is_pushed (layer.Atom atom) = is_pushed_test atom.negated atom.test
layer_is_pushed (layer.All parts) = all_true parts
layer_is_pushed (layer.Any parts) = all_true parts
layer_is_pushed (layer.Not part) = false

-- a predicate of comparisons, IS NULL and IS NOT NULL, joined by AND and OR alone
abbrev pub is_pushed : Pred → Bool
is_pushed = fold-Pred Bool layer_is_pushed

-- A predicate, or its negation, with its NOTs pushed: on each row it has that truth, and may be judged on the same rows.
pub record IsPushedFrom (negated : Bool) (pred pushed : Pred) : Type 0 where
  pub form : IsTrue (is_pushed pushed)
  pub truths : (values : List Value) → truth values pushed ≡ negated_if negated (truth values pred)
  pub judged : (values : List Value) → may_judge values pushed ≡ may_judge values pred

-- Predicates, or their negations, each with its NOTs pushed, in the same order.
pub record ArePushedFrom (negated : Bool) (preds parts : List Pred) : Type 0 where
  pub form : IsTrue (all_true (map is_pushed parts))
  pub truths : (values : List Value) → map (truth values) parts ≡ map (λ pred. negated_if negated (truth values pred)) preds
  pub judged : (values : List Value) → map (may_judge values) parts ≡ map (may_judge values) preds

-- the comparison that is true where that one is false
abbrev pub opposite : Op → Op
opposite Equal = Unequal
opposite Unequal = Equal
opposite Less = AtLeast
opposite AtMost = Greater
opposite Greater = AtMost
opposite AtLeast = Less

-- a comparison under the NOT within a test
abbrev pub op_if : (negated : Bool) → Op → Op
op_if true op = opposite op
op_if false op = op
