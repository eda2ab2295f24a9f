-- Each part of a predicate may be judged, and what is known of the parts is known of the whole.
use Rattle.std.proofs.Common.{rules, ap, map, sym, subst, ◌∙◌}
use Rattle.std.specs.Prelude.{IsTrue}
use Rattle.mdc_ast.specs.declared.predicate.Pred.{the_lemmas}
use Rattle.mdc_ast.specs.Truth.{all_of, all_true, any_of, may_judge, truth}
use Rattle.mdc_ast.proofs.PredLemmas.{may_judge-All, may_judge-Any, truth-All, truth-Any}
use Rattle.predicate.proofs.PredLemmas.{all_true-at}
use Rattle.predicate.proofs.TruthLemmas.{and_of-all_of_end, or_of-any_of_end}
use Rattle.predicate.proofs.judging.+truth.Goals as goal

pub truth-requires : goal.truth-requires
truth-requires t c =
    let judge = may_judge c.args.values.now in
    let whole = subst IsTrue (ap judge c.in-All.is ∙ may_judge-All c.args.values.now c.in-All.preds) c.requires.comparable in
    let each = subst (λ preds. IsTrue (all_true (map judge preds))) (sym c.as_slice-pred-items.ensures) whole in
    let pred = subst (λ pred. IsTrue (judge pred)) (sym c.pred-item.is) (all_true-at judge c.as_slice-pred-items.result.now c.loop-pred.pred-index c.pred-item.result c.loop-pred-test.true each) in
    (search (rules, the_lemmas), pred)

pub truth-requires-in-loop-pred-2 : goal.truth-requires-in-loop-pred-2
truth-requires-in-loop-pred-2 t c =
    let judge = may_judge c.args.values.now in
    let whole = subst IsTrue (ap judge c.in-Any.is ∙ may_judge-Any c.args.values.now c.in-Any.preds) c.requires.comparable in
    let each = subst (λ preds. IsTrue (all_true (map judge preds))) (sym c.as_slice-pred-items-in-Any.ensures) whole in
    let pred = subst (λ pred. IsTrue (judge pred)) (sym c.pred-item-in-loop-pred-2.is) (all_true-at judge c.as_slice-pred-items-in-Any.result.now c.loop-pred-2.pred-index c.pred-item-in-loop-pred-2.result c.loop-pred-2-test.true each) in
    (search (rules, the_lemmas), pred)

pub returns-after-loop-pred : goal.returns-after-loop-pred
returns-after-loop-pred t c =
    let judge = truth c.args.values.now in
    sym (ap judge c.in-All.is ∙ truth-All c.args.values.now c.in-All.preds ∙ ap (λ preds. all_of (map judge preds)) (sym c.as_slice-pred-items.ensures)
    ∙ c.loop-pred.invariant ∙ and_of-all_of_end judge c.as_slice-pred-items.result.now c.loop-pred.pred-index c.loop-pred.all c.loop-pred-test.false)

pub returns-after-loop-pred-2 : goal.returns-after-loop-pred-2
returns-after-loop-pred-2 t c =
    let judge = truth c.args.values.now in
    sym (ap judge c.in-Any.is ∙ truth-Any c.args.values.now c.in-Any.preds ∙ ap (λ preds. any_of (map judge preds)) (sym c.as_slice-pred-items-in-Any.ensures)
    ∙ c.loop-pred-2.invariant ∙ or_of-any_of_end judge c.as_slice-pred-items-in-Any.result.now c.loop-pred-2.pred-index c.loop-pred-2.any c.loop-pred-2-test.false)
