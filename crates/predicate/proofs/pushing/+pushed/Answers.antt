use Rattle.std.proofs.lemmas.Result.{IfOk-weaker}
use Rattle.predicate.proofs.PushedLemmas.{All_whole, Any_whole, Atom_whole, Not_whole, pushed_more}
use Rattle.predicate.proofs.pushing.+pushed.Goals as goal

pub loop-pred-preserved : goal.loop-pred-preserved
loop-pred-preserved t c =
    pushed_more c.args.negated c.as_slice-pred-items.result.now c.loop-pred.pred-index c.pred-item.result c.in_ok-pushed-in-All.field-0 c.loop-pred.parts c.push.new.self
    c.loop-pred-test.true c.pred-item.is c.in_ok-push-in-All.ensures.ok c.in_ok-pushed-in-All.ensures c.loop-pred.invariant

pub loop-pred-2-preserved : goal.loop-pred-2-preserved
loop-pred-2-preserved t c =
    pushed_more c.args.negated c.as_slice-pred-items-in-Any.result.now c.loop-pred-2.pred-index c.pred-item-in-loop-pred-2.result c.in_ok-pushed-in-Any.field-0 c.loop-pred-2.parts
    c.push-in-loop-pred-2.new.self c.loop-pred-2-test.true c.pred-item-in-loop-pred-2.is c.in_ok-push-in-Any.ensures.ok c.in_ok-pushed-in-Any.ensures c.loop-pred-2.invariant

pub returns-in-Atom : goal.returns-in-Atom
returns-in-Atom t c =
    IfOk-weaker c.test_as_comparisons.result _ _ (λ part. Atom_whole c.args.negated c.args.pred.now part c.in-Atom.atom c.in-Atom.is) c.test_as_comparisons.ensures

pub returns-after-loop-pred : goal.returns-after-loop-pred
returns-after-loop-pred t c =
    All_whole c.args.negated c.args.pred.now c.joined.result c.in-All.preds c.as_slice-pred-items.result.now c.loop-pred.parts c.loop-pred.pred-index
    c.in-All.is c.as_slice-pred-items.ensures c.loop-pred-test.false c.joined.ensures c.loop-pred.invariant

pub returns-after-loop-pred-2 : goal.returns-after-loop-pred-2
returns-after-loop-pred-2 t c =
    Any_whole c.args.negated c.args.pred.now c.joined-in-Any.result c.in-Any.preds c.as_slice-pred-items-in-Any.result.now c.loop-pred-2.parts c.loop-pred-2.pred-index
    c.in-Any.is c.as_slice-pred-items-in-Any.ensures c.loop-pred-2-test.false c.joined-in-Any.ensures c.loop-pred-2.invariant

pub returns-in-Not : goal.returns-in-Not
returns-in-Not t c =
    IfOk-weaker c.pushed-in-Not.result _ _ (λ part. Not_whole c.args.negated c.args.pred.now c.in-Not.pred c.get.result.now part c.in-Not.is c.get.ensures) c.pushed-in-Not.ensures
