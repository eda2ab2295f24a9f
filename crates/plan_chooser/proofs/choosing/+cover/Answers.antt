use Rattle.std.proofs.lemmas.Result.{IfOk-weaker}
use Rattle.plan_chooser.proofs.JoinLemmas.{All_cover, Any_cover}
use Rattle.plan_chooser.proofs.choosing.+cover.Goals as goal

pub returns-after-loop-pred : goal.returns-after-loop-pred
returns-after-loop-pred t c =
    IfOk-weaker c.joined.result _ _
    (λ cover. All_cover c.args.def.now c.args.mode c.args.negated c.args.pred.now c.in-All.preds c.as_slice-pred-items.result.now c.loop-pred.covers c.loop-pred.pred-index cover
    c.in-All.is c.as_slice-pred-items.ensures c.loop-pred-test.false c.loop-pred.invariant)
    c.joined.ensures

pub returns-after-loop-pred-2 : goal.returns-after-loop-pred-2
returns-after-loop-pred-2 t c =
    IfOk-weaker c.joined-in-Any.result _ _
    (λ cover. Any_cover c.args.def.now c.args.mode c.args.negated c.args.pred.now c.in-Any.preds c.as_slice-pred-items-in-Any.result.now c.loop-pred-2.covers c.loop-pred-2.pred-index cover
    c.in-Any.is c.as_slice-pred-items-in-Any.ensures c.loop-pred-2-test.false c.loop-pred-2.invariant)
    c.joined-in-Any.ensures
