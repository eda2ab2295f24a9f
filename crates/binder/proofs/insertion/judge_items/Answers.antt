use Rattle.std.proofs.Common.{◌<◌, arith, length, ◌∙◌}
use Rattle.std.proofs.lemmas.Result.{err_from_is_err_and}
use Rattle.binder.specs.Classes.{item_causes, target_names}
use Rattle.binder.specs.Saying.{objected}
use Rattle.binder.proofs.TupleLemmas.{each_item-end, each_item-here, each_item-next}
use Rattle.binder.proofs.insertion.judge_items.Goals as goal

pub returns-in_err-judge_target : goal.returns-in_err-judge_target
returns-in_err-judge_target c =
    let named : c.loop-place.place < length (target_names c.args.targets) = omega arith in
    let given : c.loop-place.place < length c.args.items.now = omega arith in
    let p = err_from_is_err_and c.from_residual.result c.from_residual.ensures.1 in
    rw (p.1, p.2)
    (c.loop-place.invariant
    ∙ each_item-here c.args.columns.now (item_causes c.args.class) (target_names c.args.targets) c.args.items.now c.loop-place.place c.at.result.now c.index-items-place.result (objected c.in_err-judge_target.field-0.0) named given c.at.ensures c.index-items-place.is c.in_err-judge_target.ensures)

pub loop-place-preserved : goal.loop-place-preserved
loop-place-preserved c =
    let named : c.loop-place.place < length (target_names c.args.targets) = omega arith in
    let given : c.loop-place.place < length c.args.items.now = omega arith in
    c.loop-place.invariant
    ∙ each_item-next c.args.columns.now (item_causes c.args.class) (target_names c.args.targets) c.args.items.now c.loop-place.place c.at.result.now c.index-items-place.result named given c.at.ensures c.index-items-place.is c.in_ok-judge_target.ensures

pub returns : goal.returns
returns c =
    c.loop-place.invariant ∙ each_item-end c.args.columns.now (item_causes c.args.class) (target_names c.args.targets) c.args.items.now c.loop-place.place (omega arith)
