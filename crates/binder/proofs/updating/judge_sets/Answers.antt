use Rattle.std.proofs.Common.{◌∙◌}
use Rattle.std.proofs.lemmas.Result.{err_from_is_err_and}
use Rattle.binder.specs.Classes.{setting_causes}
use Rattle.binder.specs.Saying.{objected}
use Rattle.binder.proofs.FirstLemmas.{first_of-here, first_of-next}
use Rattle.binder.proofs.updating.judge_sets.Goals as goal

pub returns-in_err-judge_set : goal.returns-in_err-judge_set
returns-in_err-judge_set c =
    let p = err_from_is_err_and c.from_residual.result c.from_residual.ensures.1 in
    rw (p.1, p.2)
    (c.loop-set.invariant ∙ first_of-here (setting_causes c.args.class c.args.columns.now) c.args.sets.now c.loop-set.set-index c.set-item.result (objected c.in_err-judge_set.field-0.0) c.loop-set-test.true c.set-item.is c.in_err-judge_set.ensures)

pub loop-set-preserved : goal.loop-set-preserved
loop-set-preserved c =
    c.loop-set.invariant ∙ first_of-next (setting_causes c.args.class c.args.columns.now) c.args.sets.now c.loop-set.set-index c.set-item.result c.loop-set-test.true c.set-item.is c.in_ok-judge_set.ensures
