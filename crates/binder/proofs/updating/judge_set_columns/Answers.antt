use Rattle.std.proofs.Common.{◌∙◌}
use Rattle.std.proofs.lemmas.Result.{err_from_is_err_and}
use Rattle.binder.specs.Saying.{objected}
use Rattle.binder.proofs.SetLemmas.{set_columns-here, set_columns-next}
use Rattle.binder.proofs.updating.judge_set_columns.Goals as goal

pub returns-in_err-judge_set_column : goal.returns-in_err-judge_set_column
returns-in_err-judge_set_column c =
    let p = err_from_is_err_and c.from_residual.result c.from_residual.ensures.1 in
    rw (p.1, p.2)
    (c.loop-place.invariant
    ∙ set_columns-here c.args.columns.now c.args.sets.now c.loop-place.place c.index-sets-place.result (objected c.in_err-judge_set_column.field-0.0) c.loop-place-test.true c.index-sets-place.is c.in_err-judge_set_column.ensures)

pub loop-place-preserved : goal.loop-place-preserved
loop-place-preserved c =
    c.loop-place.invariant
    ∙ set_columns-next c.args.columns.now c.args.sets.now c.loop-place.place c.index-sets-place.result c.loop-place-test.true c.index-sets-place.is c.in_ok-judge_set_column.ensures
