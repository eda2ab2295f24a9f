use Rattle.std.proofs.Common.{◌∙◌, ◌<◌, ap, sym, length, take, arith}
use Rattle.mdc_ast.specs.Database.{is_null}
use Rattle.statement_meaning.specs.Doing.{set_on, item_on}
use Rattle.row_checks.specs.RowChange.{is_null_at}
use Rattle.row_checks.proofs.SetLemmas.{is_null_at-same, is_null_at-other, length-set_on, set_on-more}
use Rattle.row_checks.proofs.row_change.misfits.is_null_after.Goals as goal
use Rattle.row_checks.proofs.row_change.misfits.is_null_after.Goals.{then-set-place, else-set-place}

pub loop-set-preserved : goal.loop-set-preserved
loop-set-preserved c =
    let so_far = set_on c.args.values.now (take c.loop-set.set-index c.args.sets.now) c.args.values.now in
    let next = c.set-item.result in
    let more = ap (is_null_at c.args.place) (set_on-more c.args.values.now c.args.sets.now c.args.values.now c.loop-set.set-index next c.loop-set-test.true c.set-item.is) in
    let there : c.args.place < length so_far = omega (arith, length-set_on c.args.values.now (take c.loop-set.set-index c.args.sets.now) c.args.values.now) in
    elim c.if-set-place.branch [
      | then-set-place w ↦ w.null-is ∙ w.is_null-null.ensures ∙ ap is_null w.item_on.ensures ∙ sym (is_null_at-same so_far c.args.place next.column (item_on c.args.values.now next.item) w.if-set-place.true there) ∙ sym more
      | else-set-place w ↦ w.null-is ∙ c.loop-set.invariant ∙ sym (is_null_at-other so_far c.args.place next.column (item_on c.args.values.now next.item) w.if-set-place.false) ∙ sym more
    ]
