use Rattle.std.proofs.Common.{arith}
use Rattle.binder.proofs.WholeRowsLemmas.{fitted_step}
use Rattle.binder.proofs.whole_rows.fitted_row.Goals as goal

pub loop-place-preserved : goal.loop-place-preserved
loop-place-preserved c =
    fitted_step c.args.columns.now c.args.items.now c.loop-place.place c.loop-place.row.items c.push.new.self.items c.index-columns-place.result c.index-items-place.result c.in-Some.value
    c.loop-place-test.true (omega arith) c.index-columns-place.is c.index-items-place.is c.loop-place.invariant (rw c.in-Some.is at c.in_ok-value.ensures) c.in_ok-push-in-Some.ensures.items
