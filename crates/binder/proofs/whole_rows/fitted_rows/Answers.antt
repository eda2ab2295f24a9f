use Rattle.std.proofs.Common.{subst}
use Rattle.binder.specs.WholeRows.{AreFitted}
use Rattle.binder.proofs.WholeRowsLemmas.{whole_step}
use Rattle.binder.proofs.whole_rows.fitted_rows.Goals as goal

pub loop-tuple-preserved : goal.loop-tuple-preserved
loop-tuple-preserved c =
    let fitted = rw c.in-Some.is at c.in_ok-row.ensures in
    whole_step c.args.columns.now c.args.tuples.now c.loop-tuple.tuple-index c.loop-tuple.rows.items c.push.new.self.items c.tuple-item.result c.in-Some.row
    c.loop-tuple-test.true c.tuple-item.is c.loop-tuple.invariant (subst (λ items. AreFitted c.args.columns.now items c.in-Some.row) c.as_slice.ensures fitted) c.in_ok-push-in-Some.ensures.items
