use Rattle.std.proofs.Common.{subst}
use Rattle.binder.specs.WholeRows.{AreWhole}
use Rattle.binder.proofs.WholeRowsLemmas.{bound-whole}
use Rattle.binder.proofs.whole_rows.bind_whole.Goals as goal

pub returns-in-Some-2 : goal.returns-in-Some-2
returns-in-Some-2 c =
    let whole = rw c.in-Some-2.is at c.in_ok-rows.ensures in
    bound-whole c.args.catalog.now c.args.table.now c.args.tuples.now c.in-Some.def.now c.in-Some-2.rows c.in-Some.ensures.there.0 c.in-Some.ensures.there.1 c.in-Some.ensures.differ
    (subst (λ columns. AreWhole columns c.args.tuples.now c.in-Some-2.rows) c.as_slice.ensures whole)
