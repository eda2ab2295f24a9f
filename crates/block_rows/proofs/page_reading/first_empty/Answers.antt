use Rattle.block_rows.proofs.PageRowsLemmas.{full-view, lowest-view}
use Rattle.block_rows.proofs.page_reading.first_empty.Goals as goal

pub returns-then-rows-slots-clause-lowest : goal.returns-then-rows-slots-clause-lowest
returns-then-rows-slots-clause-lowest c =
    full-view c.args.shape.now.columns.now c.in-Some.view.columns.now c.args.page.now c.in-Some.view.page.now c.in-Some.ensures.seen.0 c.in-Some.ensures.seen.1
    c.rows.result c.slots.result c.rows.ensures.counted c.if-rows-slots.true c.slots.ensures.value

pub returns-clause-lowest : goal.returns-clause-lowest
returns-clause-lowest c =
    lowest-view c.args.shape.now.columns.now c.in-Some.view.columns.now c.args.page.now c.in-Some.view.page.now c.in-Some.ensures.seen.0 c.in-Some.ensures.seen.1
    c.first_empty.result c.first_empty.ensures
