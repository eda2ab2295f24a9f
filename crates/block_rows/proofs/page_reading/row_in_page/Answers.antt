use Rattle.std.proofs.Common.{◌∙◌, Err, None, Option, ap, get_or, subst}
use Rattle.mdc_ast.specs.declared.row.Row.{Row}
use Rattle.store_api.proofs.FrameLemmas.{holds_here}
use Rattle.block_rows.specs.SeenRows.{SeesSlotOfPage}
use Rattle.block_rows.proofs.PageRowsLemmas.{at_hand, page_fault_runs, rows_at_hand}
use Rattle.block_rows.proofs.page_reading.row_in_page.Goals as goal

pub returns-in-Ok-clause-found : goal.returns-in-Ok-clause-found
returns-in-Ok-clause-found g c = λ slots holds.
    let is = rows_at_hand c.in_ok-bring.ensures.hand c.page.ensures holds in
    c.in-Ok.ensures.seen.row_is ∙ ap (λ rows. get_or rows c.args.slot None) is.has

pub returns-in-Ok-clause-seen : goal.returns-in-Ok-clause-seen
returns-in-Ok-clause-seen g c = λ told.
    subst (λ page. SeesSlotOfPage c.args.shape.now.columns.now page c.args.slot c.in-Ok.row)
    (at_hand c.args.p c.in_ok-bring.ensures.hand c.page.ensures (holds_here c.args.p told c.requires.within)) c.in-Ok.ensures.seen

pub returns-in-Err-clause-runs : goal.returns-in-Err-clause-runs
returns-in-Err-clause-runs g c =
    page_fault_runs {X = Option Row} c.page.result.now (Err c.in-Err.fault) c.in_ok-bring.ensures.runs c.in-Err.ensures.refuses (λ slots holds. rows_at_hand c.in_ok-bring.ensures.hand c.page.ensures holds)
