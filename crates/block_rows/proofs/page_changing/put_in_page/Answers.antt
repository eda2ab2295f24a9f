use Rattle.std.proofs.Common.{ap, subst}
use Rattle.std.specs.Result.{is_ok}
use Rattle.std.proofs.lemmas.Result.{IfOk-weaker}
use Rattle.store_api.proofs.RunsOverPagesLemmas.{runs_edit}
use Rattle.block_rows.specs.SeenRows.{SeesIfRow, SeesSlotOfPage}
use Rattle.block_rows.proofs.PageRowsLemmas.{page_fault_runs, rows_of_told}
use Rattle.block_rows.proofs.page_changing.put_in_page.Goals as goal

pub returns-clause-seen : goal.returns-clause-seen
returns-clause-seen g c =
    IfOk-weaker c.put_row.result _ _
    (λ filled sees told. subst (λ page. SeesIfRow (SeesSlotOfPage c.args.shape.now.columns.now page c.args.slot) filled) (c.in_ok-edit.ensures.page told) sees)
    c.put_row.ensures.seen

pub returns-clause-runs : goal.returns-clause-runs
returns-clause-runs g c =
    let edited = c.edit.follows.holds c.put_row.new.page (ap is_ok c.in_ok-edit.was) in
    page_fault_runs _ c.put_row.result (runs_edit c.args.p _ edited) c.put_row.ensures.refuses (rows_of_told c.in_ok-edit.ensures.page)
