use Rattle.std.proofs.Common.{ap, subst}
use Rattle.std.specs.Result.{is_ok}
use Rattle.std.proofs.lemmas.Result.{IfOk-weaker}
use Rattle.store_api.proofs.RunsOverPagesLemmas.{runs_edit}
use Rattle.block_rows.specs.SeenRows.{SeesIfRow, SeesSlotOfPage}
use Rattle.block_rows.proofs.PageRowsLemmas.{page_fault_runs, rows_edited, rows_of_told}
use Rattle.block_rows.proofs.page_changing.clear_in_page.Goals as goal

pub returns-clause-clears : goal.returns-clause-clears
returns-clause-clears g c =
    let edited = (c.edit.follows.holds c.clear_row.new.page (ap is_ok c.in_ok-edit.was)).ok in
    IfOk-weaker c.clear_row.result _ _
    (λ filled clears slots holds.
    let now = clears slots (rows_of_told c.in_ok-edit.ensures.page slots holds) in
    (now.0, rows_edited c.clear_row.new.page edited holds now.1))
    c.clear_row.ensures.clears

pub returns-clause-seen : goal.returns-clause-seen
returns-clause-seen g c =
    IfOk-weaker c.clear_row.result _ _
    (λ filled sees told. subst (λ page. SeesIfRow (SeesSlotOfPage c.args.shape.now.columns.now page c.args.slot) filled) (c.in_ok-edit.ensures.page told) sees)
    c.clear_row.ensures.seen

pub returns-clause-runs : goal.returns-clause-runs
returns-clause-runs g c =
    let edited = c.edit.follows.holds c.clear_row.new.page (ap is_ok c.in_ok-edit.was) in
    page_fault_runs _ c.clear_row.result (runs_edit c.args.p _ edited) c.clear_row.ensures.refuses (rows_of_told c.in_ok-edit.ensures.page)
