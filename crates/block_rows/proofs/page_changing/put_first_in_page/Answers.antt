use Rattle.std.proofs.Common.{subst}
use Rattle.store_api.proofs.RunsOverPagesLemmas.{runs_exit}
use Rattle.block_rows.specs.PageRows.{IsLowestEmpty}
use Rattle.block_rows.proofs.PageRowsLemmas.{look_then_change, rows_along}
use Rattle.block_rows.proofs.page_changing.put_first_in_page.Goals as goal

pub returns-in_default-clause-puts : goal.returns-in_default-clause-puts
returns-in_default-clause-puts g c = λ slots holds.
    (subst (IsLowestEmpty slots) c.in_default.is (c.in_ok-slot.ensures.lowest slots holds), c.first_empty_in_page.ensures.same)

pub returns-in_err-put_in_page-clause-runs : goal.returns-in_err-put_in_page-clause-runs
returns-in_err-put_in_page-clause-runs g c =
    runs_exit c.from_residual-in_err-put_in_page.result c.from_residual-in_err-put_in_page.ensures.1
    (look_then_change c.in_ok-slot.ensures.runs c.in_ok-slot.ensures.same c.in_err-put_in_page.ensures.runs)

pub returns-clause-puts : goal.returns-clause-puts
returns-clause-puts g c = λ slots holds. (
  subst (IsLowestEmpty slots) c.in-Some.is (c.in_ok-slot.ensures.lowest slots holds),
  c.in_ok-put_in_page.ensures.puts slots (rows_along c.in_ok-slot.ensures.runs.works.steady.is_told c.in_ok-slot.ensures.same holds),
)

pub returns-clause-runs : goal.returns-clause-runs
returns-clause-runs g c = look_then_change c.in_ok-slot.ensures.runs c.in_ok-slot.ensures.same c.in_ok-put_in_page.ensures.runs
