use Rattle.std.proofs.Common.{Err}
use Rattle.block_rows.proofs.PageRowsLemmas.{page_fault_runs, rows_at_hand}
use Rattle.block_rows.specs.declared.seats.Lead.{Lead}
use Rattle.block_rows.proofs.seats.lead_of_page.Goals as goal

pub returns-in-Ok-clause-of_cell : goal.returns-in-Ok-clause-of_cell
returns-in-Ok-clause-of_cell g c = λ yes slots holds.
    c.in-Ok.ensures.of_cell yes slots (rows_at_hand c.in_ok-bring.ensures.hand c.page.ensures holds)

pub returns-in-Ok-clause-lowest : goal.returns-in-Ok-clause-lowest
returns-in-Ok-clause-lowest g c = λ slots holds.
    c.in-Ok.ensures.lowest slots (rows_at_hand c.in_ok-bring.ensures.hand c.page.ensures holds)

pub returns-in-Err-clause-runs : goal.returns-in-Err-clause-runs
returns-in-Err-clause-runs g c =
    page_fault_runs {X = Lead} c.page.result.now (Err c.in-Err.fault) c.in_ok-bring.ensures.runs c.in-Err.ensures.refuses (λ slots holds. rows_at_hand c.in_ok-bring.ensures.hand c.page.ensures holds)
