use Rattle.std.proofs.Common.{ℕ, Err, Option}
use Rattle.block_rows.proofs.PageRowsLemmas.{page_fault_runs, rows_at_hand}
use Rattle.block_rows.proofs.page_reading.first_empty_in_page.Goals as goal

pub returns-in-Ok-clause-lowest : goal.returns-in-Ok-clause-lowest
returns-in-Ok-clause-lowest g c = λ slots holds.
    c.in-Ok.ensures.lowest slots (rows_at_hand c.in_ok-bring.ensures.hand c.page.ensures holds)

pub returns-in-Err-clause-runs : goal.returns-in-Err-clause-runs
returns-in-Err-clause-runs g c =
    page_fault_runs {X = Option ℕ} c.page.result.now (Err c.in-Err.fault) c.in_ok-bring.ensures.runs c.in-Err.ensures.refuses (λ slots holds. rows_at_hand c.in_ok-bring.ensures.hand c.page.ensures holds)
