use Rattle.std.proofs.Common.{Err, subst}
use Rattle.store_api.proofs.FrameLemmas.{holds_here}
use Rattle.block_rows.specs.CellColumns.{places_of}
use Rattle.block_rows.specs.SeenRows.{SeesPage}
use Rattle.block_rows.proofs.PageRowsLemmas.{at_hand, page_fault_runs, rows_at_hand}
use Rattle.block_rows.proofs.page_reading.scan_page.Goals as goal

pub returns-in-Ok-clause-sees : goal.returns-in-Ok-clause-sees
returns-in-Ok-clause-sees g c = λ told.
    subst (λ page. SeesPage g.K.RowSink c.args.shape.now.columns.now (places_of c.args.cells.now.columns.items) c.args.given.now page c.args.first.block c.args.first.slot c.args.filter.now.pred.now
    c.args.sink.now c.scan_rows.new.sink c.args.met.now c.scan_rows.new.met)
    (at_hand c.args.p c.in_ok-bring.ensures.hand c.page.ensures (holds_here c.args.p told c.requires.within)) c.in-Ok.ensures.sees

pub returns-in-Err-clause-runs : goal.returns-in-Err-clause-runs
returns-in-Err-clause-runs g c =
    page_fault_runs {X = Unit {0}} c.page.result.now (Err c.in-Err.fault) c.in_ok-bring.ensures.runs c.in-Err.ensures.refuses (λ slots holds. rows_at_hand c.in_ok-bring.ensures.hand c.page.ensures holds)
