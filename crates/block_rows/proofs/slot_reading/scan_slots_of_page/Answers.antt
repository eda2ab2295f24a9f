use Rattle.std.proofs.Common.{ℕ, Err, arith, subst}
use Rattle.std.proofs.lemmas.Bool.Decides.{nat_tests}
use Rattle.store_api.proofs.FrameLemmas.{holds_here}
use Rattle.block_rows.specs.ListedSlots.{SeesSlotsOfPage}
use Rattle.block_rows.proofs.PageRowsLemmas.{at_hand, page_fault_runs, rows_at_hand}
use Rattle.block_rows.proofs.ScannedSlotsLemmas.{seen_no_slots}
use Rattle.block_rows.proofs.slot_reading.scan_slots_of_page.Goals as goal

pub returns-then-is_empty-clause-sees : goal.returns-then-is_empty-clause-sees
returns-then-is_empty-clause-sees g c = λ told.
    seen_no_slots g.K.RowSink c.args.shape.now.columns.now _ c.args.first.block c.args.first.slot c.args.filter.now.pred.now c.args.slots.now c.args.sink.now (grind (arith, nat_tests, c.is_empty.ensures, c.if-is_empty.true))

pub returns-in-Ok-clause-sees : goal.returns-in-Ok-clause-sees
returns-in-Ok-clause-sees g c = λ told.
    subst (λ page. SeesSlotsOfPage g.K.RowSink c.args.shape.now.columns.now page c.args.first.block c.args.first.slot c.args.slots.now c.args.filter.now.pred.now c.args.sink.now c.scan_slots_in.new.sink c.in-Ok.count)
    (at_hand c.args.p c.in_ok-bring.ensures.hand c.page.ensures (holds_here c.args.p told c.requires.within)) c.in-Ok.ensures.sees

pub returns-in-Err-clause-runs : goal.returns-in-Err-clause-runs
returns-in-Err-clause-runs g c =
    page_fault_runs {X = ℕ} c.page.result.now (Err c.in-Err.fault) c.in_ok-bring.ensures.runs c.in-Err.ensures.refuses (λ slots holds. rows_at_hand c.in_ok-bring.ensures.hand c.page.ensures holds)
