use Rattle.std.proofs.Common.{IsTrue, arith, subst}
use Rattle.std.specs.Prelude.{◌↔◌}
use Rattle.std.proofs.lemmas.Result.{IfOk-weaker, on_ok_weaker}
use Rattle.store_api.proofs.FetchingLemmas.{once_wider}
use Rattle.store_api.proofs.RunsOverPagesLemmas.{runs_wider}
use Rattle.mdc_sound.specs.StandingTable.{pages_of}
use Rattle.block_rows.specs.CellColumns.{places_of}
use Rattle.block_rows.specs.Giving.{WasGiven}
use Rattle.block_rows.specs.HeldRows.{qualifying}
use Rattle.block_rows.specs.SeenRows.{AreInCell}
use Rattle.block_rows.proofs.CountedRowsLemmas.{unbounded_rows, unbounded_seen}
use Rattle.block_rows.proofs.reading.scan_block.Goals as goal

pub returns-clause-given : goal.returns-clause-given
returns-clause-given g c =
    on_ok_weaker c.scan_counted.result (λ given told.
    subst (λ rows. WasGiven g.K.RowSink c.args.sink.now c.scan_counted.new.sink (qualifying c.args.filter.now.pred.now rows))
    (unbounded_rows c.args.shape (pages_of g.P.Pages c.args.pages.now) c.args.def.now c.args.block 65535 (omega arith)) (given told)) c.scan_counted.ensures.given

pub returns-clause-seen : goal.returns-clause-seen
returns-clause-seen g c =
    IfOk-weaker c.scan_counted.result _ _ (λ seen known told.
    unbounded_seen c.args.shape (pages_of g.P.Pages c.args.pages.now) c.args.def.now c.args.block 65535 seen.rows (omega arith) (known told)) c.scan_counted.ensures.seen

pub returns-clause-in_cell : goal.returns-clause-in_cell
returns-clause-in_cell g c =
    IfOk-weaker c.scan_counted.result _ _ (λ seen known told.
    subst (λ rows. IsTrue seen.in_cell ↔ AreInCell (places_of c.args.cells.now.columns.items) c.args.cell.now rows)
    (unbounded_rows c.args.shape (pages_of g.P.Pages c.args.pages.now) c.args.def.now c.args.block 65535 (omega arith)) (known told)) c.scan_counted.ensures.in_cell

pub returns-clause-once : goal.returns-clause-once
returns-clause-once g c = once_wider c.scan_counted.ensures.once (λ q is. is.of_block)

pub returns-clause-runs : goal.returns-clause-runs
returns-clause-runs g c = runs_wider c.scan_counted.ensures.runs (λ q there none. absurd none) (λ q is. is.of_block) (λ damage breaks. breaks)
