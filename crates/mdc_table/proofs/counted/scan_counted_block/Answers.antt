use Rattle.std.proofs.Common.{IsTrue, Some, subst}
use Rattle.std.specs.Prelude.{◌↔◌}
use Rattle.std.proofs.lemmas.Result.{on_ok_weaker}
use Rattle.store_api.proofs.RunsOverPagesLemmas.{runs_exit, runs_none}
use Rattle.block_rows.specs.CountedRows.{counted_rows}
use Rattle.block_rows.specs.Giving.{WasGiven}
use Rattle.block_rows.specs.HeldRows.{qualifying}
use Rattle.block_rows.specs.SeenRows.{AreInCell}
use Rattle.free_space.proofs.TableRunsLemmas.{runs_broken}
use Rattle.table_trees.specs.RowCells.{cell_places}
use Rattle.mdc_sound.specs.StandingTable.{pages_of}
use Rattle.mdc_table.proofs.ListedBlocksLemmas.{breaks_past_listed, runs_as_listed, runs_on_listed, seen_counted, seen_counted_rows}
use Rattle.mdc_table.proofs.counted.scan_counted_block.Goals.{In_ok-seen}
use Rattle.mdc_table.proofs.counted.scan_counted_block.Given.{Over}
use Rattle.mdc_table.proofs.counted.scan_counted_block.Goals as goal

-- whether the rows are of the cell is known by the columns of the table's cells
in_cell : (g : Over) (c : In_ok-seen g) → IsTrue (g.P.Pages.state c.args.pages.now).is_told
    → IsTrue c.in_ok-seen.seen.in_cell ↔ AreInCell (cell_places c.args.def.now) c.args.listed.now.cell (counted_rows c.args.shape (pages_of g.P.Pages c.args.pages.now) c.args.def.now c.args.listed.now.block c.args.listed.now.rows)
in_cell g c told =
    subst (λ places. IsTrue c.in_ok-seen.seen.in_cell ↔ AreInCell places c.args.listed.now.cell (counted_rows c.args.shape (pages_of g.P.Pages c.args.pages.now) c.args.def.now c.args.listed.now.block c.args.listed.now.rows))
    c.requires.places (c.in_ok-seen.ensures.in_cell told)

pub returns-then-block-shape-clause-runs : goal.returns-then-block-shape-clause-runs
returns-then-block-shape-clause-runs g c =
    runs_broken c.unmapped.result c.unmapped.ensures runs_none (breaks_past_listed c.args.shape c.args.pages.now c.args.def.now c.args.listed.now c.if-block-shape.true)

pub returns-in_err-seen-clause-runs : goal.returns-in_err-seen-clause-runs
returns-in_err-seen-clause-runs g c =
    runs_exit c.from_residual.result c.from_residual.ensures.1
    (runs_on_listed {fault = Some c.in_err-seen.field-0.0} c.args.shape c.args.def.now c.args.listed.now c.if-block-shape.false c.in_err-seen.ensures.runs)

pub returns-clause-given : goal.returns-clause-given
returns-clause-given g c =
    on_ok_weaker c.as_listed.result (λ agrees told most.
    subst (λ rows. WasGiven g.K.RowSink c.args.sink.now c.scan_counted.new.sink (qualifying c.args.filter.now.pred.now rows)) (c.in_ok-seen.ensures.whole most) (c.in_ok-seen.ensures.given told))
    c.as_listed.ensures.agrees

pub returns-clause-given_some : goal.returns-clause-given_some
returns-clause-given_some g c = on_ok_weaker c.as_listed.result (λ agrees. c.in_ok-seen.ensures.given) c.as_listed.ensures.agrees

pub returns-clause-fits : goal.returns-clause-fits
returns-clause-fits g c = on_ok_weaker c.as_listed.result (λ agrees. c.in_ok-seen.ensures.fits) c.as_listed.ensures.agrees

pub returns-clause-seen : goal.returns-clause-seen
returns-clause-seen g c =
    let ok = (goal.at.returns-clause-seen g c).In_ok-seen in
    on_ok_weaker c.as_listed.result (λ agrees told.
    seen_counted c.args.shape (pages_of g.P.Pages c.args.pages.now) c.args.def.now c.args.listed.now c.in_ok-seen.seen (c.in_ok-seen.ensures.seen told) (in_cell g ok told) agrees.0 agrees.1)
    c.as_listed.ensures.agrees

pub returns-clause-runs : goal.returns-clause-runs
returns-clause-runs g c =
    let ok = (goal.at.returns-clause-runs g c).In_ok-seen in
    runs_as_listed c.args.shape c.args.def.now c.args.listed.now c.in_ok-seen.seen c.as_listed.result c.if-block-shape.false c.in_ok-seen.ensures.runs
    (λ told. seen_counted_rows c.args.shape (pages_of g.P.Pages c.args.pages.now) c.args.def.now c.args.listed.now c.in_ok-seen.seen (c.in_ok-seen.ensures.seen told) (in_cell g ok told) c.in_ok-seen.ensures.whole) c.as_listed.ensures.names
