use Rattle.std.proofs.Common.{◌≡◌, ◌≤◌, ◌+◌, ◌*◌, IsTrue, None, length}
use Rattle.store_api.specs.Extents.{first_page_of}
use Rattle.store_api.specs.Fetching.{BringsOnce, PagesBetween}
use Rattle.store_api.specs.Frame.{NoPage}
use Rattle.store_api.specs.RunsOverPages.{RunsOverPages}
use Rattle.row_page.specs.RowPage.{slot_count}
use Rattle.mdc_sound.specs.StandingTable.{pages_of}
use Rattle.block_rows.specs.CellColumns.{places_of}
use Rattle.block_rows.specs.CountedRows.{IsCountedPage}
use Rattle.block_rows.specs.HeldRows.{BreaksRows}
use Rattle.block_rows.proofs.CountedRowsLemmas.{AreFewBefore}
use Rattle.block_rows.proofs.SeenPagesLemmas.{SeesPages}
use Rattle.block_rows.proofs.counted.scan_counted.Given as goal

-- the rows of the pages so far were met, the sink was given those that the filter takes, each of the pages came to hand once, and
-- fewer rows than are counted lie before it
abbrev pub invariant-loop-j : goal.invariant-loop-j
invariant-loop-j g l = record {
  same : (g.P.Pages.state l.pages).work ≡ (g.P.Pages.state l.fn.pages).work;
  sees : IsTrue (g.P.Pages.state l.fn.pages).is_told → SeesPages g.K.RowSink l.fn.shape (pages_of g.P.Pages l.fn.pages) l.def l.block (places_of l.cells.columns.items) l.cell l.fn.filter.pred.now l.j
      l.fn.sink l.sink l.met;
  before : IsTrue (g.P.Pages.state l.fn.pages).is_told → AreFewBefore l.fn.shape (pages_of g.P.Pages l.fn.pages) l.def l.block l.rows l.j;
  few : l.met.rows ≤ l.j * slot_count l.def.columns;
  fits : g.K.RowSink.is_for l.def.columns l.sink;
  pred : l.filter.pred.now ≡ l.fn.filter.pred.now;
  width : length l.filter.values ≡ length l.fn.filter.values;
  once : BringsOnce g.P.Pages (PagesBetween (first_page_of l.fn.shape.extents l.fn.shape.extent_pages l.block) (first_page_of l.fn.shape.extents l.fn.shape.extent_pages l.block + l.j)) l.fn.pages l.pages;
  runs : RunsOverPages g.P.Pages NoPage (IsCountedPage g.P.Pages l.fn.shape l.fn.pages l.def l.block l.rows) (BreaksRows g.P.Pages l.fn.shape l.fn.pages l.def l.block) l.fn.pages l.pages None;
}
