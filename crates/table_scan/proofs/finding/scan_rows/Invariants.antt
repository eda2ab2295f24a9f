use Rattle.std.proofs.Common.{◌≡◌, IsTrue, None, false, length, take}
use Rattle.store_api.specs.Frame.{NoPage}
use Rattle.store_api.specs.RunsOverPages.{RunsOverPages}
use Rattle.mdc_sound.specs.StandingTable.{BreaksTable, pages_of}
use Rattle.table_scan.specs.FoundRows.{IsChoicePage, IsScannedPage, ScansOnce}
use Rattle.table_scan.specs.SeenTable.{blocks_listed}
use Rattle.table_scan.specs.Settled.{IsLeftOf}
use Rattle.table_scan.proofs.ScanningLemmas.{IsPageBefore}
use Rattle.table_scan.proofs.SettledRowsLemmas.{ScansTo}
use Rattle.table_scan.proofs.finding.scan_rows.Given as goal

-- the blocks so far were seen, their rows that qualify were given, and each page of these came to hand once
abbrev pub invariant-loop-one : goal.invariant-loop-one
invariant-loop-one g l = record {
  scans : IsTrue (g.P.Pages.state l.fn.pages).is_told → ScansTo g.K.RowSink l.fn.sink l.sink l.fn.shape (pages_of g.P.Pages l.fn.pages) l.def l.pred (take l.one-index l.one-items);
  fits : g.K.RowSink.is_for l.def.columns l.sink;
  left : IsLeftOf l.def l.pred l.filter.pred.now;
  width : length l.filter.values ≡ length l.def.columns;
  same : (g.P.Pages.state l.pages).work ≡ (g.P.Pages.state l.fn.pages).work;
  going : (g.P.Pages.state l.pages).ended ≡ false;
  once : ScansOnce g.P.Pages (IsChoicePage g.P.Pages l.fn.shape l.fn.pages l.def) (IsPageBefore l.fn.shape (blocks_listed l.one-items) l.one-index) l.fn.pages l.pages;
  runs : RunsOverPages g.P.Pages NoPage (IsScannedPage g.P.Pages l.fn.shape l.fn.pages l.def l.pred) (BreaksTable g.P.Pages l.fn.shape l.fn.pages l.def) l.fn.pages l.pages None;
}
