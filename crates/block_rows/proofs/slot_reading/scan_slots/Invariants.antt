use Rattle.std.proofs.Common.{◌≡◌, ◌≤◌, ◌+◌, ◌*◌, IsTrue, None, length}
use Rattle.store_api.specs.Fetching.{BringsOnce}
use Rattle.store_api.specs.Frame.{NoPage}
use Rattle.store_api.specs.RunsOverPages.{RunsOverPages}
use Rattle.row_page.specs.RowPage.{slot_count}
use Rattle.mdc_sound.specs.StandingTable.{IsPageOfBlock, pages_of}
use Rattle.block_rows.specs.HeldRows.{BreaksRows}
use Rattle.block_rows.proofs.ListedSlotsLemmas.{IsLeftFrom}
use Rattle.block_rows.proofs.ScannedSlotsLemmas.{IsPageBefore, PassesPages}
use Rattle.block_rows.proofs.slot_reading.scan_slots.Given as goal

-- the slots from page j on are left, and of the pages before it those in which one lies were seen, each once
abbrev pub invariant-loop-j : goal.invariant-loop-j
invariant-loop-j g l = record {
  left : IsLeftFrom l.fn.slots (l.j * slot_count l.def.columns) l.left;
  passes : IsTrue (g.P.Pages.state l.fn.pages).is_told → PassesPages g.K.RowSink l.fn.shape (pages_of g.P.Pages l.fn.pages) l.def l.block l.fn.slots l.fn.filter.pred.now l.j l.fn.sink l.sink l.count;
  within : l.count + length l.left ≤ length l.fn.slots;
  fits : g.K.RowSink.is_for l.def.columns l.sink;
  pred : l.filter.pred.now ≡ l.fn.filter.pred.now;
  width : length l.filter.values ≡ length l.fn.filter.values;
  same : (g.P.Pages.state l.pages).work ≡ (g.P.Pages.state l.fn.pages).work;
  once : BringsOnce g.P.Pages (IsPageBefore l.fn.shape l.def l.block l.fn.slots l.j) l.fn.pages l.pages;
  runs : RunsOverPages g.P.Pages NoPage (IsPageOfBlock l.fn.shape l.block) (BreaksRows g.P.Pages l.fn.shape l.fn.pages l.def l.block) l.fn.pages l.pages None;
}
