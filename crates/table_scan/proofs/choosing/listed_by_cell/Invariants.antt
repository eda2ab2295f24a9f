use Rattle.std.proofs.Common.{◌≡◌, None, false, take}
use Rattle.std.specs.List.{AllByRecursion}
use Rattle.store_api.specs.Frame.{NoPage}
use Rattle.store_api.specs.RunsOverPages.{RunsOverPages}
use Rattle.mdc_sound.specs.StandingTable.{BreaksTable}
use Rattle.table_scan.specs.Choices.{IsOfEntry, blocks_chosen}
use Rattle.table_scan.specs.FoundRows.{IsChoicePage}
use Rattle.table_scan.proofs.ListingLemmas.{AreListedTo}
use Rattle.table_scan.proofs.choosing.listed_by_cell.Given as goal

-- the blocks of the entries so far were listed
abbrev pub invariant-loop-one : goal.invariant-loop-one
invariant-loop-one g l = record {
  to : AreListedTo g.P.Pages l.fn.pages l.def l.listed.items (blocks_chosen (take l.one-index l.one-items));
  of_entries : AllByRecursion (IsOfEntry l.def l.pred l.entries) l.listed.items;
  same : (g.P.Pages.state l.pages).work ≡ (g.P.Pages.state l.fn.pages).work;
  going : (g.P.Pages.state l.pages).ended ≡ false;
  runs : RunsOverPages g.P.Pages NoPage (IsChoicePage g.P.Pages l.fn.shape l.fn.pages l.def) (BreaksTable g.P.Pages l.fn.shape l.fn.pages l.def) l.fn.pages l.pages None;
}
