use Rattle.std.proofs.Common.{◌≡◌, false, None}
use Rattle.std.specs.Prelude.{IsTrue, flat_map}
use Rattle.mdc_ast.specs.ValidDatabase.{AllDefsDiffer, index_names}
use Rattle.mdc_ast.specs.Definitions.{AllNamesDiffer}
use Rattle.store_api.specs.Frame.{NoPage}
use Rattle.store_api.specs.RunsOverPages.{RunsOverPages}
use Rattle.stored_catalog.specs.StoredDefinitions.{BreaksTablePages, IsAnyTablePage, IsStoredPlace, IsWithinLimits}
use Rattle.stored_catalog.proofs.LoadingLemmas.{HoldsBefore}
use Rattle.stored_catalog.proofs.loading.load_catalog.Given as goal

-- the places so far have what their pages have, and no two of them share a name
abbrev pub invariant-loop-t : goal.invariant-loop-t
invariant-loop-t g l = record {
  loads : IsTrue (g.P.Pages.state l.fn.pages).is_told → HoldsBefore (IsStoredPlace (g.P.Pages.state l.fn.pages).work) l.t l.catalog;
  limits : HoldsBefore IsWithinLimits l.t l.catalog;
  names : AllDefsDiffer l.catalog;
  index_names : AllNamesDiffer (flat_map index_names l.catalog);
  same : (g.P.Pages.state l.pages).work ≡ (g.P.Pages.state l.fn.pages).work;
  going : (g.P.Pages.state l.pages).ended ≡ false;
  runs : RunsOverPages g.P.Pages NoPage IsAnyTablePage (BreaksTablePages g.P.Pages l.fn.pages) l.fn.pages l.pages None;
}
