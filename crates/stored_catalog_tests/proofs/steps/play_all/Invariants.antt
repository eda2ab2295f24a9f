use Rattle.std.proofs.Common.{◌≡◌, false}
use Rattle.stored_catalog.specs.StoredDefinitions.{AreWithinLimits}
use Rattle.stored_catalog_tests.proofs.steps.play_all.Given as goal

-- the catalog stays within the limits, and the store goes on
abbrev pub invariant-loop-step : goal.invariant-loop-step
invariant-loop-step g l = record {
  catalog : AreWithinLimits l.catalog;
  going : (g.P.Pages.state l.pages).ended ≡ false;
}
