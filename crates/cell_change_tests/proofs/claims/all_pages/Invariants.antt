use Rattle.std.proofs.Common.{◌≡◌, false}
use Rattle.cell_change_tests.proofs.claims.all_pages.Given as goal

-- the store goes on, and its mark is as it was
abbrev pub invariant-loop-p : goal.invariant-loop-p
invariant-loop-p g l = record {
  going : (g.P.Pages.state l.pages).ended ≡ false;
  marked : (g.P.Pages.state l.pages).marked ≡ (g.P.Pages.state l.initial.pages).marked;
}
