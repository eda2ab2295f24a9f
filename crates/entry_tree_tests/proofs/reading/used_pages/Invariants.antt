use Rattle.std.proofs.Common.{◌≡◌, false}
use Rattle.entry_tree_tests.proofs.reading.used_pages.Given as goal

-- the store goes on, and its mark is as it was
abbrev pub invariant-loop-e : goal.invariant-loop-e
invariant-loop-e g l = record {
  going : (g.P.Pages.state l.pages).ended ≡ false;
  marked : (g.P.Pages.state l.pages).marked ≡ (g.P.Pages.state l.initial.pages).marked;
}
