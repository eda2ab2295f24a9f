use Rattle.std.proofs.Common.{◌≡◌, false}
use Rattle.entry_tree_tests.proofs.changes.remove_some.Given as goal

-- the store goes on, and its mark is as it was
abbrev pub invariant-loop-i : goal.invariant-loop-i
invariant-loop-i g l = record {
  going : (g.P.Pages.state l.pages).ended ≡ false;
  marked : (g.P.Pages.state l.pages).marked ≡ (g.P.Pages.state l.initial.pages).marked;
}
