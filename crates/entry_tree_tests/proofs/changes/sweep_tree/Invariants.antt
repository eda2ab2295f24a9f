use Rattle.std.proofs.Common.{◌≡◌, false, length}
use Rattle.entry_tree_tests.proofs.changes.sweep_tree.Given as goal

-- the store goes on, its mark is as it was, and the bound is as long as an entry
abbrev pub invariant-loop : goal.invariant-loop
invariant-loop g l = record {
  going : (g.P.Pages.state l.pages).ended ≡ false;
  marked : (g.P.Pages.state l.pages).marked ≡ (g.P.Pages.state l.initial.pages).marked;
  bound : length l.bound ≡ l.tree.width;
}
