use Rattle.std.proofs.Common.{◌≡◌, false, length}
use Rattle.entry_tree_tests.proofs.reading.read_all.Given as goal

-- the store goes on, its mark is as it was, and the bound is as long as an entry
abbrev pub invariant-loop-leaves : goal.invariant-loop-leaves
invariant-loop-leaves g l = record {
  going : (g.P.Pages.state l.pages).ended ≡ false;
  marked : (g.P.Pages.state l.pages).marked ≡ (g.P.Pages.state l.initial.pages).marked;
  bound : length l.bound ≡ l.tree.width;
}
