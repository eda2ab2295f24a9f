use Rattle.std.proofs.Common.{◌≡◌, false, length}
use Rattle.tree_bench.proofs.work.walk_once.Given as goal

-- the store goes on, and the bound is as long as an entry
abbrev pub invariant-loop : goal.invariant-loop
invariant-loop g l = record {
  going : (g.S.Pages.state l.store).ended ≡ false;
  bound : length l.bound ≡ 15;
}
