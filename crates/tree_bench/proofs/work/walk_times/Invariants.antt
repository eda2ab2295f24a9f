use Rattle.std.proofs.Common.{◌≡◌, false}
use Rattle.tree_bench.proofs.work.walk_times.Given as goal

-- the store goes on
abbrev pub invariant-loop : goal.invariant-loop
invariant-loop g l = record {
  going : (g.S.Pages.state l.store).ended ≡ false;
}
