use Rattle.std.proofs.Common.{◌≡◌, false}
use Rattle.tree_bench.proofs.work.count_found.Given as goal

-- the store goes on
abbrev pub invariant-loop-i : goal.invariant-loop-i
invariant-loop-i g l = record {
  going : (g.S.Pages.state l.store).ended ≡ false;
}
