use Rattle.std.proofs.Common.{◌≡◌, ◌≤◌, length, false}
use Rattle.store_bench.proofs.work.fetch_around.Given as goal

-- the store goes on with its pages, and its mark is as it was
abbrev pub invariant-loop-i : goal.invariant-loop-i
invariant-loop-i g l = record {
  within : l.round ≤ length (g.S.Pages.state l.store).work;
  going : (g.S.Pages.state l.store).ended ≡ false;
  marked : (g.S.Pages.state l.store).marked ≡ (g.S.Pages.state l.initial.store).marked;
}
