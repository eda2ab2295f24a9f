use Rattle.std.proofs.Common.{◌≡◌, false}
use Rattle.store_bench.proofs.work.edit_pages.Given as goal

-- the store goes on, and its mark is as it was
abbrev pub invariant-loop-i : goal.invariant-loop-i
invariant-loop-i g l = record {
  going : (g.S.Pages.state l.store).ended ≡ false;
  marked : (g.S.Pages.state l.store).marked ≡ (g.S.Pages.state l.initial.store).marked;
}
