use Rattle.std.proofs.Common.{◌≡◌, false, None}
use Rattle.table_bench.proofs.fill_rows.delete_rows.Given as goal

-- the store goes on, and has no mark
abbrev pub invariant-loop-i : goal.invariant-loop-i
invariant-loop-i g l = record {
  going : (g.S.Pages.state l.store).ended ≡ false;
  unmarked : (g.S.Pages.state l.store).marked ≡ None;
}
