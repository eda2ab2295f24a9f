use Rattle.std.proofs.Common.{◌≡◌, false, None}
use Rattle.table_bench.proofs.fill_rows.insert_rows.Given as goal

-- the store goes on, and has no mark
abbrev pub invariant-loop : goal.invariant-loop
invariant-loop g l = record {
  going : (g.S.Pages.state l.store).ended ≡ false;
  unmarked : (g.S.Pages.state l.store).marked ≡ None;
}
