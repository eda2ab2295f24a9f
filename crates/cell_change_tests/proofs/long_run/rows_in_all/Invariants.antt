use Rattle.std.proofs.Common.{◌≡◌, false}
use Rattle.cell_change_tests.proofs.long_run.rows_in_all.Given as goal

-- the store goes on
abbrev pub invariant-loop-block : goal.invariant-loop-block
invariant-loop-block g l = record {
  going : (g.P.Pages.state l.pages).ended ≡ false;
}
