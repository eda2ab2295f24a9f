use Rattle.std.proofs.Common.{◌≡◌, false}
use Rattle.cell_change_tests.proofs.long_run.look_each.Given as goal

-- the store goes on
abbrev pub invariant-loop-held : goal.invariant-loop-held
invariant-loop-held g l = record {
  going : (g.P.Pages.state l.pages).ended ≡ false;
}
