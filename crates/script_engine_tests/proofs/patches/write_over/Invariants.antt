use Rattle.std.proofs.Common.{◌≡◌, false, None}
use Rattle.script_engine_tests.proofs.patches.write_over.Given as goal

-- the pages take calls, and no mark is open
abbrev pub invariant-loop-patch : goal.invariant-loop-patch
invariant-loop-patch g l = record {
  going : (g.P.Pages.state l.pages).ended ≡ false;
  unmarked : (g.P.Pages.state l.pages).marked ≡ None;
}
