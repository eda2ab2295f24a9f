use Rattle.std.proofs.Common.{◌≡◌, false}
use Rattle.extent_map_tests.proofs.scenarios.claim_many.Given as goal

abbrev pub invariant-loop : goal.invariant-loop
invariant-loop g l = (g.S.Pages.state l.store).ended ≡ false
