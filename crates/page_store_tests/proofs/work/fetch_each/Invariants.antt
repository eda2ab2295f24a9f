-- No commit has failed.
use Rattle.std.proofs.Common.{◌≡◌, false}
use Rattle.page_store_tests.proofs.work.fetch_each.Given as goal

abbrev pub invariant-loop-p : goal.invariant-loop-p
invariant-loop-p g l = (g.S.Pages.state l.store).ended ≡ false
