use Rattle.std.proofs.Common.{Some, ap}
use Rattle.checked_table.proofs.judging.exact_fault.Goals as goal

pub returns-in-Damaged-clause-exact : goal.returns-in-Damaged-clause-exact
returns-in-Damaged-clause-exact g c damage is unsound = c.judged.ensures.exact damage (cc) (unsound c.in-Damaged.met (ap Some c.in-Damaged.is))
