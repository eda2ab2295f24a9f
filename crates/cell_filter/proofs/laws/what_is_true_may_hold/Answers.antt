use Rattle.cell_filter.proofs.MayHoldLemmas.{may_hold_at-true}
use Rattle.cell_filter.proofs.laws.what_is_true_may_hold.Goals as goal

pub returns : goal.returns
returns c = may_hold_at-true
