use Rattle.row_groups.proofs.OneOrderLemmas.{one_order}
use Rattle.row_groups.proofs.laws.order_is_one.Goals as goal

pub returns : goal.returns
returns c = λ a b. one_order c.args._parts.now c.args._lines.now c.args._sorted.now c.args._other.now a b
