use Rattle.std.proofs.Common.{subst, sym}
use Rattle.table_scan.specs.Settled.{HasOpenTestIfAny, IsSettledIfAny}
use Rattle.table_scan.proofs.counting.is_settled_by_cells.Goals as goal

pub returns-in-Some-clause-settled : goal.returns-in-Some-clause-settled
returns-in-Some-clause-settled c truth = subst (IsSettledIfAny c.args.def.now) (sym c.in-Some.is) (c.is_settled.ensures.settled truth)

pub returns-in-Some-clause-open : goal.returns-in-Some-clause-open
returns-in-Some-clause-open c falsity = subst (HasOpenTestIfAny c.args.def.now) (sym c.in-Some.is) (c.is_settled.ensures.open falsity)
