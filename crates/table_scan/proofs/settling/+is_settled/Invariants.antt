use Rattle.std.proofs.Common.{take}
use Rattle.std.specs.List.{All}
use Rattle.table_scan.specs.Settled.{IsSettled}
use Rattle.table_scan.proofs.settling.+is_settled.Given as goal

abbrev pub decreases-is_settled : goal.decreases-is_settled
decreases-is_settled l = goal.size-is_settled l

-- the parts so far are settled
abbrev pub invariant-loop-pred : goal.invariant-loop-pred
invariant-loop-pred l = All (IsSettled l.def) (take l.pred-index l.pred-items)
