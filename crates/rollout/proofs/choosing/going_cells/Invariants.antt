use Rattle.std.proofs.Common.{take}
use Rattle.rollout.specs.GoingCells.{JudgesCells}
use Rattle.rollout.proofs.choosing.going_cells.Given as goal

-- the first cells were judged
abbrev pub invariant-loop-one : goal.invariant-loop-one
invariant-loop-one l = JudgesCells l.fn.def l.fn.pred (take l.one-index l.fn.found) l.going.items
