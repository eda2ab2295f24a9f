use Rattle.std.proofs.Common.{take}
use Rattle.rollout.proofs.ReclaimingLoopLemmas.{IsReclaiming}
use Rattle.rollout.proofs.reclaiming.reclaim.Given as goal

-- the first Free blocks were given back
abbrev pub invariant-loop-block : goal.invariant-loop-block
invariant-loop-block g l = IsReclaiming g.P.Pages l.fn.shape l.fn.notes l.notes l.fn.pages l.pages l.fn.def (take l.block-index l.block-items) l.count
