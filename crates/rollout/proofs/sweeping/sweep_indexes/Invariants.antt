use Rattle.rollout.proofs.SweptIndexesLemmas.{AreSweeping}
use Rattle.rollout.proofs.sweeping.sweep_indexes.Given as goal

-- the first indexes were swept
abbrev pub invariant-loop-index : goal.invariant-loop-index
invariant-loop-index g l = AreSweeping g.P.Pages l.fn.shape l.fn.notes l.notes l.fn.pages l.pages l.fn.def l.fn.blocks l.fn.rows l.index
