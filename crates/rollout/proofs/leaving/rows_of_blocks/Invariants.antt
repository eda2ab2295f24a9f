use Rattle.std.proofs.Common.{take}
use Rattle.rollout.proofs.ReadBlocksLemmas.{IsReading}
use Rattle.rollout.proofs.leaving.rows_of_blocks.Given as goal

-- the first blocks were read
abbrev pub invariant-loop-block : goal.invariant-loop-block
invariant-loop-block g l = IsReading g.P.Pages l.fn.shape l.fn.pages l.pages l.fn.def l.block-items (take l.block-index l.block-items) l.hits.items
