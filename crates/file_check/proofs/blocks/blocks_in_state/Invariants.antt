use Rattle.std.proofs.Common.{ℕ, ◌<◌, get_or}
use Rattle.file_check.proofs.blocks.blocks_in_state.Given as goal

-- the blocks so far are extents
abbrev pub invariant-loop-block : goal.invariant-loop-block
invariant-loop-block g l = (i : ℕ) → i < l.block-index → get_or l.block-items i 0 < l.fn.shape.extents
