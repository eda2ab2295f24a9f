use Rattle.std.proofs.Common.{◌≡◌, take}
use Rattle.block_map.proofs.WalkingLemmas.{blocks_of_rows}
use Rattle.block_map.proofs.by_state.blocks_of.Given as goal

-- the blocks so far are those of the rows so far
abbrev pub invariant-loop-row : goal.invariant-loop-row
invariant-loop-row l = record { so_far : l.blocks ≡ blocks_of_rows (take l.row-index l.rows) }
