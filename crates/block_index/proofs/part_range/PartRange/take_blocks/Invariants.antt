use Rattle.block_index.proofs.PartRangesLemmas.{IsTaking}
use Rattle.block_index.proofs.part_range.PartRange.take_blocks.Given as goal

abbrev pub invariant-loop-i : goal.invariant-loop-i
invariant-loop-i g l = IsTaking l.self l.leaf l.i l.initial.blocks.items l.blocks.items l.initial.entries l.entries
