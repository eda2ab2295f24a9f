use Rattle.file_check.proofs.NamedBlocksLemmas.{WalksBlocks}
use Rattle.file_check.proofs.named_blocks.are_blocks_of.Given as goal

abbrev pub invariant-loop-e : goal.invariant-loop-e
invariant-loop-e l = WalksBlocks l.kinds l.table l.blocks l.at l.e
