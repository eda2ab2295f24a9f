use Rattle.block_index.proofs.RisingLemmas.{IsRisen}
use Rattle.rollout.proofs.choosing.rising.Given as goal

abbrev pub invariant-loop-number : goal.invariant-loop-number
invariant-loop-number l = IsRisen l.number-items l.number-index l.from l.blocks
