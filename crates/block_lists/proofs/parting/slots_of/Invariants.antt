use Rattle.std.proofs.Common.{◌≡◌, ◌++◌, length, map}
use Rattle.block_lists.specs.Parts.{rid_at}
use Rattle.block_lists.proofs.parting.slots_of.Given as goal

abbrev pub invariant-loop-rid : goal.invariant-loop-rid
invariant-loop-rid l = l.fn.rids ≡ map (rid_at l.block) l.slots ++ l.left

abbrev pub decreases-loop-rid : goal.decreases-loop-rid
decreases-loop-rid l = length l.left
