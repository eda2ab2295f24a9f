use Rattle.std.proofs.Common.{length}
use Rattle.block_lists.proofs.many.+and_all.Given as goal

abbrev pub decreases-and_all : goal.decreases-and_all
decreases-and_all l = length l.members.now
