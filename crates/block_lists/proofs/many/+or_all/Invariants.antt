use Rattle.std.proofs.Common.{length}
use Rattle.block_lists.proofs.many.+or_all.Given as goal

abbrev pub decreases-or_all : goal.decreases-or_all
decreases-or_all l = length l.members.now
