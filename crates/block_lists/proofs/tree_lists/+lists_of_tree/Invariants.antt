use Rattle.std.proofs.Common.{take}
use Rattle.block_lists.proofs.TreeLemmas.{AreListsOf}
use Rattle.block_lists.proofs.tree_lists.+lists_of_tree.Given as goal

abbrev pub decreases-lists_of_tree : goal.decreases-lists_of_tree
decreases-lists_of_tree l = goal.size-lists_of_tree l

abbrev pub invariant-loop-member : goal.invariant-loop-member
invariant-loop-member l = AreListsOf (take l.member-index l.member-items) l.lists

abbrev pub invariant-loop-member-2 : goal.invariant-loop-member-2
invariant-loop-member-2 l = AreListsOf (take l.member-index l.member-items) l.lists
