use Rattle.std.proofs.Common.{◌≡◌, map, take, true}
use Rattle.std.specs.List.{list_all}
use Rattle.block_lists.specs.Trees.{each_has_members}
use Rattle.block_lists.proofs.members.+has_members.Given as goal

abbrev pub decreases-has_members : goal.decreases-has_members
decreases-has_members l = goal.size-has_members l

abbrev pub invariant-loop-member : goal.invariant-loop-member
invariant-loop-member l = list_all (λ b. b) (map each_has_members (take l.member-index l.member-items)) ≡ true
