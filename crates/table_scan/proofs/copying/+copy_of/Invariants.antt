use Rattle.std.proofs.Common.{◌≡◌, take}
use Rattle.table_scan.proofs.copying.+copy_of.Given as goal

abbrev pub decreases-copy_of : goal.decreases-copy_of
decreases-copy_of l = goal.size-copy_of l

-- the parts so far are copied
abbrev pub invariant-loop-part : goal.invariant-loop-part
invariant-loop-part l = l.parts ≡ take l.part-index l.part-items
