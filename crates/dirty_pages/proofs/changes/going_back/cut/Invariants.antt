use Rattle.std.proofs.Common.{◌≡◌, length, take}
use Rattle.dirty_pages.proofs.changes.going_back.cut.Given as goal

abbrev pub decreases-loop-table : goal.decreases-loop-table
decreases-loop-table l = length l.table

-- the first pages are those of the start
abbrev pub invariant-loop-table : goal.invariant-loop-table
invariant-loop-table l = take l.n l.table ≡ take l.n l.initial.table
