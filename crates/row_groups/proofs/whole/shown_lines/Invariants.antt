use Rattle.std.proofs.Common.{take}
use Rattle.row_groups.specs.Gathering.{AreGroupsOf}
use Rattle.row_groups.specs.Shape.{shape_of}
use Rattle.row_groups.proofs.whole.shown_lines.Given as goal

abbrev pub invariant-loop-row : goal.invariant-loop-row
invariant-loop-row l = AreGroupsOf (shape_of l.select) (take l.row-index l.rows) l.groups
