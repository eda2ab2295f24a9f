use Rattle.std.proofs.Common.{◌≡◌, drop, map}
use Rattle.cell_filter.specs.Cells.{any_true}
use Rattle.plan_chooser.specs.Words.{has_part}
use Rattle.plan_chooser.proofs.word.+has_part.Given as goal

abbrev pub decreases-has_part : goal.decreases-has_part
decreases-has_part l = goal.size-has_part l

abbrev pub invariant-loop-part : goal.invariant-loop-part
invariant-loop-part l = any_true (map (has_part l.word) l.part-items) ≡ any_true (map (has_part l.word) (drop l.part-index l.part-items))

abbrev pub invariant-loop-part-2 : goal.invariant-loop-part-2
invariant-loop-part-2 l = any_true (map (has_part l.word) l.part-items) ≡ any_true (map (has_part l.word) (drop l.part-index l.part-items))
