use Rattle.std.proofs.Common.{◌≡◌, map, take}
use Rattle.mdc_ast.specs.Truth.{value_at}
use Rattle.row_groups.proofs.line_so_far.sorts_of.Given as goal

abbrev pub invariant-loop-part : goal.invariant-loop-part
invariant-loop-part l = l.sorts ≡ map (λ part. value_at l.values part.column) (take l.part-index l.part-items)
