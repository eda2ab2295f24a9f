use Rattle.std.proofs.Common.{◌<◌}
use Rattle.std.specs.List.{AllAdjacentBelow}
use Rattle.reference_reader.proofs.order.do_numbers_rise.Given as goal

-- the numbers rise so far
abbrev pub invariant-loop-i : goal.invariant-loop-i
invariant-loop-i l = AllAdjacentBelow (λ a b. a.number < b.number) l.rows l.i
