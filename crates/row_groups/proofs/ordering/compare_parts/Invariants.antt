use Rattle.std.proofs.Common.{◌≡◌, drop}
use Rattle.row_groups.specs.Ordering.{parts_order}
use Rattle.row_groups.proofs.ordering.compare_parts.Given as goal

abbrev pub invariant-loop-part : goal.invariant-loop-part
invariant-loop-part l = parts_order l.parts l.initial.a l.initial.b ≡ parts_order (drop l.part-index l.parts) l.a l.b
