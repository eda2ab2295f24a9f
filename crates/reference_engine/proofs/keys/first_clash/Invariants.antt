use Rattle.std.proofs.Common.{◌≡◌, ◌++◌, map, take}
use Rattle.row_groups.specs.Numbers.{values_of}
use Rattle.reference_engine.proofs.keys.first_clash.Given as goal

abbrev pub invariant-loop-tuple : goal.invariant-loop-tuple
invariant-loop-tuple l = map (λ row. row.now) l.lent.items ≡ values_of l.rows ++ take l.tuple-index l.tuples
