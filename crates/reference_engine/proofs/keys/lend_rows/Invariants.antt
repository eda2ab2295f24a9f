use Rattle.std.proofs.Common.{◌≡◌, ◌++◌, map, take}
use Rattle.row_groups.specs.Numbers.{values_of}
use Rattle.reference_engine.proofs.keys.lend_rows.Given as goal

abbrev pub invariant-loop-row : goal.invariant-loop-row
invariant-loop-row l = map (λ row. row.now) l.lent.items ≡ map (λ row. row.now) l.initial.lent.items ++ values_of (take l.row-index l.rows)
