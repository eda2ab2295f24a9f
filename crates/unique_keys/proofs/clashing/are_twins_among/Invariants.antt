use Rattle.std.proofs.Common.{◌≡◌, map, take}
use Rattle.unique_keys.proofs.clashing.are_twins_among.Given as goal

-- the values of the rows so far are lent
abbrev pub invariant-loop-values : goal.invariant-loop-values
invariant-loop-values l = map (λ row. row.now) l.lent.items ≡ map (λ values. values.now) (take l.values-index l.come)
