use Rattle.std.proofs.Common.{◌≡◌, map, take}
use Rattle.script_engine.proofs.keys.rows_lent.Given as goal

-- the values of the rows so far
abbrev pub invariant-loop-one : goal.invariant-loop-one
invariant-loop-one l = map (λ values. values.now) l.lent.items ≡ map (λ one. one.row.values) (take l.one-index l.turned)
