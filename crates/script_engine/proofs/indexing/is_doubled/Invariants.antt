use Rattle.std.proofs.Common.{◌≡◌, map, take}
use Rattle.script_engine.proofs.indexing.is_doubled.Given as goal

-- the values so far are those of the hits so far
abbrev pub invariant-loop-hit : goal.invariant-loop-hit
invariant-loop-hit l = map (λ row. row.now) l.lent.items ≡ map (λ hit. hit.row.values) (take l.hit-index l.hits)
