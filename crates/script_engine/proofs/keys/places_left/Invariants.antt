use Rattle.std.proofs.Common.{◌≡◌, map, take}
use Rattle.script_engine.proofs.keys.places_left.Given as goal

-- the places of the rows so far
abbrev pub invariant-loop-one : goal.invariant-loop-one
invariant-loop-one l = l.rids.items ≡ map (λ one. one.hit.rid) (take l.one-index l.turned)
