use Rattle.std.proofs.Common.{◌≡◌, List, ℕ, take}
use Rattle.std.specs.List.{flat_map}
use Rattle.rollout.proofs.cells.cell_places.Given as goal

-- those of the dimensions so far
abbrev pub invariant-loop-dim : goal.invariant-loop-dim
invariant-loop-dim l = l.places.items ≡ flat_map (λ (dim : List ℕ). dim) (take l.dim-index l.dim-items)
