use Rattle.std.proofs.Common.{◌≡◌, ◌==◌, List, ℕ, false, take}
use Rattle.std.specs.List.{list_any}
use Rattle.rollout.proofs.applying.is_dimension.Given as goal

-- none so far has the column
abbrev pub invariant-loop-dim : goal.invariant-loop-dim
invariant-loop-dim l = list_any (λ (dim : List ℕ). list_any (λ place. place == l.column) dim) (take l.dim-index l.dim-items) ≡ false
