use Rattle.std.proofs.Common.{ℕ, List, take}
use Rattle.std.specs.Prelude.{Contains}
use Rattle.table_scan.proofs.settling.is_of_cells.Given as goal

-- no dimension so far has the column
abbrev pub invariant-loop-dim : goal.invariant-loop-dim
invariant-loop-dim l = (dim : List ℕ) → Contains (take l.dim-index l.dim-items) dim → Contains dim l.column → ⊥
