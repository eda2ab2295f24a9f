use Rattle.std.proofs.Common.{◌≡◌, ◌+◌, ◌++◌, ◌≤◌, drop, length}
use Rattle.std.specs.Prelude.{flat_map}
use Rattle.cell_filter.specs.Cells.{value_in_cell}
use Rattle.cell_filter.proofs.cells.value_in_cell.Given as goal

abbrev pub invariant-loop-place : goal.invariant-loop-place
invariant-loop-place l =
    (value_in_cell (flat_map (λ dim. dim) l.fn.def.dims) l.fn.cell.values l.fn.column
    ≡ value_in_cell (drop l.place-index l.place-items ++ flat_map (λ dim. dim) (drop (l.dim-index + 1) l.dim-items)) (drop l.at l.cell.values) l.column)
    × (l.at ≤ length l.cell.values)

abbrev pub invariant-loop-dim : goal.invariant-loop-dim
invariant-loop-dim l =
    (value_in_cell (flat_map (λ dim. dim) l.fn.def.dims) l.fn.cell.values l.fn.column
    ≡ value_in_cell (flat_map (λ dim. dim) (drop l.dim-index l.dim-items)) (drop l.at l.cell.values) l.column)
    × (l.at ≤ length l.cell.values)
