use Rattle.std.proofs.Common.{◌≡◌, take}
use Rattle.std.specs.List.{AllByRecursion, flat_map}
use Rattle.block_rows.specs.CellColumns.{IsCellColumn, places_of}
use Rattle.block_rows.proofs.cell_columns.CellColumns.of.Given as goal

-- the columns of the dimensions so far are there
abbrev pub invariant-loop-dim : goal.invariant-loop-dim
invariant-loop-dim l = record {
  places : places_of l.columns.items ≡ flat_map (λ dim. dim) (take l.dim-index l.def.dims);
  columns : AllByRecursion (IsCellColumn l.def.columns) l.columns.items;
}
