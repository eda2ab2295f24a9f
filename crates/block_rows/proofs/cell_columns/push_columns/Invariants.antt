use Rattle.std.proofs.Common.{◌≡◌, ◌++◌, take}
use Rattle.std.specs.List.{AllByRecursion}
use Rattle.block_rows.specs.CellColumns.{IsCellColumn, places_of}
use Rattle.block_rows.proofs.cell_columns.push_columns.Given as goal

-- the columns in the places so far are there, behind those that were
abbrev pub invariant-loop-place : goal.invariant-loop-place
invariant-loop-place l = record {
  places : places_of l.made.items ≡ places_of l.initial.made.items ++ take l.place-index l.places;
  columns : AllByRecursion (IsCellColumn l.columns) l.initial.made.items → AllByRecursion (IsCellColumn l.columns) l.made.items;
}
