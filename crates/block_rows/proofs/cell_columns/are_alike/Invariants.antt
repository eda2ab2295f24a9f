use Rattle.std.proofs.Common.{◌≡◌, take}
use Rattle.row_page.specs.Row.{row_in}
use Rattle.block_rows.specs.CellColumns.{places_of}
use Rattle.block_rows.specs.SeenRows.{values_at}
use Rattle.block_rows.proofs.cell_columns.are_alike.Given as goal

-- the values in the columns so far are the same
abbrev pub invariant-loop-column : goal.invariant-loop-column
invariant-loop-column l = record {
  same : values_at (places_of (take l.column-index l.columns)) (row_in l.shape.columns.now l.first).values ≡ values_at (places_of (take l.column-index l.columns)) (row_in l.shape.columns.now l.second).values;
}
