use Rattle.std.proofs.Common.{◌≡◌, take}
use Rattle.row_page.specs.Row.{row_in}
use Rattle.block_rows.specs.CellColumns.{places_of}
use Rattle.block_rows.specs.SeenRows.{values_at}
use Rattle.block_rows.proofs.cell_columns.cell_of.Given as goal

-- the values in the columns so far are there
abbrev pub invariant-loop-column : goal.invariant-loop-column
invariant-loop-column l = record { values : l.values ≡ values_at (places_of (take l.column-index l.columns)) (row_in l.row.columns.now l.row.bytes.now).values }
