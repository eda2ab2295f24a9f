use Rattle.std.proofs.Common.{◌≡◌, take}
use Rattle.row_page.specs.Row.{row_in}
use Rattle.block_rows.specs.CellColumns.{places_of}
use Rattle.block_rows.specs.SeenRows.{values_at}
use Rattle.block_rows.proofs.cell_columns.is_in_cell.Given as goal

-- the values in the columns so far are those of the cell
abbrev pub invariant-loop-i : goal.invariant-loop-i
invariant-loop-i l = record { same : take l.i l.values ≡ values_at (places_of (take l.i l.columns)) (row_in l.shape.columns.now l.row).values }
