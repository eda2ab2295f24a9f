use Rattle.std.proofs.Common.{ℕ, ◌<◌, get_or}
use Rattle.block_rows.specs.declared.hit.Hit.{Hit}
use Rattle.table_trees.specs.RowCells.{AreOfOneCell}
use Rattle.file_check.proofs.cells.do_rows_share_cell.Given as goal

-- the rows so far are of the cell of the first
abbrev pub invariant-loop-place : goal.invariant-loop-place
invariant-loop-place l = (i : ℕ) → i < l.place → (d : Hit) → AreOfOneCell l.def (get_or l.rows 0 d).row.values (get_or l.rows i d).row.values
