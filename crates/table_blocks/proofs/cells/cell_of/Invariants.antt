use Rattle.std.proofs.Common.{drop}
use Rattle.table_trees.specs.RowCells.{cell_values}
use Rattle.table_trees.proofs.TableTreesLemmas.{places_in}
use Rattle.table_blocks.proofs.CopiedCellsLemmas.{IsCopiedSo}
use Rattle.table_blocks.proofs.cells.cell_of.Given as goal

abbrev pub invariant-loop-dim : goal.invariant-loop-dim
invariant-loop-dim l = IsCopiedSo l.def.columns l.values (cell_values l.def l.values) (places_in (drop l.dim-index l.dim-items)) l.cell.items
