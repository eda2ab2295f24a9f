use Rattle.std.proofs.Common.{drop}
use Rattle.table_trees.specs.RowCells.{cell_places}
use Rattle.block_index.specs.Cells.{key_of_values}
use Rattle.block_index.proofs.CellsLemmas.{IsKeyedSo}
use Rattle.table_trees.proofs.TableTreesLemmas.{places_in}
use Rattle.block_index.proofs.keys.key_of_cell.Given as goal

abbrev pub invariant-loop-dim : goal.invariant-loop-dim
invariant-loop-dim l = IsKeyedSo l.def.columns (key_of_values l.def.columns (cell_places l.def) l.cell.values) (places_in (drop l.dim-index l.dim-items)) l.values l.key.items
