use Rattle.std.proofs.Common.{drop}
use Rattle.table_trees.specs.RowCells.{cell_places}
use Rattle.table_trees.proofs.TableTreesLemmas.{places_in}
use Rattle.block_index.proofs.SameValuesLemmas.{AreSameBut}
use Rattle.block_index.proofs.one_cell.are_of_one_cell.Given as goal

abbrev pub invariant-loop-dim : goal.invariant-loop-dim
invariant-loop-dim l = AreSameBut l.a l.b (cell_places l.def) (places_in (drop l.dim-index l.dim-items))
