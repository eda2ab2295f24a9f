use Rattle.block_index.proofs.ListedCellsLemmas.{ReadsDims}
use Rattle.block_index.proofs.listed_cells.read_cell.Given as goal

abbrev pub invariant-loop-dim : goal.invariant-loop-dim
invariant-loop-dim l = ReadsDims l.def.columns l.def.dims l.dim-items l.dim-index l.entry l.rest l.values
