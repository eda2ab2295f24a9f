use Rattle.std.proofs.Common.{drop}
use Rattle.block_index.specs.Cells.{cell_entries}
use Rattle.block_index.proofs.CellsLemmas.{AreListedSo}
use Rattle.block_index.proofs.entries.cell_entries.Given as goal

abbrev pub invariant-loop-dim : goal.invariant-loop-dim
invariant-loop-dim l = AreListedSo l.def.columns l.block (cell_entries l.def l.cell.values l.block) (drop l.dim-index l.dim-items) l.values l.entries.items
