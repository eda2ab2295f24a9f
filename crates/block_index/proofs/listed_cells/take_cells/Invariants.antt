use Rattle.block_index.proofs.ListedCellsLemmas.{ReadsEntries}
use Rattle.block_index.proofs.listed_cells.take_cells.Given as goal

abbrev pub invariant-loop-i : goal.invariant-loop-i
invariant-loop-i l = ReadsEntries l.def l.entries l.i l.initial.found l.found
