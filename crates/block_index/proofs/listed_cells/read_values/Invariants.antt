use Rattle.block_index.proofs.ListedCellsLemmas.{ReadsPlaces}
use Rattle.block_index.proofs.listed_cells.read_values.Given as goal

abbrev pub invariant-loop-place : goal.invariant-loop-place
invariant-loop-place l = ReadsPlaces l.columns l.places l.place-items l.place-index l.bytes l.rest l.initial.values l.values
