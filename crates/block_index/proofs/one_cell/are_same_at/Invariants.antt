use Rattle.std.proofs.Common.{drop}
use Rattle.block_index.proofs.SameValuesLemmas.{AreSameBut}
use Rattle.block_index.proofs.one_cell.are_same_at.Given as goal

abbrev pub invariant-loop-place : goal.invariant-loop-place
invariant-loop-place l = AreSameBut l.a l.b l.places (drop l.place-index l.place-items)
