use Rattle.rollout.proofs.CellRowsLemmas.{HasFirstValues}
use Rattle.rollout.proofs.cells.values_in.Given as goal

abbrev pub invariant-loop-at : goal.invariant-loop-at
invariant-loop-at l = HasFirstValues l.columns l.places l.values l.made l.at
