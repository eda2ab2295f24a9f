use Rattle.row_entries.proofs.EnteringLemmas.{IsEntering}
use Rattle.row_entries.proofs.entering.enter_chosen.Given as goal

abbrev pub invariant-loop-index : goal.invariant-loop-index
invariant-loop-index g l = IsEntering g.P.Pages l.fn.shape l.fn.notes l.notes l.fn.pages l.pages l.def l.row l.fn.rid l.chosen l.index
