use Rattle.row_entries.proofs.LeavingLemmas.{IsLeaving}
use Rattle.row_entries.proofs.leaving.leave_chosen.Given as goal

abbrev pub invariant-loop-index : goal.invariant-loop-index
invariant-loop-index g l = IsLeaving g.P.Pages l.fn.shape l.fn.notes l.notes l.fn.pages l.pages l.def l.row l.fn.rid l.chosen l.index
