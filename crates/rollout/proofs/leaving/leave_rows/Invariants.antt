use Rattle.std.proofs.Common.{map, take}
use Rattle.block_rows.specs.HeldRows.{placed_row}
use Rattle.rollout.proofs.LeavingRowsLemmas.{IsLeaving}
use Rattle.rollout.proofs.leaving.leave_rows.Given as goal

-- the first rows have left
abbrev pub invariant-loop-hit : goal.invariant-loop-hit
invariant-loop-hit g l = IsLeaving g.P.Pages l.fn.shape l.fn.notes l.notes l.fn.pages l.pages l.fn.def (map placed_row l.fn.hits) (map placed_row (take l.hit-index l.fn.hits))
