use Rattle.std.proofs.Common.{◌≡◌, [], take}
use Rattle.rollout.specs.GoingCells.{going_numbers}
use Rattle.rollout.proofs.RollingLoopLemmas.{IsRollingTo}
use Rattle.rollout.proofs.rolling.roll_cells.Given as goal

-- the first cells were gone over, and no row went where none of them goes
abbrev pub invariant-loop-at : goal.invariant-loop-at
invariant-loop-at g l = record {
  so_far : IsRollingTo g.P.Pages l.fn.shape l.fn.notes l.notes l.fn.pages l.pages l.fn.def l.fn.found l.fn.going l.at l.rolled;
  some : l.rolled.rows ≡ 0 → going_numbers (take l.at l.fn.found) (take l.at l.fn.going) ≡ [];
}
