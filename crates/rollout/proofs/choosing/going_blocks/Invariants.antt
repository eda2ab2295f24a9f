use Rattle.std.proofs.Common.{◌≡◌, take}
use Rattle.rollout.specs.GoingCells.{going_numbers}
use Rattle.rollout.proofs.choosing.going_blocks.Given as goal

-- the blocks of the first cells that go were taken
abbrev pub invariant-loop-at : goal.invariant-loop-at
invariant-loop-at l = l.numbers.items ≡ going_numbers (take l.at l.found) (take l.at l.going)
