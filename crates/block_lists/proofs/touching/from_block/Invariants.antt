use Rattle.std.proofs.Common.{◌≡◌, ◌≤◌, ℕ, length}
use Rattle.mdc_values.specs.Rising.{IsEarlier, IsRising}
use Rattle.block_lists.specs.Places.{in_block}
use Rattle.block_lists.proofs.touching.from_block.Given as goal

abbrev pub invariant-loop-first : goal.invariant-loop-first
invariant-loop-first l = record {
  rises : IsRising IsEarlier l.left;
  same : (n : ℕ) → l.block ≤ n → in_block l.left n ≡ in_block l.list n;
}

abbrev pub decreases-loop-first : goal.decreases-loop-first
decreases-loop-first l = length l.left
