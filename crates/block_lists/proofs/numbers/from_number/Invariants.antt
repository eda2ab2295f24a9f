use Rattle.std.proofs.Common.{◌≡◌, ◌≤◌, ℕ, length}
use Rattle.mdc_values.specs.Rising.{IsLower, IsRising}
use Rattle.block_lists.specs.Places.{has_number}
use Rattle.block_lists.proofs.numbers.from_number.Given as goal

abbrev pub invariant-loop-first : goal.invariant-loop-first
invariant-loop-first l = record {
  rises : IsRising IsLower l.left;
  same : (n : ℕ) → l.number ≤ n → has_number l.left n ≡ has_number l.list n;
}

abbrev pub decreases-loop-first : goal.decreases-loop-first
decreases-loop-first l = length l.left
