use Rattle.std.proofs.Common.{◌≡◌, length}
use Rattle.mdc_values.specs.declared.rid.Rid.{Rid}
use Rattle.mdc_values.specs.Rising.{IsEarlier, IsRising}
use Rattle.block_lists.specs.Places.{has_rid}
use Rattle.block_lists.proofs.places.from_rid.Given as goal

abbrev pub invariant-loop-first : goal.invariant-loop-first
invariant-loop-first l = record {
  rises : IsRising IsEarlier l.left;
  same : (other : Rid) → (IsEarlier other l.rid → ⊥) → has_rid l.left other ≡ has_rid l.list other;
}

abbrev pub decreases-loop-first : goal.decreases-loop-first
decreases-loop-first l = length l.left
