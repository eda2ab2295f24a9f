use Rattle.std.proofs.Common.{◌≡◌, ℕ, length}
use Rattle.std.specs.Prelude.{IsSome}
use Rattle.dirty_pages.specs.ChangesView.{written_over, written_before}
use Rattle.dirty_pages.proofs.changes.going_back.put_back.Given as goal

abbrev pub decreases-loop-p : goal.decreases-loop-p
decreases-loop-p l = length l.saved

-- each page, as saved or as it is, is as at the start
abbrev pub invariant-loop-p : goal.invariant-loop-p
invariant-loop-p l = record {
  over : (p : ℕ) → IsSome (written_over l.saved p) → IsSome (written_over l.table p);
  same : (p : ℕ) → written_before l.saved l.table p ≡ written_before l.initial.saved l.initial.table p;
}
