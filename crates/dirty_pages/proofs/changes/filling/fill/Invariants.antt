use Rattle.std.proofs.Common.{◌≡◌, ◌≤◌, ◌<◌, ℕ}
use Rattle.std.specs.Prelude.{IsSome}
use Rattle.dirty_pages.specs.ChangesView.{written_over, or_grown}
use Rattle.dirty_pages.proofs.changes.filling.fill.Given as goal

-- the pages before this one are there, and all are as they were, or zeros from the first number on
abbrev pub invariant-loop-p : goal.invariant-loop-p
invariant-loop-p l = record {
  reached : l.from ≤ l.p;
  zeros : (q : ℕ) → or_grown l.from (written_over l.table) q ≡ or_grown l.from (written_over l.initial.table) q;
  below : (q : ℕ) → q < l.from → written_over l.table q ≡ written_over l.initial.table q;
  behind : (q : ℕ) → l.p ≤ q → written_over l.table q ≡ written_over l.initial.table q;
  filled : (q : ℕ) → l.from ≤ q → q < l.p → IsSome (written_over l.table q);
}
