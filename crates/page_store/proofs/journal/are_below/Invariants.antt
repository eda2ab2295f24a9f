-- All images so far are of pages below.
use Rattle.std.proofs.Common.{ℕ, ◌<◌, List, get_or}
use Rattle.page_store.proofs.journal.are_below.Given as goal

abbrev pub invariant-loop-i : goal.invariant-loop-i
invariant-loop-i l = (k : ℕ) (d : ℕ × List ℕ) → k < l.i → (get_or l.images k d).0 < l.count
