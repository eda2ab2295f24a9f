use Rattle.std.proofs.Common.{◌≤◌, ◌<◌, ◌+◌, ℕ, List, slice_index_or, Box}
use Rattle.std.specs.declared.alloc.Global.{Global}
use Rattle.dirty_pages.proofs.table.PageTable.is_rising.Given as goal

-- each number so far is below the next
abbrev pub invariant-loop-i : goal.invariant-loop-i
invariant-loop-i l = record {
  from_one : 1 ≤ l.i;
  rising : (k : ℕ) (d : ℕ × Box (List ℕ) Global) → k + 1 < l.i → (slice_index_or l.self-inside.pages.items k d).0 < (slice_index_or l.self-inside.pages.items (k + 1) d).0;
}
