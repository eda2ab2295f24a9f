use Rattle.std.proofs.Common.{◌≡◌, ◌≤◌, ◌<◌, ◌+◌, ◌-◌, ℕ, false}
use Rattle.row_page.specs.RowPage.{is_slot_filled}
use Rattle.row_page.proofs.page_view.RowPageView.next_filled.Given as goal

-- the slots before this one are empty
abbrev pub invariant-loop-slot : goal.invariant-loop-slot
invariant-loop-slot l = record {
  from : l.fn.from ≤ l.slot;
  empty : (k : ℕ) → l.fn.from ≤ k → k < l.slot → is_slot_filled l.self.page.now k ≡ false;
}

abbrev pub decreases-loop-slot : goal.decreases-loop-slot
decreases-loop-slot l = l.self.layout.slots + 8 - l.slot
