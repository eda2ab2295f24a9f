use Rattle.std.proofs.Common.{◌≡◌, ◌<◌, ◌+◌, ◌-◌, ◌%◌, ℕ, true}
use Rattle.row_page.specs.RowPage.{is_slot_filled}
use Rattle.row_page.proofs.page_view.RowPageView.first_empty.Given as goal

-- the slots before this one, which begins a byte, are filled
abbrev pub invariant-loop-slot : goal.invariant-loop-slot
invariant-loop-slot l = record {
  first : l.slot % 8 ≡ 0;
  filled : (k : ℕ) → k < l.slot → is_slot_filled l.self.page.now k ≡ true;
}

abbrev pub decreases-loop-slot : goal.decreases-loop-slot
decreases-loop-slot l = l.self.layout.slots + 64 - l.slot
