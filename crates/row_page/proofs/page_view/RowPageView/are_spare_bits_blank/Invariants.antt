use Rattle.std.proofs.Common.{◌≡◌, ◌≤◌, ◌<◌, ℕ, false}
use Rattle.row_page.specs.RowPage.{is_slot_filled, slot_count}
use Rattle.row_page.proofs.page_view.RowPageView.are_spare_bits_blank.Given as goal

abbrev pub invariant-loop-slot : goal.invariant-loop-slot
invariant-loop-slot l = (k : ℕ) → slot_count l.self.columns.now ≤ k → k < l.slot → is_slot_filled l.self.page.now k ≡ false
