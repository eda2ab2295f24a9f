use Rattle.std.proofs.Common.{◌<◌, ℕ, IsTrue}
use Rattle.row_page.specs.RowPage.{IsWrittenRow, is_slot_filled, slot_bytes}
use Rattle.row_page.proofs.page_view.RowPageView.are_rows_written.Given as goal

abbrev pub invariant-loop-slot : goal.invariant-loop-slot
invariant-loop-slot l = (k : ℕ) → k < l.slot → IsTrue (is_slot_filled l.self.page.now k) → IsWrittenRow l.self.columns.now (slot_bytes l.self.columns.now l.self.page.now k)
