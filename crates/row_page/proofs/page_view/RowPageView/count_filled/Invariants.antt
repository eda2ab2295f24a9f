use Rattle.std.proofs.Common.{◌≡◌, ◌≤◌}
use Rattle.mdc_words.specs.Listed.{listed}
use Rattle.row_page.specs.RowPage.{count_rows, slot_row}
use Rattle.row_page.proofs.page_view.RowPageView.count_filled.Given as goal

abbrev pub invariant-loop-slot : goal.invariant-loop-slot
invariant-loop-slot l = (l.count ≡ count_rows (listed l.slot (slot_row l.self.columns.now l.self.page.now))) × (l.count ≤ l.slot)
