use Rattle.std.proofs.Common.{◌≡◌, ◌++◌}
use Rattle.mdc_words.specs.Listed.{listed}
use Rattle.row_page.specs.RowPage.{slot_row}
use Rattle.reference_reader.specs.ReadTables.{rows_in_slots}
use Rattle.reference_reader.proofs.block.push_rows.Given as goal

-- the rows of the slots so far came behind those that were there
abbrev pub invariant-loop-slot : goal.invariant-loop-slot
invariant-loop-slot l = l.rows.items ≡ l.fn.rows.items ++ rows_in_slots (listed l.slot (slot_row l.view.columns.now l.view.page.now))
