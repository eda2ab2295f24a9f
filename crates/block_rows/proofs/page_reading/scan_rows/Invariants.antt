use Rattle.std.proofs.Common.{◌≡◌, ◌≤◌, ◌+◌, ◌-◌, ◌++◌, List, length, take}
use Rattle.std.specs.List.{AllByRecursion}
use Rattle.row_page.specs.RowPage.{rows_of, slot_count}
use Rattle.mdc_sound.specs.TableRows.{PlacedRow, rows_from_slot}
use Rattle.block_rows.specs.CellColumns.{places_of}
use Rattle.block_rows.specs.Giving.{WasGiven}
use Rattle.block_rows.specs.HeldRows.{HasReadValues, qualifying}
use Rattle.block_rows.specs.SeenRows.{HasMet, IsLastRow}
use Rattle.block_rows.proofs.page_reading.scan_rows.Given as goal

-- the rows of the slots so far were met, and the sink was given those that qualify
abbrev pub invariant-slots : goal.invariant-slots
invariant-slots g l = record {
  within : l.from ≤ slot_count l.shape.columns.now;
  given_rows : WasGiven g.K.RowSink l.initial.sink l.sink (qualifying l.initial.filter.pred.now (rows_from_slot l.first.block l.first.slot (take l.from (rows_of l.shape.columns.now l.page))));
  read : AllByRecursion (λ placed. HasReadValues l.shape.columns.now placed.row) (rows_from_slot l.first.block l.first.slot (take l.from (rows_of l.shape.columns.now l.page)));
  counted : l.met.rows ≡ l.initial.met.rows + length (rows_from_slot l.first.block l.first.slot (take l.from (rows_of l.shape.columns.now l.page)));
  few : l.met.rows ≤ l.first.slot + l.from;
  meets : (rows : List PlacedRow) → HasMet (places_of l.cells.columns.items) l.given l.initial.met rows
      → HasMet (places_of l.cells.columns.items) l.given l.met (rows ++ rows_from_slot l.first.block l.first.slot (take l.from (rows_of l.shape.columns.now l.page)));
  last : IsLastRow l.shape.columns.now (places_of l.cells.columns.items) l.given l.met.first l.met.in_cell l.last;
  fits : g.K.RowSink.is_for l.shape.columns.now l.sink;
  pred : l.filter.pred.now ≡ l.initial.filter.pred.now;
  width : length l.filter.values ≡ length l.initial.filter.values;
}

abbrev pub decreases-slots : goal.decreases-slots
decreases-slots g l = slot_count l.shape.columns.now - l.from
