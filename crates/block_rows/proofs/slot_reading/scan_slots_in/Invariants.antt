use Rattle.std.proofs.Common.{◌≡◌, ◌≤◌, length, take}
use Rattle.block_rows.specs.ListedSlots.{SeesSlotsOfPage}
use Rattle.block_rows.proofs.slot_reading.scan_slots_in.Given as goal

-- the slots so far were looked at, the sink was given the rows in them that qualify, and no more of them have a row than there are
abbrev pub invariant-loop-slot : goal.invariant-loop-slot
invariant-loop-slot g l = record {
  sees : SeesSlotsOfPage g.K.RowSink l.shape.columns.now l.page l.first.block l.first.slot (take l.slot-index l.slots) l.initial.filter.pred.now l.initial.sink l.sink l.count;
  within : l.count ≤ l.slot-index;
  fits : g.K.RowSink.is_for l.shape.columns.now l.sink;
  pred : l.filter.pred.now ≡ l.initial.filter.pred.now;
  width : length l.filter.values ≡ length l.initial.filter.values;
}
