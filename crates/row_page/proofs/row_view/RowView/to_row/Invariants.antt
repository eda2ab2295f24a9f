use Rattle.std.proofs.Common.{◌≡◌, ◌+◌, ◌++◌, drop, length}
use Rattle.row_page.specs.Row.{columns_values, nulls_in, row_width_of}
use Rattle.row_page.proofs.row_view.RowView.to_row.Given as goal

-- the values so far and those behind them are the row's
abbrev pub invariant-loop-column : goal.invariant-loop-column
invariant-loop-column l = record {
  values : l.values.items ++ columns_values (drop l.column-index l.column-items) l.nulls (drop l.at l.bytes) ≡ columns_values l.column-items (nulls_in l.bytes) (drop 10 l.bytes);
  room : l.at + row_width_of (drop l.column-index l.column-items) ≡ length l.bytes + 10;
}
