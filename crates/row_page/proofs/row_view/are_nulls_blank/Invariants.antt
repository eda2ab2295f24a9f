use Rattle.std.proofs.Common.{◌≡◌, ◌+◌, ◌↔◌, drop, length}
use Rattle.row_page.specs.Row.{AreNullsBlank, row_width_of}
use Rattle.row_page.proofs.row_view.are_nulls_blank.Given as goal

-- all nulls are blank where those of the columns that are left are
abbrev pub invariant-loop-column : goal.invariant-loop-column
invariant-loop-column l = record {
  left : AreNullsBlank (drop l.column-index l.columns) l.nulls (drop l.at l.bytes) ↔ AreNullsBlank l.columns l.fn.nulls (drop 10 l.bytes);
  room : l.at + row_width_of (drop l.column-index l.columns) ≡ length l.bytes + 10;
}
