use Rattle.std.proofs.Common.{◌≡◌, length}
use Rattle.row_page.specs.Row.{row_in}
use Rattle.row_filter.proofs.ReadingLemmas.{GoesOn}
use Rattle.row_filter.proofs.reading.+read_part.Given as goal

abbrev pub decreases-read_part : goal.decreases-read_part
decreases-read_part l = goal.size-read_part l

abbrev pub invariant-loop-part : goal.invariant-loop-part
invariant-loop-part l =
    (length l.values ≡ length l.fn.values) × GoesOn (row_in l.row.columns.now l.row.bytes.now).values l.part-items l.part-index l.fn.values l.values
