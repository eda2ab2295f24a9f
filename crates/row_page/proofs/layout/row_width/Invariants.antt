use Rattle.std.proofs.Common.{◌≡◌, ◌≤◌, ◌+◌, ◌*◌, drop}
use Rattle.row_page.specs.Row.{row_width_of}
use Rattle.row_page.proofs.layout.row_width.Given as goal

abbrev pub invariant-loop-column : goal.invariant-loop-column
invariant-loop-column l =
    (l.width + row_width_of (drop l.column-index l.columns) ≡ row_width_of l.columns + 10) × (l.width ≤ 10 + 255 * l.column-index)
