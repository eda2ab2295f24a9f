use Rattle.std.proofs.Common.{◌≡◌, length, drop, map}
use Rattle.mdc_ast.specs.Truth.{all_of, is_true, truth}
use Rattle.row_page.specs.Row.{row_in}
use Rattle.row_filter.proofs.judging.is_met.Given as goal

abbrev pub invariant-loop-part : goal.invariant-loop-part
invariant-loop-part l =
    let judge = truth (row_in l.row.columns.now l.row.bytes.now).values in
    (length l.values ≡ length l.fn.values) × (is_true (judge l.pred) ≡ is_true (all_of (map judge (drop l.part-index l.part-items))))
