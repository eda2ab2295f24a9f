-- One slot more, with a row or without.
use Rattle.std.proofs.Common.{◌∙◌, true, false, sym, arith}
use Rattle.row_page.proofs.RowPageLemmas.{count_rows-more}
use Rattle.row_page.proofs.page_view.RowPageView.count_filled.Goals as goal
use Rattle.row_page.proofs.page_view.RowPageView.count_filled.Goals.{then-is_filled, else-is_filled}

pub loop-slot-preserved : goal.loop-slot-preserved
loop-slot-preserved c = elim c.if-is_filled.branch [
  | then-is_filled w ↦ (
    w.count-is ∙ omega (arith, count_rows-more c.args.self.now.columns.now c.args.self.now.page.now c.loop-slot.slot true (sym c.is_filled.ensures ∙ w.if-is_filled.true), c.loop-slot.invariant.0),
    omega (arith, c.loop-slot.invariant.1, w.count-is),
  )
  | else-is_filled w ↦ (
    w.count-is ∙ omega (arith, count_rows-more c.args.self.now.columns.now c.args.self.now.page.now c.loop-slot.slot false (sym c.is_filled.ensures ∙ w.if-is_filled.false), c.loop-slot.invariant.0),
    omega (arith, c.loop-slot.invariant.1, w.count-is),
  )
]
