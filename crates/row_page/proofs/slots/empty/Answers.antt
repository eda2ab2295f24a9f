-- The bit of the slot, and the count beside it.
use Rattle.std.proofs.Common.{◌∙◌, ◌-◌, ap, sym, arith}
use Rattle.row_page.proofs.SlotsLemmas.{TurnsSlot-off, TurnsSlot-itself}
use Rattle.row_page.proofs.slots.empty.Goals as goal

pub returns-then-is_filled : goal.returns-then-is_filled
returns-then-is_filled c =
    TurnsSlot-off c.args.slot c.args.page.now c.clear_bit.new.page c.state_rows.new.page c.saturating_sub.result (omega arith) c.requires
    (sym c.is_filled.ensures ∙ c.if-is_filled.true) c.clear_bit.ensures c.state_rows.ensures
    (c.saturating_sub.ensures ∙ ap (λ n. n - 1) c.rows_stated.ensures)

pub returns-else-is_filled : goal.returns-else-is_filled
returns-else-is_filled c = TurnsSlot-itself c.args.slot _ c.args.page.now (sym c.is_filled.ensures ∙ c.if-is_filled.false)
