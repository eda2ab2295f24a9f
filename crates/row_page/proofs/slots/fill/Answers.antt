-- The bit of the slot, and the count beside it.
use Rattle.std.proofs.Common.{◌∙◌, ◌+◌, ap, min, sym, arith}
use Rattle.row_page.proofs.SlotsLemmas.{TurnsSlot-on, TurnsSlot-itself}
use Rattle.row_page.proofs.slots.fill.Goals as goal

pub returns-then-not-is_filled : goal.returns-then-not-is_filled
returns-then-not-is_filled c =
    TurnsSlot-on c.args.slot c.args.page.now c.set_bit.new.page c.state_rows.new.page c.saturating_add.result (omega arith) c.requires
    (sym c.is_filled.ensures ∙ c.if-not-is_filled.true) c.set_bit.ensures c.state_rows.ensures
    (c.saturating_add.ensures ∙ ap (λ n. min (n + 1) 65535) c.rows_stated.ensures)

pub returns-else-not-is_filled : goal.returns-else-not-is_filled
returns-else-not-is_filled c = TurnsSlot-itself c.args.slot _ c.args.page.now (sym c.is_filled.ensures ∙ c.if-not-is_filled.false)
