-- What the two texts share decides, and else what one of them has more.
use Rattle.std.proofs.Common.{arith, ap, sym, ◌∙◌}
use Rattle.mdc_values.specs.Order.{order_to_blanks}
use Rattle.mdc_values.proofs.OrderLemmas.{take_rest, text_order-longer, text_order-shorter, text_order-apart}
use Rattle.mdc_values.proofs.order.place_texts.Goals as goal

pub returns-in-Equal : goal.returns-in-Equal
returns-in-Equal c =
    c.place_to_blanks.ensures ∙ ap order_to_blanks (take_rest c.min-shared.result c.args.a.now)
    ∙ sym (text_order-longer c.min-shared.result c.args.a.now c.args.b.now (omega arith) (omega arith) (sym c.cmp.ensures ∙ c.in-Equal.is))

pub returns-in-Equal-2 : goal.returns-in-Equal-2
returns-in-Equal-2 c =
    let rest = take_rest c.min-shared.result c.args.b.now in
    let shorter = text_order-shorter c.min-shared.result c.args.a.now c.args.b.now (omega arith) (omega arith) (sym c.cmp.ensures ∙ c.in-Equal.is) in
    let blanks = rw rest at c.place_to_blanks-in-Equal-2.ensures in cc

pub returns-in_default : goal.returns-in_default
returns-in_default c =
    c.cmp.ensures ∙ sym (text_order-apart c.min-shared.result c.args.a.now c.args.b.now (omega arith) (omega arith) (λ e. c.in_default.not-Equal (c.cmp.ensures ∙ e)))
