use Rattle.mdc_values.proofs.OrderLemmas.{order_to_blanks_is}
use Rattle.mdc_values.proofs.order.place_to_blanks.Goals as goal

pub loop-byte-init : goal.loop-byte-init
loop-byte-init c = order_to_blanks_is c.args.text.now
