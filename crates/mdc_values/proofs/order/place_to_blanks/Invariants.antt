use Rattle.std.proofs.Common.{◌≡◌, drop}
use Rattle.mdc_values.specs.Order.{order_to_blanks}
use Rattle.mdc_values.proofs.OrderLemmas.{blanks_order}
use Rattle.mdc_values.proofs.order.place_to_blanks.Given as goal

abbrev pub invariant-loop-byte : goal.invariant-loop-byte
invariant-loop-byte l = order_to_blanks l.text ≡ blanks_order (drop l.byte-index l.text)
