-- The bit of an empty slot is 0, so the byte has room for it.
use Rattle.std.proofs.Common.{◌+◌, ◌-◌, ◌/◌, ◌%◌, ◌^◌, ◌<◌, ap, arith, set, get_or}
use Rattle.row_page.proofs.BitsLemmas.{mask-sub, bit_added-lt, even_bit}
use Rattle.row_page.proofs.slots.set_bit.Goals as goal

pub overflow_add-page : goal.overflow_add-page
overflow_add-page c =
    let byte : get_or c.args.page.now (16 + c.args.slot / 8) 0 < 2 ^ 8 = omega (arith, c.ranges) in
    let less : get_or c.args.page.now (16 + c.args.slot / 8) 0 + 2 ^ (7 - c.args.slot % 8) < 2 ^ 8 =
    bit_added-lt _ (7 - c.args.slot % 8) 8 (omega arith) byte (even_bit _ c.requires.empty) in
    omega (arith, mask-sub (c.args.slot % 8) (omega arith))

pub returns : goal.returns
returns c = ap (λ m. set c.args.page.now (16 + c.args.slot / 8) (get_or c.args.page.now (16 + c.args.slot / 8) 0 + m)) (mask-sub (c.args.slot % 8) (omega arith))
