-- The bit of a filled slot is 1, so the byte has it to give.
use Rattle.std.proofs.Common.{◌+◌, ◌-◌, ◌/◌, ◌%◌, ◌^◌, ◌≤◌, ap, arith, set, get_or}
use Rattle.row_page.proofs.BitsLemmas.{mask-sub, bit-le, odd_bit}
use Rattle.row_page.proofs.slots.clear_bit.Goals as goal

pub overflow_sub-page : goal.overflow_sub-page
overflow_sub-page c =
    let less : 2 ^ (7 - c.args.slot % 8) ≤ get_or c.args.page.now (16 + c.args.slot / 8) 0 = bit-le _ (7 - c.args.slot % 8) (odd_bit _ c.requires.filled) in
    omega (arith, mask-sub (c.args.slot % 8) (omega arith))

pub returns : goal.returns
returns c = ap (λ m. set c.args.page.now (16 + c.args.slot / 8) (get_or c.args.page.now (16 + c.args.slot / 8) 0 - m)) (mask-sub (c.args.slot % 8) (omega arith))
