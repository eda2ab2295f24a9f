use Rattle.std.proofs.Common.{◌-◌, arith}
use Rattle.reference_reader.proofs.RowNumbersLemmas.{fall_at}
use Rattle.reference_reader.proofs.order.do_numbers_rise.Goals as goal

pub returns-then-rows-i-clause-fall : goal.returns-then-rows-i-clause-fall
returns-then-rows-i-clause-fall c fall =
    (c.loop-i.i - 1, fall_at c.args.rows.now c.loop-i.i c.index-rows-i.result c.index-rows-i-in-loop-i.result (omega arith) (omega arith) c.if-rows-i.true)
