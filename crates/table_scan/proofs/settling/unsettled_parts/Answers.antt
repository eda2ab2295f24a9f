use Rattle.table_scan.proofs.SettledLemmas.{left_in_more, left_out_more}
use Rattle.table_scan.proofs.settling.unsettled_parts.Goals as goal

pub loop-part-preserved-then-is_settled : goal.loop-part-preserved-then-is_settled
loop-part-preserved-then-is_settled c =
    left_out_more c.args.def.now c.args.parts.now c.loop-part.left c.loop-part.part-index c.part-item.result c.loop-part-test.true c.part-item.is c.loop-part.invariant
    (c.is_settled.ensures.settled c.if-is_settled.true)

pub loop-part-preserved : goal.loop-part-preserved
loop-part-preserved c =
    left_in_more c.args.def.now c.args.parts.now c.loop-part.left c.loop-part.part-index c.part-item.result c.loop-part-test.true c.part-item.is c.loop-part.invariant
    c.push.new.self c.in_ok-copy_of.field-0 c.in_ok-copy_of.ensures c.in_ok-push.ensures.ok
