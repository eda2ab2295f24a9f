use Rattle.predicate.proofs.PushedTests.{Between_whole}
use Rattle.predicate.proofs.comparing.between.Goals as goal

pub returns : goal.returns
returns c =
    Between_whole c.args.column c.args.negated c.op_if.result c.op_if-2.result c.args.low.now c.args.high.now
    c.in_ok-comparison_with.field-0 c.in_ok-comparison_with-2.field-0 c.new-parts.result c.push.new.self c.push-2.new.self c.joined.result
    c.op_if.ensures c.op_if-2.ensures c.in_ok-comparison_with.ensures c.in_ok-comparison_with-2.ensures
    c.new-parts.ensures c.in_ok-push.ensures.ok c.in_ok-push-2.ensures.ok c.joined.ensures
