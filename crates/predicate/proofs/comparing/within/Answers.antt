use Rattle.predicate.proofs.PushedTests.{Within_whole}
use Rattle.predicate.proofs.comparing.within.Goals as goal

pub returns : goal.returns
returns c =
    Within_whole c.args.column c.args.negated c.op_if-op.result c.args.others.now c.loop-other.other-index c.loop-other.parts c.joined.result
    c.if-is_empty.ensures c.loop-other-test.false c.op_if-op.ensures c.loop-other.invariant c.joined.ensures
