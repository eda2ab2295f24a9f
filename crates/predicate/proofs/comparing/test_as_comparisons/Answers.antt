use Rattle.predicate.proofs.PushedTests.{Compare_whole}
use Rattle.predicate.proofs.comparing.test_as_comparisons.Goals as goal

pub returns-in_ok-right-in-Compare : goal.returns-in_ok-right-in-Compare
returns-in_ok-right-in-Compare c =
    Compare_whole c.args.column c.args.negated c.in-Compare.op c.op_if.result c.in-Compare.right c.in_ok-right-in-Compare.right c.args.test.now c.comparison.result
    c.in-Compare.is c.in_ok-right-in-Compare.ensures c.op_if.ensures c.comparison.ensures
