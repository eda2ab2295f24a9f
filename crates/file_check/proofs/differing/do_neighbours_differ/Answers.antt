use Rattle.std.proofs.Common.{arith, sym, ◌∙◌}
use Rattle.file_check.proofs.DifferingLemmas.{equal_neighbours}
use Rattle.file_check.proofs.differing.do_neighbours_differ.Goals as goal

pub returns-then-eq-clause-equal : goal.returns-then-eq-clause-equal
returns-then-eq-clause-equal g c equal =
    equal_neighbours g.T.PartialEq.eq c.args.values.now c.loop-i.i c.index-values-i.result c.index-values-i-in-loop-i.result (omega arith) c.loop-i-test.true
    c.index-values-i.is c.index-values-i-in-loop-i.is (sym c.eq.ensures ∙ c.if-eq.true)
