use Rattle.rollout.proofs.CellRowsLemmas.{first_set}
use Rattle.rollout.proofs.cells.values_in.Goals as goal

pub loop-at-preserved : goal.loop-at-preserved
loop-at-preserved c =
    first_set c.args.columns.now c.args.places.now c.args.values.now c.loop-at.made c.set.new.self c.loop-at.at c.from.result c.index-values-at.result c.in_ok-value.value c.requires.one_each c.requires.there c.requires.fit c.loop-at-test.true
    c.index-values-at.is c.in_ok-value.ensures.ok c.from.ensures c.set.ensures c.loop-at.invariant
