use Rattle.std.proofs.Common.{arith}
use Rattle.key_codec.proofs.EdgeLemmas.{behind_front-less, behind_front-raised}
use Rattle.key_codec.proofs.edge.behind_front.Goals as goal
use Rattle.key_codec.proofs.edge.behind_front.Goals.{then-loop-end-test+else-index, else-loop-end-test}

pub loop-end-preserved : goal.loop-end-preserved
loop-end-preserved c =
    behind_front-less c.args.front.items c.loop-end.end c.index.result.now c.loop-end-test.true c.loop-end.invariant.0 c.index.ensures c.if-index.true c.loop-end.invariant.1

pub returns : goal.returns
returns c = elim c.loop-end-test.branch [
  | then-loop-end-test+else-index w ↦
      behind_front-raised c.args.front.items c.truncate.new.self.items c.from_vec.result c.loop-end.end w.index.result.now c.index_mut.result.now
      c.if-end-eq0.false c.loop-end.invariant.0 c.loop-end.invariant.1 c.truncate.ensures.items
      w.index.ensures w.if-index.false c.index_mut.ensures.value c.from_vec.ensures
  | else-loop-end-test w ↦ absurd (c.if-end-eq0.false (omega (arith, w.loop-end-test.false)))
]
