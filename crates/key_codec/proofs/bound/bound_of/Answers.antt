use Rattle.key_codec.proofs.EdgeLemmas.{ascending_bound, descending_bound, short_bound, short_turned_bound}
use Rattle.key_codec.proofs.bound.bound_of.Goals as goal

pub returns-then-descending : goal.returns-then-descending
returns-then-descending c = record {
  bound = descending_bound c.args.ty c.args.descending c.args.cut.now c.in_ok-edge.edge.front.items c.turned.result.front.items c.in_ok-edge.edge.behind c.turned.result.behind c.bound.result
      c.if-descending.true c.in_ok-edge.ensures c.turned.ensures.front c.turned.ensures.behind c.bound.ensures;
  short = short_turned_bound c.args.ty c.in_ok-edge.edge.front.items c.turned.result.front.items c.turned.result.behind c.bound.result
      c.in_ok-edge.ensures.short c.turned.ensures.front c.bound.ensures;
}

pub returns : goal.returns
returns c = record {
  bound = ascending_bound c.args.ty c.args.descending c.args.cut.now c.in_ok-edge.edge.front.items c.in_ok-edge.edge.behind c.bound-2.result
      c.if-descending.false c.in_ok-edge.ensures c.bound-2.ensures;
  short = short_bound c.args.ty c.in_ok-edge.edge.front.items c.in_ok-edge.edge.behind c.bound-2.result c.in_ok-edge.ensures.short c.bound-2.ensures;
}
