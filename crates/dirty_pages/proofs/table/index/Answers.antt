use Rattle.std.proofs.Common.{◌≡◌, get_or, arith, ap}
use Rattle.dirty_pages.proofs.Order.{placed_next, IsIndexed-all}
use Rattle.dirty_pages.proofs.table.index.Goals as goal

pub loop-i-preserved : goal.loop-i-preserved
loop-i-preserved c = record {
  size = c.loop-i.invariant.size;
  placed =
      let here : c.index-pages-i.result ≡ get_or c.args.pages.now c.loop-i.i c.index-pages-i.result = c.index-pages-i.is in
      let entry = get_or c.args.pages.now c.loop-i.i c.index-pages-i.result in
      let below = c.requires.within c.loop-i.i c.index-pages-i.result (omega arith) in
      placed_next c.loop-i.places.items c.args.pages.now c.loop-i.i (get_or c.args.pages.now c.loop-i.i c.index-pages-i.result) c.requires.distinct c.loop-i.invariant.placed (omega arith)
      (ap (get_or c.args.pages.now c.loop-i.i) here) (omega (arith, below, c.loop-i.invariant.size, c.loop-i.places.ok.0));
}

pub returns : goal.returns
returns c = IsIndexed-all c.loop-i.places.items c.args.pages.now c.loop-i.i c.requires.distinct (omega arith) c.loop-i.invariant.placed
