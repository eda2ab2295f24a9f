use Rattle.entry_tree.proofs.ReadLeafLemmas.{read_spot}
use Rattle.entry_tree.proofs.ShownLemmas.{reads_leaf}
use Rattle.entry_tree.proofs.tree.Tree.read_leaf.Goals as goal

pub returns-clause-read : goal.returns-clause-read
returns-clause-read g c t h =
    read_spot _ t c.args.bound.now c.in_ok-spot.spot.page c.in_ok-spot.spot.at c.in_ok-spot.spot.there c.in_ok-spot.spot.low c.in_ok-spot.spot.high _ _ (c.in_ok-spot.ensures.found t h).spot
    (λ items e. c.in_ok-take_entries.ensures.taken items (c.in_ok-spot.ensures.lent items e)) c.fence_bound-leaf.ensures

pub returns-clause-seen : goal.returns-clause-seen
returns-clause-seen g c told = reads_leaf (c.in_ok-spot.ensures.seen told) (c.in_ok-spot.ensures.at_hand told) c.in_ok-take_entries.ensures.shown c.fence_bound-leaf.ensures
