use Rattle.std.proofs.Common.{length, ◌<◌}
use Rattle.entry_tree.proofs.LeafSpotsLemmas.{last_holds, none_left, seen_spot}
use Rattle.entry_tree.proofs.leaf_spot.leaf_spot.Goals as goal

pub returns-clause-seen : goal.returns-clause-seen
returns-clause-seen g c t h =
    seen_spot _ c.args.tree.now.root t c.args.entry.now c.in_ok-way.way.path.items c.pop-parent.new.self.items c.in_ok-way.way.page c.in_ok-way.way.at c.in_ok-way.way.there c.pop-parent.result
    h.is_tree (c.in_ok-way.ensures.found t h).0 c.pop-parent.ensures.items (none_left c.in_ok-way.way.path.items c.pop-parent.result c.pop-parent.ensures.variant)

pub returns-clause-parent : goal.returns-clause-parent
returns-clause-parent g c =
    last_holds (λ place. place.0 < length (g.P.Pages.state c.args.pages.now).work) c.in_ok-way.way.path.items c.pop-parent.new.self.items c.pop-parent.result c.pop-parent.ensures.items c.in_ok-way.ensures.path

pub returns-clause-shown : goal.returns-clause-shown
returns-clause-shown g c told = let s = c.in_ok-way.ensures.seen told in (s.next, s.seen)
