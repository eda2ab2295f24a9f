use Rattle.std.proofs.Common.{Some, ap, sym, ◌∙◌}
use Rattle.std.proofs.lemmas.Result.{IfOk-weaker}
use Rattle.store_api.proofs.RunsOverPagesLemmas.{runs_then}
use Rattle.entry_tree.specs.Spots.{fence_bound}
use Rattle.entry_tree.proofs.FirstLeafLemmas.{drop_none, drop_some, first_spot, second_spot}
use Rattle.entry_tree.proofs.HeldTreesLemmas.{nodes_same}
use Rattle.entry_tree.proofs.ShownLemmas.{sees_behind, sees_first, way_ends}
use Rattle.entry_tree.proofs.ReadLeafLemmas.{breaks_still, holds_still, tree_page_still}
use Rattle.entry_tree.proofs.first_leaf.first_leaf.Goals as goal

pub returns-then-holds_at-clause-first : goal.returns-then-holds_at-clause-first
returns-then-holds_at-clause-first g c t h =
    let b = c.in_ok-spot.ensures.found t h in
    first_spot t h b (λ none. absurd (drop_some b.spot.items c.in_ok-spot.spot.at ((c.holds_at.ensures.held b.spot.items (c.in_ok-spot.ensures.lent b.spot.items b.spot.leaf)).0 c.if-holds_at.true) none))

pub returns-in_default-clause-first : goal.returns-in_default-clause-first
returns-in_default-clause-first g c t h = first_spot t h (c.in_ok-spot.ensures.found t h) (λ none. ap fence_bound c.in_default.is)

pub returns-clause-first : goal.returns-clause-first
returns-clause-first g c =
    let steady = c.in_ok-spot.ensures.runs.works.steady in
    IfOk-weaker c.find_spot-2.result _ _
    (λ spot found t h.
    let b = c.in_ok-spot.ensures.found t h in
    second_spot t h b (drop_none b.spot.items c.in_ok-spot.spot.at c.holds_at.result (c.holds_at.ensures.held b.spot.items (c.in_ok-spot.ensures.lent b.spot.items b.spot.leaf)) c.if-holds_at.false) c.in-Some.is c.bytes.ensures
    (λ n. nodes_same c.args.tree.now.width (g.P.Pages.state c.args.pages.now) (g.P.Pages.state c.find_spot.new.pages) n steady.is_told c.find_spot.ensures.same) (found t (holds_still steady c.find_spot.ensures.same h)))
    c.find_spot-2.ensures.found

pub returns-clause-runs : goal.returns-clause-runs
returns-clause-runs g c =
    let steady = c.in_ok-spot.ensures.runs.works.steady in
    runs_then c.in_ok-spot.ensures.runs c.find_spot-2.ensures.runs (λ p there none. absurd none) (λ p is. tree_page_still p steady c.find_spot.ensures.same is)
    (λ damage b. breaks_still damage steady c.find_spot.ensures.same b)

pub returns-then-holds_at-clause-seen : goal.returns-then-holds_at-clause-seen
returns-then-holds_at-clause-seen g c told =
    let s = c.in_ok-spot.ensures.seen told in
    let hand = c.in_ok-spot.ensures.at_hand told in
    sees_first s (λ none. absurd (drop_some s.items c.in_ok-spot.spot.at ((c.holds_at.ensures.shown _ s.items hand (way_ends s.way).shown).0 c.if-holds_at.true) none))

pub returns-in_default-clause-seen : goal.returns-in_default-clause-seen
returns-in_default-clause-seen g c told = sees_first (c.in_ok-spot.ensures.seen told) (λ none. ap fence_bound c.in_default.is)

pub returns-clause-seen : goal.returns-clause-seen
returns-clause-seen g c =
    let steady = c.in_ok-spot.ensures.runs.works.steady in
    IfOk-weaker c.find_spot-2.result _ _
    (λ spot seen told.
    let s = c.in_ok-spot.ensures.seen told in
    let hand = c.in_ok-spot.ensures.at_hand told in
    sees_behind s (drop_none s.items c.in_ok-spot.spot.at c.holds_at.result (c.holds_at.ensures.shown _ s.items hand (way_ends s.way).shown) c.if-holds_at.false)
    (ap fence_bound c.in-Some.is ∙ ap Some (sym c.bytes.ensures)) c.find_spot.ensures.same (seen (steady.is_told ∙ told)))
    c.find_spot-2.ensures.seen
