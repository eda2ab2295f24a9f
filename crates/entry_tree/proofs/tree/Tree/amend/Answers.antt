use Rattle.std.proofs.Common.{◌∙◌, None}
use Rattle.store_api.specs.RunsOverPages.{RunsOverPages}
use Rattle.store_api.proofs.RunsOverPagesLemmas.{runs_exit, runs_then, runs_wider}
use Rattle.store_api.proofs.WorksLemmas.{steady_then}
use Rattle.entry_tree.specs.HeldTrees.{BreaksTree, IsTreePage}
use Rattle.entry_tree.proofs.AmendedLemmas.{amends_there, breaks_moved, breaks_slot, has_behind, holds_back, is_there, leaf_meanwhile, meanwhile, moved_page, not_false, not_there, not_true, spot_page}
use Rattle.entry_tree.proofs.ShownLemmas.{leaf_whether}
use Rattle.entry_tree.proofs.ReadLeafLemmas.{breaks_still, tree_page_still}
use Rattle.entry_tree.proofs.tree.Tree.amend.Goals as goal

pub returns-then-not-spot-clause-amended : goal.returns-then-not-spot-clause-amended
returns-then-not-spot-clause-amended g c t h =
    (c.find_spot.ensures.same, not_there t c.args.old.now _ _ _ _ _ h (c.in_ok-spot.ensures.found t h).spot (not_true c.in_ok-spot.spot.there c.if-not-spot.true))

pub moved_fence-requires-clause-behind : goal.moved_fence-requires-clause-behind
moved_fence-requires-clause-behind g c t h =
    let back = holds_back c.in_ok-spot.ensures.runs.works.steady c.find_spot.ensures.same h in
    has_behind t c.args.old.now _ _ _ _ _ back (c.in_ok-spot.ensures.found t back).spot

pub returns-in_err-moved-clause-runs : goal.returns-in_err-moved-clause-runs
returns-in_err-moved-clause-runs g c =
    let steady = c.in_ok-spot.ensures.runs.works.steady in
    let same = c.find_spot.ensures.same in
    runs_exit c.from_residual-in_err-moved.result c.from_residual-in_err-moved.ensures.1
    (runs_wider (runs_then c.in_ok-spot.ensures.runs c.in_err-moved.ensures.runs (λ p there none. absurd none) (λ p is. tree_page_still p steady same is) (λ d b. breaks_still d steady same b))
    (λ p there none. absurd none) (λ p is. is) (λ d b. b))

pub returns-in_err-set_moved-clause-runs : goal.returns-in_err-set_moved-clause-runs
returns-in_err-set_moved-clause-runs g c =
    let steady = c.in_ok-spot.ensures.runs.works.steady in
    let same = c.find_spot.ensures.same in
    let steady2 = steady_then steady c.in_ok-moved.ensures.runs.works.steady in
    let same2 = c.moved_fence.ensures.same ∙ same in
    let spot = c.in_ok-spot.spot in
    let start : RunsOverPages g.P.Pages (IsTreePage g.P.Pages c.args.pages.now c.args.self.now) (IsTreePage g.P.Pages c.args.pages.now c.args.self.now) (BreaksTree g.P.Pages c.args.pages.now c.args.self.now) c.args.pages.now c.moved_fence.new.pages None =
    runs_wider (runs_then c.in_ok-spot.ensures.runs c.in_ok-moved.ensures.runs (λ p there none. absurd none) (λ p is. tree_page_still p steady same is) (λ d b. breaks_still d steady same b))
    (λ p there none. absurd none) (λ p is. is) (λ d b. b) in
    runs_exit c.from_residual-in_err-set_moved.result c.from_residual-in_err-set_moved.ensures.1
    (runs_then start c.in_err-set_moved.ensures.runs
    (λ p there is. moved_page c.find_spot.new.pages c.args.old.now c.args.new.now spot.page spot.at spot.there spot.low spot.high c.in_ok-moved.moved p (λ t h. (c.in_ok-spot.ensures.found t h).spot) c.in_ok-moved.ensures.room is)
    (λ p is. moved_page c.find_spot.new.pages c.args.old.now c.args.new.now spot.page spot.at spot.there spot.low spot.high c.in_ok-moved.moved p (λ t h. (c.in_ok-spot.ensures.found t h).spot) c.in_ok-moved.ensures.room is)
    (λ d b. breaks_moved c.find_spot.new.pages c.args.old.now c.args.new.now spot.page spot.at spot.there spot.low spot.high c.in_ok-moved.moved d (λ t h. (c.in_ok-spot.ensures.found t h).spot) c.in_ok-moved.ensures.room steady2 same2 b))

pub returns-in_err-set_at-clause-runs : goal.returns-in_err-set_at-clause-runs
returns-in_err-set_at-clause-runs g c =
    let steady = c.in_ok-spot.ensures.runs.works.steady in
    let same = c.find_spot.ensures.same in
    let steady2 = steady_then steady c.in_ok-moved.ensures.runs.works.steady in
    let same2 = c.moved_fence.ensures.same ∙ same in
    let spot = c.in_ok-spot.spot in
    let there = not_false spot.there c.if-not-spot.false in
    let start : RunsOverPages g.P.Pages (IsTreePage g.P.Pages c.args.pages.now c.args.self.now) (IsTreePage g.P.Pages c.args.pages.now c.args.self.now) (BreaksTree g.P.Pages c.args.pages.now c.args.self.now) c.args.pages.now c.moved_fence.new.pages None =
    runs_wider (runs_then c.in_ok-spot.ensures.runs c.in_ok-moved.ensures.runs (λ p there none. absurd none) (λ p is. tree_page_still p steady same is) (λ d b. breaks_still d steady same b))
    (λ p there none. absurd none) (λ p is. is) (λ d b. b) in
    let moved = runs_then start c.in_ok-set_moved.ensures.runs
    (λ p there is. moved_page c.find_spot.new.pages c.args.old.now c.args.new.now spot.page spot.at spot.there spot.low spot.high c.in_ok-moved.moved p (λ t h. (c.in_ok-spot.ensures.found t h).spot) c.in_ok-moved.ensures.room is)
    (λ p is. moved_page c.find_spot.new.pages c.args.old.now c.args.new.now spot.page spot.at spot.there spot.low spot.high c.in_ok-moved.moved p (λ t h. (c.in_ok-spot.ensures.found t h).spot) c.in_ok-moved.ensures.room is)
    (λ d b. breaks_moved c.find_spot.new.pages c.args.old.now c.args.new.now spot.page spot.at spot.there spot.low spot.high c.in_ok-moved.moved d (λ t h. (c.in_ok-spot.ensures.found t h).spot) c.in_ok-moved.ensures.room steady2 same2 b) in
    runs_exit c.from_residual-in_err-set_at.result c.from_residual-in_err-set_at.ensures.1
    (runs_then moved c.in_err-set_at.ensures.runs
    (λ p within is. spot_page c.args.old.now spot.page spot.at spot.there spot.low spot.high p (λ t h. (c.in_ok-spot.ensures.found t h).spot) is)
    (λ p is. spot_page c.args.old.now spot.page spot.at spot.there spot.low spot.high p (λ t h. (c.in_ok-spot.ensures.found t h).spot) is)
    (λ d b. breaks_slot c.args.old.now spot.page spot.at spot.there spot.low spot.high d
    (λ t h. (
      (c.in_ok-spot.ensures.found t h).spot,
      leaf_meanwhile c.find_spot.new.pages t c.args.old.now c.args.new.now spot.page spot.at spot.there spot.low spot.high c.in_ok-moved.moved h (c.in_ok-spot.ensures.found t h).spot
          c.in_ok-moved.ensures.room steady2 same2 c.in_ok-set_moved.ensures.sets c.in_ok-set_moved.ensures.runs c.set_moved.ensures.count,
    ))
    there b))

pub returns-clause-amended : goal.returns-clause-amended
returns-clause-amended g c t h =
    let steady = c.in_ok-spot.ensures.runs.works.steady in
    let same = c.find_spot.ensures.same in
    let steady2 = steady_then steady c.in_ok-moved.ensures.runs.works.steady in
    let same2 = c.moved_fence.ensures.same ∙ same in
    let spot = c.in_ok-spot.spot in
    let there = not_false spot.there c.if-not-spot.false in
    let k = (c.in_ok-spot.ensures.found t h).spot in (
      is_there t c.args.old.now spot.page spot.at spot.there spot.low spot.high h k there,
      λ alone.
          let roomy = meanwhile c.find_spot.new.pages t c.args.old.now c.args.new.now spot.page spot.at spot.there spot.low spot.high c.in_ok-moved.moved h k there alone c.requires.alike
          steady same c.in_ok-moved.ensures.room steady2 same2 c.in_ok-set_moved.ensures.sets c.in_ok-set_moved.ensures.runs c.set_moved.ensures.count in
          amends_there t c.args.old.now c.args.new.now spot.page spot.at spot.there spot.low spot.high h k there alone c.requires.alike roomy c.in_ok-set_at.ensures.sets c.in_ok-set_at.ensures.runs c.set_at.ensures.count,
    )

pub returns-clause-runs : goal.returns-clause-runs
returns-clause-runs g c =
    let steady = c.in_ok-spot.ensures.runs.works.steady in
    let same = c.find_spot.ensures.same in
    let steady2 = steady_then steady c.in_ok-moved.ensures.runs.works.steady in
    let same2 = c.moved_fence.ensures.same ∙ same in
    let spot = c.in_ok-spot.spot in
    let there = not_false spot.there c.if-not-spot.false in
    let start : RunsOverPages g.P.Pages (IsTreePage g.P.Pages c.args.pages.now c.args.self.now) (IsTreePage g.P.Pages c.args.pages.now c.args.self.now) (BreaksTree g.P.Pages c.args.pages.now c.args.self.now) c.args.pages.now c.moved_fence.new.pages None =
    runs_wider (runs_then c.in_ok-spot.ensures.runs c.in_ok-moved.ensures.runs (λ p there none. absurd none) (λ p is. tree_page_still p steady same is) (λ d b. breaks_still d steady same b))
    (λ p there none. absurd none) (λ p is. is) (λ d b. b) in
    let moved = runs_then start c.in_ok-set_moved.ensures.runs
    (λ p there is. moved_page c.find_spot.new.pages c.args.old.now c.args.new.now spot.page spot.at spot.there spot.low spot.high c.in_ok-moved.moved p (λ t h. (c.in_ok-spot.ensures.found t h).spot) c.in_ok-moved.ensures.room is)
    (λ p is. moved_page c.find_spot.new.pages c.args.old.now c.args.new.now spot.page spot.at spot.there spot.low spot.high c.in_ok-moved.moved p (λ t h. (c.in_ok-spot.ensures.found t h).spot) c.in_ok-moved.ensures.room is)
    (λ d b. breaks_moved c.find_spot.new.pages c.args.old.now c.args.new.now spot.page spot.at spot.there spot.low spot.high c.in_ok-moved.moved d (λ t h. (c.in_ok-spot.ensures.found t h).spot) c.in_ok-moved.ensures.room steady2 same2 b) in
    runs_then moved c.in_ok-set_at.ensures.runs
    (λ p within is. spot_page c.args.old.now spot.page spot.at spot.there spot.low spot.high p (λ t h. (c.in_ok-spot.ensures.found t h).spot) is)
    (λ p is. spot_page c.args.old.now spot.page spot.at spot.there spot.low spot.high p (λ t h. (c.in_ok-spot.ensures.found t h).spot) is)
    (λ d b. breaks_slot c.args.old.now spot.page spot.at spot.there spot.low spot.high d
    (λ t h. (
      (c.in_ok-spot.ensures.found t h).spot,
      leaf_meanwhile c.find_spot.new.pages t c.args.old.now c.args.new.now spot.page spot.at spot.there spot.low spot.high c.in_ok-moved.moved h (c.in_ok-spot.ensures.found t h).spot
          c.in_ok-moved.ensures.room steady2 same2 c.in_ok-set_moved.ensures.sets c.in_ok-set_moved.ensures.runs c.set_moved.ensures.count,
    ))
    there b)

pub returns-then-not-spot-clause-seen : goal.returns-then-not-spot-clause-seen
returns-then-not-spot-clause-seen g c told = leaf_whether (c.in_ok-spot.ensures.seen told) (not_true c.in_ok-spot.spot.there c.if-not-spot.true)

pub returns-clause-seen : goal.returns-clause-seen
returns-clause-seen g c told = leaf_whether (c.in_ok-spot.ensures.seen told) (not_false c.in_ok-spot.spot.there c.if-not-spot.false)
