use Rattle.std.proofs.Common.{ℕ, None, subst, sym}
use Rattle.store_api.specs.RunsOverPages.{RunsOverPages}
use Rattle.store_api.proofs.RunsOverPagesLemmas.{runs_exit, runs_on, runs_then, runs_wider}
use Rattle.entry_tree.specs.Pruning.{BreaksTreeOrReturn, IsTreeOrMapPage}
use Rattle.entry_tree.specs.Shown.{SeesSwept}
use Rattle.entry_tree.specs.Sweeping.{SweepsLeaf}
use Rattle.entry_tree.proofs.HeldTreesLemmas.{nodes_same}
use Rattle.entry_tree.proofs.RemoveLemmas.{breaks_held, breaks_same, held_same, page_same, stands_same, tree_page}
use Rattle.entry_tree.proofs.SweepingLemmas.{spot_same, sweeps_first}
use Rattle.entry_tree.proofs.tree.Tree.sweep_leaf.Goals as goal

pub returns-in_err-spot-clause-runs : goal.returns-in_err-spot-clause-runs
returns-in_err-spot-clause-runs g c =
    runs_exit c.from_residual.result c.from_residual.ensures.1
    (runs_wider c.in_err-spot.ensures.runs (λ p there none. absurd none) (λ p is. tree_page is) (λ damage b. breaks_held b))

pub sweep_spot-requires-clause-spot : goal.sweep_spot-requires-clause-spot
sweep_spot-requires-clause-spot g c t held =
    let told = c.in_ok-spot.ensures.runs.works.steady.is_told in
    let same = c.first_leaf.ensures.same in
    spot_same (nodes_same c.args.self.now.width (g.P.Pages.state c.args.pages.now) (g.P.Pages.state c.first_leaf.new.pages) c.in_ok-spot.spot.page told same)
    (c.in_ok-spot.ensures.first t (held_same (sym told) (sym same) held)).spot

pub returns-in_err-removed-clause-runs : goal.returns-in_err-removed-clause-runs
returns-in_err-removed-clause-runs g c =
    let told = c.in_ok-spot.ensures.runs.works.steady.is_told in
    let same = c.first_leaf.ensures.same in
    let start : RunsOverPages g.P.Pages (IsTreeOrMapPage g.P.Pages c.args.shape c.args.pages.now c.args.self.now) (IsTreeOrMapPage g.P.Pages c.args.shape c.args.pages.now c.args.self.now)
    (BreaksTreeOrReturn g.P.Pages c.args.shape c.args.pages.now c.args.self.now) c.args.pages.now c.first_leaf.new.pages None =
    runs_wider (runs_on c.in_ok-spot.ensures.runs) (λ p there none. absurd none) (λ p is. tree_page is) (λ damage b. b) in
    runs_exit c.from_residual-in_err-removed.result c.from_residual-in_err-removed.ensures.1
    (runs_then start c.in_err-removed.ensures.runs (λ p there is. page_same told same is) (λ p is. page_same told same is) (λ damage b. breaks_same told same b))

pub returns-clause-sweeps : goal.returns-clause-sweeps
returns-clause-sweeps g c owners t st =
    let told = c.in_ok-spot.ensures.runs.works.steady.is_told in
    let same = c.first_leaf.ensures.same in
    let f = c.in_ok-spot.ensures.first t st.held in
    let r = c.in_ok-removed.ensures.prunes owners t (stands_same told same st)
    (spot_same (nodes_same c.args.self.now.width (g.P.Pages.state c.args.pages.now) (g.P.Pages.state c.first_leaf.new.pages) c.in_ok-spot.spot.page told same) f.spot) in
    subst (λ (a : ℕ). SweepsLeaf g.P.Pages c.args.shape c.args.notes.now c.sweep_spot.new.notes c.sweep_spot.new.pages c.args.self.now owners t c.args.bound.now a c.args.blocks.now c.in_ok-removed.removed c.fence_bound.result) c.from.ensures
    (sweeps_first c.fence_bound.result f c.fence_bound.ensures r.0 r.1)

pub returns-clause-runs : goal.returns-clause-runs
returns-clause-runs g c =
    let told = c.in_ok-spot.ensures.runs.works.steady.is_told in
    let same = c.first_leaf.ensures.same in
    let start : RunsOverPages g.P.Pages (IsTreeOrMapPage g.P.Pages c.args.shape c.args.pages.now c.args.self.now) (IsTreeOrMapPage g.P.Pages c.args.shape c.args.pages.now c.args.self.now)
    (BreaksTreeOrReturn g.P.Pages c.args.shape c.args.pages.now c.args.self.now) c.args.pages.now c.first_leaf.new.pages None =
    runs_wider (runs_on c.in_ok-spot.ensures.runs) (λ p there none. absurd none) (λ p is. tree_page is) (λ damage b. b) in
    runs_then start c.in_ok-removed.ensures.runs (λ p there is. page_same told same is) (λ p is. page_same told same is) (λ damage b. breaks_same told same b)

pub returns-clause-seen : goal.returns-clause-seen
returns-clause-seen g c told =
    let spot = c.in_ok-spot.spot in
    subst (SeesSwept c.args.self.now.width (g.P.Pages.state c.args.pages.now).work c.args.self.now.root c.args.bound.now) (sym c.fence_bound.ensures)
    (record { leaf = spot.page; at = spot.at; there = spot.there; first = c.in_ok-spot.ensures.seen told })
