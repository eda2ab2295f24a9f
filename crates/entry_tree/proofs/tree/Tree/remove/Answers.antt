use Rattle.std.proofs.Common.{None, sym}
use Rattle.store_api.specs.RunsOverPages.{RunsOverPages}
use Rattle.store_api.proofs.RunsOverPagesLemmas.{runs_exit, runs_on, runs_then, runs_wider}
use Rattle.entry_tree.specs.HeldTrees.{nodes_in}
use Rattle.entry_tree.proofs.HeldTreesLemmas.{nodes_same}
use Rattle.entry_tree.specs.Pruning.{BreaksTreeOrReturn, IsTreeOrMapPage}
use Rattle.entry_tree.proofs.RemoveLemmas.{breaks_held, breaks_same, held_same, item_same, not_false, not_true_is, page_same, removes_it, stands_same, tree_page}
use Rattle.entry_tree.proofs.ShownLemmas.{leaf_whether}
use Rattle.entry_tree.proofs.tree.Tree.remove.Goals as goal

pub returns-in_err-spot-clause-runs : goal.returns-in_err-spot-clause-runs
returns-in_err-spot-clause-runs g c =
    runs_exit c.from_residual.result c.from_residual.ensures.1
    (runs_wider c.in_err-spot.ensures.runs (λ p there none. absurd none) (λ p is. tree_page is) (λ damage b. breaks_held b))

pub returns-then-not-spot-clause-removes : goal.returns-then-not-spot-clause-removes
returns-then-not-spot-clause-removes g c owners t st = (c.in_ok-spot.ensures.seen t st.held).absent (not_true_is c.in_ok-spot.spot.there c.if-not-spot.true)

pub returns-then-not-spot-clause-runs : goal.returns-then-not-spot-clause-runs
returns-then-not-spot-clause-runs g c =
    runs_wider (runs_on c.in_ok-spot.ensures.runs) (λ p there none. absurd none) (λ p is. tree_page is) (λ damage b. b)

pub take_out-requires-clause-spot : goal.take_out-requires-clause-spot
take_out-requires-clause-spot g c t held =
    let told = c.in_ok-spot.ensures.runs.works.steady.is_told in
    let same = c.leaf_spot.ensures.same in
    item_same (nodes_in c.args.self.now.width (g.P.Pages.state c.args.pages.now)) (nodes_in c.args.self.now.width (g.P.Pages.state c.leaf_spot.new.pages))
    (nodes_same c.args.self.now.width (g.P.Pages.state c.args.pages.now) (g.P.Pages.state c.leaf_spot.new.pages) c.in_ok-spot.spot.page told same)
    ((c.in_ok-spot.ensures.seen t (held_same (sym told) (sym same) held)).found (not_false c.in_ok-spot.spot.there c.if-not-spot.false)).spot

pub returns-in_err-take_out-clause-runs : goal.returns-in_err-take_out-clause-runs
returns-in_err-take_out-clause-runs g c =
    let told = c.in_ok-spot.ensures.runs.works.steady.is_told in
    let same = c.leaf_spot.ensures.same in
    let start : RunsOverPages g.P.Pages (IsTreeOrMapPage g.P.Pages c.args.shape c.args.pages.now c.args.self.now) (IsTreeOrMapPage g.P.Pages c.args.shape c.args.pages.now c.args.self.now)
    (BreaksTreeOrReturn g.P.Pages c.args.shape c.args.pages.now c.args.self.now) c.args.pages.now c.leaf_spot.new.pages None =
    runs_wider (runs_on c.in_ok-spot.ensures.runs) (λ p there none. absurd none) (λ p is. tree_page is) (λ damage b. b) in
    runs_exit c.from_residual-in_err-take_out.result c.from_residual-in_err-take_out.ensures.1
    (runs_then start c.in_err-take_out.ensures.runs (λ p there is. page_same told same is) (λ p is. page_same told same is) (λ damage b. breaks_same told same b))

pub returns-clause-removes : goal.returns-clause-removes
returns-clause-removes g c owners t st =
    let told = c.in_ok-spot.ensures.runs.works.steady.is_told in
    let same = c.leaf_spot.ensures.same in
    removes_it c.args.pages.now c.leaf_spot.new.pages c.in_ok-spot.spot.page c.in_ok-spot.spot.at told same ((c.in_ok-spot.ensures.seen t st.held).found (not_false c.in_ok-spot.spot.there c.if-not-spot.false)) (c.in_ok-take_out.ensures.takes owners t (stands_same told same st))

pub returns-clause-runs : goal.returns-clause-runs
returns-clause-runs g c =
    let told = c.in_ok-spot.ensures.runs.works.steady.is_told in
    let same = c.leaf_spot.ensures.same in
    let start : RunsOverPages g.P.Pages (IsTreeOrMapPage g.P.Pages c.args.shape c.args.pages.now c.args.self.now) (IsTreeOrMapPage g.P.Pages c.args.shape c.args.pages.now c.args.self.now)
    (BreaksTreeOrReturn g.P.Pages c.args.shape c.args.pages.now c.args.self.now) c.args.pages.now c.leaf_spot.new.pages None =
    runs_wider (runs_on c.in_ok-spot.ensures.runs) (λ p there none. absurd none) (λ p is. tree_page is) (λ damage b. b) in
    runs_then start c.in_ok-take_out.ensures.runs (λ p there is. page_same told same is) (λ p is. page_same told same is) (λ damage b. breaks_same told same b)

pub returns-then-not-spot-clause-seen : goal.returns-then-not-spot-clause-seen
returns-then-not-spot-clause-seen g c told = leaf_whether (c.in_ok-spot.ensures.shown told).1 (not_true_is c.in_ok-spot.spot.there c.if-not-spot.true)

pub returns-clause-seen : goal.returns-clause-seen
returns-clause-seen g c told = leaf_whether (c.in_ok-spot.ensures.shown told).1 (not_false c.in_ok-spot.spot.there c.if-not-spot.false)
