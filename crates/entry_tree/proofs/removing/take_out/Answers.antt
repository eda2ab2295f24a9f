use Rattle.std.proofs.Common.{◌<◌, ℕ, List, Option, None, Some, IfSome, arith, length, refl, subst, sym}
use Rattle.std.proofs.lemmas.Result.{on_ok_weaker}
use Rattle.store_api.specs.RunsOverPages.{RunsOverPages}
use Rattle.store_api.proofs.RunsOverPagesLemmas.{runs_exit, runs_on, runs_then, runs_wider}
use Rattle.entry_tree.specs.Forest.{Forest}
use Rattle.entry_tree.specs.HeldTrees.{nodes_in, HoldsTree}
use Rattle.entry_tree.specs.LeafSpots.{IsItemSpot, IsParent}
use Rattle.entry_tree.specs.Pruning.{BreaksTreeOrReturn, IsTreeOrMapPage}
use Rattle.entry_tree.proofs.HeldTreesLemmas.{nodes_same}
use Rattle.entry_tree.proofs.RemovalLemmas.{breaks_drop, breaks_unmet, item_leaf, only_drop, only_leaf, only_look, removes_drop, removes_here, root_alone, same_item, some_kept, leaf_as}
use Rattle.entry_tree.proofs.removing.take_out.Goals as goal

pub returns-in_default-clause-takes : goal.returns-in_default-clause-takes
returns-in_default-clause-takes g c =
    on_ok_weaker c.take_from_leaf.result
    (λ taken owners t st items is.
    let sp = c.requires.spot t st.held in
    same_item sp items is
    (removes_here c.args.spot.page c.args.spot.at st sp (λ none. root_alone sp.above (subst (IsParent sp.above) c.in_default.is sp.parent_is)) refl refl taken c.take_from_leaf.ensures.runs))
    c.take_from_leaf.ensures.taken

pub returns-in_default-clause-runs : goal.returns-in_default-clause-runs
returns-in_default-clause-runs g c =
    runs_wider c.take_from_leaf.ensures.runs (λ p there is. only_leaf c.requires.spot is) (λ p is. only_leaf c.requires.spot is)
    (λ damage b. breaks_unmet b (λ t h. item_leaf (c.requires.spot t h)))

pub returns-in_err-len-clause-runs : goal.returns-in_err-len-clause-runs
returns-in_err-len-clause-runs g c =
    runs_exit c.from_residual.result c.from_residual.ensures.1
    (runs_wider c.in_err-len.ensures.runs (λ p there none. absurd none) (λ p is. only_leaf c.requires.spot is)
    (λ damage b. breaks_unmet b (λ t h. let sp = c.requires.spot t h in (sp.items, sp.leaf))))

pub returns-then-len-gt1-clause-takes : goal.returns-then-len-gt1-clause-takes
returns-then-len-gt1-clause-takes g c =
    on_ok_weaker c.take_from_leaf-then-len-gt1.result
    (λ taken owners t st items is.
    let sp = c.requires.spot t st.held in
    same_item sp items is
    (removes_here c.args.spot.page c.args.spot.at st sp (some_kept sp (c.in_ok-len.ensures.len sp.items sp.leaf) c.if-len-gt1.true) c.in_ok-len.ensures.runs.works.steady.is_told c.leaf_len.ensures.same taken c.take_from_leaf-then-len-gt1.ensures.runs))
    c.take_from_leaf-then-len-gt1.ensures.taken

pub returns-then-len-gt1-clause-runs : goal.returns-then-len-gt1-clause-runs
returns-then-len-gt1-clause-runs g c =
    let start : RunsOverPages g.P.Pages (IsTreeOrMapPage g.P.Pages c.args.shape c.args.pages.now c.args.tree.now) (IsTreeOrMapPage g.P.Pages c.args.shape c.args.pages.now c.args.tree.now)
    (BreaksTreeOrReturn g.P.Pages c.args.shape c.args.pages.now c.args.tree.now) c.args.pages.now c.leaf_len.new.pages None =
    runs_wider (runs_on c.in_ok-len.ensures.runs) (λ p there none. absurd none) (λ p is. only_leaf c.requires.spot is) (λ damage b. b) in
    runs_then start c.take_from_leaf-then-len-gt1.ensures.runs (λ p there is. only_leaf c.requires.spot is) (λ p is. only_leaf c.requires.spot is)
    (λ damage b. breaks_unmet b (λ t h.
    leaf_as (nodes_same c.args.tree.now.width (g.P.Pages.state c.args.pages.now) (g.P.Pages.state c.leaf_len.new.pages) c.args.spot.page c.in_ok-len.ensures.runs.works.steady.is_told c.leaf_len.ensures.same)
    (item_leaf (c.requires.spot t h))))

pub drop_leaf-requires-clause-within : goal.drop_leaf-requires-clause-within
drop_leaf-requires-clause-within g c =
    let there : c.in-Some.page < length (g.P.Pages.state c.args.pages.now).work =
    subst (λ (o : Option (ℕ × ℕ)). IfSome o (λ place. place.0 < length (g.P.Pages.state c.args.pages.now).work)) c.in-Some.is c.requires.parent in
    subst (λ (w : List (List ℕ)). c.in-Some.page < length w) (sym c.leaf_len.ensures.same) there

pub returns-clause-takes : goal.returns-clause-takes
returns-clause-takes g c =
    let spot : (t : Forest) → HoldsTree g.P.Pages c.args.pages.now c.args.tree.now t
    → IsItemSpot (nodes_in c.args.tree.now.width (g.P.Pages.state c.args.pages.now)) t c.args.spot.page c.args.spot.at (Some (c.in-Some.page, c.in-Some.at)) =
    (λ t h. subst (IsItemSpot (nodes_in c.args.tree.now.width (g.P.Pages.state c.args.pages.now)) t c.args.spot.page c.args.spot.at) c.in-Some.is (c.requires.spot t h)) in
    on_ok_weaker c.drop_leaf.result
    (λ drops owners t st items is.
    let sp = spot t st.held in
    same_item sp items is
    (removes_drop st sp c.in_ok-len.ensures.runs.works.steady.is_told c.leaf_len.ensures.same (let len = c.in_ok-len.ensures.len sp.items sp.leaf in omega (arith, len, c.if-len-gt1.false)) drops))
    c.drop_leaf.ensures.drops

pub returns-clause-runs : goal.returns-clause-runs
returns-clause-runs g c =
    let spot : (t : Forest) → HoldsTree g.P.Pages c.args.pages.now c.args.tree.now t
    → IsItemSpot (nodes_in c.args.tree.now.width (g.P.Pages.state c.args.pages.now)) t c.args.spot.page c.args.spot.at (Some (c.in-Some.page, c.in-Some.at)) =
    (λ t h. subst (IsItemSpot (nodes_in c.args.tree.now.width (g.P.Pages.state c.args.pages.now)) t c.args.spot.page c.args.spot.at) c.in-Some.is (c.requires.spot t h)) in
    let told = c.in_ok-len.ensures.runs.works.steady.is_told in
    let start : RunsOverPages g.P.Pages (IsTreeOrMapPage g.P.Pages c.args.shape c.args.pages.now c.args.tree.now) (IsTreeOrMapPage g.P.Pages c.args.shape c.args.pages.now c.args.tree.now)
    (BreaksTreeOrReturn g.P.Pages c.args.shape c.args.pages.now c.args.tree.now) c.args.pages.now c.leaf_len.new.pages None =
    runs_wider (runs_on c.in_ok-len.ensures.runs) (λ p there none. absurd none) (λ p is. only_leaf c.requires.spot is) (λ damage b. b) in
    runs_then start c.drop_leaf.ensures.runs (λ p there is. only_drop p spot told c.leaf_len.ensures.same is) (λ p is. only_look p spot told c.leaf_len.ensures.same is)
    (λ damage b. breaks_drop spot told c.leaf_len.ensures.same b)
