use Rattle.std.proofs.Common.{◌<◌, ℕ, Option, Some, IfSome, length, refl, subst}
use Rattle.std.proofs.lemmas.Result.{on_ok_weaker}
use Rattle.node_page.specs.Entries.{without_blocks}
use Rattle.store_api.proofs.RunsOverPagesLemmas.{runs_wider}
use Rattle.entry_tree.specs.Forest.{Forest}
use Rattle.entry_tree.specs.HeldTrees.{nodes_in, HoldsTree}
use Rattle.entry_tree.specs.LeafSpots.{IsItemSpot, IsParent}
use Rattle.entry_tree.specs.Sweeping.{IsEmptiedBy}
use Rattle.entry_tree.proofs.RemovalLemmas.{breaks_drop, breaks_unmet, item_leaf, only_drop, only_leaf, only_look, root_alone}
use Rattle.entry_tree.proofs.SublistLemmas.{IsSublist-take_filter}
use Rattle.entry_tree.proofs.SweepingLemmas.{prunes_drop, prunes_here}
use Rattle.entry_tree.proofs.sweeping.prune_spot.Goals as goal

pub returns-in_default-clause-prunes : goal.returns-in_default-clause-prunes
returns-in_default-clause-prunes g c =
    on_ok_weaker c.sweep_page.result
    (λ swept owners t st sp.
    prunes_here c.args.spot.now.page c.args.spot.now.at (without_blocks c.args.blocks.now c.args.at c.args.spot.now.at sp.items) st sp (IsSublist-take_filter _ c.args.spot.now.at sp.items)
    (λ none. root_alone sp.above (subst (IsParent sp.above) c.in_default.is sp.parent_is)) (swept sp.items sp.leaf sp.within) c.sweep_page.ensures.runs)
    c.sweep_page.ensures.swept

pub returns-in_default-clause-runs : goal.returns-in_default-clause-runs
returns-in_default-clause-runs g c =
    runs_wider c.sweep_page.ensures.runs (λ p there is. only_leaf c.requires.spot is) (λ p is. only_leaf c.requires.spot is)
    (λ damage b. breaks_unmet b (λ t h. item_leaf (c.requires.spot t h)))

pub returns-then-not-all-clause-prunes : goal.returns-then-not-all-clause-prunes
returns-then-not-all-clause-prunes g c =
    on_ok_weaker c.sweep_page-then-not-all.result
    (λ swept owners t st sp.
    prunes_here c.args.spot.now.page c.args.spot.now.at (without_blocks c.args.blocks.now c.args.at c.args.spot.now.at sp.items) st sp (IsSublist-take_filter _ c.args.spot.now.at sp.items)
    (λ none. absurd ((subst (IsEmptiedBy c.args.blocks.now c.args.at c.args.spot.now.at sp.items) c.if-not-all.true (c.requires.all sp.items sp.leaf)) none))
    (swept sp.items sp.leaf sp.within) c.sweep_page-then-not-all.ensures.runs)
    c.sweep_page-then-not-all.ensures.swept

pub returns-then-not-all-clause-runs : goal.returns-then-not-all-clause-runs
returns-then-not-all-clause-runs g c =
    runs_wider c.sweep_page-then-not-all.ensures.runs (λ p there is. only_leaf c.requires.spot is) (λ p is. only_leaf c.requires.spot is)
    (λ damage b. breaks_unmet b (λ t h. item_leaf (c.requires.spot t h)))

pub drop_leaf-requires-clause-within : goal.drop_leaf-requires-clause-within
drop_leaf-requires-clause-within g c = subst (λ (o : Option (ℕ × ℕ)). IfSome o (λ place. place.0 < length (g.P.Pages.state c.args.pages.now).work)) c.in-Some.is c.requires.parent

pub returns-clause-prunes : goal.returns-clause-prunes
returns-clause-prunes g c =
    on_ok_weaker c.drop_leaf.result
    (λ drops owners t st sp.
    prunes_drop (without_blocks c.args.blocks.now c.args.at c.args.spot.now.at sp.items) st sp c.in-Some.is
    (subst (IsEmptiedBy c.args.blocks.now c.args.at c.args.spot.now.at sp.items) c.if-not-all.false (c.requires.all sp.items sp.leaf)) drops)
    c.drop_leaf.ensures.drops

pub returns-clause-runs : goal.returns-clause-runs
returns-clause-runs g c =
    let spot : (t : Forest) → HoldsTree g.P.Pages c.args.pages.now c.args.tree.now t
    → IsItemSpot (nodes_in c.args.tree.now.width (g.P.Pages.state c.args.pages.now)) t c.args.spot.now.page c.args.spot.now.at (Some (c.in-Some.page, c.in-Some.place)) =
    (λ t h. subst (IsItemSpot (nodes_in c.args.tree.now.width (g.P.Pages.state c.args.pages.now)) t c.args.spot.now.page c.args.spot.now.at) c.in-Some.is (c.requires.spot t h)) in
    runs_wider c.drop_leaf.ensures.runs (λ p there is. only_drop p spot refl refl is) (λ p is. only_look p spot refl refl is) (λ damage b. breaks_drop spot refl refl b)
