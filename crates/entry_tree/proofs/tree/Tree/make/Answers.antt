use Rattle.std.proofs.Common.{inl}
use Rattle.std.specs.Prelude.{None}
use Rattle.store_api.specs.RunsOverPages.{RunsOverPages}
use Rattle.store_api.proofs.RunsOverPagesLemmas.{runs_wider, runs_more, runs_exit_as}
use Rattle.extent_map.specs.Damages.{store_part_of, BreaksSpace}
use Rattle.extent_map.proofs.GrowthLemmas.{keeps_root}
use Rattle.entry_tree.specs.Standing.{IsMapSpace}
use Rattle.entry_tree.proofs.MakingLemmas.{makes_tree, root_in_space, root_kept_made}
use Rattle.entry_tree.proofs.tree.Tree.make.Goals as goal

pub returns-in_err-root-clause-runs : goal.returns-in_err-root-clause-runs
returns-in_err-root-clause-runs g c =
    runs_exit_as store_part_of c.from_residual.result c.from_residual.ensures.1
    (runs_wider c.in_err-root.ensures.runs (λ p there is owners h. inl is) (λ p is owners h. inl is) (λ damage breaks. breaks))

pub returns-in_err-clear_leaf-clause-runs : goal.returns-in_err-clear_leaf-clause-runs
returns-in_err-clear_leaf-clause-runs g c =
    let start : RunsOverPages g.P.Pages (IsMapSpace g.P.Pages c.args.shape c.args.pages.now) (IsMapSpace g.P.Pages c.args.shape c.args.pages.now) (BreaksSpace g.P.Pages c.args.shape c.args.pages.now) c.args.pages.now c.claim_index_page.new.pages None =
    runs_wider c.in_ok-root.ensures.runs (λ p there is owners h. inl is) (λ p is owners h. inl is) (λ damage breaks. breaks) in
    runs_exit_as store_part_of c.from_residual-in_err-clear_leaf.result c.from_residual-in_err-clear_leaf.ensures.1
    (runs_more start c.in_err-clear_leaf.ensures.runs (λ p there is. root_in_space c.args.shape c.args.pages.now c.in_ok-root.root p c.in_ok-root.ensures.unused is)
    (λ p is. root_in_space c.args.shape c.args.pages.now c.in_ok-root.root p c.in_ok-root.ensures.unused is))

pub returns-clause-makes : goal.returns-clause-makes
returns-clause-makes g c owners h =
    makes_tree c.args.shape c.args.notes.now c.claim_index_page.new.self c.args.pages.now c.claim_index_page.new.pages c.clear_leaf.new.pages c.at.result c.in_ok-root.root c.args.width owners c.at.ensures.root c.at.ensures.width h (c.in_ok-root.ensures.unused owners h) (c.in_ok-root.ensures.lowest owners h) (c.in_ok-root.ensures.claims owners h) (c.in_ok-root.ensures.notes owners h)
    c.claim_index_page.ensures.runs.works.steady.is_told c.claim_index_page.ensures.runs.works.no_shorter c.clear_leaf.ensures.count c.in_ok-root.ensures.count c.in_ok-root.ensures.counted c.in_ok-root.ensures.stated c.claim_index_page.ensures.zeros
    c.in_ok-clear_leaf.ensures.runs c.in_ok-clear_leaf.ensures.clears

pub returns-in_err-root-clause-root : goal.returns-in_err-root-clause-root
returns-in_err-root-clause-root g c owners h = keeps_root c.claim_index_page.ensures.root

pub returns-in_err-clear_leaf-clause-root : goal.returns-in_err-clear_leaf-clause-root
returns-in_err-clear_leaf-clause-root g c owners h =
    root_kept_made c.args.shape c.args.pages.now c.claim_index_page.new.pages c.clear_leaf.new.pages c.in_ok-root.root c.in_ok-root.ensures.within c.claim_index_page.ensures.runs.works.no_shorter c.in_ok-root.ensures.stated c.clear_leaf.ensures.runs.touches

pub returns-clause-root : goal.returns-clause-root
returns-clause-root g c owners h =
    root_kept_made c.args.shape c.args.pages.now c.claim_index_page.new.pages c.clear_leaf.new.pages c.in_ok-root.root c.in_ok-root.ensures.within c.claim_index_page.ensures.runs.works.no_shorter c.in_ok-root.ensures.stated c.clear_leaf.ensures.runs.touches

pub returns-clause-runs : goal.returns-clause-runs
returns-clause-runs g c =
    let start : RunsOverPages g.P.Pages (IsMapSpace g.P.Pages c.args.shape c.args.pages.now) (IsMapSpace g.P.Pages c.args.shape c.args.pages.now) (BreaksSpace g.P.Pages c.args.shape c.args.pages.now) c.args.pages.now c.claim_index_page.new.pages None =
    runs_wider c.in_ok-root.ensures.runs (λ p there is owners h. inl is) (λ p is owners h. inl is) (λ damage breaks. breaks) in
    runs_more start c.in_ok-clear_leaf.ensures.runs (λ p there is. root_in_space c.args.shape c.args.pages.now c.in_ok-root.root p c.in_ok-root.ensures.unused is)
    (λ p is. root_in_space c.args.shape c.args.pages.now c.in_ok-root.root p c.in_ok-root.ensures.unused is)
