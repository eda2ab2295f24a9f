use Rattle.store_api.proofs.RunsOverPagesLemmas.{runs_exit_as, runs_wider}
use Rattle.extent_map.specs.Damages.{store_part_of}
use Rattle.entry_tree.proofs.ClaimsLemmas.{if_err_by}
use Rattle.stored_catalog.proofs.MakingRunsLemmas.{breaks_making, full_asks}
use Rattle.stored_catalog.proofs.MakingTreesLemmas.{made_one}
use Rattle.stored_catalog.proofs.adding.make_tree.Goals as goal

pub returns-in_err-tree-clause-full : goal.returns-in_err-tree-clause-full
returns-in_err-tree-clause-full g c =
    if_err_by c.from_residual.result c.in_err-tree.field-0.0 _ c.from_residual.ensures.1 (full_asks g.P.Pages c.args.shape c.args.notes.now c.args.pages.now c.in_err-tree.field-0.0 c.in_err-tree.ensures.full)

pub returns-in_err-tree-clause-runs : goal.returns-in_err-tree-clause-runs
returns-in_err-tree-clause-runs g c =
    runs_exit_as store_part_of c.from_residual.result c.from_residual.ensures.1
    (runs_wider c.in_err-tree.ensures.runs (λ p there is. is) (λ p is. is) (λ damage breaks. breaks_making g.P.Pages c.args.shape c.args.pages.now damage breaks))

pub returns-clause-makes : goal.returns-clause-makes
returns-clause-makes g c owners held =
    made_one g.P.Pages c.args.shape c.args.notes.now c.make.new.notes c.args.pages.now c.make.new.pages c.in_ok-tree.tree c.args.width owners c.in_ok-tree.ensures.width held
    c.in_ok-tree.ensures.runs.touches (c.in_ok-tree.ensures.makes owners held)
