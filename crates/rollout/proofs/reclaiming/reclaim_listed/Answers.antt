use Rattle.std.proofs.Common.{Some, subst, sym}
use Rattle.std.proofs.lemmas.Result.{on_ok_weaker}
use Rattle.store_api.specs.RunsOverPages.{RunsOverPages}
use Rattle.store_api.specs.declared.fault.StoreFault.{StoreFault}
use Rattle.store_api.proofs.RunsOverPagesLemmas.{runs_damage, runs_none}
use Rattle.mdc_sound.specs.StandingTable.{BreaksExpected, pages_of}
use Rattle.table_blocks.specs.BlockChanges.{IsTreeOrMapPageOfTable}
use Rattle.table_blocks.specs.BlockSteps.{HasFreeBlock}
use Rattle.rollout.proofs.ReclaimingLoopLemmas.{past_extents, space_reclaimed}
use Rattle.rollout.proofs.reclaiming.reclaim_listed.Goals as goal

pub returns-then-block-shape-clause-runs : goal.returns-then-block-shape-clause-runs
returns-then-block-shape-clause-runs g c =
    subst (λ (fault : StoreFault). RunsOverPages g.P.Pages (IsTreeOrMapPageOfTable g.P.Pages c.args.shape c.args.pages.now c.args.def.now) (IsTreeOrMapPageOfTable g.P.Pages c.args.shape c.args.pages.now c.args.def.now)
    (BreaksExpected g.P.Pages c.args.shape c.args.pages.now c.args.def.now (HasFreeBlock c.args.block)) c.args.pages.now c.args.pages.now (Some fault)) (sym c.no_extent.ensures)
    (runs_damage runs_none (past_extents g.P.Pages c.args.shape c.args.pages.now c.args.def.now c.args.block c.if-block-shape.true))

pub returns-clause-space : goal.returns-clause-space
returns-clause-space g c =
    on_ok_weaker c.reclaim_block.result
    (λ makes owners forests st free. space_reclaimed c.args.shape (pages_of g.P.Pages c.args.pages.now) (pages_of g.P.Pages c.reclaim_block.new.pages) c.args.def.now c.args.block (makes owners forests st free))
    c.reclaim_block.ensures.makes
