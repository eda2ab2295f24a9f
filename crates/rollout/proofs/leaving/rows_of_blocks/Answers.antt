use Rattle.std.proofs.Common.{Some, None, arith, get_or, subst}
use Rattle.std.specs.Prelude.{List, ℕ}
use Rattle.std.proofs.lemmas.List.{take_all}
use Rattle.store_api.specs.Frame.{NoPage}
use Rattle.store_api.specs.RunsOverPages.{RunsOverPages}
use Rattle.store_api.proofs.RunsOverPagesLemmas.{runs_exit, runs_memory}
use Rattle.mdc_sound.specs.StandingTable.{BreaksExpected}
use Rattle.rollout.specs.LeavingRows.{AreUsedBlocks, IsPageOfBlocks}
use Rattle.rollout.proofs.ReadBlocksLemmas.{IsReading, reading_next, reading_none, reading_runs}
use Rattle.rollout.proofs.TakenCellsLemmas.{any_default}
use Rattle.rollout.proofs.leaving.rows_of_blocks.Given.{Over}
use Rattle.rollout.proofs.leaving.rows_of_blocks.Goals as goal
use Rattle.rollout.proofs.leaving.rows_of_blocks.Goals.{After-loop-block}

pub loop-block-init : goal.loop-block-init
loop-block-init g c = reading_none g.P.Pages c.args.shape c.args.def.now c.as_slice-block-items.result.now c.args.pages.now c.new-hits.result.items c.new-hits.ensures.items

pub returns-in_err-more-clause-runs : goal.returns-in_err-more-clause-runs
returns-in_err-more-clause-runs g c =
    runs_exit c.from_residual.result c.from_residual.ensures.1
    (subst (λ (blocks : List ℕ). RunsOverPages g.P.Pages NoPage (IsPageOfBlocks c.args.shape blocks) (BreaksExpected g.P.Pages c.args.shape c.args.pages.now c.args.def.now (AreUsedBlocks blocks)) c.args.pages.now c.rows_of_used_block.new.pages (Some c.in_err-more.field-0.0))
    c.as_slice-block-items.ensures.value
    (reading_runs g.P.Pages c.args.shape c.args.def.now c.as_slice-block-items.result.now c.args.pages.now c.loop-block.pages c.loop-block.block-index (get_or c.as_slice-block-items.result.now c.loop-block.block-index 0) c.loop-block-test.true (any_default c.as_slice-block-items.result.now c.loop-block.block-index 0 (get_or c.as_slice-block-items.result.now c.loop-block.block-index 0) c.loop-block-test.true) c.loop-block.hits.items c.loop-block.invariant
    c.rows_of_used_block.new.pages (Some c.in_err-more.field-0.0) c.in_err-more.ensures.runs))

pub returns-in_err-append-clause-runs : goal.returns-in_err-append-clause-runs
returns-in_err-append-clause-runs g c =
    runs_exit c.from_residual-in_err-append.result c.from_residual-in_err-append.ensures.1
    (runs_memory (subst (λ (blocks : List ℕ). RunsOverPages g.P.Pages NoPage (IsPageOfBlocks c.args.shape blocks) (BreaksExpected g.P.Pages c.args.shape c.args.pages.now c.args.def.now (AreUsedBlocks blocks)) c.args.pages.now c.rows_of_used_block.new.pages None)
    c.as_slice-block-items.ensures.value
    (reading_runs g.P.Pages c.args.shape c.args.def.now c.as_slice-block-items.result.now c.args.pages.now c.loop-block.pages c.loop-block.block-index (get_or c.as_slice-block-items.result.now c.loop-block.block-index 0) c.loop-block-test.true (any_default c.as_slice-block-items.result.now c.loop-block.block-index 0 (get_or c.as_slice-block-items.result.now c.loop-block.block-index 0) c.loop-block-test.true) c.loop-block.hits.items c.loop-block.invariant
    c.rows_of_used_block.new.pages None c.in_ok-more.ensures.runs)))

pub loop-block-preserved : goal.loop-block-preserved
loop-block-preserved g c =
    let said = c.in_ok-more.ensures in
    reading_next g.P.Pages c.args.shape c.args.def.now c.as_slice-block-items.result.now c.args.pages.now c.loop-block.pages c.loop-block.block-index (get_or c.as_slice-block-items.result.now c.loop-block.block-index 0) c.loop-block-test.true (any_default c.as_slice-block-items.result.now c.loop-block.block-index 0 (get_or c.as_slice-block-items.result.now c.loop-block.block-index 0) c.loop-block-test.true) c.loop-block.hits.items c.loop-block.invariant
    c.as_slice-block-items.ensures.rising c.rows_of_used_block.new.pages c.in_ok-more.more.items c.append.new.hits.items c.in_ok-append.ensures said.keyed said.rows said.same said.once said.runs

-- all blocks were read
all_read : (g : Over) (c : After-loop-block g) → IsReading g.P.Pages c.args.shape c.args.pages.now c.loop-block.pages c.args.def.now c.args.blocks.now c.args.blocks.now c.loop-block.hits.items
all_read g c =
    subst (λ (blocks : List ℕ). IsReading g.P.Pages c.args.shape c.args.pages.now c.loop-block.pages c.args.def.now blocks blocks c.loop-block.hits.items) c.as_slice-block-items.ensures.value
    (subst (λ (front : List ℕ). IsReading g.P.Pages c.args.shape c.args.pages.now c.loop-block.pages c.args.def.now c.as_slice-block-items.result.now front c.loop-block.hits.items)
    (take_all c.loop-block.block-index c.as_slice-block-items.result.now (omega (arith, c.loop-block-test.false, c.loop-block.auto.block-index-end))) c.loop-block.invariant)

pub returns-clause-rows : goal.returns-clause-rows
returns-clause-rows g c = (all_read g c).rows

pub returns-clause-keyed : goal.returns-clause-keyed
returns-clause-keyed g c = (all_read g c).keyed

pub returns-clause-same : goal.returns-clause-same
returns-clause-same g c = (all_read g c).same

pub returns-clause-once : goal.returns-clause-once
returns-clause-once g c = (all_read g c).once

pub returns-clause-runs : goal.returns-clause-runs
returns-clause-runs g c = (all_read g c).runs
