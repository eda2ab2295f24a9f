use Rattle.std.proofs.Common.{◌∙◌, ℕ, List, Some, get_or, subst}
use Rattle.std.proofs.lemmas.List.{take_all}
use Rattle.store_api.specs.RunsOverPages.{RunsOverPages}
use Rattle.store_api.proofs.RunsOverPagesLemmas.{runs_exit}
use Rattle.mdc_sound.specs.StandingTable.{BreaksTable}
use Rattle.table_blocks.specs.BlockChanges.{IsTreeOrMapPageOfTable}
use Rattle.table_blocks.proofs.MapOfTableLemmas.{map_of_table}
use Rattle.cell_change.proofs.DeletingRowsLemmas.{blocks_left}
use Rattle.rollout.proofs.ReclaimedTableLemmas.{database_reclaimed, reclaims_free, sound_reclaimed}
use Rattle.rollout.proofs.ReclaimingLoopLemmas.{IsReclaiming, reclaiming_next, reclaiming_none, reclaiming_runs, runs_listed}
use Rattle.rollout.proofs.TakenCellsLemmas.{any_default}
use Rattle.rollout.proofs.reclaiming.reclaim.Given.{Over}
use Rattle.rollout.proofs.reclaiming.reclaim.Goals as goal

pub returns-in_err-free-clause-runs : goal.returns-in_err-free-clause-runs
returns-in_err-free-clause-runs g c =
    runs_exit c.from_residual.result c.from_residual.ensures.1
    (runs_listed g.P.Pages c.args.shape c.args.def.now c.requires.defined c.args.pages.now c.at-map.result.tree c.at-map.ensures c.at-map.result.seven c.list.new.pages (Some c.in_err-free.field-0.0) c.in_err-free.ensures.runs)

pub loop-block-init : goal.loop-block-init
loop-block-init g c =
    let said = c.in_ok-free.ensures in
    reclaiming_none g.P.Pages c.args.shape c.args.def.now c.requires.defined c.args.pages.now c.at-map.result.tree c.at-map.ensures c.at-map.result.seven c.list.new.pages said.runs.works.steady.is_told said.same said.runs

-- the block at hand, and where the Free blocks are listed
abbrev at_hand : (items : List ℕ) (n : ℕ) → ℕ
at_hand items n = get_or items n 0

pub loop-block-preserved : goal.loop-block-preserved
loop-block-preserved g c =
    let items = c.as_slice-block-items.result.now in
    let n = c.loop-block.block-index in
    reclaiming_next g.P.Pages c.args.shape c.args.def.now c.requires.defined c.args.pages.now c.loop-block.pages items c.as_slice-block-items.ensures.rising
    (λ owners forests st. c.as_slice-block-items.ensures.value ∙ c.in_ok-free.ensures.listed forests.map (map_of_table c.args.shape c.args.pages.now c.args.def.now c.requires.defined c.at-map.result.tree c.at-map.ensures c.at-map.result.seven owners forests st))
    n (at_hand items n) c.loop-block-test.true (any_default items n 0 (at_hand items n) c.loop-block-test.true) c.loop-block.count c.loop-block.invariant
    c.reclaim_listed.new.pages c.one_more-count.result c.one_more-count.ensures c.in_ok-reclaim_listed.ensures.reclaims c.in_ok-reclaim_listed.ensures.space c.in_ok-reclaim_listed.ensures.count c.in_ok-reclaim_listed.ensures.runs

-- the call that failed
failed : (g : Over) (c : goal.After-drop-free-inside g)
    → RunsOverPages g.P.Pages (IsTreeOrMapPageOfTable g.P.Pages c.args.shape c.args.pages.now c.args.def.now) (IsTreeOrMapPageOfTable g.P.Pages c.args.shape c.args.pages.now c.args.def.now)
    (BreaksTable g.P.Pages c.args.shape c.args.pages.now c.args.def.now) c.args.pages.now c.reclaim_listed.new.pages (Some c.in_err-reclaim_listed.field-0.0)
failed g c =
    let items = c.as_slice-block-items.result.now in
    let n = c.loop-block.block-index in
    reclaiming_runs g.P.Pages c.args.shape c.args.def.now c.requires.defined c.args.pages.now c.loop-block.pages items c.as_slice-block-items.ensures.rising
    (λ owners forests st. c.as_slice-block-items.ensures.value ∙ c.in_ok-free.ensures.listed forests.map (map_of_table c.args.shape c.args.pages.now c.args.def.now c.requires.defined c.at-map.result.tree c.at-map.ensures c.at-map.result.seven owners forests st))
    n (at_hand items n) c.loop-block-test.true (any_default items n 0 (at_hand items n) c.loop-block-test.true) c.loop-block.count c.loop-block.invariant
    c.reclaim_listed.new.pages (Some c.in_err-reclaim_listed.field-0.0) c.in_err-reclaim_listed.ensures.runs

pub returns-in_err-reclaim_listed-clause-runs : goal.returns-in_err-reclaim_listed-clause-runs
returns-in_err-reclaim_listed-clause-runs g c = runs_exit c.from_residual-in_err-reclaim_listed.result c.from_residual-in_err-reclaim_listed.ensures.1 (failed g c)

pub returns-in_err-reclaim_listed-clause-stay : goal.returns-in_err-reclaim_listed-clause-stay
returns-in_err-reclaim_listed-clause-stay g c owners forests st = blocks_left g.P.Pages c.args.shape c.args.pages.now c.args.def.now owners forests st (failed g c).touches

pub returns-clause-reclaims : goal.returns-clause-reclaims
returns-clause-reclaims g c owners forests st =
    let items = c.as_slice-block-items.result.now in
    let listed = c.as_slice-block-items.ensures.value ∙ c.in_ok-free.ensures.listed forests.map (map_of_table c.args.shape c.args.pages.now c.args.def.now c.requires.defined c.at-map.result.tree c.at-map.ensures c.at-map.result.seven owners forests st) in
    let all = subst (λ gone. IsReclaiming g.P.Pages c.args.shape c.args.notes.now c.loop-block.notes c.args.pages.now c.loop-block.pages c.args.def.now gone c.loop-block.count) (take_all c.loop-block.block-index items c.loop-block-test.false ∙ listed) c.loop-block.invariant in
    reclaims_free g.P.Pages c.args.shape c.args.pages.now c.loop-block.pages c.args.def.now owners forests st (all.reclaims owners forests st) c.loop-block.count (all.counted owners forests st)

pub returns-clause-stay : goal.returns-clause-stay
returns-clause-stay g c owners forests st = blocks_left g.P.Pages c.args.shape c.args.pages.now c.args.def.now owners forests st c.loop-block.invariant.runs.touches

pub returns-clause-sound : goal.returns-clause-sound
returns-clause-sound g c owners forests st between =
    sound_reclaimed g.P.Pages c.args.shape c.args.pages.now c.loop-block.pages c.args.def.now owners forests st c.loop-block.count (returns-clause-reclaims g c owners forests st) c.loop-block.invariant.runs.touches
    c.loop-block.invariant.runs.works.no_shorter between

pub returns-clause-stands_for : goal.returns-clause-stands_for
returns-clause-stands_for g c owners forests st between =
    database_reclaimed g.P.Pages c.args.shape c.args.pages.now c.loop-block.pages c.args.def.now owners forests st c.loop-block.count (returns-clause-reclaims g c owners forests st) c.loop-block.invariant.runs.touches
    c.loop-block.invariant.runs.works.no_shorter between
