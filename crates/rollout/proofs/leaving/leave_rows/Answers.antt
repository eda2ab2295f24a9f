use Rattle.std.proofs.Common.{Some, drop, map, refl, subst, suc, sym, take}
use Rattle.std.proofs.lemmas.List.{take_all}
use Rattle.std.proofs.lemmas.List.Elements.{All-get_or}
use Rattle.store_api.proofs.RunsOverPagesLemmas.{runs_exit, runs_none}
use Rattle.block_rows.specs.HeldRows.{HasReadValues, placed_row}
use Rattle.block_rows.specs.declared.hit.Hit.{Hit}
use Rattle.block_rows.proofs.HitStepsLemmas.{cut_at_hit, one_more_hit}
use Rattle.mdc_sound.specs.RunningFull.{row_listings}
use Rattle.row_entries.proofs.RowKeysLemmas.{keys_of_read_row}
use Rattle.rollout.specs.LeavingRows.{LeavesRows}
use Rattle.rollout.proofs.LeavingRowsLemmas.{IsLeaving, leaves_none, leaving_next, leaving_runs, space_none}
use Rattle.rollout.proofs.leaving.leave_rows.Goals as goal

pub loop-hit-init : goal.loop-hit-init
loop-hit-init g c = record {
  leaves = λ owners forests st. leaves_none g.P.Pages c.args.shape c.args.def.now c.args.notes.now c.args.pages.now owners forests st;
  space = λ owners forests st. space_none g.P.Pages c.args.shape c.args.def.now c.args.pages.now owners forests st;
  count = refl;
  runs = runs_none;
}

pub leave_row-requires-clause-row : goal.leave_row-requires-clause-row
leave_row-requires-clause-row g c =
    let read : HasReadValues c.args.def.now.columns c.hit-item.result.row =
    subst (λ (hit : Hit). HasReadValues c.args.def.now.columns hit.row) (sym c.hit-item.is)
    (All-get_or (λ (hit : Hit). HasReadValues c.args.def.now.columns hit.row) c.args.hits.now c.loop-hit.hit-index c.hit-item.result c.loop-hit-test.true c.requires.read) in
    keys_of_read_row c.args.def.now c.hit-item.result.row c.requires.defined read.each

pub returns-in_err-leave_row-clause-runs : goal.returns-in_err-leave_row-clause-runs
returns-in_err-leave_row-clause-runs g c =
    let hits = c.args.hits.now in
    let n = c.loop-hit.hit-index in
    let hit = c.hit-item.result in
    runs_exit c.from_residual.result c.from_residual.ensures.1
    (leaving_runs g.P.Pages c.args.shape c.args.notes.now c.loop-hit.notes c.args.pages.now c.loop-hit.pages c.args.def.now (map placed_row hits) (map placed_row (take n hits)) (map placed_row (drop (suc n) hits)) (placed_row hit)
    (cut_at_hit hits n hit c.loop-hit-test.true c.hit-item.is) c.loop-hit.invariant c.leave_row.new.pages (Some c.in_err-leave_row.field-0.0) c.in_err-leave_row.ensures.runs)

pub loop-hit-preserved : goal.loop-hit-preserved
loop-hit-preserved g c =
    let hits = c.args.hits.now in
    let n = c.loop-hit.hit-index in
    let hit = c.hit-item.result in
    subst (IsLeaving g.P.Pages c.args.shape c.args.notes.now c.leave_row.new.notes c.args.pages.now c.leave_row.new.pages c.args.def.now (map placed_row hits)) (one_more_hit hits n hit c.loop-hit-test.true c.hit-item.is)
    (leaving_next g.P.Pages c.args.shape c.args.notes.now c.loop-hit.notes c.args.pages.now c.loop-hit.pages c.args.def.now (map placed_row hits) (map placed_row (take n hits)) (map placed_row (drop (suc n) hits)) (placed_row hit)
    (cut_at_hit hits n hit c.loop-hit-test.true c.hit-item.is) c.loop-hit.invariant c.leave_row.new.notes c.leave_row.new.pages (row_listings c.args.def.now hit.row hit.rid)
    c.in_ok-leave_row.ensures.leaves c.in_ok-leave_row.ensures.makes c.in_ok-leave_row.ensures.count c.in_ok-leave_row.ensures.runs)

pub returns-clause-leaves : goal.returns-clause-leaves
returns-clause-leaves g c owners forests st =
    subst (λ hits. LeavesRows g.P.Pages c.args.shape c.args.notes.now c.loop-hit.notes c.args.pages.now c.loop-hit.pages c.args.def.now (map placed_row hits) owners forests)
    (take_all c.loop-hit.hit-index c.args.hits.now c.loop-hit-test.false) (c.loop-hit.invariant.leaves owners forests st)
