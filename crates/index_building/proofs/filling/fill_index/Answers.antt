use Rattle.std.proofs.Common.{map, drop, take, refl, subst, suc, sym}
use Rattle.store_api.proofs.RunsOverPagesLemmas.{runs_exit_as}
use Rattle.extent_map.specs.Damages.{store_part_of}
use Rattle.entry_tree.proofs.ClaimsLemmas.{if_err_by}
use Rattle.block_rows.specs.HeldRows.{placed_row}
use Rattle.record_index.specs.RecordIndexes.{HaveKeysIn}
use Rattle.record_index.proofs.IndexesLemmas.{parts_are}
use Rattle.block_rows.proofs.HitStepsLemmas.{cut_at_hit, one_more_hit}
use Rattle.index_building.proofs.FillingLemmas.{IsFilling, fills_next, fills_up, filling_none, filling_runs, index_there, keys_of_hit}
use Rattle.index_building.proofs.filling.fill_index.Goals as goal

pub loop-hit-init : goal.loop-hit-init
loop-hit-init g c =
    let there = index_there c.args.def.now c.args.index c.requires.indexes c.requires.there in
    filling_none g.P.Pages c.args.shape c.args.notes.now c.args.pages.now c.args.def.now c.args.index there.which there.is (map placed_row c.args.rows.now)

pub add_row-requires-clause-row : goal.add_row-requires-clause-row
add_row-requires-clause-row g c =
    let there = index_there c.args.def.now c.args.index c.requires.indexes c.requires.there in
    subst (λ parts. HaveKeysIn c.args.def.now.columns parts c.hit-item.result.row.values) (sym (parts_are c.args.def.now c.args.index c.args.index there.which refl there.is))
    (keys_of_hit c.args.def.now c.args.index there.which c.args.rows.now c.loop-hit.hit-index c.hit-item.result there.is there.parts c.requires.read c.loop-hit-test.true c.hit-item.is)

pub returns-in_err-add_row-clause-full : goal.returns-in_err-add_row-clause-full
returns-in_err-add_row-clause-full g c =
    let def = c.args.def.now in
    let rows = c.args.rows.now in
    let n = c.loop-hit.hit-index in
    let hit = c.hit-item.result in
    let there = index_there def c.args.index c.requires.indexes c.requires.there in
    let keys = keys_of_hit def c.args.index there.which rows n hit there.is there.parts c.requires.read c.loop-hit-test.true c.hit-item.is in
    if_err_by c.from_residual.result c.in_err-add_row.field-0.0 _ c.from_residual.ensures.1
    (fills_up g.P.Pages c.args.shape c.args.notes.now c.args.pages.now def c.args.index there.which there.is (map placed_row rows) c.loop-hit.notes c.loop-hit.pages (map placed_row (take n rows)) (map placed_row (drop (suc n) rows)) (placed_row hit)
    (cut_at_hit rows n hit c.loop-hit-test.true c.hit-item.is) there.parts keys c.loop-hit.invariant _ c.in_err-add_row.field-0.0 c.in_err-add_row.ensures.full c.in_err-add_row.ensures.asks)

pub returns-in_err-add_row-clause-runs : goal.returns-in_err-add_row-clause-runs
returns-in_err-add_row-clause-runs g c =
    let def = c.args.def.now in
    let rows = c.args.rows.now in
    let n = c.loop-hit.hit-index in
    let hit = c.hit-item.result in
    let there = index_there def c.args.index c.requires.indexes c.requires.there in
    let keys = keys_of_hit def c.args.index there.which rows n hit there.is there.parts c.requires.read c.loop-hit-test.true c.hit-item.is in
    runs_exit_as store_part_of c.from_residual.result c.from_residual.ensures.1
    (filling_runs g.P.Pages c.args.shape c.args.notes.now c.args.pages.now def c.args.index there.which there.is (map placed_row rows) c.loop-hit.notes c.loop-hit.pages (map placed_row (take n rows)) (map placed_row (drop (suc n) rows)) (placed_row hit)
    (cut_at_hit rows n hit c.loop-hit-test.true c.hit-item.is) there.parts keys c.loop-hit.invariant c.add_row.new.pages (store_part_of c.in_err-add_row.field-0.0) c.in_err-add_row.ensures.runs)

pub loop-hit-preserved : goal.loop-hit-preserved
loop-hit-preserved g c =
    let def = c.args.def.now in
    let rows = c.args.rows.now in
    let n = c.loop-hit.hit-index in
    let hit = c.hit-item.result in
    let there = index_there def c.args.index c.requires.indexes c.requires.there in
    let keys = keys_of_hit def c.args.index there.which rows n hit there.is there.parts c.requires.read c.loop-hit-test.true c.hit-item.is in
    subst (IsFilling g.P.Pages c.args.shape c.args.notes.now c.add_row.new.notes c.args.pages.now c.add_row.new.pages def c.args.index (map placed_row rows)) (one_more_hit rows n hit c.loop-hit-test.true c.hit-item.is)
    (fills_next g.P.Pages c.args.shape c.args.notes.now c.args.pages.now def c.args.index there.which there.is (map placed_row rows) c.loop-hit.notes c.loop-hit.pages (map placed_row (take n rows)) (map placed_row (drop (suc n) rows)) (placed_row hit)
    (cut_at_hit rows n hit c.loop-hit-test.true c.hit-item.is) there.parts keys c.loop-hit.invariant c.add_row.new.notes c.add_row.new.pages
    c.in_ok-add_row.ensures.adds c.in_ok-add_row.ensures.makes c.in_ok-add_row.ensures.grows c.in_ok-add_row.ensures.runs)
