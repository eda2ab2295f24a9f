use Rattle.std.proofs.Common.{Some}
use Rattle.std.proofs.lemmas.Result.{IfErr-weaker, on_ok_weaker}
use Rattle.store_api.specs.Causes.{store_fault_in}
use Rattle.store_api.proofs.RunsOverPagesLemmas.{runs_exit_as}
use Rattle.extent_map.specs.Damages.{store_part_of}
use Rattle.table_blocks.proofs.BeginningSpaceLemmas.{free_full, free_makes}
use Rattle.table_blocks.proofs.FreeBlockLemmas.{begins_free, filled_run, full_free, line_run}
use Rattle.table_blocks.proofs.beginning.begin_free_block.Goals as goal

pub returns-in_err-replace-clause-runs : goal.returns-in_err-replace-clause-runs
returns-in_err-replace-clause-runs g c =
    runs_exit_as store_part_of c.from_residual.result c.from_residual.ensures.1
    (line_run c.args.shape c.args.pages.now c.args.def.now c.args.block c.at-map.result.tree c.at-map.ensures c.at-map.result.seven c.requires.defined {fault = Some c.in_err-replace.field-0.0} c.in_err-replace.ensures.runs)

pub returns-clause-begins : goal.returns-clause-begins
returns-clause-begins g c =
    let done = c.in_ok-replace.ensures in
    on_ok_weaker c.fill_begun.result
    (begins_free c.args.shape c.args.pages.now c.args.def.now c.args.block c.at-map.result.tree c.at-map.ensures c.at-map.result.seven c.requires.defined c.replace.new.pages c.first_line.result c.requires.within c.first_line.ensures
    done.there done.changes done.count done.runs c.args.notes.now c.args.row.now c.fill_begun.new.notes c.fill_begun.new.pages c.requires.fits)
    c.fill_begun.ensures.fills

pub returns-clause-full : goal.returns-clause-full
returns-clause-full g c =
    let done = c.in_ok-replace.ensures in
    IfErr-weaker c.fill_begun.result _ _
    (full_free c.args.shape c.args.pages.now c.args.def.now c.args.block c.at-map.result.tree c.at-map.ensures c.at-map.result.seven c.requires.defined c.replace.new.pages c.first_line.result c.requires.within c.first_line.ensures
    done.there done.changes done.count done.runs c.args.notes.now c.fill_begun.new.pages)
    c.fill_begun.ensures.full

pub returns-clause-makes : goal.returns-clause-makes
returns-clause-makes g c =
    let done = c.in_ok-replace.ensures in
    on_ok_weaker c.fill_begun.result
    (free_makes c.args.shape c.args.pages.now c.args.def.now c.args.block c.at-map.result.tree c.at-map.ensures c.at-map.result.seven c.requires.defined c.replace.new.pages c.first_line.result c.requires.within c.first_line.ensures
    done.there done.changes done.count done.runs c.args.notes.now c.args.row.now c.fill_begun.new.pages)
    c.fill_begun.ensures.makes

pub returns-clause-runs_full : goal.returns-clause-runs_full
returns-clause-runs_full g c =
    let done = c.in_ok-replace.ensures in
    IfErr-weaker c.fill_begun.result _ _
    (free_full c.args.shape c.args.pages.now c.args.def.now c.args.block c.at-map.result.tree c.at-map.ensures c.at-map.result.seven c.requires.defined c.replace.new.pages c.first_line.result c.requires.within c.first_line.ensures
    done.there done.changes done.count done.runs c.args.notes.now c.args.row.now)
    c.fill_begun.ensures.runs_full

pub returns-clause-runs : goal.returns-clause-runs
returns-clause-runs g c =
    let done = c.in_ok-replace.ensures in
    filled_run c.args.shape c.args.pages.now c.args.def.now c.args.block c.at-map.result.tree c.at-map.ensures c.at-map.result.seven c.requires.defined c.replace.new.pages c.first_line.result c.requires.within c.first_line.ensures
    done.there done.changes done.count done.runs c.fill_begun.new.pages (store_fault_in store_part_of c.fill_begun.result) c.fill_begun.ensures.runs
