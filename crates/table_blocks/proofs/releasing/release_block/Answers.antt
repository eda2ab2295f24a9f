use Rattle.std.proofs.Common.{◌<◌, ◌^◌, arith}
use Rattle.std.specs.Prelude.{Some}
use Rattle.std.proofs.lemmas.Result.{on_ok_weaker}
use Rattle.store_api.specs.Causes.{fault_of}
use Rattle.store_api.proofs.RunsOverPagesLemmas.{runs_exit}
use Rattle.mdc_sound.proofs.DefinitionTreesLemmas.{has_block_indexes}
use Rattle.table_blocks.proofs.ReleasedRunsLemmas.{runs_replaced, runs_unlisted}
use Rattle.table_blocks.proofs.ReleasingLemmas.{releases_block, runs_released, runs_replacing, turns_block}
use Rattle.table_blocks.proofs.ReleasingSpaceLemmas.{releasing_space}
use Rattle.table_blocks.proofs.releasing.release_block.Goals as goal

pub returns-in_err-replace-clause-runs : goal.returns-in_err-replace-clause-runs
returns-in_err-replace-clause-runs g c =
    runs_exit c.from_residual.result c.from_residual.ensures.1
    (runs_replacing c.args.def.now c.requires.defined c.at-map.result.tree c.at-map.ensures c.at-map.result.seven c.args.shape c.args.notes.now c.args.pages.now c.args.line c.args.state c.args.cell.now c.replace.new.pages
    (Some c.in_err-replace.field-0.0) c.in_err-replace.ensures.runs)

pub unlist_block-requires-clause-indexes : goal.unlist_block-requires-clause-indexes
unlist_block-requires-clause-indexes g c = has_block_indexes c.args.def.now.number c.args.def.now c.requires.defined

pub returns-clause-turns : goal.returns-clause-turns
returns-clause-turns g c =
    let small : c.args.line.block < 2 ^ 32 = omega arith in
    on_ok_weaker c.unlist_block.result
    (λ unlists. turns_block c.args.def.now c.requires.defined c.at-map.result.tree c.at-map.ensures c.at-map.result.seven c.args.shape c.args.notes.now c.args.pages.now c.args.line c.args.state c.args.cell.now c.replace.new.pages
    c.in_ok-replace.ensures.there c.in_ok-replace.ensures.changes c.in_ok-replace.ensures.count c.in_ok-replace.ensures.runs small c.requires.idle c.unlist_block.new.notes c.unlist_block.new.pages
    unlists c.unlist_block.ensures.count c.unlist_block.ensures.runs.touches c.unlist_block.ensures.runs.works.steady.is_told)
    c.unlist_block.ensures.unlists

pub returns-clause-releases : goal.returns-clause-releases
returns-clause-releases g c =
    let small : c.args.line.block < 2 ^ 32 = omega arith in
    on_ok_weaker c.unlist_block.result
    (λ unlists. releases_block c.args.def.now c.requires.defined c.at-map.result.tree c.at-map.ensures c.at-map.result.seven c.args.shape c.args.notes.now c.args.pages.now c.args.line c.args.state c.args.cell.now c.replace.new.pages
    c.in_ok-replace.ensures.there c.in_ok-replace.ensures.changes c.in_ok-replace.ensures.count c.in_ok-replace.ensures.runs small c.requires.idle c.unlist_block.new.notes c.unlist_block.new.pages
    unlists c.unlist_block.ensures.count c.unlist_block.ensures.runs.touches c.unlist_block.ensures.runs.works.steady.is_told)
    c.unlist_block.ensures.unlists

pub returns-clause-runs : goal.returns-clause-runs
returns-clause-runs g c =
    let small : c.args.line.block < 2 ^ 32 = omega arith in
    runs_released c.args.def.now c.requires.defined c.at-map.result.tree c.at-map.ensures c.at-map.result.seven c.args.shape c.args.notes.now c.args.pages.now c.args.line c.args.state c.args.cell.now c.replace.new.pages
    c.in_ok-replace.ensures.there c.in_ok-replace.ensures.changes c.in_ok-replace.ensures.count c.in_ok-replace.ensures.runs small c.unlist_block.new.pages (fault_of c.unlist_block.result) c.unlist_block.ensures.runs

pub returns-clause-makes : goal.returns-clause-makes
returns-clause-makes g c =
    on_ok_weaker c.unlist_block.result
    (λ leaves. releasing_space c.args.def.now c.requires.defined c.at-map.result.tree c.at-map.ensures c.at-map.result.seven c.args.shape c.args.pages.now c.args.line c.args.state c.args.cell.now c.replace.new.pages
    c.in_ok-replace.ensures.there c.in_ok-replace.ensures.changes c.in_ok-replace.ensures.count c.in_ok-replace.ensures.runs c.unlist_block.new.pages leaves)
    c.unlist_block.ensures.makes

pub returns-in_err-replace-clause-runs_of_table : goal.returns-in_err-replace-clause-runs_of_table
returns-in_err-replace-clause-runs_of_table g c =
    let small : c.args.line.block < 2 ^ 32 = omega arith in
    runs_exit c.from_residual.result c.from_residual.ensures.1
    (runs_replaced c.args.def.now c.requires.defined c.at-map.result.tree c.at-map.ensures c.at-map.result.seven c.args.shape c.args.notes.now c.args.pages.now c.args.line c.args.state c.args.cell.now small c.replace.new.pages
    (Some c.in_err-replace.field-0.0) c.in_err-replace.ensures.runs)

pub returns-clause-runs_of_table : goal.returns-clause-runs_of_table
returns-clause-runs_of_table g c =
    let small : c.args.line.block < 2 ^ 32 = omega arith in
    runs_unlisted c.args.def.now c.requires.defined c.at-map.result.tree c.at-map.ensures c.at-map.result.seven c.args.shape c.args.notes.now c.args.pages.now c.args.line c.args.state c.args.cell.now small c.replace.new.pages
    c.in_ok-replace.ensures.there c.in_ok-replace.ensures.changes c.in_ok-replace.ensures.count c.in_ok-replace.ensures.runs c.unlist_block.new.pages (fault_of c.unlist_block.result) c.unlist_block.ensures.runs
