use Rattle.std.specs.Prelude.{Some}
use Rattle.std.proofs.lemmas.Result.{on_ok_weaker}
use Rattle.store_api.specs.Causes.{fault_of}
use Rattle.store_api.proofs.RunsOverPagesLemmas.{runs_exit}
use Rattle.entry_tree.proofs.DropRunsLemmas.{on_ok_both}
use Rattle.table_blocks.proofs.ReclaimingLemmas.{giving_run, reclaims_block, unnaming_run}
use Rattle.table_blocks.proofs.ReclaimingSpaceLemmas.{reclaiming_space}
use Rattle.table_blocks.proofs.reclaiming.reclaim_block.Goals as goal

pub returns-in_err-leave-clause-runs : goal.returns-in_err-leave-clause-runs
returns-in_err-leave-clause-runs g c =
    runs_exit c.from_residual.result c.from_residual.ensures.1
    (unnaming_run c.args.def.now c.requires.defined c.at-map.result.tree c.at-map.ensures c.at-map.result.seven c.args.shape c.args.notes.now c.args.pages.now c.args.block {fault = Some c.in_err-leave.field-0.0} c.in_err-leave.ensures.runs)

pub returns-clause-reclaims : goal.returns-clause-reclaims
returns-clause-reclaims g c =
    on_ok_both c.give_back.result c.give_back.ensures.gives c.give_back.ensures.notes
    (λ gives notes. reclaims_block c.args.def.now c.requires.defined c.at-map.result.tree c.at-map.ensures c.at-map.result.seven c.args.shape c.args.notes.now c.args.pages.now c.args.block c.leave.new.notes c.leave.new.pages
    c.in_ok-leave.ensures.leaves c.in_ok-leave.ensures.count c.in_ok-leave.ensures.runs c.give_back.new.self c.give_back.new.pages gives notes c.give_back.ensures.count c.give_back.ensures.runs.touches
    c.give_back.ensures.runs.works.steady.is_told)

pub returns-clause-makes : goal.returns-clause-makes
returns-clause-makes g c =
    on_ok_weaker c.give_back.result
    (λ gives. reclaiming_space c.args.def.now c.requires.defined c.at-map.result.tree c.at-map.ensures c.at-map.result.seven c.args.shape c.args.notes.now c.args.pages.now c.args.block c.leave.new.notes c.leave.new.pages
    c.in_ok-leave.ensures.leaves c.in_ok-leave.ensures.count c.in_ok-leave.ensures.runs c.give_back.new.pages gives c.give_back.ensures.count c.give_back.ensures.runs.touches c.give_back.ensures.runs.works.steady.is_told)
    c.give_back.ensures.gives

pub returns-clause-runs : goal.returns-clause-runs
returns-clause-runs g c =
    giving_run c.args.def.now c.requires.defined c.at-map.result.tree c.at-map.ensures c.at-map.result.seven c.args.shape c.args.notes.now c.args.pages.now c.args.block c.leave.new.notes c.leave.new.pages
    c.in_ok-leave.ensures.leaves c.in_ok-leave.ensures.count c.in_ok-leave.ensures.runs c.requires.within {fault = fault_of c.give_back.result} c.give_back.ensures.runs
