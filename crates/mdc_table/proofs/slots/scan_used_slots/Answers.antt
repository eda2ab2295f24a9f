use Rattle.std.proofs.Common.{◌∙◌, None, Some, sym}
use Rattle.store_api.proofs.RunsOverPagesLemmas.{runs_exit}
use Rattle.mdc_table.proofs.UsedSlotsLemmas.{runs_lacking, runs_of_slots}
use Rattle.mdc_table.proofs.slots.scan_used_slots.Goals as goal

pub returns-in_err-rows-clause-runs : goal.returns-in_err-rows-clause-runs
returns-in_err-rows-clause-runs g c =
    runs_exit c.from_residual.result c.from_residual.ensures.1
    (runs_of_slots c.args.shape c.args.def.now c.args.block c.args.slots.now {fault = Some c.in_err-rows.field-0.0} c.requires.below c.in_err-rows.ensures.once c.in_err-rows.ensures.runs)

pub returns-then-rows-slots-clause-runs : goal.returns-then-rows-slots-clause-runs
returns-then-rows-slots-clause-runs g c =
    runs_lacking c.args.shape c.args.def.now c.args.block c.args.slots.now c.rowless.result c.in_ok-rows.rows c.rowless.ensures c.in_ok-rows.ensures.counted
    c.if-rows-slots.true
    (runs_of_slots c.args.shape c.args.def.now c.args.block c.args.slots.now {fault = None} c.requires.below c.in_ok-rows.ensures.once c.in_ok-rows.ensures.runs)

pub returns-clause-seen : goal.returns-clause-seen
returns-clause-seen g c = λ told. record {
  seen = c.in_ok-rows.ensures.seen told;
  filled = sym (c.in_ok-rows.ensures.counted told) ∙ c.if-rows-slots.false;
}

pub returns-clause-runs : goal.returns-clause-runs
returns-clause-runs g c = runs_of_slots c.args.shape c.args.def.now c.args.block c.args.slots.now {fault = None} c.requires.below c.in_ok-rows.ensures.once c.in_ok-rows.ensures.runs
