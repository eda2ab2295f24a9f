use Rattle.std.proofs.Common.{◌∙◌, None, Some, subst}
use Rattle.std.proofs.lemmas.Result.{on_ok_weaker}
use Rattle.store_api.specs.Causes.{fault_of}
use Rattle.store_api.proofs.RunsOverPagesLemmas.{runs_exit}
use Rattle.mdc_table.specs.SeenBlocks.{HasSeenCountedBlock}
use Rattle.row_entries.proofs.TableEntriesLemmas.{on_ok_both}
use Rattle.executor.specs.SeenParts.{whole_listed}
use Rattle.executor.proofs.PartRunsLemmas.{line_runs, whole_given, whole_runs}
use Rattle.executor.proofs.whole.scan_whole.Goals as goal

pub returns-in_err-rows-clause-runs : goal.returns-in_err-rows-clause-runs
returns-in_err-rows-clause-runs g c =
    runs_exit c.from_residual.result c.from_residual.ensures.1 (line_runs c.args.shape c.args.def.now c.args.block {fault = Some c.in_err-rows.field-0.0} c.requires.used c.in_err-rows.ensures.runs)

pub returns-clause-given : goal.returns-clause-given
returns-clause-given g c =
    let first = line_runs c.args.shape c.args.def.now c.args.block {fault = None} c.requires.used c.in_ok-rows.ensures.runs in
    on_ok_weaker c.scan_settled.result
    (whole_given c.args.shape c.args.def.now c.args.block c.in_ok-rows.ensures.same first c.requires.used c.in_ok-rows.rows c.in_ok-rows.ensures.line g.K.RowSink c.args.settled.now.sink.now c.scan_settled.new.settled.sink.now
    c.args.settled.now.pred.now) c.scan_settled.ensures.given

pub returns-clause-seen : goal.returns-clause-seen
returns-clause-seen g c =
    let looked = c.in_ok-rows.ensures in
    on_ok_both c.scan_settled.result (λ seen some told. record {
      rows = c.in_ok-rows.rows;
      line = looked.line;
      some = some;
      seen = subst (λ pages. HasSeenCountedBlock c.args.shape pages c.args.def.now (whole_listed c.args.block c.in_ok-rows.rows)) looked.same (seen (looked.runs.works.steady.is_told ∙ told));
    }) c.scan_settled.ensures.seen c.scan_settled.ensures.some

pub returns-clause-runs : goal.returns-clause-runs
returns-clause-runs g c =
    let first = line_runs c.args.shape c.args.def.now c.args.block {fault = None} c.requires.used c.in_ok-rows.ensures.runs in
    whole_runs c.args.shape c.args.def.now c.args.block c.in_ok-rows.ensures.same first c.requires.used c.in_ok-rows.rows c.in_ok-rows.ensures.line {fault = fault_of c.scan_settled.result} c.scan_settled.ensures.runs
