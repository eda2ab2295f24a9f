use Rattle.std.proofs.Common.{None, Some, ◌∙◌}
use Rattle.store_api.proofs.RunsOverPagesLemmas.{runs_exit}
use Rattle.mdc_sound.proofs.StandingTableLemmas.{stands_same}
use Rattle.mdc_table.proofs.StandingBlocksLemmas.{runs_reading}
use Rattle.mdc_table.proofs.account.account_of.Goals as goal

pub returns-in_err-free-clause-runs : goal.returns-in_err-free-clause-runs
returns-in_err-free-clause-runs g c =
    runs_exit c.from_residual-in_err-free.result c.from_residual-in_err-free.ensures.1
    (runs_reading {fault = Some c.in_err-free.field-0.0} c.args.shape c.args.def.now c.count_blocks.ensures.same c.in_ok-used.ensures.runs c.in_err-free.ensures.runs)

pub returns-in_err-pending-clause-runs : goal.returns-in_err-pending-clause-runs
returns-in_err-pending-clause-runs g c =
    let shape = c.args.shape in
    let def = c.args.def.now in
    runs_exit c.from_residual-in_err-pending.result c.from_residual-in_err-pending.ensures.1
    (runs_reading {fault = Some c.in_err-pending.field-0.0} shape def (c.count_blocks-2.ensures.same ∙ c.count_blocks.ensures.same)
    (runs_reading {fault = None} shape def c.count_blocks.ensures.same c.in_ok-used.ensures.runs c.in_ok-free.ensures.runs) c.in_err-pending.ensures.runs)

pub returns-clause-counts : goal.returns-clause-counts
returns-clause-counts g c owners forests st =
    let shape = c.args.shape in
    let def = c.args.def.now in
    let first = c.in_ok-used.ensures.runs.works.steady.is_told in
    let second = c.in_ok-free.ensures.runs.works.steady.is_told in
    let mid = stands_same shape c.args.pages.now c.count_blocks.new.pages def owners forests first c.count_blocks.ensures.same st in
    record {
      used = c.in_ok-used.ensures.counts owners forests st;
      free = c.in_ok-free.ensures.counts owners forests mid;
      pending = c.in_ok-pending.ensures.counts owners forests (stands_same shape c.count_blocks.new.pages c.count_blocks-2.new.pages def owners forests second c.count_blocks-2.ensures.same mid);
    }

pub returns-clause-runs : goal.returns-clause-runs
returns-clause-runs g c =
    let shape = c.args.shape in
    let def = c.args.def.now in
    runs_reading {fault = None} shape def (c.count_blocks-2.ensures.same ∙ c.count_blocks.ensures.same)
    (runs_reading {fault = None} shape def c.count_blocks.ensures.same c.in_ok-used.ensures.runs c.in_ok-free.ensures.runs) c.in_ok-pending.ensures.runs
