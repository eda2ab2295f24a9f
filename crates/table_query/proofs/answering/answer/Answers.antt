use Rattle.std.proofs.Common.{◌∙◌, Some, None, sym}
use Rattle.store_api.proofs.RunsOverPagesLemmas.{runs_exit_as}
use Rattle.table_query.specs.QueryAnswers.{store_part_of}
use Rattle.table_query.proofs.AnswersLemmas.{runs_told}
use Rattle.table_query.proofs.QueryAnswersLemmas.{rows_counted_are}
use Rattle.table_query.proofs.QueryPagesLemmas.{needs_unshared, runs_counted, runs_planned}
use Rattle.table_query.proofs.answering.answer.Goals as goal

pub returns-then-not-shares_lines-clause-runs : goal.returns-then-not-shares_lines-clause-runs
returns-then-not-shares_lines-clause-runs g c =
    runs_planned c.args.shape c.args.def.now c.args.mode c.args.select.now (needs_unshared c.args.def.now c.args.select.now (sym c.shares_lines.ensures ∙ c.if-not-shares_lines.true)) c.answer_from_copies.ensures.runs

pub returns-then-not-counts_by_cells-clause-runs : goal.returns-then-not-counts_by_cells-clause-runs
returns-then-not-counts_by_cells-clause-runs g c =
    runs_planned c.args.shape c.args.def.now c.args.mode c.args.select.now (c.counts_by_cells.ensures.rows c.if-not-counts_by_cells.true) c.answer_from_groups.ensures.runs

pub returns-in_err-count-clause-runs : goal.returns-in_err-count-clause-runs
returns-in_err-count-clause-runs g c =
    runs_exit_as store_part_of c.from_residual.result c.from_residual.ensures.1
    (runs_counted c.args.shape c.args.def.now c.args.mode c.args.select.now {fault = Some c.in_err-count.field-0.0} (c.counts_by_cells.ensures.counted c.if-not-counts_by_cells.false) c.in_err-count.ensures.runs)

pub returns-clause-runs : goal.returns-clause-runs
returns-clause-runs g c =
    runs_told (runs_counted c.args.shape c.args.def.now c.args.mode c.args.select.now {fault = None} (c.counts_by_cells.ensures.counted c.if-not-counts_by_cells.false) c.in_ok-count.ensures.runs) c.answer_from_count.result c.answer_from_count.ensures.memory

pub returns-clause-answers : goal.returns-clause-answers
returns-clause-answers g c = λ owners forests rows st indexes are.
    c.answer_from_count.ensures.answers rows
    (rows_counted_are g.P.Pages c.args.shape c.args.pages.now c.args.def.now c.args.select.now.pred forests rows c.in_ok-count.count are (c.in_ok-count.ensures.counts owners forests st))
