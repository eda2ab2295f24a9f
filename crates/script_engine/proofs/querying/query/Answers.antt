use Rattle.std.proofs.Common.{None, ap, subst}
use Rattle.mdc_ast.specs.declared.reply.Outcome.TheVariants as said
use Rattle.mdc_ast.specs.declared.reply.Reply.TheVariants as reply
use Rattle.store_api.specs.Frame.{NoPage}
use Rattle.store_api.specs.RunsOverPages.{RunsOverPages}
use Rattle.row_checks.specs.Served.{MayShowRows}
use Rattle.statement_rows.specs.RowsOfStatement.{AnyPage}
use Rattle.table_query.specs.QueryAnswers.{IsFirstOverflow, store_part_of}
use Rattle.script_engine.specs.Ready.{BreaksDatabase}
use Rattle.script_engine.proofs.DoneRowsLemmas.{query_does}
use Rattle.script_engine.proofs.FetchesForStatementLemmas.{fetches_query}
use Rattle.script_engine.proofs.ReadRowsLemmas.{may_judge_read}
use Rattle.script_engine.proofs.ReadyTablesLemmas.{served_def}
use Rattle.script_engine.proofs.ScannedTablesLemmas.{is_defined, runs_by_plan}
use Rattle.script_engine.proofs.querying.query.Goals as goal

pub answer-requires-clause-defined : goal.answer-requires-clause-defined
answer-requires-clause-defined g c = (served_def c.args.tables.now.catalog c.args.select.now.table c.in-Some.def.now c.requires.served c.in-Some.ensures).limits

pub answer-requires-clause-shown : goal.answer-requires-clause-shown
answer-requires-clause-shown g c = (is_defined _ c.in-Some.def.now (MayShowRows c.args.select.now.outs c.args.select.now.pred) c.in-Some.ensures c.requires.there).shown

pub answer-requires-clause-judged : goal.answer-requires-clause-judged
answer-requires-clause-judged g c row read =
    may_judge_read c.args.select.now.pred c.in-Some.def.now
    (is_defined _ c.in-Some.def.now (MayShowRows c.args.select.now.outs c.args.select.now.pred) c.in-Some.ensures c.requires.there).judge row read

pub returns-in-Ok-clause-does : goal.returns-in-Ok-clause-does
returns-in-Ok-clause-does g c ready =
    query_does g.P.Pages c.args.pages.now c.answer.new.pages c.args.tables.now c.args.select.now c.in-Some.def.now (said.Done (reply.Lines c.in-Ok.lines)) c.requires.served
    c.in-Some.ensures c.in-Ok.ensures.runs.works.steady.is_told c.in-Ok.ensures.same c.in-Ok.ensures.answers ready

pub returns-in-Err-Overflow-clause-does : goal.returns-in-Err-Overflow-clause-does
returns-in-Err-Overflow-clause-does g c ready =
    query_does g.P.Pages c.args.pages.now c.answer.new.pages c.args.tables.now c.args.select.now c.in-Some.def.now (said.Refused c.overflow.result) c.requires.served
    c.in-Some.ensures c.in-Err-Overflow.ensures.runs.works.steady.is_told c.in-Err-Overflow.ensures.same
    (λ owners forests rows st indexes are.
    let says = subst (IsFirstOverflow c.in-Some.def.now.columns c.args.select.now rows) c.in-Err-Overflow.field-0-is (c.in-Err-Overflow.ensures.answers owners forests rows st indexes are) in
    record { name = c.in-Err-Overflow.column; more = says.0; first = says.1; refusal_is = c.overflow.ensures }) ready

pub returns-in-Ok-clause-fetches : goal.returns-in-Ok-clause-fetches
returns-in-Ok-clause-fetches g c =
    fetches_query g.P.Pages c.args.tables.now.shape c.args.tables.now.catalog c.args.tables.now.settings c.args.pages.now c.answer.new.pages c.args.select.now c.in-Some.def.now c.in-Some.ensures c.requires.there
    c.in-Ok.ensures.runs.brings

pub returns-in-Err-Overflow-clause-fetches : goal.returns-in-Err-Overflow-clause-fetches
returns-in-Err-Overflow-clause-fetches g c =
    fetches_query g.P.Pages c.args.tables.now.shape c.args.tables.now.catalog c.args.tables.now.settings c.args.pages.now c.answer.new.pages c.args.select.now c.in-Some.def.now c.in-Some.ensures c.requires.there
    c.in-Err-Overflow.ensures.runs.brings

pub returns-in-Err-Store-clause-fetches : goal.returns-in-Err-Store-clause-fetches
returns-in-Err-Store-clause-fetches g c =
    fetches_query g.P.Pages c.args.tables.now.shape c.args.tables.now.catalog c.args.tables.now.settings c.args.pages.now c.answer.new.pages c.args.select.now c.in-Some.def.now c.in-Some.ensures c.requires.there
    c.in-Err-Store.ensures.runs.brings

pub returns-in-Ok-clause-runs : goal.returns-in-Ok-clause-runs
returns-in-Ok-clause-runs g c =
    runs_by_plan g.P.Pages c.args.pages.now c.answer.new.pages c.args.tables.now c.args.select.now.table c.in-Some.def.now {fault = None} c.requires.served c.in-Some.ensures c.in-Ok.ensures.runs

pub returns-in-Err-Overflow-clause-runs : goal.returns-in-Err-Overflow-clause-runs
returns-in-Err-Overflow-clause-runs g c =
    subst (RunsOverPages g.P.Pages NoPage AnyPage (BreaksDatabase g.P.Pages c.args.pages.now c.args.tables.now) c.args.pages.now c.answer.new.pages) (ap store_part_of c.in-Err-Overflow.field-0-is)
    (runs_by_plan g.P.Pages c.args.pages.now c.answer.new.pages c.args.tables.now c.args.select.now.table c.in-Some.def.now c.requires.served c.in-Some.ensures c.in-Err-Overflow.ensures.runs)

pub returns-in-Err-Store-clause-runs : goal.returns-in-Err-Store-clause-runs
returns-in-Err-Store-clause-runs g c =
    subst (RunsOverPages g.P.Pages NoPage AnyPage (BreaksDatabase g.P.Pages c.args.pages.now c.args.tables.now) c.args.pages.now c.answer.new.pages) (ap store_part_of c.in-Err-Store.field-0-is)
    (runs_by_plan g.P.Pages c.args.pages.now c.answer.new.pages c.args.tables.now c.args.select.now.table c.in-Some.def.now c.requires.served c.in-Some.ensures c.in-Err-Store.ensures.runs)
