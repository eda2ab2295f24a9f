use Rattle.mdc_ast.specs.declared.bound.Bound.TheVariants as bound
use Rattle.store_api.proofs.RunsOverPagesLemmas.{runs_exit, runs_memory, runs_none}
use Rattle.row_checks.specs.Served.{MayJudge}
use Rattle.script_engine.proofs.ExplainingLemmas.{explains_found}
use Rattle.script_engine.proofs.FetchesForStatementLemmas.{fetches_explain, fetches_none}
use Rattle.script_engine.proofs.ReadRowsLemmas.{may_judge_read}
use Rattle.script_engine.proofs.ReadyTablesLemmas.{served_def}
use Rattle.script_engine.proofs.ScannedTablesLemmas.{is_defined, runs_by_plan}
use Rattle.script_engine.proofs.explaining.explain_query.Goals as goal

pub word_by-requires : goal.word_by-requires
word_by-requires g c = record { defined = (served_def c.args.tables.now.catalog c.args.select.now.table c.in-Some.def.now c.requires.served c.in-Some.ensures).limits }

pub returns-in_err-word-clause-fetches : goal.returns-in_err-word-clause-fetches
returns-in_err-word-clause-fetches g c = fetches_none g.P.Pages c.args.tables.now.shape c.args.tables.now.catalog c.args.tables.now.settings c.args.pages.now (bound.Explain c.args.select.now)

pub returns-in_err-word-clause-runs : goal.returns-in_err-word-clause-runs
returns-in_err-word-clause-runs g c = runs_exit c.from_residual.result c.from_residual.ensures.1 (runs_memory runs_none)

pub find_by_plan-requires-clause-defined : goal.find_by_plan-requires-clause-defined
find_by_plan-requires-clause-defined g c = (served_def c.args.tables.now.catalog c.args.select.now.table c.in-Some.def.now c.requires.served c.in-Some.ensures).limits

pub find_by_plan-requires-clause-judged : goal.find_by_plan-requires-clause-judged
find_by_plan-requires-clause-judged g c row read =
    may_judge_read c.args.select.now.pred c.in-Some.def.now (is_defined _ c.in-Some.def.now (MayJudge c.args.select.now.pred) c.in-Some.ensures c.requires.there) row read

pub returns-in_err-found-clause-fetches : goal.returns-in_err-found-clause-fetches
returns-in_err-found-clause-fetches g c =
    fetches_explain g.P.Pages c.args.tables.now.shape c.args.tables.now.catalog c.args.tables.now.settings c.args.pages.now c.find_by_plan.new.pages c.args.select.now c.in-Some.def.now c.in-Some.ensures c.requires.there
    c.in_err-found.ensures.runs.brings

pub returns-in_err-found-clause-runs : goal.returns-in_err-found-clause-runs
returns-in_err-found-clause-runs g c =
    runs_exit c.from_residual-in_err-found.result c.from_residual-in_err-found.ensures.1
    (runs_by_plan g.P.Pages c.args.pages.now c.find_by_plan.new.pages c.args.tables.now c.args.select.now.table c.in-Some.def.now c.requires.served c.in-Some.ensures c.in_err-found.ensures.runs)

pub returns-in_err-told-clause-fetches : goal.returns-in_err-told-clause-fetches
returns-in_err-told-clause-fetches g c =
    fetches_explain g.P.Pages c.args.tables.now.shape c.args.tables.now.catalog c.args.tables.now.settings c.args.pages.now c.find_by_plan.new.pages c.args.select.now c.in-Some.def.now c.in-Some.ensures c.requires.there
    c.in_ok-found.ensures.runs.brings

pub returns-in_err-told-clause-runs : goal.returns-in_err-told-clause-runs
returns-in_err-told-clause-runs g c =
    runs_exit c.from_residual-in_err-told.result c.from_residual-in_err-told.ensures.1
    (runs_memory (runs_by_plan g.P.Pages c.args.pages.now c.find_by_plan.new.pages c.args.tables.now c.args.select.now.table c.in-Some.def.now c.requires.served c.in-Some.ensures c.in_ok-found.ensures.runs))

pub returns-clause-explains : goal.returns-clause-explains
returns-clause-explains g c =
    explains_found g.P.Pages c.args.pages.now c.args.tables.now c.requires.served c.args.select.now c.in-Some.def.now c.in_ok-word.word c.in_ok-found.found c.in_ok-told.field-0 c.in-Some.ensures
    c.in_ok-word.ensures c.in_ok-found.ensures.finds c.in_ok-found.ensures.counts c.in_ok-told.ensures

pub returns-clause-fetches : goal.returns-clause-fetches
returns-clause-fetches g c =
    fetches_explain g.P.Pages c.args.tables.now.shape c.args.tables.now.catalog c.args.tables.now.settings c.args.pages.now c.find_by_plan.new.pages c.args.select.now c.in-Some.def.now c.in-Some.ensures c.requires.there
    c.in_ok-found.ensures.runs.brings

pub returns-clause-runs : goal.returns-clause-runs
returns-clause-runs g c =
    runs_by_plan g.P.Pages c.args.pages.now c.find_by_plan.new.pages c.args.tables.now c.args.select.now.table c.in-Some.def.now c.requires.served c.in-Some.ensures c.in_ok-found.ensures.runs
