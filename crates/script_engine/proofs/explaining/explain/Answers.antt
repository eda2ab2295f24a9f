use Rattle.store_api.proofs.RunsOverPagesLemmas.{runs_memory, runs_none}
use Rattle.std.proofs.Common.{refl, subst}
use Rattle.script_engine.proofs.ExplainLemmas.{bound_serves, explain_refused, explains_ready, is_bound_explain}
use Rattle.script_engine.proofs.FetchesForStatementLemmas.{fetches_none}
use Rattle.script_engine.specs.Fetching.{FetchesForStatement}
use Rattle.script_engine.proofs.explaining.explain.Goals as goal

pub explain_bound-requires-clause-there : goal.explain_bound-requires-clause-there
explain_bound-requires-clause-there g c = bound_serves c.args.tables.now.catalog c.args.stmt.now c.in-Ok.bound c.in-Ok.ensures.bound

pub explain_bound-requires-clause-explains : goal.explain_bound-requires-clause-explains
explain_bound-requires-clause-explains g c = is_bound_explain c.args.tables.now.catalog c.args.stmt.now c.in-Ok.bound c.requires.explains c.in-Ok.ensures.bound

pub returns-in-Ok-clause-does : goal.returns-in-Ok-clause-does
returns-in-Ok-clause-does g c =
    explains_ready g.P.Pages c.args.pages.now c.explain_bound.new.pages c.args.tables.now c.requires.served c.explain_bound.ensures.runs.works.steady.is_told c.explain_bound.ensures.same
    c.args.stmt.now c.in-Ok.bound c.explain_bound.result c.requires.explains c.in-Ok.ensures.bound c.explain_bound.ensures.explains

pub returns-in-Err-Refused-clause-does : goal.returns-in-Err-Refused-clause-does
returns-in-Err-Refused-clause-does g c ready =
    explain_refused g.P.Pages c.args.pages.now c.args.pages.now c.args.tables.now c.requires.served refl refl c.args.stmt.now c.in-Err-Refused.field-0 c.in-Err-Refused.refusal c.requires.explains
    c.in-Err-Refused.field-0-is c.in-Err-Refused.ensures.refused ready

pub returns-in-Err-Refused-clause-runs : goal.returns-in-Err-Refused-clause-runs
returns-in-Err-Refused-clause-runs g c = runs_none

pub returns-in-Err-Memory-clause-runs : goal.returns-in-Err-Memory-clause-runs
returns-in-Err-Memory-clause-runs g c = runs_memory runs_none

pub returns-in-Ok-clause-fetches : goal.returns-in-Ok-clause-fetches
returns-in-Ok-clause-fetches g c =
    subst (FetchesForStatement g.P.Pages c.args.tables.now.shape c.args.pages.now c.explain_bound.new.pages c.args.tables.now.catalog c.args.tables.now.settings) c.in-Ok.ensures.bound.1 c.explain_bound.ensures.fetches

pub returns-in-Err-Refused-clause-fetches : goal.returns-in-Err-Refused-clause-fetches
returns-in-Err-Refused-clause-fetches g c = fetches_none g.P.Pages c.args.tables.now.shape c.args.tables.now.catalog c.args.tables.now.settings c.args.pages.now _

pub returns-in-Err-Memory-clause-fetches : goal.returns-in-Err-Memory-clause-fetches
returns-in-Err-Memory-clause-fetches g c = fetches_none g.P.Pages c.args.tables.now.shape c.args.tables.now.catalog c.args.tables.now.settings c.args.pages.now _
