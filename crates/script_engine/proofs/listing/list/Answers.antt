use Rattle.std.proofs.Common.{subst, sym, ◌∙◌}
use Rattle.std.proofs.lemmas.Option.{same_Some}
use Rattle.mdc_ast.specs.declared.definition.TableDef.{TableDef}
use Rattle.mdc_sound.specs.StandingTable.{pages_of}
use Rattle.store_api.proofs.RunsOverPagesLemmas.{runs_exit, runs_memory, runs_none}
use Rattle.script_engine.specs.Listing.{TellsBlocks}
use Rattle.script_engine.proofs.FetchesForListingLemmas.{lists_counted}
use Rattle.script_engine.proofs.ListingLemmas.{runs_account, tells_account}
use Rattle.script_engine.proofs.listing.list.Goals as goal

pub returns-in-Ok-clause-runs : goal.returns-in-Ok-clause-runs
returns-in-Ok-clause-runs g c = runs_none

pub returns-in-Err-clause-runs : goal.returns-in-Err-clause-runs
returns-in-Err-clause-runs g c = runs_memory runs_none

pub returns-in_err-account-clause-runs : goal.returns-in_err-account-clause-runs
returns-in_err-account-clause-runs g c =
    runs_exit c.from_residual.result c.from_residual.ensures.1
    (runs_account g.P.Pages c.args.pages.now c.args.tables.now c.args.name.now c.in-Some.def.now c.requires.served c.in-Some.ensures.found c.account_of.new.pages c.in_err-account.ensures.runs)

pub returns-in-Ok-told-clause-tells : goal.returns-in-Ok-told-clause-tells
returns-in-Ok-told-clause-tells g c def named ready =
    let same = same_Some c.in-Some.def.now def (sym c.in-Some.ensures.found ∙ named) in
    subst (λ (d : TableDef). TellsBlocks (pages_of g.P.Pages c.args.pages.now) d c.in-Ok-told.outcome) same
    (tells_account g.P.Pages c.args.pages.now c.args.tables.now c.args.name.now c.in-Some.def.now c.requires.served c.in-Some.ensures.found c.in_ok-account.account c.in-Ok-told.outcome
    c.in_ok-account.ensures.counts c.in-Ok-told.ensures ready)

pub returns-in-Ok-told-clause-runs : goal.returns-in-Ok-told-clause-runs
returns-in-Ok-told-clause-runs g c =
    runs_account g.P.Pages c.args.pages.now c.args.tables.now c.args.name.now c.in-Some.def.now c.requires.served c.in-Some.ensures.found c.account_of.new.pages c.in_ok-account.ensures.runs

pub returns-in-Err-told-clause-runs : goal.returns-in-Err-told-clause-runs
returns-in-Err-told-clause-runs g c =
    runs_memory (runs_account g.P.Pages c.args.pages.now c.args.tables.now c.args.name.now c.in-Some.def.now c.requires.served c.in-Some.ensures.found c.account_of.new.pages c.in_ok-account.ensures.runs)

pub returns-in_err-account-clause-fetches : goal.returns-in_err-account-clause-fetches
returns-in_err-account-clause-fetches g c =
    lists_counted g.P.Pages c.args.tables.now.catalog c.args.pages.now c.account_of.new.pages c.args.name.now c.in-Some.def.now c.in-Some.ensures.found c.in_err-account.ensures.runs.brings

pub returns-in-Ok-told-clause-fetches : goal.returns-in-Ok-told-clause-fetches
returns-in-Ok-told-clause-fetches g c =
    lists_counted g.P.Pages c.args.tables.now.catalog c.args.pages.now c.account_of.new.pages c.args.name.now c.in-Some.def.now c.in-Some.ensures.found c.in_ok-account.ensures.runs.brings

pub returns-in-Err-told-clause-fetches : goal.returns-in-Err-told-clause-fetches
returns-in-Err-told-clause-fetches g c =
    lists_counted g.P.Pages c.args.tables.now.catalog c.args.pages.now c.account_of.new.pages c.args.name.now c.in-Some.def.now c.in-Some.ensures.found c.in_ok-account.ensures.runs.brings
