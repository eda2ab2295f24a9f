-- A session on an engine that was opened, or none where it wasn't.
use Rattle.mdc_words.specs.Time.{OverTime}
use Rattle.std.proofs.Common.{◌≡◌, Err, false, subst, sym, ◌∙◌}
use Rattle.store_api.specs.Works.{Rests}
use Rattle.session.proofs.FetchedRunsLemmas.{fetches_more_then}
use Rattle.session.proofs.StopsLemmas.{fault_of_script, names_damage}
use Rattle.session.specs.script.Fetching.{FetchesMore}
use Rattle.session.proofs.ToldLemmas.{same-tells_more}
use Rattle.session.specs.script.Leaving.{ReopensAlways}
use Rattle.session.specs.Stops.{IsOfScript}
use Rattle.session.specs.declared.stop.Stop.{Stop}
use Rattle.session.specs.declared.stop.Stop.TheVariants as why
use Rattle.session.specs.file.Running.{RunsAnyOnStore, RunsOnStore}
use Rattle.session.proofs.AnyStoreRunsLemmas.{any_served, any_stopped}
use Rattle.session.proofs.StoreRunsLemmas.{ends_by, reopens_opening, reopens_served, served_on_store, stopped_on_store, takes_stopped}
use Rattle.session.proofs.file.serving.serve_pages.Goals as goal

pub returns-in-Ok-clause-runs : goal.returns-in-Ok-clause-runs
returns-in-Ok-clause-runs g c = λ sound.
    let ready = c.in-Ok.ensures.ready sound in
    let script = g.I.Source.left c.args.input.now in
    let left = g.I.Source.left c.serve-end.new.input in
    let Runs : g.row.S.Denot → Type 0 = λ s. RunsOnStore g.S.Pages c.args.shape script left c.args.store s c.serve-end.result in
    subst Runs (sym c.close.ensures) (served_on_store g.S.Pages script left c.serve-end.result c.args.shape c.args.store c.in-Ok.engine c.serve-end.new.engine sound ready
    c.in-Ok.ensures.pages c.in-Ok.ensures.brings c.in-Ok.ensures.closed c.in-Ok.ensures.settings c.in-Ok.ensures.pass c.in-Ok.ensures.shape (c.serve-end.ensures.runs ready) (λ damage is. c.serve-end.ensures.damaged damage is ready))

pub returns-in-Ok-clause-damaged : goal.returns-in-Ok-clause-damaged
returns-in-Ok-clause-damaged g c = λ damage is sound. c.serve-end.ensures.damaged damage is (c.in-Ok.ensures.ready sound)

pub returns-in-Err-clause-runs : goal.returns-in-Err-clause-runs
returns-in-Err-clause-runs g c = λ sound.
    let script = g.I.Source.left c.args.input.now in
    let Runs : Stop → Type 0 = λ stop. RunsOnStore g.S.Pages c.args.shape script script c.args.store c.in-Err.field-0.store (Err stop) in
    subst Runs (sym c.from.ensures) (stopped_on_store g.S.Pages script c.in-Err.field-0.stop c.args.shape c.args.store c.in-Err.field-0.store sound c.in-Err.ensures.pages (c.in-Err.ensures.brings sound.told sound.sound)
    (λ damage is. c.in-Err.ensures.damaged damage is sound.told sound.sound))

pub returns-in-Err-clause-takes : goal.returns-in-Err-clause-takes
returns-in-Err-clause-takes g c = takes_stopped (g.I.Source.left c.args.input.now) c.in-Err.field-0.stop c.from.result c.from.ensures

pub returns-in-Err-clause-tells : goal.returns-in-Err-clause-tells
returns-in-Err-clause-tells g c = same-tells_more _ _ c.in-Err.ensures.pages.told

pub returns-in-Ok-clause-log : goal.returns-in-Ok-clause-log
returns-in-Ok-clause-log g c =
    let opens = c.in-Ok.ensures.log in
    let Goes : g.row.S.Denot → Type 0 = λ s. FetchesMore (g.S.Pages.state c.args.store).fetched (g.S.Pages.state s).fetched in
    subst Goes (sym c.close.ensures) (fetches_more_then (record { pages = opens.pages; goes_on = opens.brought.log }) c.serve-end.ensures.log)

pub returns-in-Err-clause-log : goal.returns-in-Err-clause-log
returns-in-Err-clause-log g c = let opens = c.in-Err.ensures.log in record { pages = opens.pages; goes_on = opens.brought.log }

pub returns-in-Ok-clause-reopens : goal.returns-in-Ok-clause-reopens
returns-in-Ok-clause-reopens g c =
    let Reopens : g.row.S.Denot → Type 0 = λ s. OverTime g.S.Pages.clock g.S.Pages.left ReopensAlways c.args.store s in
    subst Reopens (sym c.close.ensures) (reopens_served g.S.Pages c.args.store c.in-Ok.engine.store c.serve-end.new.engine.store c.in-Ok.ensures.pages c.serve-end.ensures.reopens)

pub returns-in-Err-clause-reopens : goal.returns-in-Err-clause-reopens
returns-in-Err-clause-reopens g c = reopens_opening g.S.Pages c.args.store c.in-Err.field-0.store c.in-Err.ensures.pages

pub returns-in-Err-clause-damaged : goal.returns-in-Err-clause-damaged
returns-in-Err-clause-damaged g c = λ damage is sound.
    let named : c.from.result ≡ why.Damaged damage = cc in
    c.in-Err.ensures.damaged damage (names_damage c.in-Err.field-0.stop damage (sym c.from.ensures ∙ named)) sound.told sound.sound

-- ---- whatever the pages are

pub returns-in-Ok-clause-any : goal.returns-in-Ok-clause-any
returns-in-Ok-clause-any g c = λ committed.
    let opened = c.in-Ok.ensures in
    let script = g.I.Source.left c.args.input.now in
    let left = g.I.Source.left c.serve-end.new.input in
    let Runs : g.row.S.Denot → Type 0 = λ s. RunsAnyOnStore g.S.Pages c.args.shape script left c.args.store s c.serve-end.result in
    subst Runs (sym c.close.ensures) (any_served g.S.Pages script left c.serve-end.result c.args.shape c.args.store c.in-Ok.engine c.serve-end.new.engine committed
    opened.pages opened.closed opened.settings opened.pass opened.shape opened.stored (c.serve-end.ensures.any (opened.opened committed)))

pub returns-in-Err-clause-any : goal.returns-in-Err-clause-any
returns-in-Err-clause-any g c = λ committed.
    let script = g.I.Source.left c.args.input.now in
    let Runs : Stop → Type 0 = λ stop. RunsAnyOnStore g.S.Pages c.args.shape script script c.args.store c.in-Err.field-0.store (Err stop) in
    subst Runs (sym c.from.ensures) (any_stopped g.S.Pages script c.in-Err.field-0.stop c.args.shape c.args.store c.in-Err.field-0.store committed c.in-Err.ensures.pages c.in-Err.ensures.breaks)

pub returns-in-Ok-clause-going : goal.returns-in-Ok-clause-going
returns-in-Ok-clause-going g c = λ committed other.
    let Goes : g.row.S.Denot → Type 0 = λ s. (g.S.Pages.state s).ended ≡ false in
    subst Goes (sym c.close.ensures) (c.serve-end.ensures.going (c.in-Ok.ensures.opened committed) (λ is. other (ends_by c.serve-end.result why.Device is)))

pub returns-in-Err-clause-going : goal.returns-in-Err-clause-going
returns-in-Err-clause-going g c = λ committed other. c.in-Err.ensures.ended ∙ c.requires.going

pub returns-in-Ok-clause-rests : goal.returns-in-Ok-clause-rests
returns-in-Ok-clause-rests g c = λ rests. subst (Rests g.S.Pages) (sym c.close.ensures) (c.serve-end.ensures.rests (c.in-Ok.ensures.rests rests))

pub returns-in-Err-clause-rests : goal.returns-in-Err-clause-rests
returns-in-Err-clause-rests g c = c.in-Err.ensures.rests

pub returns-in-Err-clause-stop : goal.returns-in-Err-clause-stop
returns-in-Err-clause-stop g c = subst IsOfScript (sym c.from.ensures) (fault_of_script c.in-Err.field-0.stop)
