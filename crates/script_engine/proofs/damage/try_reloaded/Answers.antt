use Rattle.std.proofs.Common.{◌≡◌, ◌∙◌, false, refl, subst, sym, true}
use Rattle.stored_catalog.specs.StoredDefinitions.{AreStored}
use Rattle.script_engine.proofs.AnsweringAnewLemmas.{answer_tried, answer_unbuilt}
use Rattle.script_engine.proofs.RetryingLemmas.{ready_read, served_read, tried_read, tried_stopped, tried_unchanged, unbroken_read}
use Rattle.script_engine.proofs.damage.try_reloaded.Goals as goal

pub returns-in_err-catalog-clause-unbroken : goal.returns-in_err-catalog-clause-unbroken
returns-in_err-catalog-clause-unbroken g c =
    unbroken_read g.P.Pages c.args.pages.now c.load_catalog.new.pages c.args.tables.now c.args.tables.now c.from_residual.result c.in_err-catalog.field-0.0 c.from_residual.ensures.1 c.in_err-catalog.ensures.runs

pub try_statement-requires-clause-served : goal.try_statement-requires-clause-served
try_statement-requires-clause-served g c = served_read c.in_ok-catalog.catalog c.replace-kept.new.dest c.replace-kept.ensures.after c.in_ok-catalog.ensures.limits (c.in_ok-catalog.ensures.names, c.in_ok-catalog.ensures.index_names) (sym c.if-not-are_served.ensures)

pub returns-in-Err-clause-unbroken : goal.returns-in-Err-clause-unbroken
returns-in-Err-clause-unbroken g c damage is told sound =
    c.in-Err.ensures.tries.damaged damage is
    (ready_read g.P.Pages c.args.pages.now c.load_catalog.new.pages c.args.tables.now (record c.forget.new.self { catalog = c.replace-kept.new.dest }) c.in_ok-catalog.catalog c.in_ok-catalog.ensures.runs
    c.in_ok-catalog.ensures.same c.replace-kept.ensures.after c.in_ok-catalog.ensures.loads c.in_ok-catalog.ensures.limits (c.in_ok-catalog.ensures.names, c.in_ok-catalog.ensures.index_names) (sym c.if-not-are_served.ensures) c.forget.ensures.shape
    c.forget.ensures.notes c.forget.ensures.rooms told sound)

pub returns-then-not-are_served-clause-answers : goal.returns-then-not-are_served-clause-answers
returns-then-not-are_served-clause-answers g c =
    answer_unbuilt g.P.Pages c.args.stmt.now c.args.pages.now c.args.tables.now (record c.forget.new.self { catalog = c.in_ok-catalog.catalog }) c.in_ok-catalog.catalog refl c.in_ok-catalog.ensures.loads c.forget.ensures.shape c.forget.ensures.settings c.forget.ensures.notes c.forget.ensures.rooms
    c.load_catalog.new.pages c.forget.new.self c.not_built.result (sym c.if-not-are_served.ensures) c.not_built.ensures

pub returns-then-has_changed-clause-tries : goal.returns-then-has_changed-clause-tries
returns-then-has_changed-clause-tries g c =
    tried_read g.P.Pages c.args.stmt.now c.args.pages.now c.load_catalog.new.pages c.try_statement.new.pages c.args.tables.now (record c.forget.new.self { catalog = c.replace-kept.new.dest }) c.try_statement.new.tables
    c.in_ok-catalog.ensures.runs c.in_ok-catalog.ensures.same c.forget.ensures.shape c.forget.ensures.settings c.in-Ok.outcome
    (λ told. subst (AreStored (g.P.Pages.state c.args.pages.now).work) (sym c.replace-kept.ensures.after) (c.in_ok-catalog.ensures.loads told)) (sym c.has_changed.ensures ∙ c.if-has_changed.true) c.in-Ok.ensures.tries

pub returns-then-has_changed-clause-answers : goal.returns-then-has_changed-clause-answers
returns-then-has_changed-clause-answers g c =
    answer_tried g.P.Pages c.args.stmt.now c.args.pages.now c.args.tables.now (record c.forget.new.self { catalog = c.replace-kept.new.dest }) c.in_ok-catalog.catalog c.replace-kept.ensures.after c.in_ok-catalog.ensures.loads c.forget.ensures.shape c.forget.ensures.settings c.forget.ensures.notes c.forget.ensures.rooms
    c.load_catalog.new.pages c.try_statement.new.pages c.try_statement.new.tables c.try_statement.new.tables c.in-Ok.outcome
    c.in_ok-catalog.ensures.runs c.in_ok-catalog.ensures.same c.in_ok-catalog.ensures.limits (c.in_ok-catalog.ensures.names, c.in_ok-catalog.ensures.index_names) (sym c.if-not-are_served.ensures)
    c.in-Ok.ensures.tries (λ changed. refl)

pub returns-else-has_changed-clause-tries : goal.returns-else-has_changed-clause-tries
returns-else-has_changed-clause-tries g c =
    tried_unchanged g.P.Pages c.args.stmt.now c.args.pages.now c.load_catalog.new.pages c.try_statement.new.pages c.args.tables.now (record c.forget.new.self { catalog = c.replace-kept.new.dest }) c.try_statement.new.tables
    c.in_ok-catalog.ensures.runs c.in_ok-catalog.ensures.same c.forget.ensures.shape c.forget.ensures.settings (record c.try_statement.new.tables { catalog = c.replace-kept.result }) (c.replace-kept.ensures.value ∙ c.forget.ensures.catalog) refl refl
    c.in-Ok.outcome c.requires.served (sym c.has_changed.ensures ∙ c.if-has_changed.false) c.in-Ok.ensures.tries

pub returns-else-has_changed-clause-answers : goal.returns-else-has_changed-clause-answers
returns-else-has_changed-clause-answers g c =
    answer_tried g.P.Pages c.args.stmt.now c.args.pages.now c.args.tables.now (record c.forget.new.self { catalog = c.replace-kept.new.dest }) c.in_ok-catalog.catalog c.replace-kept.ensures.after c.in_ok-catalog.ensures.loads c.forget.ensures.shape c.forget.ensures.settings c.forget.ensures.notes c.forget.ensures.rooms
    c.load_catalog.new.pages c.try_statement.new.pages c.try_statement.new.tables (record c.try_statement.new.tables { catalog = c.replace-kept.result }) c.in-Ok.outcome
    c.in_ok-catalog.ensures.runs c.in_ok-catalog.ensures.same c.in_ok-catalog.ensures.limits (c.in_ok-catalog.ensures.names, c.in_ok-catalog.ensures.index_names) (sym c.if-not-are_served.ensures)
    c.in-Ok.ensures.tries (λ changed. let wrong : true ≡ false = sym changed ∙ (sym c.has_changed.ensures ∙ c.if-has_changed.false) in absurd (cc))

pub returns-in-Err-clause-tries : goal.returns-in-Err-clause-tries
returns-in-Err-clause-tries g c =
    tried_stopped g.P.Pages c.args.stmt.now c.args.pages.now c.load_catalog.new.pages c.try_statement.new.pages c.args.tables.now (record c.forget.new.self { catalog = c.replace-kept.new.dest }) c.try_statement.new.tables
    c.in_ok-catalog.ensures.runs c.in_ok-catalog.ensures.same c.forget.ensures.shape c.forget.ensures.settings (record c.try_statement.new.tables { catalog = c.replace-kept.result }) (c.replace-kept.ensures.value ∙ c.forget.ensures.catalog) refl refl c.in-Err.stop c.in-Err.ensures.tries
