-- EXPLAIN: it is answered as lists of rows have it, or as the pages tell.
use Rattle.std.proofs.Common.{◌≡◌, ◌∙◌, ℕ, List, [], ◌∷◌, true, refl, sym, ap, subst, Option, Some, None, Result, Ok, Err}
use Rattle.std.specs.Prelude.{IfOk, if◌then◌else◌, option_and_then}
use Rattle.mdc_ast.specs.declared.bound.Bound.{Bound}
use Rattle.mdc_ast.specs.declared.bound.Bound.TheVariants as bound
use Rattle.mdc_ast.specs.declared.refusal.Refusal.{Refusal}
use Rattle.mdc_ast.specs.declared.reply.Outcome.{Outcome}
use Rattle.mdc_ast.specs.declared.reply.Outcome.TheVariants as said
use Rattle.mdc_ast.specs.declared.statement.Select.{Select}
use Rattle.mdc_ast.specs.declared.statement.Stmt.{Stmt}
use Rattle.mdc_ast.specs.declared.statement.Stmt.TheVariants.{Explain, Query}
use Rattle.mdc_ast.specs.Database.{Database, defs_of}
use Rattle.mdc_ast.specs.Definitions.{Definitions, def_at, place_of}
use Rattle.statement_meaning.specs.Binding.{bound_of, bound_select, columns_of, on_place}
use Rattle.statement_meaning.specs.Cause.{Cause, NotBuilt, refusal_of}
use Rattle.statement_meaning.specs.Judged.{judged_of, query_judged}
use Rattle.statement_meaning.specs.Judging.{in_order, on_table}
use Rattle.statement_meaning.specs.Session.{AgreesWith, explained, explained_for}
use Rattle.statement_meaning.specs.Step.{Answer, Refused}
use Rattle.store_api.specs.declared.fault.StoreFault.{StoreFault}
use Rattle.store_api.specs.declared.pages.Pages.{Ghosts}
use Rattle.mdc_sound.specs.StandingTable.{pages_of}
use Rattle.mdc_sound.specs.StandsForDatabase.{PagesStandFor}
use Rattle.mdc_ast.proofs.TestsLemmas.{some_is}
use Rattle.binder.specs.Refusing.{IsRefusedFor}
use Rattle.binder.specs.Saying.{first_of}
use Rattle.binder.specs.declared.binding.BindFault.{BindFault}
use Rattle.binder.specs.declared.binding.BindFault.TheVariants as bind_fault
use Rattle.row_checks.specs.Served.{IsServed}
use Rattle.row_checks.proofs.ServedLemmas.{serves}
use Rattle.script_engine.specs.Doing.{DoesReady}
use Rattle.script_engine.specs.Explaining.{ExplainsOn, ExplainsRows, is_explaining}
use Rattle.script_engine.specs.Listing.{PagesTell}
use Rattle.script_engine.specs.Ready.{AreServed, IsReady}
use Rattle.script_engine.specs.Roles.{is_explain, role_of}
use Rattle.script_engine.specs.declared.tables.Tables.{Tables}
use Rattle.script_engine.proofs.ExplainingLemmas.{explains_rows}
use Rattle.script_engine.proofs.ExecutingLemmas.{first_cause, refused_first}
use Rattle.script_engine.proofs.SameWorkLemmas.{ready_same}
use Rattle.script_engine.proofs.StoredDefsLemmas.{same_bound, same_built, same_said, stored_defs}

-- ---- what is bound

-- a query against which nothing is said is bound to its EXPLAIN
explains_on_place : (defs : Definitions) (select : Select) (found : Option ℕ) → in_order (on_table select.table (option_and_then (def_at defs) found) (query_judged select)) ≡ []
    → is_explaining (on_place found (columns_of (option_and_then (def_at defs) found)) (λ place columns. bound.Explain (bound_select place columns select))) ≡ true
explains_on_place defs select None none = absurd cc
explains_on_place defs select (Some place) none = refl

pub is_bound_explain : (defs : Definitions) (stmt : Stmt) (statement : Bound) → is_explain (role_of stmt) ≡ true → (in_order (judged_of defs stmt) ≡ []) × (statement ≡ bound_of defs stmt) → is_explaining statement ≡ true
is_bound_explain defs (Explain select) statement is binds = ap is_explaining binds.1 ∙ explains_on_place defs select (place_of defs select.table) binds.0
is_bound_explain defs stmt statement is binds = absurd (cc)

-- and what it needs of the definitions is there
pub bound_serves : (defs : Definitions) (stmt : Stmt) (statement : Bound) → (in_order (judged_of defs stmt) ≡ []) × (statement ≡ bound_of defs stmt) → IsServed defs statement
bound_serves defs stmt statement binds = subst (IsServed defs) (sym binds.1) (serves defs stmt binds.0)

-- ---- what is answered

module _ {S : Type 0} (g : Ghosts S) (old new : S) (tables : Tables) (served : AreServed tables.catalog) (told : (g.state new).is_told ≡ (g.state old).is_told) (same : (g.state new).work ≡ (g.state old).work) where
  -- what pages tell of this statement
  abbrev pub Tells : Stmt → Outcome → Type 0
  Tells stmt outcome = PagesTell tables.shape (pages_of g old) tables.catalog tables.settings.plan stmt outcome

  explained_is : (db : Database) (select : Select) → IsReady g old tables → PagesStandFor tables.shape (pages_of g old) db → explained db select ≡ explained_for (in_order (judged_of tables.catalog (Query select)))
  explained_is db select ready stands =
      let same = stored_defs tables.shape (pages_of g old) tables.catalog db ready.stored stands in
      ap (λ b. if b then explained_for (in_order (judged_of (defs_of db) (Query select))) else Refused (refusal_of NotBuilt)) (same_built db tables.catalog same served.built)
      ∙ ap explained_for (same_said db tables.catalog (Query select) same)

  -- on ready pages it told of them, where its outcome agrees with what is said against it
  explained_ready : (select : Select) (outcome : Outcome) → IsReady g old tables → AgreesWith (Tells (Explain select)) (explained_for (in_order (judged_of tables.catalog (Query select)))) outcome
      → DoesReady g old new tables tables (Explain select) outcome
  explained_ready select outcome ready agrees = DoesReady.tells refl (record {
    ready = ready_same g old new tables told same ready;
    leaves = record { pages = same; catalog = refl };
    answers = λ session stands. (
      explained session.working select,
      refl,
      subst (λ (answer : Answer). AgreesWith (Tells (Explain select)) answer outcome) (sym (explained_is session.working select ready stands)) agrees,
    );
  })

  -- what its bound one tells
  pub explains_ready : (stmt : Stmt) (statement : Bound) (result : Result Outcome StoreFault) → is_explain (role_of stmt) ≡ true
      → (in_order (judged_of tables.catalog stmt) ≡ []) × (statement ≡ bound_of tables.catalog stmt)
      → IfOk result (λ outcome. IsReady g old tables → ExplainsOn tables.shape (pages_of g old) tables.catalog tables.settings.plan statement outcome)
      → IfOk result (λ outcome. IsReady g old tables → DoesReady g old new tables tables stmt outcome)
  explains_ready (Explain select) statement (Ok outcome) is binds explains = λ ready.
      let on_pages = subst (λ (b : Bound). ExplainsOn tables.shape (pages_of g old) tables.catalog tables.settings.plan b outcome) binds.1 (explains ready) in
      explained_ready select outcome ready (subst (λ (causes : List Cause). AgreesWith (Tells (Explain select)) (explained_for causes) outcome) (sym binds.0) (
        on_pages,
        λ db stands.
            subst (λ (b : Bound). ExplainsRows db tables.settings.plan b outcome) (sym (same_bound db tables.catalog (Explain select) (stored_defs tables.shape (pages_of g old) tables.catalog db ready.stored stands)))
            (explains_rows g old tables served (bound_of tables.catalog (Explain select)) outcome ready on_pages db stands),
      ))
  explains_ready stmt statement (Ok outcome) is binds explains = absurd (cc)
  explains_ready stmt statement (Err fault) is binds explains = tt

  agrees_first : (select : Select) (causes : List Cause) (cause : Cause) (refusal : Refusal) → first_of causes ≡ Some cause → refusal_of cause ≡ refusal
      → AgreesWith (Tells (Explain select)) (explained_for causes) (said.Refused refusal)
  agrees_first select [] cause refusal first is = absurd (cc)
  agrees_first select (one ∷ causes) cause refusal first is = ap said.Refused (sym (ap refusal_of (some_is one cause first) ∙ is))

  -- and it is refused for what is said first against it
  pub explain_refused : (stmt : Stmt) (fault : BindFault) (refusal : Refusal) → is_explain (role_of stmt) ≡ true → fault ≡ bind_fault.Refused refusal
      → IsRefusedFor (in_order (judged_of tables.catalog stmt)) (Err fault) → IsReady g old tables → DoesReady g old new tables tables stmt (said.Refused refusal)
  explain_refused (Explain select) fault refusal is refuses refused ready =
      let causes = in_order (judged_of tables.catalog (Explain select)) in
      let first = first_cause causes refusal (refused_first causes fault refusal refuses refused) in
      explained_ready select (said.Refused refusal) ready (agrees_first select causes first.0 refusal first.1 first.2)
  explain_refused stmt fault refusal is refuses refused ready = absurd (cc)
