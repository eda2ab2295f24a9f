-- From a bound statement to the step of its text, on ready pages.
use Rattle.std.proofs.Common.{◌≡◌, ℕ, List, [], ◌∷◌, ◌∙◌, refl, sym, ap, subst, Option, Result, Ok, Err, Some, None}
use Rattle.std.specs.Prelude.{true, false, IfOk, IfErr, IsErrAnd, MatchResult, option_and_then, option_map}
use Rattle.mdc_ast.specs.declared.bound.Bound.{Bound}
use Rattle.mdc_ast.specs.declared.bound.Bound.TheVariants as bound
use Rattle.mdc_ast.specs.declared.bound.BoundSelect.{BoundSelect}
use Rattle.mdc_ast.specs.declared.definition.ColumnDef.{ColumnDef}
use Rattle.mdc_ast.specs.declared.refusal.Refusal.{Refusal}
use Rattle.mdc_ast.specs.declared.reply.Outcome.{Outcome}
use Rattle.mdc_ast.specs.declared.reply.Outcome.TheVariants as said
use Rattle.mdc_ast.specs.declared.reply.Reply.TheVariants as reply
use Rattle.mdc_ast.specs.declared.statement.Stmt.{Stmt}
use Rattle.mdc_ast.specs.declared.statement.Stmt.TheVariants.{CreateTable, Explain, ListBlocks, Query}
use Rattle.statement_meaning.specs.Binding.{bound_of, columns_of, on_place}
use Rattle.statement_meaning.specs.Cause.{Cause, NotBuilt, refusal_of}
use Rattle.mdc_ast.specs.Database.{Database}
use Rattle.mdc_ast.specs.Definitions.{Definitions, def_at, place_of}
use Rattle.statement_meaning.specs.Judged.{judged_of, query_judged}
use Rattle.statement_meaning.specs.Judging.{in_order, on_table}
use Rattle.statement_meaning.specs.Step.{Refused, Replied, step}
use Rattle.statement_meaning.specs.Built.{are_built, is_built_step}
use Rattle.mdc_ast.proofs.TestsLemmas.{some_is}
use Rattle.store_api.specs.RunsOverPages.{RunsOverPages}
use Rattle.store_api.specs.declared.fault.StoreFault.TheVariants as store_fault
use Rattle.store_api.specs.declared.pages.Pages.{Ghosts}
use Rattle.store_api.proofs.RunsOverPagesLemmas.{runs_memory, runs_none}
use Rattle.extent_map.specs.Damages.{IfFull, store_part_of}
use Rattle.extent_map.specs.declared.fault.SpaceFault.{SpaceFault}
use Rattle.extent_map.specs.declared.fault.SpaceFault.TheVariants.{Full, Store}
use Rattle.mdc_sound.specs.StandingTable.{pages_of}
use Rattle.mdc_sound.specs.StandsForDatabase.{PagesStandFor}
use Rattle.binder.specs.Refusing.{IsRefusedFor}
use Rattle.binder.specs.Saying.{first_of}
use Rattle.binder.specs.declared.binding.BindFault.{BindFault}
use Rattle.binder.specs.declared.binding.BindFault.TheVariants as bind_fault
use Rattle.row_checks.specs.Executing.{done}
use Rattle.statement_rows.specs.RowsOfStatement.{AnyPage}
use Rattle.script_engine.specs.Defining.{IsBoundOn, MayBeExecuted}
use Rattle.script_engine.specs.Doing.{DoesReady, DoesStatement, DoesStep, LeavesAll, RunsFullAlone, StandsAfter, StepRunsFull, changed_place, is_query}
use Rattle.script_engine.specs.Held.{IsWritten}
use Rattle.script_engine.specs.Others.{touched_place}
use Rattle.script_engine.specs.Ready.{AreServed, BreaksDatabase, IsReady}
use Rattle.script_engine.specs.Roles.{Explains, Lists, Role, is_built_form, is_explain, is_listing, only_reads, role_of, tells_pages}
use Rattle.script_engine.specs.declared.tables.Tables.{Tables}
use Rattle.row_checks.proofs.ServedLemmas.{served}
use Rattle.script_engine.proofs.OthersLemmas.{keeps_others_itself}
use Rattle.script_engine.proofs.StoredDefsLemmas.{none_said_on, step_is_done_on, step_not_built, step_refused_on, stored_defs}
use Rattle.script_engine.proofs.WrittenTablesLemmas.{written_is_new}

-- ---- what is bound

pub is_bound_on : (defs : Definitions) (stmt : Stmt) (statement : Bound) → is_built_step stmt ≡ true → (in_order (judged_of defs stmt) ≡ []) × (statement ≡ bound_of defs stmt) → IsBoundOn defs stmt statement
is_bound_on defs stmt statement built bound = record { built = built; said = bound.0; is = bound.1 }

pub may_execute : (defs : Definitions) (stmt : Stmt) (statement : Bound) → AreServed defs → IsWritten stmt → IsBoundOn defs stmt statement → MayBeExecuted defs statement
may_execute defs stmt statement serves written bound = subst (MayBeExecuted defs) (sym bound.is) (record {
  served = served defs stmt serves.valid bound.built bound.said;
  new = written_is_new defs stmt written bound.built bound.said;
})

-- ---- the end of a statement that is bound

does_step : {S : Type 0} (g : Ghosts S) (old new : S) (before now : Tables) (stmt : Stmt) (outcome : Outcome) → are_built before.catalog ≡ true → is_built_step stmt ≡ true → in_order (judged_of before.catalog stmt) ≡ []
    → IsReady g old before → DoesStatement g old new before now (bound_of before.catalog stmt) outcome → DoesStep g old new before now stmt outcome
does_step g old new before now stmt outcome tables built said ready does = record {
  ready = does.ready;
  stands = λ db stands.
      let same : step db stmt ≡ done db (bound_of before.catalog stmt) = step_is_done_on db before.catalog stmt (stored_defs before.shape (pages_of g old) before.catalog db ready.stored stands) tables built said in
      subst (λ end_. StandsAfter now.shape (pages_of g new) end_ outcome) (sym same) (does.stands db stands);
  places = does.places;
  others = does.others;
}

-- what a bound statement did is what its text does
pub steps_as_bound : {S E : Type 0} (g : Ghosts S) (old new : S) (before now : Tables) (stmt : Stmt) (statement : Bound) (result : Result Outcome E) → AreServed before.catalog → IsBoundOn before.catalog stmt statement
    → IfOk result (λ outcome. IsReady g old before → DoesStatement g old new before now statement outcome) → IfOk result (λ outcome. IsReady g old before → DoesStep g old new before now stmt outcome)
steps_as_bound g old new before now stmt statement (Err fault) served bound does = tt
steps_as_bound g old new before now stmt statement (Ok outcome) served bound does = λ ready.
    does_step g old new before now stmt outcome served.built bound.built bound.said ready (subst (λ b. DoesStatement g old new before now b outcome) bound.is (does ready))

-- where a bound statement runs full, its text does
step_full : {S : Type 0} (g : Ghosts S) (s : S) (tables : Tables) (stmt : Stmt) → are_built tables.catalog ≡ true → is_built_step stmt ≡ true → in_order (judged_of tables.catalog stmt) ≡ [] → IsReady g s tables
    → RunsFullAlone tables.shape (pages_of g s) tables.catalog (bound_of tables.catalog stmt) → StepRunsFull tables.shape (pages_of g s) tables.catalog stmt
step_full g s tables stmt forms built said ready alone = record {
  full = alone.full;
  faultless = λ db stands. none_said_on db tables.catalog stmt (stored_defs tables.shape (pages_of g s) tables.catalog db ready.stored stands) forms built said (alone.faultless db stands);
}

full_if : {S : Type 0} (g : Ghosts S) (s : S) (tables : Tables) (stmt : Stmt) (statement : Bound) (fault : SpaceFault) → AreServed tables.catalog → IsBoundOn tables.catalog stmt statement
    → IfFull fault (λ cap. (cap ≡ tables.shape.extents) × (IsReady g s tables → RunsFullAlone tables.shape (pages_of g s) tables.catalog statement))
    → IfFull fault (λ cap. (cap ≡ tables.shape.extents) × (IsReady g s tables → StepRunsFull tables.shape (pages_of g s) tables.catalog stmt))
full_if g s tables stmt statement (Full cap) served bound full = (
  full.0,
  λ ready. step_full g s tables stmt served.built bound.built bound.said ready (subst (RunsFullAlone tables.shape (pages_of g s) tables.catalog) bound.is (full.1 ready)),
)
full_if g s tables stmt statement (Store fault) served bound full = tt

pub full_as_bound : {S X : Type 0} (g : Ghosts S) (old : S) (before : Tables) (stmt : Stmt) (statement : Bound) (result : Result X SpaceFault) → AreServed before.catalog → IsBoundOn before.catalog stmt statement
    → IfErr result (λ fault. IfFull fault (λ cap. (cap ≡ before.shape.extents) × (IsReady g old before → RunsFullAlone before.shape (pages_of g old) before.catalog statement)))
    → IfErr result (λ fault. IfFull fault (λ cap. (cap ≡ before.shape.extents) × (IsReady g old before → StepRunsFull before.shape (pages_of g old) before.catalog stmt)))
full_as_bound g old before stmt statement (Ok done) served bound full = tt
full_as_bound g old before stmt statement (Err fault) served bound full = full_if g old before stmt statement fault served bound full

-- ---- queries

-- a query that nothing is said against is bound to one
query_is_bound : (defs : Definitions) (stmt : Stmt) → is_built_step stmt ≡ true → in_order (judged_of defs stmt) ≡ [] → only_reads (role_of stmt) ≡ true → is_query (bound_of defs stmt) ≡ true
query_is_bound defs (Query select) built said reads = by_place (place_of defs select.table) _ said
  where
    by_place : (found : Option ℕ) (bind : ℕ → List ColumnDef → BoundSelect) → in_order (on_table select.table (option_and_then (def_at defs) found) (query_judged select)) ≡ []
        → is_query (on_place found (columns_of (option_and_then (def_at defs) found)) (λ place columns. bound.Query (bind place columns))) ≡ true
    by_place None bind none = absurd cc
    by_place (Some place) bind none = refl
query_is_bound defs stmt built said reads = absurd cc

-- what a bound query leaves, its text leaves
pub reads_as_bound : (defs : Definitions) (stmt : Stmt) (statement : Bound) {Leaves : Type 0} → IsBoundOn defs stmt statement → (is_query statement ≡ true → Leaves) → only_reads (role_of stmt) ≡ true → Leaves
reads_as_bound defs stmt statement bound leaves reads = leaves (ap is_query bound.is ∙ query_is_bound defs stmt bound.built bound.said reads)

-- a statement by which a database steps is none of which the pages tell the reply
pub steps_other : (stmt : Stmt) → is_built_step stmt ≡ true → tells_pages (role_of stmt) ≡ false
steps_other (ListBlocks name) built = absurd cc
steps_other (Explain select) built = absurd cc
steps_other stmt built = refl

-- and one whose form isn't built and that is none either doesn't step
pub form_other : (stmt : Stmt) → tells_pages (role_of stmt) ≡ false → is_built_form stmt ≡ false → is_built_step stmt ≡ false
form_other (CreateTable name columns dims) other unbuilt = unbuilt
form_other stmt other unbuilt = cc

-- neither is one that is neither LIST BLOCKS nor EXPLAIN
pub none_told : (role : Role) → is_listing role ≡ false → is_explain role ≡ false → tells_pages role ≡ false
none_told (Lists name) listing explain = absurd cc
none_told (Explains select) listing explain = absurd cc
none_told role listing explain = refl

-- such a statement is executed on ready pages by its step
pub executes_step : {S : Type 0} (g : Ghosts S) (old new : S) (before now : Tables) (stmt : Stmt) (result : Result Outcome SpaceFault) → tells_pages (role_of stmt) ≡ false
    → IfOk result (λ outcome. IsReady g old before → DoesStep g old new before now stmt outcome) → IfOk result (λ outcome. IsReady g old before → DoesReady g old new before now stmt outcome)
executes_step g old new before now stmt (Ok outcome) other does = λ ready. DoesReady.steps other (does ready)
executes_step g old new before now stmt (Err fault) other does = tt

-- what isn't built is refused
pub unbuilt_step : (stmt : Stmt) (result : Result Outcome SpaceFault) → tells_pages (role_of stmt) ≡ false
    → (is_built_step stmt ≡ false → MatchResult result (λ outcome. outcome ≡ said.Refused (refusal_of NotBuilt)) (λ fault. IfFull fault (λ cap. ⊥)))
    → is_built_form stmt ≡ false → MatchResult result (λ outcome. outcome ≡ said.Refused (refusal_of NotBuilt)) (λ fault. IfFull fault (λ cap. ⊥))
unbuilt_step stmt result other unbuilt form = unbuilt (form_other stmt other form)

-- ---- the end of a statement that is refused before a call

-- nothing is changed
pub leaves_all : {S : Type 0} (g : Ghosts S) (s : S) (tables : Tables) → LeavesAll g s s tables tables
leaves_all g s tables = record { pages = refl; catalog = refl }

stays : {S : Type 0} (g : Ghosts S) (s : S) (tables : Tables) (stmt : Stmt) (refusal : Refusal) → IsReady g s tables
    → ((db : Database) → PagesStandFor tables.shape (pages_of g s) db → step db stmt ≡ (db, Refused refusal)) → DoesStep g s s tables tables stmt (said.Refused refusal)
stays g s tables stmt refusal ready same = record {
  ready = ready;
  stands = λ db stands. subst (λ end_. StandsAfter tables.shape (pages_of g s) end_ (said.Refused refusal)) (sym (same db stands)) (record { pages_are = stands; answers = refl });
  places = λ done is place def changed at. cc;
  others = keeps_others_itself tables.shape (pages_of g s) (pages_of g s) tables.catalog tables.catalog (touched_place (bound_of tables.catalog stmt)) refl refl;
}

pub steps_not_built : {S : Type 0} (g : Ghosts S) (s : S) (tables : Tables) (stmt : Stmt) (refusal : Refusal) → is_built_step stmt ≡ false → refusal ≡ refusal_of NotBuilt → IsReady g s tables
    → DoesStep g s s tables tables stmt (said.Refused refusal)
steps_not_built g s tables stmt refusal built is ready = stays g s tables stmt refusal ready (λ db stands. step_not_built db stmt built ∙ ap (λ r. (db, Refused r)) (sym is))

pub first_cause : (causes : List Cause) (refusal : Refusal) → option_map refusal_of (first_of causes) ≡ Some refusal → (cause : Cause) × (first_of causes ≡ Some cause) × (refusal_of cause ≡ refusal)
first_cause [] refusal e = cc
first_cause (cause ∷ causes) refusal e = (cause, refl, some_is _ _ e)

-- the binder's refusal is the one for what is said first
pub refused_first : (causes : List Cause) (fault : BindFault) (refusal : Refusal) → fault ≡ bind_fault.Refused refusal → IsRefusedFor causes (Err fault) → option_map refusal_of (first_of causes) ≡ Some refusal
refused_first causes fault refusal is refused = subst (λ f. IsRefusedFor causes (Err f)) is refused

pub steps_refused : {S : Type 0} (g : Ghosts S) (s : S) (tables : Tables) (stmt : Stmt) (fault : BindFault) (refusal : Refusal) → are_built tables.catalog ≡ true → is_built_step stmt ≡ true
    → fault ≡ bind_fault.Refused refusal → IsRefusedFor (in_order (judged_of tables.catalog stmt)) (Err fault) → IsReady g s tables → DoesStep g s s tables tables stmt (said.Refused refusal)
steps_refused g s tables stmt fault refusal forms built is refused ready =
    let first : (cause : Cause) × (first_of (in_order (judged_of tables.catalog stmt)) ≡ Some cause) × (refusal_of cause ≡ refusal) = first_cause (in_order (judged_of tables.catalog stmt)) refusal
    (refused_first (in_order (judged_of tables.catalog stmt)) fault refusal is refused) in
    stays g s tables stmt refusal ready (λ db stands.
    step_refused_on db tables.catalog stmt first.0 (stored_defs tables.shape (pages_of g s) tables.catalog db ready.stored stands) forms built first.1 ∙ ap (λ r. (db, Refused r)) first.2)

-- ---- a bound statement that does nothing

pub record IsIdle (statement : Bound) : Type 0 where
  pub does : (db : Database) → done db statement ≡ (db, Replied reply.Done)
  pub changes : changed_place statement ≡ None

pub does_nothing : {S : Type 0} (g : Ghosts S) (s : S) (tables : Tables) (statement : Bound) → IsIdle statement → IsReady g s tables → DoesStatement g s s tables tables statement (said.Done reply.Done)
does_nothing g s tables statement idle ready = record {
  ready = ready;
  stands = λ db stands. subst (λ end_. StandsAfter tables.shape (pages_of g s) end_ (said.Done reply.Done)) (sym (idle.does db)) (record { pages_are = stands; answers = refl });
  places = λ done is place def changed at. none_changed (changed_place statement) place idle.changes changed;
  others = keeps_others_itself tables.shape (pages_of g s) (pages_of g s) tables.catalog tables.catalog (touched_place statement) refl refl;
}
  where
    none_changed : {X : Type 0} (found : Option ℕ) (place : ℕ) → found ≡ None → found ≡ Some place → X
    none_changed found place e f = cc

-- ---- memory that ran out before a call

pub runs_wanting : {S : Type 0} (g : Ghosts S) (s : S) (tables : Tables) (fault : SpaceFault) → fault ≡ Store store_fault.Memory
    → RunsOverPages g AnyPage AnyPage (BreaksDatabase g s tables) s s (store_part_of fault)
runs_wanting g s tables fault is = subst (λ f. RunsOverPages g AnyPage AnyPage (BreaksDatabase g s tables) s s (store_part_of f)) (sym is) (runs_memory runs_none)

-- of a form that isn't built nothing else is answered then
pub unbuilt_wanting : (result : Result Outcome SpaceFault) (fault : SpaceFault) → IsErrAnd result (λ e. e ≡ fault) → fault ≡ Store store_fault.Memory
    → MatchResult result (λ outcome. outcome ≡ said.Refused (refusal_of NotBuilt)) (λ fault. IfFull fault (λ cap. ⊥))
unbuilt_wanting (Ok outcome) fault is memory = absurd is
unbuilt_wanting (Err e) fault is memory = subst (λ f. IfFull f (λ cap. ⊥)) (sym (is ∙ memory)) tt
