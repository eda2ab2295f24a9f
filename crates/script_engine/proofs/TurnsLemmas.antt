-- What statements do to an engine: a step on pages that is committed, or isn't yet.
use Rattle.std.proofs.Common.{◌≡◌, ◌⊎◌, ℕ, Bool, true, false, List, Option, Some, None, Result, Ok, Err, IsErrAnd, IfSome, refl, sym, ap, subst, inl, inr, ◌∙◌, cond}
use Rattle.std.specs.Prelude.{IsErrOf, IsTrue}
use Rattle.mdc_words.specs.Faults.{CountsFault}
use Rattle.mdc_words.proofs.FaultsLemmas.{counts_fault_as, counts_fault_then}
use Rattle.mdc_words.proofs.TimeLemmas.{over_time_then, over_time_wider}
use Rattle.mdc_ast.specs.declared.refusal.Refusal.{Refusal}
use Rattle.mdc_ast.specs.declared.reply.Outcome.{Outcome}
use Rattle.mdc_ast.specs.declared.reply.Outcome.TheVariants as said
use Rattle.mdc_ast.specs.declared.reply.Reply.TheVariants as reply
use Rattle.mdc_ast.specs.declared.statement.Stmt.{Stmt}
use Rattle.mdc_ast.specs.declared.statement.Stmt.TheVariants as statement
use Rattle.statement_meaning.specs.Binding.{bound_of, bound_select, columns_of, on_place}
use Rattle.mdc_ast.specs.Database.{Database}
use Rattle.mdc_ast.specs.Definitions.{Definitions, def_named, place_of}
use Rattle.mdc_ast.specs.declared.bound.Bound.TheVariants as bound
use Rattle.mdc_ast.specs.declared.bound.BoundSelect.{BoundSelect}
use Rattle.mdc_ast.specs.declared.definition.ColumnDef.{ColumnDef}
use Rattle.statement_meaning.specs.Session.{Session, committed, is_refusal, rolled_back, stepped, turn}
use Rattle.statement_meaning.specs.Step.{Answer, step}
use Rattle.statement_meaning.specs.declared.pass.Pass.{Pass}
use Rattle.statement_meaning.specs.declared.settings.Settings.{Settings}
use Rattle.store_api.specs.Fetching.{BringsOnly}
use Rattle.store_api.specs.Works.{Rests, Steady}
use Rattle.store_api.specs.declared.fault.Damage.{Damage}
use Rattle.store_api.specs.declared.fault.StoreFault.{StoreFault}
use Rattle.store_api.specs.declared.fault.StoreFault.TheVariants.{Damaged, Device}
use Rattle.store_api.specs.declared.pages.Pages.{Ghosts}
use Rattle.store_api.proofs.FetchingLemmas.{only_then}
use Rattle.store_api.proofs.MomentsLemmas.{base_or_now-steady}
use Rattle.store_api.proofs.WorksLemmas.{rests_steady, steady_none, steady_then}
use Rattle.store_api.specs.declared.shape.Shape.{Shape}
use Rattle.table_trees.specs.ToldPages.{PageList}
use Rattle.mdc_sound.specs.SoundDatabase.{IsSoundDatabase, KeepAllRules}
use Rattle.mdc_sound.specs.StandingTable.{pages_of}
use Rattle.mdc_sound.specs.StandsForDatabase.{PagesStandFor}
use Rattle.statement_rows.specs.RowsOfStatement.{AnyPage}
use Rattle.stored_catalog.specs.StoredDefinitions.{AreStored}
use Rattle.script_engine.specs.Breaking.{NamesExactly, StaysAtDamage}
use Rattle.script_engine.specs.Committing.{CommitsWork, HasSoundRoot}
use Rattle.script_engine.specs.Controls.{AnswersControl, AnswersSetting, answer_in_state}
use Rattle.script_engine.specs.Doing.{DoesReady, DoesStep, LeavesAll, PlacesOnPages, StandsAfter, TellsPages, changed_place}
use Rattle.script_engine.specs.Fetching.{FetchesForListing, FetchesForStatement}
use Rattle.script_engine.specs.Held.{HeldPages, KeepsBase, KeepsWork, StandsForSession, StandsForTurn, StepsOnPages}
use Rattle.script_engine.specs.Held.StepsOnPages.{full, turns}
use Rattle.script_engine.specs.Leaving.{IsAllCommitted, MayBeLeft}
use Rattle.statement_meaning.specs.Built.{are_built}
use Rattle.script_engine.specs.Ready.{AreServed, IsReady}
use Rattle.script_engine.specs.PuttingStatements.{OnlyPutsByText}
use Rattle.script_engine.specs.Reloading.{Reloads}
use Rattle.script_engine.specs.Roles.{Begins, Commits, Explains, GoesBack, Lists, Queries, Role, Sets, is_tried, only_reads, role_of, tells_pages}
use Rattle.script_engine.specs.Serving.{IsReadyEngine, MayCall, held_by}
use Rattle.script_engine.specs.Trying.{IsRefusedFull, TriesStep}
use Rattle.script_engine.specs.Turns.{Executes, LeavesCommitted, LeavesOutside}
use Rattle.script_engine.specs.declared.engine.Engine.{Engine}
use Rattle.script_engine.specs.declared.tables.Tables.{Tables}
use Rattle.script_engine.proofs.CatalogLemmas.{built_defs, one_catalog, served_of}
use Rattle.script_engine.proofs.FetchesForListingLemmas.{lists_changing}
use Rattle.script_engine.proofs.FetchesForStatementLemmas.{fetches_counted}
use Rattle.script_engine.proofs.FetchesOnceLemmas.{once_counted}
use Rattle.script_engine.proofs.FullStepsLemmas.{step_beyond}
use Rattle.script_engine.proofs.LeavingLemmas.{leaves_steady, leaves_then}
use Rattle.script_engine.proofs.LeavingOthersLemmas.{leaves_others_done, leaves_others_still}
use Rattle.script_engine.proofs.ReadyTablesLemmas.{ready_of_sound}
use Rattle.script_engine.proofs.SameWorkLemmas.{ready_same}
use Rattle.script_engine.proofs.TightStepsLemmas.{leaves_tight}
use Rattle.script_engine.proofs.TouchesForStatementLemmas.{held_then}
use Rattle.script_engine.proofs.TryingLemmas.{ready_tried}

-- ---- what is held

abbrev held_with : PageList → PageList → Definitions → Bool → Settings → Pass → HeldPages
held_with base work defs is_open settings pass = record { base = base; work = work; defs = defs; open_ = is_open; settings = settings; pass = pass }

-- what a run is set to, and how far the pass is, stay
pub record KeepsSettings (old new : HeldPages) : Type 0 where
  pub settings : new.settings ≡ old.settings
  pub pass : new.pass ≡ old.pass

pub same_held : (old new : HeldPages) → new.base ≡ old.base → new.work ≡ old.work → new.defs ≡ old.defs → new.open_ ≡ old.open_ → KeepsSettings old new → new ≡ old
same_held old new base work defs is_open set =
    ap (λ x. held_with x new.work new.defs new.open_ new.settings new.pass) base
    ∙ (ap (λ x. held_with old.base x new.defs new.open_ new.settings new.pass) work
    ∙ (ap (λ x. held_with old.base old.work x new.open_ new.settings new.pass) defs
    ∙ (ap (λ x. held_with old.base old.work old.defs x new.settings new.pass) is_open
    ∙ (ap (λ x. held_with old.base old.work old.defs old.open_ x new.pass) set.settings ∙ ap (λ x. held_with old.base old.work old.defs old.open_ old.settings x) set.pass))))

-- what the state of the transaction allows is done
answers_done : (allowed : Bool) → allowed ≡ true → said.Done reply.Done ≡ answer_in_state allowed
answers_done allowed is = sym (ap answer_in_state is)

-- one that is tried on the pages may be answered whatever the state of the transaction is
pub answers_other : (was : Bool) (role : Role) (outcome : Outcome) → is_tried role ≡ true → AnswersControl role was outcome
answers_other was Begins outcome tried = absurd (cc)
answers_other was Commits outcome tried = absurd (cc)
answers_other was GoesBack outcome tried = absurd (cc)
answers_other was role outcome tried = tt

-- and leaves what the run is set to
pub sets_other : (role : Role) (served : Bool) (was : Settings) (outcome : Outcome) (is : Settings) → is_tried role ≡ true → is ≡ was → AnswersSetting role served was outcome is
sets_other (Sets setting) served was outcome is tried same = absurd (cc)
sets_other role served was outcome is tried same = same

-- unless its reply is told by the pages, it turns a session by its step
turn_other : (session : Session) (stmt : Stmt) → is_tried (role_of stmt) ≡ true → tells_pages (role_of stmt) ≡ false → turn session stmt ≡ stepped session (step session.working stmt)
turn_other session statement.Begin tried steps = absurd (cc)
turn_other session statement.Commit tried steps = absurd (cc)
turn_other session statement.Rollback tried steps = absurd (cc)
turn_other session (statement.SetPlan mode) tried steps = absurd (cc)
turn_other session (statement.SetRollout mode) tried steps = absurd (cc)
turn_other session (statement.ListBlocks name) tried steps = absurd (cc)
turn_other session (statement.Explain select) tried steps = absurd (cc)
turn_other session stmt tried steps = refl

-- and leaves all, where it reads alone
keeps_work : (old new : HeldPages) (role : Role) → is_tried role ≡ true → (only_reads role ≡ true → new ≡ old) → KeepsWork role old new
keeps_work old new Begins tried reads = absurd (cc)
keeps_work old new Commits tried reads = absurd (cc)
keeps_work old new GoesBack tried reads = absurd (cc)
keeps_work old new (Sets setting) tried reads = absurd (cc)
keeps_work old new (Lists name) tried reads = reads refl
keeps_work old new (Explains select) tried reads = reads refl
keeps_work old new Queries tried reads = reads refl
keeps_work old new role tried reads = tt

-- one whose reply the pages tell reads alone
pub reads_telling : (role : Role) → tells_pages role ≡ true → only_reads role ≡ true
reads_telling (Lists name) is = refl
reads_telling (Explains select) is = refl
reads_telling role is = absurd (cc)

-- and what reads alone is tried
pub tried_reading : (role : Role) → only_reads role ≡ true → is_tried role ≡ true
tried_reading (Lists name) reads = refl
tried_reading (Explains select) reads = refl
tried_reading Queries reads = refl
tried_reading role reads = absurd (cc)

-- EXPLAIN is bound to no change of rows
explain_places : (place : Option ℕ) (columns : List ColumnDef) (bind : ℕ → List ColumnDef → BoundSelect) → changed_place (on_place place columns (λ place columns. bound.Explain (bind place columns))) ≡ None
explain_places None columns bind = refl
explain_places (Some place) columns bind = refl

-- what the pages tell changes no rows
places_none : (defs : Definitions) (stmt : Stmt) → tells_pages (role_of stmt) ≡ true → changed_place (bound_of defs stmt) ≡ None
places_none defs (statement.ListBlocks name) is = refl
places_none defs (statement.Explain select) is = explain_places (place_of defs select.table) (columns_of (def_named defs select.table)) (λ place columns. bound_select place columns select)
places_none defs stmt is = absurd (cc)

-- nor puts any
puts_none : (stmt : Stmt) → tells_pages (role_of stmt) ≡ true → OnlyPutsByText stmt → ⊥
puts_none (statement.ListBlocks name) is puts = puts
puts_none (statement.Explain select) is puts = puts
puts_none stmt is puts = absurd (cc)

-- the kept database behind a step, whether a transaction is open or not
kept_on : (shape : Shape) (base work : PageList) (kept db : Database) (is_open : Bool) → PagesStandFor shape work db → (is_open ≡ true → PagesStandFor shape base kept) → (is_open ≡ false → base ≡ work)
    → PagesStandFor shape base (cond is_open kept db)
kept_on shape base work kept db true stands on closed = on refl
kept_on shape base work kept db false stands on closed = subst (λ (pages : PageList). PagesStandFor shape pages db) (sym (closed refl)) stands

-- pages that stand for the end of a step on a session's working database stand for the session behind it; a refusal changed nothing
stands_stepped : (shape : Shape) (old new : HeldPages) (stmt : Stmt) (session : Session) (end_ : Database × Answer) (outcome : Outcome) → StandsForSession shape old session → KeepsBase old new → new.open_ ≡ old.open_
    → KeepsSettings old new → ((refusal : Refusal) → outcome ≡ said.Refused refusal → new ≡ old) → StandsAfter shape new.work end_ outcome → StandsForTurn shape old stmt (stepped session end_) outcome new
stands_stepped shape old new stmt session (db, answer) (said.Done reply) stands keeps is_open set refused after =
    subst (λ (a : Answer). StandsForTurn shape old stmt (stepped session (db, a)) (said.Done reply) new) (sym after.answers) (record {
      session = record {
        kept = kept_on shape new.base new.work session.kept db session.open_ after.pages_are
            (λ opened. subst (λ (pages : PageList). PagesStandFor shape pages session.kept) (sym (keeps.is_open (is_open ∙ (sym stands.is_open ∙ opened)))) stands.kept)
            (λ shut. keeps.closed (is_open ∙ (sym stands.is_open ∙ shut)));
        working = after.pages_are;
        is_open = stands.is_open ∙ sym is_open;
        settings = stands.settings ∙ sym set.settings;
        pass = stands.pass ∙ sym set.pass;
      };
      answers = refl;
    })
stands_stepped shape old new stmt session (db, answer) (said.Refused refusal) stands keeps is_open set refused after =
    subst (λ (a : Answer). StandsForTurn shape old stmt (stepped session (db, a)) (said.Refused refusal) new) (sym after.answers) (record {
      session = subst (λ (held : HeldPages). StandsForSession shape held session) (sym (refused refusal refl)) stands;
      answers = refl;
    })

-- a COMMIT makes the pages those of the last commit
commit_steps : (shape : Shape) (old new : HeldPages) → old.open_ ≡ true → new.open_ ≡ false → new.base ≡ old.work → new.work ≡ old.work → new.defs ≡ old.defs → KeepsSettings old new
    → StepsOnPages shape old statement.Commit (said.Done reply.Done) new
commit_steps shape old new is_open shut base work defs set = turns
    (λ session stands.
    subst (λ (b : Bool). StandsForTurn shape old statement.Commit (committed session b) (said.Done reply.Done) new) (sym (stands.is_open ∙ is_open)) (record {
      session = record {
        kept = subst (λ (pages : PageList). PagesStandFor shape pages session.working) (sym base) stands.working;
        working = subst (λ (pages : PageList). PagesStandFor shape pages session.working) (sym work) stands.working;
        is_open = sym shut;
        settings = stands.settings ∙ sym set.settings;
        pass = stands.pass ∙ sym set.pass;
      };
      answers = refl;
    }))
    (record { closed = λ closed. base ∙ sym work; is_open = λ opened. let wrong : true ≡ false = sym opened ∙ shut in absurd (cc) }) work
    (leaves_others_still shape statement.Commit old new work defs) (λ refusal is. absurd (cc))
    (λ done says place def changed at. absurd (cc)) (λ puts. absurd puts)

-- by these two
abbrev pub same_settings : {old new : HeldPages} → new.settings ≡ old.settings → new.pass ≡ old.pass → KeepsSettings old new
same_settings settings pass = record { settings = settings; pass = pass }

-- which pages came to hand with a statement, on ready pages and on any
pub record BringsPages {S : Type 0} (g : Ghosts S) (stmt : Stmt) (old new : Engine S) : Type 0 where
  pub fetches : IsReadyEngine g old → FetchesForStatement g old.tables.shape old.store new.store old.tables.catalog old.tables.settings (bound_of old.tables.catalog stmt)
  pub lists : IsReadyEngine g old → FetchesForListing g old.store new.store old.tables.catalog (role_of stmt)
  pub any : BringsOnly g AnyPage old.store new.store

module _ {S : Type 0} (g : Ghosts S) where
  -- a step on pages, from what it does to the work and what becomes of the base
  steps_done : (old : Engine S) (new : HeldPages) (mid : S) (now : Tables) (stmt : Stmt) (outcome : Outcome) → AreStored (pages_of g old.store) old.tables.catalog → AreServed old.tables.catalog → is_tried (role_of stmt) ≡ true → tells_pages (role_of stmt) ≡ false → DoesStep g old.store mid old.tables now stmt outcome
      → new.work ≡ pages_of g mid → new.defs ≡ now.catalog → KeepsBase (held_by g old) new → (only_reads (role_of stmt) ≡ true → new ≡ held_by g old) → new.open_ ≡ old.is_open → KeepsSettings (held_by g old) new → now.shape ≡ old.tables.shape
      → ((refusal : Refusal) → outcome ≡ said.Refused refusal → new ≡ held_by g old) → StepsOnPages old.tables.shape (held_by g old) stmt outcome new
  steps_done old new mid now stmt outcome stored served other listing does work defs keeps reads is_open set shape refused = turns
      (λ session stands.
      let after = does.stands session.working stands.working in
      let here : StandsAfter old.tables.shape new.work (step session.working stmt) outcome =
      record {
        pages_are = subst (λ (pages : PageList). PagesStandFor old.tables.shape pages (step session.working stmt).0) (sym work)
            (subst (λ (of : Shape). PagesStandFor of (pages_of g mid) (step session.working stmt).0) shape after.pages_are);
        answers = after.answers;
      } in
      subst (λ (end_ : Session × Answer). StandsForTurn old.tables.shape (held_by g old) stmt end_ outcome new) (sym (turn_other session stmt other listing))
      (stands_stepped old.tables.shape (held_by g old) new stmt session (step session.working stmt) outcome stands keeps is_open set refused here))
      keeps (keeps_work (held_by g old) new (role_of stmt) other reads)
      (leaves_others_done g old new mid now stmt outcome work defs does) refused
      (λ reply done place def changed at.
      subst (λ (pages : PageList). PlacesOnPages old.tables.shape (pages_of g old.store) pages old.tables.settings.rollout def (bound_of old.tables.catalog stmt)) (sym work)
      (does.places reply done place def changed at))
      (λ puts reply done tight. leaves_tight g old.store mid old.tables now stmt reply new.work (subst (DoesStep g old.store mid old.tables now stmt) done does) work shape stored served puts tight)

  -- one that told of the pages, and left all
  steps_told : (old : Engine S) (new : HeldPages) (mid : S) (now : Tables) (stmt : Stmt) (outcome : Outcome) → is_tried (role_of stmt) ≡ true → tells_pages (role_of stmt) ≡ true → TellsPages g old.store mid old.tables now stmt outcome
      → KeepsBase (held_by g old) new → new ≡ held_by g old → StepsOnPages old.tables.shape (held_by g old) stmt outcome new
  steps_told old new mid now stmt outcome other listing tells keeps still = turns
      (λ session stands.
      let told = tells.answers session stands.working in
      subst (λ (end_ : Session × Answer). StandsForTurn old.tables.shape (held_by g old) stmt end_ outcome new) (sym told.1) (record {
        session = subst (λ (held : HeldPages). StandsForSession old.tables.shape held session) (sym still) stands;
        answers = told.2;
      }))
      keeps (keeps_work (held_by g old) new (role_of stmt) other (λ reads. still))
      (leaves_others_still old.tables.shape stmt (held_by g old) new (ap (λ (held : HeldPages). held.work) still) (ap (λ (held : HeldPages). held.defs) still)) (λ refusal is. still)
      (λ reply done place def changed at. let none : None ≡ Some place = sym (places_none old.tables.catalog stmt listing) ∙ changed in absurd (cc))
      (λ puts. absurd (puts_none stmt listing puts))

  -- ---- the outside

  pub outside_steady : {X : Type 0} (result : Result X StoreFault) (old new : Engine S) → Steady g old.store new.store → CountsFault (IsErrOf result Device) (g.disk_faults old.store) (g.disk_faults new.store)
      → LeavesOutside g result old new
  outside_steady result old new steady device = record {
    device = device;
    say_faults = steady.say_faults;
    is_told = steady.is_told;
    told = steady.told;
    beside = steady.beside;
    time = base_or_now-steady steady;
    rests = λ back going was. rests_steady (back new.store) going steady was;
  }

  outside_commit : {X : Type 0} (result : Result X StoreFault) (old new : Engine S) → CommitsWork g result old.store new.store → (Rests g old.store → Rests g new.store) → LeavesOutside g result old new
  outside_commit result old new commits rests = record {
    device = commits.device;
    say_faults = commits.say_faults;
    is_told = commits.is_told;
    told = commits.told;
    beside = commits.beside;
    time = commits.time;
    rests = λ back going was. rests was;
  }

  -- the same of a call that answers something else
  pub outside_value : {X : Type 0} {x : X} (old new : Engine S) → LeavesOutside {X = Unit {0}} g (Ok tt) old new → LeavesOutside g (Ok x) old new
  outside_value old new left = record {
    device = counts_fault_as (λ is. absurd (cc)) (λ is. absurd (cc)) left.device;
    say_faults = left.say_faults;
    is_told = left.is_told;
    told = left.told;
    beside = left.beside;
    time = left.time;
    rests = left.rests;
  }

  outside_done : {X : Type 0} {x : X} (old new : Engine S) → CommitsWork {X = Unit {0}} g (Ok tt) old.store new.store → (Rests g old.store → Rests g new.store) → LeavesOutside g (Ok x) old new
  outside_done old new commits rests = record {
    device = counts_fault_as (λ is. absurd (cc)) (λ is. absurd (cc)) commits.device;
    say_faults = commits.say_faults;
    is_told = commits.is_told;
    told = commits.told;
    beside = commits.beside;
    time = commits.time;
    rests = λ back going was. rests was;
  }

  -- a commit behind a run that counted nothing
  pub outside_then : {X : Type 0} (result : Result X StoreFault) (old new : Engine S) (mid : S) → Steady g old.store mid → g.disk_faults mid ≡ g.disk_faults old.store → CommitsWork g result mid new.store
      → (Rests g mid → Rests g new.store) → LeavesOutside g result old new
  outside_then result old new mid steady still commits rests = record {
    device = counts_fault_then still commits.device;
    say_faults = commits.say_faults ∙ steady.say_faults;
    is_told = commits.is_told ∙ steady.is_told;
    told = commits.told ∙ steady.told;
    beside = commits.beside ∙ steady.beside;
    time = over_time_then (over_time_wider steady.time (λ pages told only. (inl only.0, only.1)))
        (over_time_wider commits.time (λ pages told either. (
          elim either.0 [ inl base ↦ inl (base ∙ ap Some steady.base) | inr work ↦ inr work ],
          subst (λ o. IfSome o (λ bytes. told ≡ bytes)) steady.told either.1,
        )));
    rests = λ back going was. rests (rests_steady (back mid) going steady was);
  }

  -- the same stop, of a call with another value
  outside_as : {X Y : Type 0} (stop : StoreFault) (old new : Engine S) → LeavesOutside {X = X} g (Err stop) old new → LeavesOutside {X = Y} g (Err stop) old new
  outside_as stop old new left = record {
    device = counts_fault_as (λ is. cc) (λ is. cc) left.device;
    say_faults = left.say_faults;
    is_told = left.is_told;
    told = left.told;
    beside = left.beside;
    time = left.time;
    rests = left.rests;
  }

  -- ---- a stop

  -- nothing was committed
  pub stays_steady : (old new : Engine S) → Steady g old.store new.store → (g.state new.store).marked ≡ None → (g.state old.store).ended ≡ false → new.is_open ≡ old.is_open → StaysAtDamage g old new
  stays_steady old new steady unmarked going is_open = record { base = steady.base; going = steady.ended ∙ going; unmarked = unmarked; is_open = is_open }

  pub executes_stop : {X Y : Type 0} (stmt : Stmt) (result : Result Outcome StoreFault) (stop : StoreFault) (old new : Engine S) → IsErrAnd result (λ e. e ≡ stop)
      → ((damage : Damage) → stop ≡ Damaged damage → IsReadyEngine g old → ⊥) → NamesExactly {X = Y} g old.tables.shape (Err stop) new.store → ((damage : Damage) → stop ≡ Damaged damage → StaysAtDamage g old new)
      → (IsReadyEngine g old → LeavesCommitted g stmt old new) → BringsPages g stmt old new → new.tables.shape ≡ old.tables.shape → new.tables.settings ≡ old.tables.settings
      → LeavesOutside {X = X} g (Err stop) old new → Executes g stmt result old new
  executes_stop stmt (Ok outcome) stop old new is damaged exact stays leaves brings shape settings left = absurd is
  executes_stop stmt (Err e) stop old new is damaged exact stays leaves brings shape settings left = subst (λ (x : StoreFault). Executes g stmt (Err x) old new) (sym is) (record {
    steps = tt;
    may = tt;
    keeps = tt;
    controls = tt;
    settings = settings;
    built = tt;
    leaves = leaves;
    fetches = brings.fetches;
    once = λ ok. absurd (cc);
    lists = brings.lists;
    brings = brings.any;
    touches = tt;
    unserved = λ served other outcome e. absurd (cc);
    damaged = λ damage e ready. damaged damage (cc) ready;
    exact = λ damage e. exact damage (cc);
    stays = λ damage e. stays damage (cc);
    shape = shape;
    outside = outside_as stop old new left;
  })

  -- ---- COMMIT

  pub sound_root : (s : S) (tables : Tables) → IsReady g s tables → HasSoundRoot g s
  sound_root s tables ready = record { told = ready.told; shape = tables.shape; sound = ready.sound.first.rule1 }

  -- the work that is committed is sound, and so is the base then
  ready_committed : (old new : Engine S) (mid : S) (now : Tables) → IsReady g mid now → AreServed now.catalog → new.served ≡ true → new.tables ≡ now → CommitsWork {X = Unit {0}} g (Ok tt) mid new.store → IsReadyEngine g new
  ready_committed old new mid now ready valid served tables commits =
      let here : IsReady g new.store new.tables = subst (IsReady g new.store) (sym tables) (ready_same g mid new.store now commits.is_told commits.work ready) in
      let same : (g.state new.store).base ≡ (g.state new.store).work = commits.base ∙ sym commits.work in
      record {
        served = served;
        work = here;
        base_view = here.view;
        base_sound = subst (λ (pages : PageList). KeepAllRules new.tables.shape pages here.view) (sym same) here.sound;
        base_defs = new.tables.catalog;
        base_stored = subst (λ (pages : PageList). AreStored pages new.tables.catalog) (sym same) here.stored;
        base_valid = built_defs new.tables.catalog (subst (λ (t : Tables). AreServed t.catalog) (sym tables) valid);
        closed = λ shut. same;
      }

  -- the pages that a COMMIT makes those of the last commit
  work_left : (old : Engine S) → MayCall g old → old.is_open ≡ true → IsReadyEngine g old → MayBeLeft old.tables.shape (held_by g old) statement.Commit (g.state old.store).work
  work_left old may is_open ready =
      let work = (g.state old.store).work in
      MayBeLeft.after (said.Done reply.Done) (held_with work work old.tables.catalog false old.tables.settings old.pass) (commit_steps old.tables.shape (held_by g old) (held_with work work old.tables.catalog false old.tables.settings old.pass) is_open refl refl refl refl (same_settings refl refl)) refl refl
      (ready.work.view, ready.work.sound) ready.work.stored (built_defs old.tables.catalog (may.served ready.served))

  pub commit_stops : (result : Result Outcome StoreFault) (stop : StoreFault) (old : Engine S) (store : S) → MayCall g old → old.is_open ≡ true → IsErrAnd result (λ e. e ≡ stop)
      → CommitsWork {X = Unit {0}} g (Err stop) old.store store → (Rests g old.store → Rests g store) → NamesExactly {X = Unit {0}} g old.tables.shape (Err stop) store
      → Executes g statement.Commit result old (record old { store = store })
  commit_stops result stop old store may is_open is commits rests exact =
      let new : Engine S = record old { store = store } in
      executes_stop {Y = Unit {0}} statement.Commit result stop old new is (λ damage e ready. commits.damaged damage (ap Err e) (sound_root old.store old.tables ready.work)) exact
      (λ damage e. let halts = commits.halts damage (ap Err e) in stays_steady old new halts.steady (halts.marked ∙ may.unmarked) may.going refl)
      (λ ready. leaves_then g (Err stop) statement.Commit old new old.store steady_none commits (work_left old may is_open ready)) (record { fetches = λ ready. tt; lists = λ ready. tt; any = commits.log }) refl refl (outside_commit (Err stop) old new commits rests)

  pub commit_done : (old : Engine S) (store : S) → MayCall g old → old.is_open ≡ true → CommitsWork {X = Unit {0}} g (Ok tt) old.store store
      → (Rests g old.store → Rests g store) → Executes g statement.Commit (Ok (said.Done reply.Done)) old (record old { store = store; is_open = false })
  commit_done old store may is_open commits rests =
      let new : Engine S = record old { store = store; is_open = false } in
      record {
        steps = λ ready. (commit_steps old.tables.shape (held_by g old) (held_by g new) is_open refl commits.base commits.work refl (same_settings refl refl), ready_committed old new old.store old.tables ready.work (may.served ready.served) ready.served refl commits);
        may = record { going = commits.going (λ e. absurd (cc)) ∙ may.going; unmarked = commits.unmarked; served = may.served };
        keeps = λ all. record { closed = λ shut. commits.base ∙ sym commits.work; is_open = λ opened. absurd (cc) };
        controls = answers_done old.is_open is_open;
        settings = refl;
        built = λ was. was;
        leaves = λ ready. leaves_then g (Ok tt) statement.Commit old new old.store steady_none commits (work_left old may is_open ready);
        fetches = λ ready. tt;
        once = λ ok ready. tt;
        lists = λ ready. tt;
        brings = commits.log;
        touches = λ all. record { defs = old.tables.catalog; are = inl refl; touches = tt };
        unserved = λ served other outcome e. absurd (cc);
        damaged = λ damage e ready. absurd (cc);
        exact = λ damage e. absurd (cc);
        stays = λ damage e. absurd (cc);
        shape = refl;
        outside = outside_done old new commits rests;
      }

  -- ---- ROLLBACK

  pub roll_back_stops : (result : Result Outcome StoreFault) (stop : StoreFault) (old : Engine S) (store : S) (tables : Tables) → MayCall g old → IsErrAnd result (λ e. e ≡ stop)
      → Reloads g (Err stop) old.store store old.tables tables
      → ((damage : Damage) → stop ≡ Damaged damage → IsTrue (g.state old.store).is_told → IsSoundDatabase old.tables.shape (g.state old.store).base → ⊥) → NamesExactly {X = Bool} g old.tables.shape (Err stop) store
      → Executes g statement.Rollback result old (record old { store = store; tables = tables })
  roll_back_stops result stop old store tables may is reloads damaged exact =
      let new : Engine S = record old { store = store; tables = tables } in
      executes_stop {X = Bool} {Y = Bool} statement.Rollback result stop old new is
      (λ damage e ready. damaged damage e ready.work.told (ready.base_view, ready.base_sound)) exact
      (λ damage e. stays_steady old new reloads.steady reloads.unmarked may.going refl)
      (λ ready. leaves_steady g statement.Rollback old new reloads.steady) (record { fetches = λ ready. tt; lists = λ ready. tt; any = reloads.brings }) reloads.shape reloads.settings (outside_steady (Err stop) old new reloads.steady reloads.device)

  roll_back_steps : (old : Engine S) (store : S) (tables : Tables) (served : Bool) → old.is_open ≡ true → Reloads g (Ok served) old.store store old.tables tables
      → StepsOnPages old.tables.shape (held_by g old) statement.Rollback (said.Done reply.Done) (held_by g (record old { store = store; tables = tables; served = served; is_open = false }))
  roll_back_steps old store tables served is_open reloads =
      let new : Engine S = record old { store = store; tables = tables; served = served; is_open = false } in
      turns
      (λ session stands.
      subst (λ (b : Bool). StandsForTurn old.tables.shape (held_by g old) statement.Rollback (rolled_back session b) (said.Done reply.Done) (held_by g new)) (sym (stands.is_open ∙ is_open)) (record {
        session = record {
          kept = subst (λ (pages : PageList). PagesStandFor old.tables.shape pages session.kept) (sym reloads.steady.base) stands.kept;
          working = subst (λ (pages : PageList). PagesStandFor old.tables.shape pages session.kept) (sym reloads.work) stands.kept;
          is_open = refl;
          settings = stands.settings ∙ sym reloads.settings;
          pass = stands.pass;
        };
        answers = refl;
      }))
      (record { closed = λ shut. reloads.steady.base ∙ sym reloads.work; is_open = λ opened. absurd (cc) }) (λ opened. reloads.work) (λ goes. absurd (cc)) (λ refusal is. absurd (cc))
      (λ done says place def changed at. absurd (cc)) (λ puts. absurd puts)

  ready_reloaded : (old : Engine S) (store : S) (tables : Tables) (served : Bool) → Reloads g (Ok served) old.store store old.tables tables → IsReadyEngine g old
      → IsReadyEngine g (record old { store = store; tables = tables; served = served; is_open = false })
  ready_reloaded old store tables served reloads ready =
      let base_kept = reloads.steady.base in
      let is_told = subst IsTrue (sym reloads.steady.is_told) ready.work.told in
      let same : tables.catalog ≡ ready.base_defs = one_catalog (g.state old.store).base tables.catalog ready.base_defs (reloads.stored ready.work.told) ready.base_stored in
      let built : are_built tables.catalog ≡ true = ap are_built same ∙ ready.base_valid.built in
      let sound = subst (λ (of : Shape). KeepAllRules of (g.state old.store).base ready.base_view) (sym reloads.shape) ready.base_sound in
      record {
        served = reloads.built ∙ built;
        work = ready_of_sound g store tables ready.base_view (served_of tables.catalog reloads.limits reloads.names built) is_told
            (subst (λ (pages : PageList). KeepAllRules tables.shape pages ready.base_view) (sym reloads.work) sound)
            (subst (λ (pages : PageList). AreStored pages tables.catalog) (sym reloads.work) (reloads.stored ready.work.told)) (reloads.notes ready.base_view.owners) reloads.rooms;
        base_view = ready.base_view;
        base_sound = subst (λ (pages : PageList). KeepAllRules tables.shape pages ready.base_view) (sym base_kept) sound;
        base_defs = ready.base_defs;
        base_stored = subst (λ (pages : PageList). AreStored pages ready.base_defs) (sym base_kept) ready.base_stored;
        base_valid = ready.base_valid;
        closed = λ shut. base_kept ∙ sym reloads.work;
      }

  pub rolled_back_done : (old : Engine S) (store : S) (tables : Tables) (served : Bool) → MayCall g old → old.is_open ≡ true → Reloads g (Ok served) old.store store old.tables tables
      → Executes g statement.Rollback (Ok (said.Done reply.Done)) old (record old { store = store; tables = tables; served = served; is_open = false })
  rolled_back_done old store tables served may is_open reloads =
      let new : Engine S = record old { store = store; tables = tables; served = served; is_open = false } in
      record {
        steps = λ ready. (roll_back_steps old store tables served is_open reloads, ready_reloaded old store tables served reloads ready);
        may = record {
          going = reloads.steady.ended ∙ may.going;
          unmarked = reloads.unmarked;
          served = λ is. served_of tables.catalog reloads.limits reloads.names (sym reloads.built ∙ is);
        };
        keeps = λ all. record { closed = λ shut. reloads.steady.base ∙ sym reloads.work; is_open = λ opened. absurd (cc) };
        controls = answers_done old.is_open is_open;
        settings = reloads.settings;
        built = λ was. reloads.built;
        leaves = λ ready. leaves_steady g statement.Rollback old new reloads.steady;
        fetches = λ ready. tt;
        once = λ ok ready. tt;
        lists = λ ready. tt;
        brings = reloads.brings;
        touches = λ all. record { defs = old.tables.catalog; are = inl refl; touches = tt };
        unserved = λ served other outcome e. absurd (cc);
        damaged = λ damage e ready. absurd (cc);
        exact = λ damage e. absurd (cc);
        stays = λ damage e. absurd (cc);
        shape = reloads.shape;
        outside = outside_steady (Ok (said.Done reply.Done)) old new reloads.steady (counts_fault_as (λ is. absurd (cc)) (λ is. absurd (cc)) reloads.device);
      }

  -- ---- any other statement

  pub held_left : (old : Engine S) (store : S) (tables : Tables) → Steady g old.store store → LeavesAll g old.store store old.tables tables → tables.settings ≡ old.tables.settings → held_by g (record old { store = store; tables = tables }) ≡ held_by g old
  held_left old store tables steady leaves set = same_held (held_by g old) (held_by g (record old { store = store; tables = tables })) steady.base leaves.pages leaves.catalog refl (same_settings set refl)

  -- where no transaction is open, only what left all isn't committed
  base_tried : (old : Engine S) (store : S) (tables : Tables) → IsAllCommitted (held_by g old) → Steady g old.store store
      → (old.is_open ≡ true) ⊎ LeavesAll g old.store store old.tables tables → KeepsBase (held_by g old) (held_by g (record old { store = store; tables = tables }))
  base_tried old store tables all steady (inl opened) =
      record { closed = λ shut. let wrong : true ≡ false = sym opened ∙ shut in absurd (cc); is_open = λ open_. steady.base }
  base_tried old store tables all steady (inr left) =
      record { closed = λ shut. steady.base ∙ (all shut ∙ sym left.pages); is_open = λ open_. steady.base }

  module _ (old : Engine S) (store : S) (tables : Tables) (stmt : Stmt) (outcome : Outcome) (other : is_tried (role_of stmt) ≡ true) (tried : TriesStep g stmt (Ok outcome) old.store store old.tables tables)
      (kept : (old.is_open ≡ true) ⊎ LeavesAll g old.store store old.tables tables) where
    abbrev kept_engine : Engine S
    kept_engine = record old { store = store; tables = tables }

    still_read : only_reads (role_of stmt) ≡ true → held_by g kept_engine ≡ held_by g old
    still_read reads = held_left old store tables tried.tries.steady (tried.tries.reads reads) tried.tries.settings

    kept_steps : AreServed old.tables.catalog → IsReadyEngine g old → DoesReady g old.store store old.tables tables stmt outcome ⊎ IsRefusedFull g old.store store old.tables tables stmt outcome
        → StepsOnPages old.tables.shape (held_by g old) stmt outcome (held_by g kept_engine)
    kept_steps served ready (inl (DoesReady.steps listing does)) =
        steps_done old (held_by g kept_engine) store tables stmt outcome ready.work.stored served other listing does refl refl (base_tried old store tables ready.closed tried.tries.steady kept) still_read refl (same_settings tried.tries.settings refl) tried.tries.shape
        (λ refusal is. held_left old store tables tried.tries.steady (tried.tries.refused refusal (ap Ok is)) tried.tries.settings)
    kept_steps served ready (inl (DoesReady.tells listing told)) =
        steps_told old (held_by g kept_engine) store tables stmt outcome other listing told (base_tried old store tables ready.closed tried.tries.steady kept) (still_read (reads_telling (role_of stmt) listing))
    kept_steps served ready (inr refused) =
        full refused.says (held_left old store tables tried.tries.steady refused.leaves tried.tries.settings) refused.full.full (λ session stands. refused.full.faultless session.working stands.working)
        (λ puts tight db stands. step_beyond old.tables.shape (pages_of g old.store) tight.view old.tables.catalog db stmt tight.sound tight.tight ready.work.stored served stands puts refused.full)

    kept_ready : IsReadyEngine g old → IsReadyEngine g kept_engine
    kept_ready ready =
        let same = tried.tries.steady.base in
        record {
          served = ready.served;
          work = ready_tried g old.store store old.tables tables stmt outcome (tried.does ready.work);
          base_view = ready.base_view;
          base_sound = subst (λ (pages : PageList). KeepAllRules tables.shape pages ready.base_view) (sym same)
              (subst (λ (of : Shape). KeepAllRules of (g.state old.store).base ready.base_view) (sym tried.tries.shape) ready.base_sound);
          base_defs = ready.base_defs;
          base_stored = subst (λ (pages : PageList). AreStored pages ready.base_defs) (sym same) ready.base_stored;
          base_valid = ready.base_valid;
          closed = (base_tried old store tables ready.closed tried.tries.steady kept).closed;
        }

    pub change_kept : MayCall g old → old.served ≡ true → Executes g stmt (Ok outcome) old kept_engine
    change_kept may served =
        let tries = tried.tries in
        record {
          steps = λ ready. (kept_steps (may.served served) ready (tried.does ready.work), kept_ready ready);
          may = record { going = tries.steady.ended ∙ may.going; unmarked = tries.unmarked; served = λ is. tries.served };
          keeps = λ all. base_tried old store tables all tries.steady kept;
          controls = answers_other old.is_open (role_of stmt) outcome other;
          settings = sets_other (role_of stmt) old.served old.tables.settings outcome tables.settings other tries.settings;
          built = λ was. served ∙ sym tries.served.built;
          leaves = λ ready. leaves_steady g stmt old kept_engine tries.steady;
          fetches = λ ready. tried.fetches ready.work;
          once = λ ok ready. tried.once refl ready.work;
          lists = λ ready. tried.lists ready.work;
          brings = tries.brings;
          touches = λ all. tries.touches;
          unserved = λ unserved other outcome is. let wrong : true ≡ false = sym served ∙ unserved in absurd (cc);
          damaged = λ damage e ready. absurd (cc);
          exact = λ damage e. absurd (cc);
          stays = λ damage e. absurd (cc);
          shape = tries.shape;
          outside = outside_steady (Ok outcome) old kept_engine tries.steady tries.device;
        }

  not_done : (outcome : Outcome) (refusal : Refusal) → is_refusal outcome ≡ false → outcome ≡ said.Refused refusal → ⊥
  not_done outcome refusal done is = let wrong : true ≡ false = sym (ap is_refusal is) ∙ done in cc

  -- a statement that may change pages was done where no transaction is open, and its pages are committed
  module _ (old : Engine S) (mid : S) (tables : Tables) (stmt : Stmt) (outcome : Outcome) (other : is_tried (role_of stmt) ≡ true) (changing : only_reads (role_of stmt) ≡ false)
      (tried : TriesStep g stmt (Ok outcome) old.store mid old.tables tables) (shut : old.is_open ≡ false) (done : is_refusal outcome ≡ false) where
    still_counted : g.disk_faults mid ≡ g.disk_faults old.store
    still_counted = tried.tries.device.still (λ is. absurd (cc))

    committed_steps : (new : HeldPages) → IsReady g old.store old.tables → AreServed old.tables.catalog → new.open_ ≡ false → new.base ≡ pages_of g mid → new.work ≡ pages_of g mid → new.defs ≡ tables.catalog → KeepsSettings (held_by g old) new
        → DoesReady g old.store mid old.tables tables stmt outcome ⊎ IsRefusedFull g old.store mid old.tables tables stmt outcome → StepsOnPages old.tables.shape (held_by g old) stmt outcome new
    committed_steps new ready served still base work defs set (inl (DoesReady.steps listing does)) =
        steps_done old new mid tables stmt outcome ready.stored served other listing does work defs
        (record { closed = λ closed. base ∙ sym work; is_open = λ opened. let wrong : true ≡ false = sym opened ∙ still in absurd (cc) })
        (λ reads. let wrong : true ≡ false = sym reads ∙ changing in absurd (cc)) (still ∙ sym shut) set tried.tries.shape
        (λ refusal is. absurd (not_done outcome refusal done is))
    committed_steps new ready served still base work defs set (inl (DoesReady.tells listing told)) = let wrong : true ≡ false = sym (reads_telling (role_of stmt) listing) ∙ changing in absurd (cc)
    committed_steps new ready served still base work defs set (inr refused) = let wrong : true ≡ false = sym (ap is_refusal refused.says) ∙ done in absurd (cc)

    -- the pages that it makes those of the last commit
    made_left : AreServed old.tables.catalog → IsReadyEngine g old → MayBeLeft old.tables.shape (held_by g old) stmt (g.state mid).work
    made_left served ready =
        let work = (g.state mid).work in
        let now = ready_tried g old.store mid old.tables tables stmt outcome (tried.does ready.work) in
        MayBeLeft.after outcome (held_with work work tables.catalog false old.tables.settings old.pass)
        (committed_steps (held_with work work tables.catalog false old.tables.settings old.pass) ready.work served refl refl refl refl (same_settings refl refl) (tried.does ready.work)) refl refl
        (now.view, subst (λ (of : Shape). KeepAllRules of work now.view) tried.tries.shape now.sound) now.stored (built_defs tables.catalog tried.tries.served)

    module _ (store : S) where
      abbrev changed_engine : Engine S
      changed_engine = record old { store = store; tables = tables }

      -- behind what the statement looked at page 0 came to hand, where its pages are sound
      counted_so_far : {result : Result (Unit {0}) StoreFault} → CommitsWork g result mid store → BringsPages g stmt old changed_engine
      counted_so_far commits = record {
        fetches = λ ready.
            fetches_counted g old.tables.shape old.tables.catalog old.tables.settings old.store mid store (bound_of old.tables.catalog stmt) (tried.fetches ready.work)
            (commits.sound (sound_root mid tables (ready_tried g old.store mid old.tables tables stmt outcome (tried.does ready.work))));
        lists = λ ready. lists_changing g old.tables.catalog old.store store (role_of stmt) changing;
        any = only_then tried.tries.brings commits.log;
      }

      pub change_committed : MayCall g old → old.served ≡ true → CommitsWork {X = Unit {0}} g (Ok tt) mid store → (Rests g mid → Rests g store) → Executes g stmt (Ok outcome) old changed_engine
      change_committed may served commits rests =
          let tries = tried.tries in
          record {
            steps = λ ready. (
              committed_steps (held_by g changed_engine) ready.work (may.served served) shut commits.base commits.work refl (same_settings tries.settings refl) (tried.does ready.work),
              ready_committed old changed_engine mid tables (ready_tried g old.store mid old.tables tables stmt outcome (tried.does ready.work)) tries.served served refl commits,
            );
            may = record { going = commits.going (λ e. absurd (cc)) ∙ (tries.steady.ended ∙ may.going); unmarked = commits.unmarked; served = λ is. tries.served };
            keeps = λ all. record { closed = λ still. commits.base ∙ sym commits.work; is_open = λ opened. let wrong : true ≡ false = sym opened ∙ shut in absurd (cc) };
            controls = answers_other old.is_open (role_of stmt) outcome other;
            settings = sets_other (role_of stmt) old.served old.tables.settings outcome tables.settings other tries.settings;
            built = λ was. served ∙ sym tries.served.built;
            leaves = λ ready. leaves_then g (Ok tt) stmt old changed_engine mid tries.steady commits (made_left (may.served served) ready);
            fetches = (counted_so_far commits).fetches;
            once = λ ok ready. once_counted g old.tables.shape old.tables.catalog old.tables.settings old.store mid store (bound_of old.tables.catalog stmt) (tried.once refl ready.work) commits.brings;
            lists = (counted_so_far commits).lists;
            brings = (counted_so_far commits).any;
            touches = λ all. held_then g stmt old.store mid store old.tables commits.is_told commits.work tries.touches;
            unserved = λ unserved other outcome is. let wrong : true ≡ false = sym served ∙ unserved in absurd (cc);
            damaged = λ damage e ready. absurd (cc);
            exact = λ damage e. absurd (cc);
            stays = λ damage e. absurd (cc);
            shape = tries.shape;
            outside = outside_value old changed_engine (outside_then (Ok tt) old changed_engine mid tries.steady still_counted commits rests);
          }

      pub change_stops : (result : Result Outcome StoreFault) (stop : StoreFault) → MayCall g old → IsErrAnd result (λ e. e ≡ stop) → CommitsWork {X = Unit {0}} g (Err stop) mid store
          → (Rests g mid → Rests g store) → NamesExactly {X = Unit {0}} g tables.shape (Err stop) store → Executes g stmt result old changed_engine
      change_stops result stop may is commits rests exact =
          let tries = tried.tries in
          executes_stop {Y = Unit {0}} stmt result stop old changed_engine is
          (λ damage e ready. commits.damaged damage (ap Err e) (sound_root mid tables (ready_tried g old.store mid old.tables tables stmt outcome (tried.does ready.work))))
          (subst (λ (of : Shape). NamesExactly {X = Unit {0}} g of (Err stop) store) tries.shape exact)
          (λ damage e.
          let halts = commits.halts damage (ap Err e) in
          stays_steady old changed_engine (steady_then tries.steady halts.steady) (halts.marked ∙ tries.unmarked) may.going refl)
          (λ ready. leaves_then g (Err stop) stmt old changed_engine mid tries.steady commits (made_left (may.served ready.served) ready)) (counted_so_far commits) tries.shape tries.settings
          (outside_then (Err stop) old changed_engine mid tries.steady still_counted commits rests)

  -- the execution stopped
  pub change_untried : (result : Result Outcome StoreFault) (stop : StoreFault) (old : Engine S) (store : S) (tables : Tables) (stmt : Stmt) → MayCall g old → IsErrAnd result (λ e. e ≡ stop)
      → TriesStep g stmt (Err stop) old.store store old.tables tables → NamesExactly {X = Outcome} g old.tables.shape (Err stop) store
      → Executes g stmt result old (record old { store = store; tables = tables })
  change_untried result stop old store tables stmt may is tried exact =
      let tries = tried.tries in
      let new : Engine S = record old { store = store; tables = tables } in
      executes_stop {X = Outcome} {Y = Outcome} stmt result stop old new is (λ damage e ready. tried.damaged damage (ap Err e) ready.work) exact
      (λ damage e. stays_steady old new tries.steady (tries.back damage (ap Err e)).unmarked may.going refl)
      (λ ready. leaves_steady g stmt old new tries.steady) (record { fetches = λ ready. tried.fetches ready.work; lists = λ ready. tried.lists ready.work; any = tries.brings }) tries.shape tries.settings
      (outside_steady (Err stop) old new tries.steady tries.device)

  -- a statement that reads alone was tried
  pub read_tried : (result : Result Outcome StoreFault) (old : Engine S) (store : S) (tables : Tables) (stmt : Stmt) → only_reads (role_of stmt) ≡ true → MayCall g old → old.served ≡ true
      → TriesStep g stmt result old.store store old.tables tables → NamesExactly g old.tables.shape result store → Executes g stmt result old (record old { store = store; tables = tables })
  read_tried (Ok outcome) old store tables stmt reads may served tried exact =
      change_kept old store tables stmt outcome (tried_reading (role_of stmt) reads) tried (inr (tried.tries.reads reads)) may served
  read_tried (Err stop) old store tables stmt reads may served tried exact = change_untried (Err stop) stop old store tables stmt may refl tried exact

  -- ---- another store with the same pages

  pub ready_along : (old : Engine S) (store : S) → (g.state store).is_told ≡ (g.state old.store).is_told → (g.state store).base ≡ (g.state old.store).base → (g.state store).work ≡ (g.state old.store).work
      → IsReadyEngine g old → IsReadyEngine g (record old { store = store })
  ready_along old store told base work ready = record {
    served = ready.served;
    work = ready_same g old.store store old.tables told work ready.work;
    base_view = ready.base_view;
    base_sound = subst (λ (pages : PageList). KeepAllRules old.tables.shape pages ready.base_view) (sym base) ready.base_sound;
    base_defs = ready.base_defs;
    base_stored = subst (λ (pages : PageList). AreStored pages ready.base_defs) (sym base) ready.base_stored;
    base_valid = ready.base_valid;
    closed = λ shut. base ∙ (ready.closed shut ∙ sym work);
  }

-- ---- which statement it is

pub is_begin : (stmt : Stmt) → Begins ≡ role_of stmt → stmt ≡ statement.Begin
is_begin statement.Begin is = refl
is_begin stmt is = absurd (cc)

pub is_commit : (stmt : Stmt) → Commits ≡ role_of stmt → stmt ≡ statement.Commit
is_commit statement.Commit is = refl
is_commit stmt is = absurd (cc)

pub is_rollback : (stmt : Stmt) → GoesBack ≡ role_of stmt → stmt ≡ statement.Rollback
is_rollback statement.Rollback is = refl
is_rollback stmt is = absurd (cc)
