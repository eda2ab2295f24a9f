-- SET PLAN and SET CURRENT MDC ROLLOUT MODE on an engine: what the run is set to changes, and nothing else.
use Rattle.std.proofs.Common.{◌≡◌, Bool, true, false, Some, None, Ok, refl, sym, ap, subst, ◌∙◌}
use Rattle.std.specs.Prelude.{◌&&◌, if◌then◌else◌}
use Rattle.mdc_words.proofs.FaultsLemmas.{counts_fault_none}
use Rattle.mdc_ast.specs.declared.refusal.Refusal.{Refusal}
use Rattle.mdc_ast.specs.declared.reply.Outcome.{Outcome}
use Rattle.mdc_ast.specs.declared.reply.Outcome.TheVariants as said
use Rattle.mdc_ast.specs.declared.reply.Reply.TheVariants as reply
use Rattle.mdc_ast.specs.declared.statement.Stmt.{Stmt}
use Rattle.mdc_ast.specs.declared.statement.Stmt.TheVariants as statement
use Rattle.mdc_ast.specs.Database.{defs_of}
use Rattle.mdc_ast.specs.Definitions.{Definitions}
use Rattle.statement_meaning.specs.Binding.{bound_of}
use Rattle.statement_meaning.specs.Built.{are_built, is_built_step}
use Rattle.statement_meaning.specs.Cause.{NotBuilt, refusal_of}
use Rattle.statement_meaning.specs.Session.{Session, set_to, turn}
use Rattle.statement_meaning.specs.Step.{Answer, Refused, Replied}
use Rattle.store_api.specs.declared.pages.Pages.{Ghosts}
use Rattle.store_api.proofs.FetchingLemmas.{only_none}
use Rattle.store_api.proofs.WorksLemmas.{steady_none}
use Rattle.script_engine.specs.Controls.{AnswersControl, AnswersSetting, answer_to_setting}
use Rattle.script_engine.specs.Doing.{changed_place}
use Rattle.script_engine.specs.Held.{HeldPages, KeepsWork, StandsForSession, StandsForTurn, StepsOnPages}
use Rattle.script_engine.specs.Held.StepsOnPages.{turns}
use Rattle.script_engine.specs.OnAnyPages.{DoesOnAny, ExecutesOnAny, IsGoingEngine}
use Rattle.script_engine.specs.PuttingStatements.{OnlyPutsByText}
use Rattle.script_engine.specs.Roles.{Role, Sets, is_built_as, is_built_setting, role_of, set_on}
use Rattle.script_engine.specs.Serving.{IsReadyEngine, MayCall, held_by}
use Rattle.script_engine.specs.Turns.{Executes}
use Rattle.script_engine.specs.declared.class.Setting.{Setting}
use Rattle.script_engine.specs.declared.class.Setting.TheVariants as setting
use Rattle.script_engine.specs.declared.engine.Engine.{Engine}
use Rattle.script_engine.proofs.FetchesForListingLemmas.{lists_none}
use Rattle.script_engine.proofs.FetchesForStatementLemmas.{fetches_none}
use Rattle.script_engine.proofs.FetchesOnceLemmas.{once_none}
use Rattle.script_engine.proofs.LeavingLemmas.{leaves_still}
use Rattle.script_engine.proofs.LeavingOthersLemmas.{leaves_others_still}
use Rattle.script_engine.proofs.OnAnyLemmas.{any_answered, as_it_was, steps_any}
use Rattle.script_engine.proofs.RepliesLemmas.{kind_set}
use Rattle.script_engine.proofs.StoredDefsLemmas.{same_built, stored_defs}
use Rattle.script_engine.proofs.TouchesForStatementLemmas.{held_still}
use Rattle.script_engine.proofs.TurnsLemmas.{outside_steady}

-- ---- the statement

-- it sets a session where it is built
turn_taken : (session : Session) (stmt : Stmt) (set : Setting) → role_of stmt ≡ Sets set → is_built_setting set ≡ true → are_built (defs_of session.working) ≡ true
    → turn session stmt ≡ (record session { settings = set_on set session.settings }, Replied reply.Done)
turn_taken session (statement.SetPlan mode) set is form built =
    let same : setting.Plan mode ≡ set = cc in
    subst (λ (s : Setting). turn session (statement.SetPlan mode) ≡ (record session { settings = set_on s session.settings }, Replied reply.Done)) same
    (ap (λ (b : Bool). if b then (record session { settings = record session.settings { plan = mode } }, Replied reply.Done) else (session, Refused (refusal_of NotBuilt))) built)
turn_taken session (statement.SetRollout mode) set is form built =
    let same : setting.Rollout mode ≡ set = cc in
    let form_here : is_built_setting (setting.Rollout mode) ≡ true = ap is_built_setting same ∙ form in
    subst (λ (s : Setting). turn session (statement.SetRollout mode) ≡ (record session { settings = set_on s session.settings }, Replied reply.Done)) same
    (ap (λ (b : Bool). if b then set_to session (record session.settings { rollout = mode }) else (session, Refused (refusal_of NotBuilt))) form_here
    ∙ ap (λ (b : Bool). if b then (record session { settings = record session.settings { rollout = mode } }, Replied reply.Done) else (session, Refused (refusal_of NotBuilt))) built)
turn_taken session stmt set is form built = absurd (cc)

-- and is refused with 14 where it isn't
turn_untaken : (session : Session) (stmt : Stmt) (set : Setting) → role_of stmt ≡ Sets set → is_built_setting set ≡ false → turn session stmt ≡ (session, Refused (refusal_of NotBuilt))
turn_untaken session (statement.SetPlan mode) set is form =
    let same : setting.Plan mode ≡ set = cc in
    let wrong : true ≡ false = ap is_built_setting same ∙ form in
    absurd (cc)
turn_untaken session (statement.SetRollout mode) set is form =
    let same : setting.Rollout mode ≡ set = cc in
    let form_here : is_built_setting (setting.Rollout mode) ≡ false = ap is_built_setting same ∙ form in
    ap (λ (b : Bool). if b then set_to session (record session.settings { rollout = mode }) else (session, Refused (refusal_of NotBuilt))) form_here
turn_untaken session stmt set is form = absurd (cc)

-- it changes no rows
places_none : (defs : Definitions) (stmt : Stmt) (set : Setting) → role_of stmt ≡ Sets set → changed_place (bound_of defs stmt) ≡ None
places_none defs (statement.SetPlan mode) set is = refl
places_none defs (statement.SetRollout mode) set is = refl
places_none defs stmt set is = absurd (cc)

-- and puts none
puts_none : (stmt : Stmt) (set : Setting) → role_of stmt ≡ Sets set → OnlyPutsByText stmt → ⊥
puts_none (statement.SetPlan mode) set is puts = puts
puts_none (statement.SetRollout mode) set is puts = puts
puts_none stmt set is puts = absurd (cc)

-- of two tests that hold both, each does
of_both : (a b : Bool) → (a && b) ≡ true → (a ≡ true) × (b ≡ true)
of_both true b is = (refl, is)
of_both false b is = absurd (cc)

-- ---- the engine

module _ {S : Type 0} (g : Ghosts S) (old : Engine S) (stmt : Stmt) (set : Setting) (is : role_of stmt ≡ Sets set) where
  -- a step that leaves the pages and the definitions
  steps_set : (new : HeldPages) (outcome : Outcome) → new ≡ record (held_by g old) { settings = new.settings } → IsReadyEngine g old
      → ((session : Session) → StandsForSession old.tables.shape (held_by g old) session → StandsForTurn old.tables.shape (held_by g old) stmt (turn session stmt) outcome new)
      → ((refusal : Refusal) → outcome ≡ said.Refused refusal → new ≡ held_by g old) → StepsOnPages old.tables.shape (held_by g old) stmt outcome new
  steps_set new outcome same ready stands refused = turns stands
      (record {
        closed = λ shut. ap (λ (held : HeldPages). held.base) same ∙ (ready.closed (ap (λ (held : HeldPages). held.open_) (sym same) ∙ shut) ∙ sym (ap (λ (held : HeldPages). held.work) same));
        is_open = λ opened. ap (λ (held : HeldPages). held.base) same;
      })
      (subst (λ (role : Role). KeepsWork role (held_by g old) new) (sym is) same)
      (leaves_others_still old.tables.shape stmt (held_by g old) new (ap (λ (held : HeldPages). held.work) same) (ap (λ (held : HeldPages). held.defs) same)) refused
      (λ reply done place def changed at. let none : None ≡ Some place = sym (places_none old.tables.catalog stmt set is) ∙ changed in absurd (cc))
      (λ puts. absurd (puts_none stmt set is puts))

  -- ---- it is refused

  module _ (refusal : Refusal) (says : refusal ≡ refusal_of NotBuilt) (untaken : (old.served && is_built_setting set) ≡ false) where
    outcome_is : said.Refused refusal ≡ said.Refused (refusal_of NotBuilt)
    outcome_is = ap said.Refused says

    refused_turns : IsReadyEngine g old → (session : Session) → StandsForSession old.tables.shape (held_by g old) session → StandsForTurn old.tables.shape (held_by g old) stmt (turn session stmt) (said.Refused refusal) (held_by g old)
    refused_turns ready session stands =
        let form : is_built_setting set ≡ false = ap (λ (b : Bool). b && is_built_setting set) (sym ready.served) ∙ untaken in
        subst (λ (end_ : Session × Answer). StandsForTurn old.tables.shape (held_by g old) stmt end_ (said.Refused refusal) (held_by g old)) (sym (turn_untaken session stmt set is form))
        (record { session = stands; answers = outcome_is })

    pub set_refused : MayCall g old → Executes g stmt (Ok (said.Refused refusal)) old old
    set_refused may = record {
      steps = λ ready. (steps_set (held_by g old) (said.Refused refusal) refl ready (refused_turns ready) (λ other e. refl), ready);
      may = may;
      keeps = λ all. record { closed = all; is_open = λ opened. refl };
      controls = subst (λ (role : Role). AnswersControl role old.is_open (said.Refused refusal)) (sym is) tt;
      settings = subst (λ (role : Role). AnswersSetting role old.served old.tables.settings (said.Refused refusal) old.tables.settings) (sym is)
          (outcome_is ∙ sym (ap answer_to_setting untaken), sym (ap (λ (b : Bool). if b then set_on set old.tables.settings else old.tables.settings) untaken));
      built = λ was. was;
      leaves = λ ready. leaves_still g stmt old old refl;
      fetches = λ ready. fetches_none g old.tables.shape old.tables.catalog old.tables.settings old.store (bound_of old.tables.catalog stmt);
      once = λ ok ready. once_none g old.tables.shape old.tables.catalog old.tables.settings old.store (bound_of old.tables.catalog stmt);
      lists = λ ready. lists_none g old.tables.catalog old.store (role_of stmt);
      brings = only_none;
      touches = λ all. held_still g stmt old.store old.store old.tables refl refl;
      unserved = λ unserved other outcome e. let same : said.Refused refusal ≡ outcome = cc in sym same ∙ outcome_is;
      damaged = λ damage e ready. absurd (cc);
      exact = λ damage e. absurd (cc);
      stays = λ damage e. absurd (cc);
      shape = refl;
      outside = outside_steady g (Ok (said.Refused refusal)) old old steady_none (counts_fault_none (λ e. absurd (cc)));
    }

    pub set_refused_any : Executes g stmt (Ok (said.Refused refusal)) old old → IsGoingEngine g old → ExecutesOnAny g stmt (Ok (said.Refused refusal)) old old
    set_refused_any does going = any_answered g stmt old old (said.Refused refusal) steady_none (steps_any g stmt old old (said.Refused refusal) does going (λ reply e. absurd (cc))
        (λ other e. as_it_was (g.state old.store).is_told (held_by g old) (held_by g old) refl) (λ form. outcome_is) tt (λ none. absurd none))

  -- ---- it is taken

  module _ (taken : (old.served && is_built_setting set) ≡ true) where
    abbrev set_engine : Engine S
    set_engine = record old { tables = record old.tables { settings = set_on set old.tables.settings } }

    served : old.served ≡ true
    served = (of_both old.served (is_built_setting set) taken).0

    form : is_built_setting set ≡ true
    form = (of_both old.served (is_built_setting set) taken).1

    taken_turns : MayCall g old → IsReadyEngine g old → (session : Session) → StandsForSession old.tables.shape (held_by g old) session
        → StandsForTurn old.tables.shape (held_by g old) stmt (turn session stmt) (said.Done reply.Done) (held_by g set_engine)
    taken_turns may ready session stands =
        let same = stored_defs old.tables.shape (g.state old.store).work old.tables.catalog session.working ready.work.stored stands.working in
        let built : are_built (defs_of session.working) ≡ true = same_built session.working old.tables.catalog same (may.served served).built in
        subst (λ (end_ : Session × Answer). StandsForTurn old.tables.shape (held_by g old) stmt end_ (said.Done reply.Done) (held_by g set_engine)) (sym (turn_taken session stmt set is form built))
        (record {
          session = record { kept = stands.kept; working = stands.working; is_open = stands.is_open; settings = ap (set_on set) stands.settings; pass = stands.pass };
          answers = refl;
        })

    ready_set : IsReadyEngine g old → IsReadyEngine g set_engine
    ready_set ready = record {
      served = ready.served;
      work = record { told = ready.work.told; view = ready.work.view; sound = ready.work.sound; stored = ready.work.stored; notes = ready.work.notes; rooms = ready.work.rooms };
      base_view = ready.base_view;
      base_sound = ready.base_sound;
      base_defs = ready.base_defs;
      base_stored = ready.base_stored;
      base_valid = ready.base_valid;
      closed = ready.closed;
    }

    pub set_done : MayCall g old → Executes g stmt (Ok (said.Done reply.Done)) old set_engine
    set_done may = record {
      steps = λ ready. (steps_set (held_by g set_engine) (said.Done reply.Done) refl ready (taken_turns may ready) (λ refusal e. absurd (cc)), ready_set ready);
      may = record { going = may.going; unmarked = may.unmarked; served = may.served };
      keeps = λ all. record { closed = all; is_open = λ opened. refl };
      controls = subst (λ (role : Role). AnswersControl role old.is_open (said.Done reply.Done)) (sym is) tt;
      settings = subst (λ (role : Role). AnswersSetting role old.served old.tables.settings (said.Done reply.Done) (set_on set old.tables.settings)) (sym is)
          (sym (ap answer_to_setting taken), sym (ap (λ (b : Bool). if b then set_on set old.tables.settings else old.tables.settings) taken));
      built = λ was. was;
      leaves = λ ready. leaves_still g stmt old set_engine refl;
      fetches = λ ready. fetches_none g old.tables.shape old.tables.catalog old.tables.settings old.store (bound_of old.tables.catalog stmt);
      once = λ ok ready. once_none g old.tables.shape old.tables.catalog old.tables.settings old.store (bound_of old.tables.catalog stmt);
      lists = λ ready. lists_none g old.tables.catalog old.store (role_of stmt);
      brings = only_none;
      touches = λ all. held_still g stmt old.store old.store old.tables refl refl;
      unserved = λ unserved other outcome e. let wrong : true ≡ false = sym served ∙ unserved in absurd (cc);
      damaged = λ damage e ready. absurd (cc);
      exact = λ damage e. absurd (cc);
      stays = λ damage e. absurd (cc);
      shape = refl;
      outside = outside_steady g (Ok (said.Done reply.Done)) old set_engine steady_none (counts_fault_none (λ e. absurd (cc)));
    }

    pub set_any : Executes g stmt (Ok (said.Done reply.Done)) old set_engine → IsGoingEngine g old → ExecutesOnAny g stmt (Ok (said.Done reply.Done)) old set_engine
    set_any does going = any_answered g stmt old set_engine (said.Done reply.Done) steady_none (steps_any g stmt old set_engine (said.Done reply.Done) does going
        (λ reply e. subst (λ (role : Role). DoesOnAny (g.state old.store).is_told role (held_by g old) (held_by g set_engine)) (sym is) refl)
        (λ refusal e. absurd (cc)) (λ unbuilt. let wrong : true ≡ false = sym form ∙ (sym (ap (λ (role : Role). is_built_as role (is_built_step stmt)) is) ∙ unbuilt) in absurd (cc)) (kind_set stmt set is) (λ none. absurd none))
