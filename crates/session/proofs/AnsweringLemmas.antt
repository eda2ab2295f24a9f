-- What the answer to one item does to an engine.
use Rattle.std.proofs.Common.{◌≡◌, ℕ, List, [], Bool, true, false, Option, Some, None, Result, Ok, Err, refl, sym, ap, subst, inl, inr, ◌∙◌, append-nil, arith}
use Rattle.std.specs.Prelude.{IfOk, IsErrOf, OnOk}
use Rattle.mdc_words.proofs.FaultsLemmas.{counts_fault_none}
use Rattle.mdc_words.proofs.TimeLemmas.{over_time_none, over_time_wider}
use Rattle.mdc_ast.specs.declared.refusal.Refusal.{Refusal}
use Rattle.mdc_ast.specs.declared.reply.Outcome.{Outcome}
use Rattle.mdc_ast.specs.declared.reply.Outcome.TheVariants as said
use Rattle.mdc_ast.specs.declared.statement.Stmt.{Stmt}
use Rattle.mdc_ast.specs.declared.statement.Stmt.TheVariants as statement
use Rattle.mdc_ast.specs.Reading.{Statement}
use Rattle.mdc_ast.specs.Reading as reading
use Rattle.mdc_sound.specs.SoundDatabase.{IsSoundDatabase}
use Rattle.statement_meaning.specs.Binding.{bound_of}
use Rattle.statement_meaning.specs.Built.{are_built}
use Rattle.store_api.specs.Calls.{TellsPart, continued}
use Rattle.store_api.specs.Fetching.{Brought}
use Rattle.store_api.specs.StoreState.{StoreState}
use Rattle.store_api.specs.Works as works
use Rattle.store_api.specs.declared.fault.Damage.{Damage}
use Rattle.store_api.specs.declared.pages.Pages.{Ghosts}
use Rattle.store_api.specs.declared.shape.Shape.{Shape}
use Rattle.store_api.proofs.FetchingLemmas.{brought_none}
use Rattle.table_trees.specs.ToldPages.{PageList}
use Rattle.script_engine.specs.Fetching.{FetchesForListing, FetchesForStatement}
use Rattle.script_engine.specs.Held.{HeldPages, StepsOnPages}
use Rattle.script_engine.specs.Leaving.{MayBeLeft}
use Rattle.script_engine.specs.Leaving as leaving
use Rattle.script_engine.specs.OnAnyPages.{ExecutesOnAny, IsGoingEngine, MayBeLeftOnAny, judged_pages}
use Rattle.script_engine.specs.Resting as resting
use Rattle.script_engine.specs.Roles.{role_of}
use Rattle.script_engine.specs.Serving.{IsReadyEngine, MayCall, held_by}
use Rattle.script_engine.specs.Turns.{LeavesCommitted, LeavesOutside}
use Rattle.script_engine.specs.declared.engine.Engine.{Engine}
use Rattle.store_api.specs.declared.fault.StoreFault.{StoreFault}
use Rattle.store_api.specs.declared.fault.StoreFault.TheVariants.{Damaged, Device}
use Rattle.stored_catalog.specs.StoredDefinitions.{AreStored}
use Rattle.session.specs.script.Answering.{AnswersItem, AnswersSo, FetchesItem, MayBeKept}
use Rattle.session.specs.script.AnyStops.{AreJudged, NeedsTables}
use Rattle.session.specs.script.Engines.{IsAnyEngine, IsSoundEngine}
use Rattle.session.specs.script.Going.{MeetsItem, still}
use Rattle.session.specs.script.Leaving.{AreServedPages, done, stopped}
use Rattle.session.specs.script.TheWays.{on_any, on_sound}
use Rattle.session.proofs.FetchedItemsLemmas.{fetches_item}
use Rattle.session.proofs.FetchedRunsLemmas.{fetches_same}
use Rattle.session.proofs.StopsLemmas.{device_stop, names_damage}

-- what is used of the execution of a statement, on a sound engine and on any
pub record HasExecuted {S : Type 0} (g : Ghosts S) (stmt : Stmt) (result : Result Outcome StoreFault) (old new : Engine S) : Type 0 where
  pub steps : IfOk result (λ outcome. IsReadyEngine g old → StepsOnPages old.tables.shape (held_by g old) stmt outcome (held_by g new) × IsReadyEngine g new)
  pub leaves : IsReadyEngine g old → LeavesCommitted g stmt old new
  pub fetches : IsReadyEngine g old → FetchesForStatement g old.tables.shape old.store new.store old.tables.catalog old.tables.settings (bound_of old.tables.catalog stmt)
  pub lists : IsReadyEngine g old → FetchesForListing g old.store new.store old.tables.catalog (role_of stmt)
  pub pages : List ℕ
  pub brought : Brought g pages old.store new.store
  pub any : IsGoingEngine g old → ExecutesOnAny g stmt result old new
  pub may : OnOk result (MayCall g new)
  pub damaged : (damage : Damage) → result ≡ Err (Damaged damage) → IsReadyEngine g old → ⊥
  pub shape : new.tables.shape ≡ old.tables.shape
  pub outside : LeavesOutside g result old new
  pub rests : works.Rests g old.store → works.Rests g new.store

-- ---- on sound pages

-- a step that is refused changes nothing
steps_refused : {shape : Shape} {old new : HeldPages} {stmt : Stmt} {outcome : Outcome} (refusal : Refusal) → outcome ≡ said.Refused refusal → StepsOnPages shape old stmt outcome new → new ≡ old
steps_refused refusal is (StepsOnPages.turns turns base work others refused places tight) = refused refusal is
steps_refused refusal is (StepsOnPages.full says same full faultless beyond) = same

-- what may be left of a statement that stopped may be kept of it
kept_of_sound : {shape : Shape} (stmt : Stmt) (held : HeldPages) (pages : PageList) → AreServedPages shape held.base → MayBeLeft shape held stmt pages → MayBeKept (on_sound shape) held (Statement stmt) pages
kept_of_sound {shape} stmt held pages served (leaving.before same) =
    record { may = subst (AreServedPages shape) (sym same) served; items = 0; few = omega arith; kept = done (omega arith) held refl same }
kept_of_sound stmt held pages served (leaving.after outcome new steps closed same sound stored valid) = record {
  may = record { sound = sound; defs = new.defs; stored = stored; valid = valid };
  items = 1;
  few = omega arith;
  kept = stopped stmt refl refl (record {
    outcome = outcome;
    new = new;
    steps = steps;
    closed = closed;
    are = same;
    stored = subst (λ (base : PageList). AreStored base new.defs) same stored;
  });
}

-- what may be left of one on any pages
kept_of_any : (told : Bool) (shape : Shape) (stmt : Stmt) (held : HeldPages) (pages : PageList) → MayBeLeftOnAny held stmt pages → MayBeKept (on_any told shape) held (Statement stmt) pages
kept_of_any told shape stmt held pages (inl same) = record { may = tt; items = 0; few = omega arith; kept = done (omega arith) held refl same }
kept_of_any told shape stmt held pages (inr may) = record { may = tt; items = 1; few = omega arith; kept = stopped stmt refl refl may }

module _ {S : Type 0} (g : Ghosts S) where
  -- the pages of the last commit of a sound engine may be served
  pub served_base : (shape : Shape) (engine : Engine S) → IsSoundEngine g shape engine → AreServedPages shape (g.state engine.store).base
  served_base shape engine sound =
      let ready = sound.ready in
      subst (λ (s : Shape). AreServedPages s (g.state engine.store).base) sound.is_shape
      (record { sound = (ready.base_view, ready.base_sound); defs = ready.base_defs; stored = ready.base_stored; valid = ready.base_valid })

  -- a sound engine may go on
  pub going_when_ready : (engine : Engine S) → MayCall g engine → IsReadyEngine g engine → IsGoingEngine g engine
  going_when_ready engine may ready = record { may = may; by_forms = ready.served ∙ sym (may.served ready.served).built; committed = ready.closed }

  -- an item that did what it may, from a sound engine to a sound one
  met_on_sound : (stmt : Stmt) (outcome : Outcome) (old new : Engine S) → IsReadyEngine g old → IsReadyEngine g new → StepsOnPages old.tables.shape (held_by g old) stmt outcome (held_by g new)
      → new.tables.shape ≡ old.tables.shape → MeetsItem old.tables.shape (held_by g old) (Statement stmt) outcome (still (held_by g new))
  met_on_sound stmt outcome old new ready ready_new steps shape = record {
    meets = steps;
    refused = λ refusal is. steps_refused refusal is steps;
    was_sound = (ready.work.view, ready.work.sound);
    was_stored = ready.work.stored;
    sound = subst (λ (s : Shape). IsSoundDatabase s (g.state new.store).work) shape (ready_new.work.view, ready_new.work.sound);
    stored = ready_new.work.stored;
    rests = resting.nothing;
  }

  -- ---- a statement was executed

  module _ (old new : Engine S) where
    -- one that needs tables, and stopped, found them all of built forms
    built_at : (stmt : Stmt) (stop : StoreFault) → ExecutesOnAny g stmt (Err stop) old new → NeedsTables stmt → are_built old.tables.catalog ≡ true
    built_at statement.Begin stop any needs = absurd needs
    built_at statement.Commit stop any needs = absurd needs
    built_at statement.Rollback stop any needs = absurd needs
    built_at stmt stop any needs = any.built refl

  module _ (stmt : Stmt) (old new : Engine S) (may : MayCall g old) where
    -- what it brought to hand, from a sound engine on
    fetched_on_sound : (result : Result Outcome StoreFault) → HasExecuted g stmt result old new → IsReadyEngine g old → FetchesItem (on_sound old.tables.shape) g (Statement stmt) old new
    fetched_on_sound result executes ready = fetches_item g stmt old new ready executes.pages executes.brought (executes.fetches ready) (executes.lists ready)

    -- by a sound engine
    answers_sound : (result : Result Outcome StoreFault) → HasExecuted g stmt result old new → (ready : IsReadyEngine g old) → AnswersSo (on_sound old.tables.shape) (IsSoundEngine g old.tables.shape) g (Statement stmt) result old new
    answers_sound (Ok outcome) executes ready =
        let steps = executes.steps ready in
        record {
          met = met_on_sound stmt outcome old new ready steps.1 steps.0 executes.shape;
          fetches = fetched_on_sound (Ok outcome) executes ready;
          ready = record { ready = steps.1; is_shape = executes.shape };
          time = (executes.any (going_when_ready old may ready)).answered;
        }
    answers_sound (Err stop) executes ready =
        let leaves : LeavesCommitted g stmt old new = executes.leaves ready in
        let served = served_base old.tables.shape old (record { ready = ready; is_shape = refl }) in
        record {
          base = kept_of_sound stmt (held_by g old) (g.state new.store).base served leaves.base;
          time = over_time_wider leaves.time (λ left told is. ((is.0.0, is.0.1, kept_of_sound stmt (held_by g old) is.0.0 served is.0.2), is.1));
          fetches = fetched_on_sound (Err stop) executes ready;
          stops = tt;
        }

    -- by any
    answers_any : (result : Result Outcome StoreFault) → ExecutesOnAny g stmt result old new → FetchesItem (on_any (g.state old.store).is_told old.tables.shape) g (Statement stmt) old new → new.tables.shape ≡ old.tables.shape → (g.state new.store).is_told ≡ (g.state old.store).is_told
        → AnswersSo (on_any (g.state old.store).is_told old.tables.shape) (IsAnyEngine g (g.state old.store).is_told old.tables.shape) g (Statement stmt) result old new
    answers_any (Ok outcome) any fetches shape is_told = record {
      met = record { meets = any.steps.0; rests = resting.nothing };
      fetches = fetches;
      ready = record { going = any.steps.1; is_told = is_told; is_shape = shape };
      time = any.answered;
    }
    answers_any (Err stop) any fetches shape is_told =
        let told = (g.state old.store).is_told in
        record {
          base = kept_of_any told old.tables.shape stmt (held_by g old) (g.state new.store).base any.base;
          time = over_time_wider any.stopped (λ left heard is. ((is.0.0, is.0.1, kept_of_any told old.tables.shape stmt (held_by g old) is.0.0 is.0.2), is.1));
          fetches = fetches;
          stops = record {
            kept = λ other. any.kept (λ is. other (device_stop stop is));
            damage = λ damage is tells. record {
              pages = judged_pages stmt (held_by g old);
              judged = AreJudged.within stmt refl refl;
              first = (any.damage damage (ap Err (names_damage stop damage is))).first tells;
            };
            built = λ same hand needs. let is : same ≡ stmt = cc in built_at old new stmt stop any (subst NeedsTables is needs);
          };
        }

    -- the store goes on, unless the disk failed
    going_on : (result : Result Outcome StoreFault) → OnOk result (MayCall g new) → ExecutesOnAny g stmt result old new → (IsErrOf result Device → ⊥) → (g.state new.store).ended ≡ false
    going_on (Ok outcome) may_new any other = may_new.going
    going_on (Err stop) may_new any other = any.going other

    pub answers_executed : (result : Result Outcome StoreFault) → HasExecuted g stmt result old new → AnswersItem g (Statement stmt) result old new
    answers_executed result executes = record {
      sound = λ shape sound.
          subst (λ (s : Shape). AnswersSo (on_sound s) (IsSoundEngine g s) g (Statement stmt) result old new) sound.is_shape (answers_sound result executes sound.ready);
      any = λ told shape engine.
          subst (λ (b : Bool). AnswersSo (on_any b shape) (IsAnyEngine g b shape) g (Statement stmt) result old new) engine.is_told
          (subst (λ (s : Shape). AnswersSo (on_any (g.state old.store).is_told s) (IsAnyEngine g (g.state old.store).is_told s) g (Statement stmt) result old new) engine.is_shape
          (answers_any result (executes.any engine.going) (record { pages = executes.pages; brings = tt; brought = executes.brought }) executes.shape executes.outside.is_told));
      may = executes.may;
      going = λ is_going other. going_on result executes.may (executes.any is_going) other;
      damaged = executes.damaged;
      shape = executes.shape;
      outside = executes.outside;
      log = record { pages = executes.pages; goes_on = executes.brought.log };
      at_rest = executes.rests;
    }

  -- ---- what can't be read was refused

  -- no call at all leaves what is outside
  leaves_outside_none : (outcome : Outcome) (engine : Engine S) → LeavesOutside g (Ok outcome) engine engine
  leaves_outside_none outcome engine = record {
    device = counts_fault_none (λ is. absurd (cc));
    say_faults = refl;
    is_told = refl;
    told = refl;
    beside = refl;
    time = over_time_none;
    rests = λ law going rests. rests;
  }

  pub answers_refused : (refusal : Refusal) (engine : Engine S) → MayCall g engine → AnswersItem g (reading.Refused refusal) (Ok (said.Refused refusal)) engine engine
  answers_refused refusal engine may = record {
    sound = λ shape sound. record {
      met = subst (λ (s : Shape). MeetsItem s (held_by g engine) (reading.Refused refusal) (said.Refused refusal) (still (held_by g engine))) sound.is_shape (record {
        meets = (refl, refl);
        refused = λ other is. refl;
        was_sound = (sound.ready.work.view, sound.ready.work.sound);
        was_stored = sound.ready.work.stored;
        sound = (sound.ready.work.view, sound.ready.work.sound);
        stored = sound.ready.work.stored;
        rests = resting.nothing;
      });
      fetches = record { pages = []; brings = refl; brought = brought_none };
      ready = sound;
      time = over_time_none;
    };
    any = λ told shape is. record { met = record { meets = (refl, refl); rests = resting.nothing }; fetches = record { pages = []; brings = refl; brought = brought_none }; ready = is; time = over_time_none };
    may = may;
    going = λ is other. may.going;
    damaged = λ damage is. absurd (cc);
    shape = refl;
    outside = leaves_outside_none (said.Refused refusal) engine;
    log = fetches_same refl;
    at_rest = λ rests. rests;
  }

-- ---- a reply that wasn't told whole

continued_none : (told : Option (List ℕ)) → told ≡ continued [] told
continued_none None = refl
continued_none (Some bytes) = ap Some (sym (append-nil bytes))

-- where nothing was done, a front of nothing was told
pub tells_part-none : (piece : List ℕ) (s : StoreState) → TellsPart piece (record s { hand = None }) (record s { hand = None })
tells_part-none piece s = ([], (piece, refl), ap (λ told. record s { told = told; hand = None }) (continued_none s.told))

-- what was told in part was, whatever page is at hand
pub tells_part-any_hand : (piece : List ℕ) (old new : StoreState) → TellsPart piece old new → TellsPart piece (record old { hand = None }) (record new { hand = None })
tells_part-any_hand piece old new (part, front, tells) =
    let apart : StoreState → StoreState = λ s. record s { hand = None } in
    (part, front, ap apart tells)
