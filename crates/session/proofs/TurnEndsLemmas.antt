-- How the turn of one item ends: at a stop before it has an outcome, while its outcome is told, and behind it.
use Rattle.std.proofs.Common.{◌≡◌, [], ◌∷◌, Bool, None, Result, Ok, Err, refl, sym, ◌∙◌, ap, subst, inl, inr}
use Rattle.std.proofs.lemmas.List.{append-nil}
use Rattle.std.specs.Prelude.{IsTrue}
use Rattle.mdc_words.specs.Time.{OverTime}
use Rattle.mdc_words.proofs.FaultsLemmas.{counts_fault_as, counts_fault_then}
use Rattle.mdc_words.proofs.TimeLemmas.{over_time_then, over_time_wider}
use Rattle.mdc_ast.specs.declared.reply.Outcome.{Outcome}
use Rattle.mdc_ast.specs.Reading.{Item}
use Rattle.mdc_sound.specs.Breaks.{IsFirstBreak}
use Rattle.statement_meaning.specs.Session.{is_refusal}
use Rattle.statement_meaning.specs.Built.{are_built}
use Rattle.statement_meaning.specs.Texts.{outcome_text}
use Rattle.store_api.specs.declared.pages.Pages.{Ghosts}
use Rattle.store_api.specs.declared.shape.Shape.{Shape}
use Rattle.script_engine.specs.Held.{HeldPages}
use Rattle.script_engine.specs.Leaving.{IsAllCommitted}
use Rattle.script_engine.specs.OnAnyPages.{IsGoingEngine}
use Rattle.script_engine.specs.Resting.{IsHeldWithin, RestsOnce, RestsOnceOnAny, Settles, TakesStepsBy, held_behind}
use Rattle.script_engine.specs.Serving.{IsReadyEngine, held_by}
use Rattle.script_engine.specs.declared.engine.Engine.{Engine}
use Rattle.store_api.specs.declared.fault.StoreFault.{StoreFault}
use Rattle.session.specs.script.Answering.{AnswersBy, AnswersItem, StopsBy, TellsOutcome}
use Rattle.session.specs.script.AnyStops.{AreJudged, StopsOnAny}
use Rattle.session.specs.script.Engines.{IsAnyEngine, IsSoundEngine}
use Rattle.session.specs.script.Going.{end_of, still}
use Rattle.session.specs.script.Leaving.{ReopensAlways}
use Rattle.session.specs.Stops.{stop_of_fault}
use Rattle.session.specs.script.TheWays.{on_any, on_sound}
use Rattle.session.specs.script.Turning.{EndsTold, RunsItems, StopsTurn, TurnsItem}
use Rattle.session.specs.script.Ways.{Way}
use Rattle.session.specs.declared.stop.Stop.{Stop}
use Rattle.session.proofs.AnsweringLemmas.{served_base}
use Rattle.session.proofs.FetchedRunsLemmas.{fetches_more_then, fetches_same}
use Rattle.session.proofs.GoingLemmas.{end_of-stage_then, stage_then, within_behind}
use Rattle.session.proofs.StopsLemmas.{counts_device, counts_none, device_stop, engine_stops_turn, names_damage, never_unsaid, of_device, telling_names_no_damage, telling_not_device, telling_stops_turn}
use Rattle.session.proofs.ToldLemmas.{same-tells_more, takes-tells, tells_more_then}
use Rattle.session.proofs.TurningLemmas.{reopens_answering, reopens_resting, reopens_then, runs_one, runs_rested, runs_stopped}
use Rattle.session.proofs.WayLemmas.{IsWay, any_way, sound_way}

-- ---- by either way

module _ {S : Type 0} (way : Way) {Once : HeldPages → HeldPages → Type 0} (is_way : IsWay way Once) (Ready : Engine S → Type 0) (g : Ghosts S)
    (left_ready : (engine : Engine S) → Ready engine → way.Left (g.state engine.store).base) (item : Item) where
  -- before there is an outcome
  stops_unanswered : (stop : Stop) (old new : Engine S) → StopsBy way g item stop old new → (g.state new.store).told ≡ (g.state old.store).told → StopsTurn way g item stop old new
  stops_unanswered stop old new stops same = inr (record { runs = runs_stopped way g item stop old new stops same; stops = stops.stops })

  -- a first part of its text was told
  stops_untold : (stop : Stop) (outcome : Outcome) (old mid new : Engine S) → Ready old → AnswersBy way Ready g item outcome old mid → (g.state mid.store).told ≡ (g.state old.store).told
      → TellsOutcome g outcome (Err stop) mid new → StopsTurn way g item stop old new
  stops_untold stop outcome old mid new ready answers same tells =
      let takes = takes-tells (record (g.state mid.store) { hand = None }) (record (g.state new.store) { hand = None }) tells.err.0 tells.err.2 in
      inl (record {
        outcome = outcome;
        stage = still (held_by g new);
        part = tells.err.0;
        unsaid = tells.err.1.0;
        text = tells.err.1.1;
        runs = runs_one way g (left_ready old ready) (left_ready mid answers.ready) answers tells.held same takes (ap (λ s. s.fetched) tells.err.2) tells.time;
        stops = is_way.still (held_by g old) (still (held_by g new) ∷ []) stop (g.state new.store).base (λ damage is. telling_names_no_damage stop damage tells.cause is) refl;
      })

  -- all of its text was told
  ends_told : (refused : Bool) (outcome : Outcome) (old mid new : Engine S) → refused ≡ is_refusal outcome → Ready old → AnswersBy way Ready g item outcome old mid
      → (g.state mid.store).told ≡ (g.state old.store).told → TellsOutcome g outcome (Ok tt) mid new → Ready new → EndsTold way Ready g item refused old new
  ends_told refused outcome old mid new noted ready answers same tells ready_new = record {
    outcome = outcome;
    noted = noted;
    stage = still (held_by g new);
    runs = runs_one way g (left_ready old ready) (left_ready mid answers.ready) answers tells.held same (takes-tells (g.state mid.store) (g.state new.store) (outcome_text outcome) tells.ok)
        (ap (λ s. s.fetched) tells.ok) tells.time;
    held = refl;
    ready = ready_new;
  }

  -- what a turn told, with the steps after it
  runs_settled : {refused : Bool} {Now : Engine S → Type 0} {result : Result (Unit {0}) StoreFault} {old mid new : Engine S} (told : EndsTold way Ready g item refused old mid)
      → (takes : TakesStepsBy g Once Now result mid new) → (g.state new.store).told ≡ (g.state mid.store).told → (g.state new.store).fetched ≡ (g.state mid.store).fetched
      → RunsItems way g (item ∷ []) [] (told.outcome ∷ []) (stage_then told.stage takes.rests ∷ []) (outcome_text told.outcome) old new
  runs_settled {mid = mid} told takes same quiet = runs_rested way g is_way told.runs told.held (left_ready mid told.ready) takes.steps takes.base same quiet takes.time

  -- what is held behind them is held at the end of the stage
  held_settled : {refused : Bool} {Now : Engine S → Type 0} {result : Result (Unit {0}) StoreFault} {old mid new : Engine S} (told : EndsTold way Ready g item refused old mid)
      → (takes : TakesStepsBy g Once Now result mid new) → held_behind (held_by g mid) takes.rests ≡ end_of (stage_then told.stage takes.rests)
  held_settled told takes = ap (λ (h : HeldPages). held_behind h takes.rests) told.held ∙ sym (end_of-stage_then told.stage takes.rests)

  ends_settled : {refused : Bool} {Now : Engine S → Type 0} {old mid new : Engine S} → EndsTold way Ready g item refused old mid → TakesStepsBy g Once Now (Ok tt) mid new
      → (g.state new.store).told ≡ (g.state mid.store).told → (g.state new.store).fetched ≡ (g.state mid.store).fetched → Ready new → EndsTold way Ready g item refused old new
  ends_settled {old = old} told takes same quiet ready = record {
    outcome = told.outcome;
    noted = told.noted;
    stage = stage_then told.stage takes.rests;
    runs = runs_settled told takes same quiet;
    held = takes.last.0 ∙ held_settled told takes;
    ready = ready;
  }

  -- a step stopped
  stops_unsettled : {refused : Bool} {Now : Engine S → Type 0} (stop : StoreFault) {old mid new : Engine S} (told : EndsTold way Ready g item refused old mid) → (takes : TakesStepsBy g Once Now (Err stop) mid new)
      → (g.state new.store).told ≡ (g.state mid.store).told → (g.state new.store).fetched ≡ (g.state mid.store).fetched → way.Stops (held_by g old) (stage_then told.stage takes.rests ∷ []) [] (stop_of_fault stop) (g.state new.store).base
      → StopsTurn way g item (stop_of_fault stop) old new
  stops_unsettled stop told takes same quiet stops = inl (record {
    outcome = told.outcome;
    stage = stage_then told.stage takes.rests;
    part = outcome_text told.outcome;
    unsaid = [];
    text = sym (append-nil (outcome_text told.outcome));
    runs = runs_settled told takes same quiet;
    stops = stops;
  })

module _ {S : Type 0} (g : Ghosts S) where
  -- ---- on any engine

  -- an engine on which a reply was told goes on
  going_told : (outcome : Outcome) (mid new : Engine S) → TellsOutcome g outcome (Ok tt) mid new → IsGoingEngine g mid → IsGoingEngine g new
  going_told outcome mid new tells going = record {
    may = tells.may;
    by_forms = subst (λ (e : Engine S). e.served ≡ are_built e.tables.catalog) (sym tells.stays) going.by_forms;
    committed = subst IsAllCommitted (sym tells.held) going.committed;
  }

  -- what a stop of a step after an item says
  stops_resting : (told : Bool) (shape : Shape) (item : Item) (refused : Bool) (stop : StoreFault) (old mid new : Engine S) (ended : EndsTold (on_any told shape) (IsAnyEngine g told shape) g item refused old mid)
      → (takes : TakesStepsBy g (RestsOnceOnAny told) (IsGoingEngine g) (Err stop) mid new) → Settles g (Err stop) mid new
      → StopsOnAny told shape (held_by g old) (stage_then ended.stage takes.rests ∷ []) [] (stop_of_fault stop) (g.state new.store).base
  stops_resting told shape item refused stop old mid new ended takes settles =
      let stage = ended.stage in
      record {
        kept = λ other.
            takes.kept (λ is. other (device_stop stop is))
            ∙ ap (λ (h : HeldPages). h.base) (ap (λ (h : HeldPages). held_behind h takes.rests) ended.held ∙ sym (end_of-stage_then stage takes.rests));
        damage = λ damage is tells.
            let named = ap Err (names_damage stop damage is) in
            let work = takes.work damage named in
            record {
              pages = (g.state new.store).work;
              judged = AreJudged.behind refl work.0 (within_behind stage.met work.0 stage.rests takes.rests (subst (λ (h : HeldPages). IsHeldWithin h takes.rests work.0) ended.held work.1)) work.2;
              first = subst (λ (s : Shape). IsFirstBreak s (g.state new.store).work damage.rule damage.page) ended.ready.is_shape
                  (settles.exact damage named (subst IsTrue (sym (settles.is_told ∙ ended.ready.is_told)) tells));
            };
        built = λ stmt hand other. absurd (cc);
      }

  -- ---- before there is an outcome

  pub turns_unanswered : (item : Item) (stop : StoreFault) (old new : Engine S) → AnswersItem g item (Err stop) old new → TurnsItem g item (Err (stop_of_fault stop)) old new
  turns_unanswered item stop old new answers = record {
    sound = λ shape ready. stops_unanswered (on_sound shape) (sound_way shape) (IsSoundEngine g shape) g (served_base g shape) item (stop_of_fault stop) old new (answers.sound shape ready) answers.outside.told;
    any = λ told shape ready.
        stops_unanswered (on_any told shape) (any_way told shape) (IsAnyEngine g told shape) g (λ engine is. tt) item (stop_of_fault stop) old new (answers.any told shape ready) answers.outside.told;
    may = tt;
    stop = engine_stops_turn stop;
    going = λ is other. answers.going is (λ e. other (of_device stop e));
    unsaid = counts_none (never_unsaid stop) answers.outside.say_faults;
    device = counts_device stop answers.outside.device;
    damaged = λ damage e ready. answers.damaged damage (ap Err (names_damage stop damage (cc))) ready;
    beside = answers.outside.beside;
    is_told = answers.outside.is_told;
    tells = same-tells_more _ _ answers.outside.told;
    log = answers.log;
    reopens = over_time_wider answers.outside.time (reopens_answering (g.state old.store) (g.state new.store));
    at_rest = λ law. answers.at_rest;
    shape = answers.shape;
    later = answers.outside.time.later;
  }

  -- ---- while its outcome is told

  module _ (item : Item) (outcome : Outcome) (old mid new : Engine S) (answers : AnswersItem g item (Ok outcome) old mid) where
    still_device : g.disk_faults mid.store ≡ g.disk_faults old.store
    still_device = answers.outside.device.still (λ is. absurd (cc))

    shape_told : new ≡ record mid { store = new.store } → new.tables.shape ≡ old.tables.shape
    shape_told stays = subst (λ (e : Engine S). e.tables.shape ≡ old.tables.shape) (sym stays) answers.shape

    -- a first part of its text was told
    pub turns_untold : (stop : Stop) → TellsOutcome g outcome (Err stop) mid new → TurnsItem g item (Err stop) old new
    turns_untold stop tells =
        let takes = takes-tells (record (g.state mid.store) { hand = None }) (record (g.state new.store) { hand = None }) tells.err.0 tells.err.2 in
        let reopens = reopens_then g old.store mid.store new.store answers.outside.time tells.time in
        record {
          sound = λ shape ready.
              stops_untold (on_sound shape) (sound_way shape) (IsSoundEngine g shape) g (served_base g shape) item stop outcome old mid new ready (answers.sound shape ready) answers.outside.told tells;
          any = λ told shape ready.
              stops_untold (on_any told shape) (any_way told shape) (IsAnyEngine g told shape) g (λ engine is. tt) item stop outcome old mid new ready (answers.any told shape ready) answers.outside.told tells;
          may = tt;
          stop = telling_stops_turn stop tells.cause;
          going = λ is other. ap (λ s. s.ended) tells.err.2 ∙ answers.may.going;
          unsaid = counts_fault_then answers.outside.say_faults (counts_fault_as (λ is. cc) (λ is. cc) tells.unsaid);
          device = counts_none (telling_not_device stop tells.cause) (tells.disk_faults ∙ still_device);
          damaged = λ damage e ready. telling_names_no_damage stop damage tells.cause (cc);
          beside = ap (λ s. s.beside) tells.err.2 ∙ answers.outside.beside;
          is_told = ap (λ s. s.is_told) tells.err.2 ∙ answers.outside.is_told;
          tells = tells_more_then _ _ _ (same-tells_more _ _ answers.outside.told) (tells.err.0, takes);
          log = fetches_more_then answers.log (fetches_same (ap (λ s. s.fetched) tells.err.2));
          reopens = reopens;
          at_rest = λ law rest. tells.at_rest (answers.at_rest rest);
          shape = shape_told tells.stays;
          later = reopens.later;
        }

    -- all of its text was told
    pub turns_told : (refused : Bool) → refused ≡ is_refusal outcome → TellsOutcome g outcome (Ok tt) mid new → TurnsItem g item (Ok refused) old new
    turns_told refused noted tells =
        let takes = takes-tells (g.state mid.store) (g.state new.store) (outcome_text outcome) tells.ok in
        let reopens = reopens_then g old.store mid.store new.store answers.outside.time tells.time in
        let same_told = ap (λ s. s.is_told) tells.ok in
        let same_shape = ap (λ (e : Engine S). e.tables.shape) tells.stays in
        record {
          sound = λ shape ready.
              let by = answers.sound shape ready in
              ends_told (on_sound shape) (sound_way shape) (IsSoundEngine g shape) g (served_base g shape) item refused outcome old mid new noted ready by answers.outside.told tells
              (record { ready = tells.ready by.ready.ready; is_shape = same_shape ∙ by.ready.is_shape });
          any = λ told shape ready.
              let by = answers.any told shape ready in
              ends_told (on_any told shape) (any_way told shape) (IsAnyEngine g told shape) g (λ engine is. tt) item refused outcome old mid new noted ready by answers.outside.told tells
              (record { going = going_told outcome mid new tells by.ready.going; is_told = same_told ∙ by.ready.is_told; is_shape = same_shape ∙ by.ready.is_shape });
          may = tells.may;
          stop = tt;
          going = λ is other. tells.may.going;
          unsaid = counts_fault_as (λ is. absurd (cc)) (λ is. absurd (cc)) (counts_fault_then answers.outside.say_faults tells.unsaid);
          device = counts_none (λ is. absurd (cc)) (tells.disk_faults ∙ still_device);
          damaged = λ damage e ready. absurd (cc);
          beside = ap (λ s. s.beside) tells.ok ∙ answers.outside.beside;
          is_told = same_told ∙ answers.outside.is_told;
          tells = tells_more_then _ _ _ (same-tells_more _ _ answers.outside.told) (_, takes);
          log = fetches_more_then answers.log (fetches_same (ap (λ s. s.fetched) tells.ok));
          reopens = reopens;
          at_rest = λ law rest. tells.at_rest (answers.at_rest rest);
          shape = shape_told tells.stays;
          later = reopens.later;
        }

  -- ---- steps after the answer

  -- steps on a sound engine, in a shape that is its own
  takes_sound : (shape : Shape) (result : Result (Unit {0}) StoreFault) (mid new : Engine S) → Settles g result mid new → IsSoundEngine g shape mid → TakesStepsBy g (RestsOnce shape) (IsReadyEngine g) result mid new
  takes_sound shape result mid new settles sound = subst (λ (s : Shape). TakesStepsBy g (RestsOnce s) (IsReadyEngine g) result mid new) sound.is_shape (settles.takes sound.ready)

  -- a crash within a turn and the steps after it leaves a file that reopens
  reopens_settled : (item : Item) (refused : Bool) (result : Result (Unit {0}) StoreFault) (old mid new : Engine S) → TurnsItem g item (Ok refused) old mid → Settles g result mid new
      → OverTime g.clock g.left ReopensAlways old.store new.store
  reopens_settled item refused result old mid new turns settles = over_time_then turns.reopens (over_time_wider settles.time (reopens_resting (g.state mid.store)))

  -- steps on any engine, of pages that are told or not
  takes_any : (told : Bool) (shape : Shape) (result : Result (Unit {0}) StoreFault) (mid new : Engine S) → Settles g result mid new → IsAnyEngine g told shape mid
      → TakesStepsBy g (RestsOnceOnAny told) (IsGoingEngine g) result mid new
  takes_any told shape result mid new settles is = subst (λ (b : Bool). TakesStepsBy g (RestsOnceOnAny b) (IsGoingEngine g) result mid new) is.is_told (settles.takes_any is.going)

  -- all was done
  pub turns_settled : (item : Item) (refused : Bool) (old mid new : Engine S) → TurnsItem g item (Ok refused) old mid → Settles g (Ok tt) mid new → TurnsItem g item (Ok refused) old new
  turns_settled item refused old mid new turns settles =
      let reopens = reopens_settled item refused (Ok tt) old mid new turns settles in
      record {
        sound = λ shape ready.
            let told = turns.sound shape ready in
            let takes = takes_sound shape (Ok tt) mid new settles told.ready in
            ends_settled (on_sound shape) (sound_way shape) (IsSoundEngine g shape) g (served_base g shape) item told takes settles.told settles.fetched
            (record { ready = takes.last.1; is_shape = settles.shape ∙ told.ready.is_shape });
        any = λ told shape ready.
            let ended = turns.any told shape ready in
            let takes = takes_any told shape (Ok tt) mid new settles ended.ready in
            ends_settled (on_any told shape) (any_way told shape) (IsAnyEngine g told shape) g (λ engine is. tt) item ended takes settles.told settles.fetched
            (record { going = takes.last.1; is_told = settles.is_told ∙ ended.ready.is_told; is_shape = settles.shape ∙ ended.ready.is_shape });
        may = settles.may;
        stop = tt;
        going = λ is other. settles.may.going;
        unsaid = counts_none (λ is. absurd (cc)) (settles.say_faults ∙ turns.unsaid.still (λ is. absurd (cc)));
        device = counts_none (λ is. absurd (cc)) (settles.device.still (λ is. absurd (cc)) ∙ turns.device.still (λ is. absurd (cc)));
        damaged = λ damage e ready. absurd (cc);
        beside = settles.beside ∙ turns.beside;
        is_told = settles.is_told ∙ turns.is_told;
        tells = tells_more_then _ _ _ turns.tells (same-tells_more _ _ settles.told);
        log = fetches_more_then turns.log (fetches_same settles.fetched);
        reopens = reopens;
        at_rest = λ law rest. settles.at_rest law turns.may.going (turns.at_rest law rest);
        shape = settles.shape ∙ turns.shape;
        later = reopens.later;
      }

  -- a step stopped
  pub turns_unsettled : (item : Item) (refused : Bool) (stop : StoreFault) (old mid new : Engine S) → TurnsItem g item (Ok refused) old mid → Settles g (Err stop) mid new
      → TurnsItem g item (Err (stop_of_fault stop)) old new
  turns_unsettled item refused stop old mid new turns settles =
      let reopens = reopens_settled item refused (Err stop) old mid new turns settles in
      record {
        sound = λ shape ready.
            let told = turns.sound shape ready in
            stops_unsettled (on_sound shape) (sound_way shape) (IsSoundEngine g shape) g (served_base g shape) item stop told (takes_sound shape (Err stop) mid new settles told.ready) settles.told settles.fetched tt;
        any = λ told shape ready.
            let ended = turns.any told shape ready in
            let takes = takes_any told shape (Err stop) mid new settles ended.ready in
            stops_unsettled (on_any told shape) (any_way told shape) (IsAnyEngine g told shape) g (λ engine is. tt) item stop ended takes settles.told settles.fetched
            (stops_resting told shape item refused stop old mid new ended takes settles);
        may = tt;
        stop = engine_stops_turn stop;
        going = λ is other. settles.going (λ e. other (of_device stop e));
        unsaid = counts_none (never_unsaid stop) (settles.say_faults ∙ turns.unsaid.still (λ is. absurd (cc)));
        device = counts_fault_then (turns.device.still (λ is. absurd (cc))) (counts_device stop settles.device);
        damaged = λ damage e ready. settles.damaged damage (ap Err (names_damage stop damage (cc))) (turns.sound old.tables.shape (record { ready = ready; is_shape = refl })).ready.ready;
        beside = settles.beside ∙ turns.beside;
        is_told = settles.is_told ∙ turns.is_told;
        tells = tells_more_then _ _ _ turns.tells (same-tells_more _ _ settles.told);
        log = fetches_more_then turns.log (fetches_same settles.fetched);
        reopens = reopens;
        at_rest = λ law rest. settles.at_rest law turns.may.going (turns.at_rest law rest);
        shape = settles.shape ∙ turns.shape;
        later = reopens.later;
      }
