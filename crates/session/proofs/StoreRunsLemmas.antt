-- Runs on a store: of a session that was served, and of an engine that stopped as it was opened.
use Rattle.std.proofs.Common.{◌≡◌, ℕ, List, [], Option, IfSome, Result, Ok, Err, IsErrOf, false, refl, sym, ◌∙◌, subst}
use Rattle.mdc_words.specs.Time.{OverTime}
use Rattle.mdc_words.proofs.TimeLemmas.{over_time_then, over_time_wider}
use Rattle.statement_meaning.specs.Session.{first_settings}
use Rattle.statement_meaning.specs.declared.pass.Pass.TheVariants.{Idle}
use Rattle.mdc_outside.specs.Outside.{Takes}
use Rattle.store_api.specs.Fetching.{BringsOnly}
use Rattle.store_api.specs.declared.fault.Damage.{Damage}
use Rattle.store_api.specs.declared.pages.Pages as pages
use Rattle.store_api.specs.declared.shape.Shape.{Shape}
use Rattle.table_trees.specs.ToldPages.{PageList}
use Rattle.mdc_sound.specs.SoundDatabase.{KeepAllRules}
use Rattle.stored_catalog.specs.StoredDefinitions.{AreStored, IsAnyTablePage}
use Rattle.script_engine.specs.Held.{HeldPages}
use Rattle.script_engine.specs.Opening.{IsSoundStore, KeepsPages}
use Rattle.script_engine.specs.Serving.{IsReadyEngine, held_by}
use Rattle.script_engine.specs.declared.engine.Engine.{Engine}
use Rattle.store_api.specs.declared.fault.StoreFault.{StoreFault}
use Rattle.store_api.specs.declared.fault.StoreFault.TheVariants as fault
use Rattle.session.proofs.FetchedRunsLemmas.{fetches_none}
use Rattle.session.proofs.ToldLemmas.{takes_nothing}
use Rattle.session.specs.script.Fetching.{BringsForItem, FetchesByItems}
use Rattle.session.specs.script.Going.{Goes}
use Rattle.session.specs.script.Leaving.{AreServedPages, ReopensAlways}
use Rattle.session.specs.script.Serving.{RunsScript, TakesScript}
use Rattle.session.specs.Stops.{stop_of_fault}
use Rattle.session.specs.declared.script.served.Served.{Served}
use Rattle.session.specs.declared.stop.Stop.{Stop}
use Rattle.session.specs.declared.stop.Stop.TheVariants as why
use Rattle.session.specs.file.Running.{RunsOnStore}
use Rattle.session.proofs.FirstEndsLemmas.{ends_first, takes_first}
use Rattle.session.proofs.FirstLeftLemmas.{left_only_base}

-- a run that ends by an error ends by this one
pub ends_by : {T E : Type 0} (result : Result T E) (stop : E) → IsErrOf result stop → result ≡ Err stop
ends_by (Ok done) stop is = absurd (cc)
ends_by (Err other) stop is = cc

-- a fault of the store isn't a stop of a reader
pub unread : (stop : StoreFault) → stop_of_fault stop ≡ why.Unread → ⊥
unread fault.Device is = cc
unread (fault.Damaged damage) is = cc
unread fault.Memory is = cc

pub not_long : (stop : StoreFault) → stop_of_fault stop ≡ why.TooLong → ⊥
not_long fault.Device is = cc
not_long (fault.Damaged damage) is = cc
not_long fault.Memory is = cc

-- where an engine named no damage, its session names none
not_damaged : (stop : StoreFault) → ((damage : Damage) → stop ≡ fault.Damaged damage → ⊥) → (damage : Damage) (result : Result Served Stop)
    → result ≡ Err (stop_of_fault stop) → result ≡ Err (why.Damaged damage) → ⊥
not_damaged fault.Device undamaged damage result was is = cc
not_damaged (fault.Damaged found) undamaged damage result was is = undamaged found refl
not_damaged fault.Memory undamaged damage result was is = cc

-- a session whose engine wasn't opened took nothing
pub takes_stopped : (script : Option (List ℕ)) (stop : StoreFault) (end_ : Stop) → end_ ≡ stop_of_fault stop → IfSome script (λ bytes. TakesScript bytes script (Err end_))
takes_stopped script stop end_ is = takes_first script end_ (λ long. not_long stop (sym is ∙ long))

module _ {S : Type 0} (g : pages.Ghosts S) where
  -- pages that an engine is ready on may be served
  served_ready : (engine : Engine S) (base : PageList) → (g.state engine.store).base ≡ base → IsReadyEngine g engine → AreServedPages engine.tables.shape base
  served_ready engine base same ready = record {
    sound = (ready.base_view, subst (λ (pages : PageList). KeepAllRules engine.tables.shape pages ready.base_view) same ready.base_sound);
    defs = ready.base_defs;
    stored = subst (λ (pages : PageList). AreStored pages ready.base_defs) same ready.base_stored;
    valid = ready.base_valid;
  }

  -- so may those of a sound store
  served_sound : (shape : Shape) (s : S) → IsSoundStore g shape s → AreServedPages shape (g.state s).base
  served_sound shape s sound = record {
    sound = (sound.sound.0, subst (λ (pages : PageList). KeepAllRules shape pages sound.sound.0) (sym sound.committed) sound.sound.1);
    defs = sound.defs;
    stored = subst (λ (pages : PageList). AreStored pages sound.defs) (sym sound.committed) sound.stored;
    valid = sound.valid;
  }

  -- a store is sound in a shape that is the same
  pub sound_along : (own shape : Shape) (s : S) → own ≡ shape → IsSoundStore g own s → IsSoundStore g shape s
  sound_along own shape s same sound = subst (λ (at : Shape). IsSoundStore g at s) same sound

  -- a session that was served on an engine that was opened
  pub served_on_store : (script left : Option (List ℕ)) (result : Result Served Stop) (shape : Shape) (old : S) (opened new : Engine S) → IsSoundStore g shape old → IsReadyEngine g opened
      → KeepsPages g old opened.store → BringsOnly g IsAnyTablePage old opened.store → opened.is_open ≡ false → opened.tables.settings ≡ first_settings → opened.pass ≡ Idle → opened.tables.shape ≡ shape → RunsScript g script left opened new result
      → ((damage : Damage) → result ≡ Err (why.Damaged damage) → ⊥) → RunsOnStore g shape script left old new.store result
  served_on_store script left result shape old opened new sound ready keeps brings closed settings pass same_shape runs undamaged =
      let work : (g.state opened.store).work ≡ (g.state old).base = keeps.work ∙ sym sound.committed in
      let served = served_ready opened (g.state old).base keeps.base ready in
      let on_store : RunsOnStore g opened.tables.shape script left old new.store result = record {
        served = served;
        held = held_by g opened;
        opened = record { base = keeps.base; work = work; defs = subst (λ (pages : PageList). AreStored pages opened.tables.catalog) work ready.work.stored; closed = closed; settings = settings; pass = pass };
        items = runs.items;
        outcomes = runs.outcomes;
        stages = runs.stages;
        in_hand = runs.in_hand;
        goes = runs.goes;
        fetches = record {
          read = brings.pages;
          table_pages = brings.kind;
          by_items = subst (λ (log : Option (List ℕ)). FetchesByItems (BringsForItem opened.tables.shape) (held_by g opened) runs.items runs.in_hand runs.stages log (g.state new.store).fetched) brings.brought.log runs.fetches;
        };
        said = runs.said;
        told = subst (λ (o : Option (List ℕ)). Takes o runs.said (g.state new.store).told) keeps.told runs.told;
        undamaged = undamaged;
        ends = runs.ends;
        time = λ before is. over_time_then
            (over_time_wider keeps.time (λ left heard only. left_only_base (held_by g opened) runs.stages runs.outcomes runs.in_hand before (g.state old) left heard served keeps.base is only))
            (runs.time before (keeps.told ∙ is));
      } in
      subst (λ (s : Shape). RunsOnStore g s script left old new.store result) same_shape on_store

  -- an engine that stopped as it was opened
  pub stopped_on_store : (script : Option (List ℕ)) (stop : StoreFault) (shape : Shape) (old new : S) → IsSoundStore g shape old → KeepsPages g old new → BringsOnly g IsAnyTablePage old new
      → ((damage : Damage) → stop ≡ fault.Damaged damage → ⊥) → RunsOnStore g shape script script old new (Err (stop_of_fault stop))
  stopped_on_store script stop shape old new sound keeps brings undamaged =
      let served = served_sound shape old sound in
      let held : HeldPages = record { base = (g.state old).base; work = (g.state old).base; defs = served.defs; open_ = false; settings = first_settings; pass = Idle } in
      record {
        served = served;
        held = held;
        opened = record { base = refl; work = refl; defs = served.stored; closed = refl; settings = refl; pass = refl };
        items = [];
        outcomes = [];
        stages = [];
        in_hand = [];
        goes = Goes.nothing;
        fetches = record {
          read = brings.pages;
          table_pages = brings.kind;
          by_items = subst (λ (now : Option (List ℕ)). FetchesByItems (BringsForItem shape) held [] [] [] now (g.state new).fetched) brings.brought.log (fetches_none held (g.state new).fetched);
        };
        said = [];
        told = subst (λ (tape : Option (List ℕ)). Takes (g.state old).told [] tape) (sym keeps.told) (takes_nothing (g.state old).told);
        undamaged = λ damage is. not_damaged stop undamaged damage (Err (stop_of_fault stop)) refl is;
        ends = ends_first script (stop_of_fault stop) (unread stop) (not_long stop);
        time = λ before is. over_time_wider keeps.time (λ left heard only. left_only_base held [] [] [] before (g.state old) left heard served refl is only);
      }

-- ---- whatever the pages are

module _ {S : Type 0} (g : pages.Ghosts S) where
  -- a crash while an engine is opened leaves a file that reopens
  pub reopens_opening : (old new : S) → KeepsPages g old new → OverTime g.clock g.left ReopensAlways old new
  reopens_opening old new keeps = over_time_wider keeps.time (λ left told only. ((g.state old).base, only.0))

  -- and so does one while a session is served on it
  pub reopens_served : (old mid new : S) → KeepsPages g old mid → OverTime g.clock g.left ReopensAlways mid new → OverTime g.clock g.left ReopensAlways old new
  reopens_served old mid new keeps serves = over_time_then (reopens_opening old mid keeps) serves

-- ---- a shape that is the same

-- a run in a shape is one in another that is the same
pub runs_along : {S : Type 0} (g : pages.Ghosts S) (own shape : Shape) (script left : Option (List ℕ)) (old last : S) (end_ : Result Served Stop) → own ≡ shape
    → RunsOnStore g own script left old last end_ → RunsOnStore g shape script left old last end_
runs_along g own shape script left old last end_ same runs = subst (λ (at : Shape). RunsOnStore g at script left old last end_) same runs
