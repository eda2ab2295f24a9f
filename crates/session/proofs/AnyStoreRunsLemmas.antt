-- Runs on a store whatever its pages are: of a session on an engine that was opened, and where none was.
use Rattle.std.proofs.Common.{◌≡◌, ℕ, Bool, List, [], Option, Result, Ok, Err, IfErr, OnOk, false, refl, sym, ◌∙◌, ap, subst, inl, inr}
use Rattle.std.specs.Prelude.{IsTrue}
use Rattle.mdc_words.proofs.TimeLemmas.{over_time_then, over_time_wider}
use Rattle.mdc_ast.specs.Definitions.{no_tables}
use Rattle.mdc_ast.specs.Reading.{Item}
use Rattle.statement_meaning.specs.Session.{first_settings}
use Rattle.statement_meaning.specs.declared.pass.Pass.TheVariants.{Idle}
use Rattle.mdc_outside.specs.Outside.{Takes}
use Rattle.mdc_sound.specs.Breaks.{IsFirstBreak}
use Rattle.store_api.specs.declared.fault.Damage.{Damage}
use Rattle.store_api.specs.declared.pages.Pages as pages
use Rattle.store_api.specs.declared.shape.Shape.{Shape}
use Rattle.table_trees.specs.ToldPages.{PageList}
use Rattle.stored_catalog.specs.StoredDefinitions.{AreStored}
use Rattle.script_engine.specs.Held.{HeldPages}
use Rattle.script_engine.specs.Opening.{KeepsPages}
use Rattle.script_engine.specs.Serving.{held_by}
use Rattle.script_engine.specs.declared.engine.Engine.{Engine}
use Rattle.store_api.specs.declared.fault.StoreFault.{StoreFault}
use Rattle.store_api.specs.declared.fault.StoreFault.TheVariants as fault
use Rattle.session.proofs.StopsLemmas.{names_damage}
use Rattle.session.proofs.ToldLemmas.{takes_nothing}
use Rattle.session.specs.script.AnyGoing.{GoesOnAny}
use Rattle.session.specs.script.AnyStops.{AreJudged, FindsBuilt, IsHeldDamage, StopsOnAny}
use Rattle.session.specs.script.Engines.{IsAnyEngine}
use Rattle.session.specs.script.Going.{Goes, Stage, held_last}
use Rattle.session.specs.script.Serving.{RunsOnAny}
use Rattle.session.specs.Stops.{stop_of_fault}
use Rattle.session.specs.declared.script.served.Served.{Served}
use Rattle.session.specs.declared.stop.Stop.{Stop}
use Rattle.session.specs.declared.stop.Stop.TheVariants.{Damaged, Device}
use Rattle.session.specs.file.Running.{RunsAnyOnStore}
use Rattle.session.proofs.FirstEndsLemmas.{ends_first}
use Rattle.session.proofs.FirstLeftLemmas.{left_only_base}
use Rattle.session.proofs.StoreRunsLemmas.{not_long, unread}

-- ---- what a stop says

module _ (told : Bool) (shape : Shape) (held : HeldPages) (stages : List Stage) (in_hand : List Item) (base : PageList) where
  -- what a session says of its end, where it stopped
  abbrev AtStop : Result Served Stop → Type 0
  AtStop result = IfErr result (λ stop. StopsOnAny told shape held stages in_hand stop base)

  built_at : (result : Result Served Stop) → AtStop result → IfErr result (λ stop. FindsBuilt held stages in_hand)
  built_at (Ok served) stops = tt
  built_at (Err stop) stops = stops.built

  damage_at : (result : Result Served Stop) (damage : Damage) → AtStop result → result ≡ Err (Damaged damage) → IsTrue told → IsHeldDamage shape held stages in_hand damage
  damage_at (Ok served) damage stops is tells = absurd (cc)
  damage_at (Err stop) damage stops is tells = stops.damage damage (cc) tells

  kept_at : (Ready : Type 0) (result : Result Served Stop) (now : HeldPages) → now.base ≡ base → AtStop result → OnOk result ((now ≡ held_last held stages) × Ready) → (result ≡ Err Device → ⊥)
      → base ≡ (held_last held stages).base
  kept_at Ready (Ok served) now same stops last other = sym same ∙ ap (λ (h : HeldPages). h.base) last.0
  kept_at Ready (Err stop) now same stops last other = stops.kept (λ is. other (ap Err is))

module _ {S : Type 0} (g : pages.Ghosts S) where
  -- a session that was served on an engine that was opened
  pub any_served : (script left : Option (List ℕ)) (result : Result Served Stop) (shape : Shape) (old : S) (opened new : Engine S) → (g.state old).base ≡ (g.state old).work
      → KeepsPages g old opened.store → opened.is_open ≡ false → opened.tables.settings ≡ first_settings → opened.pass ≡ Idle → opened.tables.shape ≡ shape
      → (IsTrue (g.state old).is_told → AreStored (g.state old).work opened.tables.catalog) → RunsOnAny g script left opened new result → RunsAnyOnStore g shape script left old new.store result
  any_served script left result shape old opened new committed keeps closed settings pass same_shape stored runs =
      let held = held_by g opened in
      let told = (g.state opened.store).is_told in
      let own = opened.tables.shape in
      let base = (g.state new.store).base in
      record {
        held = held;
        first = record { base = keeps.base; work = keeps.work ∙ sym committed; closed = closed; settings = settings; pass = pass };
        items = runs.items;
        outcomes = runs.outcomes;
        stages = runs.stages;
        in_hand = runs.in_hand;
        goes = subst (λ (is : Bool). GoesOnAny is held runs.items runs.outcomes runs.stages) keeps.is_told runs.goes;
        said = runs.said;
        read = inl (λ tells. subst (λ (pages : PageList). AreStored pages opened.tables.catalog) (sym committed) (stored tells));
        told = subst (λ (tape : Option (List ℕ)). Takes tape runs.said (g.state new.store).told) keeps.told runs.told;
        ends = runs.ends;
        built = built_at told own held runs.stages runs.in_hand base result runs.stops;
        damage = λ damage is tells.
            subst (λ (s : Shape). IsHeldDamage s held runs.stages runs.in_hand damage) same_shape
            (damage_at told own held runs.stages runs.in_hand base result damage runs.stops is (subst IsTrue (sym keeps.is_told) tells));
        kept = kept_at told own held runs.stages runs.in_hand base (IsAnyEngine g told own new) result (held_by g new) refl runs.stops runs.last;
        time = λ before is. over_time_then
            (over_time_wider keeps.time (λ left heard only. left_only_base held runs.stages runs.outcomes runs.in_hand before (g.state old) left heard tt keeps.base is only))
            (runs.time before (keeps.told ∙ is));
      }

  -- an engine that stopped as it was opened
  pub any_stopped : (script : Option (List ℕ)) (stop : StoreFault) (shape : Shape) (old new : S) → (g.state old).base ≡ (g.state old).work → KeepsPages g old new
      → ((damage : Damage) → stop ≡ fault.Damaged damage → IsTrue (g.state old).is_told → IsFirstBreak shape (g.state old).work damage.rule damage.page)
      → RunsAnyOnStore g shape script script old new (Err (stop_of_fault stop))
  any_stopped script stop shape old new committed keeps exact =
      let base = (g.state old).base in
      let held : HeldPages = record { base = base; work = base; defs = no_tables; open_ = false; settings = first_settings; pass = Idle } in
      record {
        held = held;
        first = record { base = refl; work = refl; closed = refl; settings = refl; pass = refl };
        items = [];
        outcomes = [];
        stages = [];
        in_hand = [];
        goes = Goes.nothing;
        said = [];
        read = inr (record { unmet = refl; none_in_hand = refl; unsaid = refl; untaken = refl });
        told = subst (λ (tape : Option (List ℕ)). Takes (g.state old).told [] tape) (sym keeps.told) (takes_nothing (g.state old).told);
        ends = ends_first script (stop_of_fault stop) (unread stop) (not_long stop);
        built = λ stmt hand other. absurd (cc);
        damage = λ damage is tells. record {
          pages = base;
          judged = AreJudged.behind refl held refl refl;
          first = subst (λ (pages : PageList). IsFirstBreak shape pages damage.rule damage.page) (sym committed) (exact damage (names_damage stop damage (cc)) tells);
        };
        kept = λ other. keeps.base;
        time = λ before is. over_time_wider keeps.time (λ left heard only. left_only_base held [] [] [] before (g.state old) left heard tt refl is only);
      }

-- a run in a shape is one in another that is the same
pub any_along : {S : Type 0} (g : pages.Ghosts S) (own shape : Shape) (script left : Option (List ℕ)) (old last : S) (end_ : Result Served Stop) → own ≡ shape
    → RunsAnyOnStore g own script left old last end_ → RunsAnyOnStore g shape script left old last end_
any_along g own shape script left old last end_ same runs = subst (λ (at : Shape). RunsAnyOnStore g at script left old last end_) same runs
