-- An engine that was just opened.
use Rattle.std.proofs.Common.{◌≡◌, ℕ, true, false, List, Some, None, Result, Err, sym, ap, subst, ◌∙◌}
use Rattle.std.specs.Prelude.{IsTrue}
use Rattle.mdc_words.specs.Time.{ReachesBack}
use Rattle.mdc_ast.specs.Definitions.{Definitions}
use Rattle.store_api.specs.Fetching.{BringsOnly}
use Rattle.store_api.specs.Frame.{NoPage}
use Rattle.store_api.specs.RunsOverPages.{RunsOverPages}
use Rattle.store_api.specs.Works.{Rests}
use Rattle.store_api.specs.declared.fault.Damage.{Damage}
use Rattle.store_api.specs.declared.fault.StoreFault.{StoreFault}
use Rattle.store_api.specs.declared.fault.StoreFault.TheVariants.{Damaged}
use Rattle.store_api.specs.declared.pages.Pages.{Ghosts}
use Rattle.store_api.specs.declared.shape.Shape.{Shape}
use Rattle.store_api.proofs.WorksLemmas.{rests_steady}
use Rattle.extent_map.specs.Owners.{AreRightNotes}
use Rattle.extent_map.specs.declared.kind.Kind.{Kind}
use Rattle.table_trees.specs.ToldPages.{PageList}
use Rattle.mdc_sound.specs.Breaks.{IsFirstBreak}
use Rattle.mdc_sound.specs.SoundDatabase.{IsSoundDatabase, KeepAllRules}
use Rattle.stored_catalog.specs.StoredDefinitions.{AreStored, AreWithinLimits, BreaksTablePages, IsAnyTablePage}
use Rattle.script_engine.specs.Breaking.{NamesExactly, OnlyReads}
use Rattle.script_engine.specs.NotedRooms.{AreForgotten}
use Rattle.script_engine.specs.OnAnyPages.{IsGoingEngine}
use Rattle.script_engine.specs.Opening.{IsSoundStore, KeepsPages}
use Rattle.statement_meaning.specs.Built.{are_built}
use Rattle.statement_meaning.specs.declared.pass.Pass.TheVariants.{Idle}
use Rattle.script_engine.specs.Serving.{IsReadyEngine, MayCall}
use Rattle.script_engine.specs.Ready.{DoNamesDiffer}
use Rattle.script_engine.specs.declared.engine.Engine.{Engine}
use Rattle.script_engine.proofs.CatalogLemmas.{one_catalog, served_of}
use Rattle.script_engine.proofs.ReadyTablesLemmas.{ready_of_sound}
use Rattle.script_engine.proofs.ReloadingLemmas.{no_damage}

module _ {S : Type 0} (g : Ghosts S) where
  -- a run that only reads
  pub keeps_read : (old new : S) → OnlyReads g old new → KeepsPages g old new
  keeps_read old new reads = record {
    is_told = reads.steady.is_told;
    base = reads.steady.base;
    work = reads.work;
    told = reads.steady.told;
    beside = reads.steady.beside;
    say_faults = reads.steady.say_faults;
    time = reads.steady.time;
  }

  -- exact damage of pages that were only read
  pub exact_read : {X : Type 0} (shape : Shape) (result : Result X StoreFault) (old new : S) → OnlyReads g old new → NamesExactly g shape result new
      → (damage : Damage) → result ≡ Err (Damaged damage) → IsTrue (g.state old).is_told → IsFirstBreak shape (g.state old).work damage.rule damage.page
  exact_read shape result old new reads exact damage is told =
      subst (λ (pages : PageList). IsFirstBreak shape pages damage.rule damage.page) reads.work (exact damage is (subst IsTrue (sym reads.steady.is_told) told))

  -- the catalog was read into an engine
  module _ (shape : Shape) (old read : S) (engine : Engine S) (catalog : Definitions) (reads : OnlyReads g old read)
      (is : engine ≡ record { store = read; tables = engine.tables; served = are_built catalog; is_open = false; pass = Idle }) (has : engine.tables.catalog ≡ catalog) (limits : AreWithinLimits catalog) (differ : DoNamesDiffer catalog) where
    store_is : engine.store ≡ read
    store_is = ap (λ (e : Engine S). e.store) is

    opened_pages : KeepsPages g old engine.store
    opened_pages = subst (λ (s : S). KeepsPages g old s) (sym store_is) (keeps_read old read reads)

    pub opened_brings : {Kind : ℕ → Type 0} → BringsOnly g Kind old read → BringsOnly g Kind old engine.store
    opened_brings {Kind} brings = subst (λ (s : S). BringsOnly g Kind old s) (sym store_is) brings

    pub opened_rests : ReachesBack g.clock g.left read → (g.state old).ended ≡ false → Rests g old → Rests g engine.store
    opened_rests back going was = subst (λ (s : S). Rests g s) (sym store_is) (rests_steady back going reads.steady was)

    pub opened_may : (g.state old).ended ≡ false → (g.state old).marked ≡ None → MayCall g engine
    opened_may going unmarked = record {
      going = ap (λ (s : S). (g.state s).ended) store_is ∙ (reads.steady.ended ∙ going);
      unmarked = ap (λ (s : S). (g.state s).marked) store_is ∙ (reads.marked ∙ unmarked);
      served = λ served.
          served_of engine.tables.catalog (subst AreWithinLimits (sym has) limits) (subst DoNamesDiffer (sym has) differ)
          (ap are_built has ∙ (sym (ap (λ (e : Engine S). e.served) is) ∙ served));
    }

    pub opened_going : (g.state old).ended ≡ false → (g.state old).marked ≡ None → (g.state old).base ≡ (g.state old).work → IsGoingEngine g engine
    opened_going going unmarked committed = record {
      may = opened_may going unmarked;
      by_forms = ap (λ (e : Engine S). e.served) is ∙ sym (ap are_built has);
      committed = λ shut. opened_pages.base ∙ (committed ∙ sym opened_pages.work);
    }

    pub opened_ready : (IsTrue (g.state old).is_told → AreStored (g.state old).work catalog) → engine.tables.shape ≡ shape → ((owners : List Kind) → AreRightNotes engine.tables.shape engine.tables.notes owners)
        → AreForgotten engine.tables.rooms → IsSoundStore g shape old → IsReadyEngine g engine
    opened_ready loads same notes rooms sound =
        let kept = opened_pages in
        let stored = loads sound.told in
        let defs_are : catalog ≡ sound.defs = one_catalog (g.state old).work catalog sound.defs stored sound.stored in
        let built : are_built catalog ≡ true = ap are_built defs_are ∙ sound.valid.built in
        let along = subst (λ (of : Shape). KeepAllRules of (g.state old).work sound.sound.0) (sym same) sound.sound.1 in
        let base_now : (g.state engine.store).base ≡ (g.state old).work = kept.base ∙ sound.committed in
        let stored_now : AreStored (g.state old).work engine.tables.catalog = subst (λ (defs : Definitions). AreStored (g.state old).work defs) (sym has) stored in
        record {
          served = ap (λ (e : Engine S). e.served) is ∙ built;
          work = ready_of_sound g engine.store engine.tables sound.sound.0
              (served_of engine.tables.catalog (subst AreWithinLimits (sym has) limits) (subst DoNamesDiffer (sym has) differ) (ap are_built has ∙ built)) (subst IsTrue (sym kept.is_told) sound.told)
              (subst (λ (pages : PageList). KeepAllRules engine.tables.shape pages sound.sound.0) (sym kept.work) along)
              (subst (λ (pages : PageList). AreStored pages engine.tables.catalog) (sym kept.work) stored_now) (notes sound.sound.0.owners) rooms;
          base_view = sound.sound.0;
          base_sound = subst (λ (pages : PageList). KeepAllRules engine.tables.shape pages sound.sound.0) (sym base_now) along;
          base_defs = sound.defs;
          base_stored = subst (λ (pages : PageList). AreStored pages sound.defs) (sym base_now) sound.stored;
          base_valid = sound.valid;
          closed = λ shut. base_now ∙ sym kept.work;
        }

  -- the catalog couldn't be read: what is named as damage is what the reading names
  pub unopened_breaks : (fault stop : StoreFault) (old new : S) → stop ≡ fault → RunsOverPages g NoPage IsAnyTablePage (BreaksTablePages g old) old new (Some fault)
      → (damage : Damage) → stop ≡ Damaged damage → BreaksTablePages g old damage
  unopened_breaks fault stop old new is runs damage r = runs.cause.damaged damage (ap Some (sym is ∙ r))

  -- which sound pages don't have
  pub unopened_names : (shape : Shape) (fault stop : StoreFault) (old new : S) → stop ≡ fault → RunsOverPages g NoPage IsAnyTablePage (BreaksTablePages g old) old new (Some fault)
      → (damage : Damage) → stop ≡ Damaged damage → IsTrue (g.state old).is_told → IsSoundDatabase shape (g.state old).work → ⊥
  unopened_names shape fault stop old new is runs damage r told sound = no_damage g old shape damage told sound (unopened_breaks fault stop old new is runs damage r)
