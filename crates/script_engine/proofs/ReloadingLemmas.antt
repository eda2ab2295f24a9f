-- Going back to the pages of the last commit, and the catalog that is read there.
use Rattle.std.proofs.Common.{◌≡◌, Bool, List, Result, Ok, Err, IsErrAnd, sym, ap, subst, ◌∙◌}
use Rattle.std.specs.Prelude.{IsTrue}
use Rattle.mdc_words.specs.Time.{OverTime}
use Rattle.mdc_words.proofs.FaultsLemmas.{counts_fault_as, counts_fault_then}
use Rattle.store_api.specs.Calls.{RollsBack}
use Rattle.store_api.specs.Moments.{OnlyBase}
use Rattle.store_api.specs.Works.{Steady}
use Rattle.store_api.specs.declared.fault.Damage.{Damage}
use Rattle.store_api.specs.declared.fault.StoreFault.{StoreFault}
use Rattle.store_api.specs.declared.fault.StoreFault.TheVariants.{Damaged}
use Rattle.store_api.specs.declared.pages.Pages.{Ghosts}
use Rattle.store_api.proofs.FetchingLemmas.{only_same, only_then}
use Rattle.store_api.proofs.WorksLemmas.{steady_rollback, steady_then}
use Rattle.extent_map.specs.Owners.{AreRightNotes}
use Rattle.store_api.specs.declared.shape.Shape.{Shape}
use Rattle.extent_map.specs.declared.kind.Kind.{Kind}
use Rattle.table_trees.specs.ToldPages.{PageList}
use Rattle.mdc_sound.specs.SoundDatabase.{IsSoundDatabase}
use Rattle.mdc_sound.specs.StandingTable.{pages_of}
use Rattle.stored_catalog.specs.StoredDefinitions.{AreStored, BreaksTablePages}
use Rattle.script_engine.specs.Breaking.{LoadsExactly}
use Rattle.script_engine.specs.NotedRooms.{AreForgotten}
use Rattle.statement_meaning.specs.Built.{are_built}
use Rattle.script_engine.specs.Reloading.{Reloads}
use Rattle.script_engine.specs.declared.tables.Tables.{Tables}
use Rattle.script_engine.proofs.CatalogLemmas.{no_broken_pages}

module _ {S : Type 0} (g : Ghosts S) where
  -- pages of a sound database name no damage
  pub no_damage : (s : S) (shape : Shape) (damage : Damage) → IsTrue (g.state s).is_told → IsSoundDatabase shape (pages_of g s) → BreaksTablePages g s damage → ⊥
  no_damage s shape damage told sound broken = no_broken_pages g s shape sound.0 told sound.1 damage broken

  module _ (old back new : S) (before now : Tables) (rolls : RollsBack (g.state old) (g.state back)) (count : g.disk_faults back ≡ g.disk_faults old) (say : g.say_faults back ≡ g.say_faults old)
      (time : OverTime g.clock g.left (OnlyBase (g.state old)) old back) (same_shape : now.shape ≡ before.shape) (same_settings : now.settings ≡ before.settings) (notes : (owners : List Kind) → AreRightNotes now.shape now.notes owners) (rooms : AreForgotten now.rooms) where
    went_back : Steady g old back
    went_back = steady_rollback rolls count say time

    base_again : (g.state back).work ≡ (g.state old).base
    base_again = ap (λ s. s.work) rolls

    -- sound pages name no damage
    pub reload_unbroken : {X : Type 0} (shape : Shape) (result : Result X StoreFault) (stop : StoreFault) → IsErrAnd result (λ e. e ≡ stop) → LoadsExactly g shape (Err stop) back new
        → (damage : Damage) → result ≡ Err (Damaged damage) → IsTrue (g.state old).is_told → IsSoundDatabase before.shape (g.state old).base → ⊥
    reload_unbroken shape (Ok x) stop is loads damage r told sound = absurd is
    reload_unbroken shape (Err e) stop is loads damage r told sound =
        loads.damaged damage (cc) (subst IsTrue (sym went_back.is_told) told) before.shape (subst (λ (pages : PageList). IsSoundDatabase before.shape pages) (sym base_again) sound)

    -- the catalog couldn't be read
    pub reload_stops : (shape : Shape) (result : Result Bool StoreFault) (stop : StoreFault) → IsErrAnd result (λ e. e ≡ stop) → LoadsExactly g shape (Err stop) back new → Reloads g result old new before now
    reload_stops shape (Ok served) stop is loads = absurd is
    reload_stops shape (Err e) stop is loads = subst (λ (x : StoreFault). Reloads g (Err x) old new before now) (sym is) (record {
      steady = steady_then went_back loads.reads.steady;
      work = loads.reads.work ∙ base_again;
      unmarked = loads.reads.marked ∙ ap (λ s. s.marked) rolls;
      shape = same_shape;
      settings = same_settings;
      brings = only_then (only_same (ap (λ s. s.fetched) rolls)) loads.reads.brings;
      notes = notes;
      rooms = rooms;
      stored = tt;
      limits = tt;
      names = tt;
      built = tt;
      device = counts_fault_as (λ r. cc) (λ r. cc) (counts_fault_then count loads.device);
    })

    -- it was read
    pub reload_done : (shape : Shape) (served : Bool) → LoadsExactly g shape (Ok now.catalog) back new → served ≡ are_built now.catalog → Reloads g (Ok served) old new before now
    reload_done shape served loads built = record {
      steady = steady_then went_back loads.reads.steady;
      work = loads.reads.work ∙ base_again;
      unmarked = loads.reads.marked ∙ ap (λ s. s.marked) rolls;
      shape = same_shape;
      settings = same_settings;
      brings = only_then (only_same (ap (λ s. s.fetched) rolls)) loads.reads.brings;
      notes = notes;
      rooms = rooms;
      stored = λ told. subst (λ (pages : PageList). AreStored pages now.catalog) base_again (loads.stored (subst IsTrue (sym went_back.is_told) told));
      limits = loads.limits;
      names = loads.names;
      built = built;
      device = counts_fault_as (λ r. absurd (cc)) (λ r. absurd (cc)) (counts_fault_then count loads.device);
    }
