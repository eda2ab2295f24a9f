-- Damage that is exact, of calls one after the other.
use Rattle.std.proofs.Common.{◌≡◌, ℕ, Some, Result, Ok, Err, IsErrAnd, ap, subst, ◌∙◌}
use Rattle.std.specs.Prelude.{IsTrue}
use Rattle.mdc_words.proofs.FaultsLemmas.{counts_fault_as, counts_fault_then}
use Rattle.store_api.specs.Fetching.{BringsOnly}
use Rattle.store_api.specs.Frame.{NoPage}
use Rattle.store_api.specs.RunsOverPages.{RunsOverPages}
use Rattle.store_api.specs.declared.fault.Damage.{Damage}
use Rattle.store_api.specs.declared.fault.StoreFault.{StoreFault}
use Rattle.store_api.specs.declared.fault.StoreFault.TheVariants as store
use Rattle.store_api.specs.declared.pages.Pages.{Ghosts}
use Rattle.store_api.specs.declared.shape.Shape.{Shape}
use Rattle.store_api.proofs.FetchingLemmas.{only_then, only_wider}
use Rattle.store_api.proofs.WorksLemmas.{steady_then}
use Rattle.table_trees.specs.ToldPages.{PageList}
use Rattle.mdc_sound.specs.SoundDatabase.{IsSoundDatabase}
use Rattle.statement_rows.specs.RowsOfStatement.{AnyPage}
use Rattle.stored_catalog.specs.StoredDefinitions.{BreaksTablePages, IsAnyTablePage}
use Rattle.script_engine.specs.Breaking.{JudgesDamage, LoadsExactly, NamesExactly, OnlyReads}
use Rattle.script_engine.proofs.ReloadingLemmas.{no_damage}

-- pages of whatever kind came to hand
pub brings_any : {S : Type 0} (g : Ghosts S) (Kind : ℕ → Type 0) (old new : S) → BringsOnly g Kind old new → BringsOnly g AnyPage old new
brings_any g Kind old new brings = only_wider brings (λ p page. tt)

module _ {S : Type 0} (g : Ghosts S) where
  -- a stop that is passed on
  pub exact_passed : {X Y : Type 0} (shape : Shape) (result : Result X StoreFault) (stop : StoreFault) (s : S) → IsErrAnd result (λ e. e ≡ stop) → NamesExactly {X = Y} g shape (Err stop) s → NamesExactly g shape result s
  exact_passed shape (Ok x) stop s is exact damage r = absurd is
  exact_passed shape (Err e) stop s is exact damage r = exact damage (cc)

  -- one run that only reads behind another
  pub reads_then : {old mid new : S} → OnlyReads g old mid → OnlyReads g mid new → OnlyReads g old new
  reads_then first second = record {
    steady = steady_then first.steady second.steady;
    work = second.work ∙ first.work;
    marked = second.marked ∙ first.marked;
    brings = only_then first.brings second.brings;
  }

  -- the catalog wasn't read, and the pages were judged
  pub load_judged : (shape : Shape) (old mid new : S) (met : Damage) (fault : StoreFault) (stop : StoreFault) → fault ≡ store.Damaged met → RunsOverPages g NoPage IsAnyTablePage (BreaksTablePages g old) old mid (Some fault)
      → (g.state mid).work ≡ (g.state old).work → JudgesDamage g shape stop mid new → LoadsExactly g shape (Err stop) old new
  load_judged shape old mid new met fault stop is_met runs same judges =
      let reads : OnlyReads g old mid = record { steady = runs.works.steady; work = same; marked = runs.works.marked; brings = brings_any g IsAnyTablePage old mid runs.brings } in
      let all = reads_then reads judges.reads in
      let unsound : IsTrue (g.state old).is_told → (shape : Shape) → IsSoundDatabase shape (g.state old).work → ⊥ = λ told shape sound. no_damage g old shape met told sound (runs.cause.damaged met (ap Some is_met)) in
      let still : g.disk_faults mid ≡ g.disk_faults old = runs.cause.device.still (λ is. absurd (cc)) in
      record {
        reads = all;
        stored = tt;
        limits = tt;
        names = tt;
        device = counts_fault_as (λ is. cc) (λ is. ap Err is) (counts_fault_then still judges.device);
        damaged = λ damage is. unsound;
        exact = λ damage is. judges.exact damage (cc) (λ told sound.
            unsound (subst IsTrue all.steady.is_told told) shape (subst (λ (pages : PageList). IsSoundDatabase shape pages) all.work sound));
      }
