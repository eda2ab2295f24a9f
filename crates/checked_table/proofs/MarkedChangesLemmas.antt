-- A change between a mark and its end: how it begins, and what it is of the state that was marked, once it is kept.
use Rattle.std.proofs.Common.{◌≡◌, ◌∙◌, ℕ, None, Ok, Some, ap}
use Rattle.extent_map.specs.declared.space_notes.SpaceNotes.{SpaceNotes}
use Rattle.mdc_words.specs.Faults.{CountsFault}
use Rattle.mdc_words.specs.Time.{OverTime}
use Rattle.mdc_words.proofs.FaultsLemmas.{counts_fault_then}
use Rattle.store_api.specs.Calls.{Marks}
use Rattle.store_api.specs.Moments.{OnlyBase}
use Rattle.store_api.specs.RunsOverPages.{RunsOverPages}
use Rattle.store_api.specs.Works.{Steady}
use Rattle.store_api.specs.declared.fault.Damage.{Damage}
use Rattle.store_api.specs.declared.fault.StoreFault.TheVariants.{Device}
use Rattle.store_api.specs.declared.pages.Pages.{Ghosts}
use Rattle.store_api.proofs.CausesLemmas.{cause_still}
use Rattle.store_api.proofs.FetchingLemmas.{only_same, only_then, only_wider}
use Rattle.store_api.proofs.FrameLemmas.{touches_same, touches_then, touches_wider}
use Rattle.store_api.proofs.WorksLemmas.{steady_mark, steady_then}
use Rattle.free_space.specs.declared.rooms.Rooms.{Rooms}
use Rattle.checked_table.specs.WholeChanges.{BeginsChange, IsWholeChange, KeepsChange}

-- a mark is how a change begins
pub begun : {S : Type 0} (g : Ghosts S) (old new : S) → Marks (g.state old) (g.state new) → g.disk_faults new ≡ g.disk_faults old → g.say_faults new ≡ g.say_faults old
    → OverTime g.clock g.left (OnlyBase (g.state old)) old new → BeginsChange g old new
begun g old new marks count say time =
    let steady : Steady g old new = steady_mark marks count say time in
    record {
      pages = record { told = steady.is_told; same = ap (λ s. s.work) marks };
      marked = ap (λ s. s.marked) marks;
      fetched = ap (λ s. s.fetched) marks;
      disk_faults = count;
      steady = steady;
    }

module _ {S : Type 0} {g : Ghosts S} {old marked mid new : S} {Mine : ℕ → Type 0} {Breaks : Damage → Type 0} where
  -- it was made and is kept
  pub whole_kept : {X E : Type 0} {x : X} {More : ℕ → Type 0} {noted : SpaceNotes} {rooms : Rooms} → BeginsChange g old marked → RunsOverPages g Mine Mine Breaks marked mid None → ((p : ℕ) → Mine p → More p)
      → KeepsChange g mid new → CountsFault (None ≡ Some Device) (g.disk_faults mid) (g.disk_faults new) → IsWholeChange {E = E} g More noted rooms old new (Ok x) None
  whole_kept begins runs more keeps faults = record {
    back = tt;
    notes = tt;
    forgotten = tt;
    unmarked = keeps.unmarked;
    steady = steady_then (steady_then begins.steady runs.works.steady) keeps.steady;
    device = counts_fault_then (cause_still runs.cause ∙ begins.disk_faults) faults;
    touches = touches_wider (touches_then (touches_then (touches_same begins.pages.told begins.pages.same) runs.touches) (touches_same keeps.pages.told keeps.pages.same)) more;
    brings = only_wider (only_then (only_then (only_same begins.fetched) runs.brings) (only_same keeps.fetched)) more;
  }
