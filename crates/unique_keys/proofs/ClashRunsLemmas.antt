-- Runs of looks into the record indexes of a table, one after the other.
use Rattle.std.proofs.Common.{◌≡◌, ℕ, inl, inr}
use Rattle.std.specs.Prelude.{IsTrue, None, Option, Some, slice_get}
use Rattle.mdc_ast.specs.declared.definition.IndexDef.{IndexDef}
use Rattle.mdc_ast.specs.declared.definition.TableDef.{TableDef}
use Rattle.store_api.specs.Frame.{NoPage}
use Rattle.store_api.specs.RunsOverPages.{RunsOverPages}
use Rattle.store_api.specs.Works.{Steady}
use Rattle.store_api.specs.declared.fault.Damage.{Damage}
use Rattle.store_api.specs.declared.fault.StoreFault.{StoreFault}
use Rattle.store_api.specs.declared.pages.Pages.{Ghosts}
use Rattle.store_api.proofs.RunsOverPagesLemmas.{runs_then}
use Rattle.block_map.specs.BlockMaps.{AnyMap}
use Rattle.block_map.proofs.MapRunsLemmas.{breaks_map_still}
use Rattle.table_trees.specs.TableTrees.{map_place}
use Rattle.record_index.specs.RecordIndexes.{place_of_record_index}
use Rattle.live_rows.specs.Twins.{BreaksLook, IsLookPage}
use Rattle.live_rows.proofs.LookRunsLemmas.{Looks, at_still}
use Rattle.unique_keys.specs.Clashes.{BreaksClash, IsClashPage}

-- what looks into the record indexes of a table do
abbrev pub LooksForClash : {S : Type 0} → Ghosts S → TableDef → S → S → Option StoreFault → Type 0
LooksForClash g def old new fault = RunsOverPages g NoPage (IsClashPage g old def) (BreaksClash g old def) old new fault

module _ {S : Type 0} {g : Ghosts S} (def : TableDef) (old mid : S) (steady : Steady g old mid) (same : (g.state mid).work ≡ (g.state old).work) where
  -- what a look may bring to hand and name is as at the start, where the work stays
  page_before : (index p : ℕ) → IsLookPage g mid def index p → IsLookPage g old def index p
  page_before index p (inl is) = inl (λ t held. is t (at_still old mid (place_of_record_index def index) t steady same held))
  page_before index p (inr is) = inr (λ t held. is t (at_still old mid (map_place def) t steady same held))

  damage_before : (index : ℕ) (damage : Damage) → BreaksLook g mid def index damage → BreaksLook g old def index damage
  damage_before index damage (inl b) = inl (record { page = b.page; rule = b.rule; broken = λ t held. b.broken t (at_still old mid (place_of_record_index def index) t steady same held) })
  damage_before index damage (inr b) = inr (record { tree = b.tree; at = b.at; is = breaks_map_still AnyMap AnyMap damage steady same (λ t held any. any) b.is })

  -- one look more into an index
  pub looks_again : (index : ℕ) (new : S) (fault : Option StoreFault) → Looks g def index old mid None → Looks g def index mid new fault → Looks g def index old new fault
  looks_again index new fault first second = runs_then first second (λ p there none. none) (page_before index) (damage_before index)

  -- and one into another UNIQUE one
  pub looks_elsewhere : (index : ℕ) (which : IndexDef) (new : S) (fault : Option StoreFault) → slice_get def.indexes index ≡ Some which → IsTrue which.unique
      → LooksForClash g def old mid None → Looks g def index mid new fault → LooksForClash g def old new fault
  looks_elsewhere index which new fault there unique first second =
      runs_then first second (λ p low none. none) (λ p is. (index, which, there, unique, page_before index p is)) (λ damage b. (index, which, there, unique, damage_before index damage b))
