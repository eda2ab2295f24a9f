-- Which damage a call on extents may name, and what its own faults are.
use Rattle.std.specs.Prelude.{◌≡◌, ◌⊎◌, ◌<◌, ◌+◌, ◌/◌, ℕ, IsTrue, List, length, Option, Some, None}
use Rattle.store_api.specs.Extents.{first_count, map_pages}
use Rattle.store_api.specs.declared.fault.Damage.{Damage}
use Rattle.store_api.specs.declared.fault.StoreFault.{StoreFault}
use Rattle.store_api.specs.declared.pages.Pages.{Ghosts}
use Rattle.store_api.specs.declared.shape.Shape.{Shape}
use Rattle.extent_map.specs.Kinds.{is_block_kind}
use Rattle.extent_map.specs.Map.{HoldsMapPage}
use Rattle.extent_map.specs.Owners.{owner_of, extent_of, IsUsedPage}
use Rattle.extent_map.specs.declared.fault.SpaceFault.{SpaceFault}
use Rattle.extent_map.specs.declared.fault.SpaceFault.TheVariants.{Full, Store}
use Rattle.extent_map.specs.declared.kind.Kind.{Kind}

-- the fault of the store in a fault of a claim, if any
abbrev pub store_part_of : SpaceFault → Option StoreFault
store_part_of (Full cap) = None
store_part_of (Store fault) = Some fault

-- a fact on the number that Full states
abbrev pub IfFull : SpaceFault → (ℕ → Type 0) → Type 0
IfFull (Full cap) P = P cap
IfFull (Store fault) P = Unit {0}

-- rule 1: there are fewer pages than stand before the extents
pub record BreaksCount {S : Type 0} (g : Ghosts S) (shape : Shape) (s : S) (damage : Damage) : Type 0 where
  pub page : damage.page ≡ 0
  pub rule : damage.rule ≡ 1
  pub short : length (g.state s).work < first_count shape.extents

-- rule 2: no extents that meet a fact are told on a page of the map
pub record BreaksMapPage {S : Type 0} (g : Ghosts S) (shape : Shape) (s : S) (Meets : List Kind → Type 0) (i : ℕ) (damage : Damage) : Type 0 where
  pub page : damage.page ≡ 17 + i
  pub on_map : i < map_pages shape.extents
  pub rule : damage.rule ≡ 2
  pub none_told : (owners : List Kind) → HoldsMapPage g shape s owners i → Meets owners → ⊥

-- the number of pages or a page of the map breaks its rule
abbrev pub BreaksSpace : {S : Type 0} → Ghosts S → Shape → S → Damage → Type 0
BreaksSpace g shape s damage = BreaksCount g shape s damage ⊎ ((i : ℕ) × BreaksMapPage g shape s (λ owners. Unit {0}) i damage)

-- the same, or the extent isn't a block
abbrev pub BreaksBlock : {S : Type 0} → Ghosts S → Shape → S → ℕ → Damage → Type 0
BreaksBlock g shape s e damage =
    BreaksSpace g shape s damage ⊎ BreaksMapPage g shape s (λ owners. IsTrue (is_block_kind (owner_of owners e))) (e / 512) damage

-- rule 5: the page isn't a used page of an index extent, where its page of the map is told to have its form
pub record BreaksUse {S : Type 0} (g : Ghosts S) (shape : Shape) (s : S) (p : ℕ) (damage : Damage) : Type 0 where
  pub page : damage.page ≡ p
  pub rule : damage.rule ≡ 5
  pub not_used : (owners : List Kind) → HoldsMapPage g shape s owners (extent_of shape p / 512) → IsUsedPage shape owners p → ⊥

-- the number of pages or a page of the map breaks its rule, or the page isn't a used one
abbrev pub BreaksUsedPage : {S : Type 0} → Ghosts S → Shape → S → ℕ → Damage → Type 0
BreaksUsedPage g shape s p damage = BreaksSpace g shape s damage ⊎ BreaksUse g shape s p damage
