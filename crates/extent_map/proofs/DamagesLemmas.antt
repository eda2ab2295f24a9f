-- Which damage is there, where the bytes of an extent have a wrong form, and where it lies behind the pages that there are.
use Rattle.std.proofs.Common.{◌≡◌, ◌≢◌, ◌<◌, ◌≤◌, ◌+◌, ◌-◌, ◌/◌, ℕ, IsTrue, max, List, length, inl, inr, refl, ap, arith}
use Rattle.std.proofs.lemmas.Bool.{cases_lt}
use Rattle.store_api.specs.Extents.{first_count, first_page_of, map_pages}
use Rattle.store_api.specs.declared.fault.Damage.{Damage}
use Rattle.store_api.specs.declared.pages.Pages.{Ghosts}
use Rattle.store_api.specs.declared.shape.Shape.{Shape}
use Rattle.extent_map.specs.Damages.{BreaksSpace, BreaksBlock, BreaksUsedPage}
use Rattle.extent_map.specs.Kinds.{is_block_kind}
use Rattle.extent_map.specs.Map.{HoldsMap, HoldsMapPage, IsWholeCount, map_page_of}
use Rattle.extent_map.specs.Owners.{owner_of, extent_of, IsUsedPage}
use Rattle.extent_map.specs.declared.kind.Kind.{Kind}
use Rattle.extent_map.specs.declared.kind.Kind.TheVariants.{Free}
use Rattle.extent_map.proofs.ExtentsLemmas.{some_extents, extent_below}
use Rattle.extent_map.proofs.HoldsMapLemmas.{map_page_same, on_map}

module _ {S : Type 0} {g : Ghosts S} where
  -- no kind that the extent may have is told there
  pub breaks_entry : {shape : Shape} {s : S} (e : ℕ) (damage : Damage) → e < shape.extents → (damage.page ≡ map_page_of e) × (damage.rule ≡ 2)
      → ((owners : List Kind) → HoldsMapPage g shape s owners (e / 512) → ⊥) → BreaksSpace g shape s damage
  breaks_entry {shape = shape} e damage below is none = inr (e / 512, record { page = is.0; on_map = on_map shape.extents e below; rule = is.1; none_told = λ owners told meets. none owners told })

  -- an extent that isn't free, and whose end isn't there
  pub breaks_end : {shape : Shape} {s : S} (e : ℕ) (damage : Damage) → e < shape.extents → (damage.page ≡ map_page_of e) × (damage.rule ≡ 2)
      → ((owners : List Kind) → HoldsMapPage g shape s owners (e / 512) → owner_of owners e ≢ Free) → length (g.state s).work < first_page_of shape.extents shape.extent_pages (e + 1)
      → BreaksSpace g shape s damage
  breaks_end e damage below is used past = breaks_entry e damage below is (λ owners told. omega (arith, past, told.there e refl (used owners told)))

  -- what breaks a rule where the work is the same
  pub breaks_space_same : {shape : Shape} {old new : S} (damage : Damage) → (g.state new).is_told ≡ (g.state old).is_told → (g.state new).work ≡ (g.state old).work
      → BreaksSpace g shape new damage → BreaksSpace g shape old damage
  breaks_space_same damage told same breaks = elim breaks [
    | inl count ↦ inl (record { page = count.page; rule = count.rule; short = omega (arith, count.short, ap length same) })
    | inr map ↦ inr (map.0, record { page = map.1.page; on_map = map.1.on_map; rule = map.1.rule; none_told = λ owners is meets. map.1.none_told owners (map_page_same told same is) meets })
  ]

  -- where the owners are told, the pages of the map are there
  pub holds_first_count : (shape : Shape) {s : S} {owners : List Kind} → HoldsMap g shape s owners → first_count shape.extents ≤ length (g.state s).work
  holds_first_count shape is =
      let some : 4 ≤ shape.extents = some_extents shape in
      let last : map_pages shape.extents - 1 < map_pages shape.extents = omega arith in
      omega (arith, last, (is.pages (map_pages shape.extents - 1) last).page.within)

  -- no damage is named where the owners are told
  pub breaks_space_never : {shape : Shape} {s : S} {owners : List Kind} (damage : Damage) → HoldsMap g shape s owners → BreaksSpace g shape s damage → ⊥
  breaks_space_never {shape = shape} {owners = owners} damage is breaks = elim breaks [
    | inl count ↦ omega (arith, count.short, holds_first_count shape is)
    | inr map ↦ map.1.none_told owners (is.pages map.0 map.1.on_map) tt
  ]

  -- nor where a block is given back
  pub breaks_block_never : {shape : Shape} {s : S} {owners : List Kind} (e : ℕ) (damage : Damage) → HoldsMap g shape s owners → IsTrue (is_block_kind (owner_of owners e))
      → BreaksBlock g shape s e damage → ⊥
  breaks_block_never {owners = owners} e damage is block breaks = elim breaks [
    | inl space ↦ breaks_space_never damage is space
    | inr map ↦ map.none_told owners (is.pages (e / 512) map.on_map) block
  ]

  -- nor where a used page is given back
  pub breaks_used_page_never : {shape : Shape} {s : S} {owners : List Kind} (p : ℕ) (damage : Damage) → HoldsMap g shape s owners → IsUsedPage shape owners p
      → BreaksUsedPage g shape s p damage → ⊥
  breaks_used_page_never {shape = shape} {owners = owners} p damage is used breaks = elim breaks [
    | inl space ↦ breaks_space_never damage is space
    | inr stray ↦ stray.not_used owners (is.pages (extent_of shape p / 512) (on_map shape.extents (extent_of shape p) (extent_below shape p used.page))) used
  ]

  -- a claim leaves as many pages as whole extents make
  pub whole_claimed : {shape : Shape} {old new : S} (e : ℕ) → e < shape.extents → length (g.state new).work ≡ max (length (g.state old).work) (first_page_of shape.extents shape.extent_pages (e + 1))
      → IsWholeCount g shape old → IsWholeCount g shape new
  whole_claimed {shape = shape} {old = old} {new = new} e below count is = elim (cases_lt (length (g.state old).work) (first_page_of shape.extents shape.extent_pages (e + 1))) [
    | inl grows ↦ record { extents = e + 1; within = omega (arith, below); count = omega (arith, count, grows) }
    | inr there ↦ record { extents = is.extents; within = is.within; count = omega (arith, count, there, is.count) }
  ]
