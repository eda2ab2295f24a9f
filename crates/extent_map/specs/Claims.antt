-- What one claim does, to a map of which it is told.
use Rattle.std.specs.Prelude.{◌≡◌, ◌<◌, ◌≤◌, ◌+◌, ℕ, List, length, slice_set, max, Some}
use Rattle.store_api.specs.Extents.{first_page_of}
use Rattle.store_api.specs.Frame.{IsCounted}
use Rattle.store_api.specs.declared.pages.Pages.{Ghosts}
use Rattle.store_api.specs.declared.shape.Shape.{Shape}
use Rattle.extent_map.specs.Kinds.{lowest_unused_place, with_used_place}
use Rattle.extent_map.specs.Map.{HoldsMap, StatesGrowth}
use Rattle.extent_map.specs.Owners.{owner_of}
use Rattle.extent_map.specs.Searches.{NoneWanted}
use Rattle.extent_map.specs.declared.finding.Wanted.TheVariants.{FreeExtent}
use Rattle.extent_map.specs.declared.kind.Kind.{Kind}
use Rattle.extent_map.specs.declared.kind.Kind.TheVariants.{Free}

-- none of the extents from one on to before another is free
abbrev pub HasNoneFrom : Shape → List Kind → ℕ → ℕ → Type 0
HasNoneFrom shape owners from to = NoneWanted FreeExtent shape.extent_pages owners from to

-- extent e, which was the lowest free one from another on, is of a kind now
pub record ClaimsExtent {S : Type 0} (g : Ghosts S) (shape : Shape) (from : ℕ) (kind : Kind) (old new : S) (e : ℕ) : Type 0 where
  pub within : e < shape.extents
  pub count : length (g.state new).work ≡ max (length (g.state old).work) (first_page_of shape.extents shape.extent_pages (e + 1))
  pub counted : IsCounted g old → IsCounted g new
  pub stated : StatesGrowth g old new
  pub free : (owners : List Kind) → HoldsMap g shape old owners → owner_of owners e ≡ Free
  pub passed : (owners : List Kind) → HoldsMap g shape old owners → HasNoneFrom shape owners from e
  pub holds : (owners : List Kind) → HoldsMap g shape old owners → HoldsMap g shape new (slice_set owners e kind)

-- page p, the lowest of extent e that wasn't used, is used now
pub record TakesPage {S : Type 0} (g : Ghosts S) (shape : Shape) (kind : Kind) (old new : S) (e p : ℕ) : Type 0 where
  pub place : ℕ
  pub lowest : lowest_unused_place shape.extent_pages kind ≡ Some place
  pub page : p ≡ first_page_of shape.extents shape.extent_pages e + place
  pub there : first_page_of shape.extents shape.extent_pages (e + 1) ≤ length (g.state old).work
  pub count : length (g.state new).work ≡ length (g.state old).work
  pub counted : IsCounted g old → IsCounted g new
  pub holds : (owners : List Kind) → HoldsMap g shape old owners → HoldsMap g shape new (slice_set owners e (with_used_place place kind))
