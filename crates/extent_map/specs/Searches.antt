-- What a search of the map looks for, and what it finds.
use Rattle.std.specs.Prelude.{◌≡◌, ◌≢◌, ◌<◌, ◌≤◌, ◌/◌, ℕ, Bool, true, false, List, Option, MatchOption, is_some}
use Rattle.store_api.specs.declared.pages.Pages.{Ghosts}
use Rattle.store_api.specs.declared.shape.Shape.{Shape}
use Rattle.extent_map.specs.Kinds.{IsKindOf, kind_bytes, is_free_kind, lowest_unused_place}
use Rattle.extent_map.specs.Map.{HoldsMapPage, entry_of}
use Rattle.extent_map.specs.Owners.{owner_of}
use Rattle.extent_map.specs.declared.finding.Wanted.{Wanted}
use Rattle.extent_map.specs.declared.finding.Wanted.TheVariants.{FreeExtent, UnusedPage}
use Rattle.extent_map.specs.declared.kind.Kind.{Kind}

-- whether a kind is what is looked for
abbrev pub is_wanted : Wanted → ℕ → Kind → Bool
is_wanted FreeExtent extent_pages kind = is_free_kind kind
is_wanted UnusedPage extent_pages kind = is_some (lowest_unused_place extent_pages kind)

-- none of the extents from one on to before another is wanted
abbrev pub NoneWanted : Wanted → ℕ → List Kind → ℕ → ℕ → Type 0
NoneWanted wanted extent_pages owners from to =
    (e : ℕ) → from ≤ e → e < to → is_wanted wanted extent_pages (owner_of owners e) ≡ false

-- the lowest of the extents from one on to before another that is wanted, with what it is, where there is one
abbrev pub FindsWanted : Wanted → ℕ → List Kind → ℕ → ℕ → Option (ℕ × Kind) → Type 0
FindsWanted wanted extent_pages owners from to found =
    MatchOption found (NoneWanted wanted extent_pages owners from to)
    (λ at. (owner_of owners at.0 ≡ at.1) × NoneWanted wanted extent_pages owners from at.0)

-- an extent that was found lies in the range that was searched, and is of a wanted kind
pub record IsFound (wanted : Wanted) (extent_pages from to : ℕ) (at : ℕ × Kind) : Type 0 where
  pub behind : from ≤ at.0
  pub within : at.0 < to
  pub kind : IsKindOf extent_pages at.1
  pub is_it : is_wanted wanted extent_pages at.1 ≡ true

-- the page shows each of the extents from one on to before another as what it is
abbrev pub ShowsKinds : ℕ → List ℕ → List Kind → ℕ → ℕ → Type 0
ShowsKinds extent_pages page owners from to =
    (e : ℕ) → from ≤ e → e < to → IsKindOf extent_pages (owner_of owners e) × (entry_of page e ≡ kind_bytes (owner_of owners e))

-- an extent in this range of which the page shows no kind that it may have
pub record IsMalformed (extent_pages : ℕ) (page : List ℕ) (from to e : ℕ) : Type 0 where
  pub behind : from ≤ e
  pub within : e < to
  pub none : (kind : Kind) → IsKindOf extent_pages kind → entry_of page e ≢ kind_bytes kind

-- an extent is of this kind, whatever else its page of the map is told to say
abbrev pub ShowsOwner : {S : Type 0} → Ghosts S → Shape → S → ℕ → Kind → Type 0
ShowsOwner g shape s e kind = (owners : List Kind) → HoldsMapPage g shape s owners (e / 512) → owner_of owners e ≡ kind
