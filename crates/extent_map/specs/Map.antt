-- The pages of the extent map, and what they are told to hold (docs/FORMAT.md, "Extent map").
use Rattle.std.specs.Prelude.{◌≡◌, ◌≢◌, ◌⊎◌, ◌<◌, ◌≤◌, ◌+◌, ◌*◌, ◌/◌, ◌%◌, ℕ, IsTrue, zero, suc, List, [], ◌++◌, length, take, drop}
use Rattle.std.specs.Int.{to_be_bytes, w32}
use Rattle.store_api.specs.Extents.{first_count, first_page_of, map_pages}
use Rattle.store_api.specs.Frame.{HoldsPage}
use Rattle.store_api.specs.StoreState.{patched, zero_page}
use Rattle.store_api.specs.declared.pages.Pages.{Ghosts}
use Rattle.store_api.specs.declared.shape.Shape.{Shape}
use Rattle.extent_map.specs.Kinds.{kind_bytes, IsKindOf}
use Rattle.extent_map.specs.Owners.{owner_of}
use Rattle.extent_map.specs.declared.kind.Kind.{Kind}
use Rattle.extent_map.specs.declared.kind.Kind.TheVariants.{Free}

-- the bytes of so many extents from one on
unfoldable pub map_entries : List Kind → ℕ → ℕ → List ℕ
map_entries owners e zero = []
map_entries owners e (suc n) = kind_bytes (owner_of owners e) ++ map_entries owners (suc e) n

-- The i-th page of the map. It has 512 extents, and those behind the last are as free ones: zeros.
unfoldable pub map_page : List Kind → ℕ → List ℕ
map_page owners i = map_entries owners (512 * i) 512

-- the page of the map that an extent stands on
abbrev pub map_page_of : ℕ → ℕ
map_page_of e = 17 + e / 512

-- the place of its bytes there
abbrev pub entry_place : ℕ → ℕ
entry_place e = 8 * (e % 512)

-- the bytes of an extent on its page of the map
abbrev pub entry_of : List ℕ → ℕ → List ℕ
entry_of page e = take 8 (drop (entry_place e) page)

-- A page of the map, and what it says of its extents: each is of a kind that it may have, and one that isn't free lies within
-- the pages that there are. Whether a table is there is not asked.
pub record HoldsMapPage {S : Type 0} (g : Ghosts S) (shape : Shape) (s : S) (owners : List Kind) (i : ℕ) : Type 0 where
  pub page : HoldsPage g s (17 + i) (map_page owners i)
  pub kinds : (e : ℕ) → e / 512 ≡ i → IsKindOf shape.extent_pages (owner_of owners e)
  pub there : (e : ℕ) → e / 512 ≡ i → owner_of owners e ≢ Free → first_page_of shape.extents shape.extent_pages (e + 1) ≤ length (g.state s).work

-- the extent map is told to be this list, of which each extent has its place
pub record HoldsMap {S : Type 0} (g : Ghosts S) (shape : Shape) (s : S) (owners : List Kind) : Type 0 where
  pub count : length owners ≡ shape.extents
  pub pages : (i : ℕ) → i < map_pages shape.extents → HoldsMapPage g shape s owners i

-- there are as many pages as some number of whole extents make
pub record IsWholeCount {S : Type 0} (g : Ghosts S) (shape : Shape) (s : S) : Type 0 where
  pub extents : ℕ
  pub within : extents ≤ shape.extents
  pub count : length (g.state s).work ≡ first_page_of shape.extents shape.extent_pages extents

-- a page of the map
abbrev pub IsMapPage : Shape → ℕ → Type 0
IsMapPage shape p = (17 ≤ p) × (p < first_count shape.extents)

-- a page of the map, or page 0
abbrev pub IsSpacePage : Shape → ℕ → Type 0
IsSpacePage shape p = (p ≡ 0) ⊎ IsMapPage shape p

-- page 0 with another page count
abbrev pub root_stating : ℕ → List ℕ → List ℕ
root_stating count bytes = patched 8 (to_be_bytes w32 count) bytes

-- page 0, where it is told, is as it was, or it states how many pages there are now
pub record ChangesCount {S : Type 0} (g : Ghosts S) (old new : S) : Type 0 where
  pub root : (bytes : List ℕ) → HoldsPage g old 0 bytes
      → HoldsPage g new 0 bytes ⊎ HoldsPage g new 0 (root_stating (length (g.state new).work) bytes)

-- page 0, where it is told, is as it was, or it is but for the page count that it states
pub record KeepsRoot {S : Type 0} (g : Ghosts S) (old new : S) : Type 0 where
  pub root : (bytes : List ℕ) → HoldsPage g old 0 bytes → HoldsPage g new 0 bytes ⊎ ((count : ℕ) × HoldsPage g new 0 (root_stating count bytes))

-- Page 0, where it is told, is as it was if no page came. Else it states how many pages there are now, and is as it was but for
-- that; it has 4,096 bytes then.
pub record StatesGrowth {S : Type 0} (g : Ghosts S) (old new : S) : Type 0 where
  pub same : length (g.state new).work ≡ length (g.state old).work → (bytes : List ℕ) → HoldsPage g old 0 bytes → HoldsPage g new 0 bytes
  pub grown : length (g.state old).work < length (g.state new).work → (bytes : List ℕ) → HoldsPage g old 0 bytes
      → HoldsPage g new 0 (root_stating (length (g.state new).work) bytes)
  pub whole : length (g.state old).work < length (g.state new).work → (bytes : List ℕ) → HoldsPage g old 0 bytes → length bytes ≡ 4096

-- the pages that came, but for those that are mine, are told to be zeros
pub record BringsZeros {S : Type 0} (g : Ghosts S) (Mine : ℕ → Type 0) (old new : S) : Type 0 where
  pub zeros : IsTrue (g.state old).is_told → (p : ℕ) → (Mine p → ⊥) → length (g.state old).work ≤ p → p < length (g.state new).work → HoldsPage g new p zero_page

-- each page of the map that is told to have its form still has it, whatever it says now
pub record KeepsMapForm {S : Type 0} (g : Ghosts S) (shape : Shape) (old new : S) : Type 0 where
  pub forms : (i : ℕ) (owners : List Kind) → i < map_pages shape.extents → HoldsMapPage g shape old owners i → (more : List Kind) × HoldsMapPage g shape new more i
