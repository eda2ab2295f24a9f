-- What judging the extent map looks at: what each extent is by its bytes there, and which tables are there.
use Rattle.std.specs.Prelude.{◌≡◌, ◌≤◌, ◌<◌, ◌+◌, ◌/◌, ◌↔◌, ℕ, List, length, Bool, false, IsTrue, Option, Some, None, unwrap_or, slice_index_or}
use Rattle.mdc_words.specs.Listed.{listed}
use Rattle.store_api.specs.Extents.{first_page_of}
use Rattle.store_api.specs.StoreState.{page_at}
use Rattle.store_api.specs.declared.shape.Shape.{Shape}
use Rattle.extent_map.specs.Kinds.{kind_stated}
use Rattle.extent_map.specs.Map.{entry_of, map_page_of}
use Rattle.extent_map.specs.declared.kind.Kind.{Kind}
use Rattle.extent_map.specs.declared.kind.Kind.TheVariants.{Free, Block, Index}
use Rattle.table_trees.specs.ToldPages.{PageList}
use Rattle.mdc_sound.specs.TablePages.{IsTableThere}

-- what an extent is by its bytes on its page of the map, where they have a form
abbrev pub kind_on : Shape → List ℕ → ℕ → Option Kind
kind_on shape page e = kind_stated shape.extent_pages (entry_of page e)

-- the owners that the pages of the map show
abbrev pub owners_on : Shape → PageList → List Kind
owners_on shape pages = listed shape.extents (λ e. unwrap_or (kind_on shape (page_at pages (map_page_of e)) e) Free)

-- of each of the 16 tables this says whether it is there
pub record TellTables (pages : PageList) (tables : List Bool) : Type 0 where
  pub count : length tables ≡ 16
  pub each : (t : ℕ) → t < 16 → IsTrue (slice_index_or tables t false) ↔ IsTableThere pages t

-- so many pages have the whole of an extent
abbrev pub EndsWithin : Shape → ℕ → ℕ → Type 0
EndsWithin shape count e = first_page_of shape.extents shape.extent_pages (e + 1) ≤ count

-- an extent of this kind may be: it is free, or it lies within so many pages, and a block is one of a table that is there
abbrev pub IsKindSound : Shape → ℕ → List Bool → ℕ → Kind → Type 0
IsKindSound shape count tables e Free = Unit {0}
IsKindSound shape count tables e (Block t) = IsTrue (slice_index_or tables t false) × EndsWithin shape count e
IsKindSound shape count tables e (Index used) = EndsWithin shape count e

-- its bytes have a form, and say such a kind
abbrev pub IsEntrySound : Shape → ℕ → List Bool → ℕ → Option Kind → Type 0
IsEntrySound shape count tables e None = ⊥
IsEntrySound shape count tables e (Some kind) = IsKindSound shape count tables e kind

-- all entries of page i of the map are so
abbrev pub AreEntriesSound : Shape → ℕ → List Bool → List ℕ → ℕ → Type 0
AreEntriesSound shape count tables page i = (e : ℕ) → e / 512 ≡ i → IsEntrySound shape count tables e (kind_on shape page e)
