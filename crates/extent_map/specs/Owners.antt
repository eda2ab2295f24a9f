-- Who owns each extent, as a list of kinds, and which index pages are used.
use Rattle.std.specs.Prelude.{◌≡◌, ◌≢◌, ◌⊎◌, ◌<◌, ◌≤◌, ◌+◌, ◌-◌, ◌/◌, ◌%◌, ℕ, IsTrue, List, [], ◌∷◌, length, max, slice_index_or, slice_set}
use Rattle.store_api.specs.Extents.{first_count, first_page_of}
use Rattle.store_api.specs.declared.shape.Shape.{Shape}
use Rattle.extent_map.specs.Kinds.{is_used_place, is_unused_place, with_used_place, without_place}
use Rattle.extent_map.specs.declared.kind.Kind.{Kind}
use Rattle.extent_map.specs.declared.kind.Kind.TheVariants.{Free, Block}
use Rattle.extent_map.specs.declared.space_notes.SpaceNotes.{SpaceNotes}

-- what an extent is. One that there isn't is free.
abbrev pub owner_of : List Kind → ℕ → Kind
owner_of owners e = slice_index_or owners e Free

-- the extent that a page behind the map lies in
abbrev pub extent_of : Shape → ℕ → ℕ
extent_of shape p = (p - first_count shape.extents) / shape.extent_pages

-- its place there
abbrev pub place_in_extent : Shape → ℕ → ℕ
place_in_extent shape p = (p - first_count shape.extents) % shape.extent_pages

-- a page of an extent that there is
pub record IsExtentPage (shape : Shape) (p : ℕ) : Type 0 where
  pub behind : first_count shape.extents ≤ p
  pub within : p < first_page_of shape.extents shape.extent_pages shape.extents

-- a page of an index extent that is used
pub record IsUsedPage (shape : Shape) (owners : List Kind) (p : ℕ) : Type 0 where
  pub page : IsExtentPage shape p
  pub used : IsTrue (is_used_place (place_in_extent shape p) (owner_of owners (extent_of shape p)))

-- a page of an index extent that isn't used
pub record IsUnusedPage (shape : Shape) (owners : List Kind) (p : ℕ) : Type 0 where
  pub page : IsExtentPage shape p
  pub unused : IsTrue (is_unused_place (place_in_extent shape p) (owner_of owners (extent_of shape p)))

-- no extent is free
abbrev pub HasNoFree : List Kind → Type 0
HasNoFree owners = (e : ℕ) → e < length owners → owner_of owners e ≢ Free

-- each page of an index extent is used
abbrev pub HasNoUnused : Shape → List Kind → Type 0
HasNoUnused shape owners = (p : ℕ) → IsUnusedPage shape owners p → ⊥

-- the lowest extent that is free
pub record IsLowestFree (owners : List Kind) (e : ℕ) : Type 0 where
  pub within : e < length owners
  pub free : owner_of owners e ≡ Free
  pub lowest : (i : ℕ) → i < e → owner_of owners i ≢ Free

-- the lowest page of an index extent that isn't used
pub record IsLowestUnused (shape : Shape) (owners : List Kind) (p : ℕ) : Type 0 where
  pub unused : IsUnusedPage shape owners p
  pub lowest : (q : ℕ) → q < p → IsUnusedPage shape owners q → ⊥

-- a page that may be claimed: one of an index extent that isn't used, or the first of a free extent
pub record IsClaimable (shape : Shape) (owners : List Kind) (p : ℕ) : Type 0 where
  pub page : IsExtentPage shape p
  pub claimable : IsUnusedPage shape owners p ⊎ ((owner_of owners (extent_of shape p) ≡ Free) × (place_in_extent shape p ≡ 0))

-- the first page of the lowest free extent, where each page of an index extent is used
pub record IsFirstOfFree (shape : Shape) (owners : List Kind) (p : ℕ) : Type 0 where
  pub page : IsExtentPage shape p
  pub none_unused : HasNoUnused shape owners
  pub lowest : IsLowestFree owners (extent_of shape p)
  pub first : place_in_extent shape p ≡ 0

-- the one of them that a claim takes: the lowest that isn't used, or else the first of the lowest free extent
abbrev pub IsLowestClaimable : Shape → List Kind → ℕ → Type 0
IsLowestClaimable shape owners p = IsLowestUnused shape owners p ⊎ IsFirstOfFree shape owners p

-- the list with the extent a block of the table
abbrev pub with_block : List Kind → ℕ → ℕ → List Kind
with_block owners e table = slice_set owners e (Block table)

-- the list with the extent free
abbrev pub without_block : List Kind → ℕ → List Kind
without_block owners e = slice_set owners e Free

-- the list with the page used
abbrev pub with_used_page : Shape → List Kind → ℕ → List Kind
with_used_page shape owners p = slice_set owners (extent_of shape p) (with_used_place (place_in_extent shape p) (owner_of owners (extent_of shape p)))

-- the list with the page no longer used
abbrev pub without_page : Shape → List Kind → ℕ → List Kind
without_page shape owners p = slice_set owners (extent_of shape p) (without_place (place_in_extent shape p) (owner_of owners (extent_of shape p)))

-- The two notes are right: no extent below the first is free, and no index extent below the second has a page that isn't
-- used. One that is too low costs time alone.
pub record AreRightNotes (shape : Shape) (notes : SpaceNotes) (owners : List Kind) : Type 0 where
  pub free : (e : ℕ) → e < notes.free_from → e < length owners → owner_of owners e ≢ Free
  pub unused : (e j : ℕ) → e < notes.unused_from → j < shape.extent_pages → IsTrue (is_unused_place j (owner_of owners e)) → ⊥

-- how many pages there are once these were claimed, where there were n before: as many as the extent of each needs
abbrev pub count_with : Shape → ℕ → List ℕ → ℕ
count_with shape n [] = n
count_with shape n (p ∷ claimed) = count_with shape (max n (first_page_of shape.extents shape.extent_pages (extent_of shape p + 1))) claimed
