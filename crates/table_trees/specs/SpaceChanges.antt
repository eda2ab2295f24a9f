-- The changes of space that calls make in pages, one after the other: what each asks for, that it takes no more, and where no room
-- is left for the next (docs/FORMAT.md, "Running full"). Rows in slots don't occur here.
use Rattle.std.specs.Prelude.{◌≡◌, ◌≢◌, ◌≤◌, ◌<◌, ◌⊎◌, ◌↔◌, ℕ, ◌+◌, ◌-◌, ◌/◌, List, [], ◌∷◌, ◌++◌, length, map, count_by, sum_by}
use Rattle.std.specs.List.{FoldsTo, range_with_len}
use Rattle.mdc_words.specs.ByteOrder.{Entry}
use Rattle.store_api.specs.Extents.{first_page_of}
use Rattle.store_api.specs.StoreState.{page_at}
use Rattle.store_api.specs.declared.shape.Shape.{Shape}
use Rattle.extent_map.specs.Kinds.{is_free_kind, is_used_place, is_unused_place}
use Rattle.extent_map.specs.Map.{HoldsMap}
use Rattle.extent_map.specs.Owners.{IsLowestClaimable, IsLowestFree, IsUsedPage, owner_of, with_block, with_used_page, without_block}
use Rattle.extent_map.specs.declared.kind.Kind.{Kind}
use Rattle.extent_map.specs.declared.kind.Kind.TheVariants as kind
use Rattle.entry_tree.specs.EntryBounds.{IsEntryOf, with_entry}
use Rattle.entry_tree.specs.Forest.{EachNode, Forest, filled_leaves, leaf_entries, times}
use Rattle.entry_tree.specs.HeldTrees.{nodes_in}
use Rattle.entry_tree.specs.Pruning.{without_pages}
use Rattle.entry_tree.specs.Standing.{AreLowestClaims, AsksPages, with_pages}
use Rattle.entry_tree.specs.TreeChanges.{GainsInLeaf, KeepsLeaf, KeepsLeafCounts, LosesInLeaf, times_among}
use Rattle.table_trees.specs.TableTrees.{TreePlace}
use Rattle.table_trees.specs.ToldPages.{HasTree, PageList, telling, told_pages}

-- ---- what there is

-- how many extents are free
abbrev pub free_extents : List Kind → ℕ
free_extents owners = count_by is_free_kind owners

-- how many pages of index extents are used
abbrev pub used_index_pages : Shape → List Kind → ℕ
used_index_pages shape owners = sum_by (λ owner. count_by (λ j. is_used_place j owner) (range_with_len 0 shape.extent_pages)) owners

-- how many pages of index extents aren't used; trees take these before a free extent
abbrev pub unused_index_pages : Shape → List Kind → ℕ
unused_index_pages shape owners = sum_by (λ owner. count_by (λ j. is_unused_place j owner) (range_with_len 0 shape.extent_pages)) owners

-- how many extents so many index pages fill, beyond the pages of index extents that aren't used
abbrev pub extents_for : Shape → List Kind → ℕ → ℕ
extents_for shape owners n = (n - unused_index_pages shape owners + shape.extent_pages - 1) / shape.extent_pages

-- ---- changes

-- One change of space: a free extent becomes a block of a table, or a block of one is given back and is a free extent again; an
-- entry is added to a tree, taken out, or changed in place; a tree is made. No statement gives back a single block yet. What gives
-- all pages of a table back, as DROP TABLE does, asks for nothing and stands in no list.
pub data SpaceChange : Type 0 where
  ClaimBlock : (table block : ℕ) → SpaceChange
  GiveBlock : (table block : ℕ) → SpaceChange
  AddEntry : (place : TreePlace) (entry : Entry) → SpaceChange
  RemoveEntry : (place : TreePlace) (entry : Entry) → SpaceChange
  AmendEntry : (place : TreePlace) (before after : Entry) → SpaceChange
  MakeTree : (place : TreePlace) → SpaceChange

-- the pages hold a tree in this place, on used index pages, in which the entry isn't, and where it asks for n pages
pub record AsksInTree (shape : Shape) (owners : List Kind) (pages : PageList) (place : TreePlace) (entry : Entry) (n : ℕ) : Type 0 where
  pub tree : Forest
  pub has : HasTree pages place tree
  pub used : (p : ℕ) → 0 < times p tree → IsUsedPage shape owners p
  pub absent : IsEntryOf entry (leaf_entries tree) → ⊥
  pub asks : AsksPages place.width (nodes_in place.width (telling pages)) tree entry n

-- a change asks for so many extents as blocks, and so many index pages; what is taken out or given back asks for none
abbrev pub AsksSpace : Shape → List Kind → PageList → SpaceChange → ℕ → ℕ → Type 0
AsksSpace shape owners pages (ClaimBlock t block) blocks n = (blocks ≡ 1) × (n ≡ 0)
AsksSpace shape owners pages (AddEntry place entry) blocks n = (blocks ≡ 0) × AsksInTree shape owners pages place entry n
AsksSpace shape owners pages (MakeTree place) blocks n = (blocks ≡ 0) × (n ≡ 1)
AsksSpace shape owners pages change blocks n = (blocks ≡ 0) × (n ≡ 0)

-- each used index page that isn't one of this tree stays as it is, and in use
pub record KeepsIndexPages (shape : Shape) (old_owners new_owners : List Kind) (old new : PageList) (tree : Forest) : Type 0 where
  pub bytes : (p : ℕ) → IsUsedPage shape old_owners p → times p tree ≡ 0 → page_at new p ≡ page_at old p
  pub used : (p : ℕ) → IsUsedPage shape old_owners p → times p tree ≡ 0 → IsUsedPage shape new_owners p

-- each extent is a block of the same table as before
abbrev pub KeepsBlocks : List Kind → List Kind → Type 0
KeepsBlocks old new = (t e : ℕ) → (owner_of old e ≡ kind.Block t) ↔ (owner_of new e ≡ kind.Block t)

-- A tree becomes another in its place, and the pages of all other trees and all blocks stay. Its pages were in use, and are
-- afterwards; those that it no longer has aren't, and those that are new to it weren't.
pub record TurnsTree (shape : Shape) (old_owners new_owners : List Kind) (old new : PageList) (place : TreePlace) (before after : Forest) : Type 0 where
  pub had : HasTree old place before
  pub was_used : (p : ℕ) → 0 < times p before → IsUsedPage shape old_owners p
  pub has : HasTree new place after
  pub used : (p : ℕ) → IsUsedPage shape new_owners p ↔ ((0 < times p after) ⊎ (IsUsedPage shape old_owners p × (times p before ≡ 0)))
  pub fresh : (p : ℕ) → 0 < times p after → times p before ≡ 0 → IsUsedPage shape old_owners p → ⊥
  pub others : KeepsIndexPages shape old_owners new_owners old new before
  pub blocks : KeepsBlocks old_owners new_owners

-- a tree has these pages more, each the lowest that could be claimed at its time, and all that it had
pub record ClaimsForTree (shape : Shape) (old_owners new_owners : List Kind) (before after : Forest) (claimed : List ℕ) : Type 0 where
  pub lowest : AreLowestClaims shape old_owners claimed
  pub owners : new_owners ≡ with_pages shape old_owners claimed
  pub pages : (p : ℕ) → times p after ≡ times p before + times_among p claimed

-- a tree has these pages less, which were given back, and no other
pub record ReturnsOfTree (shape : Shape) (old_owners new_owners : List Kind) (before after : Forest) (gone : List ℕ) : Type 0 where
  pub owners : new_owners ≡ without_pages shape old_owners gone
  pub pages : (p : ℕ) → times p after + times_among p gone ≡ times p before

-- what a change does to the extents and the trees
abbrev pub ChangesSpace : Shape → SpaceChange → List Kind → List Kind → PageList → PageList → Type 0
ChangesSpace shape (ClaimBlock t block) old_owners new_owners old new =
    IsLowestFree old_owners block × (new_owners ≡ with_block old_owners block t) × KeepsIndexPages shape old_owners new_owners old new Forest.Nil
ChangesSpace shape (GiveBlock t block) old_owners new_owners old new =
    (owner_of old_owners block ≡ kind.Block t) × (new_owners ≡ without_block old_owners block)
    × KeepsIndexPages shape old_owners new_owners old new Forest.Nil × (length new ≡ length old)
ChangesSpace shape (AddEntry place entry) old_owners new_owners old new =
    (before : Forest) × (after : Forest) × (claimed : List ℕ) × TurnsTree shape old_owners new_owners old new place before after
    × ClaimsForTree shape old_owners new_owners before after claimed × (leaf_entries after ≡ with_entry entry (leaf_entries before))
    × EachNode (KeepsLeaf place.width (nodes_in place.width (telling old)) before) after × GainsInLeaf entry (filled_leaves before) (filled_leaves after)
ChangesSpace shape (RemoveEntry place entry) old_owners new_owners old new =
    (before : Forest) × (after : Forest) × (gone : List ℕ) × TurnsTree shape old_owners new_owners old new place before after
    × ReturnsOfTree shape old_owners new_owners before after gone × (leaf_entries before ≡ with_entry entry (leaf_entries after))
    × LosesInLeaf entry (filled_leaves before) (filled_leaves after)
ChangesSpace shape (AmendEntry place was is) old_owners new_owners old new =
    (before : Forest) × (after : Forest) × (rest : List Entry) × TurnsTree shape old_owners new_owners old new place before after
    × (leaf_entries before ≡ with_entry was rest) × (leaf_entries after ≡ with_entry is rest)
    × KeepsLeafCounts before after × (new_owners ≡ old_owners)
ChangesSpace shape (MakeTree place) old_owners new_owners old new =
    HasTree new place (Forest.Leaf place.root [] Forest.Nil) × IsLowestClaimable shape old_owners place.root
    × (new_owners ≡ with_used_page shape old_owners place.root) × KeepsIndexPages shape old_owners new_owners old new Forest.Nil × KeepsBlocks old_owners new_owners

-- The pages that came are those up to the end of an extent that was free and no longer is.
pub record GrowsToExtent (shape : Shape) (old_owners new_owners : List Kind) (old new : PageList) : Type 0 where
  pub longer : length old < length new
  pub extent : ℕ
  pub was_free : owner_of old_owners extent ≡ kind.Free
  pub is_taken : owner_of new_owners extent ≢ kind.Free
  pub count : length new ≡ first_page_of shape.extents shape.extent_pages (extent + 1)

-- a change is made, and takes no more extents, index pages and pages of the file than it asks for
pub record MakesChange (shape : Shape) (old : PageList) (change : SpaceChange) (new : PageList) : Type 0 where
  pub old_owners : List Kind
  pub new_owners : List Kind
  pub old_map : HoldsMap told_pages shape old old_owners
  pub new_map : HoldsMap told_pages shape new new_owners
  pub blocks : ℕ
  pub asked : ℕ
  pub asks : AsksSpace shape old_owners old change blocks asked
  pub effect : ChangesSpace shape change old_owners new_owners old new
  pub few_extents : free_extents old_owners ≤ free_extents new_owners + (blocks + extents_for shape old_owners asked)
  pub few_pages : used_index_pages shape new_owners ≤ used_index_pages shape old_owners + asked
  pub grows : (length new ≡ length old) ⊎ GrowsToExtent shape old_owners new_owners old new

-- a change asks for more extents than are free
pub record AsksTooMuch (shape : Shape) (pages : PageList) (change : SpaceChange) : Type 0 where
  pub owners : List Kind
  pub has_map : HoldsMap told_pages shape pages owners
  pub blocks : ℕ
  pub asked : ℕ
  pub asks : AsksSpace shape owners pages change blocks asked
  pub short : free_extents owners < blocks + extents_for shape owners asked

-- A statement of these changes runs full: the first of them, one after the other, reach pages on which the next one asks for
-- more extents than are free.
pub record RunsFull (shape : Shape) (work : PageList) (changes : List SpaceChange) : Type 0 where
  pub done : List SpaceChange
  pub next : SpaceChange
  pub rest : List SpaceChange
  pub reached : PageList
  pub split : changes ≡ done ++ next ∷ rest
  pub goes : FoldsTo (MakesChange shape) work done reached
  pub short : AsksTooMuch shape reached next

-- ---- pages that differ in rows alone

-- The pages are the same as to space: the extents have the owners that they had, and each used index page stays. Row pages may
-- be others.
pub record IsSameSpace (shape : Shape) (old new : PageList) : Type 0 where
  pub owners : List Kind
  pub had : HoldsMap told_pages shape old owners
  pub has : HoldsMap told_pages shape new owners
  pub bytes : (p : ℕ) → IsUsedPage shape owners p → page_at new p ≡ page_at old p
  pub count : length new ≡ length old

-- these changes were made one after the other, and rows were written besides
pub record MakesChanges (shape : Shape) (old : PageList) (changes : List SpaceChange) (new : PageList) : Type 0 where
  pub reached : PageList
  pub goes : FoldsTo (MakesChange shape) old changes reached
  pub same : IsSameSpace shape reached new

-- each of these entries is added, one after the other
abbrev pub added_entries : List (TreePlace × Entry) → List SpaceChange
added_entries listings = map (λ listing. AddEntry listing.0 listing.1) listings

-- each of these entries is taken out, one after the other, which asks for no space
abbrev pub removed_entries : List (TreePlace × Entry) → List SpaceChange
removed_entries listings = map (λ listing. RemoveEntry listing.0 listing.1) listings
