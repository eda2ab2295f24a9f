-- Several trees side by side in the extents: at each place of a list stands one, each page of theirs is a used index page, and
-- no page is in two of them.
use Rattle.std.specs.Prelude.{◌≡◌, ◌⊎◌, ◌<◌, ◌≤◌, ℕ, List, sum_by, Option, Some, None}
use Rattle.std.specs.List.{AllZip}
use Rattle.store_api.specs.declared.fault.Damage.{Damage}
use Rattle.store_api.specs.declared.pages.Pages.{Ghosts}
use Rattle.store_api.specs.declared.shape.Shape.{Shape}
use Rattle.extent_map.specs.Map.{HoldsMap, IsMapPage, IsSpacePage, IsWholeCount, StatesGrowth}
use Rattle.extent_map.specs.Owners.{AreRightNotes, IsUsedPage, owner_of}
use Rattle.extent_map.specs.declared.kind.Kind.{Kind}
use Rattle.extent_map.specs.declared.kind.Kind.TheVariants.{Free, Block, Index}
use Rattle.extent_map.specs.declared.space_notes.SpaceNotes.{SpaceNotes}
use Rattle.entry_tree.specs.Forest.{Forest, times, IsTree, IsTrimTree}
use Rattle.entry_tree.specs.HeldTrees.{nodes_in}
use Rattle.entry_tree.specs.Standing.{IsIdlePage}
use Rattle.table_trees.specs.TableTrees.{TreePlace}

-- ---- trees that stand

-- the pages are told to hold this tree at a place, where each leaf but an empty root holds an entry
pub record HoldsTreeAt {S : Type 0} (g : Ghosts S) (s : S) (place : TreePlace) (t : Forest) : Type 0 where
  pub is_tree : IsTree (nodes_in place.width (g.state s)) place.root t
  pub trim : IsTrimTree t

-- the pages of the tree at a place, where it is told to have its form
abbrev pub IsTreePageAt : {S : Type 0} → Ghosts S → S → TreePlace → ℕ → Type 0
IsTreePageAt g s place p = (t : Forest) → HoldsTreeAt g s place t → 0 < times p t

-- the damage of the tree at a place names its root and rule 4, and never where it is told to have its form
pub record BreaksTreeAt {S : Type 0} (g : Ghosts S) (s : S) (place : TreePlace) (damage : Damage) : Type 0 where
  pub page : damage.page ≡ place.root
  pub rule : damage.rule ≡ 4
  pub broken : (t : Forest) → HoldsTreeAt g s place t → ⊥

-- the extent map is told, and at each of these places a tree; each page of theirs is a used index page, and in one of them alone
pub record StandTrees {S : Type 0} (g : Ghosts S) (shape : Shape) (s : S) (owners : List Kind) (places : List TreePlace) (trees : List Forest) : Type 0 where
  pub map : HoldsMap g shape s owners
  pub held : AllZip (HoldsTreeAt g s) places trees
  pub used : (p : ℕ) → 0 < sum_by (times p) trees → IsUsedPage shape owners p
  pub apart : (p : ℕ) → sum_by (times p) trees ≤ 1

-- the pages that calls on these trees may change: those of the trees, those of the extent map with page 0, and idle ones; where
-- the map and the trees were told to have their form
abbrev pub IsSpaceOfTrees : {S : Type 0} → Ghosts S → Shape → S → List TreePlace → ℕ → Type 0
IsSpaceOfTrees g shape s places p =
    (owners : List Kind) (trees : List Forest) → StandTrees g shape s owners places trees
    → 0 < sum_by (times p) trees ⊎ (IsSpacePage shape p ⊎ IsIdlePage shape owners p)

-- the pages that calls on these trees may change where they claim nothing: those of the trees and of the extent map; where both
-- were told to have their form
abbrev pub IsTreesOrMapPage : {S : Type 0} → Ghosts S → Shape → S → List TreePlace → ℕ → Type 0
IsTreesOrMapPage g shape s places p =
    (owners : List Kind) (trees : List Forest) → StandTrees g shape s owners places trees → 0 < sum_by (times p) trees ⊎ IsMapPage shape p

-- ---- what calls on them change

-- the table of a block
abbrev pub table_of_block : Kind → Option ℕ
table_of_block Free = None
table_of_block (Block table) = Some table
table_of_block (Index used) = None

-- The owners after claims and returns of index pages: the blocks are the same, a used page that isn't one of these forests is
-- still used, and a page that is used was so, or is one of the forests that there are now.
pub record KeepsOwners (shape : Shape) (owners : List Kind) (trees : List Forest) (owners_now : List Kind) (trees_now : List Forest) : Type 0 where
  pub blocks : (e : ℕ) → table_of_block (owner_of owners_now e) ≡ table_of_block (owner_of owners e)
  pub others : (p : ℕ) → IsUsedPage shape owners p → sum_by (times p) trees ≡ 0 → IsUsedPage shape owners_now p
  pub used : (p : ℕ) → IsUsedPage shape owners_now p → 0 < sum_by (times p) trees_now ⊎ (IsUsedPage shape owners p × (sum_by (times p) trees ≡ 0))

-- Calls on trees made these forests of those: they stand, and each page of theirs was one of the trees or idle. The blocks and
-- the pages of all other trees are as they were.
pub record ChangesTrees {S : Type 0} (g : Ghosts S) (shape : Shape) (before noted : SpaceNotes) (new : S) (places : List TreePlace)
    (owners : List Kind) (trees : List Forest) (owners_now : List Kind) (trees_now : List Forest) : Type 0 where
  pub stand : StandTrees g shape new owners_now places trees_now
  pub pages : (p : ℕ) → 0 < sum_by (times p) trees_now → 0 < sum_by (times p) trees ⊎ IsIdlePage shape owners p
  pub kept : KeepsOwners shape owners trees owners_now trees_now
  pub notes : AreRightNotes shape before owners → AreRightNotes shape noted owners_now

-- ---- what becomes of the page count

-- The page count after calls that may claim pages: page 0 states it where pages came, and else is as it was; and where there
-- were as many pages as some number of whole extents make, there still are.
pub record GrowsPages {S : Type 0} (g : Ghosts S) (shape : Shape) (old new : S) : Type 0 where
  pub stated : StatesGrowth g old new
  pub whole : IsWholeCount g shape old → IsWholeCount g shape new
