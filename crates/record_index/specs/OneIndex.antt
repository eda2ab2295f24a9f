-- What a call on one record index does to it, and what it leaves of all trees beside it.
use Rattle.std.specs.Prelude.{◌≡◌, ◌≤◌, ℕ, List, set, Some, slice_get}
use Rattle.mdc_words.specs.ByteOrder.{Entry}
use Rattle.store_api.specs.Frame.{NoPage}
use Rattle.store_api.specs.declared.fault.Damage.{Damage}
use Rattle.store_api.specs.declared.pages.Pages.{Ghosts}
use Rattle.store_api.specs.declared.shape.Shape.{Shape}
use Rattle.extent_map.specs.Map.{BringsZeros}
use Rattle.extent_map.specs.Owners.{owner_of}
use Rattle.extent_map.specs.declared.kind.Kind.{Kind}
use Rattle.extent_map.specs.declared.space_notes.SpaceNotes.{SpaceNotes}
use Rattle.entry_tree.specs.EntryBounds.{IsEntryOf}
use Rattle.entry_tree.specs.Forest.{Forest, leaf_entries, times}
use Rattle.entry_tree.specs.Pruning.{BreaksTreeOrReturn}
use Rattle.entry_tree.specs.HeldTrees.{nodes_in}
use Rattle.entry_tree.specs.Standing.{AsksPages, MeetsFull, with_pages}
use Rattle.entry_tree.specs.declared.tree.Tree.{Tree}
use Rattle.table_trees.specs.TableTrees.{TreePlace, place_of_tree}
use Rattle.table_trees.specs.TreesBeside.{ChangesTrees, StandTrees, table_of_block}
use Rattle.block_index.specs.IndexDamage.{BreaksEntering, BreaksLeaving}
use Rattle.block_index.specs.Listing.{GainsEntry, LosesEntry}

-- ---- one tree among others

-- the claim holds of whatever trees stand side by side, where that of this place is the i-th among them
abbrev pub AmongTrees : {S : Type 0} → Ghosts S → Shape → S → TreePlace → (List Kind → List TreePlace → List Forest → ℕ → Type 0) → Type 0
AmongTrees g shape s place Claim =
    (owners : List Kind) (places : List TreePlace) (trees : List Forest) (i : ℕ) → StandTrees g shape s owners places trees → slice_get places i ≡ Some place → Claim owners places trees i

-- The i-th of some trees became another, and all others are those that they were; they stand side by side, the blocks are the
-- same, used pages of no tree among them stay in use, and right notes are right afterwards.
pub record ChangesOneTree {S : Type 0} (g : Ghosts S) (shape : Shape) (before noted : SpaceNotes) (new : S) (Moves : Forest → Forest → Type 0) (owners : List Kind) (places : List TreePlace) (trees : List Forest) (i : ℕ) : Type 0 where
  pub owners_now : List Kind
  pub was : Forest
  pub is : Forest
  pub there : slice_get trees i ≡ Some was
  pub moves : Moves was is
  pub changes : ChangesTrees g shape before noted new places owners trees owners_now (set trees i is)

-- the tree has an entry that it didn't have, and no page left it
pub record GainsOneEntry (x : Entry) (was is : Forest) : Type 0 where
  pub gains : GainsEntry x was is
  pub pages : (p : ℕ) → times p was ≤ times p is

-- the tree no longer has an entry that it had, and no page came to it
pub record LosesOneEntry (x : Entry) (was is : Forest) : Type 0 where
  pub loses : LosesEntry x was is
  pub pages : (p : ℕ) → times p is ≤ times p was

-- ---- a full map

-- The i-th of some trees was to have an entry that it doesn't have, and fewer pages could be claimed than it asks for. All trees
-- are those that they were and stand side by side, the claimed pages are in use, the blocks are the same, and the pages that
-- came are zeros.
pub record FillsExtents {S : Type 0} (g : Ghosts S) (shape : Shape) (before noted : SpaceNotes) (old new : S) (place : TreePlace) (x : Entry) (owners : List Kind) (places : List TreePlace) (trees : List Forest) (i : ℕ) : Type 0 where
  pub was : Forest
  pub there : slice_get trees i ≡ Some was
  pub absent : IsEntryOf x (leaf_entries was) → ⊥
  pub wanted : ℕ
  pub asked : AsksPages place.width (nodes_in place.width (g.state old)) was x wanted
  pub meets : MeetsFull g shape before noted old new owners wanted
  pub stand : StandTrees g shape new (with_pages shape owners meets.claimed) places trees
  pub blocks : (e : ℕ) → table_of_block (owner_of (with_pages shape owners meets.claimed) e) ≡ table_of_block (owner_of owners e)
  pub zeros : BringsZeros g NoPage old new

-- ---- damage

-- P holds of a handle of the tree in a place
pub record OfTreeAt (place : TreePlace) (P : Tree → Type 0) : Type 0 where
  pub tree : Tree
  pub at : place_of_tree tree ≡ place
  pub is : P tree

-- what entering an entry in the index at a place may name
abbrev pub BreaksAddingRow : {S : Type 0} → Ghosts S → Shape → S → TreePlace → Entry → Damage → Type 0
BreaksAddingRow g shape s place x damage = OfTreeAt place (λ tree. BreaksEntering g 11 shape s tree x damage)

-- what taking an entry out of it may name
abbrev pub BreaksDroppingRow : {S : Type 0} → Ghosts S → Shape → S → TreePlace → Entry → Damage → Type 0
BreaksDroppingRow g shape s place x damage = OfTreeAt place (λ tree. BreaksLeaving g 11 shape s tree x damage)

-- what a step of a sweep of it may name: what a removal may
abbrev pub BreaksSweepingIndex : {S : Type 0} → Ghosts S → Shape → S → TreePlace → Damage → Type 0
BreaksSweepingIndex g shape s place damage = OfTreeAt place (λ tree. BreaksTreeOrReturn g shape s tree damage)
