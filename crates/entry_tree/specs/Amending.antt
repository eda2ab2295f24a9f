-- What replacing an entry by another one does.
use Rattle.std.specs.Prelude.{◌≡◌, ◌<◌, ◌⊎◌, ℕ, ⊤, Bool, true, false, List, length, take, slice_set, Option, Some, None}
use Rattle.mdc_words.specs.ByteOrder.{Entry, below}
use Rattle.node_page.specs.Node.Node.{LeafNode, InnerNode}
use Rattle.store_api.specs.declared.fault.Damage.{Damage}
use Rattle.store_api.specs.declared.pages.Pages.{Ghosts}
use Rattle.entry_tree.specs.EntryBounds.{AtLeast, Under, IsEntryOf, with_entry}
use Rattle.entry_tree.specs.Forest.{Forest, leaf_entries, times}
use Rattle.entry_tree.specs.HeldTrees.{nodes_in, HoldsTree}
use Rattle.entry_tree.specs.Reading.{entries_from, IsFirstFrom}
use Rattle.entry_tree.specs.Spots.{fence_bound}
use Rattle.entry_tree.specs.TreeChanges.{KeepsLeafCounts}
use Rattle.entry_tree.specs.declared.spot.Fence.{Fence}
use Rattle.entry_tree.specs.declared.tree.Tree.{Tree}

-- no other entry of the list has the first four bytes of x
abbrev pub HasOwnFront : Entry → List Entry → Type 0
HasOwnFront x xs = (y : Entry) → IsEntryOf y xs → take 4 y ≡ take 4 x → y ≡ x

-- the tree with y in the place of x, on the same pages, and each leaf with as many entries as it had
pub record AmendsEntry {S : Type 0} (g : Ghosts S) (new : S) (tree : Tree) (x y : Entry) (t : Forest) : Type 0 where
  pub after : Forest
  pub rest : List Entry
  pub held : HoldsTree g new tree after
  pub was : leaf_entries t ≡ with_entry x rest
  pub is : leaf_entries after ≡ with_entry y rest
  pub pages : (p : ℕ) → times p after ≡ times p t
  pub leaves : KeepsLeafCounts t after

-- x was there, and it was done where no other entry has the first four bytes of x; or x wasn't there, and the work stays
abbrev pub IsAmended : {S : Type 0} → Ghosts S → S → S → Tree → Entry → Entry → Forest → Bool → Type 0
IsAmended g old new tree x y t true = IsEntryOf x (leaf_entries t) × (HasOwnFront x (leaf_entries t) → AmendsEntry g new tree x y t)
IsAmended g old new tree x y t false = ((g.state new).work ≡ (g.state old).work) × (IsEntryOf x (leaf_entries t) → ⊥)

-- an entry is there from a separator on, if there is a separator
abbrev pub HasBehind : List Entry → Option Fence → Type 0
HasBehind all None = ⊤
HasBehind all (Some fence) = 0 < length (entries_from fence.bound all)

-- whether x lies below a separator, if there is one
abbrev pub lies_below : Entry → Option Fence → Bool
lies_below x None = false
lies_below x (Some fence) = below x fence.bound

-- the separator, if there is one, with another bound
abbrev pub moved_to : Option Fence → Entry → Option Fence
moved_to None x = None
moved_to (Some fence) x = Some (record { page = fence.page; at = fence.at; bound = x })

-- Which separator has to be moved, and to where, so that x has room between the nearest ones: the low one to x itself, or
-- the high one to the lowest entry behind it.
pub record MovesLow (low : Option Fence) (x : Entry) (moved : Fence) : Type 0 where
  pub fence : Fence
  pub there : low ≡ Some fence
  pub moved_is : moved ≡ record { page = fence.page; at = fence.at; bound = x }
  pub over : below x fence.bound ≡ true

-- the other of the two: the high separator goes up to the lowest entry behind it, since x is not below it
pub record MovesHigh {S : Type 0} (g : Ghosts S) (s : S) (tree : Tree) (low high : Option Fence) (x : Entry) (moved : Fence) : Type 0 where
  pub fence : Fence
  pub there : high ≡ Some fence
  pub page_is : moved.page ≡ fence.page
  pub at_is : moved.at ≡ fence.at
  pub least : AtLeast (fence_bound low) x
  pub over : below x fence.bound ≡ false
  pub first : (t : Forest) → HoldsTree g s tree t → IsFirstFrom (leaf_entries t) fence.bound moved.bound

-- no separator has to be moved, since x lies between the nearest two, or the one that has to be is this
abbrev pub MakesRoom : {S : Type 0} → Ghosts S → S → Tree → Option Fence → Option Fence → Entry → Option Fence → Type 0
MakesRoom g s tree low high x None = AtLeast (fence_bound low) x × Under (fence_bound high) x
MakesRoom g s tree low high x (Some moved) = MovesLow low x moved ⊎ MovesHigh g s tree low high x moved

-- a node of the page has another entry or separator at a place
pub record SetsAt {S : Type 0} (g : Ghosts S) (old new : S) (width page at : ℕ) (x : Entry) : Type 0 where
  pub leaf : (items : List Entry) → nodes_in width (g.state old) page ≡ LeafNode items → nodes_in width (g.state new) page ≡ LeafNode (slice_set items at x)
  pub inner : (seps : List Entry) (children : List ℕ) → nodes_in width (g.state old) page ≡ InnerNode seps children
      → nodes_in width (g.state new) page ≡ InnerNode (slice_set seps at x) children

-- the page has no entry or separator at that place
pub record BreaksSlot {S : Type 0} (g : Ghosts S) (s : S) (tree : Tree) (page at : ℕ) (damage : Damage) : Type 0 where
  pub page_is : damage.page ≡ tree.root
  pub rule : damage.rule ≡ 4
  pub leaf : (items : List Entry) → nodes_in tree.width (g.state s) page ≡ LeafNode items → at < length items → ⊥
  pub inner : (seps : List Entry) (children : List ℕ) → nodes_in tree.width (g.state s) page ≡ InnerNode seps children → at < length seps → ⊥

-- the separator that has to be moved, if any, is moved
abbrev pub SetsMoved : {S : Type 0} → Ghosts S → S → S → ℕ → Option Fence → Type 0
SetsMoved g old new width None = (g.state new).work ≡ (g.state old).work
SetsMoved g old new width (Some moved) = SetsAt g old new width moved.page moved.at moved.bound

-- p is the page of the separator that has to be moved, if one has to
abbrev pub IsMovedPage : Option Fence → ℕ → Type 0
IsMovedPage None p = ⊥
IsMovedPage (Some moved) p = p ≡ moved.page

-- the separator that has to be moved is at no place of its page
abbrev pub BreaksMoved : {S : Type 0} → Ghosts S → S → Tree → Option Fence → Damage → Type 0
BreaksMoved g s tree None damage = ⊥
BreaksMoved g s tree (Some moved) damage = BreaksSlot g s tree moved.page moved.at damage
