-- Where an entry stands in a tree, for a removal.
use Rattle.std.specs.Prelude.{◌≡◌, ◌<◌, ℕ, ⊤, Bool, false, IsTrue, List, [], ◌∷◌, length, Option, Some, None, slice_index_or as get_or}
use Rattle.mdc_words.specs.ByteOrder.{Entry}
use Rattle.node_page.specs.Node.{Node}
use Rattle.node_page.specs.Node.Node.{LeafNode}
use Rattle.entry_tree.specs.EntryBounds.{IsEntryOf}
use Rattle.entry_tree.specs.Forest.{Forest, leaf_entries}
use Rattle.entry_tree.specs.Forest.Forest.{Leaf, Nil}
use Rattle.entry_tree.specs.TreePlaces.{AreMatched, Frame, frame_place, plug}

-- the node just above a place, and which of its children stands there, where there is one
abbrev pub IsParent : List Frame → Option (ℕ × ℕ) → Type 0
IsParent [] None = ⊤
IsParent [] (Some place) = ⊥
IsParent (f ∷ above) None = ⊥
IsParent (f ∷ above) (Some place) = frame_place f ≡ place

-- a leaf of t with an entry at a place, and the node just above it
pub record IsItemSpot (nodes : ℕ → Node) (t : Forest) (page at : ℕ) (parent : Option (ℕ × ℕ)) : Type 0 where
  pub above : List Frame
  pub items : List Entry
  pub whole : t ≡ plug above (Leaf page items Nil)
  pub matched : AreMatched above
  pub leaf : nodes page ≡ LeafNode items
  pub within : at < length items
  pub parent_is : IsParent above parent

-- such a leaf, where its entry is this one
pub record IsEntrySpot (nodes : ℕ → Node) (t : Forest) (x : Entry) (page at : ℕ) (parent : Option (ℕ × ℕ)) : Type 0 where
  pub spot : IsItemSpot nodes t page at parent
  pub item : get_or spot.items at [] ≡ x

-- what a search for an entry says: where it is, or that it isn't in the tree
pub record IsSeenSpot (nodes : ℕ → Node) (t : Forest) (x : Entry) (page at : ℕ) (there : Bool) (parent : Option (ℕ × ℕ)) : Type 0 where
  pub found : IsTrue there → IsEntrySpot nodes t x page at parent
  pub absent : there ≡ false → IsEntryOf x (leaf_entries t) → ⊥
