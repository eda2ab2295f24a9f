-- Places of the entries of a leaf and of the separators of a node, on a page.
use Rattle.std.specs.Prelude.{◌≡◌, ◌<◌, ◌≤◌, ◌*◌, ℕ, List, length}
use Rattle.mdc_words.specs.ByteOrder.{Entry}
use Rattle.node_page.specs.Node.{node_of, stated_entries}
use Rattle.node_page.specs.Node.Node.{LeafNode, InnerNode}
use Rattle.node_page.specs.Looked.{fork_width}
use Rattle.entry_tree.specs.declared.amending.Slot.{Slot}
use Rattle.entry_tree.specs.declared.amending.Slot.TheVariants.{Nowhere, OfLeaf, OfInner}

-- the page isn't a leaf with such a place, and no node with one
pub record HasNoSlot (width : ℕ) (page : List ℕ) (at : ℕ) : Type 0 where
  pub leaf : (items : List Entry) → node_of width page ≡ LeafNode items → at < length items → ⊥
  pub inner : (seps : List Entry) (children : List ℕ) → node_of width page ≡ InnerNode seps children → at < length seps → ⊥

-- the page has the place by its head; if it is a node at all, it is a leaf
pub record HasLeafSlot (width : ℕ) (page : List ℕ) (at : ℕ) : Type 0 where
  pub place : at < stated_entries page
  pub fits : stated_entries page * width ≤ 4080
  pub no_inner : (seps : List Entry) (children : List ℕ) → node_of width page ≡ InnerNode seps children → ⊥

-- the same of an inner node
pub record HasInnerSlot (width : ℕ) (page : List ℕ) (at : ℕ) : Type 0 where
  pub place : at < stated_entries page
  pub fits : stated_entries page * fork_width width ≤ 4080
  pub no_leaf : (items : List Entry) → node_of width page ≡ LeafNode items → ⊥

-- what is at a place of a page: nothing, an entry of a leaf, or a separator of an inner node
abbrev pub IsSlot : ℕ → List ℕ → ℕ → Slot → Type 0
IsSlot width page at Nowhere = HasNoSlot width page at
IsSlot width page at OfLeaf = HasLeafSlot width page at
IsSlot width page at OfInner = HasInnerSlot width page at
