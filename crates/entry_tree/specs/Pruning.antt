-- A leaf of a tree that keeps some of its entries, and what becomes of the tree where it keeps none.
use Rattle.std.specs.Prelude.{◌≡◌, ◌≢◌, ◌⊎◌, ◌<◌, ◌≤◌, ◌+◌, ◌-◌, ℕ, ⊤, List, [], ◌∷◌, ◌++◌, length, Option, Some, None, slice_index_or as get_or}
use Rattle.mdc_words.specs.ByteOrder.{Entry}
use Rattle.node_page.specs.Node.{Node}
use Rattle.node_page.specs.Node.Node.{LeafNode, InnerNode, NoNode}
use Rattle.store_api.specs.declared.fault.Damage.{Damage}
use Rattle.store_api.specs.declared.pages.Pages.{Ghosts}
use Rattle.store_api.specs.declared.shape.Shape.{Shape}
use Rattle.extent_map.specs.Damages.{BreaksUsedPage}
use Rattle.extent_map.specs.Map.{HoldsMap, IsMapPage}
use Rattle.extent_map.specs.Owners.{AreRightNotes, IsUsedPage, without_page}
use Rattle.extent_map.specs.declared.kind.Kind.{Kind}
use Rattle.extent_map.specs.declared.space_notes.SpaceNotes.{SpaceNotes}
use Rattle.entry_tree.specs.EntryBounds.{IsEntryOf, with_entry}
use Rattle.entry_tree.specs.Forest.{Forest, filled_leaf, filled_leaves, leaf_entries, times, IsTree, IsTrimTree}
use Rattle.entry_tree.specs.Forest.Forest.{Leaf, Nil}
use Rattle.entry_tree.specs.HeldTrees.{nodes_in, BreaksTree}
use Rattle.entry_tree.specs.Standing.{StandsTree}
use Rattle.entry_tree.specs.TreePlaces.{AreMatched, Frame, entries_before, entries_behind, leaves_before, leaves_behind, plug}
use Rattle.entry_tree.specs.TreeChanges.{LosesInLeaf, times_among}
use Rattle.entry_tree.specs.Writing.{BreaksWhere}
use Rattle.entry_tree.specs.declared.tree.Tree.{Tree}

-- The leaf at a place of t, below these nodes, has these entries now, and all other leaves have those that they had. Each page of t is in the tree afterwards or is gone from
-- it, and none is in it that wasn't.
pub record IsPruned (new : ℕ → Node) (root : ℕ) (t : Forest) (above : List Frame) (kept : List Entry) (gone : List ℕ) : Type 0 where
  pub after : Forest
  pub tree : IsTree new root after
  pub trim : IsTrimTree after
  pub entries : leaf_entries after ≡ entries_before above ++ (kept ++ entries_behind above)
  pub leaves : filled_leaves after ≡ leaves_before above ++ (filled_leaf kept ++ leaves_behind above)
  pub counts : (n : ℕ) → times n after + times_among n gone ≡ times n t

-- a leaf with an entry at a place
pub record HasLeafEntry (node : Node) (at : ℕ) : Type 0 where
  pub items : List Entry
  pub leaf : node ≡ LeafNode items
  pub within : at < length items

-- an inner node with more than so many separators, and a child at a place
pub record IsInnerFrom (node : Node) (at least : ℕ) : Type 0 where
  pub seps : List Entry
  pub children : List ℕ
  pub inner : node ≡ InnerNode seps children
  pub within : at ≤ length seps
  pub some : least < length seps

-- what a node has besides the child at a place: more separators than one, or one other child
abbrev pub HasBeside : Node → ℕ → Option ℕ → Type 0
HasBeside (LeafNode items) at other = ⊤
HasBeside (InnerNode seps children) at None = 1 < length seps
HasBeside (InnerNode seps children) at (Some other) = (length seps ≡ 1) × (other ≡ get_or children (1 - at) 0)
HasBeside NoNode at other = ⊤

-- a node at all
abbrev pub IsSomeNode : Node → Type 0
IsSomeNode node = node ≢ NoNode

-- the one other child of a node, which has one separator
abbrev pub IsOtherChild : Node → ℕ → ℕ → Type 0
IsOtherChild node at p = (seps : List Entry) (children : List ℕ) → node ≡ InnerNode seps children → (length seps ≡ 1) × (p ≡ get_or children (1 - at) 0)

-- the owners, with these pages given back one after the other
abbrev pub without_pages : Shape → List Kind → List ℕ → List Kind
without_pages shape owners [] = owners
without_pages shape owners (p ∷ gone) = without_pages shape (without_page shape owners p) gone

-- A leaf of t, a child of the node just above it, which holds no entry that is to stay. What its page is now isn't said.
pub record IsEmptied (was now : ℕ → Node) (root : ℕ) (t : Forest) (frame : Frame) (above : List Frame) (leaf page at : ℕ) : Type 0 where
  pub items : List Entry
  pub whole : t ≡ plug (frame ∷ above) (Leaf leaf items Nil)
  pub matched : AreMatched (frame ∷ above)
  pub is_tree : IsTree was root t
  pub trim : IsTrimTree t
  pub page_is : frame.page ≡ page
  pub at_is : length frame.lows ≡ at
  pub same : (n : ℕ) → n ≢ leaf → now n ≡ was n

-- the tree without that leaf, and without the one other page that a node over it alone had; the map without their pages
pub record DropsLeaf {S : Type 0} (g : Ghosts S) (shape : Shape) (before noted : SpaceNotes) (new : S) (tree : Tree) (owners : List Kind) (t : Forest) (above : List Frame) : Type 0 where
  pub gone : List ℕ
  pub pruned : IsPruned (nodes_in tree.width (g.state new)) tree.root t above [] gone
  pub map : HoldsMap g shape new (without_pages shape owners gone)
  pub notes : AreRightNotes shape before owners → AreRightNotes shape noted (without_pages shape owners gone)

-- the pages that a leaf's going writes: the node above it, and those of the map
abbrev pub IsDropPage : Shape → ℕ → ℕ → Type 0
IsDropPage shape page p = (p ≡ page) ⊎ IsMapPage shape p

-- and those that it looks at
abbrev pub IsDropLook : Shape → Node → ℕ → ℕ → ℕ → Type 0
IsDropLook shape node page at p = IsDropPage shape page p ⊎ IsOtherChild node at p

-- The extent map broke a rule at the return of a page, or that page isn't a used one. Whatever owners were told before to meet a
-- fact, the map is told there with that page in use; so where they were told none is named.
pub record BreaksAtReturn {S : Type 0} (g : Ghosts S) (shape : Shape) (Told : List Kind → Type 0) (damage : Damage) : Type 0 where
  pub mid : S
  pub page : ℕ
  pub map : (owners : List Kind) → Told owners → (more : List Kind) × HoldsMap g shape mid more × IsUsedPage shape more page
  pub breaks : BreaksUsedPage g shape mid page damage

-- the leaf may leave its tree: map and tree are told, and each page of the tree is in use
pub record IsDropping {S : Type 0} (g : Ghosts S) (shape : Shape) (s : S) (tree : Tree) (owners : List Kind) (was : ℕ → Node) (t : Forest) (frame : Frame) (above : List Frame) (leaf page at : ℕ) : Type 0 where
  pub emptied : IsEmptied was (nodes_in tree.width (g.state s)) tree.root t frame above leaf page at
  pub map : HoldsMap g shape s owners
  pub used : (p : ℕ) → 0 < times p t → IsUsedPage shape owners p

-- the same of some tree that had its form
abbrev pub IsDroppable : {S : Type 0} → Ghosts S → Shape → S → Tree → ℕ → ℕ → ℕ → List Kind → Type 0
IsDroppable g shape s tree leaf page at owners = (was : ℕ → Node) × (t : Forest) × (frame : Frame) × (above : List Frame) × IsDropping g shape s tree owners was t frame above leaf page at

-- the leaf is one of a tree that had its form, and holds no entry that is to stay
abbrev pub IsDroppableLeaf : {S : Type 0} → Ghosts S → S → Tree → ℕ → ℕ → ℕ → Type 0
IsDroppableLeaf g s tree leaf page at =
    (was : ℕ → Node) × (t : Forest) × (frame : Frame) × (above : List Frame) × IsEmptied was (nodes_in tree.width (g.state s)) tree.root t frame above leaf page at

-- damage that is met while a leaf leaves its tree: the leaf is none of it, or a page that it gives back is not in use
abbrev pub BreaksDrop : {S : Type 0} → Ghosts S → Shape → S → Tree → ℕ → ℕ → ℕ → Damage → Type 0
BreaksDrop g shape s tree leaf page at damage =
    BreaksWhere tree (IsDroppableLeaf g s tree leaf page at) damage
    ⊎ BreaksAtReturn g shape (IsDroppable g shape s tree leaf page at) damage

-- what a removal did: the entry is gone, and the pages that the tree no longer has are given back
pub record RemovesEntry {S : Type 0} (g : Ghosts S) (shape : Shape) (before noted : SpaceNotes) (new : S) (tree : Tree) (x : Entry) (owners : List Kind) (t : Forest) : Type 0 where
  pub gone : List ℕ
  pub after : Forest
  pub stands : StandsTree g shape new tree (without_pages shape owners gone) after
  pub takes : leaf_entries t ≡ with_entry x (leaf_entries after)
  pub one_leaf : LosesInLeaf x (filled_leaves t) (filled_leaves after)
  pub absent : IsEntryOf x (leaf_entries after) → ⊥
  pub pages : (n : ℕ) → times n after + times_among n gone ≡ times n t
  pub notes : AreRightNotes shape before owners → AreRightNotes shape noted (without_pages shape owners gone)

-- the same of the entry that stood at a place of a leaf
abbrev pub RemovesItem : {S : Type 0} → Ghosts S → Shape → SpaceNotes → SpaceNotes → S → S → Tree → List Kind → Forest → ℕ → ℕ → Type 0
RemovesItem g shape before noted old new tree owners t page at =
    (items : List Entry) → nodes_in tree.width (g.state old) page ≡ LeafNode items → RemovesEntry g shape before noted new tree (get_or items at []) owners t

-- the pages that a removal may change: those of the tree and of the extent map, where both were told to have their form
abbrev pub IsTreeOrMapPage : {S : Type 0} → Ghosts S → Shape → S → Tree → ℕ → Type 0
IsTreeOrMapPage g shape s tree p = (owners : List Kind) (t : Forest) → StandsTree g shape s tree owners t → 0 < times p t ⊎ IsMapPage shape p

-- what a removal may name: the tree where it hasn't its form, or what broke a rule at a return
abbrev pub BreaksTreeOrReturn : {S : Type 0} → Ghosts S → Shape → S → Tree → Damage → Type 0
BreaksTreeOrReturn g shape s tree damage =
    BreaksTree g s tree damage ⊎ BreaksAtReturn g shape (λ owners. (t : Forest) × StandsTree g shape s tree owners t) damage
