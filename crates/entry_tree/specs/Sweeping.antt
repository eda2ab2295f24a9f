-- A sweep of one leaf: the entries that name a block of a set leave it.
use Rattle.std.specs.Prelude.{◌≡◌, ◌≢◌, ◌+◌, ◌&&◌, ℕ, Bool, not, true, false, List, [], ◌∷◌, ◌++◌, drop, length, Option, Some, None}
use Rattle.std.specs.List.{filter}
use Rattle.mdc_words.specs.ByteOrder.{Entry, below}
use Rattle.node_page.specs.Entries.{count_named, names_block, without_blocks}
use Rattle.node_page.specs.Node.{Node}
use Rattle.node_page.specs.Node.Node.{LeafNode}
use Rattle.store_api.specs.declared.pages.Pages.{Ghosts}
use Rattle.store_api.specs.declared.shape.Shape.{Shape}
use Rattle.extent_map.specs.Owners.{AreRightNotes}
use Rattle.extent_map.specs.declared.kind.Kind.{Kind}
use Rattle.extent_map.specs.declared.space_notes.SpaceNotes.{SpaceNotes}
use Rattle.entry_tree.specs.EntryBounds.{Bound}
use Rattle.entry_tree.specs.Forest.{Forest, filled_leaf, filled_leaves, leaf_entries, times}
use Rattle.entry_tree.specs.Forest.Forest.{Leaf, Nil}
use Rattle.entry_tree.specs.HeldTrees.{nodes_in}
use Rattle.entry_tree.specs.LeafSpots.{IsParent}
use Rattle.entry_tree.specs.Pruning.{IsPruned, without_pages}
use Rattle.entry_tree.specs.Reading.{AreUnder, RestBegins, entries_from}
use Rattle.entry_tree.specs.Standing.{StandsTree}
use Rattle.entry_tree.specs.TreeChanges.{times_among}
use Rattle.entry_tree.specs.TreePlaces.{AreMatched, Frame, entries_before, entries_behind, leaves_before, leaves_behind, plug}
use Rattle.entry_tree.specs.declared.naming.Named.{Named}
use Rattle.entry_tree.specs.declared.tree.Tree.{Tree}

-- whether an entry lies below a bound, if there is one
abbrev pub lies_under : Bound → Entry → Bool
lies_under None y = true
lies_under (Some s) y = below y s

-- whether a sweep from a bound on takes an entry: it lies from there on and before the next bound, and names a block
abbrev pub is_swept : Entry → Bound → ℕ → List ℕ → Entry → Bool
is_swept bound next at blocks y = not (below y bound) && lies_under next y && names_block blocks at y

-- the entries that it leaves
abbrev pub unswept : Entry → Bound → ℕ → List ℕ → List Entry → List Entry
unswept bound next at blocks entries = filter (λ y. not (is_swept bound next at blocks y)) entries

-- The first leaf of t that holds an entry from a bound on; where no leaf holds one, it is the last. The next bound lies above
-- that bound and above each entry of the leaf, and at or below each entry behind it. There is one exactly where an entry lies
-- behind the leaf.
pub record IsFirstLeaf (t : Forest) (bound : Entry) (next : Bound) : Type 0 where
  pub above : List Frame
  pub page : ℕ
  pub items : List Entry
  pub whole : t ≡ plug above (Leaf page items Nil)
  pub matched : AreMatched above
  pub before : AreUnder (Some bound) (entries_before above)
  pub holds : AreUnder (Some bound) items → entries_behind above ≡ []
  pub begins : RestBegins (bound ∷ items) next (entries_behind above)

-- What a sweep of that leaf did. Exactly those entries are gone that lie from the bound on, before the next one, and name a
-- block; so many they were. All other leaves are as they were. The pages that the tree no longer has are given back.
pub record SweepsLeaf {S : Type 0} (g : Ghosts S) (shape : Shape) (before noted : SpaceNotes) (new : S) (tree : Tree) (owners : List Kind) (t : Forest) (bound : Entry) (at : ℕ) (blocks : List ℕ) (removed : ℕ) (next : Bound) : Type 0 where
  pub first : IsFirstLeaf t bound next
  pub gone : List ℕ
  pub after : Forest
  pub stands : StandsTree g shape new tree (without_pages shape owners gone) after
  pub leaves : leaf_entries after ≡ unswept bound next at blocks (leaf_entries t)
  pub fewer : length (leaf_entries after) + removed ≡ length (leaf_entries t)
  pub others : filled_leaves after ≡ leaves_before first.above ++ (filled_leaf (unswept bound next at blocks first.items) ++ leaves_behind first.above)
  pub pages : (n : ℕ) → times n after + times_among n gone ≡ times n t
  pub notes : AreRightNotes shape before owners → AreRightNotes shape noted (without_pages shape owners gone)

-- 1 where there is an entry, and else 0
abbrev pub one_if_any : List Entry → ℕ
one_if_any [] = 0
one_if_any (x ∷ items) = 1

-- how many leaves have an entry from a bound on
abbrev pub leaves_from : Entry → List (List Entry) → ℕ
leaves_from bound [] = 0
leaves_from bound (items ∷ leaves) = one_if_any (entries_from bound items) + leaves_from bound leaves

-- a leaf of t on a page, and the node just above it
pub record IsLeafSpot (nodes : ℕ → Node) (t : Forest) (page : ℕ) (parent : Option (ℕ × ℕ)) : Type 0 where
  pub above : List Frame
  pub items : List Entry
  pub whole : t ≡ plug above (Leaf page items Nil)
  pub matched : AreMatched above
  pub leaf : nodes page ≡ LeafNode items
  pub parent_is : IsParent above parent

-- the leaf that is swept, and the place in it from which on its entries lie from the bound on
pub record IsFirstSpot (nodes : ℕ → Node) (t : Forest) (bound : Entry) (page at : ℕ) (parent : Option (ℕ × ℕ)) (next : Bound) : Type 0 where
  pub spot : IsLeafSpot nodes t page parent
  pub since : entries_from bound (leaf_entries t) ≡ drop at spot.items ++ entries_behind spot.above
  pub some : drop at spot.items ≡ [] → entries_behind spot.above ≡ []
  pub begins : RestBegins (bound ∷ spot.items) next (entries_behind spot.above)

-- how many entries of a leaf from a place on name a block, of how many
abbrev pub named_of : List ℕ → ℕ → ℕ → List Entry → Named
named_of blocks at from items = record { going = count_named blocks at from items; of = length items }

-- the leaf at a place of t keeps these entries, or leaves the tree where it keeps none and isn't the root
pub record PrunesLeaf {S : Type 0} (g : Ghosts S) (shape : Shape) (before noted : SpaceNotes) (new : S) (tree : Tree) (owners : List Kind) (t : Forest) (above : List Frame) (kept : List Entry) : Type 0 where
  pub gone : List ℕ
  pub pruned : IsPruned (nodes_in tree.width (g.state new)) tree.root t above kept gone
  pub stands : StandsTree g shape new tree (without_pages shape owners gone) pruned.after
  pub notes : AreRightNotes shape before owners → AreRightNotes shape noted (without_pages shape owners gone)

-- whether a leaf keeps no entry once those from a place on are gone that name a block
abbrev pub IsEmptiedBy : List ℕ → ℕ → ℕ → List Entry → Bool → Type 0
IsEmptiedBy blocks at from items true = without_blocks blocks at from items ≡ []
IsEmptiedBy blocks at from items false = without_blocks blocks at from items ≢ []
