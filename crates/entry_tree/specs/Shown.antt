-- What a way down meets on told pages as a look at them shows them, whether or not they are a tree.
use Rattle.std.specs.Prelude.{◌≡◌, ◌⊎◌, ◌<◌, ◌≤◌, ◌+◌, ℕ, ◌↔◌, Bool, false, IsTrue, if◌then◌else◌, List, [], drop, length, Option, Some, None, slice_index_or as get_or}
use Rattle.mdc_words.specs.ByteOrder.{Entry}
use Rattle.node_page.specs.Entries.{EntriesRise, StandsAt, child_in, place_in}
use Rattle.node_page.specs.Looked.{looked, seen_node}
use Rattle.node_page.specs.Node.{Node, is_full}
use Rattle.node_page.specs.Node.Node.{LeafNode, InnerNode}
use Rattle.store_api.specs.StoreState.{page_at}
use Rattle.store_api.specs.declared.pages.Pages.{Ghosts}
use Rattle.store_api.specs.declared.shape.Shape.{Shape}
use Rattle.extent_map.specs.Map.{HoldsMap}
use Rattle.extent_map.specs.declared.kind.Kind.{Kind}
use Rattle.extent_map.specs.declared.space_notes.SpaceNotes.{SpaceNotes}
use Rattle.entry_tree.specs.EntryBounds.{Bound}
use Rattle.entry_tree.specs.Reading.{first_entry}
use Rattle.entry_tree.specs.Spots.{fence_behind}
use Rattle.entry_tree.specs.Standing.{MeetsFull}
use Rattle.entry_tree.specs.TreePlaces.{first_or}
use Rattle.entry_tree.specs.declared.sight.Sight.{Sight}
use Rattle.entry_tree.specs.declared.sight.Sight.TheVariants.{Nothing, AtLeaf, AtInner}
use Rattle.entry_tree.specs.declared.spot.Passed.{Passed}
use Rattle.entry_tree.specs.declared.spot.Passed.TheVariants.{NoNodeThere, LeafThere, ChildThere}
use Rattle.entry_tree.specs.declared.tree.Tree.{Tree}

-- a page shows this node: its head names the width and states no more entries than fit
abbrev pub Shows : ℕ → List ℕ → Node → Type 0
Shows width bytes node = looked width bytes ≡ Some (seen_node width node)

-- a page shows a leaf; where its entries rise, this is the place of x among them, and whether x is there
pub record ShowsLeaf (width : ℕ) (bytes : List ℕ) (x : Entry) (at : ℕ) (there : Bool) : Type 0 where
  pub items : List Entry
  pub shown : Shows width bytes (LeafNode items)
  pub within : at ≤ length items
  pub place : EntriesRise items → at ≡ place_in x items
  pub says : IsTrue there ↔ StandsAt x at items

-- a page shows an inner node; where its separators rise, this is the child below which x belongs
pub record ShowsChild (width : ℕ) (bytes : List ℕ) (x : Entry) (at child : ℕ) : Type 0 where
  pub seps : List Entry
  pub children : List ℕ
  pub shown : Shows width bytes (InnerNode seps children)
  pub within : at ≤ length seps
  pub place : EntriesRise seps → at ≡ child_in x seps
  pub child_is : child ≡ get_or children at 0

-- what a search for x has seen on a page: nothing where no node is shown
abbrev pub ShowsSight : ℕ → List ℕ → Entry → Sight → Type 0
ShowsSight width bytes x Nothing = looked width bytes ≡ None
ShowsSight width bytes x (AtLeaf at there full) = (l : ShowsLeaf width bytes x at there) × (full ≡ is_full width (LeafNode l.items))
ShowsSight width bytes x (AtInner at child full) = (c : ShowsChild width bytes x at child) × (full ≡ is_full width (InnerNode c.seps c.children))

-- the same of a way down, with the separator behind the child
abbrev pub ShowsPassed : ℕ → List ℕ → ℕ → Entry → Passed → Type 0
ShowsPassed width bytes page x NoNodeThere = looked width bytes ≡ None
ShowsPassed width bytes page x (LeafThere at there) = ShowsLeaf width bytes x at there
ShowsPassed width bytes page x (ChildThere at child low high) = (c : ShowsChild width bytes x at child) × (high ≡ fence_behind page c.seps at)

-- a page is there and shows this node
pub record IsShown (width : ℕ) (work : List (List ℕ)) (page : ℕ) (node : Node) : Type 0 where
  pub within : page < length work
  pub shown : Shows width (page_at work page) node

-- The way of x from a page down to a leaf: each page on it shows a node, of which the next one is the child below which x belongs.
-- `high` is the nearest separator behind what the way has passed, and `next` the nearest behind the leaf.
pub data LeadsTo (width : ℕ) (work : List (List ℕ)) (x : Entry) (leaf : ℕ) (items : List Entry) (next : Bound) : ℕ → Bound → Type 0 where
  ends : IsShown width work leaf (LeafNode items) → LeadsTo width work x leaf items next leaf next
  goes : {page : ℕ} {high : Bound} (seps : List Entry) (children : List ℕ) (at : ℕ) → IsShown width work page (InnerNode seps children) → at ≤ length seps → (EntriesRise seps → at ≡ child_in x seps)
      → LeadsTo width work x leaf items next (get_or children at 0) (first_or (drop at seps) high) → LeadsTo width work x leaf items next page high

-- The way of x from a root was gone down to its leaf: this is the place of x there, whether x is there, and the nearest separator
-- behind the leaf.
pub record SeesLeaf (width : ℕ) (work : List (List ℕ)) (root : ℕ) (x : Entry) (leaf at : ℕ) (there : Bool) (next : Bound) : Type 0 where
  pub items : List Entry
  pub way : LeadsTo width work x leaf items next root None
  pub within : at ≤ length items
  pub place : EntriesRise items → at ≡ place_in x items
  pub says : IsTrue there ↔ StandsAt x at items

-- How many pages an entry more asks for at the end of a way: one for each full node from its leaf upwards without a gap, and one
-- more where these reach the root. The nodes above the way ask for `run`.
abbrev pub asked_on : {width : ℕ} {work : List (List ℕ)} {x : Entry} {leaf : ℕ} {items : List Entry} {next : Bound} {page : ℕ} {high : Bound} → ℕ → LeadsTo width work x leaf items next page high → ℕ
asked_on {width = width} {items = items} run (ends is) = if is_full width (LeafNode items) then 1 + run else 0
asked_on {width = width} run (goes seps children at is within place rest) = asked_on (if is_full width (InnerNode seps children) then 1 + run else 0) rest

-- the way of x was gone down, and x asks for so many pages there
pub record SeesAsked (width : ℕ) (work : List (List ℕ)) (root : ℕ) (x : Entry) (leaf at : ℕ) (there : Bool) (asked : ℕ) : Type 0 where
  pub next : Bound
  pub seen : SeesLeaf width work root x leaf at there next
  pub asked_is : asked ≡ asked_on 1 seen.way

-- the same with any separator behind it
abbrev pub SeesPlace : ℕ → List (List ℕ) → ℕ → Entry → ℕ → ℕ → Bool → Type 0
SeesPlace width work root x leaf at there = (next : Bound) × SeesLeaf width work root x leaf at there next

-- a search for x went down to its leaf, and says whether x is there
pub record SeesWhether (width : ℕ) (work : List (List ℕ)) (root : ℕ) (x : Entry) (there : Bool) : Type 0 where
  pub leaf : ℕ
  pub at : ℕ
  pub place : SeesPlace width work root x leaf at there

-- the entries of the leaf of a bound, from its place on, and the nearest separator behind them
pub record ReadsLeaf (width : ℕ) (work : List (List ℕ)) (root : ℕ) (bound : Entry) (given : List Entry) (next : Bound) : Type 0 where
  pub leaf : ℕ
  pub at : ℕ
  pub there : Bool
  pub seen : SeesLeaf width work root bound leaf at there next
  pub given_is : given ≡ drop at seen.items

-- the leaf of a bound has no entry from it on, and that of the separator behind it gives these
pub record ReadsBehind (width : ℕ) (work : List (List ℕ)) (root : ℕ) (bound : Entry) (given : List Entry) (next : Bound) : Type 0 where
  pub middle : Entry
  pub first : ReadsLeaf width work root bound [] (Some middle)
  pub second : ReadsLeaf width work root middle given next
  pub some : given ≡ [] → ⊥

-- The leaf of a bound gives these entries, or the one behind it does. None are given only where no separator is behind.
abbrev pub ReadsFrom : ℕ → List (List ℕ) → ℕ → Entry → List Entry → Bound → Type 0
ReadsFrom width work root bound given next = (ReadsLeaf width work root bound given next × (given ≡ [] → next ≡ None)) ⊎ ReadsBehind width work root bound given next

-- The first leaf with an entry from a bound on, as far as looks show it: that of the bound, or the one behind it where that of the
-- bound has none.
pub record SeesBehind (width : ℕ) (work : List (List ℕ)) (root : ℕ) (bound : Entry) (leaf at : ℕ) (there : Bool) (next : Bound) : Type 0 where
  pub middle : Entry
  pub first : ReadsLeaf width work root bound [] (Some middle)
  pub second : SeesLeaf width work root middle leaf at there next

abbrev pub SeesFirst : ℕ → List (List ℕ) → ℕ → Entry → ℕ → ℕ → Bool → Bound → Type 0
SeesFirst width work root bound leaf at there next =
    ((s : SeesLeaf width work root bound leaf at there next) × (drop at s.items ≡ [] → next ≡ None)) ⊎ SeesBehind width work root bound leaf at there next

-- a sweep went down to that leaf
pub record SeesSwept (width : ℕ) (work : List (List ℕ)) (root : ℕ) (bound : Entry) (next : Bound) : Type 0 where
  pub leaf : ℕ
  pub at : ℕ
  pub there : Bool
  pub first : SeesFirst width work root bound leaf at there next

-- The addition of an entry went down to its leaf, where the entry isn't, and fewer pages could be claimed than it asks for there.
pub record SeesFull {S : Type 0} (g : Ghosts S) (shape : Shape) (before noted : SpaceNotes) (old new : S) (tree : Tree) (x : Entry) : Type 0 where
  pub wanted : ℕ
  pub leaf : ℕ
  pub at : ℕ
  pub asked : IsTrue (g.state old).is_told → SeesAsked tree.width (g.state old).work tree.root x leaf at false wanted
  pub meets : (owners : List Kind) → HoldsMap g shape old owners → MeetsFull g shape before noted old new owners wanted

-- the first of the entries that a read from a bound on gives
pub record ReadsFirst (width : ℕ) (work : List (List ℕ)) (root : ℕ) (bound : Entry) (first : Option Entry) : Type 0 where
  pub given : List Entry
  pub next : Bound
  pub reads : ReadsFrom width work root bound given next
  pub first_is : first ≡ first_entry given
