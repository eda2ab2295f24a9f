-- Trees in pages. A forest is a row of trees, by first child and next sibling: the children of one node. A tree is a forest
-- of one. How deep its branches are isn't said, so they may be of uneven depth.
use Rattle.std.specs.Prelude.{◌≡◌, ◌<◌, ◌≤◌, ◌+◌, ◌==◌, ℕ, List, [], ◌∷◌, ◌++◌, Some, None, ⊤, if◌then◌else◌}
use Rattle.mdc_words.specs.ByteOrder.{Entry}
use Rattle.node_page.specs.Node.{Node}
use Rattle.node_page.specs.Node.Node.{LeafNode, InnerNode, NoNode}
use Rattle.entry_tree.specs.EntryBounds.{Bound, Room, Rises}

-- A row of trees: no tree, a leaf with its page and entries, or a node with its page, separators and children; and behind
-- it the trees that are next in the row.
pub data Forest : Type 0 where
  Nil : Forest
  Leaf : (page : ℕ) (items : List Entry) (next : Forest) → Forest
  Fork : (page : ℕ) (seps : List Entry) (kids next : Forest) → Forest

-- one row behind another
abbrev pub ◌&◌ : Forest → Forest → Forest
Nil & g = g
Leaf page items next & g = Leaf page items (next & g)
Fork page seps kids next & g = Fork page seps kids (next & g)

infixr 5 ◌&◌
-- the pages of the trees of a row
abbrev pub heads : Forest → List ℕ
heads Nil = []
heads (Leaf page items next) = page ∷ heads next
heads (Fork page seps kids next) = page ∷ heads next

-- the entries of its leaves, in order
abbrev pub leaf_entries : Forest → List Entry
leaf_entries Nil = []
leaf_entries (Leaf page items next) = items ++ leaf_entries next
leaf_entries (Fork page seps kids next) = leaf_entries kids ++ leaf_entries next

-- a leaf with these entries, and none where there are none
abbrev pub filled_leaf : List Entry → List (List Entry)
filled_leaf [] = []
filled_leaf (x ∷ items) = (x ∷ items) ∷ []

-- its leaves that hold an entry, in order, each by its entries
abbrev pub filled_leaves : Forest → List (List Entry)
filled_leaves Nil = []
filled_leaves (Leaf page items next) = filled_leaf items ++ filled_leaves next
filled_leaves (Fork page seps kids next) = filled_leaves kids ++ filled_leaves next

-- 1 for the same page, and else 0
abbrev pub once : ℕ → ℕ → ℕ
once n page = if n == page then 1 else 0

-- how often a page stands in it
abbrev pub times : ℕ → Forest → ℕ
times n Nil = 0
times n (Leaf page items next) = once n page + times n next
times n (Fork page seps kids next) = once n page + (times n kids + times n next)

-- P holds of each page with the node that it is
abbrev pub EachNode : (ℕ → Node → Type 0) → Forest → Type 0
EachNode P Nil = ⊤
EachNode P (Leaf page items next) = P page (LeafNode items) × EachNode P next
EachNode P (Fork page seps kids next) = P page (InnerNode seps (heads kids)) × EachNode P kids × EachNode P next

-- a page is this node
abbrev pub HasNode : (ℕ → Node) → ℕ → Node → Type 0
HasNode nodes page node = nodes page ≡ node

-- each of its pages is the node that it says
abbrev pub HoldsForest : (ℕ → Node) → Forest → Type 0
HoldsForest nodes = EachNode (HasNode nodes)

-- The trees lie between the bounds, with a separator between each and the next: entries of a leaf rise, entries before a
-- separator lie below it, and those behind it at or above it.
abbrev pub Fits : Bound → Bound → List Entry → Forest → Type 0
Fits low high seps Nil = ⊥
Fits low high [] (Leaf page items next) = Room low high × Rises low high items × (next ≡ Nil)
Fits low high (s ∷ seps) (Leaf page items next) = Room low (Some s) × Rises low (Some s) items × Fits (Some s) high seps next
Fits low high [] (Fork page inner kids next) = Room low high × Fits low high inner kids × (next ≡ Nil)
Fits low high (s ∷ seps) (Fork page inner kids next) = Room low (Some s) × Fits low (Some s) inner kids × Fits (Some s) high seps next

-- no page stands in it twice
abbrev pub NoPageTwice : Forest → Type 0
NoPageTwice t = (n : ℕ) → times n t ≤ 1

-- the pages hold this tree from this root
pub record IsTree (nodes : ℕ → Node) (root : ℕ) (t : Forest) : Type 0 where
  pub head : heads t ≡ root ∷ []
  pub holds : HoldsForest nodes t
  pub fits : Fits None None [] t
  pub distinct : NoPageTwice t

-- a page lies below a number of pages
abbrev pub IsPageBelow : ℕ → ℕ → Node → Type 0
IsPageBelow count page node = page < count

-- a node that isn't an empty leaf
abbrev pub HoldsEntry : ℕ → Node → Type 0
HoldsEntry page (LeafNode []) = ⊥
HoldsEntry page (LeafNode (item ∷ items)) = ⊤
HoldsEntry page (InnerNode seps children) = ⊤
HoldsEntry page NoNode = ⊤

-- each leaf of a tree but an empty root holds an entry
abbrev pub IsTrimTree : Forest → Type 0
IsTrimTree Nil = ⊥
IsTrimTree (Leaf page items next) = ⊤
IsTrimTree (Fork page seps kids next) = EachNode HoldsEntry kids
