-- Changes of one place of a tree, and how an addition goes up from its leaf.
use Rattle.std.specs.Prelude.{◌≡◌, ◌≢◌, ◌<◌, ◌≤◌, ◌+◌, ◌/◌, ◌⊎◌, ⊤, ℕ, Bool, IsTrue, ◌↔◌, List, [], ◌∷◌, ◌++◌, length, take, drop, None}
use Rattle.mdc_words.specs.ByteOrder.{Entry}
use Rattle.node_page.specs.Node.{Node, leaf_room}
use Rattle.node_page.specs.Node.Node.{LeafNode, InnerNode, NoNode}
use Rattle.entry_tree.specs.EntryBounds.{Bound, AtLeast, Under, Rises, with_entry, IsEntryOf, IsLeafPlace}
use Rattle.entry_tree.specs.Forest.{Forest, filled_leaf, filled_leaves, heads, leaf_entries, once, times, EachNode, HoldsEntry, HoldsForest, Fits, NoPageTwice, IsTree}
use Rattle.entry_tree.specs.Forest.Forest.{Nil, Leaf, Fork}
use Rattle.entry_tree.specs.TreePlaces.{Frame, plug, low_of, high_of, AreMatched, places, IsAtPlace}

-- t becomes u at its place in the whole, between these bounds
pub record IsTreeChange (old new : ℕ → Node) (low high : Bound) (whole t u : Forest) : Type 0 where
  pub head : heads u ≡ heads t
  pub holds : HoldsForest new u
  pub fits : Fits low high [] u
  pub distinct : NoPageTwice u
  pub fresh : (n : ℕ) → 0 < times n u → times n t ≡ 0 → times n whole ≡ 0
  pub wrote : (n : ℕ) → times n t ≡ 0 → times n u ≡ 0 → new n ≡ old n

-- t becomes a row of trees at its place, with separators between them; the nodes above aren't written yet
pub record IsTreeRow (old new : ℕ → Node) (low high : Bound) (whole t : Forest) (seps : List Entry) (row : Forest) : Type 0 where
  pub fits : Fits low high seps row
  pub holds : HoldsForest new row
  pub distinct : NoPageTwice row
  pub fresh : (n : ℕ) → 0 < times n row → times n t ≡ 0 → times n whole ≡ 0
  pub wrote : (n : ℕ) → times n t ≡ 0 → times n row ≡ 0 → new n ≡ old n

-- A leaf of the new tree holds an entry. It is at least half full, or it was a leaf of the old tree with no more entries.
abbrev pub KeepsLeaf : ℕ → (ℕ → Node) → Forest → ℕ → Node → Type 0
KeepsLeaf width old t page (LeafNode items) =
    HoldsEntry page (LeafNode items)
    × ((leaf_room width / 2 ≤ length items) ⊎ ((were : List Entry) × (0 < times page t) × (old page ≡ LeafNode were) × (length were ≤ length items)))
KeepsLeaf width old t page (InnerNode seps children) = ⊤
KeepsLeaf width old t page NoNode = ⊤

-- the same nodes on the same pages, and each leaf has as many entries as it had
abbrev pub KeepsLeafCounts : Forest → Forest → Type 0
KeepsLeafCounts Nil Nil = ⊤
KeepsLeafCounts (Leaf page items next) (Leaf other others behind) = (page ≡ other) × (length items ≡ length others) × KeepsLeafCounts next behind
KeepsLeafCounts (Fork page seps kids next) (Fork other bounds children behind) = (page ≡ other) × KeepsLeafCounts kids children × KeepsLeafCounts next behind
KeepsLeafCounts t u = ⊥

-- Of leaves that hold an entry: one lost an entry, and is gone where it had no other. Each other has the entries that it had.
pub record LosesInLeaf (x : Entry) (before after : List (List Entry)) : Type 0 where
  pub front : List (List Entry)
  pub kept : List Entry
  pub back : List (List Entry)
  pub had : before ≡ front ++ (with_entry x kept ∷ back)
  pub has : after ≡ front ++ (filled_leaf kept ++ back)

-- a leaf with these entries is one still, or was cut in two
abbrev pub IsOneLeafOrTwo : List Entry → List (List Entry) → Type 0
IsOneLeafOrTwo more are = (are ≡ more ∷ []) ⊎ ((lower : List Entry) × (upper : List Entry) × (more ≡ lower ++ upper) × (are ≡ lower ∷ upper ∷ []))

-- Of leaves that hold an entry: one has an entry more, or comes to hold its first as a root, and is one still or was cut in two.
-- Each other has the entries that it had.
pub record GainsInLeaf (x : Entry) (before after : List (List Entry)) : Type 0 where
  pub front : List (List Entry)
  pub was : List Entry
  pub are : List (List Entry)
  pub back : List (List Entry)
  pub had : before ≡ front ++ (filled_leaf was ++ back)
  pub has : after ≡ front ++ (are ++ back)
  pub one_or_two : IsOneLeafOrTwo (with_entry x was) are

-- how often a page stands among those that were claimed
abbrev pub times_among : ℕ → List ℕ → ℕ
times_among n [] = 0
times_among n (p ∷ ps) = once n p + times_among n ps

-- a leaf at the head of a row is half full
abbrev pub IsHalfHead : ℕ → Forest → Type 0
IsHalfHead width Nil = ⊤
IsHalfHead width (Leaf page items next) = leaf_room width / 2 ≤ length items
IsHalfHead width (Fork page seps kids next) = ⊤

-- the way up, halfway: what stood at a place of t is now on two pages with s between them, and `stack` is above
pub record IsHalfway (width : ℕ) (old now : ℕ → Node) (t : Forest) (x : Entry) (stack : List (ℕ × ℕ)) (page : ℕ) (s : Entry) (other : ℕ) (claims : List ℕ) : Type 0 where
  pub above : List Frame
  pub spot : Forest
  pub row : Forest
  pub whole : t ≡ plug above spot
  pub matched : AreMatched above
  pub way : places above ≡ stack
  pub head : heads spot ≡ page ∷ []
  pub is_row : IsTreeRow old now (low_of None above) (high_of None above) t spot (s ∷ []) row
  pub heads_row : heads row ≡ page ∷ other ∷ []
  pub low : AtLeast (low_of None above) x
  pub high : Under (high_of None above) x
  pub adds : leaf_entries row ≡ with_entry x (leaf_entries spot)
  pub one_leaf : GainsInLeaf x (filled_leaves spot) (filled_leaves row)
  pub leaves : EachNode (KeepsLeaf width old t) row
  pub half : IsHalfHead width row
  pub claimed : (n : ℕ) → times n row ≡ times n spot + times_among n claims

-- the tree with an entry more, where pages that were in neither the tree nor the claimed ones are as they were
pub record IsAdded (width : ℕ) (old new : ℕ → Node) (root : ℕ) (t : Forest) (x : Entry) (claims : List ℕ) : Type 0 where
  pub after : Forest
  pub tree : IsTree new root after
  pub adds : leaf_entries after ≡ with_entry x (leaf_entries t)
  pub one_leaf : GainsInLeaf x (filled_leaves t) (filled_leaves after)
  pub leaves : EachNode (KeepsLeaf width old t) after
  pub pages : (n : ℕ) → times n after ≡ times n t + times_among n claims
  pub kept : (n : ℕ) → times n t ≡ 0 → times_among n claims ≡ 0 → new n ≡ old n

-- one page is written
pub record IsPut (old new : ℕ → Node) (page : ℕ) (node : Node) : Type 0 where
  pub there : new page ≡ node
  pub others : (n : ℕ) → n ≢ page → new n ≡ old n

-- a node with one more separator and child is cut in two, the second half on a new page
pub record IsInnerCut (old new : ℕ → Node) (page at : ℕ) (s : Entry) (b : ℕ) (seps : List Entry) (children : List ℕ) (c : ℕ) (m : Entry) : Type 0 where
  pub lows : List Entry
  pub highs : List Entry
  pub cut : take at seps ++ s ∷ drop at seps ≡ lows ++ m ∷ highs
  pub first : new page ≡ InnerNode lows (take (length lows + 1) (take (at + 1) children ++ b ∷ drop (at + 1) children))
  pub second : new c ≡ InnerNode highs (drop (length lows + 1) (take (at + 1) children ++ b ∷ drop (at + 1) children))
  pub others : (n : ℕ) → n ≢ page → n ≢ c → new n ≡ old n

-- a root moves to another page, and the node above both takes its place
pub record IsRaised (old new : ℕ → Node) (root : ℕ) (s : Entry) (b a : ℕ) : Type 0 where
  pub moved : new a ≡ old root
  pub top : new root ≡ InnerNode (s ∷ []) (a ∷ b ∷ [])
  pub others : (n : ℕ) → n ≢ root → n ≢ a → new n ≡ old n

-- the addition is halfway, with the first `used` of these pages
pub record IsGoingUp (width : ℕ) (old now : ℕ → Node) (t : Forest) (x : Entry) (stack : List (ℕ × ℕ)) (s : Entry) (other : ℕ) (fresh : List ℕ) (used : ℕ) : Type 0 where
  pub page : ℕ
  pub claims : List ℕ
  pub half : IsHalfway width old now t x stack page s other claims
  pub counts : (n : ℕ) → times_among n claims ≡ times_among n (take used fresh)

-- pages that are claimed once, and not in the tree
pub record AreFresh (t : Forest) (fresh : List ℕ) : Type 0 where
  pub once : (n : ℕ) → times_among n fresh ≤ 1
  pub apart : (n : ℕ) → 0 < times_among n fresh → times n t ≡ 0

-- a leaf with these entries, one more than before, is cut in two, the second half on a new page
pub record IsLeafCut (width : ℕ) (old new : ℕ → Node) (page : ℕ) (more : List Entry) (c : ℕ) (y : Entry) : Type 0 where
  pub head : Entry
  pub front : List Entry
  pub tail : List Entry
  pub cut : more ≡ (head ∷ front) ++ y ∷ tail
  pub first : new page ≡ LeafNode (head ∷ front)
  pub first_half : leaf_room width / 2 ≤ length (head ∷ front)
  pub second_half : leaf_room width / 2 ≤ length (y ∷ tail)
  pub second : new c ≡ LeafNode (y ∷ tail)
  pub others : (n : ℕ) → n ≢ page → n ≢ c → new n ≡ old n

-- the leaf of an entry, where it belongs there, and whether it is there
pub record IsLeafFound (nodes : ℕ → Node) (t : Forest) (x : Entry) (stack : List (ℕ × ℕ)) (page at : ℕ) (there : Bool) : Type 0 where
  pub place : IsAtPlace t x stack page
  pub items : List Entry
  pub leaf : nodes page ≡ LeafNode items
  pub rises : Rises None None items
  pub spot : IsLeafPlace items x at
  pub says : IsTrue there ↔ IsEntryOf x items
