-- The pages that an addition writes, and where it stands between two of them.
use Rattle.std.specs.Prelude.{◌≡◌, ◌⊎◌, ◌≤◌, ◌+◌, ◌/◌, ℕ, Bool, false, List, [], ◌∷◌, ◌++◌, take, drop, length}
use Rattle.mdc_words.specs.ByteOrder.{Entry}
use Rattle.node_page.specs.Node.{Node, is_full, leaf_room}
use Rattle.node_page.specs.Node.Node.{LeafNode, InnerNode}
use Rattle.store_api.specs.declared.fault.Damage.{Damage}
use Rattle.entry_tree.specs.Forest.{Forest, IsTree, IsTrimTree}
use Rattle.entry_tree.specs.TreePlaces.{run_up, pages_asked}
use Rattle.entry_tree.specs.TreeChanges.{AreFresh, IsGoingUp, IsLeafFound}
use Rattle.entry_tree.specs.Standing.{IsClaimed}
use Rattle.entry_tree.specs.declared.tree.Tree.{Tree}

-- the page is one of a path
abbrev pub IsPathPage : ℕ → List (ℕ × ℕ) → Type 0
IsPathPage p [] = ⊥
IsPathPage p (q ∷ path) = (p ≡ q.0) ⊎ IsPathPage p path

-- one of two pages
abbrev pub EitherPage : ℕ → ℕ → ℕ → Type 0
EitherPage a b p = (p ≡ a) ⊎ (p ≡ b)

-- the pages that the way up writes: the root, the nodes above, and those that were claimed
abbrev pub IsWrittenPage : ℕ → List (ℕ × ℕ) → List ℕ → ℕ → Type 0
IsWrittenPage root path claimed p = (p ≡ root) ⊎ (IsPathPage p path ⊎ IsClaimed p claimed)

-- the same, and the leaf
abbrev pub IsCutPage : ℕ → ℕ → List (ℕ × ℕ) → List ℕ → ℕ → Type 0
IsCutPage page root path claimed p = (p ≡ page) ⊎ IsWrittenPage root path claimed p

-- a fault that names the tree, where something wasn't so
pub record BreaksWhere (tree : Tree) (Expected : Type 0) (damage : Damage) : Type 0 where
  pub page : damage.page ≡ tree.root
  pub rule : damage.rule ≡ 4
  pub not_so : Expected → ⊥

-- a leaf with so many entries before a place, and full or not
pub record IsLeafWith (width : ℕ) (node : Node) (at : ℕ) (full : Bool) : Type 0 where
  pub items : List Entry
  pub leaf : node ≡ LeafNode items
  pub within : at ≤ length items
  pub room : is_full width node ≡ full

-- an inner node with so many separators before a place, and full or not
pub record IsInnerWith (width : ℕ) (node : Node) (at : ℕ) (full : Bool) : Type 0 where
  pub seps : List Entry
  pub children : List ℕ
  pub inner : node ≡ InnerNode seps children
  pub within : at ≤ length seps
  pub room : is_full width node ≡ full

-- an addition is on its way up, and as many claimed pages are left as it needs
pub record IsUnderWay (width : ℕ) (old now : ℕ → Node) (root : ℕ) (t : Forest) (x : Entry) (stack : List (ℕ × ℕ)) (s : Entry) (other : ℕ) (claimed : List ℕ) (used : ℕ) : Type 0 where
  pub is_tree : IsTree old root t
  pub trim : IsTrimTree t
  pub fresh : AreFresh t claimed
  pub going : IsGoingUp width old now t x stack s other claimed used
  pub enough : used + run_up (is_full width) old stack ≡ length claimed

-- A full leaf was found for an entry that isn't there, and as many pages were claimed as it asks for: the addition may begin.
pub record IsReadyToCut (width : ℕ) (nodes : ℕ → Node) (root : ℕ) (t : Forest) (x : Entry) (stack : List (ℕ × ℕ)) (page at : ℕ) (claimed : List ℕ) : Type 0 where
  pub is_tree : IsTree nodes root t
  pub trim : IsTrimTree t
  pub fresh : AreFresh t claimed
  pub found : IsLeafFound nodes t x stack page at false
  pub enough : length claimed ≡ pages_asked (is_full width) nodes stack page

-- a leaf with these entries became two, with y the first of the second; both are at least half full
pub record SplitsLeaf (width : ℕ) (more : List Entry) (lower upper : Node) (y : Entry) : Type 0 where
  pub head : Entry
  pub front : List Entry
  pub tail : List Entry
  pub cut : more ≡ (head ∷ front) ++ y ∷ tail
  pub first : lower ≡ LeafNode (head ∷ front)
  pub first_half : leaf_room width / 2 ≤ length (head ∷ front)
  pub second_half : leaf_room width / 2 ≤ length (y ∷ tail)
  pub second : upper ≡ LeafNode (y ∷ tail)

-- an inner node with these separators and children became two, with m between them
pub record SplitsInner (more : List Entry) (kids : List ℕ) (lower upper : Node) (m : Entry) : Type 0 where
  pub lows : List Entry
  pub highs : List Entry
  pub cut : more ≡ lows ++ m ∷ highs
  pub first : lower ≡ InnerNode lows (take (length lows + 1) kids)
  pub second : upper ≡ InnerNode highs (drop (length lows + 1) kids)
