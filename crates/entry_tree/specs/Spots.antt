-- The separators nearest to the place of an entry, and where they stand.
use Rattle.std.specs.Prelude.{◌≡◌, ◌<◌, ◌-◌, ℕ, ⊤, ◌↔◌, Bool, IsTrue, nat_lt, if◌then◌else◌, List, [], ◌∷◌, length, Option, Some, None, slice_index_or as get_or}
use Rattle.mdc_words.specs.ByteOrder.{Entry}
use Rattle.node_page.specs.Node.{Node, node_of}
use Rattle.node_page.specs.Node.Node.{LeafNode, InnerNode, NoNode}
use Rattle.entry_tree.specs.EntryBounds.{Bound, AtLeast, Under, Rises, IsLeafPlace}
use Rattle.entry_tree.specs.Forest.{Forest}
use Rattle.entry_tree.specs.Forest.Forest.{Leaf, Nil}
use Rattle.entry_tree.specs.LeafSpots.{IsParent}
use Rattle.entry_tree.specs.TreePlaces.{AreMatched, Frame, IsChildPlace, plug, low_of, high_of}
use Rattle.entry_tree.specs.declared.spot.Fence.{Fence}
use Rattle.entry_tree.specs.declared.spot.Passed.{Passed}
use Rattle.entry_tree.specs.declared.spot.Passed.TheVariants.{NoNodeThere, LeafThere, ChildThere}

-- the separator before child i of a node
abbrev pub fence_before : ℕ → List Entry → ℕ → Option Fence
fence_before page seps i = if nat_lt 0 i then Some (record { page = page; at = i - 1; bound = get_or seps (i - 1) [] }) else None

-- the separator behind child i of a node
abbrev pub fence_behind : ℕ → List Entry → ℕ → Option Fence
fence_behind page seps i = if nat_lt i (length seps) then Some (record { page = page; at = i; bound = get_or seps i [] }) else None

-- the nearer one of two, where there is one
abbrev pub nearer_fence : Option Fence → Option Fence → Option Fence
nearer_fence None far = far
nearer_fence (Some near) far = Some near

-- the nearest separator left of a place: in this node, or else one further up
abbrev pub low_fence_in : Frame → List Entry → Option Fence → Option Fence
low_fence_in f [] far = far
low_fence_in f (l ∷ lows) far = Some (record { page = f.page; at = length lows; bound = get_or (l ∷ lows) (length lows) [] })

-- the nearest separator left of a place, whose way down is given from its end
abbrev pub low_fence : List Frame → Option Fence
low_fence [] = None
low_fence (f ∷ fs) = low_fence_in f f.lows (low_fence fs)

-- the nearest separator right of a place: in this node, or else one further up
abbrev pub high_fence_in : Frame → List Entry → Option Fence → Option Fence
high_fence_in f [] far = far
high_fence_in f (h ∷ highs) far = Some (record { page = f.page; at = length f.lows; bound = h })

-- the nearest separator right of a place, whose way down is given from its end
abbrev pub high_fence : List Frame → Option Fence
high_fence [] = None
high_fence (f ∷ fs) = high_fence_in f f.highs (high_fence fs)

-- the bound that a separator is
abbrev pub fence_bound : Option Fence → Bound
fence_bound None = None
fence_bound (Some fence) = Some fence.bound

-- a separator, if there is one, has this width
abbrev pub FenceFits : ℕ → Option Fence → Type 0
FenceFits width None = ⊤
FenceFits width (Some fence) = length fence.bound ≡ width

-- the separators between which a way goes on are as wide as entries
abbrev pub PassedFits : ℕ → Passed → Type 0
PassedFits width NoNodeThere = ⊤
PassedFits width (LeafThere at there) = ⊤
PassedFits width (ChildThere at child low high) = FenceFits width low × FenceFits width high

-- x stands at a place of the list
abbrev pub IsAtSpot : List Entry → Entry → ℕ → Type 0
IsAtSpot items x at = (at < length items) × (get_or items at [] ≡ x)

-- what a way down for x meets on a page: where it belongs in a leaf, and whether it is there, or the child to go on with,
-- and the separators around that
abbrev pub MeetsOnWay : Node → ℕ → Entry → Passed → Type 0
MeetsOnWay (LeafNode items) page x NoNodeThere = ⊥
MeetsOnWay (LeafNode items) page x (LeafThere at there) = Rises None None items → IsLeafPlace items x at × (IsTrue there ↔ IsAtSpot items x at)
MeetsOnWay (LeafNode items) page x (ChildThere at child low high) = ⊥
MeetsOnWay (InnerNode seps children) page x NoNodeThere = ⊥
MeetsOnWay (InnerNode seps children) page x (LeafThere at there) = ⊥
MeetsOnWay (InnerNode seps children) page x (ChildThere at child low high) =
    Rises None None seps
    → IsChildPlace seps x at × (child ≡ get_or children at 0) × (low ≡ fence_before page seps at) × (high ≡ fence_behind page seps at)
MeetsOnWay NoNode page x passed = ⊤

-- the page at hand is a leaf with these entries
pub record LendsLeaf (width : ℕ) (hand : Option (List ℕ)) (items : List Entry) : Type 0 where
  pub bytes : List ℕ
  pub there : hand ≡ Some bytes
  pub leaf : node_of width bytes ≡ LeafNode items

-- the leaf of an entry, where the entry belongs in it, whether it is there, and the nearest separators on both sides
pub record IsSpot (nodes : ℕ → Node) (t : Forest) (x : Entry) (page at : ℕ) (there : Bool) (low high : Option Fence) : Type 0 where
  pub above : List Frame
  pub items : List Entry
  pub whole : t ≡ plug above (Leaf page items Nil)
  pub leaf : nodes page ≡ LeafNode items
  pub matched : AreMatched above
  pub least : AtLeast (low_of None above) x
  pub under : Under (high_of None above) x
  pub place : IsLeafPlace items x at
  pub says : IsTrue there ↔ IsAtSpot items x at
  pub low_is : low_fence above ≡ low
  pub high_is : high_fence above ≡ high

-- the same with the node just above it
pub record IsSpotBelow (nodes : ℕ → Node) (t : Forest) (x : Entry) (page at : ℕ) (there : Bool) (low high : Option Fence) (parent : Option (ℕ × ℕ)) : Type 0 where
  pub spot : IsSpot nodes t x page at there low high
  pub parent_is : IsParent spot.above parent
