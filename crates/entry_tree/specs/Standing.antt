-- Trees among the extents: whose pages they are, and what an addition does to both.
use Rattle.std.specs.Prelude.{◌≡◌, ◌⊎◌, ◌<◌, ◌+◌, ℕ, ⊤, List, [], ◌∷◌, length}
use Rattle.mdc_words.specs.ByteOrder.{Entry}
use Rattle.node_page.specs.Node.{Node, is_full}
use Rattle.node_page.specs.Node.Node.{LeafNode}
use Rattle.store_api.specs.Frame.{IsCounted, NoPage, OnlyPage}
use Rattle.store_api.specs.declared.fault.Damage.{Damage}
use Rattle.store_api.specs.declared.pages.Pages.{Ghosts}
use Rattle.store_api.specs.declared.shape.Shape.{Shape}
use Rattle.extent_map.specs.Damages.{BreaksSpace}
use Rattle.extent_map.specs.Map.{HoldsMap, IsSpacePage, StatesGrowth, BringsZeros}
use Rattle.extent_map.specs.Owners.{IsClaimable, IsLowestClaimable, IsUsedPage, IsUnusedPage, IsExtentPage, HasNoFree, HasNoUnused, AreRightNotes, owner_of, extent_of, with_used_page, count_with}
use Rattle.extent_map.specs.declared.kind.Kind.{Kind}
use Rattle.extent_map.specs.declared.kind.Kind.TheVariants.{Free}
use Rattle.extent_map.specs.declared.space_notes.SpaceNotes.{SpaceNotes}
use Rattle.entry_tree.specs.EntryBounds.{with_entry, IsEntryOf}
use Rattle.entry_tree.specs.Forest.{Forest, filled_leaves, leaf_entries, times, EachNode}
use Rattle.entry_tree.specs.Forest.Forest.{Nil, Leaf}
use Rattle.entry_tree.specs.TreePlaces.{IsAtPlace, pages_asked}
use Rattle.entry_tree.specs.TreeChanges.{GainsInLeaf, KeepsLeaf, times_among}
use Rattle.entry_tree.specs.HeldTrees.{nodes_in, HoldsTree}
use Rattle.entry_tree.specs.declared.tree.Tree.{Tree}

-- the extent map and the tree are told to have their form, and each page of the tree is a used index page
pub record StandsTree {S : Type 0} (g : Ghosts S) (shape : Shape) (s : S) (tree : Tree) (owners : List Kind) (t : Forest) : Type 0 where
  pub map : HoldsMap g shape s owners
  pub held : HoldsTree g s tree t
  pub used : (p : ℕ) → 0 < times p t → IsUsedPage shape owners p

-- a page of an index extent that isn't used, or any page of a free extent
pub record IsIdlePage (shape : Shape) (owners : List Kind) (p : ℕ) : Type 0 where
  pub page : IsExtentPage shape p
  pub idle : IsUnusedPage shape owners p ⊎ (owner_of owners (extent_of shape p) ≡ Free)

-- the page is one of those that were claimed
abbrev pub IsClaimed : ℕ → List ℕ → Type 0
IsClaimed p [] = ⊥
IsClaimed p (q ∷ claimed) = (p ≡ q) ⊎ IsClaimed p claimed

-- the owners, with these pages claimed one after the other
abbrev pub with_pages : Shape → List Kind → List ℕ → List Kind
with_pages shape owners [] = owners
with_pages shape owners (p ∷ claimed) = with_pages shape (with_used_page shape owners p) claimed

-- each of these pages could be claimed at its time: none was in use
abbrev pub AreClaims : Shape → List Kind → List ℕ → Type 0
AreClaims shape owners [] = ⊤
AreClaims shape owners (p ∷ claimed) = IsClaimable shape owners p × AreClaims shape (with_used_page shape owners p) claimed

-- each of these pages was the lowest that could be claimed at its time
abbrev pub AreLowestClaims : Shape → List Kind → List ℕ → Type 0
AreLowestClaims shape owners [] = ⊤
AreLowestClaims shape owners (p ∷ claimed) = IsLowestClaimable shape owners p × AreLowestClaims shape (with_used_page shape owners p) claimed

-- no page can be claimed
pub record IsFullMap (shape : Shape) (owners : List Kind) : Type 0 where
  pub no_free : HasNoFree owners
  pub no_unused : HasNoUnused shape owners

-- The pages that came with these claims: how many there are, and what becomes of page 0.
pub record GrowsWith {S : Type 0} (g : Ghosts S) (shape : Shape) (old new : S) (claimed : List ℕ) : Type 0 where
  pub count : length (g.state new).work ≡ count_with shape (length (g.state old).work) claimed
  pub counted : IsCounted g old → IsCounted g new
  pub stated : StatesGrowth g old new

-- these pages were claimed one after the other, of a map that was told
pub record ClaimsPages {S : Type 0} (g : Ghosts S) (shape : Shape) (before noted : SpaceNotes) (new : S) (owners : List Kind) (claimed : List ℕ) : Type 0 where
  pub map : HoldsMap g shape new (with_pages shape owners claimed)
  pub claims : AreClaims shape owners claimed
  pub lowest : AreRightNotes shape before owners → AreLowestClaims shape owners claimed
  pub notes : AreRightNotes shape before owners → AreRightNotes shape noted (with_pages shape owners claimed)

-- fewer than n pages could be claimed, and these were
pub record MeetsFull {S : Type 0} (g : Ghosts S) (shape : Shape) (before noted : SpaceNotes) (old new : S) (owners : List Kind) (n : ℕ) : Type 0 where
  pub claimed : List ℕ
  pub fewer : length claimed < n
  pub claims : ClaimsPages g shape before noted new owners claimed
  pub grows : GrowsWith g shape old new claimed
  pub full : AreRightNotes shape before owners → IsFullMap shape (with_pages shape owners claimed)

-- An added entry asks for so many pages: one for each full node from its leaf upwards without a gap, and one more where
-- these reach the root.
pub record AsksPages (width : ℕ) (nodes : ℕ → Node) (t : Forest) (x : Entry) (n : ℕ) : Type 0 where
  pub stack : List (ℕ × ℕ)
  pub page : ℕ
  pub items : List Entry
  pub place : IsAtPlace t x stack page
  pub leaf : nodes page ≡ LeafNode items
  pub asked : n ≡ pages_asked (is_full width) nodes stack page

-- what the addition of an entry that wasn't there did: it claimed the pages that it asked for
pub record AddsEntry {S : Type 0} (g : Ghosts S) (shape : Shape) (before noted : SpaceNotes) (old new : S) (tree : Tree) (x : Entry) (owners : List Kind) (t : Forest) : Type 0 where
  pub claimed : List ℕ
  pub after : Forest
  pub stands : StandsTree g shape new tree (with_pages shape owners claimed) after
  pub adds : leaf_entries after ≡ with_entry x (leaf_entries t)
  pub one_leaf : GainsInLeaf x (filled_leaves t) (filled_leaves after)
  pub absent : IsEntryOf x (leaf_entries t) → ⊥
  pub asked : AsksPages tree.width (nodes_in tree.width (g.state old)) t x (length claimed)
  pub claims : AreClaims shape owners claimed
  pub lowest : AreRightNotes shape before owners → AreLowestClaims shape owners claimed
  pub notes : AreRightNotes shape before owners → AreRightNotes shape noted (with_pages shape owners claimed)
  pub leaves : EachNode (KeepsLeaf tree.width (nodes_in tree.width (g.state old)) t) after
  pub pages : (n : ℕ) → times n after ≡ times n t + times_among n claimed
  pub grows : GrowsWith g shape old new claimed
  pub zeros : BringsZeros g (λ p. IsClaimed p claimed) old new

-- The addition met a full map: fewer pages could be claimed than the entry asks for, which isn't there. Map and tree stand as
-- they did but for those that were claimed.
pub record FindsFull {S : Type 0} (g : Ghosts S) (shape : Shape) (before noted : SpaceNotes) (old new : S) (tree : Tree) (x : Entry) (owners : List Kind) (t : Forest) : Type 0 where
  pub wanted : ℕ
  pub asked : AsksPages tree.width (nodes_in tree.width (g.state old)) t x wanted
  pub absent : IsEntryOf x (leaf_entries t) → ⊥
  pub meets : MeetsFull g shape before noted old new owners wanted
  pub stands : StandsTree g shape new tree (with_pages shape owners meets.claimed) t
  pub zeros : BringsZeros g NoPage old new

-- the pages that a call on a tree may change: those of the tree, those of the extent map with page 0, and pages of free
-- extents and unused ones of index extents; where the tree and the map were told to have their form
abbrev pub IsTreeSpace : {S : Type 0} → Ghosts S → Shape → S → Tree → ℕ → Type 0
IsTreeSpace g shape s tree p =
    (owners : List Kind) (t : Forest) → StandsTree g shape s tree owners t → 0 < times p t ⊎ (IsSpacePage shape p ⊎ IsIdlePage shape owners p)

-- the damage of a tree among the extents names its root and rule 4; never where both had their form
pub record BreaksStanding {S : Type 0} (g : Ghosts S) (shape : Shape) (s : S) (tree : Tree) (damage : Damage) : Type 0 where
  pub page : damage.page ≡ tree.root
  pub rule : damage.rule ≡ 4
  pub broken : (owners : List Kind) (t : Forest) → StandsTree g shape s tree owners t → ⊥

-- what an addition may name
abbrev pub BreaksTreeOrMap : {S : Type 0} → Ghosts S → Shape → S → Tree → Damage → Type 0
BreaksTreeOrMap g shape s tree damage = BreaksStanding g shape s tree damage ⊎ BreaksSpace g shape s damage

-- the pages that making a tree may change: those of the extent map with page 0, and idle ones
abbrev pub IsMapSpace : {S : Type 0} → Ghosts S → Shape → S → ℕ → Type 0
IsMapSpace g shape s p = (owners : List Kind) → HoldsMap g shape s owners → IsSpacePage shape p ⊎ IsIdlePage shape owners p

-- an empty tree was made at a page that was claimed for it
pub record MakesTree {S : Type 0} (g : Ghosts S) (shape : Shape) (before noted : SpaceNotes) (old new : S) (tree : Tree) (owners : List Kind) : Type 0 where
  pub stands : StandsTree g shape new tree (with_used_page shape owners tree.root) (Leaf tree.root [] Nil)
  pub claimable : IsClaimable shape owners tree.root
  pub lowest : AreRightNotes shape before owners → IsLowestClaimable shape owners tree.root
  pub notes : AreRightNotes shape before owners → AreRightNotes shape noted (with_used_page shape owners tree.root)
  pub grows : GrowsWith g shape old new (tree.root ∷ [])
  pub zeros : BringsZeros g (OnlyPage tree.root) old new
