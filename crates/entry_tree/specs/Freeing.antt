-- What giving all pages of a tree back does.
use Rattle.std.specs.Prelude.{◌≡◌, ◌⊎◌, ◌<◌, ◌+◌, ℕ, List, ◌++◌, length}
use Rattle.mdc_words.specs.ByteOrder.{Entry}
use Rattle.node_page.specs.Node.{Node}
use Rattle.node_page.specs.Node.Node.{LeafNode, InnerNode, NoNode}
use Rattle.store_api.specs.declared.fault.Damage.{Damage}
use Rattle.store_api.specs.declared.pages.Pages.{Ghosts}
use Rattle.store_api.specs.declared.shape.Shape.{Shape}
use Rattle.extent_map.specs.Map.{HoldsMap, IsMapPage}
use Rattle.extent_map.specs.Owners.{AreRightNotes}
use Rattle.extent_map.specs.declared.kind.Kind.{Kind}
use Rattle.extent_map.specs.declared.space_notes.SpaceNotes.{SpaceNotes}
use Rattle.entry_tree.specs.Forest.{Forest, times}
use Rattle.entry_tree.specs.HeldTrees.{nodes_in}
use Rattle.entry_tree.specs.Pruning.{without_pages}
use Rattle.entry_tree.specs.Standing.{StandsTree}
use Rattle.entry_tree.specs.TreeChanges.{times_among}
use Rattle.entry_tree.specs.declared.tree.Tree.{Tree}

-- each page of the tree was given back once, and no other page
pub record FreesTree {S : Type 0} (g : Ghosts S) (shape : Shape) (before noted : SpaceNotes) (new : S) (owners : List Kind) (t : Forest) : Type 0 where
  pub given : List ℕ
  pub counts : (p : ℕ) → times_among p given ≡ times p t
  pub map : HoldsMap g shape new (without_pages shape owners given)
  pub notes : AreRightNotes shape before owners → AreRightNotes shape noted (without_pages shape owners given)

-- a page of the tree or of the map, where both are told to have their form
abbrev pub IsFreeingPage : {S : Type 0} → Ghosts S → Shape → S → Tree → ℕ → Type 0
IsFreeingPage g shape s tree p = (owners : List Kind) (t : Forest) → StandsTree g shape s tree owners t → 0 < times p t ⊎ IsMapPage shape p

-- The root with rule 4, a page of the map or page 0 with a rule of the map, or a page that isn't a used one with rule 5; never
-- where tree and map had their form.
pub record BreaksFreeing {S : Type 0} (g : Ghosts S) (shape : Shape) (s : S) (tree : Tree) (damage : Damage) : Type 0 where
  pub named : ((damage.page ≡ tree.root) × (damage.rule ≡ 4)) ⊎ (((damage.page ≡ 0) × (damage.rule ≡ 1)) ⊎ ((IsMapPage shape damage.page × (damage.rule ≡ 2)) ⊎ (damage.rule ≡ 5)))
  pub broken : (owners : List Kind) (t : Forest) → StandsTree g shape s tree owners t → ⊥

-- the children of a page are still to be done
abbrev pub Continues : Node → List ℕ → List ℕ → Type 0
Continues (LeafNode items) old new = new ≡ old
Continues (InnerNode seps children) old new = length children ≡ length seps + 1 → new ≡ old ++ children
Continues NoNode old new = Unit {0}

-- the page is no node of the tree's width
pub record BreaksNode {S : Type 0} (g : Ghosts S) (s : S) (tree : Tree) (p : ℕ) (damage : Damage) : Type 0 where
  pub page : damage.page ≡ tree.root
  pub rule : damage.rule ≡ 4
  pub leaf : (items : List Entry) → nodes_in tree.width (g.state s) p ≡ LeafNode items → ⊥
  pub inner : (seps : List Entry) (children : List ℕ) → nodes_in tree.width (g.state s) p ≡ InnerNode seps children → ⊥
