-- The trees that the pages of a store are told to hold.
use Rattle.std.specs.Prelude.{◌≡◌, ◌<◌, ℕ, if◌then◌else◌}
use Rattle.node_page.specs.Node.{Node, node_of}
use Rattle.node_page.specs.Node.Node.{NoNode}
use Rattle.store_api.specs.StoreState.{StoreState, page_at}
use Rattle.store_api.specs.declared.fault.Damage.{Damage}
use Rattle.store_api.specs.declared.pages.Pages.{Ghosts}
use Rattle.entry_tree.specs.Forest.{Forest, times, IsTree, IsTrimTree}
use Rattle.entry_tree.specs.declared.tree.Tree.{Tree}

-- The nodes of a width that the pages are told to be. A store that doesn't tell what its pages hold shows none, and neither
-- do pages past the count.
abbrev pub nodes_in : ℕ → StoreState → ℕ → Node
nodes_in width state p = if state.is_told then node_of width (page_at state.work p) else NoNode

-- the pages are told to hold this tree at this root, where each leaf but an empty root holds an entry
pub record HoldsTree {S : Type 0} (g : Ghosts S) (s : S) (tree : Tree) (t : Forest) : Type 0 where
  pub is_tree : IsTree (nodes_in tree.width (g.state s)) tree.root t
  pub trim : IsTrimTree t

-- the pages of the tree, where it is told to have its form
abbrev pub IsTreePage : {S : Type 0} → Ghosts S → S → Tree → ℕ → Type 0
IsTreePage g s tree p = (t : Forest) → HoldsTree g s tree t → 0 < times p t

-- The damage of a tree names its root and rule 4: some page of the tree isn't a node of its width, or its entries aren't in
-- order and within the separators, or a page of it is met twice, or a leaf is empty.
pub record BreaksTree {S : Type 0} (g : Ghosts S) (s : S) (tree : Tree) (damage : Damage) : Type 0 where
  pub page : damage.page ≡ tree.root
  pub rule : damage.rule ≡ 4
  pub broken : (t : Forest) → HoldsTree g s tree t → ⊥
