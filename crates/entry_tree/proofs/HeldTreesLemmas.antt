-- Trees that a store is told to hold.
use Rattle.std.proofs.Common.{◌≡◌, ◌≢◌, ◌<◌, ◌≤◌, ℕ, [], refl, sym, ◌∙◌, length, inl, inr}
use Rattle.std.specs.Prelude.{Bool, true, false, IsTrue, if◌then◌else◌}
use Rattle.std.proofs.lemmas.Bool.{cases_lt}
use Rattle.std.proofs.lemmas.List.{get_or_past}
use Rattle.store_api.specs.StoreState.{StoreState, page_at}
use Rattle.store_api.specs.Frame.{HoldsPage, Touches}
use Rattle.store_api.specs.declared.pages.Pages.{Ghosts}
use Rattle.node_page.specs.Node.{Node, node_of}
use Rattle.node_page.specs.Node.Node.{NoNode}
use Rattle.entry_tree.specs.Forest.{Forest, EachNode, HoldsForest, IsPageBelow}
use Rattle.entry_tree.specs.Forest.Forest.{Nil, Leaf, Fork}
use Rattle.entry_tree.specs.HeldTrees.{nodes_in, HoldsTree}
use Rattle.entry_tree.proofs.ForestLemmas.{same_forest}

-- a page that isn't there is no node
no_bytes : (width : ℕ) → node_of width [] ≡ NoNode
unfolding node_of
no_bytes width = refl

pub nodes_in-past : (width : ℕ) (state : StoreState) (p : ℕ) → length state.work ≤ p → nodes_in width state p ≡ NoNode
nodes_in-past width state p h = go state.is_told
  where
    go : (told : Bool) → (if told then node_of width (page_at state.work p) else NoNode) ≡ NoNode
    go true = rw (get_or_past state.work p [] h) (no_bytes width)
    go false = refl

-- a node that is told to be there lies below the count
pub is_below : (width : ℕ) (state : StoreState) (p : ℕ) (node : Node) → nodes_in width state p ≡ node → node ≢ NoNode → p < length state.work
is_below width state p node e d =
    elim (cases_lt p (length state.work)) [
      | inl below ↦ below
      | inr past ↦ absurd (d (sym e ∙ nodes_in-past width state p past))
    ]

-- the pages of a tree are there
pub HoldsForest-below : (width : ℕ) (state : StoreState) (t : Forest) → HoldsForest (nodes_in width state) t → EachNode (IsPageBelow (length state.work)) t
HoldsForest-below width state Nil h = tt
HoldsForest-below width state (Leaf page items next) h = (is_below width state page _ h.0 (λ e. cc), HoldsForest-below width state next h.1)
HoldsForest-below width state (Fork page seps kids next) h =
    (is_below width state page _ h.0 (λ e. cc), HoldsForest-below width state kids h.1, HoldsForest-below width state next h.2)

-- the same pages are the same nodes
pub nodes_same : (width : ℕ) (old new : StoreState) (p : ℕ) → new.is_told ≡ old.is_told → new.work ≡ old.work → nodes_in width new p ≡ nodes_in width old p
nodes_same width old new p told same = rw (told, same) refl

-- a page that isn't touched is the node that it was
pub nodes_kept : {S : Type 0} (g : Ghosts S) (Mine : ℕ → Type 0) (old new : S) (width p : ℕ) → Touches g Mine old new → (g.state new).is_told ≡ (g.state old).is_told
    → p < length (g.state old).work → (Mine p → ⊥) → nodes_in width (g.state new) p ≡ nodes_in width (g.state old) p
nodes_kept g Mine old new width p touched told within apart = go (g.state old).is_told refl told
  where
    go : (b : Bool) → (g.state old).is_told ≡ b → (g.state new).is_told ≡ (g.state old).is_told → nodes_in width (g.state new) p ≡ nodes_in width (g.state old) p
    go true e t =
        let held : HoldsPage g old p (page_at (g.state old).work p) = record { is_told = e; within = within; bytes_are = refl } in
        let now = touched.others p (page_at (g.state old).work p) apart held in
        rw (t, e, now.bytes_are) refl
    go false e t = rw (t, e) refl

-- a page list and a root determine the tree
pub one_tree : {S : Type 0} (g : Ghosts S) (s : S) (tree : _) (t u : Forest) → HoldsTree g s tree t → HoldsTree g s tree u → t ≡ u
one_tree g s tree t u h k =
    same_forest (nodes_in tree.width (g.state s)) t u h.is_tree.holds k.is_tree.holds (h.is_tree.head ∙ sym k.is_tree.head)

-- a store that shows a node tells what its pages hold
pub told_by : (width : ℕ) (state : StoreState) (p : ℕ) (node : Node) → nodes_in width state p ≡ node → node ≢ NoNode → IsTrue state.is_told
told_by width state p node e d = go state.is_told e
  where
    go : (b : Bool) → (if b then node_of width (page_at state.work p) else NoNode) ≡ node → IsTrue b
    go true e = refl
    go false e = absurd (d (sym e))

-- and shows what its bytes are
pub told_node : (width : ℕ) (state : StoreState) (p : ℕ) → IsTrue state.is_told → nodes_in width state p ≡ node_of width (page_at state.work p)
told_node width state p told = rw told refl
