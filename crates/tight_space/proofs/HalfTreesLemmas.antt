-- Leaves that are half full stay so where an entry is added or changed in place, and a tree stays with its pages.
use Rattle.std.proofs.Common.{◌≡◌, ◌<◌, ◌≤◌, ◌/◌, ℕ, List, length, ap, arith, sym, subst, ◌∙◌, inl, inr}
use Rattle.std.proofs.lemmas.Bool.{cases_eq}
use Rattle.mdc_words.specs.ByteOrder.{Entry}
use Rattle.store_api.specs.StoreState.{page_at}
use Rattle.node_page.specs.Node.{Node, leaf_room, node_of}
use Rattle.node_page.specs.Node.Node.{LeafNode, InnerNode, NoNode}
use Rattle.entry_tree.specs.Forest.{EachNode, Forest, HoldsForest, IsTree, once, times}
use Rattle.entry_tree.specs.Forest.Forest.{Nil, Leaf, Fork}
use Rattle.entry_tree.specs.HeldTrees.{nodes_in}
use Rattle.entry_tree.specs.TreeChanges.{KeepsLeaf, KeepsLeafCounts}
use Rattle.entry_tree.proofs.ForestLemmas.{EachNode-agree, HoldsForest-agree, once_other, once_same}
use Rattle.table_trees.specs.TableTrees.{TreePlace}
use Rattle.table_trees.specs.ToldPages.{HasTree, PageList, telling}
use Rattle.mdc_sound.specs.TightPages.{IsHalfFullNode, IsHalfFullTree}

-- what holds of each page with its node
at_page : (P : ℕ → Node → Type 0) (nodes : ℕ → Node) (t : Forest) (n : ℕ) → EachNode P t → HoldsForest nodes t → 0 < times n t → P n (nodes n)
at_page P nodes Nil n each holds there = absurd (omega (arith, there))
at_page P nodes (Leaf page items next) n each holds there = elim (cases_eq n page) [
  | inl is ↦ subst (λ (p : ℕ). P p (nodes p)) (sym is) (subst (P page) (sym holds.0) each.0)
  | inr other ↦ at_page P nodes next n each.1 holds.1 (omega (arith, there, once_other n page other))
]
at_page P nodes (Fork page seps kids next) n each holds there = elim (cases_eq n page) [
  | inl is ↦ subst (λ (p : ℕ). P p (nodes p)) (sym is) (subst (P page) (sym holds.0) each.0)
  | inr other ↦ elim (cases_eq (times n kids) 0) [
    | inl none ↦ at_page P nodes next n each.2 holds.2 (omega (arith, there, none, once_other n page other))
    | inr some ↦ at_page P nodes kids n each.1 holds.1 (omega (arith, some))
  ]
]

-- a leaf that was in a tree that is half full was half full, but for the root
was_half : (width : ℕ) (old : ℕ → Node) (root : ℕ) (before : Forest) (n : ℕ) (were : List Entry) → IsTree old root before → IsHalfFullTree width before → 0 < times n before → (n ≡ root → ⊥)
    → old n ≡ LeafNode were → leaf_room width / 2 ≤ length were
was_half width old root Nil n were is half there other leaf = absurd (omega (arith, there))
was_half width old root (Leaf page items next) n were is half there other leaf =
    let head : page ≡ root = cc (is.head) in
    absurd (omega (arith, there, once_other n page (λ e. other (e ∙ head)), ap (times n) is.fits.2))
was_half width old root (Fork page seps kids next) n were is half there other leaf =
    let head : page ≡ root = cc (is.head) in
    let below : 0 < times n kids = omega (arith, there, once_other n page (λ e. other (e ∙ head)), ap (times n) is.fits.2) in
    subst (IsHalfFullNode width n) leaf (at_page (IsHalfFullNode width) old kids n half is.holds.1 below)

-- where an entry is added each leaf but a root stays half full
pub half_added : (width : ℕ) (old new : ℕ → Node) (root : ℕ) (before after : Forest) → IsTree old root before → IsTree new root after → IsHalfFullTree width before
    → EachNode (KeepsLeaf width old before) after → IsHalfFullTree width after
half_added width old new root before Nil was is half keeps = tt
half_added width old new root before (Leaf page items next) was is half keeps = tt
half_added width old new root before (Fork page seps kids next) was is half keeps =
    EachNode-agree (KeepsLeaf width old before) (IsHalfFullNode width) kids (λ n node there kept. go n node there kept) keeps.1
  where
    no_root : (n : ℕ) → 0 < times n kids → n ≡ root → ⊥
    no_root n there e =
        let head : page ≡ root = cc (is.head) in
        omega (arith, is.distinct n, there, once_same n, ap (once n) (e ∙ sym head))

    go : (n : ℕ) (node : Node) → 0 < times n kids → KeepsLeaf width old before n node → IsHalfFullNode width n node
    go n (LeafNode items) there kept = elim kept.1 [
      | inl full ↦ full
      | inr stayed ↦ omega (arith, was_half width old root before n stayed.0 was half stayed.1 (no_root n there) stayed.2, stayed.3)
    ]
    go n (InnerNode separators children) there kept = tt
    go n NoNode there kept = tt

counts_half : (width : ℕ) (t u : Forest) → KeepsLeafCounts t u → EachNode (IsHalfFullNode width) t → EachNode (IsHalfFullNode width) u
counts_half width Nil Nil kept half = tt
counts_half width Nil (Leaf page items next) kept half = absurd kept
counts_half width Nil (Fork page seps kids next) kept half = absurd kept
counts_half width (Leaf page items next) Nil kept half = absurd kept
counts_half width (Leaf page items next) (Leaf other others behind) kept half =
    (omega (arith, kept.1, half.0), counts_half width next behind kept.2 half.1)
counts_half width (Leaf page items next) (Fork other bounds children behind) kept half = absurd kept
counts_half width (Fork page seps kids next) Nil kept half = absurd kept
counts_half width (Fork page seps kids next) (Leaf other others behind) kept half = absurd kept
counts_half width (Fork page seps kids next) (Fork other bounds children behind) kept half =
    (tt, counts_half width kids children kept.1 half.1, counts_half width next behind kept.2 half.2)

-- and where one is changed in place
pub half_amended : (width : ℕ) (before after : Forest) → KeepsLeafCounts before after → IsHalfFullTree width before → IsHalfFullTree width after
half_amended width before Nil kept half = tt
half_amended width before (Leaf page items next) kept half = tt
half_amended width Nil (Fork other bounds children behind) kept half = absurd kept
half_amended width (Leaf page items next) (Fork other bounds children behind) kept half = absurd kept
half_amended width (Fork page seps kids next) (Fork other bounds children behind) kept half = counts_half width kids children kept.1 half

-- a tree stays with its pages
pub tree_kept : (old new : PageList) (place : TreePlace) (t : Forest) → ((p : ℕ) → 0 < times p t → page_at new p ≡ page_at old p) → HasTree old place t → HasTree new place t
tree_kept old new place t keeps h = record {
  is_tree = record {
    head = h.is_tree.head;
    holds = HoldsForest-agree (nodes_in place.width (telling old)) (nodes_in place.width (telling new)) t (λ p there. ap (node_of place.width) (keeps p there)) h.is_tree.holds;
    fits = h.is_tree.fits;
    distinct = h.is_tree.distinct;
  };
  trim = h.trim;
}
