-- What an entry asks for and which leaves are kept, over nodes that are the same.
use Rattle.std.proofs.Common.{◌≡◌, ℕ, sym, ◌∙◌, inl, inr}
use Rattle.mdc_words.specs.ByteOrder.{Entry}
use Rattle.node_page.specs.Node.{Node, is_full}
use Rattle.node_page.specs.Node.Node.{LeafNode, InnerNode, NoNode}
use Rattle.entry_tree.specs.Forest.{EachNode, Forest}
use Rattle.entry_tree.specs.Standing.{AsksPages}
use Rattle.entry_tree.specs.TreeChanges.{KeepsLeaf}
use Rattle.entry_tree.proofs.ForestLemmas.{EachNode-agree}
use Rattle.entry_tree.proofs.StandingLemmas.{asked_same}

-- the pages that an entry asks for
pub asks_same : (width : ℕ) (one other : ℕ → Node) (t : Forest) (x : Entry) (n : ℕ) → ((p : ℕ) → one p ≡ other p) → AsksPages width one t x n → AsksPages width other t x n
asks_same width one other t x n same a = record {
  stack = a.stack;
  page = a.page;
  items = a.items;
  place = a.place;
  leaf = sym (same a.page) ∙ a.leaf;
  asked = a.asked ∙ asked_same (is_full width) one other t x a.stack a.page a.place (λ p l. same p);
}

-- a leaf that is kept
keeps_leaf_same : (width : ℕ) (one other : ℕ → Node) (t : Forest) (page : ℕ) (node : Node) → one page ≡ other page → KeepsLeaf width one t page node → KeepsLeaf width other t page node
keeps_leaf_same width one other t page (LeafNode items) same k =
    (k.0, elim k.1 [ inl half ↦ inl half | inr was ↦ inr (was.0, was.1, sym same ∙ was.2, was.3) ])
keeps_leaf_same width one other t page (InnerNode seps children) same k = tt
keeps_leaf_same width one other t page NoNode same k = tt

-- and all leaves
pub keeps_leaves_same : (width : ℕ) (one other : ℕ → Node) (t u : Forest) → ((p : ℕ) → one p ≡ other p) → EachNode (KeepsLeaf width one t) u → EachNode (KeepsLeaf width other t) u
keeps_leaves_same width one other t u same = EachNode-agree (KeepsLeaf width one t) (KeepsLeaf width other t) u (λ n node l. keeps_leaf_same width one other t n node (same n))
