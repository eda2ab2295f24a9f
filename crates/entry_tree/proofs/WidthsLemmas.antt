-- The entries of a tree have its width.
use Rattle.std.proofs.Common.{◌≡◌, ◌<◌, ◌≤◌, ◌+◌, ◌*◌, ◌==◌, ◌&&◌, nat_lt, nat_le, ℕ, List, [], ◌∷◌, ◌++◌, refl, ap, arith, sym, ◌∙◌, subst, length, drop, length-append, length-drop}
use Rattle.std.specs.Prelude.{Bool, true, false, flat_map, if◌then◌else◌}
use Rattle.std.proofs.lemmas.Bool.{leb-true}
use Rattle.std.proofs.lemmas.List.{length-take-le}
use Rattle.mdc_words.specs.ByteOrder.{Entry}
use Rattle.mdc_words.specs.Listed.{listed}
use Rattle.mdc_words.proofs.ListedLemmas.{length-listed, get_or-listed}
use Rattle.store_api.specs.StoreState.{StoreState, page_at, zero_page}
use Rattle.store_api.specs.declared.pages.Pages.{Ghosts}
use Rattle.node_page.specs.Node.{bytes_in, filled_page, node_head, node_of, number_within, stated_entries, stated_inner, stated_leaf, stated_node}
use Rattle.node_page.specs.Node.Node.{LeafNode, NoNode}
use Rattle.node_page.proofs.BytesLemmas.{length-zeros}
use Rattle.node_page.proofs.NodeLemmas.{node_was}
use Rattle.entry_tree.specs.Entries.{AreOfWidth}
use Rattle.entry_tree.specs.Forest.{Forest, HoldsForest, leaf_entries}
use Rattle.entry_tree.specs.Forest.Forest.{Fork, Leaf, Nil}
use Rattle.entry_tree.specs.HeldTrees.{HoldsTree, nodes_in}
use Rattle.entry_tree.specs.declared.tree.Tree.{Tree}
use Rattle.entry_tree.proofs.StringsLemmas.{all_wide, leaf_stated, row_end}

pub AreOfWidth-and : (w : ℕ) (xs ys : List Entry) → AreOfWidth w xs → AreOfWidth w ys → AreOfWidth w (xs ++ ys)
AreOfWidth-and w [] ys h k = k
AreOfWidth-and w (x ∷ xs) ys h k = (h.0, AreOfWidth-and w xs ys h.1 k)

-- a page that is filled up is no shorter than a page
filled_long : (bytes : List ℕ) → length zero_page ≡ 4096 → 4096 ≤ length (filled_page bytes)
filled_long bytes z = omega (arith, z, length-append bytes (drop (length bytes) zero_page), length-drop (length bytes) zero_page)

-- the entries that a page states fit into it
few_stated : (w : ℕ) (page : List ℕ) (items : List Entry) → stated_node w page ≡ LeafNode items → stated_entries page * w ≤ 4080
few_stated w page items e = go (nat_le (stated_entries page * w) 4080) refl e
  where
    rest : (b : Bool) → (if b then stated_inner w (stated_entries page) page else NoNode) ≡ LeafNode items → ⊥
    rest true e = cc
    rest false e = cc

    go : (b : Bool) → nat_le (stated_entries page * w) 4080 ≡ b
        → (if (number_within 0 1 page == 76) && b then stated_leaf w (stated_entries page) page
        else (if (number_within 0 1 page == 73) && nat_lt 0 (stated_entries page) && nat_le (stated_entries page * (w + 4)) 4080 then stated_inner w (stated_entries page) page else NoNode)) ≡ LeafNode items
        → stated_entries page * w ≤ 4080
    go true p e = leb-true (stated_entries page * w) 4080 p
    go false p e = absurd (rest _ (no_leaf (number_within 0 1 page == 76) e))
      where
        no_leaf : (c : Bool) → (if c && false then stated_leaf w (stated_entries page) page
            else (if (number_within 0 1 page == 73) && nat_lt 0 (stated_entries page) && nat_le (stated_entries page * (w + 4)) 4080 then stated_inner w (stated_entries page) page else NoNode)) ≡ LeafNode items
            → (if (number_within 0 1 page == 73) && nat_lt 0 (stated_entries page) && nat_le (stated_entries page * (w + 4)) 4080 then stated_inner w (stated_entries page) page else NoNode) ≡ LeafNode items
        no_leaf true e = e
        no_leaf false e = e

-- the entries of a leaf have its width
pub leaf_wide : (w : ℕ) (page : List ℕ) (items : List Entry) → length zero_page ≡ 4096 → node_of w page ≡ LeafNode items → AreOfWidth w items
leaf_wide w page items z e =
    let was = node_was w page (LeafNode items) e (λ n. cc) in
    let long : 4096 ≤ length page = subst (λ (b : List ℕ). 4096 ≤ length b) (sym was.1) (filled_long (node_head 76 w (length items) 0 ++ flat_map (λ (entry : Entry). entry) items) z) in
    let n = stated_entries page in
    let f : ℕ → Entry = λ i. bytes_in (16 + i * w) w page in
    let few = few_stated w page items was.0 in
    subst (AreOfWidth w) (sym (leaf_stated w page items e)) (all_wide w (listed n f) (λ k lt.
    let below : k < n = omega (arith, lt, length-listed n f) in
    let fits = row_end w k n below in
    ap length (get_or-listed n f k [] below) ∙ length-take-le w (drop (16 + k * w) page) (omega (arith, fits, few, long, length-drop (16 + k * w) page))))

leaf_told : (w : ℕ) (state : StoreState) (p : ℕ) (items : List Entry) → length zero_page ≡ 4096 → nodes_in w state p ≡ LeafNode items → AreOfWidth w items
leaf_told w state p items z e = go state.is_told e
  where
    go : (b : Bool) → (if b then node_of w (page_at state.work p) else NoNode) ≡ LeafNode items → AreOfWidth w items
    go true e = leaf_wide w (page_at state.work p) items z e
    go false e = cc

forest_wide : (w : ℕ) (state : StoreState) (t : Forest) → length zero_page ≡ 4096 → HoldsForest (nodes_in w state) t → AreOfWidth w (leaf_entries t)
forest_wide w state Nil z h = tt
forest_wide w state (Leaf page items next) z h = AreOfWidth-and w items (leaf_entries next) (leaf_told w state page items z h.0) (forest_wide w state next z h.1)
forest_wide w state (Fork page seps kids next) z h = AreOfWidth-and w (leaf_entries kids) (leaf_entries next) (forest_wide w state kids z h.1) (forest_wide w state next z h.2)

-- the entries of a tree have its width
pub tree_wide : {S : Type 0} {g : Ghosts S} {s : S} {tree : Tree} (t : Forest) → HoldsTree g s tree t → AreOfWidth tree.width (leaf_entries t)
tree_wide {S} {g} {s} {tree} t h = forest_wide tree.width (g.state s) t length-zeros h.is_tree.holds
