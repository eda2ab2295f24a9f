-- An entry or a separator is written over on a page.
use Rattle.std.proofs.Common.{◌≡◌, ◌≢◌, ◌<◌, ◌≤◌, ◌*◌, ℕ, List, [], refl, ap, arith, sym, ◌∙◌, subst, length, get_or-set_same, set}
use Rattle.std.specs.Prelude.{Option, Some, None, true, false, Bool, IsTrue, if◌then◌else◌, slice_set}
use Rattle.mdc_words.specs.ByteOrder.{Entry}
use Rattle.node_page.specs.Node.{Node, node_of, stated_entries}
use Rattle.node_page.specs.Node.Node.{InnerNode, LeafNode, NoNode}
use Rattle.node_page.specs.Looked.{SeenNode, seen_node, entries_in, is_leaf_node, item_width, fork_width}
use Rattle.store_api.specs.Calls.{Edits}
use Rattle.store_api.specs.StoreState.{StoreState, page_at, seen}
use Rattle.store_api.specs.RunsOverPages.{RunsOverPages}
use Rattle.store_api.specs.declared.fault.StoreFault.{StoreFault}
use Rattle.store_api.specs.declared.fault.StoreFault.TheVariants.{Damaged}
use Rattle.store_api.specs.declared.pages.Pages.{Ghosts}
use Rattle.store_api.proofs.RunsOverPagesLemmas.{runs_damage}
use Rattle.entry_tree.specs.Amending.{BreaksSlot, SetsAt}
use Rattle.entry_tree.specs.HeldTrees.{nodes_in}
use Rattle.entry_tree.specs.Slots.{HasInnerSlot, HasLeafSlot, HasNoSlot}
use Rattle.entry_tree.specs.declared.tree.Tree.{Tree}
use Rattle.entry_tree.proofs.HeldTreesLemmas.{nodes_in-past}
use Rattle.entry_tree.proofs.PassedLemmas.{Looks}

-- what a look makes of a place
pub no_look : (w : ℕ) (bytes : List ℕ) (seen : Option SeenNode) (at : ℕ) → Looks w bytes seen → seen ≡ None → HasNoSlot w bytes at
no_look w bytes seen at l e = record {
  leaf = λ items q h. let k = l.leaf items q in cc;
  inner = λ seps children q h. let k = l.inner seps children q in cc;
}

pub past_look : (w : ℕ) (bytes : List ℕ) (seen : Option SeenNode) (view : SeenNode) (at : ℕ) → Looks w bytes seen → seen ≡ Some view → length (entries_in view.node) ≤ at → HasNoSlot w bytes at
past_look w bytes seen view at l e past = record {
  leaf = λ items q h.
      let same : view ≡ seen_node w (LeafNode items) = let k = l.leaf items q in cc in
      let p : length items ≤ at = subst (λ (v : SeenNode). length (entries_in v.node) ≤ at) same past in omega (arith, p, h);
  inner = λ seps children q h.
      let same : view ≡ seen_node w (InnerNode seps children) = let k = l.inner seps children q in cc in
      let p : length seps ≤ at = subst (λ (v : SeenNode). length (entries_in v.node) ≤ at) same past in omega (arith, p, h);
}

leaf_width : (w : ℕ) (n : Node) → is_leaf_node n ≡ true → item_width w n ≡ w
leaf_width w (LeafNode items) e = refl
leaf_width w (InnerNode seps children) e = cc
leaf_width w NoNode e = cc

inner_width : (w : ℕ) (n : Node) (at : ℕ) → is_leaf_node n ≡ false → at < length (entries_in n) → item_width w n ≡ fork_width w
inner_width w (LeafNode items) at e h = cc
inner_width w (InnerNode seps children) at e h = refl
inner_width w NoNode at e h = absurd (omega arith)

pub leaf_look : (w : ℕ) (bytes : List ℕ) (seen : Option SeenNode) (view : SeenNode) (at : ℕ) → Looks w bytes seen → seen ≡ Some view → at < length (entries_in view.node) → is_leaf_node view.node ≡ true
    → length (entries_in view.node) ≡ stated_entries bytes → stated_entries bytes * item_width w view.node ≤ 4080 → HasLeafSlot w bytes at
leaf_look w bytes seen view at l e h k c f = record {
  place = omega (arith, h, c);
  fits = subst (λ (n : ℕ). stated_entries bytes * n ≤ 4080) (leaf_width w view.node k) f;
  no_inner = λ seps children q.
      let same : view ≡ seen_node w (InnerNode seps children) = let s = l.inner seps children q in cc in
      let wrong : false ≡ true = subst (λ (v : SeenNode). is_leaf_node v.node ≡ true) same k in cc;
}

pub inner_look : (w : ℕ) (bytes : List ℕ) (seen : Option SeenNode) (view : SeenNode) (at : ℕ) → Looks w bytes seen → seen ≡ Some view → at < length (entries_in view.node) → is_leaf_node view.node ≡ false
    → length (entries_in view.node) ≡ stated_entries bytes → stated_entries bytes * item_width w view.node ≤ 4080 → HasInnerSlot w bytes at
inner_look w bytes seen view at l e h k c f = record {
  place = omega (arith, h, c);
  fits = subst (λ (n : ℕ). stated_entries bytes * n ≤ 4080) (inner_width w view.node at k h) f;
  no_leaf = λ items q.
      let same : view ≡ seen_node w (LeafNode items) = let s = l.leaf items q in cc in
      let wrong : true ≡ false = subst (λ (v : SeenNode). is_leaf_node v.node ≡ false) same k in cc;
}

-- a store that shows a node tells what it holds
told_of : (w : ℕ) (s : StoreState) (p : ℕ) (node : Node) → nodes_in w s p ≡ node → node ≢ NoNode → s.is_told ≡ true
told_of w s p node e d = go s.is_told refl e
  where
    go : (b : Bool) → s.is_told ≡ b → (if b then node_of w (page_at s.work p) else NoNode) ≡ node → b ≡ true
    go true q e = refl
    go false q e = absurd (d (sym e))

told_node : (w : ℕ) (s : StoreState) (p : ℕ) → s.is_told ≡ true → nodes_in w s p ≡ node_of w (page_at s.work p)
told_node w s p e = rw e refl

-- the page that was lent, once it has been given back
edited : (w p : ℕ) (bytes : List ℕ) (old new : StoreState) → Edits p bytes old new → p < length old.work → old.is_told ≡ true → nodes_in w new p ≡ node_of w bytes
edited w p bytes old new is within told =
    let same : new.work ≡ set old.work p bytes = ap (λ s. s.work) is ∙ ap (λ b. seen b (set old.work p bytes)) told in
    told_node w new p (ap (λ s. s.is_told) is ∙ told) ∙ ap (λ all. node_of w (page_at all p)) same ∙ ap (node_of w) (get_or-set_same old.work p bytes [] within)

-- what was written over
pub sets_at : {S : Type 0} {g : Ghosts S} {old new : S} (w page at : ℕ) (x : Entry) (was bytes : List ℕ) → Edits page bytes (g.state old) (g.state new) → page < length (g.state old).work
    → (IsTrue (g.state old).is_told → was ≡ page_at (g.state old).work page)
    → ((items : List Entry) → node_of w was ≡ LeafNode items → node_of w bytes ≡ LeafNode (slice_set items at x))
    → ((seps : List Entry) (children : List ℕ) → node_of w was ≡ InnerNode seps children → node_of w bytes ≡ InnerNode (slice_set seps at x) children)
    → SetsAt g old new w page at x
sets_at {S} {g} {old} {new} w page at x was bytes is within lent leaf inner = record {
  leaf = λ items e.
      let told = told_of w (g.state old) page (LeafNode items) e (λ q. cc) in
      edited w page bytes (g.state old) (g.state new) is within told ∙ leaf items (ap (node_of w) (lent told) ∙ sym (told_node w (g.state old) page told) ∙ e);
  inner = λ seps children e.
      let told = told_of w (g.state old) page (InnerNode seps children) e (λ q. cc) in
      edited w page bytes (g.state old) (g.state new) is within told ∙ inner seps children (ap (node_of w) (lent told) ∙ sym (told_node w (g.state old) page told) ∙ e);
}

-- and what has no such place
pub breaks_at : {S : Type 0} {g : Ghosts S} {old : S} {tree : Tree} (page at : ℕ) (was : List ℕ)
    → (IsTrue (g.state old).is_told → was ≡ page_at (g.state old).work page)
    → ((items : List Entry) → node_of tree.width was ≡ LeafNode items → at < length items → ⊥)
    → ((seps : List Entry) (children : List ℕ) → node_of tree.width was ≡ InnerNode seps children → at < length seps → ⊥)
    → BreaksSlot g old tree page at (record { page = tree.root; rule = 4 })
breaks_at {S} {g} {old} {tree} page at was lent leaf inner = record {
  page_is = refl;
  rule = refl;
  leaf = λ items e.
      let told = told_of tree.width (g.state old) page (LeafNode items) e (λ q. cc) in
      leaf items (ap (node_of tree.width) (lent told) ∙ sym (told_node tree.width (g.state old) page told) ∙ e);
  inner = λ seps children e.
      let told = told_of tree.width (g.state old) page (InnerNode seps children) e (λ q. cc) in
      inner seps children (ap (node_of tree.width) (lent told) ∙ sym (told_node tree.width (g.state old) page told) ∙ e);
}

-- a page past the count has none
pub past_slot : {S : Type 0} {g : Ghosts S} {old : S} {tree : Tree} (page at : ℕ) → length (g.state old).work ≤ page → BreaksSlot g old tree page at (record { page = tree.root; rule = 4 })
past_slot {S} {g} {old} {tree} page at past = record {
  page_is = refl;
  rule = refl;
  leaf = λ items e l. let n = nodes_in-past tree.width (g.state old) page past in let k : NoNode ≡ LeafNode items = sym n ∙ e in cc;
  inner = λ seps children e l. let n = nodes_in-past tree.width (g.state old) page past in let k : NoNode ≡ InnerNode seps children = sym n ∙ e in cc;
}

-- a run that meets a page without it
pub runs_slot : {S : Type 0} {g : Ghosts S} {Mine Kind : ℕ → Type 0} {old new : S} {tree : Tree} (page at : ℕ) (fault : StoreFault) → fault ≡ Damaged (record { page = tree.root; rule = 4 })
    → RunsOverPages g Mine Kind (BreaksSlot g old tree page at) old new None → BreaksSlot g old tree page at (record { page = tree.root; rule = 4 })
    → RunsOverPages g Mine Kind (BreaksSlot g old tree page at) old new (Some fault)
runs_slot {S} {g} {Mine} {Kind} {old} {new} {tree} page at fault is run breaks =
    subst (λ (f : StoreFault). RunsOverPages g Mine Kind (BreaksSlot g old tree page at) old new (Some f)) (sym is) (runs_damage run breaks)
