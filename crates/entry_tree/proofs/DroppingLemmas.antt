-- A leaf that leaves its tree: what stands above and beside it, and what the tree is then.
use Rattle.std.proofs.Common.{◌≡◌, ◌≢◌, ◌<◌, ◌≤◌, ◌+◌, ◌-◌, ℕ, List, [], ◌∷◌, ◌++◌, refl, ap, arith, sym, ◌∙◌, subst, length, get_or, length-append}
use Rattle.std.specs.Prelude.{None}
use Rattle.std.specs.List.{remove}
use Rattle.mdc_words.specs.ByteOrder.{Entry}
use Rattle.node_page.specs.Node.{Node}
use Rattle.node_page.specs.Node.Node.{InnerNode, NoNode}
use Rattle.entry_tree.specs.Forest.{Forest, HasNode, IsTree, IsTrimTree, NoPageTwice, heads, once, times, ◌&◌}
use Rattle.entry_tree.specs.Forest.Forest.{Fork, Leaf, Nil}
use Rattle.entry_tree.specs.Pruning.{IsEmptied, IsPruned, IsSomeNode}
use Rattle.entry_tree.specs.TreeChanges.{IsPut}
use Rattle.entry_tree.specs.TreePlaces.{Frame, plug}
use Rattle.entry_tree.proofs.DropLemmas.{node_of as node_at}
use Rattle.entry_tree.proofs.ForestLemmas.{EachNode-and, EachNode-from_and, HoldsForest-agree, once_same, times-and}
use Rattle.entry_tree.proofs.PruningLemmas.{node_there, other_heads, pruned_collapsed, pruned_fork}
use Rattle.entry_tree.proofs.TreePlacesLemmas.{EachNode-from_plug, Fits-plug, times-plug}
use Rattle.entry_tree.proofs.WayLemmas.{head_times}

-- the node above a leaf that is to go
pub record NodeAbove (now : ℕ → Node) (t : Forest) (leaf page at : ℕ) : Type 0 where
  pub seps : List Entry
  pub children : List ℕ
  pub node : now page ≡ InnerNode seps children
  pub within : at ≤ length seps
  pub apart : page ≢ leaf
  pub there : 0 < times page t
  pub leaf_there : 0 < times leaf t

-- how often a page stands around the leaf
around : (f : Frame) (fs : List Frame) (leaf : ℕ) (items : List Entry) (n : ℕ) → NoPageTwice (plug (f ∷ fs) (Leaf leaf items Nil))
    → once n f.page + (times n (f.left & f.right) + once n leaf) ≤ 1
around f fs leaf items n d =
    omega (arith, d n, times-plug n (f ∷ fs) (Leaf leaf items Nil), times-and n f.left f.right)

once_is : (n page : ℕ) → n ≡ page → once n page ≡ 1
once_is n page e = subst (λ (v : ℕ). once v page ≡ 1) (sym e) (once_same page)

pub node_above : (was now : ℕ → Node) (root : ℕ) (t : Forest) (f : Frame) (fs : List Frame) (leaf page at : ℕ) → IsEmptied was now root t f fs leaf page at → NodeAbove now t leaf page at
node_above was now root t f fs leaf page at m =
    let whole : Forest = plug (f ∷ fs) (Leaf leaf m.items Nil) in
    let w : IsTree was root whole = subst (IsTree was root) m.whole m.is_tree in
    let apart : f.page ≢ leaf = (λ (e : f.page ≡ leaf). omega (arith, around f fs leaf m.items leaf w.distinct, once_is leaf f.page (sym e), once_same leaf)) in
    let holds = EachNode-from_plug (HasNode was) fs (Fork f.page (f.lows ++ f.highs) (f.left & Leaf leaf m.items f.right) Nil) w.holds in
    let up : times f.page t ≡ times f.page whole = ap (times f.page) m.whole in
    let down : times leaf t ≡ times leaf whole = ap (times leaf) m.whole in
    record {
      seps = f.lows ++ f.highs;
      children = heads (f.left & Leaf leaf m.items f.right);
      node = ap now (sym m.page_is) ∙ (m.same f.page apart ∙ holds.0);
      within = omega (arith, m.at_is, length-append f.lows f.highs);
      apart = subst (λ (v : ℕ). v ≢ leaf) m.page_is apart;
      there = subst (λ (v : ℕ). 0 < times v t) m.page_is (omega (arith, up, times-plug f.page (f ∷ fs) (Leaf leaf m.items Nil), once_same f.page));
      leaf_there = omega (arith, down, times-plug leaf (f ∷ fs) (Leaf leaf m.items Nil), once_same leaf);
    }

-- the leaf goes from a node that keeps two children at least
pub drops_inner : (was now new : ℕ → Node) (root : ℕ) (t : Forest) (f : Frame) (fs : List Frame) (leaf page at : ℕ) (m : IsEmptied was now root t f fs leaf page at)
    → 1 < length (node_above was now root t f fs leaf page at m).seps
    → IsPut now new page (InnerNode (remove (node_above was now root t f fs leaf page at m).seps (at - 1)) (remove (node_above was now root t f fs leaf page at m).children at))
    → IsPruned new root t (f ∷ fs) [] (leaf ∷ [])
unfolding node_above
drops_inner was now new root t f fs leaf page at m some put =
    subst (λ (u : Forest). IsPruned new root u (f ∷ fs) [] (leaf ∷ [])) (sym m.whole)
    (pruned_fork was new root leaf m.items f fs m.matched (subst (IsTree was root) m.whole m.is_tree) (subst IsTrimTree m.whole m.trim) some
    (ap new m.page_is ∙ (put.there ∙ ap (λ (v : ℕ). InnerNode (remove (f.lows ++ f.highs) (v - 1)) (remove (heads (f.left & Leaf leaf m.items f.right)) v)) (sym m.at_is)))
    (λ n d e. put.others n (subst (λ (v : ℕ). n ≢ v) m.page_is d) ∙ m.same n e))

-- the other child, where the node has one alone
pub record OtherChild (was now : ℕ → Node) (t : Forest) (leaf page other : ℕ) : Type 0 where
  pub there : 0 < times other t
  pub apart : other ≢ leaf
  pub apart_above : other ≢ page
  pub is_node : IsSomeNode (now other)
  pub same : now other ≡ was other

node_at-some : (t : Forest) (q : ℕ) → heads t ≡ q ∷ [] → IsSomeNode (node_at t)
node_at-some Nil q e = cc
node_at-some (Leaf p items next) q e = λ k. cc
node_at-some (Fork p seps kids next) q e = λ k. cc

pub other_above : (was now : ℕ → Node) (root : ℕ) (t : Forest) (f : Frame) (fs : List Frame) (leaf page at other : ℕ) (m : IsEmptied was now root t f fs leaf page at)
    → length (node_above was now root t f fs leaf page at m).seps ≡ 1 → other ≡ get_or (node_above was now root t f fs leaf page at m).children (1 - at) 0
    → OtherChild was now t leaf page other
unfolding node_above
other_above was now root t f fs leaf page at other m one is =
    let whole : Forest = plug (f ∷ fs) (Leaf leaf m.items Nil) in
    let w : IsTree was root whole = subst (IsTree was root) m.whole m.is_tree in
    let fit = Fits-plug None None fs (Fork f.page (f.lows ++ f.highs) (f.left & Leaf leaf m.items f.right) Nil) f.page m.matched.1 refl w.fits in
    let head : heads (f.left & f.right) ≡ other ∷ [] =
    other_heads _ _ root leaf other m.items f m.matched.0 fit.0.1 one (is ∙ ap (λ (v : ℕ). get_or (heads (f.left & Leaf leaf m.items f.right)) (1 - v) 0) (sym m.at_is)) in
    let some : 0 < times other (f.left & f.right) = head_times (f.left & f.right) other head in
    let all : once other f.page + (times other (f.left & f.right) + once other leaf) ≤ 1 = around f fs leaf m.items other w.distinct in
    let apart : other ≢ leaf = (λ (e : other ≡ leaf). omega (arith, some, all, once_is other leaf e)) in
    let holds = EachNode-from_plug (HasNode was) fs (Fork f.page (f.lows ++ f.highs) (f.left & Leaf leaf m.items f.right) Nil) w.holds in
    let l = EachNode-from_and (HasNode was) f.left (Leaf leaf m.items f.right) holds.1 in
    let node : was other ≡ node_at (f.left & f.right) = node_there was other (f.left & f.right) head (EachNode-and (HasNode was) f.left f.right l.0 l.1.1) in
    let same : now other ≡ was other = m.same other apart in
    let count : times other t ≡ times other whole = ap (times other) m.whole in
    record {
      there = omega (arith, some, count, times-plug other (f ∷ fs) (Leaf leaf m.items Nil), times-and other f.left f.right);
      apart = apart;
      apart_above = subst (λ (v : ℕ). other ≢ v) m.page_is (λ (e : other ≡ f.page). omega (arith, some, all, once_is other f.page e));
      is_node = (λ (k : now other ≡ NoNode). node_at-some (f.left & f.right) other head (sym (same ∙ node) ∙ k));
      same = same;
    }

-- the leaf goes from a node that would keep one child alone, and takes what this one has
pub drops_other : (was now new : ℕ → Node) (root : ℕ) (t : Forest) (f : Frame) (fs : List Frame) (leaf page at other : ℕ) (m : IsEmptied was now root t f fs leaf page at)
    → length (node_above was now root t f fs leaf page at m).seps ≡ 1 → other ≡ get_or (node_above was now root t f fs leaf page at m).children (1 - at) 0
    → IsPut now new page (now other) → IsPruned new root t (f ∷ fs) [] (other ∷ leaf ∷ [])
unfolding node_above
drops_other was now new root t f fs leaf page at other m one is put =
    let o = other_above was now root t f fs leaf page at other m one is in
    subst (λ (u : Forest). IsPruned new root u (f ∷ fs) [] (other ∷ leaf ∷ [])) (sym m.whole)
    (pruned_collapsed was new root leaf other m.items f fs m.matched (subst (IsTree was root) m.whole m.is_tree) (subst IsTrimTree m.whole m.trim) one
    (is ∙ ap (λ (v : ℕ). get_or (heads (f.left & Leaf leaf m.items f.right)) (1 - v) 0) (sym m.at_is))
    (ap new m.page_is ∙ (put.there ∙ o.same))
    (λ n d e. put.others n (subst (λ (v : ℕ). n ≢ v) m.page_is d) ∙ m.same n e))

-- the same, where the pages of the tree are as they were
pub IsPruned-agree : (old new : ℕ → Node) (root : ℕ) (t : Forest) (above : List Frame) (kept : List Entry) (gone : List ℕ)
    → ((n : ℕ) → 0 < times n t → new n ≡ old n) → IsPruned old root t above kept gone → IsPruned new root t above kept gone
IsPruned-agree old new root t above kept gone same p =
    record {
      after = p.after;
      tree = record {
        head = p.tree.head;
        holds = HoldsForest-agree old new p.after (λ n l. same n (omega (arith, l, p.counts n))) p.tree.holds;
        fits = p.tree.fits;
        distinct = p.tree.distinct;
      };
      trim = p.trim;
      entries = p.entries;
      leaves = p.leaves;
      counts = p.counts;
    }
