-- A leaf that is empty is taken out.
use Rattle.std.proofs.Common.{◌≡◌, ◌≢◌, ◌≤◌, ◌+◌, ℕ, List, [], ◌∷◌, refl, ap, arith, sym, subst, length}
use Rattle.std.specs.Prelude.{None}
use Rattle.entry_tree.proofs.ForestLemmas.{HoldsForest-agree, leaf_entries-and, once_least, once_same}
use Rattle.entry_tree.proofs.TreeChangesLemmas.{changed, row_change, within_plug}
use Rattle.entry_tree.proofs.TreePlacesLemmas.{EachNode-from_plug, Fits-plug, times-plug}
use Rattle.entry_tree.specs.Forest.{Fits, Forest, HasNode, HoldsForest, IsTree, leaf_entries, heads, once, times, ◌&◌}
use Rattle.entry_tree.specs.Forest.Forest.{Fork, Leaf, Nil}
use Rattle.entry_tree.specs.TreePlaces.{AreMatched, Frame, high_of, low_of, plug}
use Rattle.mdc_words.specs.ByteOrder.{Entry}
use Rattle.node_page.specs.Node.{Node}
use Rattle.node_page.specs.Node.Node.{InnerNode, LeafNode, NoNode}

-- 6. a node loses the child `gone`, and goes on with the separators `more`. `fits` is by drop_first or drop_later.
pub child_dropped : (old new : ℕ → Node) (root : ℕ) (fs : List Frame) (page : ℕ) (seps more : List Entry) (left gone right : Forest)
    → AreMatched fs → IsTree old root (plug fs (Fork page seps (left & (gone & right)) Nil))
    → Fits (low_of None fs) (high_of None fs) more (left & right)
    → new page ≡ InnerNode more (heads (left & right)) → ((n : ℕ) → n ≢ page → times n gone ≡ 0 → new n ≡ old n)
    → IsTree new root (plug fs (Fork page more (left & right) Nil))
child_dropped old new root fs page seps more left gone right m w f e o =
    changed old new root fs (Fork page seps (left & (gone & right)) Nil) (Fork page more (left & right) Nil) page m refl w
    (row_change old new _ _ _ page seps more left gone Nil right f (EachNode-from_plug (HasNode old) fs (Fork page seps (left & (gone & right)) Nil) w.holds) w.distinct
    (λ n. (within_plug fs page seps left gone right n).0) tt (λ n. omega arith) (λ n l z. absurd (omega arith)) e (λ n x y z. o n x y))

-- a tree on another page
abbrev pub moved : ℕ → Forest → Forest
moved page Nil = Nil
moved page (Leaf p items next) = Leaf page items next
moved page (Fork p seps kids next) = Fork page seps kids next

abbrev pub node_of : Forest → Node
node_of Nil = NoNode
node_of (Leaf p items next) = LeafNode items
node_of (Fork p seps kids next) = InnerNode seps (heads kids)

-- a node over one child takes what the child has, and the child's page is free
pub collapsed : (old new : ℕ → Node) (root : ℕ) (fs : List Frame) (page q : ℕ) (child : Forest)
    → AreMatched fs → heads child ≡ q ∷ [] → IsTree old root (plug fs (Fork page [] child Nil))
    → new page ≡ node_of child → ((n : ℕ) → n ≢ page → n ≢ q → new n ≡ old n)
    → IsTree new root (plug fs (moved page child))
collapsed old new root fs page q (Leaf p items Nil) m h w e o =
    changed old new root fs (Fork page [] (Leaf p items Nil) Nil) (Leaf page items Nil) page m refl w
    (record {
      head = refl;
      holds = (e, tt);
      fits = (f.0.1.0, f.0.1.1, refl);
      distinct = λ n. omega (arith, once_least n page);
      fresh = λ n l z. absurd (omega arith);
      wrote = λ n z y. o n (is_not n page (omega arith)) (subst (λ (v : ℕ). n ≢ v) same (is_not n p (omega arith)));
    })
  where
    f : Fits (low_of None fs) (high_of None fs) [] (Fork page [] (Leaf p items Nil) Nil) × ((u : Forest) → Fits (low_of None fs) (high_of None fs) [] u → Fits None None [] (plug fs u))
    f = Fits-plug None None fs (Fork page [] (Leaf p items Nil) Nil) page m refl w.fits

    same : p ≡ q
    same = cc

    is_not : (n p : ℕ) → once n p ≡ 0 → n ≢ p
    is_not n p z y = let x : once n p ≡ 1 = subst (λ (v : ℕ). once v p ≡ 1) (sym y) (once_same p) in omega arith
collapsed old new root fs page q (Fork p seps kids Nil) m h w e o =
    changed old new root fs (Fork page [] (Fork p seps kids Nil) Nil) (Fork page seps kids Nil) page m refl w
    (record {
      head = refl;
      holds = (e, kept, tt);
      fits = (f.0.1.0, f.0.1.1, refl);
      distinct = λ n. omega (arith, d n);
      fresh = λ n l z. absurd (omega arith);
      wrote = λ n z y. o n (is_not n page (omega arith)) (subst (λ (v : ℕ). n ≢ v) same (is_not n p (omega arith)));
    })
  where
    f : Fits (low_of None fs) (high_of None fs) [] (Fork page [] (Fork p seps kids Nil) Nil) × ((u : Forest) → Fits (low_of None fs) (high_of None fs) [] u → Fits None None [] (plug fs u))
    f = Fits-plug None None fs (Fork page [] (Fork p seps kids Nil) Nil) page m refl w.fits

    same : p ≡ q
    same = cc

    is_not : (n p : ℕ) → once n p ≡ 0 → n ≢ p
    is_not n p z y = let x : once n p ≡ 1 = subst (λ (v : ℕ). once v p ≡ 1) (sym y) (once_same p) in omega arith

    d : (n : ℕ) → once n page + (once n p + times n kids) ≤ 1
    d n = omega (arith, w.distinct n, times-plug n fs (Fork page [] (Fork p seps kids Nil) Nil))

    kept : HoldsForest new kids
    kept =
        HoldsForest-agree old new kids
        (λ n l. o n (is_not n page (omega (arith, d n))) (subst (λ (v : ℕ). n ≢ v) same (is_not n p (omega (arith, d n)))))
        (EachNode-from_plug (HasNode old) fs (Fork page [] (Fork p seps kids Nil) Nil) w.holds).1.1
collapsed old new root fs page q child m h w e o = absurd (omega (arith, ap length h))

-- an empty leaf has no leaf_entries, so the leaf_entries stay
pub dropped_entries : (page q : ℕ) (seps more : List Entry) (left right : Forest)
    → leaf_entries (Fork page more (left & right) Nil) ≡ leaf_entries (Fork page seps (left & (Leaf q [] Nil & right)) Nil)
dropped_entries page q seps more left right = simp leaf_entries-and
