-- A search goes down a tree.
use Rattle.std.proofs.Common.{◌≡◌, ◌+◌, ℕ, List, [], ◌∷◌, ◌++◌, refl, ap, arith, sym, ◌∙◌, subst, append-nil, length, take, drop}
use Rattle.std.specs.Prelude.{None, IsTrue, ◌↔◌}
use Rattle.std.proofs.lemmas.List.{take-append-drop, length-take-le}
use Rattle.entry_tree.specs.declared.sight.Sight.{Sight}
use Rattle.entry_tree.specs.declared.sight.Sight.TheVariants.{Nothing, AtLeaf, AtInner}
use Rattle.entry_tree.proofs.DescentLemmas.{cut_at, has_at, outside, place_high, place_low}
use Rattle.entry_tree.proofs.ForestLemmas.{Fits-count}
use Rattle.entry_tree.proofs.SightLemmas.{Fits-rises, Rises-wide}
use Rattle.entry_tree.proofs.TreePlacesLemmas.{EachNode-from_plug, Fits-plug}
use Rattle.entry_tree.specs.EntryBounds.{IsEntryOf, Rises}
use Rattle.entry_tree.specs.Forest.{Fits, Forest, HasNode, HoldsForest, IsTree, leaf_entries, heads}
use Rattle.entry_tree.specs.Forest.Forest.{Fork, Leaf, Nil}
use Rattle.entry_tree.specs.Sight.{Sees}
use Rattle.entry_tree.specs.TreePlaces.{IsOnWay, high_of, low_of, plug}
use Rattle.mdc_words.specs.ByteOrder.{Entry}
use Rattle.node_page.specs.Node.{Node}
use Rattle.node_page.specs.Node.Node.{InnerNode, LeafNode}

-- the root is on the way of every entry
pub way_begins : (nodes : ℕ → Node) (root : ℕ) (t : Forest) (x : Entry) → IsTree nodes root t → IsOnWay t x root 0
way_begins nodes root t x w =
    record { above = []; here = t; whole = refl; matched = tt; head = w.head; deep = refl; low = tt; high = tt }

-- what a search may make of the page
abbrev pub Shows : Forest → Entry → ℕ → Sight → Type 0
Shows t x steps Nothing = ⊥
Shows t x steps (AtLeaf at there full) = IsTrue there ↔ IsEntryOf x (leaf_entries t)
Shows t x steps (AtInner at child full) = IsOnWay t x child (steps + 1)

-- what the page of a tree shows
pub shown : (nodes : ℕ → Node) (width root page steps : ℕ) (t : Forest) (x : Entry) → IsTree nodes root t → IsOnWay t x page steps → (sight : Sight) → Sees width (nodes page) x sight
    → Shows t x steps sight
shown nodes width root page steps t x w v sight s =
    let holds = EachNode-from_plug (HasNode nodes) v.above v.here (subst (HoldsForest nodes) v.whole w.holds) in
    let fit = Fits-plug None None v.above v.here page v.matched v.head (subst (Fits None None []) v.whole w.fits) in
    go v.here v.whole v.head holds fit.0 sight s
  where
    outer : (here : Forest) → t ≡ plug v.above here → heads here ≡ page ∷ [] → IsEntryOf x (leaf_entries t) ↔ IsEntryOf x (leaf_entries here)
    outer here e h =
        subst (λ (u : Forest). IsEntryOf x (leaf_entries u) ↔ IsEntryOf x (leaf_entries here)) (sym e)
        (has_at v.above here x (outside None None v.above here page x v.matched h (subst (Fits None None []) e w.fits) v.low v.high))

    leaf : (items : List Entry) → IsEntryOf x (leaf_entries t) ↔ IsEntryOf x (items ++ []) → Rises None None items → (sight : Sight) → Sees width (LeafNode items) x sight
        → Shows t x steps sight
    leaf items o r Nothing s = s
    leaf items o r (AtLeaf at there full) s =
        let q = rw append-nil at o in
        let says = (s.1 r).1 in
        ((λ i. q.1 (says.0 i)), (λ i. says.1 (q.0 i)))
    leaf items o r (AtInner at child full) s = absurd s

    inner : (seps : List Entry) (kids : Forest) → t ≡ plug v.above (Fork page seps kids Nil) → Fits (low_of None v.above) (high_of None v.above) seps kids
        → (sight : Sight) → Sees width (InnerNode seps (heads kids)) x sight
        → Shows t x steps sight
    inner seps kids e f Nothing s = s
    inner seps kids e f (AtLeaf at there full) s = absurd s
    inner seps kids e f (AtInner at child full) s =
        let r = s.1 (Fits-rises _ _ seps kids f) in
        let c = cut_at kids at (omega (arith, Fits-count _ _ seps kids f, r.0.within)) in
        record {
          above = record { page = page; lows = take at seps; left = c.left; highs = drop at seps; right = c.right } ∷ v.above;
          here = c.child;
          whole = e ∙ rw (take-append-drop at seps, ← c.whole);
          matched = (omega (arith, c.count, length-take-le at seps r.0.within), v.matched);
          head = c.head ∙ ap (λ (p : ℕ). p ∷ []) (c.there ∙ sym r.1);
          deep = omega (arith, v.deep);
          low = place_low _ seps x at r.0 v.low;
          high = place_high _ seps x at r.0.after v.high;
        }

    go : (here : Forest) → t ≡ plug v.above here → heads here ≡ page ∷ [] → HoldsForest nodes here → Fits (low_of None v.above) (high_of None v.above) [] here
        → (sight : Sight) → Sees width (nodes page) x sight → Shows t x steps sight
    go (Leaf p items Nil) e h k f sight s =
        let same : p ≡ page = cc in
        leaf items (outer (Leaf p items Nil) e h) (Rises-wide _ _ items f.1) sight (subst (λ (n : Node). Sees width n x sight) (ap nodes (sym same) ∙ k.0) s)
    go (Fork p seps kids Nil) e h k f sight s =
        let same : p ≡ page = cc in
        inner seps kids (e ∙ ap (λ (q : ℕ). plug v.above (Fork q seps kids Nil)) same) f.1 sight (subst (λ (n : Node). Sees width n x sight) (ap nodes (sym same) ∙ k.0) s)
    go here e h k f sight s = absurd (omega (arith, ap length h))
