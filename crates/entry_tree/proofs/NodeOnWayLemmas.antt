-- A step on the way down, with what bounds the child.
use Rattle.std.proofs.Common.{◌≡◌, ◌+◌, ℕ, List, [], ◌∷◌, refl, ap, arith, sym, ◌∙◌, subst, length, get_or, take, drop, ◌⊎◌, inl, inr}
use Rattle.std.specs.Prelude.{None}
use Rattle.std.proofs.lemmas.List.{take-append-drop, length-take-le}
use Rattle.mdc_words.specs.ByteOrder.{Entry}
use Rattle.node_page.specs.Node.{Node}
use Rattle.node_page.specs.Node.Node.{InnerNode, LeafNode}
use Rattle.entry_tree.specs.EntryBounds.{Room, Rises}
use Rattle.entry_tree.specs.Forest.{Fits, Forest, HasNode, HoldsForest, IsTree, heads}
use Rattle.entry_tree.specs.Forest.Forest.{Fork, Leaf, Nil}
use Rattle.entry_tree.specs.TreePlaces.{AreMatched, Frame, IsChildPlace, IsOnWay, high_of, low_of, plug}
use Rattle.entry_tree.proofs.DescentLemmas.{cut_at, place_high, place_low}
use Rattle.entry_tree.proofs.ForestLemmas.{Fits-count}
use Rattle.entry_tree.proofs.SightLemmas.{Fits-rises}
use Rattle.entry_tree.proofs.TreePlacesLemmas.{EachNode-from_plug, Fits-plug}

-- the page of a tree is a leaf, with entries between the bounds of its place
pub record LeafOnWay (nodes : ℕ → Node) (t : Forest) (above : List Frame) (page : ℕ) : Type 0 where
  pub items : List Entry
  pub node : nodes page ≡ LeafNode items
  pub whole : t ≡ plug above (Leaf page items Nil)
  pub room : Room (low_of None above) (high_of None above)
  pub rises : Rises (low_of None above) (high_of None above) items

-- or a node over children, with separators that rise
pub record InnerOnWay (nodes : ℕ → Node) (t : Forest) (above : List Frame) (page : ℕ) : Type 0 where
  pub seps : List Entry
  pub kids : Forest
  pub node : nodes page ≡ InnerNode seps (heads kids)
  pub whole : t ≡ plug above (Fork page seps kids Nil)
  pub fits : Fits (low_of None above) (high_of None above) seps kids
  pub count : length (heads kids) ≡ length seps + 1
  pub rises : Rises None None seps

pub node_on_way : (nodes : ℕ → Node) (root page steps : ℕ) (t : Forest) (x : Entry) → IsTree nodes root t → (v : IsOnWay t x page steps)
    → LeafOnWay nodes t v.above page ⊎ InnerOnWay nodes t v.above page
node_on_way nodes root page steps t x w v =
    let holds = EachNode-from_plug (HasNode nodes) v.above v.here (subst (HoldsForest nodes) v.whole w.holds) in
    let fit = Fits-plug None None v.above v.here page v.matched v.head (subst (Fits None None []) v.whole w.fits) in
    go v.here v.whole v.head holds fit.0
  where
    go : (here : Forest) → t ≡ plug v.above here → heads here ≡ page ∷ [] → HoldsForest nodes here → Fits (low_of None v.above) (high_of None v.above) [] here
        → LeafOnWay nodes t v.above page ⊎ InnerOnWay nodes t v.above page
    go (Leaf p items Nil) e h k f =
        let same : p ≡ page = cc in
        inl (record {
          items = items;
          node = ap nodes (sym same) ∙ k.0;
          whole = e ∙ ap (λ (q : ℕ). plug v.above (Leaf q items Nil)) same;
          room = f.0;
          rises = f.1;
        })
    go (Fork p seps kids Nil) e h k f =
        let same : p ≡ page = cc in
        inr (record {
          seps = seps;
          kids = kids;
          node = ap nodes (sym same) ∙ k.0;
          whole = e ∙ ap (λ (q : ℕ). plug v.above (Fork q seps kids Nil)) same;
          fits = f.1;
          count = Fits-count _ _ seps kids f.1;
          rises = Fits-rises _ _ seps kids f.1;
        })
    go here e h k f = absurd (omega (arith, ap length h))

-- a child on the way, and the frame around it
pub record ChildOnWay (t : Forest) (x : Entry) (page steps : ℕ) (above : List Frame) (seps : List Entry) (i child : ℕ) : Type 0 where
  pub frame : Frame
  pub here : Forest
  pub whole : t ≡ plug (frame ∷ above) here
  pub matched : AreMatched (frame ∷ above)
  pub head : heads here ≡ child ∷ []
  pub way : IsOnWay t x child (steps + 1)
  pub above_is : way.above ≡ frame ∷ above
  pub page_is : frame.page ≡ page
  pub lows : frame.lows ≡ take i seps
  pub highs : frame.highs ≡ drop i seps

pub child_on_way : (nodes : ℕ → Node) (page steps : ℕ) (t : Forest) (x : Entry) (v : IsOnWay t x page steps) (n : InnerOnWay nodes t v.above page) (i child : ℕ)
    → IsChildPlace n.seps x i → child ≡ get_or (heads n.kids) i 0 → ChildOnWay t x page steps v.above n.seps i child
child_on_way nodes page steps t x v n i child p k =
    let c = cut_at n.kids i (omega (arith, n.count, p.within)) in
    let f : Frame = record { page = page; lows = take i n.seps; left = c.left; highs = drop i n.seps; right = c.right } in
    let whole : t ≡ plug (f ∷ v.above) c.child = n.whole ∙ rw (take-append-drop i n.seps, ← c.whole) in
    let matched : AreMatched (f ∷ v.above) = (omega (arith, c.count, length-take-le i n.seps p.within), v.matched) in
    let head : heads c.child ≡ child ∷ [] = c.head ∙ ap (λ (q : ℕ). q ∷ []) (c.there ∙ sym k) in
    record {
      frame = f;
      here = c.child;
      whole = whole;
      matched = matched;
      head = head;
      way = record {
        above = f ∷ v.above;
        here = c.child;
        whole = whole;
        matched = matched;
        head = head;
        deep = omega (arith, v.deep);
        low = place_low _ n.seps x i p v.low;
        high = place_high _ n.seps x i p.after v.high;
      };
      above_is = refl;
      page_is = refl;
      lows = refl;
      highs = refl;
    }
