-- What a look at a page shows to a way down, and where an entry belongs among others.
use Rattle.std.proofs.Common.{◌≡◌, ◌<◌, ◌-◌, ℕ, zero, suc, List, [], ◌∷◌, refl, arith, sym, subst, get_or}
use Rattle.std.specs.Prelude.{Option, Some, None, true, false, Bool, IsTrue, ◌↔◌, if◌then◌else◌}
use Rattle.mdc_words.specs.ByteOrder.{Entry, below}
use Rattle.node_page.specs.Node.{Node, node_of}
use Rattle.node_page.specs.Node.Node.{InnerNode, LeafNode, NoNode}
use Rattle.node_page.specs.Entries.{EntriesRise, StandsAt, child_in, place_in}
use Rattle.node_page.specs.Looked.{SeenNode, seen_node, entries_in, children_in, is_leaf_node}
use Rattle.store_api.specs.StoreState.{StoreState, page_at}
use Rattle.entry_tree.specs.HeldTrees.{nodes_in}
use Rattle.entry_tree.specs.EntryBounds.{Climbs, Rises, IsLeafPlace}
use Rattle.entry_tree.specs.Spots.{LendsLeaf, MeetsOnWay, fence_before, fence_behind}
use Rattle.entry_tree.specs.TreePlaces.{IsChildPlace}
use Rattle.entry_tree.specs.declared.spot.Fence.{Fence}
use Rattle.entry_tree.specs.declared.spot.Passed.{Passed}
use Rattle.entry_tree.specs.declared.spot.Passed.TheVariants.{NoNodeThere, LeafThere, ChildThere}

Climbs-rise : (x : Entry) (xs : List Entry) → Climbs x None xs → EntriesRise (x ∷ xs)
Climbs-rise x [] h = tt
Climbs-rise x (y ∷ ys) h = (h.0, Climbs-rise y ys h.2)

rise_of : (xs : List Entry) → Rises None None xs → EntriesRise xs
rise_of [] h = tt
rise_of (x ∷ xs) h = Climbs-rise x xs h.2

-- the place of the first entry that isn't below x
place_in-is : (x : Entry) (xs : List Entry) → IsLeafPlace xs x (place_in x xs)
place_in-is x [] = record { within = omega arith; before = λ k l. absurd (omega arith); after = λ l. absurd (omega arith) }
place_in-is x (y ∷ ys) = go (below y x) refl (place_in-is x ys)
  where
    go : (b : Bool) → below y x ≡ b → IsLeafPlace ys x (place_in x ys) → IsLeafPlace (y ∷ ys) x (if b then suc (place_in x ys) else 0)
    go true e r = record {
      within = let w = r.within in omega arith;
      before = λ k l. at k l;
      after = λ l. r.after (omega arith);
    }
      where
        at : (k : ℕ) → k < suc (place_in x ys) → below (get_or (y ∷ ys) k []) x ≡ true
        at zero l = e
        at (suc k) l = r.before k (omega arith)
    go false e r = record { within = omega arith; before = λ k l. absurd (omega arith); after = λ l. e }

-- the child below which x belongs
child_in-is : (x : Entry) (xs : List Entry) → IsChildPlace xs x (child_in x xs)
child_in-is x [] = record { within = omega arith; before = λ l. absurd (omega arith); after = λ l. absurd (omega arith) }
child_in-is x (y ∷ ys) = go (below x y) refl (child_in-is x ys)
  where
    first : (i : ℕ) → below x y ≡ false → (0 < i → below x (get_or ys (i - 1) []) ≡ false) → below x (get_or (y ∷ ys) (suc i - 1) []) ≡ false
    first zero e r = e
    first (suc i) e r =
        let k : suc (suc i) - 1 ≡ suc i = omega arith in
        let j : suc i - 1 ≡ i = omega arith in
        subst (λ (n : ℕ). below x (get_or (y ∷ ys) n []) ≡ false) (sym k) (subst (λ (n : ℕ). below x (get_or ys n []) ≡ false) j (r (omega arith)))

    go : (b : Bool) → below x y ≡ b → IsChildPlace ys x (child_in x ys) → IsChildPlace (y ∷ ys) x (if b then 0 else suc (child_in x ys))
    go true e r = record { within = omega arith; before = λ l. absurd (omega arith); after = λ l. e }
    go false e r = record {
      within = let w = r.within in omega arith;
      before = λ l. first (child_in x ys) e r.before;
      after = λ l. r.after (omega arith);
    }

-- what a look says of a page that is a node
pub record Looks (w : ℕ) (bytes : List ℕ) (seen : Option SeenNode) : Type 0 where
  pub leaf : (entries : List Entry) → node_of w bytes ≡ LeafNode entries → seen ≡ Some (seen_node w (LeafNode entries))
  pub inner : (separators : List Entry) (children : List ℕ) → node_of w bytes ≡ InnerNode separators children → seen ≡ Some (seen_node w (InnerNode separators children))

pub none_passed : (w : ℕ) (bytes : List ℕ) (seen : Option SeenNode) (page : ℕ) (x : Entry) → Looks w bytes seen → seen ≡ None → MeetsOnWay (node_of w bytes) page x NoNodeThere
none_passed w bytes seen page x l e = go (node_of w bytes) refl
  where
    go : (n : Node) → node_of w bytes ≡ n → MeetsOnWay n page x NoNodeThere
    go (LeafNode items) q = let k = l.leaf items q in cc
    go (InnerNode seps children) q = let k = l.inner seps children q in cc
    go NoNode q = tt

pub leaf_passed : (w : ℕ) (bytes : List ℕ) (seen : Option SeenNode) (view : SeenNode) (page : ℕ) (x : Entry) (at : ℕ) (there : Bool) → Looks w bytes seen → seen ≡ Some view → is_leaf_node view.node ≡ true
    → (EntriesRise (entries_in view.node) → at ≡ place_in x (entries_in view.node)) → IsTrue there ↔ StandsAt x at (entries_in view.node) → MeetsOnWay (node_of w bytes) page x (LeafThere at there)
leaf_passed w bytes seen view page x at there l e k p h = go (node_of w bytes) refl
  where
    go : (n : Node) → node_of w bytes ≡ n → MeetsOnWay n page x (LeafThere at there)
    go (LeafNode items) q =
        let same : view ≡ seen_node w (LeafNode items) = let s = l.leaf items q in cc in
        λ r.
        let place : at ≡ place_in x items = subst (λ (v : SeenNode). EntriesRise (entries_in v.node) → at ≡ place_in x (entries_in v.node)) same p (rise_of items r) in
        (subst (IsLeafPlace items x) (sym place) (place_in-is x items), subst (λ (v : SeenNode). IsTrue there ↔ StandsAt x at (entries_in v.node)) same h)
    go (InnerNode seps children) q =
        let same : view ≡ seen_node w (InnerNode seps children) = let s = l.inner seps children q in cc in
        let wrong : false ≡ true = subst (λ (v : SeenNode). is_leaf_node v.node ≡ true) same k in cc
    go NoNode q = tt

pub inner_passed : (w : ℕ) (bytes : List ℕ) (seen : Option SeenNode) (view : SeenNode) (page : ℕ) (x : Entry) (at child : ℕ) (before behind : Option Fence) → Looks w bytes seen → seen ≡ Some view
    → is_leaf_node view.node ≡ false → (EntriesRise (entries_in view.node) → at ≡ child_in x (entries_in view.node)) → child ≡ get_or (children_in view.node) at 0
    → before ≡ fence_before page (entries_in view.node) at → behind ≡ fence_behind page (entries_in view.node) at → MeetsOnWay (node_of w bytes) page x (ChildThere at child before behind)
inner_passed w bytes seen view page x at child before behind l e k p c b d = go (node_of w bytes) refl
  where
    go : (n : Node) → node_of w bytes ≡ n → MeetsOnWay n page x (ChildThere at child before behind)
    go (LeafNode items) q =
        let same : view ≡ seen_node w (LeafNode items) = let s = l.leaf items q in cc in
        let wrong : true ≡ false = subst (λ (v : SeenNode). is_leaf_node v.node ≡ false) same k in cc
    go (InnerNode seps children) q =
        let same : view ≡ seen_node w (InnerNode seps children) = let s = l.inner seps children q in cc in
        λ r.
        let place : at ≡ child_in x seps = subst (λ (v : SeenNode). EntriesRise (entries_in v.node) → at ≡ child_in x (entries_in v.node)) same p (rise_of seps r) in (
          subst (IsChildPlace seps x) (sym place) (child_in-is x seps),
          subst (λ (v : SeenNode). child ≡ get_or (children_in v.node) at 0) same c,
          subst (λ (v : SeenNode). before ≡ fence_before page (entries_in v.node) at) same b,
          subst (λ (v : SeenNode). behind ≡ fence_behind page (entries_in v.node) at) same d,
        )
    go NoNode q = tt

pub same_some : (hand : Option (List ℕ)) (one other : List ℕ) → hand ≡ Some one → hand ≡ Some other → one ≡ other
same_some hand one other e k = cc

-- a look at the page at hand shows the leaf that it lends
pub lent_look : (width : ℕ) (hand : Option (List ℕ)) (page : List ℕ) (seen : Option SeenNode) (items : List Entry) → LendsLeaf width hand items → hand ≡ Some page
    → ((entries : List Entry) → node_of width page ≡ LeafNode entries → seen ≡ Some (seen_node width (LeafNode entries))) → seen ≡ Some (seen_node width (LeafNode items))
lent_look width hand page seen items lent is leaf = leaf items (subst (λ (b : List ℕ). node_of width b ≡ LeafNode items) (same_some hand lent.bytes page lent.there is) lent.leaf)

-- the same of the page at hand
pub passes_told : (w : ℕ) (state : StoreState) (p : ℕ) (x : Entry) (now : List ℕ) (passed : Passed) → (IsTrue state.is_told → now ≡ page_at state.work p) → MeetsOnWay (node_of w now) p x passed
    → MeetsOnWay (nodes_in w state p) p x passed
passes_told w state p x now passed same h = go state.is_told same
  where
    go : (b : Bool) → (IsTrue b → now ≡ page_at state.work p) → MeetsOnWay (if b then node_of w (page_at state.work p) else NoNode) p x passed
    go true same = subst (λ (l : List ℕ). MeetsOnWay (node_of w l) p x passed) (same refl) h
    go false same = tt
