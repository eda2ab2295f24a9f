-- What a look at a page shows, as a search sees it.
use Rattle.std.proofs.Common.{◌≡◌, ◌≢◌, ◌<◌, ◌≤◌, ◌-◌, ℕ, zero, suc, List, [], ◌∷◌, refl, arith, sym, ◌∙◌, subst, length, get_or, inl, inr, Bool, true, false, IsTrue}
use Rattle.std.specs.Prelude.{Option, Some, None, if◌then◌else◌, ◌↔◌}
use Rattle.std.proofs.lemmas.Option.{same_Some}
use Rattle.mdc_words.specs.ByteOrder.{Entry, below}
use Rattle.node_page.specs.Node.{Node, node_of, is_full}
use Rattle.node_page.specs.Node.Node.{LeafNode, InnerNode, NoNode}
use Rattle.node_page.specs.Entries.{EntriesRise, StandsAt, place_in, child_in}
use Rattle.node_page.specs.Looked.{SeenNode, seen_node, entries_in, children_in, is_leaf_node}
use Rattle.node_page.proofs.FindLemmas.{place_before, place_here}
use Rattle.store_api.specs.StoreState.{StoreState, page_at}
use Rattle.store_api.specs.Frame.{HoldsPage}
use Rattle.store_api.specs.declared.pages.Pages.{Ghosts}
use Rattle.entry_tree.specs.EntryBounds.{Climbs, Rises, IsEntryOf, IsLeafPlace}
use Rattle.entry_tree.specs.TreePlaces.{IsChildPlace}
use Rattle.entry_tree.specs.HeldTrees.{nodes_in}
use Rattle.entry_tree.specs.Sight.{Sees}
use Rattle.entry_tree.specs.Spots.{LendsLeaf}
use Rattle.entry_tree.specs.declared.sight.Sight.{Sight}
use Rattle.entry_tree.specs.declared.sight.Sight.TheVariants.{Nothing, AtLeaf, AtInner}
use Rattle.entry_tree.proofs.EntryBoundsLemmas.{below_itself, below_trans}
use Rattle.entry_tree.proofs.HeldTreesLemmas.{told_by, told_node}

-- rising entries, by pairs
climbs_rise : (last : Entry) (xs : List Entry) → Climbs last None xs → EntriesRise (last ∷ xs)
climbs_rise last [] h = tt
climbs_rise last (x ∷ xs) h = (h.0, climbs_rise x xs h.2)

pub rises_rise : (xs : List Entry) → Rises None None xs → EntriesRise xs
rises_rise [] h = tt
rises_rise (x ∷ xs) h = climbs_rise x xs h.2

-- ---- the place in a leaf

place_within : (x : Entry) (xs : List Entry) → place_in x xs ≤ length xs
place_within x [] = omega arith
place_within x (y ∷ ys) = go (below y x) (place_within x ys)
  where
    go : (b : Bool) → place_in x ys ≤ length ys → (if b then suc (place_in x ys) else 0) ≤ suc (length ys)
    go true h = omega arith
    go false h = omega arith

leaf_place : (x : Entry) (xs : List Entry) → IsLeafPlace xs x (place_in x xs)
leaf_place x xs = record { within = place_within x xs; before = λ k l. place_before xs x k l; after = λ l. place_here xs x l }

at_is_in : (x : Entry) (xs : List Entry) (i : ℕ) → StandsAt x i xs → IsEntryOf x xs
at_is_in x [] i h = let l = h.0 in absurd (omega (arith, l))
at_is_in x (y ∷ ys) zero h = inl (sym h.1)
at_is_in x (y ∷ ys) (suc i) h = inr (at_is_in x ys i (let l = h.0 in omega (arith, l), h.1))

climbs_below : (last x : Entry) (xs : List Entry) → Climbs last None xs → IsEntryOf x xs → below last x ≡ true
climbs_below last x [] h i = absurd i
climbs_below last x (y ∷ ys) h (inl e) = subst (λ (v : Entry). below last v ≡ true) (sym e) h.0
climbs_below last x (y ∷ ys) h (inr i) = below_trans last y x h.0 (climbs_below y x ys h.2 i)

climbs_place : (last x : Entry) (xs : List Entry) → Climbs last None xs → IsEntryOf x xs → StandsAt x (place_in x xs) xs
climbs_place last x [] h i = absurd i
climbs_place last x (y ∷ ys) h (inl e) =
    let not : below y x ≡ false = subst (λ (v : Entry). below y v ≡ false) (sym e) (below_itself y) in
    subst (λ (b : Bool). StandsAt x (if b then suc (place_in x ys) else 0) (y ∷ ys)) (sym not) (omega arith, sym e)
climbs_place last x (y ∷ ys) h (inr i) =
    let is : below y x ≡ true = climbs_below y x ys h.2 i in
    let rest = climbs_place y x ys h.2 i in
    subst (λ (b : Bool). StandsAt x (if b then suc (place_in x ys) else 0) (y ∷ ys)) (sym is) (let l = rest.0 in omega (arith, l), rest.1)

in_is_at : (x : Entry) (xs : List Entry) → Rises None None xs → IsEntryOf x xs → StandsAt x (place_in x xs) xs
in_is_at x [] h i = absurd i
in_is_at x (y ∷ ys) h (inl e) =
    let not : below y x ≡ false = subst (λ (v : Entry). below y v ≡ false) (sym e) (below_itself y) in
    subst (λ (b : Bool). StandsAt x (if b then suc (place_in x ys) else 0) (y ∷ ys)) (sym not) (omega arith, sym e)
in_is_at x (y ∷ ys) h (inr i) =
    let is : below y x ≡ true = climbs_below y x ys h.2 i in
    let rest = climbs_place y x ys h.2 i in
    subst (λ (b : Bool). StandsAt x (if b then suc (place_in x ys) else 0) (y ∷ ys)) (sym is) (let l = rest.0 in omega (arith, l), rest.1)

-- ---- the child of an inner node

pub child_place : (x : Entry) (seps : List Entry) → IsChildPlace seps x (child_in x seps)
child_place x [] = record { within = omega arith; before = λ l. absurd (omega arith); after = λ l. absurd (omega arith) }
child_place x (s ∷ seps) = go (below x s) refl (child_place x seps)
  where
    go : (b : Bool) → below x s ≡ b → IsChildPlace seps x (child_in x seps) → IsChildPlace (s ∷ seps) x (if b then 0 else suc (child_in x seps))
    go true e r = record { within = omega arith; before = λ l. absurd (omega arith); after = λ l. e }
    go false e r = record {
      within = let w = r.within in omega (arith, w);
      before = λ l. behind (child_in x seps) r.before;
      after = λ l. r.after (omega arith);
    }
      where
        behind : (i : ℕ) → (0 < i → below x (get_or seps (i - 1) []) ≡ false) → below x (get_or (s ∷ seps) (suc i - 1) []) ≡ false
        behind zero f = e
        behind (suc i) f =
            let one : suc (suc i) - 1 ≡ suc i = omega arith in
            let rest : suc i - 1 ≡ i = omega arith in
            rw one (subst (λ (k : ℕ). below x (get_or seps k []) ≡ false) rest (f (omega arith)))

-- ---- a view as it is seen

pub leaf_seen : (width : ℕ) (node : Node) (x : Entry) (at : ℕ) (there full : Bool) → is_leaf_node node ≡ true → full ≡ is_full width node
    → (EntriesRise (entries_in node) → at ≡ place_in x (entries_in node)) → (IsTrue there ↔ StandsAt x at (entries_in node)) → Sees width node x (AtLeaf at there full)
leaf_seen width (LeafNode items) x at there full l f p h = (
  f,
  λ r.
      let is = p (rises_rise items r) in (
        subst (IsLeafPlace items x) (sym is) (leaf_place x items),
        ((λ t. at_is_in x items at (h.0 t)), (λ i. h.1 (subst (λ (k : ℕ). StandsAt x k items) (sym is) (in_is_at x items r i)))),
      ),
)
leaf_seen width (InnerNode seps children) x at there full l f p h = cc
leaf_seen width NoNode x at there full l f p h = tt

pub inner_seen : (width : ℕ) (node : Node) (x : Entry) (at child : ℕ) (full : Bool) → is_leaf_node node ≡ false → full ≡ is_full width node
    → (EntriesRise (entries_in node) → at ≡ child_in x (entries_in node)) → child ≡ get_or (children_in node) at 0 → Sees width node x (AtInner at child full)
inner_seen width (LeafNode items) x at child full l f p c = cc
inner_seen width (InnerNode seps children) x at child full l f p c = (f, λ r. (subst (IsChildPlace seps x) (sym (p (rises_rise seps r))) (child_place x seps), c))
inner_seen width NoNode x at child full l f p c = tt

-- a look at the bytes of a page sees the node that is told there
pub look_sees : (width : ℕ) (state : StoreState) (p : ℕ) (bytes : List ℕ) (view : SeenNode) (x : Entry) (sight : Sight) → (IsTrue state.is_told → page_at state.work p ≡ bytes)
    → ((entries : List Entry) → node_of width bytes ≡ LeafNode entries → Some view ≡ Some (seen_node width (LeafNode entries)))
    → ((seps : List Entry) (children : List ℕ) → node_of width bytes ≡ InnerNode seps children → Some view ≡ Some (seen_node width (InnerNode seps children)))
    → Sees view.width view.node x sight → Sees width (nodes_in width state p) x sight
look_sees width state p bytes view x sight hand leaf inner sees = go (nodes_in width state p) refl
  where
    bytes_node : (node : Node) → nodes_in width state p ≡ node → node ≢ NoNode → node_of width bytes ≡ node
    bytes_node node e d =
        let told = told_by width state p node e d in
        subst (λ (b : List ℕ). node_of width b ≡ node) (hand told) (sym (told_node width state p told) ∙ e)

    go : (node : Node) → nodes_in width state p ≡ node → Sees width node x sight
    go (LeafNode items) e =
        let same : view ≡ seen_node width (LeafNode items) = same_Some view (seen_node width (LeafNode items)) (leaf items (bytes_node (LeafNode items) e (λ d. cc))) in
        subst (λ (v : SeenNode). Sees v.width v.node x sight) same sees
    go (InnerNode seps children) e =
        let same : view ≡ seen_node width (InnerNode seps children) = same_Some view (seen_node width (InnerNode seps children)) (inner seps children (bytes_node (InnerNode seps children) e (λ d. cc))) in
        subst (λ (v : SeenNode). Sees v.width v.node x sight) same sees
    go NoNode e = tt

-- where a look sees nothing, no node is told
pub look_misses : (width : ℕ) (state : StoreState) (p : ℕ) (bytes : List ℕ) (x : Entry) → (IsTrue state.is_told → page_at state.work p ≡ bytes)
    → ((entries : List Entry) → node_of width bytes ≡ LeafNode entries → None ≡ Some (seen_node width (LeafNode entries)))
    → ((seps : List Entry) (children : List ℕ) → node_of width bytes ≡ InnerNode seps children → None ≡ Some (seen_node width (InnerNode seps children)))
    → Sees width (nodes_in width state p) x Nothing
look_misses width state p bytes x hand leaf inner = go (nodes_in width state p) refl
  where
    bytes_node : (node : Node) → nodes_in width state p ≡ node → node ≢ NoNode → node_of width bytes ≡ node
    bytes_node node e d =
        let told = told_by width state p node e d in
        subst (λ (b : List ℕ). node_of width b ≡ node) (hand told) (sym (told_node width state p told) ∙ e)

    go : (node : Node) → nodes_in width state p ≡ node → Sees width node x Nothing
    go (LeafNode items) e = let q = leaf items (bytes_node (LeafNode items) e (λ d. cc)) in cc
    go (InnerNode seps children) e = let q = inner seps children (bytes_node (InnerNode seps children) e (λ d. cc)) in cc
    go NoNode e = tt

-- the page at hand is the one that is told
pub hand_is : {S : Type 0} {g : Ghosts S} (old new : S) (p : ℕ) (page : List ℕ) → p < length (g.state old).work → ((bytes : List ℕ) → HoldsPage g old p bytes → (g.state new).hand ≡ Some bytes) → (g.state new).hand ≡ Some page
    → IsTrue (g.state old).is_told → page_at (g.state old).work p ≡ page
hand_is {S} {g} old new p page within hand lent told =
    same_Some (page_at (g.state old).work p) page (sym (hand (page_at (g.state old).work p) (record { is_told = told; within = within; bytes_are = refl })) ∙ lent)

-- and lends the leaf that it is
pub lends_leaf : (width : ℕ) (state : StoreState) (p : ℕ) (hand : Option (List ℕ)) (items : List Entry) → (IsTrue state.is_told → hand ≡ Some (page_at state.work p)) → nodes_in width state p ≡ LeafNode items → LendsLeaf width hand items
lends_leaf width state p hand items lent e = go state.is_told refl e
  where
    go : (b : Bool) → state.is_told ≡ b → (if b then node_of width (page_at state.work p) else NoNode) ≡ LeafNode items → LendsLeaf width hand items
    go true told e = record { bytes = page_at state.work p; there = lent told; leaf = e }
    go false told e = cc
