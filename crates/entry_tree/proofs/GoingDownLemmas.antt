-- The way down to the leaf of an entry, and what an addition does there.
use Rattle.std.proofs.Common.{◌≡◌, ◌+◌, ℕ, List, [], ◌∷◌, ◌++◌, refl, ap, arith, sym, ◌∙◌, subst, append-nil, length, get_or, take, drop, reverse}
use Rattle.std.specs.Prelude.{None, Bool, false, IsTrue, ◌↔◌, if◌then◌else◌}
use Rattle.std.proofs.lemmas.List.{reverse-append, take-append-drop, length-take-le}
use Rattle.entry_tree.specs.declared.sight.Sight.{Sight}
use Rattle.entry_tree.specs.declared.sight.Sight.TheVariants.{Nothing, AtLeaf, AtInner}
use Rattle.entry_tree.proofs.AdditionLemmas.{leaf_begins, leaf_end}
use Rattle.entry_tree.proofs.DescentLemmas.{Cut, cut_at, has_at, outside, place_high, place_low}
use Rattle.entry_tree.proofs.ForestLemmas.{Fits-count}
use Rattle.entry_tree.proofs.LeavesLemmas.{KeepsBeside}
use Rattle.entry_tree.proofs.SightLemmas.{Fits-rises, Rises-wide, put_at_place}
use Rattle.entry_tree.proofs.TreePlacesLemmas.{EachNode-from_plug, Fits-plug}
use Rattle.entry_tree.specs.EntryBounds.{IsEntryOf}
use Rattle.entry_tree.specs.Forest.{Fits, Forest, HasNode, HoldsForest, IsTree, heads, leaf_entries, times}
use Rattle.entry_tree.specs.Forest.Forest.{Fork, Leaf, Nil}
use Rattle.entry_tree.specs.Sight.{Sees}
use Rattle.entry_tree.specs.TreeChanges.{IsAdded, IsHalfway, IsLeafCut, IsLeafFound, IsPut}
use Rattle.entry_tree.specs.TreePlaces.{IsAtPlace, IsChildPlace, high_of, low_of, pages_asked, places, plug, run_up}
use Rattle.mdc_words.specs.ByteOrder.{Entry}
use Rattle.node_page.specs.Node.{Node, is_full}
use Rattle.node_page.specs.Node.Node.{InnerNode, LeafNode}

pub place_begins : (nodes : ℕ → Node) (root : ℕ) (t : Forest) (x : Entry) → IsTree nodes root t → IsAtPlace t x [] root
place_begins nodes root t x w = record { above = []; here = t; whole = refl; matched = tt; way = refl; head = w.head; low = tt; high = tt }

-- from an inner node to a child
pub goes_down : (nodes : ℕ → Node) (width root page i child : ℕ) (full : Bool) (t : Forest) (x : Entry) (path : List (ℕ × ℕ)) → IsTree nodes root t → IsAtPlace t x (reverse path) page
    → Sees width (nodes page) x (AtInner i child full) → IsAtPlace t x (reverse (path ++ (page, i) ∷ [])) child
goes_down nodes width root page i child full t x path w v s =
    let holds = EachNode-from_plug (HasNode nodes) v.above v.here (subst (HoldsForest nodes) v.whole w.holds) in
    let fit = Fits-plug None None v.above v.here page v.matched v.head (subst (Fits None None []) v.whole w.fits) in
    go v.here v.whole v.head holds fit.0 (nodes page) refl s
  where
    inner : (seps : List Entry) (kids : Forest) → t ≡ plug v.above (Fork page seps kids Nil) → IsChildPlace seps x i → child ≡ get_or (heads kids) i 0 → Cut kids i
        → IsAtPlace t x (reverse (path ++ (page, i) ∷ [])) child
    inner seps kids e p k c =
        record {
          above = record { page = page; lows = take i seps; left = c.left; highs = drop i seps; right = c.right } ∷ v.above;
          here = c.child;
          whole = e ∙ rw (take-append-drop i seps, ← c.whole);
          matched = (omega (arith, c.count, length-take-le i seps p.within), v.matched);
          way = ap (λ (n : ℕ). (page, n) ∷ places v.above) (length-take-le i seps p.within) ∙ ap (λ (l : List (ℕ × ℕ)). (page, i) ∷ l) v.way ∙ sym (reverse-append path ((page, i) ∷ []));
          head = c.head ∙ ap (λ (p : ℕ). p ∷ []) (c.there ∙ sym k);
          low = place_low _ seps x i p v.low;
          high = place_high _ seps x i p.after v.high;
        }

    go : (here : Forest) → t ≡ plug v.above here → heads here ≡ page ∷ [] → HoldsForest nodes here → Fits (low_of None v.above) (high_of None v.above) [] here
        → (node : Node) → nodes page ≡ node → Sees width node x (AtInner i child full) → IsAtPlace t x (reverse (path ++ (page, i) ∷ [])) child
    go (Fork p seps kids Nil) e h k f node d s =
        let same : p ≡ page = cc in
        let r = (subst (λ (n : Node). Sees width n x (AtInner i child full)) (sym d ∙ ap nodes (sym same) ∙ k.0) s).1 (Fits-rises _ _ seps kids f.1) in
        inner seps kids (e ∙ ap (λ (q : ℕ). plug v.above (Fork q seps kids Nil)) same) r.0 r.1
        (cut_at kids i (omega (arith, Fits-count _ _ seps kids f.1, r.0.within)))
    go (Leaf p items Nil) e h k f node d s =
        let same : p ≡ page = cc in absurd (subst (λ (n : Node). Sees width n x (AtInner i child full)) (sym d ∙ ap nodes (sym same) ∙ k.0) s)
    go here e h k f node d s = absurd (omega (arith, ap length h))

-- at a leaf
pub finds : (nodes : ℕ → Node) (width root page at : ℕ) (full : Bool) (t : Forest) (x : Entry) (stack : List (ℕ × ℕ)) (there : Bool) → IsTree nodes root t → IsAtPlace t x stack page
    → Sees width (nodes page) x (AtLeaf at there full) → IsLeafFound nodes t x stack page at there
finds nodes width root page at full t x stack there w v s =
    let holds = EachNode-from_plug (HasNode nodes) v.above v.here (subst (HoldsForest nodes) v.whole w.holds) in
    let fit = Fits-plug None None v.above v.here page v.matched v.head (subst (Fits None None []) v.whole w.fits) in
    go v.here v.head holds fit.0 s
  where
    go : (here : Forest) → heads here ≡ page ∷ [] → HoldsForest nodes here → Fits (low_of None v.above) (high_of None v.above) [] here
        → Sees width (nodes page) x (AtLeaf at there full) → IsLeafFound nodes t x stack page at there
    go (Leaf p items Nil) h k f s =
        let same : p ≡ page = cc in
        let is : nodes page ≡ LeafNode items = ap nodes (sym same) ∙ k.0 in
        let rises = Rises-wide _ _ items f.1 in
        let r = (subst (λ (n : Node). Sees width n x (AtLeaf at there full)) is s).1 rises in
        record { place = v; items = items; leaf = is; rises = rises; spot = r.0; says = r.1 }
    go (Fork p ss kids Nil) h k f s =
        let same : p ≡ page = cc in absurd (subst (λ (n : Node). Sees width n x (AtLeaf at there full)) (ap nodes (sym same) ∙ k.0) s)
    go here h k f s = absurd (omega (arith, ap length h))

-- an entry is in the tree where it is in its leaf
pub found_in : (nodes : ℕ → Node) (root : ℕ) (t : Forest) (x : Entry) (stack : List (ℕ × ℕ)) (page at : ℕ) (there : Bool) → IsTree nodes root t → IsLeafFound nodes t x stack page at there
    → IsTrue there ↔ IsEntryOf x (leaf_entries t)
found_in nodes root t x stack page at there w f =
    let v = f.place in
    go v.here v.whole v.head (EachNode-from_plug (HasNode nodes) v.above v.here (subst (HoldsForest nodes) v.whole w.holds))
  where
    go : (here : Forest) → t ≡ plug f.place.above here → heads here ≡ page ∷ [] → HoldsForest nodes here → IsTrue there ↔ IsEntryOf x (leaf_entries t)
    go (Leaf p items Nil) e h k =
        let same : p ≡ page = cc in
        let both : LeafNode items ≡ LeafNode f.items = sym k.0 ∙ ap nodes same ∙ f.leaf in
        let items_are : f.items ≡ items = cc in
        let says : IsTrue there ↔ IsEntryOf x items = subst (λ (l : List Entry). IsTrue there ↔ IsEntryOf x l) items_are f.says in
        let v = f.place in
        let o = has_at v.above (Leaf p items Nil) x (outside None None v.above (Leaf p items Nil) page x v.matched h (subst (Fits None None []) e w.fits) v.low v.high) in
        let q = rw append-nil at o in
        subst (λ (u : Forest). IsTrue there ↔ IsEntryOf x (leaf_entries u)) (sym e) ((λ i. q.1 (says.0 i)), (λ i. says.1 (q.0 i)))
    go (Fork p ss kids Nil) e h k =
        let same : p ≡ page = cc in let both : InnerNode ss (heads kids) ≡ LeafNode f.items = sym k.0 ∙ ap nodes same ∙ f.leaf in cc
    go here e h k = absurd (omega (arith, ap length h))

not_true : IsTrue false → ⊥
not_true e = cc

-- the two beginnings of an addition: into a leaf with room, and into a full one
pub adds_here : (width : ℕ) (old new : ℕ → Node) (root : ℕ) (t : Forest) (x : Entry) (stack : List (ℕ × ℕ)) (page at : ℕ) → IsTree old root t → IsLeafFound old t x stack page at false
    → ((items : List Entry) → old page ≡ LeafNode items → IsPut old new page (LeafNode (take at items ++ x ∷ drop at items))) → KeepsBeside width old t → IsAdded width old new root t x []
adds_here width old new root t x stack page at w f k kb =
    let q = k f.items f.leaf in
    leaf_end width old new t x root page stack f.items w f.place f.leaf (λ i. not_true (f.says.1 i)) (q.there ∙ ap LeafNode (put_at_place f.items x at f.spot)) q.others kb

pub cuts_here : (width : ℕ) (old new : ℕ → Node) (root : ℕ) (t : Forest) (x : Entry) (stack : List (ℕ × ℕ)) (page at c : ℕ) (y : Entry) → IsTree old root t → times c t ≡ 0 → IsLeafFound old t x stack page at false
    → ((items : List Entry) → old page ≡ LeafNode items → IsLeafCut width old new page (take at items ++ x ∷ drop at items) c y) → IsHalfway width old new t x stack page y c (c ∷ [])
cuts_here width old new root t x stack page at c y w z f k =
    let q = k f.items f.leaf in
    leaf_begins width old new t x root page stack f.items q.head q.front y q.tail c w f.place f.leaf (λ i. not_true (f.says.1 i)) (sym (put_at_place f.items x at f.spot) ∙ q.cut) z q.first q.second q.others q.first_half q.second_half

pub not_there : (nodes : ℕ → Node) (root : ℕ) (t : Forest) (x : Entry) (stack : List (ℕ × ℕ)) (page at : ℕ) → IsTree nodes root t → IsLeafFound nodes t x stack page at false → IsEntryOf x (leaf_entries t) → ⊥
not_there nodes root t x stack page at w f i = not_true ((found_in nodes root t x stack page at false w f).1 i)

-- whether the node is full, as a search sees it
abbrev full_in : Sight → Bool
full_in Nothing = false
full_in (AtLeaf at there full) = full
full_in (AtInner at child full) = full

sees_full : (nodes : ℕ → Node) (width root page : ℕ) (t : Forest) (x : Entry) (stack : List (ℕ × ℕ)) → IsTree nodes root t → IsAtPlace t x stack page → (sight : Sight)
    → Sees width (nodes page) x sight → full_in sight ≡ is_full width (nodes page)
sees_full nodes width root page t x stack w v sight s =
    let holds = EachNode-from_plug (HasNode nodes) v.above v.here (subst (HoldsForest nodes) v.whole w.holds) in
    go v.here v.head holds
  where
    at_leaf : (items : List Entry) (sight : Sight) → Sees width (LeafNode items) x sight → full_in sight ≡ is_full width (LeafNode items)
    at_leaf items Nothing s = absurd s
    at_leaf items (AtLeaf at there full) s = s.0
    at_leaf items (AtInner at child full) s = absurd s

    at_inner : (seps : List Entry) (children : List ℕ) (sight : Sight) → Sees width (InnerNode seps children) x sight → full_in sight ≡ is_full width (InnerNode seps children)
    at_inner seps children Nothing s = absurd s
    at_inner seps children (AtLeaf at there full) s = absurd s
    at_inner seps children (AtInner at child full) s = s.0

    go : (here : Forest) → heads here ≡ page ∷ [] → HoldsForest nodes here → full_in sight ≡ is_full width (nodes page)
    go (Leaf p items Nil) h k =
        let same : p ≡ page = cc in
        let is : nodes page ≡ LeafNode items = ap nodes (sym same) ∙ k.0 in
        at_leaf items sight (subst (λ (n : Node). Sees width n x sight) is s) ∙ ap (is_full width) (sym is)
    go (Fork p seps kids Nil) h k =
        let same : p ≡ page = cc in
        let is : nodes page ≡ InnerNode seps (heads kids) = ap nodes (sym same) ∙ k.0 in
        at_inner seps (heads kids) sight (subst (λ (n : Node). Sees width n x sight) is s) ∙ ap (is_full width) (sym is)
    go here h k = absurd (omega (arith, ap length h))

-- how many pages the nodes above ask for, with one node more
pub run_goes_down : (nodes : ℕ → Node) (width root page i child run : ℕ) (full : Bool) (t : Forest) (x : Entry) (path : List (ℕ × ℕ)) → IsTree nodes root t → IsAtPlace t x (reverse path) page
    → Sees width (nodes page) x (AtInner i child full) → run ≡ run_up (is_full width) nodes (reverse path)
    → (if full then 1 + run else 0) ≡ run_up (is_full width) nodes (reverse (path ++ (page, i) ∷ []))
run_goes_down nodes width root page i child run full t x path w v s e =
    rw (reverse-append path ((page, i) ∷ []), ← sees_full nodes width root page t x (reverse path) w v (AtInner i child full) s, ← e) refl

-- and how many the leaf asks for
pub run_ends : (nodes : ℕ → Node) (width root page at run : ℕ) (there full : Bool) (t : Forest) (x : Entry) (path : List (ℕ × ℕ)) → IsTree nodes root t → IsAtPlace t x (reverse path) page
    → Sees width (nodes page) x (AtLeaf at there full) → run ≡ run_up (is_full width) nodes (reverse path)
    → (if full then 1 + run else 0) ≡ pages_asked (is_full width) nodes (reverse path) page
run_ends nodes width root page at run there full t x path w v s e =
    rw (← sees_full nodes width root page t x (reverse path) w v (AtLeaf at there full) s, ← e) refl
