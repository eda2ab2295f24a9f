-- The replacement of an entry, in a tree that a store is told to hold.
use Rattle.std.proofs.Common.{◌≡◌, ◌≢◌, ◌<◌, ℕ, zero, suc, append-nil, List, [], ◌∷◌, ◌++◌, refl, ap, arith, sym, ◌∙◌, subst, length, take, drop, set, inl, inr, length-append}
use Rattle.std.specs.Prelude.{Option, Some, None, true, false, Bool, IsTrue, not}
use Rattle.std.proofs.lemmas.Bool.{cases_lt}
use Rattle.mdc_words.specs.ByteOrder.{Entry, below}
use Rattle.node_page.specs.Node.{Node}
use Rattle.node_page.specs.Node.Node.{InnerNode, LeafNode}
use Rattle.store_api.specs.Frame.{OnlyPage}
use Rattle.store_api.specs.RunsOverPages.{RunsOverPages}
use Rattle.store_api.specs.Works.{Steady}
use Rattle.store_api.specs.declared.fault.Damage.{Damage}
use Rattle.store_api.specs.declared.pages.Pages.{Ghosts}
use Rattle.entry_tree.specs.Amending.{AmendsEntry, BreaksMoved, BreaksSlot, HasBehind, IsMovedPage, MakesRoom, SetsAt, SetsMoved, HasOwnFront}
use Rattle.entry_tree.specs.EntryBounds.{AtLeast, Climbs, Rises, Under, IsEntryOf, IsLeafPlace}
use Rattle.entry_tree.specs.Forest.{Fits, Forest, HasNode, HoldsForest, IsTree, IsTrimTree, heads, leaf_entries, times, ◌&◌}
use Rattle.entry_tree.specs.Forest.Forest.{Fork, Leaf, Nil}
use Rattle.entry_tree.specs.HeldTrees.{nodes_in, HoldsTree, IsTreePage, BreaksTree}
use Rattle.entry_tree.specs.Reading.{AreAtLeast, entries_from}
use Rattle.entry_tree.specs.Spots.{IsAtSpot, IsSpot, fence_bound, high_fence, high_fence_in, low_fence, low_fence_in}
use Rattle.entry_tree.specs.TreeChanges.{KeepsLeafCounts}
use Rattle.entry_tree.specs.TreePlaces.{Frame, entries_behind, high_of, low_of, plug}
use Rattle.entry_tree.specs.declared.spot.Fence.{Fence}
use Rattle.entry_tree.specs.declared.tree.Tree.{Tree}
use Rattle.entry_tree.proofs.AmendingLemmas.{IsRoomy, IsTwin, amended, roomy_high, roomy_low, roomy_still, spot_set, spot_split, twin_of}
use Rattle.entry_tree.proofs.DescentLemmas.{has_at, outside}
use Rattle.entry_tree.proofs.EntryBoundsLemmas.{below_itself, below_trans}
use Rattle.entry_tree.proofs.FencesLemmas.{SetsFence}
use Rattle.entry_tree.proofs.ForestLemmas.{HoldsForest-agree, once_same}
use Rattle.entry_tree.proofs.HeldTreesLemmas.{nodes_in-past, nodes_kept, nodes_same}
use Rattle.entry_tree.proofs.LeafFromLemmas.{from_high}
use Rattle.entry_tree.proofs.LeafSpotsLemmas.{entry_at_place}
use Rattle.entry_tree.proofs.ReadLeafLemmas.{high_fence-bound, holds_still}
use Rattle.entry_tree.proofs.TreePlacesLemmas.{EachNode-from_plug, Fits-plug, times-plug}
use Rattle.entry_tree.proofs.SightLemmas.{Rises-wide}
use Rattle.entry_tree.proofs.TrimLemmas.{behind_some}
use Rattle.entry_tree.proofs.WayLemmas.{place_times}

-- a separator of a tree, in its node
pub record IsFenceOf (nodes : ℕ → Node) (t : Forest) (f : Fence) : Type 0 where
  pub seps : List Entry
  pub children : List ℕ
  pub node : nodes f.page ≡ InnerNode seps children
  pub within : f.at < length seps
  pub inside : 0 < times f.page t

fence_node : (nodes : ℕ → Node) (fs : List Frame) (page at : ℕ) (seps : List Entry) (kids : Forest) (f : Fence) → HoldsForest nodes (plug fs (Fork page seps kids Nil)) → page ≡ f.page → at ≡ f.at → at < length seps
    → IsFenceOf nodes (plug fs (Fork page seps kids Nil)) f
fence_node nodes fs page at seps kids f h p a l =
    let held = EachNode-from_plug (HasNode nodes) fs (Fork page seps kids Nil) h in
    record {
      seps = seps;
      children = heads kids;
      node = ap nodes (sym p) ∙ held.0;
      within = omega (arith, l, a);
      inside = subst (λ (n : ℕ). 0 < times n (plug fs (Fork page seps kids Nil))) p (omega (arith, times-plug page fs (Fork page seps kids Nil), once_same page));
    }

pub low_fence-of : (nodes : ℕ → Node) (fs : List Frame) (here : Forest) (f : Fence) → HoldsForest nodes (plug fs here) → low_fence fs ≡ Some f → IsFenceOf nodes (plug fs here) f
low_fence-of nodes [] here f h e = cc
low_fence-of nodes (k ∷ fs) here f h e =
    go k.lows refl e (low_fence-of nodes fs (Fork k.page (k.lows ++ k.highs) (k.left & (here & k.right)) Nil) f h)
  where
    go : (lows : List Entry) → k.lows ≡ lows → low_fence_in k lows (low_fence fs) ≡ Some f
        → (low_fence fs ≡ Some f → IsFenceOf nodes (plug fs (Fork k.page (k.lows ++ k.highs) (k.left & (here & k.right)) Nil)) f)
        → IsFenceOf nodes (plug fs (Fork k.page (k.lows ++ k.highs) (k.left & (here & k.right)) Nil)) f
    go [] q e up = up e
    go (l ∷ ls) q e up =
        let page_is : k.page ≡ f.page = cc in
        let at_is : length ls ≡ f.at = cc in
        fence_node nodes fs k.page (length ls) (k.lows ++ k.highs) (k.left & (here & k.right)) f h page_is at_is (omega (arith, ap length q, length-append k.lows k.highs))

pub high_fence-of : (nodes : ℕ → Node) (fs : List Frame) (here : Forest) (f : Fence) → HoldsForest nodes (plug fs here) → high_fence fs ≡ Some f → IsFenceOf nodes (plug fs here) f
high_fence-of nodes [] here f h e = cc
high_fence-of nodes (k ∷ fs) here f h e =
    go k.highs refl e (high_fence-of nodes fs (Fork k.page (k.lows ++ k.highs) (k.left & (here & k.right)) Nil) f h)
  where
    go : (highs : List Entry) → k.highs ≡ highs → high_fence_in k highs (high_fence fs) ≡ Some f
        → (high_fence fs ≡ Some f → IsFenceOf nodes (plug fs (Fork k.page (k.lows ++ k.highs) (k.left & (here & k.right)) Nil)) f)
        → IsFenceOf nodes (plug fs (Fork k.page (k.lows ++ k.highs) (k.left & (here & k.right)) Nil)) f
    go [] q e up = up e
    go (x ∷ hs) q e up =
        let page_is : k.page ≡ f.page = cc in
        let at_is : length k.lows ≡ f.at = cc in
        fence_node nodes fs k.page (length k.lows) (k.lows ++ k.highs) (k.left & (here & k.right)) f h page_is at_is (omega (arith, ap length q, length-append k.lows k.highs))

-- all that lies behind the place of x
behind_is : (nodes : ℕ → Node) (root page at : ℕ) (there : Bool) (t : Forest) (x : Entry) (low high : Option Fence) (fence : Fence) → IsTree nodes root t → (s : IsSpot nodes t x page at there low high) → high ≡ Some fence
    → entries_from fence.bound (leaf_entries t) ≡ entries_behind s.above
behind_is nodes root page at there t x low high fence w s e =
    from_high t x fence.bound (drop at s.items) w.fits
    (record {
      above = s.above;
      page = page;
      items = s.items;
      at = at;
      whole = s.whole;
      matched = s.matched;
      low = s.least;
      high = s.under;
      next_is = high_fence-bound s.above ∙ ap fence_bound (s.high_is ∙ e);
      spot = s.place;
      given_is = refl;
    })

-- an entry of a leaf stands at its place
entry_at : (x : Entry) (items : List Entry) (at : ℕ) → Rises None None items → IsLeafPlace items x at → IsEntryOf x items → IsAtSpot items x at
entry_at x [] at r p i = absurd i
entry_at x (y ∷ ys) zero r p (inl e) = (omega arith, sym e)
entry_at x (y ∷ ys) zero r p (inr i) = absurd (not_below_first x y ys (p.after (omega arith)) r.2 i)
  where
    not_below_first : (x y : Entry) (zs : List Entry) → below y x ≡ false → Climbs y None zs → IsEntryOf x zs → ⊥
    not_below_first x y (z ∷ zs) b c (inl e) = let l : below y x ≡ true = subst (λ (v : Entry). below y v ≡ true) (sym e) c.0 in cc
    not_below_first x y (z ∷ zs) b c (inr i) = not_below_first x z zs (still (below z x) refl) c.2 i
      where
        still : (q : Bool) → below z x ≡ q → below z x ≡ false
        still true e = let l = below_trans y z x c.0 e in cc
        still false e = e
    not_below_first x y [] b c i = i
entry_at x (y ∷ ys) (suc at) r p (inl e) = let b = p.before 0 (omega arith) in let n = below_itself x in let l : below x x ≡ true = subst (λ (v : Entry). below v x ≡ true) (sym e) b in cc
entry_at x (y ∷ ys) (suc at) r p (inr i) =
    let s = entry_at x ys at (climbing ys y r.2) (record {
      within = let w = p.within in omega arith;
      before = λ k l. p.before (suc k) (omega arith);
      after = λ l. p.after (omega arith);
    }) i in (omega (arith, s.0), s.1)
  where
    climbing : (zs : List Entry) (last : Entry) → Climbs last None zs → Rises None None zs
    climbing [] last h = tt
    climbing (z ∷ zs) last h = (tt, tt, h.2)

-- the leaf of x is there meanwhile
roomy_leaf : (nodes : ℕ → Node) (root : ℕ) (above : List Frame) (page : ℕ) (items : List Entry) (y : Entry) → IsRoomy nodes root above (Leaf page items Nil) y → nodes page ≡ LeafNode items
roomy_leaf nodes root above page items y r = (EachNode-from_plug (HasNode nodes) r.fs (Leaf page items Nil) r.tree.holds).0

pub not_true : (b : Bool) → not b ≡ true → b ≡ false
not_true true e = cc
not_true false e = refl

pub not_false : (b : Bool) → not b ≡ false → IsTrue b
not_false true e = refl
not_false false e = cc

module _ {S : Type 0} {g : Ghosts S} where
  -- pages that a run doesn't touch are the nodes that they were
  pub others_kept : {Kind : ℕ → Type 0} {Breaks : Damage → Type 0} {old new : S} (width page : ℕ) → RunsOverPages g (OnlyPage page) Kind Breaks old new None → length (g.state new).work ≡ length (g.state old).work
      → (n : ℕ) → n ≢ page → nodes_in width (g.state new) n ≡ nodes_in width (g.state old) n
  others_kept {Kind} {Breaks} {old} {new} width page run count n d =
      elim (cases_lt n (length (g.state old).work)) [
        | inl below ↦ nodes_kept g (OnlyPage page) old new width n run.touches run.works.steady.is_told below d
        | inr past ↦ nodes_in-past width (g.state new) n (omega (arith, past, count)) ∙ sym (nodes_in-past width (g.state old) n past)
      ]

  -- there is an entry from a high bound on
  pub has_behind : {s : S} {tree : Tree} (t : Forest) (x : Entry) (page at : ℕ) (there : Bool) (low high : Option Fence) → HoldsTree g s tree t → IsSpot (nodes_in tree.width (g.state s)) t x page at there low high
      → HasBehind (leaf_entries t) high
  has_behind {s} {tree} t x page at there low None h k = tt
  has_behind {s} {tree} t x page at there low (Some fence) h k =
      subst (λ (l : List Entry). 0 < length l) (sym (behind_is (nodes_in tree.width (g.state s)) tree.root page at there t x low (Some fence) fence h.is_tree k refl))
      (behind_some k.above (Leaf page k.items Nil) page fence.bound k.matched refl (subst (Fits None None []) k.whole h.is_tree.fits) (subst IsTrimTree k.whole h.trim)
      (high_fence-bound k.above ∙ ap fence_bound k.high_is))

  -- a tree was there where the pages are as they were
  pub holds_back : {s mid : S} {tree : Tree} {t : Forest} → Steady g s mid → (g.state mid).work ≡ (g.state s).work → HoldsTree g mid tree t → HoldsTree g s tree t
  holds_back {s} {mid} {tree} {t} steady same h = record {
    is_tree = record {
      head = h.is_tree.head;
      holds = HoldsForest-agree (nodes_in tree.width (g.state mid)) (nodes_in tree.width (g.state s)) t (λ n p. sym (nodes_same tree.width (g.state s) (g.state mid) n steady.is_told same)) h.is_tree.holds;
      fits = h.is_tree.fits;
      distinct = h.is_tree.distinct;
    };
    trim = h.trim;
  }

  -- an entry that isn't at its place isn't there
  pub not_there : {s : S} {tree : Tree} (t : Forest) (x : Entry) (page at : ℕ) (there : Bool) (low high : Option Fence) → HoldsTree g s tree t → IsSpot (nodes_in tree.width (g.state s)) t x page at there low high
      → there ≡ false → IsEntryOf x (leaf_entries t) → ⊥
  not_there {s} {tree} t x page at there low high h k e i =
      let fit = subst (Fits None None []) k.whole h.is_tree.fits in
      let here : Forest = Leaf page k.items Nil in
      let o = outside None None k.above here page x k.matched refl fit k.least k.under in
      let rises = Rises-wide (low_of None k.above) (high_of None k.above) k.items (Fits-plug None None k.above here page k.matched refl fit).0.1 in
      let in_items : IsEntryOf x (k.items ++ []) = (has_at k.above here x o).0 (subst (λ (u : Forest). IsEntryOf x (leaf_entries u)) k.whole i) in
      let says = k.says.1 (entry_at x k.items at rises k.place (rw append-nil at in_items)) in
      let wrong : IsTrue false = subst IsTrue e says in cc

  -- what is set in a page, for a separator of it
  sets_fence : {Kind : ℕ → Type 0} {Breaks : Damage → Type 0} {s two three : S} (width : ℕ) (m f : Fence) (b : Entry) → m.page ≡ f.page → m.at ≡ f.at → m.bound ≡ b
      → SetsAt g two three width m.page m.at m.bound → RunsOverPages g (OnlyPage m.page) Kind Breaks two three None → length (g.state three).work ≡ length (g.state two).work
      → Steady g s two → (g.state two).work ≡ (g.state s).work → SetsFence (nodes_in width (g.state s)) (nodes_in width (g.state three)) f b
  sets_fence {Kind} {Breaks} {s} {two} {three} width m f b p a q sets run count steady same = (
    (λ seps children e.
        ap (nodes_in width (g.state three)) (sym p)
        ∙ sets.inner seps children (nodes_same width (g.state s) (g.state two) m.page steady.is_told same ∙ ap (nodes_in width (g.state s)) p ∙ e)
        ∙ ap (λ (i : ℕ). InnerNode (set seps i m.bound) children) a
        ∙ ap (λ (v : Entry). InnerNode (set seps f.at v) children) q),
    (λ n d. others_kept width m.page run count n (λ (r : n ≡ m.page). d (r ∙ p)) ∙ nodes_same width (g.state s) (g.state two) n steady.is_told same),
  )

  -- once the separator that has to be moved is moved, y has room
  pub made_roomy : {Kind : ℕ → Type 0} {Breaks : Damage → Type 0} {s one two three : S} {tree : Tree} (t : Forest) (x y : Entry) (page at : ℕ) (there : Bool) (low high moved : Option Fence) (front back : List Entry)
      → HoldsTree g s tree t → (k : IsSpot (nodes_in tree.width (g.state s)) t x page at there low high) → IsTwin (nodes_in tree.width (g.state s)) tree.root k.above page front x back y
      → Steady g s one → (g.state one).work ≡ (g.state s).work → MakesRoom g one tree low high y moved
      → Steady g s two → (g.state two).work ≡ (g.state s).work → SetsMoved g two three tree.width moved → RunsOverPages g (IsMovedPage moved) Kind Breaks two three None → length (g.state three).work ≡ length (g.state two).work
      → IsRoomy (nodes_in tree.width (g.state three)) tree.root k.above (Leaf page (front ++ x ∷ back) Nil) y
  made_roomy {Kind} {Breaks} {s} {one} {two} {three} {tree} t x y page at there low high None front back h k w still same room steady still_same sets run count =
      roomy_still (nodes_in tree.width (g.state s)) (nodes_in tree.width (g.state three)) tree.root page k.above front x back y w
      (subst (λ (f : Option Fence). AtLeast (fence_bound f) y) (sym k.low_is) room.0) (subst (λ (f : Option Fence). Under (fence_bound f) y) (sym k.high_is) room.1)
      (record {
        head = w.tree.head;
        holds = HoldsForest-agree (nodes_in tree.width (g.state s)) (nodes_in tree.width (g.state three)) (plug k.above (Leaf page (front ++ x ∷ back) Nil))
            (λ n p. nodes_same tree.width (g.state s) (g.state three) n (run.works.steady.is_told ∙ steady.is_told) (sets ∙ still_same)) w.tree.holds;
        fits = w.tree.fits;
        distinct = w.tree.distinct;
      })
  made_roomy {Kind} {Breaks} {s} {one} {two} {three} {tree} t x y page at there low high (Some m) front back h k w still same (inl r) steady still_same sets run count =
      roomy_low (nodes_in tree.width (g.state s)) (nodes_in tree.width (g.state three)) tree.root page k.above front x back y r.fence w (k.low_is ∙ r.there) r.over
      (sets_fence tree.width m r.fence y (ap (λ (f : Fence). f.page) r.moved_is) (ap (λ (f : Fence). f.at) r.moved_is) (ap (λ (f : Fence). f.bound) r.moved_is) sets run count steady still_same)
  made_roomy {Kind} {Breaks} {s} {one} {two} {three} {tree} t x y page at there low high (Some m) front back h k w still same (inr r) steady still_same sets run count =
      let first = r.first t (holds_still still same h) in
      let behind = behind_is (nodes_in tree.width (g.state s)) tree.root page at there t x low high r.fence h.is_tree k r.there in
      roomy_high (nodes_in tree.width (g.state s)) (nodes_in tree.width (g.state three)) tree.root page k.above front x back y m.bound r.fence w (k.high_is ∙ r.there)
      (subst (λ (f : Option Fence). AtLeast (fence_bound f) y) (sym k.low_is) r.least) r.over
      (subst (IsEntryOf m.bound) behind first.there) (subst (AreAtLeast (Some m.bound)) behind first.lowest)
      (sets_fence tree.width m r.fence m.bound r.page_is r.at_is refl sets run count steady still_same)

  -- and y takes its place
  amends : {Kind : ℕ → Type 0} {Breaks : Damage → Type 0} {three four : S} {tree : Tree} (s : S) (t : Forest) (x y : Entry) (page at : ℕ) (there : Bool) (low high : Option Fence)
      → (k : IsSpot (nodes_in tree.width (g.state s)) t x page at there low high) → IsAtSpot k.items x at → IsTwin (nodes_in tree.width (g.state s)) tree.root k.above page (take at k.items) x (drop (suc at) k.items) y
      → IsRoomy (nodes_in tree.width (g.state three)) tree.root k.above (Leaf page (take at k.items ++ x ∷ drop (suc at) k.items) Nil) y
      → SetsAt g three four tree.width page at y → RunsOverPages g (OnlyPage page) Kind Breaks three four None → length (g.state four).work ≡ length (g.state three).work
      → AmendsEntry g four tree x y t
  amends {Kind} {Breaks} {three} {four} {tree} s t x y page at there low high k spot w r sets run count =
      let front = take at k.items in
      let back = drop (suc at) k.items in
      let split = spot_split k.items x at spot in
      let node : nodes_in tree.width (g.state four) page ≡ LeafNode (front ++ y ∷ back) =
      sets.leaf (front ++ x ∷ back) (roomy_leaf (nodes_in tree.width (g.state three)) tree.root k.above page (front ++ x ∷ back) y r)
      ∙ ap LeafNode (ap (λ (l : List Entry). set l at y) (sym split) ∙ spot_set k.items x y at spot) in
      let a = amended (nodes_in tree.width (g.state s)) (nodes_in tree.width (g.state three)) (nodes_in tree.width (g.state four)) tree.root page k.above front x back y w r node
      (others_kept tree.width page run count) in
      let whole : t ≡ plug k.above (Leaf page (front ++ x ∷ back) Nil) = k.whole ∙ ap (λ (l : List Entry). plug k.above (Leaf page l Nil)) split in
      record {
        after = a.after;
        rest = a.rest;
        held = record { is_tree = a.tree; trim = a.trim };
        was = ap leaf_entries whole ∙ a.was;
        is = a.is;
        pages = λ p. a.pages p ∙ sym (ap (times p) whole);
        leaves = subst (λ (u : Forest). KeepsLeafCounts u a.after) (sym whole) a.leaves;
      }

  -- the separator that is moved is one of the tree
  moved_of : {s : S} {tree : Tree} (one : S) (t : Forest) (x y : Entry) (page at : ℕ) (there : Bool) (low high : Option Fence) (m : Fence) → HoldsTree g s tree t
      → IsSpot (nodes_in tree.width (g.state s)) t x page at there low high → MakesRoom g one tree low high y (Some m) → IsFenceOf (nodes_in tree.width (g.state s)) t m
  moved_of {s} {tree} one t x y page at there low high m h k (inl r) =
      let f = subst (λ (u : Forest). IsFenceOf (nodes_in tree.width (g.state s)) u r.fence) (sym k.whole)
      (low_fence-of (nodes_in tree.width (g.state s)) k.above (Leaf page k.items Nil) r.fence (subst (HoldsForest (nodes_in tree.width (g.state s))) k.whole h.is_tree.holds) (k.low_is ∙ r.there)) in
      let page_is : m.page ≡ r.fence.page = ap (λ (v : Fence). v.page) r.moved_is in
      let at_is : m.at ≡ r.fence.at = ap (λ (v : Fence). v.at) r.moved_is in
      record {
        seps = f.seps;
        children = f.children;
        node = ap (nodes_in tree.width (g.state s)) page_is ∙ f.node;
        within = omega (arith, at_is, f.within);
        inside = subst (λ (n : ℕ). 0 < times n t) (sym page_is) f.inside;
      }
  moved_of {s} {tree} one t x y page at there low high m h k (inr r) =
      let f = subst (λ (u : Forest). IsFenceOf (nodes_in tree.width (g.state s)) u r.fence) (sym k.whole)
      (high_fence-of (nodes_in tree.width (g.state s)) k.above (Leaf page k.items Nil) r.fence (subst (HoldsForest (nodes_in tree.width (g.state s))) k.whole h.is_tree.holds) (k.high_is ∙ r.there)) in
      record {
        seps = f.seps;
        children = f.children;
        node = ap (nodes_in tree.width (g.state s)) r.page_is ∙ f.node;
        within = omega (arith, r.at_is, f.within);
        inside = subst (λ (n : ℕ). 0 < times n t) (sym r.page_is) f.inside;
      }

  -- so its page is a page of the tree
  pub moved_page : {s : S} {tree : Tree} (one : S) (x y : Entry) (page at : ℕ) (there : Bool) (low high moved : Option Fence) (p : ℕ)
      → ((t : Forest) → HoldsTree g s tree t → IsSpot (nodes_in tree.width (g.state s)) t x page at there low high) → MakesRoom g one tree low high y moved → IsMovedPage moved p → IsTreePage g s tree p
  moved_page {s} {tree} one x y page at there low high None p k r is = absurd is
  moved_page {s} {tree} one x y page at there low high (Some m) p k r is =
      λ t h. subst (λ (n : ℕ). 0 < times n t) (sym is) (moved_of one t x y page at there low high m h (k t h) r).inside

  -- and it has a place there
  pub breaks_moved : {s two : S} {tree : Tree} (one : S) (x y : Entry) (page at : ℕ) (there : Bool) (low high moved : Option Fence) (damage : Damage)
      → ((t : Forest) → HoldsTree g s tree t → IsSpot (nodes_in tree.width (g.state s)) t x page at there low high) → MakesRoom g one tree low high y moved
      → Steady g s two → (g.state two).work ≡ (g.state s).work → BreaksMoved g two tree moved damage → BreaksTree g s tree damage
  breaks_moved {s} {two} {tree} one x y page at there low high None damage k r steady same b = absurd b
  breaks_moved {s} {two} {tree} one x y page at there low high (Some m) damage k r steady same b = record {
    page = b.page_is;
    rule = b.rule;
    broken = λ t h.
        let f = moved_of one t x y page at there low high m h (k t h) r in
        b.inner f.seps f.children (nodes_same tree.width (g.state s) (g.state two) m.page steady.is_told same ∙ f.node) f.within;
  }

  -- the leaf of x is a page of the tree
  pub spot_page : {s : S} {tree : Tree} (x : Entry) (page at : ℕ) (there : Bool) (low high : Option Fence) (p : ℕ)
      → ((t : Forest) → HoldsTree g s tree t → IsSpot (nodes_in tree.width (g.state s)) t x page at there low high) → OnlyPage page p → IsTreePage g s tree p
  spot_page {s} {tree} x page at there low high p k is =
      λ t h. subst (λ (n : ℕ). 0 < times n t) (sym is) (place_times t (Leaf page (k t h).items Nil) (k t h).above page (k t h).whole refl)

  -- what stands in the pages once the separator is moved
  pub meanwhile : {Kind : ℕ → Type 0} {Breaks : Damage → Type 0} {s two three : S} {tree : Tree} (one : S) (t : Forest) (x y : Entry) (page at : ℕ) (there : Bool) (low high moved : Option Fence)
      → HoldsTree g s tree t → (k : IsSpot (nodes_in tree.width (g.state s)) t x page at there low high) → IsTrue there → HasOwnFront x (leaf_entries t) → take 4 x ≡ take 4 y
      → Steady g s one → (g.state one).work ≡ (g.state s).work → MakesRoom g one tree low high y moved
      → Steady g s two → (g.state two).work ≡ (g.state s).work → SetsMoved g two three tree.width moved → RunsOverPages g (IsMovedPage moved) Kind Breaks two three None → length (g.state three).work ≡ length (g.state two).work
      → IsRoomy (nodes_in tree.width (g.state three)) tree.root k.above (Leaf page (take at k.items ++ x ∷ drop (suc at) k.items) Nil) y
  meanwhile {Kind} {Breaks} {s} {two} {three} {tree} one t x y page at there low high moved h k is alone alike steady1 same1 room steady2 same2 sets run count =
      made_roomy t x y page at there low high moved (take at k.items) (drop (suc at) k.items) h k
      (twin_of (nodes_in tree.width (g.state s)) tree.root t k.above page k.items x y at h.is_tree h.trim k.whole k.matched k.least k.under (k.says.0 is) alone alike)
      steady1 same1 room steady2 same2 sets run count

  -- the leaf of x isn't the node of a separator that is moved
  pub leaf_meanwhile : {Kind : ℕ → Type 0} {Breaks : Damage → Type 0} {s two three : S} {tree : Tree} (one : S) (t : Forest) (x y : Entry) (page at : ℕ) (there : Bool) (low high moved : Option Fence)
      → HoldsTree g s tree t → (k : IsSpot (nodes_in tree.width (g.state s)) t x page at there low high) → MakesRoom g one tree low high y moved
      → Steady g s two → (g.state two).work ≡ (g.state s).work → SetsMoved g two three tree.width moved → RunsOverPages g (IsMovedPage moved) Kind Breaks two three None → length (g.state three).work ≡ length (g.state two).work
      → nodes_in tree.width (g.state three) page ≡ LeafNode k.items
  leaf_meanwhile {Kind} {Breaks} {s} {two} {three} {tree} one t x y page at there low high None h k room steady same sets run count =
      nodes_same tree.width (g.state s) (g.state three) page (run.works.steady.is_told ∙ steady.is_told) (sets ∙ same) ∙ k.leaf
  leaf_meanwhile {Kind} {Breaks} {s} {two} {three} {tree} one t x y page at there low high (Some m) h k room steady same sets run count =
      let f = moved_of one t x y page at there low high m h k room in
      others_kept tree.width m.page run count page (λ (e : page ≡ m.page). let inner = ap (nodes_in tree.width (g.state s)) e ∙ f.node in let leaf = k.leaf in cc)
      ∙ nodes_same tree.width (g.state s) (g.state two) page steady.is_told same
      ∙ k.leaf

  -- so it has a place for y
  pub breaks_slot : {s three : S} {tree : Tree} (x : Entry) (page at : ℕ) (there : Bool) (low high : Option Fence) (damage : Damage)
      → ((t : Forest) → HoldsTree g s tree t → (k : IsSpot (nodes_in tree.width (g.state s)) t x page at there low high) × (nodes_in tree.width (g.state three) page ≡ LeafNode k.items))
      → IsTrue there → BreaksSlot g three tree page at damage → BreaksTree g s tree damage
  breaks_slot {s} {three} {tree} x page at there low high damage r is b = record {
    page = b.page_is;
    rule = b.rule;
    broken = λ t h. b.leaf (r t h).0.items (r t h).1 ((r t h).0.says.0 is).0;
  }

  -- an entry that is at its place is there
  pub is_there : {s : S} {tree : Tree} (t : Forest) (x : Entry) (page at : ℕ) (there : Bool) (low high : Option Fence) → HoldsTree g s tree t → IsSpot (nodes_in tree.width (g.state s)) t x page at there low high
      → IsTrue there → IsEntryOf x (leaf_entries t)
  is_there {s} {tree} t x page at there low high h k is =
      let fit = subst (Fits None None []) k.whole h.is_tree.fits in
      let here : Forest = Leaf page k.items Nil in
      let o = outside None None k.above here page x k.matched refl fit k.least k.under in
      let spot = k.says.0 is in
      subst (λ (u : Forest). IsEntryOf x (leaf_entries u)) (sym k.whole) ((has_at k.above here x o).1 (rw append-nil (subst (λ (v : Entry). IsEntryOf v k.items) spot.1 (entry_at_place k.items at spot.0))))

  -- the tree afterwards
  pub amends_there : {Kind : ℕ → Type 0} {Breaks : Damage → Type 0} {s three four : S} {tree : Tree} (t : Forest) (x y : Entry) (page at : ℕ) (there : Bool) (low high : Option Fence)
      → HoldsTree g s tree t → (k : IsSpot (nodes_in tree.width (g.state s)) t x page at there low high) → IsTrue there → HasOwnFront x (leaf_entries t) → take 4 x ≡ take 4 y
      → IsRoomy (nodes_in tree.width (g.state three)) tree.root k.above (Leaf page (take at k.items ++ x ∷ drop (suc at) k.items) Nil) y
      → SetsAt g three four tree.width page at y → RunsOverPages g (OnlyPage page) Kind Breaks three four None → length (g.state four).work ≡ length (g.state three).work
      → AmendsEntry g four tree x y t
  amends_there {Kind} {Breaks} {s} {three} {four} {tree} t x y page at there low high h k is alone alike r sets run count =
      amends s t x y page at there low high k (k.says.0 is)
      (twin_of (nodes_in tree.width (g.state s)) tree.root t k.above page k.items x y at h.is_tree h.trim k.whole k.matched k.least k.under (k.says.0 is) alone alike) r sets run count
