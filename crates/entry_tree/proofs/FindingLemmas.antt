-- What was found in a tree, and where it stands.
use Rattle.std.proofs.Common.{◌≡◌, ◌<◌, ◌+◌, ◌⊎◌, ℕ, zero, suc, List, [], ◌∷◌, refl, arith, sym, ◌∙◌, subst, length, get_or, drop, inl, inr}
use Rattle.std.specs.Prelude.{Option, Some, None, Bool, true, false, IsTrue, ◌↔◌}
use Rattle.std.proofs.lemmas.Bool.{cases_lt}
use Rattle.mdc_words.specs.ByteOrder.{Entry, below}
use Rattle.node_page.specs.Node.{Node}
use Rattle.node_page.specs.Node.Node.{InnerNode, LeafNode}
use Rattle.store_api.specs.Works.{Steady}
use Rattle.store_api.specs.declared.pages.Pages.{Ghosts}
use Rattle.entry_tree.specs.EntryBounds.{AtLeast, Bound, Climbs, IsEntryOf, IsLeafPlace, Rises, Under}
use Rattle.entry_tree.specs.Finding.{IsFoundEntry, IsEntryPlace}
use Rattle.entry_tree.specs.Forest.{Fits, Forest, IsTree, heads, leaf_entries}
use Rattle.entry_tree.specs.Forest.Forest.{Leaf, Nil}
use Rattle.entry_tree.specs.HeldTrees.{HoldsTree, nodes_in}
use Rattle.entry_tree.specs.Reading.{first_entry}
use Rattle.entry_tree.specs.Sight.{Sees}
use Rattle.entry_tree.specs.Spots.{IsSpot, high_fence, low_fence}
use Rattle.entry_tree.specs.TreePlaces.{IsOnWay, high_of, low_of}
use Rattle.entry_tree.specs.declared.finding.FoundEntry.{FoundEntry}
use Rattle.entry_tree.specs.declared.sight.Sight.TheVariants.{AtLeaf}
use Rattle.entry_tree.specs.declared.spot.Fence.{Fence}
use Rattle.entry_tree.specs.declared.tree.Tree.{Tree}
use Rattle.entry_tree.proofs.AmendedLemmas.{holds_back, is_there, not_there}
use Rattle.entry_tree.proofs.EntryBoundsLemmas.{AtLeast-down, Room-at_least, below_itself, below_trans}
use Rattle.entry_tree.proofs.FirstFromLemmas.{first_entry-drop, first_entry-drop_all}
use Rattle.entry_tree.proofs.HeldTreesLemmas.{nodes_same}
use Rattle.entry_tree.proofs.LeafSpotsLemmas.{entry_at_place, stands_at_place}
use Rattle.entry_tree.proofs.NodeOnWayLemmas.{InnerOnWay, LeafOnWay, node_on_way}
use Rattle.entry_tree.proofs.SightLemmas.{Rises-wide}
use Rattle.entry_tree.proofs.TreePlacesLemmas.{Fits-plug}

-- each entry of a rising list lies between its bounds
climbs_between : (last : Entry) (high : Bound) (items : List Entry) (at : ℕ) → Climbs last high items → at < length items → (below last (get_or items at []) ≡ true) × Under high (get_or items at [])
climbs_between last high [] at h l = absurd (omega arith)
climbs_between last high (x ∷ xs) zero h l = (h.0, h.1)
climbs_between last high (x ∷ xs) (suc at) h l =
    let r = climbs_between x high xs at h.2 (omega (arith, l)) in
    (below_trans last x (get_or xs at []) h.0 r.0, r.1)

rises_between : (low high : Bound) (items : List Entry) (at : ℕ) → Rises low high items → at < length items → AtLeast low (get_or items at []) × Under high (get_or items at [])
rises_between low high [] at h l = absurd (omega arith)
rises_between low high (x ∷ xs) zero h l = (h.0, h.1)
rises_between low high (x ∷ xs) (suc at) h l =
    let r = climbs_between x high xs at h.2 (omega (arith, l)) in
    let y = get_or xs at [] in
    (AtLeast-down low y y (Room-at_least low x y h.0 r.0) (below_itself y), r.1)

-- and behind those that stand before it
rises_apart : (items : List Entry) (k at : ℕ) → Rises None None items → k < at → at < length items → below (get_or items k []) (get_or items at []) ≡ true
rises_apart [] k at h l m = absurd (omega arith)
rises_apart (x ∷ xs) k zero h l m = absurd (omega arith)
rises_apart (x ∷ xs) zero (suc at) h l m = (climbs_between x None xs at h.2 (omega (arith, m))).0
rises_apart (x ∷ xs) (suc k) (suc at) h l m = rises_apart xs k at (behind xs h.2) (omega (arith, l)) (omega (arith, m))
  where
    behind : (ys : List Entry) → Climbs x None ys → Rises None None ys
    behind [] c = tt
    behind (y ∷ ys) c = (tt, tt, c.2)

-- so it belongs where it stands
own_place : (items : List Entry) (at : ℕ) → Rises None None items → at < length items → IsLeafPlace items (get_or items at []) at
own_place items at h l = record {
  within = omega (arith, l);
  before = λ k m. rises_apart items k at h m l;
  after = λ m. below_itself (get_or items at []);
}

-- the entry from the place of a bound on stands there
pub spot_of_first : (nodes now : ℕ → Node) (root : ℕ) (t : Forest) (x first : Entry) (page at : ℕ) (there : Bool) (low high : Option Fence) → IsTree nodes root t → (s : IsSpot nodes t x page at there low high)
    → now page ≡ nodes page → Some first ≡ first_entry (drop at s.items) → IsSpot now t first page at true low high
spot_of_first nodes now root t x first page at there low high w s n e =
    elim (cases_lt at (length s.items)) [
      | inl l ↦
          let is : Some first ≡ Some (get_or s.items at []) = e ∙ first_entry-drop s.items at l in
          let item : get_or s.items at [] ≡ first = cc in
          subst (λ (v : Entry). IsSpot now t v page at true low high) item (stands l)
      | inr past ↦ let none : Some first ≡ None = e ∙ first_entry-drop_all s.items at past in cc
    ]
  where
    rises : Rises (low_of None s.above) (high_of None s.above) s.items
    rises = (Fits-plug None None s.above (Leaf page s.items Nil) page s.matched refl (subst (Fits None None []) s.whole w.fits)).0.1

    stands : at < length s.items → IsSpot now t (get_or s.items at []) page at true low high
    stands l =
        let between = rises_between (low_of None s.above) (high_of None s.above) s.items at rises l in
        record {
          above = s.above;
          items = s.items;
          whole = s.whole;
          leaf = n ∙ s.leaf;
          matched = s.matched;
          least = between.0;
          under = between.1;
          place = own_place s.items at (Rises-wide (low_of None s.above) (high_of None s.above) s.items rises) l;
          says = ((λ is. (l, refl)), (λ is. refl));
          low_is = s.low_is;
          high_is = s.high_is;
        }

-- the same entry, in nodes that are as they were
spot_still : (nodes now : ℕ → Node) (t : Forest) (x : Entry) (page at : ℕ) (there : Bool) (low high : Option Fence) → IsSpot nodes t x page at there low high → now page ≡ nodes page → IsSpot now t x page at there low high
spot_still nodes now t x page at there low high s n = record {
  above = s.above;
  items = s.items;
  whole = s.whole;
  leaf = n ∙ s.leaf;
  matched = s.matched;
  least = s.least;
  under = s.under;
  place = s.place;
  says = s.says;
  low_is = s.low_is;
  high_is = s.high_is;
}

-- the end of the way of an entry is its leaf
spot_on_way : (nodes : ℕ → Node) (width root page steps : ℕ) (t : Forest) (x : Entry) → IsTree nodes root t → IsOnWay t x page steps → (at : ℕ) (there full : Bool) → Sees width (nodes page) x (AtLeaf at there full)
    → IsEntryPlace nodes t x page at there
spot_on_way nodes width root page steps t x w v at there full p = go (node_on_way nodes root page steps t x w v)
  where
    leaf : (l : LeafOnWay nodes t v.above page) → Sees width (LeafNode l.items) x (AtLeaf at there full) → IsEntryPlace nodes t x page at there
    leaf l q =
        let rises = Rises-wide (low_of None v.above) (high_of None v.above) l.items l.rises in
        let r = q.1 rises in
        record {
          low = low_fence v.above;
          high = high_fence v.above;
          spot = record {
            above = v.above;
            items = l.items;
            whole = l.whole;
            leaf = l.node;
            matched = v.matched;
            least = v.low;
            under = v.high;
            place = r.0;
            says = (
              (λ is. stands_at_place l.items x at rises r.0 (r.1.0 is)),
              (λ s. r.1.1 (subst (λ (y : Entry). IsEntryOf y l.items) s.1 (entry_at_place l.items at s.0))),
            );
            low_is = refl;
            high_is = refl;
          };
        }

    inner : (n : InnerOnWay nodes t v.above page) → Sees width (InnerNode n.seps (heads n.kids)) x (AtLeaf at there full) → IsEntryPlace nodes t x page at there
    inner n q = absurd q

    go : LeafOnWay nodes t v.above page ⊎ InnerOnWay nodes t v.above page → IsEntryPlace nodes t x page at there
    go (inl l) = leaf l (subst (λ (n : Node). Sees width n x (AtLeaf at there full)) l.node p)
    go (inr n) = inner n (subst (λ (m : Node). Sees width m x (AtLeaf at there full)) n.node p)

module _ {S : Type 0} {g : Ghosts S} {s mid : S} {tree : Tree} where
  -- what a search sees in the leaf of an entry, where the pages are as they were
  pub leaf_seen : {t : Forest} {x : Entry} {page steps : ℕ} → HoldsTree g s tree t → IsOnWay t x page steps → Steady g s mid → (g.state mid).work ≡ (g.state s).work → (at : ℕ) (there full : Bool)
      → Sees tree.width (nodes_in tree.width (g.state mid) page) x (AtLeaf at there full) → IsEntryPlace (nodes_in tree.width (g.state s)) t x page at there
  leaf_seen {t} {x} {page} {steps} h v steady same at there full sees =
      spot_on_way (nodes_in tree.width (g.state s)) tree.width tree.root page steps t x h.is_tree v at there full
      (subst (λ (n : Node). Sees tree.width n x (AtLeaf at there full)) (nodes_same tree.width (g.state s) (g.state mid) page steady.is_told same) sees)

  -- what is found at the place of a bound
  pub found_first : (x first : Entry) (page at : ℕ) (there inside : Bool) → Steady g s mid → (g.state mid).work ≡ (g.state s).work → length first ≡ tree.width
      → ((t : Forest) → HoldsTree g s tree t → IsEntryPlace (nodes_in tree.width (g.state s)) t x page at there)
      → ((items : List Entry) → nodes_in tree.width (g.state s) page ≡ LeafNode items → Some first ≡ first_entry (drop at items))
      → ((items : List Entry) → nodes_in tree.width (g.state s) page ≡ LeafNode items → IsTrue inside → (0 < at) × (at + 1 < length items))
      → IsFoundEntry g mid tree (record { entry = first; page = page; at = at; inside = inside })
  found_first x first page at there inside steady same width spots gives between =
      let now = nodes_same tree.width (g.state s) (g.state mid) page steady.is_told same in
      record {
        width = width;
        stands = λ t h.
            let back = holds_back steady same h in
            let k = spots t back in
            record {
              leaf = record {
                low = k.low;
                high = k.high;
                spot = spot_of_first (nodes_in tree.width (g.state s)) (nodes_in tree.width (g.state mid)) tree.root t x first page at there k.low k.high back.is_tree k.spot now (gives k.spot.items k.spot.leaf);
              };
              between = λ items e. between items (sym now ∙ e);
            };
      }

  -- it stands there as long as the pages are the same
  pub found_still : (found : FoundEntry) → Steady g s mid → (g.state mid).work ≡ (g.state s).work → IsFoundEntry g s tree found → IsFoundEntry g mid tree found
  found_still found steady same f =
      let now = nodes_same tree.width (g.state s) (g.state mid) found.page steady.is_told same in
      record {
        width = f.width;
        stands = λ t h.
            let k = f.stands t (holds_back steady same h) in
            record {
              leaf = record {
                low = k.leaf.low;
                high = k.leaf.high;
                spot = spot_still (nodes_in tree.width (g.state s)) (nodes_in tree.width (g.state mid)) t found.entry found.page found.at true k.leaf.low k.leaf.high k.leaf.spot now;
              };
              between = λ items e. k.between items (sym now ∙ e);
            };
      }

-- whether an entry is in its leaf says whether it is in the tree
pub leaf_has : {S : Type 0} {g : Ghosts S} {s : S} {tree : Tree} (t : Forest) (x : Entry) (page at : ℕ) (there : Bool) → HoldsTree g s tree t → IsEntryPlace (nodes_in tree.width (g.state s)) t x page at there
    → IsTrue there ↔ IsEntryOf x (leaf_entries t)
leaf_has t x page at there h k = ((λ is. is_there t x page at there k.low k.high h k.spot is), (λ i. go there refl i))
  where
    go : (b : Bool) → there ≡ b → IsEntryOf x (leaf_entries t) → IsTrue there
    go true e i = e
    go false e i = absurd (not_there t x page at there k.low k.high h k.spot e i)
