-- The first leaf that holds an entry from a bound on.
use Rattle.std.proofs.Common.{◌≡◌, ◌<◌, ◌≤◌, ℕ, List, [], ◌∷◌, refl, ap, arith, sym, ◌∙◌, subst, length, drop, inl, inr}
use Rattle.std.specs.Prelude.{Option, Some, None, Bool, true, false, IsTrue, ◌↔◌}
use Rattle.std.proofs.lemmas.Bool.{cases_lt}
use Rattle.std.proofs.lemmas.List.{length-drop}
use Rattle.mdc_words.specs.ByteOrder.{Entry}
use Rattle.node_page.specs.Node.{Node}
use Rattle.store_api.specs.declared.pages.Pages.{Ghosts}
use Rattle.entry_tree.specs.EntryBounds.{Bound, Rises, Under}
use Rattle.entry_tree.specs.Forest.{Fits, Forest, IsTrimTree}
use Rattle.entry_tree.specs.Forest.Forest.{Leaf, Nil}
use Rattle.entry_tree.specs.HeldTrees.{nodes_in, HoldsTree}
use Rattle.entry_tree.specs.Reading.{IsReadAt, RestBegins}
use Rattle.entry_tree.specs.Spots.{IsSpot, IsSpotBelow, fence_bound}
use Rattle.entry_tree.specs.Sweeping.{IsFirstSpot}
use Rattle.entry_tree.specs.TreePlaces.{entries_behind, low_of}
use Rattle.entry_tree.specs.declared.spot.Fence.{Fence}
use Rattle.entry_tree.specs.declared.tree.Tree.{Tree}
use Rattle.entry_tree.proofs.LeafFromLemmas.{begins_at, from_high, from_leaf, second_read}
use Rattle.entry_tree.proofs.ReadLeafLemmas.{high_fence-bound}
use Rattle.entry_tree.proofs.ReadingLemmas.{AreBehind, Rises-under, behind_place}
use Rattle.entry_tree.proofs.TreePlacesLemmas.{Fits-plug}
use Rattle.entry_tree.proofs.TrimLemmas.{behind_some}
use Rattle.entry_tree.proofs.UnsweptLemmas.{begins_lower}

-- the rest behind the leaf of a bound, as its high bound parts it
begins_over : (t : Forest) (x : Entry) (given : List Entry) (next : Bound) → Fits None None [] t → IsTrimTree t → (r : IsReadAt t x given next) → RestBegins (x ∷ r.items) next (entries_behind r.above)
begins_over t x given next f k r =
    let fit = subst (Fits None None []) r.whole f in
    let rises = subst (λ (v : Bound). Rises (low_of None r.above) v r.items) r.next_is (Fits-plug None None r.above (Leaf r.page r.items Nil) r.page r.matched refl fit).0.1 in
    begins_at (x ∷ r.items) next (entries_behind r.above)
    (subst (λ (v : Bound). AreBehind v (entries_behind r.above)) r.next_is (behind_place r.above (Leaf r.page r.items Nil) r.page r.matched refl fit))
    (subst (λ (v : Bound). Under v x) r.next_is r.high, Rises-under (low_of None r.above) next r.items rises)
    (λ s e. behind_some r.above (Leaf r.page r.items Nil) r.page s r.matched refl fit (subst IsTrimTree r.whole k) (r.next_is ∙ e))

-- what the leaf of a bound gives
abbrev spot_read : {nodes : ℕ → Node} {t : Forest} {x : Entry} {page at : ℕ} {there : Bool} {low high : Option Fence} → (s : IsSpot nodes t x page at there low high) → IsReadAt t x (drop at s.items) (fence_bound high)
spot_read {nodes} {t} {x} {page} {at} {there} {low} {high} s = record {
  above = s.above;
  page = page;
  items = s.items;
  at = at;
  whole = s.whole;
  matched = s.matched;
  low = s.least;
  high = s.under;
  next_is = high_fence-bound s.above ∙ ap fence_bound s.high_is;
  spot = s.place;
  given_is = refl;
}

pub drop_some : (items : List Entry) (at : ℕ) → at < length items → drop at items ≡ [] → ⊥
drop_some items at lt e = omega (arith, lt, length-drop at items, ap length e)

pub drop_none : (items : List Entry) (at : ℕ) (there : Bool) → IsTrue there ↔ (at < length items) → there ≡ false → drop at items ≡ []
drop_none items at there says not_there = none (drop at items) (omega (arith, past, length-drop at items))
  where
    refuted : (b : Bool) → IsTrue b → b ≡ false → ⊥
    refuted true h e = cc
    refuted false h e = cc

    past : length items ≤ at
    past = elim (cases_lt at (length items)) [
      | inl lt ↦ absurd (refuted there (says.1 lt) not_there)
      | inr le ↦ le
    ]

    none : (xs : List Entry) → length xs ≡ 0 → xs ≡ []
    none [] e = refl
    none (x ∷ xs) e = absurd (omega arith)

none_behind : (xs : List Entry) (next : Bound) (behind : List Entry) → next ≡ None → RestBegins xs next behind → behind ≡ []
none_behind xs next behind e b = subst (λ (v : Bound). RestBegins xs v behind) e b

module _ {S : Type 0} {g : Ghosts S} {s : S} {tree : Tree} where
  -- the leaf of the bound has an entry from it on, or nothing lies behind it
  pub first_spot : {x : Entry} {page at : ℕ} {there : Bool} {low high : Option Fence} {parent : Option (ℕ × ℕ)} (t : Forest) → HoldsTree g s tree t
      → (b : IsSpotBelow (nodes_in tree.width (g.state s)) t x page at there low high parent) → (drop at b.spot.items ≡ [] → fence_bound high ≡ None)
      → IsFirstSpot (nodes_in tree.width (g.state s)) t x page at parent (fence_bound high)
  first_spot {x} {page} {at} {there} {low} {high} {parent} t h b last =
      let r = spot_read b.spot in
      let begins = begins_over t x (drop at b.spot.items) (fence_bound high) h.is_tree.fits h.trim r in
      record {
        spot = record { above = b.spot.above; items = b.spot.items; whole = b.spot.whole; matched = b.spot.matched; leaf = b.spot.leaf; parent_is = b.parent_is };
        since = from_leaf t x (drop at b.spot.items) (fence_bound high) h.is_tree.fits r;
        some = λ e. none_behind (x ∷ b.spot.items) (fence_bound high) (entries_behind b.spot.above) (last e) begins;
        begins = begins;
      }

  -- it has none, and its high bound leads to the next leaf
  pub second_spot : {nodes : ℕ → Node} {x y : Entry} {fence : Fence} {page at other place : ℕ} {there here : Bool} {low high under over : Option Fence} {parent above : Option (ℕ × ℕ)} (t : Forest) → HoldsTree g s tree t
      → (b : IsSpotBelow (nodes_in tree.width (g.state s)) t x page at there low high parent) → drop at b.spot.items ≡ [] → high ≡ Some fence → y ≡ fence.bound
      → ((n : ℕ) → nodes n ≡ nodes_in tree.width (g.state s) n) → IsSpotBelow nodes t y other place here under over above
      → IsFirstSpot (nodes_in tree.width (g.state s)) t x other place above (fence_bound over)
  second_spot {nodes} {x} {y} {fence} {page} {at} {other} {place} {there} {here} {low} {high} {under} {over} {parent} {above} t h b none is bound_is same c =
      let d : IsSpotBelow nodes t fence.bound other place here under over above = subst (λ (v : Entry). IsSpotBelow nodes t v other place here under over above) bound_is c in
      let one : IsReadAt t x [] (Some fence.bound) = subst (λ (v : Bound). IsReadAt t x [] v) (ap fence_bound is) (subst (λ (l : List Entry). IsReadAt t x l (fence_bound high)) none (spot_read b.spot)) in
      let r = spot_read d.spot in
      let q = second_read t x fence.bound (drop place d.spot.items) (fence_bound over) h.is_tree.fits h.trim one r in
      record {
        spot = record { above = d.spot.above; items = d.spot.items; whole = d.spot.whole; matched = d.spot.matched; leaf = sym (same other) ∙ d.spot.leaf; parent_is = d.parent_is };
        since = from_leaf t x [] (Some fence.bound) h.is_tree.fits one
            ∙ (sym (from_high t x fence.bound [] h.is_tree.fits one) ∙ from_leaf t fence.bound (drop place d.spot.items) (fence_bound over) h.is_tree.fits r);
        some = λ e. absurd (omega (arith, q.1, ap length e));
        begins = begins_lower x fence.bound d.spot.items (fence_bound over) (entries_behind d.spot.above) (subst (λ (v : Bound). Under v x) one.next_is one.high)
            (begins_over t fence.bound (drop place d.spot.items) (fence_bound over) h.is_tree.fits h.trim r);
      }
