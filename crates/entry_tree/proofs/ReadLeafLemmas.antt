-- What the leaf of a bound gives, in a tree that a store is told to hold.
use Rattle.std.proofs.Common.{◌≡◌, ◌<◌, ◌≤◌, ℕ, List, [], ◌∷◌, refl, ap, arith, sym, ◌∙◌, subst, length, get_or, drop}
use Rattle.std.specs.Prelude.{Option, Some, None, Bool}
use Rattle.mdc_words.specs.ByteOrder.{Entry}
use Rattle.node_page.specs.Node.{Node}
use Rattle.node_page.specs.Node.Node.{LeafNode}
use Rattle.store_api.specs.Works.{Steady}
use Rattle.store_api.specs.declared.fault.Damage.{Damage}
use Rattle.store_api.specs.declared.pages.Pages.{Ghosts}
use Rattle.entry_tree.specs.EntryBounds.{Bound}
use Rattle.entry_tree.specs.Forest.{Forest, leaf_entries}
use Rattle.entry_tree.specs.HeldTrees.{nodes_in, HoldsTree, IsTreePage, BreaksTree}
use Rattle.entry_tree.specs.Reading.{IsLeafFrom, IsReadAt}
use Rattle.entry_tree.specs.Spots.{IsSpot, fence_bound, high_fence, high_fence_in, low_fence, low_fence_in}
use Rattle.entry_tree.specs.TreePlaces.{Frame, first_or, high_of, last_or, low_of}
use Rattle.entry_tree.specs.declared.spot.Fence.{Fence}
use Rattle.entry_tree.specs.declared.tree.Tree.{Tree}
use Rattle.entry_tree.proofs.ForestLemmas.{HoldsForest-agree}
use Rattle.entry_tree.proofs.HeldTreesLemmas.{nodes_same}
use Rattle.entry_tree.proofs.LeafFromLemmas.{first_read, second_read}

-- the nearest separators are the bounds of a place
pub high_fence-bound : (fs : List Frame) → high_of None fs ≡ fence_bound (high_fence fs)
high_fence-bound [] = refl
high_fence-bound (f ∷ fs) = go f.highs (high_fence-bound fs)
  where
    go : (highs : List Entry) → high_of None fs ≡ fence_bound (high_fence fs) → first_or highs (high_of None fs) ≡ fence_bound (high_fence_in f highs (high_fence fs))
    go [] e = e
    go (h ∷ highs) e = refl

last_or-last : (low : Bound) (l : Entry) (ls : List Entry) → last_or low (l ∷ ls) ≡ Some (get_or (l ∷ ls) (length ls) [])
last_or-last low l [] = refl
last_or-last low l (m ∷ ls) = last_or-last (Some l) m ls

pub low_fence-bound : (fs : List Frame) → low_of None fs ≡ fence_bound (low_fence fs)
low_fence-bound [] = refl
low_fence-bound (f ∷ fs) = go f.lows (low_fence-bound fs)
  where
    go : (lows : List Entry) → low_of None fs ≡ fence_bound (low_fence fs) → last_or (low_of None fs) lows ≡ fence_bound (low_fence_in f lows (low_fence fs))
    go [] e = e
    go (l ∷ lows) e = last_or-last (low_of None fs) l lows

-- a leaf from the place of a bound on
pub read_spot : (nodes : ℕ → Node) (t : Forest) (x : Entry) (page at : ℕ) (there : Bool) (low high : Option Fence) (given : List Entry) (next : Bound) → IsSpot nodes t x page at there low high
    → ((items : List Entry) → nodes page ≡ LeafNode items → given ≡ drop at items) → next ≡ fence_bound high → IsReadAt t x given next
read_spot nodes t x page at there low high given next s d e = record {
  above = s.above;
  page = page;
  items = s.items;
  at = at;
  whole = s.whole;
  matched = s.matched;
  low = s.least;
  high = s.under;
  next_is = high_fence-bound s.above ∙ ap fence_bound s.high_is ∙ sym e;
  spot = s.place;
  given_is = d s.items s.leaf;
}

none_given : (given : List Entry) → length given ≤ 0 → given ≡ []
none_given [] h = refl
none_given (x ∷ xs) h = absurd (omega arith)

module _ {S : Type 0} {g : Ghosts S} {s mid : S} {tree : Tree} where
  -- a tree stays where the pages are as they were
  pub holds_still : {t : Forest} → Steady g s mid → (g.state mid).work ≡ (g.state s).work → HoldsTree g s tree t → HoldsTree g mid tree t
  holds_still {t} steady same h = record {
    is_tree = record {
      head = h.is_tree.head;
      holds = HoldsForest-agree (nodes_in tree.width (g.state s)) (nodes_in tree.width (g.state mid)) t (λ n p. nodes_same tree.width (g.state s) (g.state mid) n steady.is_told same) h.is_tree.holds;
      fits = h.is_tree.fits;
      distinct = h.is_tree.distinct;
    };
    trim = h.trim;
  }

  pub tree_page_still : (p : ℕ) → Steady g s mid → (g.state mid).work ≡ (g.state s).work → IsTreePage g mid tree p → IsTreePage g s tree p
  tree_page_still p steady same is t h = is t (holds_still steady same h)

  pub breaks_still : (damage : Damage) → Steady g s mid → (g.state mid).work ≡ (g.state s).work → BreaksTree g mid tree damage → BreaksTree g s tree damage
  breaks_still damage steady same b = record { page = b.page; rule = b.rule; broken = λ t h. b.broken t (holds_still steady same h) }

-- the leaf of the bound has something to give
pub gives_first : {S : Type 0} {g : Ghosts S} {s : S} {tree : Tree} (t : Forest) (x : Entry) (given : List Entry) (next : Bound) → HoldsTree g s tree t → IsReadAt t x given next → 0 < length given
    → IsLeafFrom (leaf_entries t) x given next
gives_first t x given next h r some = first_read t x given next h.is_tree.fits h.trim r (λ e. absurd (omega (arith, some, ap length e)))

-- or nothing lies behind it
pub gives_none : {S : Type 0} {g : Ghosts S} {s : S} {tree : Tree} (t : Forest) (x : Entry) (given : List Entry) (next : Bound) → HoldsTree g s tree t → IsReadAt t x given next → next ≡ None
    → IsLeafFrom (leaf_entries t) x given next
gives_none t x given next h r e = first_read t x given next h.is_tree.fits h.trim r (λ q. e)

-- or the next leaf has
pub gives_second : {S : Type 0} {g : Ghosts S} {s : S} {tree : Tree} (t : Forest) (x b : Entry) (none given : List Entry) (first next : Bound) → HoldsTree g s tree t → IsReadAt t x none first → length none ≤ 0 → first ≡ Some b
    → IsReadAt t b given next → IsLeafFrom (leaf_entries t) x given next × (0 < length given)
gives_second t x b none given first next h r l e q =
    second_read t x b given next h.is_tree.fits h.trim
    (subst (λ (v : Bound). IsReadAt t x [] v) e (subst (λ (v : List Entry). IsReadAt t x v first) (none_given none l) r)) q
