-- An entry is replaced by another one in its leaf.
use Rattle.std.proofs.Common.{◌≡◌, ◌≢◌, ℕ, suc, List, [], ◌∷◌, ◌++◌, refl, ap, arith, sym, ◌∙◌, subst, append_assoc, append-nil, take, drop, set, inl, inr, length-append}
use Rattle.std.specs.Prelude.{Some, None, true, false}
use Rattle.std.proofs.Math.Seq.{drop-cons, set-append_seam}
use Rattle.std.proofs.lemmas.List.{length-take-le, take-append-drop}
use Rattle.mdc_words.specs.ByteOrder.{Entry, below}
use Rattle.node_page.specs.Node.{Node}
use Rattle.node_page.specs.Node.Node.{LeafNode}
use Rattle.entry_tree.specs.Amending.{HasOwnFront}
use Rattle.entry_tree.specs.EntryBounds.{AtLeast, Bound, Climbs, Rises, Room, Under, IsEntryOf, with_entry}
use Rattle.entry_tree.specs.Forest.{EachNode, Forest, HoldsEntry, IsTree, IsTrimTree, leaf_entries, times}
use Rattle.entry_tree.specs.Forest.Forest.{Leaf, Nil}
use Rattle.entry_tree.specs.Reading.{AreAtLeast, AreUnder}
use Rattle.entry_tree.specs.Spots.{IsAtSpot, fence_bound, high_fence, low_fence}
use Rattle.entry_tree.specs.TreeChanges.{KeepsLeafCounts}
use Rattle.entry_tree.specs.TreePlaces.{AreMatched, Frame, entries_before, entries_behind, high_of, low_of, plug}
use Rattle.entry_tree.specs.declared.spot.Fence.{Fence}
use Rattle.entry_tree.proofs.AlikeLemmas.{AllAbove-alike, AllBelow-alike, alone_left, alone_right}
use Rattle.entry_tree.proofs.DescentLemmas.{outside}
use Rattle.entry_tree.proofs.EntryBoundsLemmas.{AllAbove, AllAbove-and, AllBelow, AllBelow-and, Climbs-above, Climbs-and, Rises-below, Under-up, below_itself, below_trans, put_between, up_to}
use Rattle.entry_tree.proofs.FencesLemmas.{IsSamePlace, SetsFence, high_moved, high_of-with_high, high_of-with_low, holds_plug, low_moved, low_of-with_high, low_of-with_low, with_high, with_high-place, with_low, with_low-place}
use Rattle.entry_tree.proofs.LeafCountsLemmas.{KeepsLeafCounts-plug}
use Rattle.entry_tree.proofs.LeavesLemmas.{EachBeside-from_plug, fork_trim, trim_fork}
use Rattle.entry_tree.proofs.ReadingLemmas.{AllAbove-least, AreAtLeast-and, AreAtLeast-down, AreBehind, AreUnder-and, behind_place, least_of, Rises-least, Rises-under}
use Rattle.entry_tree.proofs.ReadLeafLemmas.{high_fence-bound, low_fence-bound}
use Rattle.entry_tree.proofs.RefitLemmas.{room_by}
use Rattle.entry_tree.proofs.TreeChangesLemmas.{changed, leaf_change}
use Rattle.entry_tree.proofs.TreePlacesLemmas.{EachNode-from_plug, Fits-plug, leaf_entries-plug, times-plug}

-- another entry between the same ones
Climbs-swap : (last : Entry) (high : Bound) (front : List Entry) (x y : Entry) (back : List Entry) → Climbs last high (front ++ x ∷ back) → below last y ≡ true → AllBelow y front → AllAbove y back → Under high y
    → Climbs last high (front ++ y ∷ back)
Climbs-swap last high [] x y [] h l b a u = (l, u, tt)
Climbs-swap last high [] x y (z ∷ back) h l b a u = (l, u, (a.0, h.2.1, h.2.2))
Climbs-swap last high (f ∷ front) x y back h l b a u = (h.0, h.1, Climbs-swap f high front x y back h.2 b.0 b.1 a u)

pub Rises-swap : (low high : Bound) (front : List Entry) (x y : Entry) (back : List Entry) → Rises low high (front ++ x ∷ back) → AtLeast low y → Under high y → AllBelow y front → AllAbove y back
    → Rises low high (front ++ y ∷ back)
Rises-swap low high [] x y [] h l u b a = (l, u, tt)
Rises-swap low high [] x y (z ∷ back) h l u b a = (l, u, (a.0, h.2.1, h.2.2))
Rises-swap low high (f ∷ front) x y back h l u b a = (h.0, h.1, Climbs-swap f high front x y back h.2 b.0 b.1 a u)

Climbs-all : (x : Entry) (high : Bound) (xs : List Entry) → Climbs x high xs → AllAbove x xs
Climbs-all x high [] h = tt
Climbs-all x high (y ∷ ys) h = (h.0, Climbs-above y x high ys h.2 h.0)

-- what stands before an entry and behind it
pub Rises-around : (low high : Bound) (front : List Entry) (x : Entry) (back : List Entry) → Rises low high (front ++ x ∷ back) → AllBelow x front × AllAbove x back
Rises-around low high [] x back h = (tt, Climbs-all x high back h.2)
Rises-around low high (f ∷ front) x back h =
    let r = Climbs-and f high front x back h.2 in
    (Rises-below low x x (f ∷ front) (h.0, r.1, r.0) (below_itself x), Climbs-all x high back r.3)

-- the list around a place
pub spot_split : (items : List Entry) (x : Entry) (at : ℕ) → IsAtSpot items x at → items ≡ take at items ++ x ∷ drop (suc at) items
spot_split items x at s =
    sym (take-append-drop at items)
    ∙ ap (λ (r : List Entry). take at items ++ r) (drop-cons items at [] s.0 ∙ ap (λ (v : Entry). v ∷ drop (suc at) items) s.1)

pub spot_set : (items : List Entry) (x y : Entry) (at : ℕ) → IsAtSpot items x at → set items at y ≡ take at items ++ y ∷ drop (suc at) items
spot_set items x y at s =
    ap (λ (r : List Entry). set r at y) (spot_split items x at s)
    ∙ subst (λ (i : ℕ). set (take at items ++ x ∷ drop (suc at) items) i y ≡ take at items ++ y ∷ drop (suc at) items) (length-take-le at items (omega (arith, s.0)))
    (set-append_seam (take at items) x (drop (suc at) items) y)

all_under : (s : Entry) (xs : List Entry) → AllBelow s xs → AreUnder (Some s) xs
all_under s [] h = tt
all_under s (x ∷ xs) h = (h.0, all_under s xs h.1)

-- The place of x, in a leaf with front before it and back behind it, and an entry y that stands to all others as x does.
pub record IsTwin (nodes : ℕ → Node) (root : ℕ) (above : List Frame) (page : ℕ) (front : List Entry) (x : Entry) (back : List Entry) (y : Entry) : Type 0 where
  pub tree : IsTree nodes root (plug above (Leaf page (front ++ x ∷ back) Nil))
  pub trim : IsTrimTree (plug above (Leaf page (front ++ x ∷ back) Nil))
  pub matched : AreMatched above
  pub low : AtLeast (low_of None above) x
  pub high : Under (high_of None above) x
  pub before : AllBelow y (entries_before above)
  pub fore : AllBelow y front
  pub after : AllAbove y back
  pub behind : AllAbove y (entries_behind above)
  pub x_before : AllBelow x (entries_before above)
  pub x_fore : AllBelow x front
  pub x_after : AllAbove x back
  pub x_behind : AllAbove x (entries_behind above)

pub twin_of : (nodes : ℕ → Node) (root : ℕ) (t : Forest) (above : List Frame) (page : ℕ) (items : List Entry) (x y : Entry) (at : ℕ) → IsTree nodes root t → IsTrimTree t
    → t ≡ plug above (Leaf page items Nil) → AreMatched above → AtLeast (low_of None above) x → Under (high_of None above) x → IsAtSpot items x at
    → HasOwnFront x (leaf_entries t) → take 4 x ≡ take 4 y → IsTwin nodes root above page (take at items) x (drop (suc at) items) y
twin_of nodes root t above page items x y at w k e m l u s a q =
    let front = take at items in
    let back = drop (suc at) items in
    let here : Forest = Leaf page (front ++ x ∷ back) Nil in
    let whole : t ≡ plug above here = e ∙ ap (λ (r : List Entry). plug above (Leaf page r Nil)) (spot_split items x at s) in
    let tree = subst (IsTree nodes root) whole w in
    let around = Rises-around (low_of None above) (high_of None above) front x back (Fits-plug None None above here page m refl tree.fits).0.1 in
    let beside = outside None None above here page x m refl tree.fits l u in
    let alone : HasOwnFront x (entries_before above ++ (((front ++ x ∷ back) ++ []) ++ entries_behind above)) =
    subst (HasOwnFront x) (ap leaf_entries whole ∙ leaf_entries-plug above here) a in
    let right = alone_right x (entries_before above) (((front ++ x ∷ back) ++ []) ++ entries_behind above) alone in
    let inside = alone_left x (front ++ x ∷ back) [] (alone_left x ((front ++ x ∷ back) ++ []) (entries_behind above) right) in
    let later = alone_right x front (x ∷ back) inside in
    record {
      tree = tree;
      trim = subst IsTrimTree whole k;
      matched = m;
      low = l;
      high = u;
      before = AllBelow-alike x y (entries_before above) q (alone_left x (entries_before above) (((front ++ x ∷ back) ++ []) ++ entries_behind above) alone) beside.0;
      fore = AllBelow-alike x y front q (alone_left x front (x ∷ back) inside) around.0;
      after = AllAbove-alike x y back q (λ v i. later v (inr i)) around.1;
      behind = AllAbove-alike x y (entries_behind above) q (alone_right x ((front ++ x ∷ back) ++ []) (entries_behind above) right) beside.1;
      x_before = beside.0;
      x_fore = around.0;
      x_after = around.1;
      x_behind = beside.1;
    }

-- the same place in pages where y has room between the nearest separators
pub record IsRoomy (nodes : ℕ → Node) (root : ℕ) (above : List Frame) (here : Forest) (y : Entry) : Type 0 where
  pub fs : List Frame
  pub tree : IsTree nodes root (plug fs here)
  pub trim : IsTrimTree (plug fs here)
  pub place : IsSamePlace above fs
  pub low : AtLeast (low_of None fs) y
  pub high : Under (high_of None fs) y

-- entries in each leaf of a tree with a separator
each_holds : (f : Frame) (fs : List Frame) (here : Forest) → IsTrimTree (plug (f ∷ fs) here) → EachNode HoldsEntry (plug (f ∷ fs) here)
each_holds f fs here k = trim_fork fs f.page (f.lows ++ f.highs) _ k

trim_moved : (nodes : ℕ → Node) (root : ℕ) (f : Frame) (above fs : List Frame) (here : Forest) → IsTrimTree (plug (f ∷ above) here) → IsSamePlace (f ∷ above) fs → IsTree nodes root (plug fs here)
    → IsTrimTree (plug fs here)
trim_moved nodes root f above fs here k p w =
    let each = each_holds f above here k in
    fork_trim (plug fs here) root w.head (holds_plug fs here (p.beside (EachBeside-from_plug HoldsEntry (f ∷ above) here each)) (EachNode-from_plug HoldsEntry (f ∷ above) here each))

same_place : (fs : List Frame) → IsSamePlace fs fs
same_place fs = record { matched = λ m. m; before = refl; behind = refl; counts = λ n. refl; beside = λ b. b; leaves = KeepsLeafCounts-plug fs }

-- there is room as it is
pub roomy_still : (old new : ℕ → Node) (root page : ℕ) (above : List Frame) (front : List Entry) (x : Entry) (back : List Entry) (y : Entry) → IsTwin old root above page front x back y
    → AtLeast (fence_bound (low_fence above)) y → Under (fence_bound (high_fence above)) y → IsTree new root (plug above (Leaf page (front ++ x ∷ back) Nil))
    → IsRoomy new root above (Leaf page (front ++ x ∷ back) Nil) y
roomy_still old new root page above front x back y w a u t = record {
  fs = above;
  tree = t;
  trim = w.trim;
  place = same_place above;
  low = rw (low_fence-bound above) a;
  high = rw (high_fence-bound above) u;
}

-- y lies below the low bound, which becomes y
pub roomy_low : (old new : ℕ → Node) (root page : ℕ) (above : List Frame) (front : List Entry) (x : Entry) (back : List Entry) (y : Entry) (fence : Fence) → IsTwin old root above page front x back y
    → low_fence above ≡ Some fence → below y fence.bound ≡ true → SetsFence old new fence y → IsRoomy new root above (Leaf page (front ++ x ∷ back) Nil) y
roomy_low old new root page [] front x back y fence w e b z = cc
roomy_low old new root page (f ∷ above) front x back y fence w e b z =
    let here : Forest = Leaf page (front ++ x ∷ back) Nil in
    let fs = f ∷ above in
    let bound : low_of None fs ≡ Some fence.bound = low_fence-bound fs ∙ ap fence_bound e in
    let fit = (Fits-plug None None fs here page w.matched refl w.tree.fits).0 in
    let least : AreAtLeast (Some fence.bound) (front ++ x ∷ back) =
    Rises-least (Some fence.bound) (high_of None fs) (front ++ x ∷ back) (subst (λ (v : Bound). Rises v (high_of None fs) (front ++ x ∷ back)) bound fit.1) in
    let room : Room (Some fence.bound) (high_of None fs) = subst (λ (v : Bound). Room v (high_of None fs)) bound fit.0 in
    let moved = low_moved old new root fs here page y fence w.matched refl w.tree w.trim e (all_under y (entries_before fs) w.before)
    (AreAtLeast-and (Some y) ((front ++ x ∷ back) ++ []) (entries_behind fs) (rw append-nil (AreAtLeast-down (Some y) fence.bound (front ++ x ∷ back) b least)) (AllAbove-least y (entries_behind fs) w.behind)) z in
    record {
      fs = with_low y fs;
      tree = moved;
      trim = trim_moved new root f above (with_low y fs) here w.trim (with_low-place y fs) moved;
      place = with_low-place y fs;
      low = rw (low_of-with_low y fence fs e) (below_itself y);
      high = rw (high_of-with_low y fs) (Under-up (high_of None fs) fence.bound y room b);
    }

-- y lies at or above the high bound, which becomes the lowest entry behind it
pub roomy_high : (old new : ℕ → Node) (root page : ℕ) (above : List Frame) (front : List Entry) (x : Entry) (back : List Entry) (y first : Entry) (fence : Fence)
    → IsTwin old root above page front x back y → high_fence above ≡ Some fence → AtLeast (fence_bound (low_fence above)) y → below y fence.bound ≡ false
    → IsEntryOf first (entries_behind above) → AreAtLeast (Some first) (entries_behind above) → SetsFence old new fence first
    → IsRoomy new root above (Leaf page (front ++ x ∷ back) Nil) y
roomy_high old new root page [] front x back y first fence w e a b i d z = cc
roomy_high old new root page (f ∷ above) front x back y first fence w e a b i d z =
    let here : Forest = Leaf page (front ++ x ∷ back) Nil in
    let fs = f ∷ above in
    let bound : high_of None fs ≡ Some fence.bound = high_fence-bound fs ∙ ap fence_bound e in
    let fit = (Fits-plug None None fs here page w.matched refl w.tree.fits).0 in
    let under : AreUnder (Some fence.bound) (front ++ x ∷ back) =
    Rises-under (low_of None fs) (Some fence.bound) (front ++ x ∷ back) (subst (λ (v : Bound). Rises (low_of None fs) v (front ++ x ∷ back)) bound fit.1) in
    let behind : AreAtLeast (Some fence.bound) (entries_behind fs) =
    subst (λ (v : Bound). AreBehind v (entries_behind fs)) bound (behind_place fs here page w.matched refl w.tree.fits) in
    let over : below first fence.bound ≡ false = least_of fence.bound first (entries_behind fs) behind i in
    let x_first : below x first ≡ true = above_of x first (entries_behind fs) w.x_behind i in
    let moved = high_moved old new root fs here page first fence w.matched refl w.tree w.trim e
    (AreUnder-and (Some first) (entries_before fs) ((front ++ x ∷ back) ++ []) (all_under first (entries_before fs) (raised first (entries_before fs) x_first w.x_before))
    (rw append-nil (higher fence.bound first (front ++ x ∷ back) over under))) d z in
    record {
      fs = with_high first fs;
      tree = moved;
      trim = trim_moved new root f above (with_high first fs) here w.trim (with_high-place first fs) moved;
      place = with_high-place first fs;
      low = rw (low_of-with_high first fs, low_fence-bound fs) a;
      high = rw (high_of-with_high first fence fs e) (above_of y first (entries_behind fs) w.behind i);
    }
  where
    above_of : (s v : Entry) (xs : List Entry) → AllAbove s xs → IsEntryOf v xs → below s v ≡ true
    above_of s v (z ∷ zs) h (inl q) = subst (λ (r : Entry). below s r ≡ true) (sym q) h.0
    above_of s v (z ∷ zs) h (inr j) = above_of s v zs h.1 j
    above_of s v [] h j = absurd j

    raised : (v : Entry) (xs : List Entry) → below x v ≡ true → AllBelow x xs → AllBelow v xs
    raised v [] l h = tt
    raised v (z ∷ zs) l h = (below_trans z x v h.0 l, raised v zs l h.1)

    higher : (s v : Entry) (xs : List Entry) → below v s ≡ false → AreUnder (Some s) xs → AreUnder (Some v) xs
    higher s v [] o h = tt
    higher s v (z ∷ zs) o h = (up_to z s v h.0 o, higher s v zs o h.1)

-- the tree with y in the place of x
pub record IsAmendedTree (new : ℕ → Node) (root : ℕ) (t : Forest) (x y : Entry) : Type 0 where
  pub after : Forest
  pub rest : List Entry
  pub tree : IsTree new root after
  pub trim : IsTrimTree after
  pub was : leaf_entries t ≡ with_entry x rest
  pub is : leaf_entries after ≡ with_entry y rest
  pub pages : (p : ℕ) → times p after ≡ times p t
  pub leaves : KeepsLeafCounts t after

with_at : (v : Entry) (before front back behind : List Entry) → AllBelow v before → AllBelow v front → AllAbove v back → AllAbove v behind
    → before ++ (((front ++ v ∷ back) ++ []) ++ behind) ≡ with_entry v ((before ++ front) ++ (back ++ behind))
with_at v before front back behind a b c d =
    let e = put_between v (before ++ front) [] (back ++ behind) (AllBelow-and v before front a b) (AllAbove-and v back behind c d) in
    rw append-nil (sym (e ∙ simp append_assoc))

pub amended : (old mid new : ℕ → Node) (root page : ℕ) (above : List Frame) (front : List Entry) (x : Entry) (back : List Entry) (y : Entry) → IsTwin old root above page front x back y
    → IsRoomy mid root above (Leaf page (front ++ x ∷ back) Nil) y → new page ≡ LeafNode (front ++ y ∷ back) → ((n : ℕ) → n ≢ page → new n ≡ mid n)
    → IsAmendedTree new root (plug above (Leaf page (front ++ x ∷ back) Nil)) x y
amended old mid new root page above front x back y w r e o =
    let here : Forest = Leaf page (front ++ x ∷ back) Nil in
    let there : Forest = Leaf page (front ++ y ∷ back) Nil in
    let m = r.place.matched w.matched in
    let fit = (Fits-plug None None r.fs here page m refl r.tree.fits).0 in
    let tree = changed mid new root r.fs here there page m refl r.tree
    (leaf_change mid new (low_of None r.fs) (high_of None r.fs) (plug r.fs here) page (front ++ x ∷ back) (front ++ y ∷ back)
    (room_by (low_of None r.fs) (high_of None r.fs) y r.low r.high)
    (Rises-swap (low_of None r.fs) (high_of None r.fs) front x y back fit.1 r.low r.high w.fore w.after) e o) in
    record {
      after = plug r.fs there;
      rest = (entries_before above ++ front) ++ (back ++ entries_behind above);
      tree = tree;
      trim = trimmed r.fs r.trim tree;
      was = leaf_entries-plug above here ∙ with_at x (entries_before above) front back (entries_behind above) w.x_before w.x_fore w.x_after w.x_behind;
      is =
          leaf_entries-plug r.fs there
          ∙ ap (λ (b : List Entry). b ++ (((front ++ y ∷ back) ++ []) ++ entries_behind r.fs)) r.place.before
          ∙ ap (λ (b : List Entry). entries_before above ++ (((front ++ y ∷ back) ++ []) ++ b)) r.place.behind
          ∙ with_at y (entries_before above) front back (entries_behind above) w.before w.fore w.after w.behind;
      pages = λ n. omega (arith, times-plug n r.fs there, times-plug n above here, r.place.counts n);
      leaves = r.place.leaves here there (refl, omega (arith, length-append front (x ∷ back), length-append front (y ∷ back)), tt);
    }
  where
    some : (xs : List Entry) → EachNode HoldsEntry (Leaf page (xs ++ y ∷ back) Nil)
    some [] = (tt, tt)
    some (z ∷ zs) = (tt, tt)

    trimmed : (fs : List Frame) → IsTrimTree (plug fs (Leaf page (front ++ x ∷ back) Nil)) → IsTree new root (plug fs (Leaf page (front ++ y ∷ back) Nil))
        → IsTrimTree (plug fs (Leaf page (front ++ y ∷ back) Nil))
    trimmed [] k t = tt
    trimmed (f ∷ fs) k t =
        fork_trim (plug (f ∷ fs) (Leaf page (front ++ y ∷ back) Nil)) root t.head
        (holds_plug (f ∷ fs) (Leaf page (front ++ y ∷ back) Nil) (EachBeside-from_plug HoldsEntry (f ∷ fs) (Leaf page (front ++ x ∷ back) Nil) (each_holds f fs (Leaf page (front ++ x ∷ back) Nil) k)) (some front))
