-- The nearest separators of a place, moved.
use Rattle.std.proofs.Common.{◌≡◌, ◌≢◌, ℕ, suc, List, [], ◌∷◌, ◌++◌, refl, ap, arith, sym, ◌∙◌, subst, append_assoc, append-nil, length, get_or, take, set, length-append}
use Rattle.std.specs.Prelude.{Some, None}
use Rattle.std.proofs.Math.Seq.{drop-cons, set-append_seam}
use Rattle.std.proofs.lemmas.List.{drop_all, length-take-le, take-append-drop}
use Rattle.mdc_words.specs.ByteOrder.{Entry}
use Rattle.node_page.specs.Node.{Node}
use Rattle.node_page.specs.Node.Node.{InnerNode}
use Rattle.entry_tree.specs.EntryBounds.{Bound}
use Rattle.entry_tree.specs.Forest.{EachNode, Forest, HasNode, HoldsEntry, IsTree, IsTrimTree, heads, leaf_entries, ◌&◌}
use Rattle.entry_tree.specs.Forest.Forest.{Fork, Leaf, Nil}
use Rattle.entry_tree.specs.Reading.{AreAtLeast, AreUnder}
use Rattle.entry_tree.specs.Spots.{high_fence, high_fence_in, low_fence, low_fence_in}
use Rattle.entry_tree.specs.TreeChanges.{KeepsLeafCounts}
use Rattle.entry_tree.specs.TreePlaces.{AreMatched, Frame, entries_before, entries_behind, first_or, high_of, last_or, low_of, plug, times_beside}
use Rattle.entry_tree.specs.declared.spot.Fence.{Fence}
use Rattle.entry_tree.proofs.ForestLemmas.{EachNode-and, and_assoc, and_nil, heads-and, leaf_entries-and}
use Rattle.entry_tree.proofs.LeafCountsLemmas.{KeepsLeafCounts-around, KeepsLeafCounts-plug}
use Rattle.entry_tree.proofs.LeavesLemmas.{EachBeside}
use Rattle.entry_tree.proofs.ReadingLemmas.{AreAtLeast-from_and, AreUnder-from_and, RightRow, right_row}
use Rattle.entry_tree.proofs.RefitLemmas.{separator_moved}
use Rattle.entry_tree.proofs.TreePlacesLemmas.{EachNode-from_plug, Fits-plug}
use Rattle.entry_tree.proofs.TrimLemmas.{trim_children}

-- the last separator of a list, and another one in its place
abbrev pub lasts : Entry → List Entry → List Entry
lasts l ls = take (length ls) (l ∷ ls)

last_split : (l : Entry) (ls : List Entry) → l ∷ ls ≡ lasts l ls ++ get_or (l ∷ ls) (length ls) [] ∷ []
last_split l ls =
    sym (take-append-drop (length ls) (l ∷ ls))
    ∙ ap (λ (r : List Entry). lasts l ls ++ r) (drop-cons (l ∷ ls) (length ls) [] (omega arith) ∙ ap (λ (r : List Entry). get_or (l ∷ ls) (length ls) [] ∷ r) (drop_all (suc (length ls)) (l ∷ ls) (omega arith)))

length-lasts : (l : Entry) (ls : List Entry) → length (lasts l ls) ≡ length ls
length-lasts l ls = length-take-le (length ls) (l ∷ ls) (omega arith)

-- the place with another separator as its low bound
abbrev pub with_low_in : Entry → Frame → List Entry → List Frame → List Frame → List Frame
with_low_in s f [] fs moved = f ∷ moved
with_low_in s f (l ∷ ls) fs moved = record { page = f.page; lows = lasts l ls ++ s ∷ []; left = f.left; highs = f.highs; right = f.right } ∷ fs

abbrev pub with_low : Entry → List Frame → List Frame
with_low s [] = []
with_low s (f ∷ fs) = with_low_in s f f.lows fs (with_low s fs)

-- and with another one as its high bound
abbrev pub with_high_in : Entry → Frame → List Entry → List Frame → List Frame → List Frame
with_high_in s f [] fs moved = f ∷ moved
with_high_in s f (h ∷ hs) fs moved = record { page = f.page; lows = f.lows; left = f.left; highs = s ∷ hs; right = f.right } ∷ fs

abbrev pub with_high : Entry → List Frame → List Frame
with_high s [] = []
with_high s (f ∷ fs) = with_high_in s f f.highs fs (with_high s fs)

-- what two places with the same trees beside them share
pub record IsSamePlace (above fs : List Frame) : Type 0 where
  pub matched : AreMatched above → AreMatched fs
  pub before : entries_before fs ≡ entries_before above
  pub behind : entries_behind fs ≡ entries_behind above
  pub counts : (n : ℕ) → times_beside n fs ≡ times_beside n above
  pub beside : EachBeside HoldsEntry above → EachBeside HoldsEntry fs
  pub leaves : (t u : Forest) → KeepsLeafCounts t u → KeepsLeafCounts (plug above t) (plug fs u)

with_low-same : (s : Entry) (fs : List Frame) → IsSamePlace fs (with_low s fs)
with_low-same s [] = record { matched = λ m. m; before = refl; behind = refl; counts = λ n. refl; beside = λ b. b; leaves = λ t u k. k }
with_low-same s (f ∷ fs) = go f.lows refl (with_low-same s fs)
  where
    go : (lows : List Entry) → f.lows ≡ lows → IsSamePlace fs (with_low s fs) → IsSamePlace (f ∷ fs) (with_low_in s f lows fs (with_low s fs))
    go [] e r = record {
      matched = λ m. (m.0, r.matched m.1);
      before = ap (λ (l : List Entry). l ++ leaf_entries f.left) r.before;
      behind = ap (λ (l : List Entry). leaf_entries f.right ++ l) r.behind;
      counts = λ n. omega (arith, r.counts n);
      beside = λ b. (b.0, b.1, r.beside b.2);
      leaves = λ t u k. r.leaves (Fork f.page (f.lows ++ f.highs) (f.left & (t & f.right)) Nil) (Fork f.page (f.lows ++ f.highs) (f.left & (u & f.right)) Nil)
          (refl, KeepsLeafCounts-around f t u k, tt);
    }
    go (l ∷ ls) e r = record {
      matched = λ m. (omega (arith, m.0, ap length e, length-lasts l ls, length-append (lasts l ls) (s ∷ [])), m.1);
      before = refl;
      behind = refl;
      counts = λ n. refl;
      beside = λ b. b;
      leaves = λ t u k. KeepsLeafCounts-plug fs (Fork f.page (f.lows ++ f.highs) (f.left & (t & f.right)) Nil)
          (Fork f.page ((lasts l ls ++ s ∷ []) ++ f.highs) (f.left & (u & f.right)) Nil) (refl, KeepsLeafCounts-around f t u k, tt);
    }

with_high-same : (s : Entry) (fs : List Frame) → IsSamePlace fs (with_high s fs)
with_high-same s [] = record { matched = λ m. m; before = refl; behind = refl; counts = λ n. refl; beside = λ b. b; leaves = λ t u k. k }
with_high-same s (f ∷ fs) = go f.highs (with_high-same s fs)
  where
    go : (highs : List Entry) → IsSamePlace fs (with_high s fs) → IsSamePlace (f ∷ fs) (with_high_in s f highs fs (with_high s fs))
    go [] r = record {
      matched = λ m. (m.0, r.matched m.1);
      before = ap (λ (l : List Entry). l ++ leaf_entries f.left) r.before;
      behind = ap (λ (l : List Entry). leaf_entries f.right ++ l) r.behind;
      counts = λ n. omega (arith, r.counts n);
      beside = λ b. (b.0, b.1, r.beside b.2);
      leaves = λ t u k. r.leaves (Fork f.page (f.lows ++ f.highs) (f.left & (t & f.right)) Nil) (Fork f.page (f.lows ++ f.highs) (f.left & (u & f.right)) Nil)
          (refl, KeepsLeafCounts-around f t u k, tt);
    }
    go (h ∷ hs) r = record {
      matched = λ m. m;
      before = refl;
      behind = refl;
      counts = λ n. refl;
      beside = λ b. b;
      leaves = λ t u k. KeepsLeafCounts-plug fs (Fork f.page (f.lows ++ f.highs) (f.left & (t & f.right)) Nil)
          (Fork f.page (f.lows ++ s ∷ hs) (f.left & (u & f.right)) Nil) (refl, KeepsLeafCounts-around f t u k, tt);
    }

pub with_low-place : (s : Entry) (fs : List Frame) → IsSamePlace fs (with_low s fs)
with_low-place s fs = with_low-same s fs

pub with_high-place : (s : Entry) (fs : List Frame) → IsSamePlace fs (with_high s fs)
with_high-place s fs = with_high-same s fs

last_or-end : (low : Bound) (xs : List Entry) (s : Entry) → last_or low (xs ++ s ∷ []) ≡ Some s
last_or-end low [] s = refl
last_or-end low (x ∷ xs) s = last_or-end (Some x) xs s

-- the bounds afterwards
pub low_of-with_low : (s : Entry) (fence : Fence) (fs : List Frame) → low_fence fs ≡ Some fence → low_of None (with_low s fs) ≡ Some s
low_of-with_low s fence [] e = cc
low_of-with_low s fence (f ∷ fs) e = go f.lows refl e (low_of-with_low s fence fs)
  where
    go : (lows : List Entry) → f.lows ≡ lows → low_fence_in f lows (low_fence fs) ≡ Some fence → (low_fence fs ≡ Some fence → low_of None (with_low s fs) ≡ Some s)
        → low_of None (with_low_in s f lows fs (with_low s fs)) ≡ Some s
    go [] q e up = ap (last_or (low_of None (with_low s fs))) q ∙ up e
    go (l ∷ ls) q e up = last_or-end (low_of None fs) (lasts l ls) s

pub high_of-with_low : (s : Entry) (fs : List Frame) → high_of None (with_low s fs) ≡ high_of None fs
high_of-with_low s [] = refl
high_of-with_low s (f ∷ fs) = go f.lows (high_of-with_low s fs)
  where
    go : (lows : List Entry) → high_of None (with_low s fs) ≡ high_of None fs → high_of None (with_low_in s f lows fs (with_low s fs)) ≡ first_or f.highs (high_of None fs)
    go [] r = ap (first_or f.highs) r
    go (l ∷ ls) r = refl

pub high_of-with_high : (s : Entry) (fence : Fence) (fs : List Frame) → high_fence fs ≡ Some fence → high_of None (with_high s fs) ≡ Some s
high_of-with_high s fence [] e = cc
high_of-with_high s fence (f ∷ fs) e = go f.highs refl e (high_of-with_high s fence fs)
  where
    go : (highs : List Entry) → f.highs ≡ highs → high_fence_in f highs (high_fence fs) ≡ Some fence → (high_fence fs ≡ Some fence → high_of None (with_high s fs) ≡ Some s)
        → high_of None (with_high_in s f highs fs (with_high s fs)) ≡ Some s
    go [] q e up = ap (λ (l : List Entry). first_or l (high_of None (with_high s fs))) q ∙ up e
    go (h ∷ hs) q e up = refl

pub low_of-with_high : (s : Entry) (fs : List Frame) → low_of None (with_high s fs) ≡ low_of None fs
low_of-with_high s [] = refl
low_of-with_high s (f ∷ fs) = go f.highs (low_of-with_high s fs)
  where
    go : (highs : List Entry) → low_of None (with_high s fs) ≡ low_of None fs → low_of None (with_high_in s f highs fs (with_high s fs)) ≡ last_or (low_of None fs) f.lows
    go [] r = ap (λ (b : Bound). last_or b f.lows) r
    go (h ∷ hs) r = refl

-- entries in each leaf below and beside a place are entries in each leaf of the whole
pub holds_plug : (fs : List Frame) (u : Forest) → EachBeside HoldsEntry fs → EachNode HoldsEntry u → EachNode HoldsEntry (plug fs u)
holds_plug [] u b k = k
holds_plug (f ∷ fs) u b k =
    holds_plug fs (Fork f.page (f.lows ++ f.highs) (f.left & (u & f.right)) Nil) b.2
    (tt, EachNode-and HoldsEntry f.left (u & f.right) b.0 (EachNode-and HoldsEntry u f.right k b.1), tt)

no_heads : (t : Forest) → length (heads t) ≡ 0 → t ≡ Nil
no_heads Nil e = refl
no_heads (Leaf p items next) e = absurd (omega arith)
no_heads (Fork p seps kids next) e = absurd (omega arith)

-- what writes another separator
abbrev pub SetsFence : (ℕ → Node) → (ℕ → Node) → Fence → Entry → Type 0
SetsFence old new fence s =
    ((seps : List Entry) (children : List ℕ) → old fence.page ≡ InnerNode seps children → new fence.page ≡ InnerNode (set seps fence.at s) children)
    × ((n : ℕ) → n ≢ fence.page → new n ≡ old n)

-- the children of a node, around the place
abbrev around : Frame → Forest → Forest
around f here = f.left & (here & f.right)

-- a tree with another low bound of a place
pub low_moved : (old new : ℕ → Node) (root : ℕ) (fs : List Frame) (here : Forest) (page : ℕ) (s : Entry) (fence : Fence) → AreMatched fs → heads here ≡ page ∷ []
    → IsTree old root (plug fs here) → IsTrimTree (plug fs here) → low_fence fs ≡ Some fence
    → AreUnder (Some s) (entries_before fs) → AreAtLeast (Some s) (leaf_entries here ++ entries_behind fs) → SetsFence old new fence s
    → IsTree new root (plug (with_low s fs) here)
low_moved old new root [] here page s fence m h w k e u a z = cc
low_moved old new root (f ∷ fs) here page s fence m h w k e u a z =
    let whole : Forest = Fork f.page (f.lows ++ f.highs) (f.left & (here & f.right)) Nil in
    go f.lows refl e (λ b d. low_moved old new root fs whole f.page s fence m.1 refl w k b (AreUnder-from_and (Some s) (entries_before fs) (leaf_entries f.left) u).0 d z)
  where
    split : (l : Entry) (ls : List Entry) → f.lows ≡ l ∷ ls → f.lows ++ f.highs ≡ lasts l ls ++ get_or (l ∷ ls) (length ls) [] ∷ f.highs
    split l ls q = ap (λ (r : List Entry). r ++ f.highs) (q ∙ last_split l ls) ∙ append_assoc (lasts l ls) (get_or (l ∷ ls) (length ls) [] ∷ []) f.highs

    behind : f.lows ≡ [] → AreAtLeast (Some s) (leaf_entries (Fork f.page (f.lows ++ f.highs) (around f here) Nil) ++ entries_behind fs)
    behind q =
        let none : f.left ≡ Nil = no_heads f.left (omega (arith, m.0, ap length q)) in
        let is : leaf_entries (Fork f.page (f.lows ++ f.highs) (around f here) Nil) ++ entries_behind fs ≡ leaf_entries here ++ (leaf_entries f.right ++ entries_behind fs) =
        rw (none, append-nil, leaf_entries-and here f.right, append_assoc) refl in
        subst (AreAtLeast (Some s)) (sym is) a

    go : (lows : List Entry) → f.lows ≡ lows → low_fence_in f lows (low_fence fs) ≡ Some fence
        → (low_fence fs ≡ Some fence → AreAtLeast (Some s) (leaf_entries (Fork f.page (f.lows ++ f.highs) (around f here) Nil) ++ entries_behind fs)
        → IsTree new root (plug (with_low s fs) (Fork f.page (f.lows ++ f.highs) (around f here) Nil)))
        → IsTree new root (plug (with_low_in s f lows fs (with_low s fs)) here)
    go [] q e up = up e (behind q)
    go (l ∷ ls) q e up =
        let page_is : f.page ≡ fence.page = cc in
        let at_is : length ls ≡ fence.at = cc in
        let was : IsTree old root (plug fs (Fork f.page (lasts l ls ++ get_or (l ∷ ls) (length ls) [] ∷ f.highs) (around f here) Nil)) =
        subst (λ (r : List Entry). IsTree old root (plug fs (Fork f.page r (around f here) Nil))) (split l ls q) w in
        let node : old fence.page ≡ InnerNode (f.lows ++ f.highs) (heads (around f here)) =
        ap old (sym page_is) ∙ (EachNode-from_plug (HasNode old) fs (Fork f.page (f.lows ++ f.highs) (around f here) Nil) w.holds).0 in
        let sets : set (f.lows ++ f.highs) fence.at s ≡ lasts l ls ++ s ∷ f.highs =
        ap (λ (r : List Entry). set r fence.at s) (split l ls q)
        ∙ ap (λ (i : ℕ). set (lasts l ls ++ get_or (l ∷ ls) (length ls) [] ∷ f.highs) i s) (sym at_is ∙ sym (length-lasts l ls))
        ∙ set-append_seam (lasts l ls) (get_or (l ∷ ls) (length ls) []) f.highs s in
        let now : new f.page ≡ InnerNode (lasts l ls ++ s ∷ f.highs) (heads (around f here)) =
        ap new page_is ∙ z.0 (f.lows ++ f.highs) (heads (around f here)) node ∙ ap (λ (r : List Entry). InnerNode r (heads (around f here))) sets in
        let moved = separator_moved old new root fs f.page (lasts l ls) (get_or (l ∷ ls) (length ls) []) s f.highs f.left (here & f.right) (around f here) m.1 refl
        (omega (arith, m.0, ap length q, length-lasts l ls)) was (trim_children fs f.page (f.lows ++ f.highs) (around f here) k)
        (AreUnder-from_and (Some s) (entries_before fs) (leaf_entries f.left) u).1
        (subst (AreAtLeast (Some s)) (sym (leaf_entries-and here f.right))
        (AreAtLeast-from_and (Some s) (leaf_entries here ++ leaf_entries f.right) (entries_behind fs)
        (subst (AreAtLeast (Some s)) (sym (append_assoc (leaf_entries here) (leaf_entries f.right) (entries_behind fs))) a)).0)
        now (λ n d. z.1 n (λ (q : n ≡ fence.page). d (q ∙ sym page_is))) in
        subst (λ (r : List Entry). IsTree new root (plug fs (Fork f.page r (around f here) Nil))) (sym (append_assoc (lasts l ls) (s ∷ []) f.highs)) moved

-- a tree with another high bound of a place
pub high_moved : (old new : ℕ → Node) (root : ℕ) (fs : List Frame) (here : Forest) (page : ℕ) (s : Entry) (fence : Fence) → AreMatched fs → heads here ≡ page ∷ []
    → IsTree old root (plug fs here) → IsTrimTree (plug fs here) → high_fence fs ≡ Some fence
    → AreUnder (Some s) (entries_before fs ++ leaf_entries here) → AreAtLeast (Some s) (entries_behind fs) → SetsFence old new fence s
    → IsTree new root (plug (with_high s fs) here)
high_moved old new root [] here page s fence m h w k e u a z = cc
high_moved old new root (f ∷ fs) here page s fence m h w k e u a z =
    let whole : Forest = Fork f.page (f.lows ++ f.highs) (f.left & (here & f.right)) Nil in
    let fit = Fits-plug None None fs whole f.page m.1 refl w.fits in
    go f.highs refl e (right_row (low_of None fs) (high_of None fs) f.lows f.highs f.left here f.right page m.0 h fit.0.1)
    (λ b d. high_moved old new root fs whole f.page s fence m.1 refl w k b d (AreAtLeast-from_and (Some s) (leaf_entries f.right) (entries_behind fs) a).1 z)
  where
    apart : (around f here) ≡ (f.left & here) & f.right
    apart = sym (and_assoc f.left here f.right)

    before : f.right ≡ Nil → AreUnder (Some s) (entries_before fs ++ leaf_entries (Fork f.page (f.lows ++ f.highs) (around f here) Nil))
    before none =
        let is : entries_before fs ++ leaf_entries (Fork f.page (f.lows ++ f.highs) (around f here) Nil) ≡ (entries_before fs ++ leaf_entries f.left) ++ leaf_entries here =
        rw (none, append-nil, and_nil here, leaf_entries-and f.left here, append_assoc) refl in
        subst (AreUnder (Some s)) (sym is) u

    go : (highs : List Entry) → f.highs ≡ highs → high_fence_in f highs (high_fence fs) ≡ Some fence → RightRow highs (high_of None fs) f.right
        → (high_fence fs ≡ Some fence → AreUnder (Some s) (entries_before fs ++ leaf_entries (Fork f.page (f.lows ++ f.highs) (around f here) Nil))
        → IsTree new root (plug (with_high s fs) (Fork f.page (f.lows ++ f.highs) (around f here) Nil)))
        → IsTree new root (plug (with_high_in s f highs fs (with_high s fs)) here)
    go [] q e r up = up e (before r)
    go (x ∷ hs) q e r up =
        let page_is : f.page ≡ fence.page = cc in
        let at_is : length f.lows ≡ fence.at = cc in
        let split : f.lows ++ f.highs ≡ f.lows ++ x ∷ hs = ap (λ (r : List Entry). f.lows ++ r) q in
        let was : IsTree old root (plug fs (Fork f.page (f.lows ++ x ∷ hs) (around f here) Nil)) = subst (λ (r : List Entry). IsTree old root (plug fs (Fork f.page r (around f here) Nil))) split w in
        let node : old fence.page ≡ InnerNode (f.lows ++ f.highs) (heads (around f here)) =
        ap old (sym page_is) ∙ (EachNode-from_plug (HasNode old) fs (Fork f.page (f.lows ++ f.highs) (around f here) Nil) w.holds).0 in
        let sets : set (f.lows ++ f.highs) fence.at s ≡ f.lows ++ s ∷ hs =
        ap (λ (r : List Entry). set r fence.at s) split ∙ ap (λ (i : ℕ). set (f.lows ++ x ∷ hs) i s) (sym at_is) ∙ set-append_seam f.lows x hs s in
        let now : new f.page ≡ InnerNode (f.lows ++ s ∷ hs) (heads (around f here)) =
        ap new page_is ∙ z.0 (f.lows ++ f.highs) (heads (around f here)) node ∙ ap (λ (r : List Entry). InnerNode r (heads (around f here))) sets in
        let under : AreUnder (Some s) (leaf_entries (f.left & here)) =
        subst (AreUnder (Some s)) (sym (leaf_entries-and f.left here))
        (AreUnder-from_and (Some s) (entries_before fs) (leaf_entries f.left ++ leaf_entries here)
        (subst (AreUnder (Some s)) (append_assoc (entries_before fs) (leaf_entries f.left) (leaf_entries here)) u)).1 in
        separator_moved old new root fs f.page f.lows x s hs (f.left & here) f.right (around f here) m.1 apart
        (omega (arith, m.0, ap length (heads-and f.left here), length-append (heads f.left) (heads here), ap length h)) was (trim_children fs f.page (f.lows ++ f.highs) (around f here) k)
        under (AreAtLeast-from_and (Some s) (leaf_entries f.right) (entries_behind fs) a).0
        now (λ n d. z.1 n (λ (q : n ≡ fence.page). d (q ∙ sym page_is)))
