-- The steps of an addition, as the code meets them.
use Rattle.std.proofs.Common.{◌≡◌, ◌≢◌, ◌≤◌, ◌+◌, ◌/◌, ℕ, zero, suc, List, [], ◌∷◌, ◌++◌, refl, ap, arith, sym, ◌∙◌, subst, append_assoc, append-nil, length, length-append, take, drop, inl, inr}
use Rattle.std.specs.Prelude.{None}
use Rattle.std.proofs.lemmas.Bool.{cases_eq}
use Rattle.std.proofs.lemmas.List.{length-take-le}
use Rattle.std.proofs.Math.Seq.{take-append_seam, drop-append_seam}
use Rattle.entry_tree.proofs.DescentLemmas.{left_below, outside, put_at, right_above}
use Rattle.entry_tree.proofs.EntryBoundsLemmas.{put_between, put_rises}
use Rattle.entry_tree.proofs.ForestLemmas.{EachNode-and, EachNode-from_and, Fits-count, HoldsForest-agree, filled_leaves-and, heads-and, leaf_entries-and, once_other, once_same, times-and}
use Rattle.entry_tree.proofs.LeavesLemmas.{HoldsEntry-moved, KeepsBeside, holds_with_entry, keeps_plug, length-with_entry}
use Rattle.entry_tree.proofs.OneLeafLemmas.{gains_as, gains_beside, gains_one, gains_plug, gains_two}
use Rattle.entry_tree.proofs.TreeChangesLemmas.{changed, leaf_change, root_split}
use Rattle.entry_tree.proofs.TreePlacesLemmas.{EachNode-from_plug, Fits-frame, Fits-plug, leaf_entries-plug, times-plug}
use Rattle.entry_tree.proofs.TreeRowLemmas.{Halves, halves_at, leaf_row, row_done, row_entries, row_up}
use Rattle.entry_tree.specs.EntryBounds.{AtLeast, Bound, IsEntryOf, Rises, Under, with_entry}
use Rattle.entry_tree.specs.Forest.{EachNode, Fits, Forest, HasNode, HoldsForest, IsTree, NoPageTwice, filled_leaves, heads, leaf_entries, once, times, ◌&◌}
use Rattle.entry_tree.specs.Forest.Forest.{Fork, Leaf, Nil}
use Rattle.entry_tree.specs.TreeChanges.{GainsInLeaf, IsAdded, IsHalfHead, IsHalfway, IsTreeRow, KeepsLeaf, times_among}
use Rattle.entry_tree.specs.TreePlaces.{AreMatched, Frame, IsAtPlace, first_or, high_of, last_or, low_of, places, plug, times_beside}
use Rattle.mdc_words.specs.ByteOrder.{Entry}
use Rattle.node_page.specs.Node.{Node, leaf_room}
use Rattle.node_page.specs.Node.Node.{InnerNode, LeafNode}

pub insert_seam : {A : Type 0} (i : ℕ) (ls : List A) (s : A) (hs : List A) → length ls ≡ i → take i (ls ++ hs) ++ s ∷ drop i (ls ++ hs) ≡ ls ++ s ∷ hs
insert_seam {A} i ls s hs e =
    subst (λ (k : ℕ). take k (ls ++ hs) ++ s ∷ drop k (ls ++ hs) ≡ ls ++ s ∷ hs) e (rw (take-append_seam ls hs, drop-append_seam ls hs))

abbrev first : List (ℕ × ℕ) → ℕ
first [] = 0
first (q ∷ qs) = q.0

abbrev second : List (ℕ × ℕ) → ℕ
second [] = 0
second (q ∷ qs) = q.1

abbrev behind_it : List (ℕ × ℕ) → List (ℕ × ℕ)
behind_it [] = []
behind_it (q ∷ qs) = qs

fits_in : (lows : List Entry) (m : Entry) (highs more : List Entry) (children : List ℕ) → lows ++ m ∷ highs ≡ more → length children ≡ length more + 1 → length lows + 1 ≤ length children
fits_in lows m highs more children e l = omega (arith, l, ap length e, length-append lows (m ∷ highs))

-- a node's lists with one more at a place
grown_node : (seps lows highs : List Entry) (children lefts rights : List ℕ) (page b i : ℕ) (s : Entry)
    → seps ≡ lows ++ highs → children ≡ lefts ++ page ∷ rights → length lows ≡ i → length lefts ≡ length lows
    → InnerNode (take i seps ++ s ∷ drop i seps) (take (i + 1) children ++ b ∷ drop (i + 1) children) ≡ InnerNode (lows ++ s ∷ highs) (lefts ++ page ∷ b ∷ rights)
grown_node seps lows highs children lefts rights page b i s e c l m =
    let j : length (lefts ++ page ∷ []) ≡ i + 1 = simp length-append (omega arith) in
    let d : children ≡ (lefts ++ page ∷ []) ++ rights = c ∙ rw append_assoc in
    let g = insert_seam i lows s highs l in
    let k = insert_seam (i + 1) (lefts ++ page ∷ []) b rights j in
    rw (e, d, g, k) (rw append_assoc)

-- the node above a row isn't written yet
pub above_kept : (old now : ℕ → Node) (low high : Bound) (fs : List Frame) (f : Frame) (t row : Forest) (seps : List Entry) → NoPageTwice (plug (f ∷ fs) t)
    → IsTreeRow old now (last_or low f.lows) (first_or f.highs high) (plug (f ∷ fs) t) t seps row → now f.page ≡ old f.page
above_kept old now low high fs f t row seps d r =
    r.wrote f.page out (none (times f.page row) refl)
  where
    one : once f.page f.page + times f.page t ≤ times f.page (plug (f ∷ fs) t)
    one = omega (arith, times-plug f.page (f ∷ fs) t)

    out : times f.page t ≡ 0
    out = omega (arith, one, d f.page, once_same f.page)

    none : (k : ℕ) → times f.page row ≡ k → times f.page row ≡ 0
    none zero y = y
    none (suc k) y = let z = r.fresh f.page (omega arith) out in absurd (omega (arith, z, one, once_same f.page))

-- the node above has room
pub up_end : (width : ℕ) (old now new : ℕ → Node) (t : Forest) (x : Entry) (root p i : ℕ) (stack : List (ℕ × ℕ)) (page : ℕ) (s : Entry) (b : ℕ) (seps : List Entry) (children claims : List ℕ)
    → IsTree old root t → IsHalfway width old now t x ((p, i) ∷ stack) page s b claims
    → now p ≡ InnerNode seps children
    → new p ≡ InnerNode (take i seps ++ s ∷ drop i seps) (take (i + 1) children ++ b ∷ drop (i + 1) children)
    → ((n : ℕ) → n ≢ p → new n ≡ now n)
    → KeepsBeside width old t
    → IsAdded width old new root t x claims
up_end width old now new t x root p i stack page s b seps children claims w h e k o kb = go h.above h.whole h.matched h.way h.is_row h.low h.high
  where
    node_is : (f : Frame) → length (heads f.left) ≡ length f.lows → HoldsForest old (Fork f.page (f.lows ++ f.highs) (f.left & (h.spot & f.right)) Nil) → f.page ≡ p → length f.lows ≡ i
        → now f.page ≡ old f.page → new p ≡ InnerNode (f.lows ++ s ∷ f.highs) (heads (f.left & (h.row & f.right)))
    node_is f m held a j same =
        let old_is : InnerNode seps children ≡ InnerNode (f.lows ++ f.highs) (heads (f.left & (h.spot & f.right))) = sym e ∙ ap now (sym a) ∙ same ∙ held.0 in
        let seps_is : seps ≡ f.lows ++ f.highs = cc in
        let kids_is : children ≡ heads (f.left & (h.spot & f.right)) = cc in
        let were : heads (f.left & (h.spot & f.right)) ≡ heads f.left ++ page ∷ heads f.right = simp (heads-and, h.head) in
        let are : heads (f.left & (h.row & f.right)) ≡ heads f.left ++ page ∷ b ∷ heads f.right = simp (heads-and, h.heads_row) in
        k ∙ grown_node seps f.lows f.highs children (heads f.left) (heads f.right) page b i s seps_is (kids_is ∙ were) j m ∙ ap (InnerNode (f.lows ++ s ∷ f.highs)) (sym are)

    go : (above : List Frame) → t ≡ plug above h.spot → AreMatched above → places above ≡ (p, i) ∷ stack
        → IsTreeRow old now (low_of None above) (high_of None above) t h.spot (s ∷ []) h.row
        → AtLeast (low_of None above) x → Under (high_of None above) x → IsAdded width old new root t x claims
    go [] c m y r l u = cc
    go (f ∷ fs) c m y r l u =
        let was : IsTree old root (plug (f ∷ fs) h.spot) = subst (IsTree old root) c w in
        let fit = Fits-plug None None fs (Fork f.page (f.lows ++ f.highs) (f.left & (h.spot & f.right)) Nil) f.page m.1 refl was.fits in
        let held = EachNode-from_plug (HasNode old) fs (Fork f.page (f.lows ++ f.highs) (f.left & (h.spot & f.right)) Nil) was.holds in
        let r2 : IsTreeRow old now (last_or (low_of None fs) f.lows) (first_or f.highs (high_of None fs)) (plug (f ∷ fs) h.spot) h.spot (s ∷ []) h.row =
        subst (λ (v : Forest). IsTreeRow old now (last_or (low_of None fs) f.lows) (first_or f.highs (high_of None fs)) v h.spot (s ∷ []) h.row) c r in
        let page_is : f.page ≡ p = ap (λ (q : List (ℕ × ℕ)). first q) y in
        let index_is : length f.lows ≡ i = ap (λ (q : List (ℕ × ℕ)). second q) y in
        let change = row_done old now new (low_of None fs) (high_of None fs) (plug (f ∷ fs) h.spot) f h.spot h.row s page m.0 h.head fit.0 held was.distinct
        (λ n. omega (arith, times-plug n fs (Fork f.page (f.lows ++ f.highs) (f.left & (h.spot & f.right)) Nil))) r2
        (subst (λ (v : ℕ). new v ≡ InnerNode (f.lows ++ s ∷ f.highs) (heads (f.left & (h.row & f.right)))) (sym page_is) (node_is f m.0 held page_is index_is (above_kept old now (low_of None fs) (high_of None fs) fs f h.spot h.row (s ∷ []) was.distinct r2))) (λ n d. o n (subst (λ (v : ℕ). n ≢ v) page_is d)) in
        record {
          after = plug fs (Fork f.page (f.lows ++ s ∷ f.highs) (f.left & (h.row & f.right)) Nil);
          tree = changed old new root fs (Fork f.page (f.lows ++ f.highs) (f.left & (h.spot & f.right)) Nil) (Fork f.page (f.lows ++ s ∷ f.highs) (f.left & (h.row & f.right)) Nil) f.page m.1 refl was change;
          adds =
              leaf_entries-plug fs (Fork f.page (f.lows ++ s ∷ f.highs) (f.left & (h.row & f.right)) Nil)
              ∙ sym (leaf_entries-plug fs (Fork f.page (f.lows ++ f.highs) (f.left & (h.row & f.right)) Nil))
              ∙ put_at (f ∷ fs) h.spot h.row x (outside None None (f ∷ fs) h.spot page x m h.head was.fits l u) h.adds
              ∙ ap (λ (v : Forest). with_entry x (leaf_entries v)) (sym c);
          one_leaf =
              gains_as x _ _ _ _ (ap filled_leaves c) refl
              (gains_plug x fs (Fork f.page (f.lows ++ f.highs) (f.left & (h.spot & f.right)) Nil) (Fork f.page (f.lows ++ s ∷ f.highs) (f.left & (h.row & f.right)) Nil)
              (gains_as x _ _ _ _ (append-nil _) (append-nil _) (gains_beside x f.left h.spot h.row f.right h.one_leaf)));
          leaves =
              let beside = kb (f ∷ fs) h.spot c in
              keeps_plug width old t fs (Fork f.page (f.lows ++ s ∷ f.highs) (f.left & (h.row & f.right)) Nil) beside.2
              (tt, EachNode-and (KeepsLeaf width old t) f.left (h.row & f.right) beside.0 (EachNode-and (KeepsLeaf width old t) h.row f.right h.leaves beside.1), tt);
          pages = λ n.
              omega (
                arith,
                h.claimed n,
                ap (times n) c,
                times-plug n (f ∷ fs) h.spot,
                times-plug n fs (Fork f.page (f.lows ++ s ∷ f.highs) (f.left & (h.row & f.right)) Nil),
                times-and n f.left (h.row & f.right),
                times-and n h.row f.right,
              );
          kept = λ n z q.
              let counts : times n t ≡ times_beside n (f ∷ fs) + times n h.spot = ap (times n) c ∙ times-plug n (f ∷ fs) h.spot in
              let spot : times n h.spot ≡ 0 = omega arith in
              let off : once n f.page ≡ 0 = omega arith in
              o n (λ (v : n ≡ p). let one : once n f.page ≡ 1 = subst (λ (k : ℕ). once k f.page ≡ 1) (page_is ∙ sym v) (once_same f.page) in omega arith)
              ∙ r.wrote n spot (omega (arith, h.claimed n));
        }

-- the node above is full too, and is cut at m
pub up_step : (width : ℕ) (old now new : ℕ → Node) (t : Forest) (x : Entry) (root p i : ℕ) (stack : List (ℕ × ℕ)) (page : ℕ) (s : Entry) (b : ℕ) (seps : List Entry) (children claims : List ℕ)
    (lows : List Entry) (m : Entry) (highs : List Entry) (c : ℕ)
    → IsTree old root t → IsHalfway width old now t x ((p, i) ∷ stack) page s b claims
    → now p ≡ InnerNode seps children → take i seps ++ s ∷ drop i seps ≡ lows ++ m ∷ highs
    → times c t ≡ 0 → times_among c claims ≡ 0
    → new p ≡ InnerNode lows (take (length lows + 1) (take (i + 1) children ++ b ∷ drop (i + 1) children))
    → new c ≡ InnerNode highs (drop (length lows + 1) (take (i + 1) children ++ b ∷ drop (i + 1) children))
    → ((n : ℕ) → n ≢ p → n ≢ c → new n ≡ now n)
    → KeepsBeside width old t
    → IsHalfway width old new t x stack p m c (c ∷ claims)
up_step width old now new t x root p i stack page s b seps children claims lows m highs c w h e q zt zc kp kc o kb = go h.above h.whole h.matched h.way h.is_row h.low h.high
  where
    node_is : (f : Frame) → length (heads f.left) ≡ length f.lows → HoldsForest old (Fork f.page (f.lows ++ f.highs) (f.left & (h.spot & f.right)) Nil) → f.page ≡ p → length f.lows ≡ i
        → now f.page ≡ old f.page
        → InnerNode (take i seps ++ s ∷ drop i seps) (take (i + 1) children ++ b ∷ drop (i + 1) children) ≡ InnerNode (f.lows ++ s ∷ f.highs) (heads (f.left & (h.row & f.right)))
    node_is f m held a j same =
        let old_is : InnerNode seps children ≡ InnerNode (f.lows ++ f.highs) (heads (f.left & (h.spot & f.right))) = sym e ∙ ap now (sym a) ∙ same ∙ held.0 in
        let seps_is : seps ≡ f.lows ++ f.highs = cc in
        let kids_is : children ≡ heads (f.left & (h.spot & f.right)) = cc in
        let were : heads (f.left & (h.spot & f.right)) ≡ heads f.left ++ page ∷ heads f.right = simp (heads-and, h.head) in
        let are : heads (f.left & (h.row & f.right)) ≡ heads f.left ++ page ∷ b ∷ heads f.right = simp (heads-and, h.heads_row) in
        grown_node seps f.lows f.highs children (heads f.left) (heads f.right) page b i s seps_is (kids_is ∙ were) j m ∙ ap (InnerNode (f.lows ++ s ∷ f.highs)) (sym are)

    cut_row : (f : Frame) (fs : List Frame) → t ≡ plug (f ∷ fs) h.spot → AreMatched (f ∷ fs) → places (f ∷ fs) ≡ (p, i) ∷ stack → f.page ≡ p
        → AtLeast (low_of None (f ∷ fs)) x → Under (high_of None (f ∷ fs)) x → IsTree old root (plug (f ∷ fs) h.spot)
        → Fits (low_of None fs) (high_of None fs) [] (Fork f.page (f.lows ++ f.highs) (f.left & (h.spot & f.right)) Nil)
        → HoldsForest old (Fork f.page (f.lows ++ f.highs) (f.left & (h.spot & f.right)) Nil)
        → IsTreeRow old now (last_or (low_of None fs) f.lows) (first_or f.highs (high_of None fs)) (plug (f ∷ fs) h.spot) h.spot (s ∷ []) h.row
        → f.lows ++ s ∷ f.highs ≡ lows ++ m ∷ highs
        → take (i + 1) children ++ b ∷ drop (i + 1) children ≡ heads (f.left & (h.row & f.right))
        → length lows + 1 ≤ length (heads (f.left & (h.row & f.right)))
        → Halves (f.left & (h.row & f.right)) (length lows + 1) → IsHalfway width old new t x stack p m c (c ∷ claims)
    cut_row f fs d g y page_is l u was fit held r2 se ke long cut =
        let a = left_below (low_of None fs) (high_of None fs) f.lows f.highs f.left (h.spot & f.right) x g.0 fit.1 l in
        let r = right_above (low_of None fs) (high_of None fs) f.lows f.highs f.left h.spot f.right page x g.0 h.head fit.1 u in
        let one : leaf_entries (Fork f.page [] (f.left & (h.row & f.right)) Nil) ≡ leaf_entries f.left ++ (with_entry x (leaf_entries h.spot) ++ leaf_entries f.right) = simp (leaf_entries-and, append-nil, h.adds) in
        let two : leaf_entries (Fork f.page (f.lows ++ f.highs) (f.left & (h.spot & f.right)) Nil) ≡ leaf_entries f.left ++ (leaf_entries h.spot ++ leaf_entries f.right) = simp (leaf_entries-and, append-nil) in
        let out : times c h.row ≡ 0 = omega (arith, h.claimed c, ap (times c) d, times-plug c (f ∷ fs) h.spot) in
        record {
          above = fs;
          spot = Fork f.page (f.lows ++ f.highs) (f.left & (h.spot & f.right)) Nil;
          row = Fork f.page lows cut.first (Fork c highs cut.second Nil);
          whole = d;
          matched = g.1;
          way = ap (λ (v : List (ℕ × ℕ)). behind_it v) y;
          head = ap (λ (v : ℕ). v ∷ []) page_is;
          is_row = subst (λ (v : Forest). IsTreeRow old new (low_of None fs) (high_of None fs) v (Fork f.page (f.lows ++ f.highs) (f.left & (h.spot & f.right)) Nil) (m ∷ []) (Fork f.page lows cut.first (Fork c highs cut.second Nil))) (sym d)
              (row_up old now new (low_of None fs) (high_of None fs) (plug (f ∷ fs) h.spot) f h.spot h.row cut.first cut.second s m lows highs page c g.0 h.head fit held was.distinct
              (λ n. omega (arith, times-plug n fs (Fork f.page (f.lows ++ f.highs) (f.left & (h.spot & f.right)) Nil))) r2 se cut.whole
              (ap length cut.ahead ∙ length-take-le (length lows + 1) (heads (f.left & (h.row & f.right))) long)
              (omega (arith, ap (times c) d)) out
              (ap new page_is ∙ kp ∙ ap (InnerNode lows) (ap (take (length lows + 1)) ke ∙ sym cut.ahead))
              (kc ∙ ap (InnerNode highs) (ap (drop (length lows + 1)) ke ∙ sym cut.rest))
              (λ n v. o n (subst (λ (z : ℕ). n ≢ z) page_is v)));
          heads_row = ap (λ (v : ℕ). v ∷ c ∷ []) page_is;
          low = a.1;
          high = r.1;
          adds =
              row_entries f h.spot h.row cut.first cut.second [] lows highs c cut.whole ∙ one
              ∙ sym (put_between x (leaf_entries f.left) (leaf_entries h.spot) (leaf_entries f.right) a.0 r.0)
              ∙ ap (with_entry x) (sym two);
          one_leaf =
              gains_as x _ _ _ _ (append-nil _) (ap (λ (l : List (List Entry)). filled_leaves cut.first ++ l) (append-nil (filled_leaves cut.second)) ∙ (sym (filled_leaves-and cut.first cut.second) ∙ ap filled_leaves (sym cut.whole)))
              (gains_beside x f.left h.spot h.row f.right h.one_leaf);
          leaves =
              let beside = kb (f ∷ fs) h.spot d in
              let whole = EachNode-and (KeepsLeaf width old t) f.left (h.row & f.right) beside.0 (EachNode-and (KeepsLeaf width old t) h.row f.right h.leaves beside.1) in
              let parts = EachNode-from_and (KeepsLeaf width old t) cut.first cut.second (subst (EachNode (KeepsLeaf width old t)) cut.whole whole) in
              (tt, parts.0, (tt, parts.1, tt));
          half = tt;
          claimed = λ n.
              omega (
                arith,
                h.claimed n,
                ap (times n) cut.whole,
                times-and n cut.first cut.second,
                times-and n f.left (h.row & f.right),
                times-and n h.row f.right,
                times-and n f.left (h.spot & f.right),
                times-and n h.spot f.right,
              );
        }

    go : (above : List Frame) → t ≡ plug above h.spot → AreMatched above → places above ≡ (p, i) ∷ stack
        → IsTreeRow old now (low_of None above) (high_of None above) t h.spot (s ∷ []) h.row
        → AtLeast (low_of None above) x → Under (high_of None above) x → IsHalfway width old new t x stack p m c (c ∷ claims)
    go [] d g y r l u = cc
    go (f ∷ fs) d g y r l u =
        let was : IsTree old root (plug (f ∷ fs) h.spot) = subst (IsTree old root) d w in
        let fit = Fits-plug None None fs (Fork f.page (f.lows ++ f.highs) (f.left & (h.spot & f.right)) Nil) f.page g.1 refl was.fits in
        let held = EachNode-from_plug (HasNode old) fs (Fork f.page (f.lows ++ f.highs) (f.left & (h.spot & f.right)) Nil) was.holds in
        let r2 : IsTreeRow old now (last_or (low_of None fs) f.lows) (first_or f.highs (high_of None fs)) (plug (f ∷ fs) h.spot) h.spot (s ∷ []) h.row =
        subst (λ (v : Forest). IsTreeRow old now (last_or (low_of None fs) f.lows) (first_or f.highs (high_of None fs)) v h.spot (s ∷ []) h.row) d r in
        let page_is : f.page ≡ p = ap (λ (q : List (ℕ × ℕ)). first q) y in
        let index_is : length f.lows ≡ i = ap (λ (q : List (ℕ × ℕ)). second q) y in
        let both = node_is f g.0 held page_is index_is (above_kept old now (low_of None fs) (high_of None fs) fs f h.spot h.row (s ∷ []) was.distinct r2) in
        let seps_are : take i seps ++ s ∷ drop i seps ≡ f.lows ++ s ∷ f.highs = cc in
        let kids_are : take (i + 1) children ++ b ∷ drop (i + 1) children ≡ heads (f.left & (h.row & f.right)) = cc in
        let whole_row = (Fits-frame (low_of None fs) (high_of None fs) f.lows f.highs f.left h.spot f.right page g.0 h.head fit.0.1).1 (s ∷ []) h.row r2.fits in
        let many = Fits-count (low_of None fs) (high_of None fs) (f.lows ++ s ∷ f.highs) (f.left & (h.row & f.right)) whole_row in
        let long : length lows + 1 ≤ length (heads (f.left & (h.row & f.right))) =
        fits_in lows m highs (f.lows ++ s ∷ f.highs) (heads (f.left & (h.row & f.right))) (sym q ∙ seps_are) many in
        cut_row f fs d g y page_is l u was fit.0 held r2 (sym seps_are ∙ q) kids_are long (halves_at (f.left & (h.row & f.right)) (length lows + 1) long)

-- a leaf with room
pub leaf_end : (width : ℕ) (old new : ℕ → Node) (t : Forest) (x : Entry) (root page : ℕ) (stack : List (ℕ × ℕ)) (items : List Entry)
    → IsTree old root t → IsAtPlace t x stack page → old page ≡ LeafNode items → (IsEntryOf x items → ⊥)
    → new page ≡ LeafNode (with_entry x items) → ((n : ℕ) → n ≢ page → new n ≡ old n)
    → KeepsBeside width old t
    → IsAdded width old new root t x []
leaf_end width old new t x root page stack items w v e absent k o kb =
    let was : IsTree old root (plug v.above v.here) = subst (IsTree old root) v.whole w in
    go v.here v.head v.whole was (EachNode-from_plug (HasNode old) v.above v.here was.holds)
  where
    go : (here : Forest) → heads here ≡ page ∷ [] → t ≡ plug v.above here → IsTree old root (plug v.above here) → HoldsForest old here → IsAdded width old new root t x []
    go (Leaf p xs Nil) h d was held =
        let same : p ≡ page = cc in
        let xs_are : xs ≡ items = let q : LeafNode xs ≡ LeafNode items = sym held.0 ∙ ap old same ∙ e in cc in
        let f = Fits-plug None None v.above (Leaf p xs Nil) page v.matched h was.fits in
        let rises : Rises (low_of None v.above) (high_of None v.above) (with_entry x xs) =
        put_rises _ _ x xs f.0.1 v.low v.high (subst (λ (l : List Entry). IsEntryOf x l → ⊥) (sym xs_are) absent) in
        record {
          after = plug v.above (Leaf p (with_entry x xs) Nil);
          tree = changed old new root v.above (Leaf p xs Nil) (Leaf p (with_entry x xs) Nil) page v.matched h was
              (leaf_change old new _ _ (plug v.above (Leaf p xs Nil)) p xs (with_entry x xs) f.0.0 rises (ap new same ∙ k ∙ ap (λ (l : List Entry). LeafNode (with_entry x l)) (sym xs_are))
              (λ n z. o n (subst (λ (q : ℕ). n ≢ q) same z)));
          adds = put_at v.above (Leaf p xs Nil) (Leaf p (with_entry x xs) Nil) x (outside None None v.above (Leaf p xs Nil) page x v.matched h was.fits v.low v.high)
              (rw (append-nil, append-nil))
              ∙ ap (λ (u : Forest). with_entry x (leaf_entries u)) (sym d);
          one_leaf =
              gains_as x _ _ _ _ (ap filled_leaves d) refl
              (gains_plug x v.above (Leaf p xs Nil) (Leaf p (with_entry x xs) Nil) (gains_as x _ _ _ _ (append-nil _) (append-nil _) (gains_one x xs)));
          leaves =
              keeps_plug width old t v.above (Leaf p (with_entry x xs) Nil) (kb v.above (Leaf p xs Nil) d)
              ((holds_with_entry p x xs, inr (xs, omega (arith, ap (times p) d, times-plug p v.above (Leaf p xs Nil), once_same p), held.0, omega (arith, length-with_entry x xs))), tt);
          pages = λ n. omega (arith, ap (times n) d, times-plug n v.above (Leaf p xs Nil), times-plug n v.above (Leaf p (with_entry x xs) Nil));
          kept = λ n z q.
              let off : once n p ≡ 0 = omega (arith, ap (times n) d, times-plug n v.above (Leaf p xs Nil)) in
              o n (λ (w : n ≡ page). let one : once n p ≡ 1 = subst (λ (k : ℕ). once k p ≡ 1) (same ∙ sym w) (once_same p) in omega arith);
        }
    go (Fork p ss kids Nil) h d was held = let same : p ≡ page = cc in let q : InnerNode ss (heads kids) ≡ LeafNode items = sym held.0 ∙ ap old same ∙ e in cc
    go here h d was held = absurd (omega (arith, ap length h))

-- a full leaf is cut before y
pub leaf_begins : (width : ℕ) (old new : ℕ → Node) (t : Forest) (x : Entry) (root page : ℕ) (stack : List (ℕ × ℕ)) (items : List Entry) (z : Entry) (zs : List Entry) (y : Entry) (ys : List Entry) (c : ℕ)
    → IsTree old root t → IsAtPlace t x stack page → old page ≡ LeafNode items → (IsEntryOf x items → ⊥)
    → with_entry x items ≡ (z ∷ zs) ++ y ∷ ys → times c t ≡ 0
    → new page ≡ LeafNode (z ∷ zs) → new c ≡ LeafNode (y ∷ ys) → ((n : ℕ) → n ≢ page → n ≢ c → new n ≡ old n)
    → leaf_room width / 2 ≤ length (z ∷ zs) → leaf_room width / 2 ≤ length (y ∷ ys)
    → IsHalfway width old new t x stack page y c (c ∷ [])
leaf_begins width old new t x root page stack items z zs y ys c w v e absent cut zc k kc o half_one half_two =
    let was : IsTree old root (plug v.above v.here) = subst (IsTree old root) v.whole w in
    go v.here v.head v.whole was (EachNode-from_plug (HasNode old) v.above v.here was.holds)
  where
    go : (here : Forest) → heads here ≡ page ∷ [] → t ≡ plug v.above here → IsTree old root (plug v.above here) → HoldsForest old here → IsHalfway width old new t x stack page y c (c ∷ [])
    go (Leaf p xs Nil) h d was held =
        let same : p ≡ page = cc in
        let xs_are : xs ≡ items = let q : LeafNode xs ≡ LeafNode items = sym held.0 ∙ ap old same ∙ e in cc in
        let f = Fits-plug None None v.above (Leaf p xs Nil) page v.matched h was.fits in
        let rises : Rises (low_of None v.above) (high_of None v.above) (with_entry x xs) =
        put_rises _ _ x xs f.0.1 v.low v.high (subst (λ (l : List Entry). IsEntryOf x l → ⊥) (sym xs_are) absent) in
        let parts : with_entry x xs ≡ (z ∷ zs) ++ y ∷ ys = ap (with_entry x) xs_are ∙ cut in
        let in_whole : once c p ≡ 0 = omega (arith, ap (times c) d, times-plug c v.above (Leaf p xs Nil)) in
        record {
          above = v.above;
          spot = Leaf p xs Nil;
          row = Leaf p (z ∷ zs) (Leaf c (y ∷ ys) Nil);
          whole = d;
          matched = v.matched;
          way = v.way;
          head = h;
          is_row = leaf_row old new _ _ t p c xs z zs y ys (subst (Rises (low_of None v.above) (high_of None v.above)) parts rises) zc
              (λ (q : p ≡ c). let s : once c p ≡ 1 = subst (λ (u : ℕ). once u p ≡ 1) q (once_same p) in omega arith)
              (ap new same ∙ k) kc (λ n a b. o n (subst (λ (q : ℕ). n ≢ q) same a) b);
          heads_row = ap (λ (q : ℕ). q ∷ c ∷ []) same;
          low = v.low;
          high = v.high;
          adds = rw (append-nil, append-nil) (sym parts);
          one_leaf = gains_as x _ _ _ _ (append-nil _) refl (gains_two x xs (z ∷ zs) (y ∷ ys) parts);
          leaves = ((tt, inl half_one), ((tt, inl half_two), tt));
          half = half_one;
          claimed = λ n. omega arith;
        }
    go (Fork p ss kids Nil) h d was held = let same : p ≡ page = cc in let q : InnerNode ss (heads kids) ≡ LeafNode items = sym held.0 ∙ ap old same ∙ e in cc
    go here h d was held = absurd (omega (arith, ap length h))

-- at the root the first of the two goes to a page of its own, and the root becomes the node above both
pub raised : (width : ℕ) (old now new : ℕ → Node) (t : Forest) (x : Entry) (root : ℕ) (s : Entry) (b a : ℕ) (claims : List ℕ)
    → IsTree old root t → IsHalfway width old now t x [] root s b claims → times a t ≡ 0 → times_among a claims ≡ 0
    → new a ≡ now root → new root ≡ InnerNode (s ∷ []) (a ∷ b ∷ []) → ((n : ℕ) → n ≢ root → n ≢ a → new n ≡ now n)
    → IsAdded width old new root t x (a ∷ claims)
raised width old now new t x root s b a claims w h z za e k o = top h.above h.whole h.way h.is_row
  where
    is_not : (n p : ℕ) → once n p ≡ 0 → n ≢ p
    is_not n p z y = let x : once n p ≡ 1 = subst (λ (v : ℕ). once v p ≡ 1) (sym y) (once_same p) in omega arith

    off : (t : Forest) → heads t ≡ root ∷ [] → (n : ℕ) → times n t ≡ 0 → n ≢ root
    off Nil e n z = cc
    off (Leaf p items next) e n z = let same : p ≡ root = cc in subst (λ (v : ℕ). n ≢ v) same (is_not n p (omega arith))
    off (Fork p seps kids next) e n z = let same : p ≡ root = cc in subst (λ (v : ℕ). n ≢ v) same (is_not n p (omega arith))

    go : (row : Forest) → t ≡ h.spot → Fits None None (s ∷ []) row → HoldsForest now row → NoPageTwice row → times a row ≡ 0 → heads row ≡ root ∷ b ∷ [] → leaf_entries row ≡ with_entry x (leaf_entries h.spot)
        → GainsInLeaf x (filled_leaves h.spot) (filled_leaves row) → EachNode (KeepsLeaf width old t) row → IsHalfHead width row → ((n : ℕ) → times n row ≡ times n t + times_among n claims)
        → ((n : ℕ) → times n t ≡ 0 → once n a + times_among n claims ≡ 0 → new n ≡ old n) → IsAdded width old new root t x (a ∷ claims)
    go Nil d f g i out hr en ol kl hh pg kept = cc
    go (Leaf p items next) d f g i out hr en ol kl hh pg kept =
        let same : p ≡ root = cc in
        let over : once p p + times p next ≤ 1 = i p in
        record {
          after = Fork root (s ∷ []) (Leaf a items next) Nil;
          tree = root_split new root (s ∷ []) (Leaf a items next) f (
            e ∙ ap now (sym same) ∙ g.0,
            HoldsForest-agree now new next
                (λ n l. o n (λ (q : n ≡ root). let r : times p next ≡ 0 = omega (arith, over, once_same p) in let u : times n next ≡ 0 = subst (λ (v : ℕ). times v next ≡ 0) (same ∙ sym q) r in omega arith)
                (λ (q : n ≡ a). let u : times n next ≡ 0 = subst (λ (v : ℕ). times v next ≡ 0) (sym q) (omega arith) in omega arith)) g.1,
          )
              (alone next p (λ n. i n) out)
              (subst (λ (v : ℕ). times v (Leaf a items next) ≡ 0) same (omega (arith, over, once_same p, other p out)))
              (k ∙ ap (λ (l : List ℕ). InnerNode (s ∷ []) l) (let tail : heads next ≡ b ∷ [] = cc in rw tail));
          adds = rw append-nil (en ∙ ap (λ (u : Forest). with_entry x (leaf_entries u)) (sym d));
          one_leaf = gains_as x _ _ _ _ (ap filled_leaves d) (append-nil _) ol;
          leaves = (tt, ((HoldsEntry-moved p a items kl.0.0, inl hh), kl.1), tt);
          pages = λ n. omega (arith, pg n, subst (λ (v : ℕ). once n v ≡ once n p) same refl);
          kept = kept;
        }
      where
        other : (p : ℕ) → once a p + times a next ≡ 0 → once p a ≡ 0
        other p q = once_other p a (λ (v : p ≡ a). let r : once a p ≡ 1 = subst (λ (u : ℕ). once u p ≡ 1) v (once_same p) in omega arith)

        alone : (next : Forest) (p : ℕ) → ((n : ℕ) → once n p + times n next ≤ 1) → once a p + times a next ≡ 0 → (n : ℕ) → once n a + times n next ≤ 1
        alone next p i out n = elim (cases_eq n a) [
          | inl q ↦ subst (λ (v : ℕ). once v a + times v next ≤ 1) (sym q) (omega (arith, once_same a))
          | inr u ↦ omega (arith, once_other n a u, i n)
        ]
    go (Fork p seps kids next) d f g i out hr en ol kl hh pg kept =
        let same : p ≡ root = cc in
        let over : once p p + (times p kids + times p next) ≤ 1 = i p in
        record {
          after = Fork root (s ∷ []) (Fork a seps kids next) Nil;
          tree = root_split new root (s ∷ []) (Fork a seps kids next) f
              (e ∙ ap now (sym same) ∙ g.0, keeps kids (λ n. omega arith) g.1, keeps next (λ n. omega arith) g.2)
              alone
              (subst (λ (v : ℕ). times v (Fork a seps kids next) ≡ 0) same (omega (arith, over, once_same p, other)))
              (k ∙ ap (λ (l : List ℕ). InnerNode (s ∷ []) l) (let tail : heads next ≡ b ∷ [] = cc in rw tail));
          adds = rw append-nil (en ∙ ap (λ (u : Forest). with_entry x (leaf_entries u)) (sym d));
          one_leaf = gains_as x _ _ _ _ (ap filled_leaves d) (append-nil _) ol;
          leaves = (tt, kl, tt);
          pages = λ n. omega (arith, pg n, subst (λ (v : ℕ). once n v ≡ once n p) same refl);
          kept = kept;
        }
      where
        keeps : (u : Forest) → ((n : ℕ) → times n u ≤ times n kids + times n next) → HoldsForest now u → HoldsForest new u
        keeps u y q =
            let same : p ≡ root = cc in
            HoldsForest-agree now new u
            (λ n l. o n (λ (v : n ≡ root). let r : once n p ≡ 1 = subst (λ (w : ℕ). once w p ≡ 1) (same ∙ sym v) (once_same p) in omega (arith, r, i n, y n))
            (λ (v : n ≡ a). let r : times n kids + times n next ≡ 0 = subst (λ (w : ℕ). times w kids + times w next ≡ 0) (sym v) (omega arith) in omega (arith, r, y n))) q

        other : once p a ≡ 0
        other = once_other p a (λ (v : p ≡ a). let r : once a p ≡ 1 = subst (λ (u : ℕ). once u p ≡ 1) v (once_same p) in omega arith)

        alone : (n : ℕ) → once n a + (times n kids + times n next) ≤ 1
        alone n = elim (cases_eq n a) [
          | inl q ↦ subst (λ (v : ℕ). once v a + (times v kids + times v next) ≤ 1) (sym q) (omega (arith, once_same a))
          | inr u ↦ omega (arith, once_other n a u, i n)
        ]

    top : (above : List Frame) → t ≡ plug above h.spot → places above ≡ []
        → IsTreeRow old now (low_of None above) (high_of None above) t h.spot (s ∷ []) h.row → IsAdded width old new root t x (a ∷ claims)
    top [] d y r =
        go h.row d r.fits r.holds r.distinct (omega (arith, h.claimed a, ap (times a) d)) h.heads_row h.adds h.one_leaf h.leaves h.half (λ n. omega (arith, h.claimed n, ap (times n) d))
        (λ n z q. o n (off t w.head n z) (is_not n a (omega arith)) ∙ r.wrote n (omega (arith, ap (times n) d)) (omega (arith, h.claimed n, ap (times n) d)))
    top (f ∷ fs) d y r = cc
