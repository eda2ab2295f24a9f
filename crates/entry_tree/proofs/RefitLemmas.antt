-- A separator may be any bound between the entries before it and those behind it.
use Rattle.std.proofs.Common.{◌≡◌, ◌≢◌, ◌≤◌, ◌+◌, ℕ, List, [], ◌∷◌, ◌++◌, refl, arith, sym, subst, length}
use Rattle.std.specs.Prelude.{Some, None}
use Rattle.mdc_words.specs.ByteOrder.{Entry}
use Rattle.node_page.specs.Node.{Node}
use Rattle.node_page.specs.Node.Node.{InnerNode}
use Rattle.entry_tree.specs.EntryBounds.{Bound, AtLeast, Under, Room, Climbs, Rises}
use Rattle.entry_tree.specs.Forest.{Fits, Forest, HasNode, IsTree, EachNode, HoldsEntry, leaf_entries, heads, once, times, ◌&◌}
use Rattle.entry_tree.specs.Forest.Forest.{Fork, Leaf, Nil}
use Rattle.entry_tree.specs.Reading.{AreAtLeast, AreUnder}
use Rattle.entry_tree.specs.TreePlaces.{AreMatched, Frame, high_of, low_of, plug}
use Rattle.entry_tree.proofs.EntryBoundsLemmas.{from_below}
use Rattle.entry_tree.proofs.FitsLemmas.{Fits-room}
use Rattle.entry_tree.proofs.ForestLemmas.{EachNode-from_and, Fits-and, Fits-from_and, HoldsForest-agree, once_same}
use Rattle.entry_tree.proofs.ReadingLemmas.{AreAtLeast-from_and, AreUnder-from_and}
use Rattle.entry_tree.proofs.TreeChangesLemmas.{changed}
use Rattle.entry_tree.proofs.TreePlacesLemmas.{EachNode-from_plug, Fits-plug, times-plug}

-- an entry between two bounds shows that there is room
pub room_by : (low high : Bound) (x : Entry) → AtLeast low x → Under high x → Room low high
room_by None high x a u = tt
room_by (Some s) None x a u = tt
room_by (Some s) (Some t) x a u = from_below s x t a u

Climbs-to_high : (last : Entry) (high more : Bound) (xs : List Entry) → Climbs last high xs → AreUnder more xs → Climbs last more xs
Climbs-to_high last high more [] h u = tt
Climbs-to_high last high more (x ∷ xs) h u = (h.0, u.0, Climbs-to_high x high more xs h.2 u.1)

pub Rises-to_high : (low high more : Bound) (xs : List Entry) → Rises low high xs → AreUnder more xs → Rises low more xs
Rises-to_high low high more [] h u = tt
Rises-to_high low high more (x ∷ xs) h u = (h.0, u.0, Climbs-to_high x high more xs h.2 u.1)

pub Rises-to_low : (low more high : Bound) (xs : List Entry) → Rises low high xs → AreAtLeast more xs → Rises more high xs
Rises-to_low low more high [] h a = tt
Rises-to_low low more high (x ∷ xs) h a = (a.0, h.1, h.2)

-- a forest whose leaves hold entries fits below each bound that is above its entries
pub Fits-to_high : (low high more : Bound) (seps : List Entry) (t : Forest) → Fits low high seps t → EachNode HoldsEntry t → AreUnder more (leaf_entries t) → Fits low more seps t
Fits-to_high low high more seps Nil h k u = absurd h
Fits-to_high low high more seps (Leaf page [] next) h k u = absurd k.0
Fits-to_high low high more [] (Leaf page (x ∷ xs) next) h k u =
    (room_by low more x h.1.0 u.0, (h.1.0, u.0, Climbs-to_high x high more xs h.1.2 (AreUnder-from_and more xs (leaf_entries next) u.1).0), h.2)
Fits-to_high low high more (s ∷ seps) (Leaf page (x ∷ xs) next) h k u =
    (h.0, h.1, Fits-to_high (Some s) high more seps next h.2 k.1 (AreUnder-from_and more xs (leaf_entries next) u.1).1)
Fits-to_high low high more [] (Fork page inner kids next) h k u =
    let r = Fits-to_high low high more inner kids h.1 k.1 (AreUnder-from_and more (leaf_entries kids) (leaf_entries next) u).0 in
    (Fits-room low more inner kids r, r, h.2)
Fits-to_high low high more (s ∷ seps) (Fork page inner kids next) h k u =
    (h.0, h.1, Fits-to_high (Some s) high more seps next h.2 k.2 (AreUnder-from_and more (leaf_entries kids) (leaf_entries next) u).1)

-- and above each bound that is at or below them
pub Fits-to_low : (low more high : Bound) (seps : List Entry) (t : Forest) → Fits low high seps t → EachNode HoldsEntry t → AreAtLeast more (leaf_entries t) → Fits more high seps t
Fits-to_low low more high seps Nil h k a = absurd h
Fits-to_low low more high seps (Leaf page [] next) h k a = absurd k.0
Fits-to_low low more high [] (Leaf page (x ∷ xs) next) h k a = (room_by more high x a.0 h.1.1, (a.0, h.1.1, h.1.2), h.2)
Fits-to_low low more high (s ∷ seps) (Leaf page (x ∷ xs) next) h k a = (room_by more (Some s) x a.0 h.1.1, (a.0, h.1.1, h.1.2), h.2)
Fits-to_low low more high [] (Fork page inner kids next) h k a =
    let r = Fits-to_low low more high inner kids h.1 k.1 (AreAtLeast-from_and more (leaf_entries kids) (leaf_entries next) a).0 in
    (Fits-room more high inner kids r, r, h.2)
Fits-to_low low more high (s ∷ seps) (Fork page inner kids next) h k a =
    let r = Fits-to_low low more (Some s) inner kids h.1 k.1 (AreAtLeast-from_and more (leaf_entries kids) (leaf_entries next) a).0 in
    (Fits-room more (Some s) inner kids r, r, h.2)

-- another separator between the same trees
pub Fits-other_separator : (low high : Bound) (lows : List Entry) (s other : Entry) (highs : List Entry) (left right : Forest)
    → length (heads left) ≡ length lows + 1 → Fits low high (lows ++ s ∷ highs) (left & right) → EachNode HoldsEntry (left & right)
    → AreUnder (Some other) (leaf_entries left) → AreAtLeast (Some other) (leaf_entries right) → Fits low high (lows ++ other ∷ highs) (left & right)
Fits-other_separator low high lows s other highs left right c h k u a =
    let r = Fits-from_and low high lows s highs left right c h in
    let f = EachNode-from_and HoldsEntry left right k in
    Fits-and low high lows other highs left right (Fits-to_high low (Some s) (Some other) lows left r.0 f.0 u) (Fits-to_low (Some s) (Some other) high highs right r.1 f.1 a)

-- a tree with another separator in one of its nodes
pub separator_moved : (old new : ℕ → Node) (root : ℕ) (fs : List Frame) (page : ℕ) (lows : List Entry) (s other : Entry) (highs : List Entry) (left right kids : Forest)
    → AreMatched fs → kids ≡ left & right → length (heads left) ≡ length lows + 1 → IsTree old root (plug fs (Fork page (lows ++ s ∷ highs) kids Nil)) → EachNode HoldsEntry kids
    → AreUnder (Some other) (leaf_entries left) → AreAtLeast (Some other) (leaf_entries right)
    → new page ≡ InnerNode (lows ++ other ∷ highs) (heads kids) → ((n : ℕ) → n ≢ page → new n ≡ old n)
    → IsTree new root (plug fs (Fork page (lows ++ other ∷ highs) kids Nil))
separator_moved old new root fs page lows s other highs left right kids m e c w k u a is o =
    let was : Forest = Fork page (lows ++ s ∷ highs) kids Nil in
    let fit = Fits-plug None None fs was page m refl w.fits in
    let held = EachNode-from_plug (HasNode old) fs was w.holds in
    let inside : (n : ℕ) → once n page + (times n kids + 0) ≤ 1 = (λ (n : ℕ). omega (arith, w.distinct n, times-plug n fs was)) in
    let fits_now : Fits (low_of None fs) (high_of None fs) (lows ++ other ∷ highs) kids =
    subst (λ (v : Forest). Fits (low_of None fs) (high_of None fs) (lows ++ other ∷ highs) v) (sym e)
    (Fits-other_separator (low_of None fs) (high_of None fs) lows s other highs left right c
    (subst (λ (v : Forest). Fits (low_of None fs) (high_of None fs) (lows ++ s ∷ highs) v) e fit.0.1) (subst (EachNode HoldsEntry) e k) u a) in
    changed old new root fs was (Fork page (lows ++ other ∷ highs) kids Nil) page m refl w
    (record {
      head = refl;
      holds = (is, HoldsForest-agree old new kids (λ n p. o n (λ (q : n ≡ page). let one : once n page ≡ 1 = subst (λ (v : ℕ). once v page ≡ 1) (sym q) (once_same page) in omega (arith, one, inside n))) held.1, tt);
      fits = (fit.0.0, fits_now, refl);
      distinct = λ n. inside n;
      fresh = λ n l z. absurd (omega (arith, l, z));
      wrote = λ n z y. o n (λ (q : n ≡ page). let one : once n page ≡ 1 = subst (λ (v : ℕ). once v page ≡ 1) (sym q) (once_same page) in omega (arith, one, z));
    })
