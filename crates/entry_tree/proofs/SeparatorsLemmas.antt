-- Where a separator of a tree stands to the place of an entry.
use Rattle.std.proofs.Common.{◌≡◌, ◌<◌, ℕ, zero, suc, List, [], ◌∷◌, ◌++◌, refl, ap, arith, sym, subst, length, drop, ◌⊎◌, inl, inr}
use Rattle.std.specs.Prelude.{Some, None, true, false}
use Rattle.mdc_words.specs.ByteOrder.{Entry, below}
use Rattle.entry_tree.specs.EntryBounds.{Bound, AtLeast, Under, Room, Rises, IsEntryOf, IsLeafPlace}
use Rattle.entry_tree.specs.Forest.{Forest, Fits, EachNode, HoldsEntry, IsTrimTree, heads, ◌&◌}
use Rattle.entry_tree.specs.Forest.Forest.{Nil, Leaf, Fork}
use Rattle.entry_tree.specs.TreePlaces.{AreMatched, Frame, plug, last_or, first_or, low_of, high_of}
use Rattle.entry_tree.proofs.EntryBoundsLemmas.{below_itself, not_below, room_trans}
use Rattle.entry_tree.proofs.FitsLemmas.{Fits-room}
use Rattle.entry_tree.proofs.TreePlacesLemmas.{Fits-plug}
use Rattle.entry_tree.proofs.DescentLemmas.{left_below, right_above}
use Rattle.entry_tree.specs.Reading.{AreAtLeast}
use Rattle.entry_tree.proofs.ReadingLemmas.{Rises-least, RightRow, right_row}
use Rattle.entry_tree.proofs.TrimLemmas.{trim_children}
use Rattle.entry_tree.proofs.ForestLemmas.{EachNode-from_and}

-- it stands in one of the nodes
abbrev pub IsSeparatorIn : Entry → Forest → Type 0
IsSeparatorIn s Nil = ⊥
IsSeparatorIn s (Leaf page items next) = IsSeparatorIn s next
IsSeparatorIn s (Fork page seps kids next) = IsEntryOf s seps ⊎ (IsSeparatorIn s kids ⊎ IsSeparatorIn s next)

in_left : (s : Entry) (t u : Forest) → IsSeparatorIn s t → IsSeparatorIn s (t & u)
in_left s Nil u i = absurd i
in_left s (Leaf page items next) u i = in_left s next u i
in_left s (Fork page seps kids next) u (inl i) = inl i
in_left s (Fork page seps kids next) u (inr (inl i)) = inr (inl i)
in_left s (Fork page seps kids next) u (inr (inr i)) = inr (inr (in_left s next u i))

in_right : (s : Entry) (t u : Forest) → IsSeparatorIn s u → IsSeparatorIn s (t & u)
in_right s Nil u i = i
in_right s (Leaf page items next) u i = in_right s next u i
in_right s (Fork page seps kids next) u i = inr (inr (in_right s next u i))

in_plug : (s : Entry) (fs : List Frame) (t : Forest) → IsSeparatorIn s t → IsSeparatorIn s (plug fs t)
in_plug s [] t i = i
in_plug s (f ∷ fs) t i =
    in_plug s fs (Fork f.page (f.lows ++ f.highs) (f.left & (t & f.right)) Nil) (inr (inl (in_right s f.left (t & f.right) (in_left s t f.right i))))

-- the high bound of a place is a separator
pub high_is_separator : (fs : List Frame) (t : Forest) (s : Entry) → high_of None fs ≡ Some s → IsSeparatorIn s (plug fs t)
high_is_separator [] t s e = absurd (cc)
high_is_separator (f ∷ fs) t s e = go f.highs refl e (high_is_separator fs (Fork f.page (f.lows ++ f.highs) (f.left & (t & f.right)) Nil) s)
  where
    among : (lows highs : List Entry) (h : Entry) → h ≡ s → IsEntryOf s (lows ++ h ∷ highs)
    among [] highs h q = inl (sym q)
    among (l ∷ lows) highs h q = inr (among lows highs h q)

    go : (highs : List Entry) → f.highs ≡ highs → first_or highs (high_of None fs) ≡ Some s
        → (high_of None fs ≡ Some s → IsSeparatorIn s (plug fs (Fork f.page (f.lows ++ f.highs) (f.left & (t & f.right)) Nil)))
        → IsSeparatorIn s (plug fs (Fork f.page (f.lows ++ f.highs) (f.left & (t & f.right)) Nil))
    go [] q e up = up e
    go (h ∷ highs) q e up =
        let same : h ≡ s = cc in
        in_plug s fs (Fork f.page (f.lows ++ f.highs) (f.left & (t & f.right)) Nil)
        (inl (subst (λ (l : List Entry). IsEntryOf s (f.lows ++ l)) (sym q) (among f.lows highs h same)))

-- a separator lies strictly between the bounds
pub separator_between : (low high : Bound) (s : Entry) (seps : List Entry) (t : Forest) → Fits low high seps t → IsEntryOf s seps ⊎ IsSeparatorIn s t
    → Room low (Some s) × Room (Some s) high
separator_between low high s seps Nil h i = absurd h
separator_between low high s [] (Leaf page items next) h (inl i) = absurd i
separator_between low high s [] (Leaf page items next) h (inr i) = absurd (subst (IsSeparatorIn s) h.2 i)
separator_between low high s (l ∷ seps) (Leaf page items next) h (inl (inl e)) =
    subst (λ (v : Entry). Room low (Some v) × Room (Some v) high) (sym e) (h.0, Fits-room (Some l) high seps next h.2)
separator_between low high s (l ∷ seps) (Leaf page items next) h (inl (inr i)) =
    let r = separator_between (Some l) high s seps next h.2 (inl i) in (room_trans low (Some s) l h.0 r.0, r.1)
separator_between low high s (l ∷ seps) (Leaf page items next) h (inr i) =
    let r = separator_between (Some l) high s seps next h.2 (inr i) in (room_trans low (Some s) l h.0 r.0, r.1)
separator_between low high s [] (Fork page inner kids next) h (inl i) = absurd i
separator_between low high s [] (Fork page inner kids next) h (inr (inl i)) = separator_between low high s inner kids h.1 (inl i)
separator_between low high s [] (Fork page inner kids next) h (inr (inr (inl i))) = separator_between low high s inner kids h.1 (inr i)
separator_between low high s [] (Fork page inner kids next) h (inr (inr (inr i))) = absurd (subst (IsSeparatorIn s) h.2 i)
separator_between low high s (l ∷ seps) (Fork page inner kids next) h (inl (inl e)) =
    subst (λ (v : Entry). Room low (Some v) × Room (Some v) high) (sym e) (h.0, Fits-room (Some l) high seps next h.2)
separator_between low high s (l ∷ seps) (Fork page inner kids next) h (inl (inr i)) =
    let r = separator_between (Some l) high s seps next h.2 (inl i) in (room_trans low (Some s) l h.0 r.0, r.1)
separator_between low high s (l ∷ seps) (Fork page inner kids next) h (inr (inl i)) =
    let r = separator_between low (Some l) s inner kids h.1 (inl i) in (r.0, room_trans (Some s) high l r.1 (Fits-room (Some l) high seps next h.2))
separator_between low high s (l ∷ seps) (Fork page inner kids next) h (inr (inr (inl i))) =
    let r = separator_between low (Some l) s inner kids h.1 (inr i) in (r.0, room_trans (Some s) high l r.1 (Fits-room (Some l) high seps next h.2))
separator_between low high s (l ∷ seps) (Fork page inner kids next) h (inr (inr (inr i))) =
    let r = separator_between (Some l) high s seps next h.2 (inr i) in (room_trans low (Some s) l h.0 r.0, r.1)

not_both : (x y : Entry) → below x y ≡ true → below x y ≡ false → ⊥
not_both x y h k = cc

-- what is below the separator behind a place isn't one that stands there, or behind it
not_behind : (high : Bound) (highs : List Entry) (right : Forest) (s : Entry) → RightRow highs high right → Under (first_or highs high) s → IsEntryOf s highs ⊎ IsSeparatorIn s right → ⊥
not_behind high [] right s r u (inl i) = i
not_behind high [] right s r u (inr i) = subst (IsSeparatorIn s) r i
not_behind high (h ∷ highs) right s r u (inl (inl e)) = not_both h h (subst (λ (v : Entry). below v h ≡ true) e u) (below_itself h)
not_behind high (h ∷ highs) right s r u (inl (inr i)) = not_both h s (separator_between (Some h) high s highs right r (inl i)).0 (not_below s h u)
not_behind high (h ∷ highs) right s r u (inr i) = not_both h s (separator_between (Some h) high s highs right r (inr i)).0 (not_below s h u)

-- where s belongs between two separators of a node and is one of the tree, it is the first of the two, or stands below
separator_row : (low high : Bound) (lows highs : List Entry) (left here right : Forest) (page : ℕ) (s : Entry)
    → length (heads left) ≡ length lows → heads here ≡ page ∷ [] → Fits low high (lows ++ highs) (left & (here & right))
    → AtLeast (last_or low lows) s → Under (first_or highs high) s
    → (IsEntryOf s (lows ++ highs) ⊎ IsSeparatorIn s (left & (here & right))) ⊎ (low ≡ Some s) → IsSeparatorIn s here ⊎ (last_or low lows ≡ Some s)
separator_row low high [] highs Nil here right page s c e h a u (inr q) = inr q
separator_row low high [] highs Nil here right page s c e h a u (inl (inl i)) =
    absurd (not_behind high highs right s (right_row low high [] highs Nil here right page c e h) u (inl i))
separator_row low high [] highs Nil (Leaf p items Nil) right page s c e h a u (inl (inr i)) =
    absurd (not_behind high highs right s (right_row low high [] highs Nil (Leaf p items Nil) right page c e h) u (inr i))
separator_row low high [] highs Nil (Fork p ss kids Nil) right page s c e h a u (inl (inr (inl i))) = inl (inl i)
separator_row low high [] highs Nil (Fork p ss kids Nil) right page s c e h a u (inl (inr (inr (inl i)))) = inl (inr (inl i))
separator_row low high [] highs Nil (Fork p ss kids Nil) right page s c e h a u (inl (inr (inr (inr i)))) =
    absurd (not_behind high highs right s (right_row low high [] highs Nil (Fork p ss kids Nil) right page c e h) u (inr i))
separator_row low high (l ∷ lows) highs (Leaf p items next) here right page s c e h a u q =
    let d : length (heads next) ≡ length lows = omega arith in
    let least = (left_below (Some l) high lows highs next (here & right) s d h.2 a).1 in
    separator_row (Some l) high lows highs next here right page s d e h.2 a u (go q least h.0)
  where
    go : (IsEntryOf s (l ∷ lows ++ highs) ⊎ IsSeparatorIn s (next & (here & right))) ⊎ (low ≡ Some s) → below s l ≡ false → Room low (Some l)
        → (IsEntryOf s (lows ++ highs) ⊎ IsSeparatorIn s (next & (here & right))) ⊎ (Some l ≡ Some s)
    go (inr q) least r = absurd (not_both s l (subst (λ (v : Bound). Room v (Some l)) q r) least)
    go (inl (inl (inl k))) least r = inr (ap Some (sym k))
    go (inl (inl (inr i))) least r = inl (inl i)
    go (inl (inr i)) least r = inl (inr i)
separator_row low high (l ∷ lows) highs (Fork p inner kids next) here right page s c e h a u q =
    let d : length (heads next) ≡ length lows = omega arith in
    let least = (left_below (Some l) high lows highs next (here & right) s d h.2 a).1 in
    separator_row (Some l) high lows highs next here right page s d e h.2 a u (go q least h.0 h.1)
  where
    go : (IsEntryOf s (l ∷ lows ++ highs) ⊎ (IsEntryOf s inner ⊎ (IsSeparatorIn s kids ⊎ IsSeparatorIn s (next & (here & right))))) ⊎ (low ≡ Some s) → below s l ≡ false → Room low (Some l)
        → Fits low (Some l) inner kids
        → (IsEntryOf s (lows ++ highs) ⊎ IsSeparatorIn s (next & (here & right))) ⊎ (Some l ≡ Some s)
    go (inr q) least r f = absurd (not_both s l (subst (λ (v : Bound). Room v (Some l)) q r) least)
    go (inl (inl (inl k))) least r f = inr (ap Some (sym k))
    go (inl (inl (inr i))) least r f = inl (inl i)
    go (inl (inr (inl i))) least r f = absurd (not_both s l (separator_between low (Some l) s inner kids f (inl i)).1 least)
    go (inl (inr (inr (inl i)))) least r f = absurd (not_both s l (separator_between low (Some l) s inner kids f (inr i)).1 least)
    go (inl (inr (inr (inr i)))) least r f = inl (inr i)
separator_row low high lows highs left here right page s c e h a u q = absurd (omega (arith, c, ap length e))

-- the place of a separator: it stands below, or is the low bound
pub separator_place : (fs : List Frame) (here : Forest) (page : ℕ) (s : Entry) → AreMatched fs → heads here ≡ page ∷ [] → Fits None None [] (plug fs here)
    → AtLeast (low_of None fs) s → Under (high_of None fs) s → IsSeparatorIn s (plug fs here) → IsSeparatorIn s here ⊎ (low_of None fs ≡ Some s)
separator_place [] here page s m e h a u i = inl i
separator_place (f ∷ fs) here page s m e h a u i =
    let whole : Forest = Fork f.page (f.lows ++ f.highs) (f.left & (here & f.right)) Nil in
    let r = Fits-plug None None fs whole f.page m.1 refl h in
    let l = left_below (low_of None fs) (high_of None fs) f.lows f.highs f.left (here & f.right) s m.0 r.0.1 a in
    let g = right_above (low_of None fs) (high_of None fs) f.lows f.highs f.left here f.right page s m.0 e r.0.1 u in
    separator_row (low_of None fs) (high_of None fs) f.lows f.highs f.left here f.right page s m.0 e r.0.1 a u
    (go (separator_place fs whole f.page s m.1 refl h l.1 g.1 i))
  where
    go : IsSeparatorIn s (Fork f.page (f.lows ++ f.highs) (f.left & (here & f.right)) Nil) ⊎ (low_of None fs ≡ Some s)
        → (IsEntryOf s (f.lows ++ f.highs) ⊎ IsSeparatorIn s (f.left & (here & f.right))) ⊎ (low_of None fs ≡ Some s)
    go (inr q) = inr q
    go (inl (inl i)) = inl (inl i)
    go (inl (inr (inl i))) = inl (inr i)
    go (inl (inr (inr i))) = absurd i

-- so the leaf to which a separator leads begins at it, and holds an entry
pub separator_leaf : (fs : List Frame) (page : ℕ) (items : List Entry) (s : Entry) (at : ℕ) → AreMatched fs → Fits None None [] (plug fs (Leaf page items Nil))
    → IsTrimTree (plug fs (Leaf page items Nil)) → AtLeast (low_of None fs) s → Under (high_of None fs) s → IsSeparatorIn s (plug fs (Leaf page items Nil))
    → IsLeafPlace items s at → 0 < length (drop at items)
separator_leaf fs page items s at m h k a u i p =
    let fit = Fits-plug None None fs (Leaf page items Nil) page m refl h in
    begin (separator_place fs (Leaf page items Nil) page s m refl h a u i) fit.0.1
  where
    first : (xs : List Entry) (at : ℕ) → IsLeafPlace xs s at → AreAtLeast (Some s) xs → 0 < length xs → 0 < length (drop at xs)
    first [] at p least some = absurd (omega arith)
    first (x ∷ xs) zero p least some = omega arith
    first (x ∷ xs) (suc at) p least some = absurd (not_both x s (p.before 0 (omega arith)) least.0)

    filled : (gs : List Frame) → low_of None gs ≡ Some s → IsTrimTree (plug gs (Leaf page items Nil)) → 0 < length items
    filled [] q k = absurd (cc)
    filled (g ∷ gs) q k =
        let r = (EachNode-from_and HoldsEntry g.left (Leaf page items g.right) (trim_children gs g.page (g.lows ++ g.highs) (g.left & (Leaf page items g.right)) k)).1 in
        some items r
      where
        some : (xs : List Entry) → EachNode HoldsEntry (Leaf page xs g.right) → 0 < length xs
        some [] r = absurd r.0
        some (x ∷ xs) r = omega arith

    begin : IsSeparatorIn s (Leaf page items Nil) ⊎ (low_of None fs ≡ Some s) → Rises (low_of None fs) (high_of None fs) items → 0 < length (drop at items)
    begin (inl i) r = absurd i
    begin (inr q) r =
        first items at p (Rises-least (Some s) (high_of None fs) items (subst (λ (v : Bound). Rises v (high_of None fs) items) q r)) (filled fs q k)
