-- What stands in the leaf of a bound, and what lies behind it.
use Rattle.std.proofs.Common.{◌≡◌, ◌⊎◌, ℕ, zero, suc, List, [], ◌∷◌, ◌++◌, refl, ap, arith, sym, ◌∙◌, subst, inl, inr, append-nil, length, drop}
use Rattle.std.specs.Prelude.{Some, None, true, false, Bool, if◌then◌else◌}
use Rattle.mdc_words.specs.ByteOrder.{Entry, below}
use Rattle.entry_tree.specs.EntryBounds.{Bound, AtLeast, Under, Room, Climbs, IsEntryOf, Rises, IsLeafPlace}
use Rattle.entry_tree.specs.Forest.{Forest, Fits, leaf_entries, heads, ◌&◌}
use Rattle.entry_tree.specs.Forest.Forest.{Nil, Leaf, Fork}
use Rattle.entry_tree.specs.Reading.{AreAtLeast, AreUnder, entries_from}
use Rattle.entry_tree.specs.TreePlaces.{AreMatched, Frame, plug, entries_before, entries_behind, first_or, low_of, high_of}
use Rattle.entry_tree.proofs.EntryBoundsLemmas.{AllAbove, AllBelow, AtLeast-down, Under-up, below_trans, not_below}
use Rattle.entry_tree.proofs.FitsLemmas.{Fits-room}
use Rattle.entry_tree.proofs.TreePlacesLemmas.{Fits-plug, leaf_entries-plug}
use Rattle.entry_tree.proofs.DescentLemmas.{outside}

pub AreAtLeast-and : (low : Bound) (xs ys : List Entry) → AreAtLeast low xs → AreAtLeast low ys → AreAtLeast low (xs ++ ys)
AreAtLeast-and low [] ys h k = k
AreAtLeast-and low (x ∷ xs) ys h k = (h.0, AreAtLeast-and low xs ys h.1 k)

pub AreAtLeast-from_and : (low : Bound) (xs ys : List Entry) → AreAtLeast low (xs ++ ys) → AreAtLeast low xs × AreAtLeast low ys
AreAtLeast-from_and low [] ys h = (tt, h)
AreAtLeast-from_and low (x ∷ xs) ys h = let r = AreAtLeast-from_and low xs ys h.1 in ((h.0, r.0), r.1)

pub AreUnder-and : (high : Bound) (xs ys : List Entry) → AreUnder high xs → AreUnder high ys → AreUnder high (xs ++ ys)
AreUnder-and high [] ys h k = k
AreUnder-and high (x ∷ xs) ys h k = (h.0, AreUnder-and high xs ys h.1 k)

pub AreUnder-from_and : (high : Bound) (xs ys : List Entry) → AreUnder high (xs ++ ys) → AreUnder high xs × AreUnder high ys
AreUnder-from_and high [] ys h = (tt, h)
AreUnder-from_and high (x ∷ xs) ys h = let r = AreUnder-from_and high xs ys h.1 in ((h.0, r.0), r.1)

pub AreUnder-drop : (high : Bound) (n : ℕ) (xs : List Entry) → AreUnder high xs → AreUnder high (drop n xs)
AreUnder-drop high zero xs h = h
AreUnder-drop high (suc n) [] h = tt
AreUnder-drop high (suc n) (x ∷ xs) h = AreUnder-drop high n xs h.1

pub AreAtLeast-down : (low : Bound) (s : Entry) (xs : List Entry) → Room low (Some s) → AreAtLeast (Some s) xs → AreAtLeast low xs
AreAtLeast-down low s [] r h = tt
AreAtLeast-down low s (x ∷ xs) r h = (AtLeast-down low s x r h.0, AreAtLeast-down low s xs r h.1)

pub AreUnder-up : (high : Bound) (s : Entry) (xs : List Entry) → Room (Some s) high → AreUnder (Some s) xs → AreUnder high xs
AreUnder-up high s [] r h = tt
AreUnder-up high s (x ∷ xs) r h = (Under-up high s x r h.0, AreUnder-up high s xs r h.1)

-- what climbs above an entry that is at or above a bound
climbing_least : (low : Bound) (last x : Entry) → AtLeast low last → below last x ≡ true → AtLeast low x
climbing_least None last x h k = tt
climbing_least (Some s) last x h k = go (below x s) refl
  where
    go : (b : Bool) → below x s ≡ b → b ≡ false
    go true e = let i = below_trans last x s k e in cc
    go false e = refl

pub Climbs-least : (low : Bound) (last : Entry) (high : Bound) (xs : List Entry) → AtLeast low last → Climbs last high xs → AreAtLeast low xs
Climbs-least low last high [] h k = tt
Climbs-least low last high (x ∷ xs) h k =
    let l = climbing_least low last x h k.0 in (l, Climbs-least low x high xs l k.2)

pub Rises-least : (low high : Bound) (xs : List Entry) → Rises low high xs → AreAtLeast low xs
Rises-least low high [] h = tt
Rises-least low high (x ∷ xs) h = (h.0, Climbs-least low x high xs h.0 h.2)

pub Climbs-under : (last : Entry) (high : Bound) (xs : List Entry) → Climbs last high xs → AreUnder high xs
Climbs-under last high [] h = tt
Climbs-under last high (x ∷ xs) h = (h.1, Climbs-under x high xs h.2)

pub Rises-under : (low high : Bound) (xs : List Entry) → Rises low high xs → AreUnder high xs
Rises-under low high [] h = tt
Rises-under low high (x ∷ xs) h = (h.1, Climbs-under x high xs h.2)

-- the entries of a forest lie between its bounds
pub Fits-least : (low high : Bound) (seps : List Entry) (t : Forest) → Fits low high seps t → AreAtLeast low (leaf_entries t)
Fits-least low high seps Nil h = absurd h
Fits-least low high [] (Leaf page items next) h = rw (h.2, append-nil) (Rises-least low high items h.1)
Fits-least low high (s ∷ seps) (Leaf page items next) h =
    AreAtLeast-and low items (leaf_entries next) (Rises-least low (Some s) items h.1) (AreAtLeast-down low s (leaf_entries next) h.0 (Fits-least (Some s) high seps next h.2))
Fits-least low high [] (Fork page inner kids next) h = rw (h.2, append-nil) (Fits-least low high inner kids h.1)
Fits-least low high (s ∷ seps) (Fork page inner kids next) h =
    AreAtLeast-and low (leaf_entries kids) (leaf_entries next) (Fits-least low (Some s) inner kids h.1)
    (AreAtLeast-down low s (leaf_entries next) h.0 (Fits-least (Some s) high seps next h.2))

pub Fits-under : (low high : Bound) (seps : List Entry) (t : Forest) → Fits low high seps t → AreUnder high (leaf_entries t)
Fits-under low high seps Nil h = absurd h
Fits-under low high [] (Leaf page items next) h = rw (h.2, append-nil) (Rises-under low high items h.1)
Fits-under low high (s ∷ seps) (Leaf page items next) h =
    AreUnder-and high items (leaf_entries next) (AreUnder-up high s items (Fits-room (Some s) high seps next h.2) (Rises-under low (Some s) items h.1))
    (Fits-under (Some s) high seps next h.2)
Fits-under low high [] (Fork page inner kids next) h = rw (h.2, append-nil) (Fits-under low high inner kids h.1)
Fits-under low high (s ∷ seps) (Fork page inner kids next) h =
    AreUnder-and high (leaf_entries kids) (leaf_entries next) (AreUnder-up high s (leaf_entries kids) (Fits-room (Some s) high seps next h.2) (Fits-under low (Some s) inner kids h.1))
    (Fits-under (Some s) high seps next h.2)

pub entries_from-and : (bound : Entry) (xs ys : List Entry) → entries_from bound (xs ++ ys) ≡ entries_from bound xs ++ entries_from bound ys
entries_from-and bound [] ys = refl
entries_from-and bound (x ∷ xs) ys = go (below x bound) (entries_from-and bound xs ys)
  where
    go : (b : Bool) → entries_from bound (xs ++ ys) ≡ entries_from bound xs ++ entries_from bound ys
        → (if b then entries_from bound (xs ++ ys) else x ∷ entries_from bound (xs ++ ys)) ≡ (if b then entries_from bound xs else x ∷ entries_from bound xs) ++ entries_from bound ys
    go true e = e
    go false e = ap (λ (l : List Entry). x ∷ l) e

-- none of what lies below the bound, and all of what doesn't
pub entries_from-below : (bound : Entry) (xs : List Entry) → AllBelow bound xs → entries_from bound xs ≡ []
entries_from-below bound [] h = refl
entries_from-below bound (x ∷ xs) h = rw h.0 (entries_from-below bound xs h.1)

pub entries_from-least : (bound : Entry) (xs : List Entry) → AreAtLeast (Some bound) xs → entries_from bound xs ≡ xs
entries_from-least bound [] h = refl
entries_from-least bound (x ∷ xs) h = rw h.0 (ap (λ (l : List Entry). x ∷ l) (entries_from-least bound xs h.1))

pub AllAbove-least : (bound : Entry) (xs : List Entry) → AllAbove bound xs → AreAtLeast (Some bound) xs
AllAbove-least bound [] h = tt
AllAbove-least bound (x ∷ xs) h = (not_below bound x h.0, AllAbove-least bound xs h.1)

-- the entries of a leaf from its place on
pub entries_from-leaf : (bound : Entry) (items : List Entry) (at : ℕ) → Rises None None items → IsLeafPlace items bound at → entries_from bound items ≡ drop at items
entries_from-leaf bound [] zero r p = refl
entries_from-leaf bound [] (suc at) r p = refl
entries_from-leaf bound (x ∷ items) zero r p =
    rw (p.after (omega arith)) (ap (λ (l : List Entry). x ∷ l) (entries_from-least bound items (Climbs-least (Some bound) x None items (p.after (omega arith)) r.2)))
entries_from-leaf bound (x ∷ items) (suc at) r p =
    rw (p.before 0 (omega arith))
    (entries_from-leaf bound items at (climbing items x r.2)
    (record {
      within = let w = p.within in omega arith;
      before = λ k l. p.before (suc k) (omega arith);
      after = λ l. p.after (omega arith);
    }))
  where
    climbing : (xs : List Entry) (last : Entry) → Climbs last None xs → Rises None None xs
    climbing [] last h = tt
    climbing (y ∷ ys) last h = (tt, tt, h.2)

-- the entries from the bound on, where its leaf is this one
pub entries_from-plug : (bound : Entry) (fs : List Frame) (page p : ℕ) (items : List Entry) (at : ℕ) → AreMatched fs → Fits None None [] (plug fs (Leaf page items Nil))
    → AtLeast (low_of None fs) bound → Under (high_of None fs) bound → Rises None None items → IsLeafPlace items bound at
    → entries_from bound (leaf_entries (plug fs (Leaf page items Nil))) ≡ drop at items ++ entries_behind fs
entries_from-plug bound fs page p items at m f l u r i =
    let o = outside None None fs (Leaf page items Nil) page bound m refl f l u in
    ap (entries_from bound) (leaf_entries-plug fs (Leaf page items Nil))
    ∙ entries_from-and bound (entries_before fs) ((items ++ []) ++ entries_behind fs)
    ∙ rw (
      entries_from-below bound (entries_before fs) o.0,
      append-nil,
      entries_from-and bound items (entries_behind fs),
      entries_from-leaf bound items at r i,
      entries_from-least bound (entries_behind fs) (AllAbove-least bound (entries_behind fs) o.1),
    ) refl

-- what lies behind a place is at or above its high bound, and nothing where it has none
abbrev pub AreBehind : Bound → List Entry → Type 0
AreBehind None xs = xs ≡ []
AreBehind (Some s) xs = AreAtLeast (Some s) xs

-- the trees right of a place begin at the separator behind it, and there are none where no separator is
abbrev pub RightRow : List Entry → Bound → Forest → Type 0
RightRow [] high right = right ≡ Nil
RightRow (s ∷ highs) high right = Fits (Some s) high highs right

pub right_row : (low high : Bound) (lows highs : List Entry) (left t right : Forest) (page : ℕ)
    → length (heads left) ≡ length lows → heads t ≡ page ∷ [] → Fits low high (lows ++ highs) (left & (t & right)) → RightRow highs high right
right_row low high [] [] Nil (Leaf p items Nil) right page c e h = h.2
right_row low high [] [] Nil (Fork p ss kids Nil) right page c e h = h.2
right_row low high [] (s ∷ highs) Nil (Leaf p items Nil) right page c e h = h.2
right_row low high [] (s ∷ highs) Nil (Fork p ss kids Nil) right page c e h = h.2
right_row low high (l ∷ lows) highs (Leaf p items next) t right page c e h = right_row (Some l) high lows highs next t right page (omega arith) e h.2
right_row low high (l ∷ lows) highs (Fork p ss kids next) t right page c e h = right_row (Some l) high lows highs next t right page (omega arith) e h.2
right_row low high lows highs left t right page c e h = absurd (omega (arith, c, ap length e))

-- what lies behind the place of a tree
pub behind_place : (fs : List Frame) (t : Forest) (page : ℕ) → AreMatched fs → heads t ≡ page ∷ [] → Fits None None [] (plug fs t)
    → AreBehind (high_of None fs) (entries_behind fs)
behind_place [] t page m e h = refl
behind_place (f ∷ fs) t page m e h =
    let u : Forest = Fork f.page (f.lows ++ f.highs) (f.left & (t & f.right)) Nil in
    let r = Fits-plug None None fs u f.page m.1 refl h in
    go f.highs (right_row (low_of None fs) (high_of None fs) f.lows f.highs f.left t f.right page m.0 e r.0.1) (behind_place fs u f.page m.1 refl h)
  where
    upper : (s : Entry) (high : Bound) (xs : List Entry) → Room (Some s) high → AreBehind high xs → AreAtLeast (Some s) xs
    upper s None xs r h = rw h tt
    upper s (Some z) xs r h = AreAtLeast-down (Some s) z xs r h

    go : (highs : List Entry) → RightRow highs (high_of None fs) f.right → AreBehind (high_of None fs) (entries_behind fs)
        → AreBehind (first_or highs (high_of None fs)) (leaf_entries f.right ++ entries_behind fs)
    go [] r b = rw r b
    go (s ∷ highs) r b =
        AreAtLeast-and (Some s) (leaf_entries f.right) (entries_behind fs) (Fits-least (Some s) (high_of None fs) highs f.right r)
        (upper s (high_of None fs) (entries_behind fs) (Fits-room (Some s) (high_of None fs) highs f.right r) b)

-- ---- one entry

-- an entry of the list that isn't below the bound is one of those from the bound on
pub in_entries_from : (bound x : Entry) (xs : List Entry) → IsEntryOf x xs → below x bound ≡ false → IsEntryOf x (entries_from bound xs)
in_entries_from bound x [] i b = absurd i
in_entries_from bound x (y ∷ ys) i b = go (below y bound) refl i (in_entries_from bound x ys)
  where
    go : (c : Bool) → below y bound ≡ c → (x ≡ y) ⊎ IsEntryOf x ys → (IsEntryOf x ys → below x bound ≡ false → IsEntryOf x (entries_from bound ys))
        → IsEntryOf x (if c then entries_from bound ys else y ∷ entries_from bound ys)
    go true e (inl p) f = let wrong : true ≡ false = sym e ∙ ap (λ (v : Entry). below v bound) (sym p) ∙ b in cc
    go true e (inr j) f = f j b
    go false e (inl p) f = inl p
    go false e (inr j) f = inr (f j b)

-- and the other way round
pub from_entries_from : (bound x : Entry) (xs : List Entry) → IsEntryOf x (entries_from bound xs) → IsEntryOf x xs × (below x bound ≡ false)
from_entries_from bound x [] i = absurd i
from_entries_from bound x (y ∷ ys) i = go (below y bound) refl i (from_entries_from bound x ys)
  where
    go : (c : Bool) → below y bound ≡ c → IsEntryOf x (if c then entries_from bound ys else y ∷ entries_from bound ys) → (IsEntryOf x (entries_from bound ys) → IsEntryOf x ys × (below x bound ≡ false))
        → IsEntryOf x (y ∷ ys) × (below x bound ≡ false)
    go true e i f = let r = f i in (inr r.0, r.1)
    go false e (inl p) f = (inl p, ap (λ (v : Entry). below v bound) p ∙ e)
    go false e (inr j) f = let r = f j in (inr r.0, r.1)

-- an entry of those that aren't below a bound isn't
pub least_of : (s x : Entry) (xs : List Entry) → AreAtLeast (Some s) xs → IsEntryOf x xs → below x s ≡ false
least_of s x [] h i = absurd i
least_of s x (y ∷ ys) h (inl e) = subst (λ (v : Entry). below v s ≡ false) (sym e) h.0
least_of s x (y ∷ ys) h (inr i) = least_of s x ys h.1 i
