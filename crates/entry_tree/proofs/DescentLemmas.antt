-- The way down: a node's children around one of them, and what lies outside the place of an entry.
use Rattle.std.proofs.Common.{◌≡◌, ◌<◌, ◌≤◌, ℕ, zero, suc, List, [], ◌∷◌, ◌++◌, refl, ap, arith, sym, ◌∙◌, subst, length, get_or, take, drop}
use Rattle.std.specs.Prelude.{Some, true, false, ◌↔◌}
use Rattle.entry_tree.proofs.EntryBoundsLemmas.{AllAbove, AllAbove-and, AllBelow, AllBelow-and, AtLeast-down, Rises-above, Rises-below, Under-up, below_trans, in_between, in_part, not_below, put_between, up_to}
use Rattle.entry_tree.proofs.FitsLemmas.{Fits-room}
use Rattle.entry_tree.proofs.TreePlacesLemmas.{Fits-plug, leaf_entries-plug}
use Rattle.entry_tree.specs.EntryBounds.{AtLeast, Bound, IsEntryOf, Under, with_entry}
use Rattle.entry_tree.specs.Forest.{Fits, Forest, leaf_entries, heads, ◌&◌}
use Rattle.entry_tree.specs.Forest.Forest.{Fork, Leaf, Nil}
use Rattle.entry_tree.specs.TreePlaces.{AreMatched, Frame, IsChildPlace, entries_before, entries_behind, first_or, high_of, last_or, low_of, plug}
use Rattle.mdc_words.specs.ByteOrder.{Entry, below}

-- the children around the one at i
pub record Cut (kids : Forest) (i : ℕ) : Type 0 where
  pub left : Forest
  pub child : Forest
  pub right : Forest
  pub page : ℕ
  pub whole : kids ≡ left & (child & right)
  pub count : length (heads left) ≡ i
  pub head : heads child ≡ page ∷ []
  pub there : page ≡ get_or (heads kids) i 0

pub cut_at : (kids : Forest) (i : ℕ) → i < length (heads kids) → Cut kids i
cut_at Nil i h = absurd (omega arith)
cut_at (Leaf p items next) zero h =
    record { left = Nil; child = Leaf p items Nil; right = next; page = p; whole = refl; count = refl; head = refl; there = refl }
cut_at (Leaf p items next) (suc i) h =
    let r = cut_at next i (omega arith) in
    record { left = Leaf p items r.left; child = r.child; right = r.right; page = r.page; whole = ap (Leaf p items) r.whole; count = ap suc r.count; head = r.head; there = r.there }
cut_at (Fork p seps kids next) zero h =
    record { left = Nil; child = Fork p seps kids Nil; right = next; page = p; whole = refl; count = refl; head = refl; there = refl }
cut_at (Fork p seps kids next) (suc i) h =
    let r = cut_at next i (omega arith) in
    record { left = Fork p seps kids r.left; child = r.child; right = r.right; page = r.page; whole = ap (Fork p seps kids) r.whole; count = ap suc r.count; head = r.head; there = r.there }

pub last_or-take : (low : Bound) (i : ℕ) (seps : List Entry) → i < length seps → last_or low (take (suc i) seps) ≡ Some (get_or seps i [])
last_or-take low i [] h = absurd (omega arith)
last_or-take low zero (s ∷ seps) h = refl
last_or-take low (suc i) (s ∷ seps) h = last_or-take (Some s) i seps (omega arith)

pub first_or-drop : (high : Bound) (i : ℕ) (seps : List Entry) → i < length seps → first_or (drop i seps) high ≡ Some (get_or seps i [])
first_or-drop high i [] h = absurd (omega arith)
first_or-drop high zero (s ∷ seps) h = refl
first_or-drop high (suc i) (s ∷ seps) h = first_or-drop high i seps (omega arith)

pub first_or-drop_end : (high : Bound) (i : ℕ) (seps : List Entry) → length seps ≤ i → first_or (drop i seps) high ≡ high
first_or-drop_end high zero [] h = refl
first_or-drop_end high (suc i) [] h = refl
first_or-drop_end high zero (s ∷ seps) h = absurd (omega arith)
first_or-drop_end high (suc i) (s ∷ seps) h = first_or-drop_end high i seps (omega arith)

-- where the search times_among the separators ended, the entry lies between the bounds of that child
pub place_low : (low : Bound) (seps : List Entry) (x : Entry) (i : ℕ) → IsChildPlace seps x i → AtLeast low x → AtLeast (last_or low (take i seps)) x
place_low low seps x zero p h = h
place_low low seps x (suc i) p h = rw (last_or-take low i seps (omega (arith, p.within))) (subst (λ (k : ℕ). below x (get_or seps k []) ≡ false) (omega arith) (p.before (omega arith)))

pub place_high : (high : Bound) (seps : List Entry) (x : Entry) (i : ℕ) → (i < length seps → below x (get_or seps i []) ≡ true) → Under high x → Under (first_or (drop i seps) high) x
place_high high [] x zero p h = h
place_high high [] x (suc i) p h = h
place_high high (s ∷ seps) x zero p h = p (omega arith)
place_high high (s ∷ seps) x (suc i) p h = place_high high seps x i (λ l. p (omega arith)) h

pub within_below : (low : Bound) (s x : Entry) (seps : List Entry) (t : Forest) → Fits low (Some s) seps t → below x s ≡ false → AllBelow x (leaf_entries t)
within_below low s x seps Nil h k = tt
within_below low s x [] (Leaf page items next) h k = AllBelow-and x items (leaf_entries next) (Rises-below low x s items h.1 k) (rw h.2 tt)
within_below low s x (l ∷ seps) (Leaf page items next) h k =
    AllBelow-and x items (leaf_entries next)
    (Rises-below low x l items h.1 (not_below l x (up_to l s x (Fits-room (Some l) (Some s) seps next h.2) k)))
    (within_below (Some l) s x seps next h.2 k)
within_below low s x [] (Fork page inner kids next) h k = AllBelow-and x (leaf_entries kids) (leaf_entries next) (within_below low s x inner kids h.1 k) (rw h.2 tt)
within_below low s x (l ∷ seps) (Fork page inner kids next) h k =
    AllBelow-and x (leaf_entries kids) (leaf_entries next)
    (within_below low l x inner kids h.1 (not_below l x (up_to l s x (Fits-room (Some l) (Some s) seps next h.2) k)))
    (within_below (Some l) s x seps next h.2 k)

pub within_above : (high : Bound) (s x : Entry) (seps : List Entry) (t : Forest) → Fits (Some s) high seps t → below x s ≡ true → AllAbove x (leaf_entries t)
within_above high s x seps Nil h k = tt
within_above high s x [] (Leaf page items next) h k = AllAbove-and x items (leaf_entries next) (Rises-above high x s items h.1 k) (rw h.2 tt)
within_above high s x (l ∷ seps) (Leaf page items next) h k =
    AllAbove-and x items (leaf_entries next) (Rises-above (Some l) x s items h.1 k) (within_above high l x seps next h.2 (below_trans x s l k h.0))
within_above high s x [] (Fork page inner kids next) h k = AllAbove-and x (leaf_entries kids) (leaf_entries next) (within_above high s x inner kids h.1 k) (rw h.2 tt)
within_above high s x (l ∷ seps) (Fork page inner kids next) h k =
    AllAbove-and x (leaf_entries kids) (leaf_entries next) (within_above (Some l) s x inner kids h.1 k) (within_above high l x seps next h.2 (below_trans x s l k h.0))

-- what lies left of the place of x in a row is below x
pub left_below : (low high : Bound) (lows highs : List Entry) (left rest : Forest) (x : Entry)
    → length (heads left) ≡ length lows → Fits low high (lows ++ highs) (left & rest) → AtLeast (last_or low lows) x
    → AllBelow x (leaf_entries left) × AtLeast low x
left_below low high [] highs Nil rest x c h k = (tt, k)
left_below low high (l ∷ lows) highs (Leaf p items next) rest x c h k =
    let r = left_below (Some l) high lows highs next rest x (omega arith) h.2 k in
    (AllBelow-and x items (leaf_entries next) (Rises-below low x l items h.1 r.1) r.0, AtLeast-down low l x h.0 r.1)
left_below low high (l ∷ lows) highs (Fork p inner kids next) rest x c h k =
    let r = left_below (Some l) high lows highs next rest x (omega arith) h.2 k in
    (AllBelow-and x (leaf_entries kids) (leaf_entries next) (within_below low l x inner kids h.1 r.1) r.0, AtLeast-down low l x h.0 r.1)
left_below low high lows highs left rest x c h k = absurd (omega (arith, c))

-- and what lies right of it above x
pub right_above : (low high : Bound) (lows highs : List Entry) (left t right : Forest) (page : ℕ) (x : Entry)
    → length (heads left) ≡ length lows → heads t ≡ page ∷ [] → Fits low high (lows ++ highs) (left & (t & right)) → Under (first_or highs high) x
    → AllAbove x (leaf_entries right) × Under high x
right_above low high [] [] Nil (Leaf p items Nil) right page x c e h k = (rw h.2 tt, k)
right_above low high [] [] Nil (Fork p ss kids Nil) right page x c e h k = (rw h.2 tt, k)
right_above low high [] (s ∷ highs) Nil (Leaf p items Nil) right page x c e h k =
    (within_above high s x highs right h.2 k, Under-up high s x (Fits-room (Some s) high highs right h.2) k)
right_above low high [] (s ∷ highs) Nil (Fork p ss kids Nil) right page x c e h k =
    (within_above high s x highs right h.2 k, Under-up high s x (Fits-room (Some s) high highs right h.2) k)
right_above low high (l ∷ lows) highs (Leaf p items next) t right page x c e h k = right_above (Some l) high lows highs next t right page x (omega arith) e h.2 k
right_above low high (l ∷ lows) highs (Fork p ss kids next) t right page x c e h k = right_above (Some l) high lows highs next t right page x (omega arith) e h.2 k
right_above low high lows highs left t right page x c e h k = absurd (omega (arith, c, ap length e))

-- 7. all that lies beside the place of x is below or above it
pub outside : (low high : Bound) (fs : List Frame) (t : Forest) (page : ℕ) (x : Entry) → AreMatched fs → heads t ≡ page ∷ [] → Fits low high [] (plug fs t)
    → AtLeast (low_of low fs) x → Under (high_of high fs) x → AllBelow x (entries_before fs) × AllAbove x (entries_behind fs)
outside low high [] t page x m e h k u = (tt, tt)
outside low high (f ∷ fs) t page x m e h k u =
    let r = Fits-plug low high fs (Fork f.page (f.lows ++ f.highs) (f.left & (t & f.right)) Nil) f.page m.1 refl h in
    let a = left_below (low_of low fs) (high_of high fs) f.lows f.highs f.left (t & f.right) x m.0 r.0.1 k in
    let b = right_above (low_of low fs) (high_of high fs) f.lows f.highs f.left t f.right page x m.0 e r.0.1 u in
    let o = outside low high fs (Fork f.page (f.lows ++ f.highs) (f.left & (t & f.right)) Nil) f.page x m.1 refl h a.1 b.1 in
    (AllBelow-and x (entries_before fs) (leaf_entries f.left) o.0 a.0, AllAbove-and x (leaf_entries f.right) (entries_behind fs) b.0 o.1)

-- an entry is in the tree exactly where it is at its place
pub has_at : (fs : List Frame) (t : Forest) (x : Entry) → AllBelow x (entries_before fs) × AllAbove x (entries_behind fs) → IsEntryOf x (leaf_entries (plug fs t)) ↔ IsEntryOf x (leaf_entries t)
has_at fs t x o = (
  (λ i. in_between x (entries_before fs) (leaf_entries t) (entries_behind fs) o.0 o.1 (subst (IsEntryOf x) (leaf_entries-plug fs t) i)),
  (λ i. subst (IsEntryOf x) (sym (leaf_entries-plug fs t)) (in_part x (entries_before fs) (leaf_entries t) (entries_behind fs) i)),
)

-- a new entry at its place
pub put_at : (fs : List Frame) (t u : Forest) (x : Entry) → AllBelow x (entries_before fs) × AllAbove x (entries_behind fs)
    → leaf_entries u ≡ with_entry x (leaf_entries t) → leaf_entries (plug fs u) ≡ with_entry x (leaf_entries (plug fs t))
put_at fs t u x o e =
    leaf_entries-plug fs u ∙ rw (e, leaf_entries-plug fs t) (sym (put_between x (entries_before fs) (leaf_entries t) (entries_behind fs) o.0 o.1))
