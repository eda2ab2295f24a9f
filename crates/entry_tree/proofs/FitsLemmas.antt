-- Rows whose bounds move, and rows that are cut in two.
use Rattle.std.proofs.Common.{◌≡◌, ◌+◌, ℕ, List, [], ◌∷◌, ◌++◌, refl, ap, arith, append-nil, length}
use Rattle.std.specs.Prelude.{Some}
use Rattle.entry_tree.proofs.EntryBoundsLemmas.{Climbs-and, Rises-down, Rises-up, Room-at_least, Room-under, below_itself, room_trans}
use Rattle.entry_tree.proofs.ForestLemmas.{Fits-and, Fits-from_and, and_nil}
use Rattle.entry_tree.specs.EntryBounds.{Bound, Rises, Room}
use Rattle.entry_tree.specs.Forest.{Fits, Forest, heads, ◌&◌}
use Rattle.entry_tree.specs.Forest.Forest.{Fork, Leaf, Nil}
use Rattle.mdc_words.specs.ByteOrder.{Entry}

pub Fits-room : (low high : Bound) (seps : List Entry) (t : Forest) → Fits low high seps t → Room low high
Fits-room low high seps Nil h = absurd h
Fits-room low high [] (Leaf page items next) h = h.0
Fits-room low high (s ∷ seps) (Leaf page items next) h = room_trans low high s h.0 (Fits-room (Some s) high seps next h.2)
Fits-room low high [] (Fork page inner kids next) h = h.0
Fits-room low high (s ∷ seps) (Fork page inner kids next) h = room_trans low high s h.0 (Fits-room (Some s) high seps next h.2)

-- the low bound may fall
pub Fits-lower : (low high : Bound) (s : Entry) (seps : List Entry) (t : Forest) → Room low (Some s) → Fits (Some s) high seps t → Fits low high seps t
Fits-lower low high s seps Nil r h = absurd h
Fits-lower low high s [] (Leaf page items next) r h = (room_trans low high s r h.0, Rises-down low high s items r h.1, h.2)
Fits-lower low high s (l ∷ seps) (Leaf page items next) r h = (room_trans low (Some l) s r h.0, Rises-down low (Some l) s items r h.1, h.2)
Fits-lower low high s [] (Fork page inner kids next) r h = (room_trans low high s r h.0, Fits-lower low high s inner kids r h.1, h.2)
Fits-lower low high s (l ∷ seps) (Fork page inner kids next) r h = (room_trans low (Some l) s r h.0, Fits-lower low (Some l) s inner kids r h.1, h.2)

-- the high bound may rise
pub Fits-higher : (low high : Bound) (s : Entry) (seps : List Entry) (t : Forest) → Room (Some s) high → Fits low (Some s) seps t → Fits low high seps t
Fits-higher low high s seps Nil r h = absurd h
Fits-higher low high s [] (Leaf page items next) r h = (room_trans low high s h.0 r, Rises-up low high s items r h.1, h.2)
Fits-higher low high s (l ∷ seps) (Leaf page items next) r h = (h.0, h.1, Fits-higher (Some l) high s seps next r h.2)
Fits-higher low high s [] (Fork page inner kids next) r h = (room_trans low high s h.0 r, Fits-higher low high s inner kids r h.1, h.2)
Fits-higher low high s (l ∷ seps) (Fork page inner kids next) r h = (h.0, h.1, Fits-higher (Some l) high s seps next r h.2)

-- a leaf is cut before y
pub leaf_halves : (low high : Bound) (x : Entry) (xs : List Entry) (y : Entry) (ys : List Entry) (a b : ℕ)
    → Rises low high ((x ∷ xs) ++ y ∷ ys) → Fits low high (y ∷ []) (Leaf a (x ∷ xs) (Leaf b (y ∷ ys) Nil))
leaf_halves low high x xs y ys a b h =
    let r = Climbs-and x high xs y ys h.2 in
    (Room-at_least low x y h.0 r.1, (h.0, r.1, r.0), (Room-under high y r.2, (below_itself y, r.2, r.3), refl))

-- an inner node is cut at s, which moves up
pub fork_halves : (low high : Bound) (lows : List Entry) (s : Entry) (highs : List Entry) (t u : Forest) (a b : ℕ)
    → length (heads t) ≡ length lows + 1 → Fits low high (lows ++ s ∷ highs) (t & u)
    → Fits low high (s ∷ []) (Fork a lows t (Fork b highs u Nil))
fork_halves low high lows s highs t u a b c h =
    let r = Fits-from_and low high lows s highs t u c h in
    (Fits-room low (Some s) lows t r.0, r.0, (Fits-room (Some s) high highs u r.1, r.1, refl))

-- a first tree is taken out
pub drop_first : (low high : Bound) (s : Entry) (highs : List Entry) (t right : Forest) (page : ℕ)
    → heads t ≡ page ∷ [] → Fits low high (s ∷ highs) (t & right) → Fits low high highs right
drop_first low high s highs (Leaf p items Nil) right page e h = Fits-lower low high s highs right h.0 h.2
drop_first low high s highs (Fork p inner kids Nil) right page e h = Fits-lower low high s highs right h.0 h.2
drop_first low high s highs t right page e h = absurd (omega (arith, ap length e))

-- a later tree is taken out, with the separator before it
pub drop_later : (low high : Bound) (lows : List Entry) (s : Entry) (highs : List Entry) (left t right : Forest) (page : ℕ)
    → length (heads left) ≡ length lows + 1 → heads t ≡ page ∷ [] → Fits low high (lows ++ s ∷ highs) (left & (t & right))
    → Fits low high (lows ++ highs) (left & right)
drop_later low high lows s highs left t right page c e h =
    let r = Fits-from_and low high lows s highs left (t & right) c h in
    go highs t e r.0 r.1
  where
    go : (highs : List Entry) (t : Forest) → heads t ≡ page ∷ [] → Fits low (Some s) lows left → Fits (Some s) high highs (t & right)
        → Fits low high (lows ++ highs) (left & right)
    go [] (Leaf p items Nil) e k m = rw (m.2, and_nil left, append-nil) (Fits-higher low high s lows left m.0 k)
    go [] (Fork p inner kids Nil) e k m = rw (m.2, and_nil left, append-nil) (Fits-higher low high s lows left m.0 k)
    go (g ∷ highs) (Leaf p items Nil) e k m = Fits-and low high lows g highs left right (Fits-higher low (Some g) s lows left m.0 k) m.2
    go (g ∷ highs) (Fork p inner kids Nil) e k m = Fits-and low high lows g highs left right (Fits-higher low (Some g) s lows left m.0 k) m.2
    go highs t e k m = absurd (omega (arith, ap length e))
