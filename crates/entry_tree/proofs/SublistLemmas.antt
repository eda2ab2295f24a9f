-- Lists that keep some of the entries of another, in order.
use Rattle.std.proofs.Common.{◌≡◌, ℕ, zero, suc, List, [], ◌∷◌, ◌++◌, take, drop}
use Rattle.std.specs.Prelude.{Some, None, Bool, true, false, if◌then◌else◌}
use Rattle.std.specs.List.{filter, remove}
use Rattle.mdc_words.specs.ByteOrder.{Entry, below}
use Rattle.entry_tree.specs.EntryBounds.{Bound, Climbs, Rises, AtLeast}
use Rattle.entry_tree.proofs.EntryBoundsLemmas.{below_trans, from_below, not_below}

-- the first list has some of the entries of the second, in order
pub data IsSublist : List Entry → List Entry → Type 0 where
  nothing : IsSublist [] []
  keeps : {kept xs : List Entry} (x : Entry) → IsSublist kept xs → IsSublist (x ∷ kept) (x ∷ xs)
  drops : {kept xs : List Entry} (x : Entry) → IsSublist kept xs → IsSublist kept (x ∷ xs)

pub IsSublist-itself : (xs : List Entry) → IsSublist xs xs
IsSublist-itself [] = nothing
IsSublist-itself (x ∷ xs) = keeps x (IsSublist-itself xs)

-- without the entry at a place
pub IsSublist-remove : (xs : List Entry) (at : ℕ) → IsSublist (remove xs at) xs
IsSublist-remove [] zero = nothing
IsSublist-remove [] (suc at) = nothing
IsSublist-remove (x ∷ xs) zero = drops x (IsSublist-itself xs)
IsSublist-remove (x ∷ xs) (suc at) = keeps x (IsSublist-remove xs at)

pub IsSublist-filter : (p : Entry → Bool) (xs : List Entry) → IsSublist (filter p xs) xs
IsSublist-filter p [] = nothing
IsSublist-filter p (x ∷ xs) = go (p x) (IsSublist-filter p xs)
  where
    go : (b : Bool) → IsSublist (filter p xs) xs → IsSublist (if b then x ∷ filter p xs else filter p xs) (x ∷ xs)
    go true s = keeps x s
    go false s = drops x s

-- a first part as it is, and what passes a test of the rest
pub IsSublist-take_filter : (p : Entry → Bool) (from : ℕ) (xs : List Entry) → IsSublist (take from xs ++ filter p (drop from xs)) xs
IsSublist-take_filter p zero xs = IsSublist-filter p xs
IsSublist-take_filter p (suc from) [] = nothing
IsSublist-take_filter p (suc from) (x ∷ xs) = keeps x (IsSublist-take_filter p from xs)

Climbs-from : (last x : Entry) (high : Bound) (xs : List Entry) → below last x ≡ true → Climbs x high xs → Climbs last high xs
Climbs-from last x high [] l h = tt
Climbs-from last x high (y ∷ ys) l h = (below_trans last x y l h.0, h.1, h.2)

pub Climbs-sublist : (last : Entry) (high : Bound) {kept xs : List Entry} → IsSublist kept xs → Climbs last high xs → Climbs last high kept
Climbs-sublist last high nothing h = tt
Climbs-sublist last high (keeps x s) h = (h.0, h.1, Climbs-sublist x high s h.2)
Climbs-sublist last high {kept = kept} (drops x s) h = Climbs-from last x high kept h.0 (Climbs-sublist x high s h.2)

Rises-from : (low high : Bound) (x : Entry) (kept : List Entry) → AtLeast low x → Climbs x high kept → Rises low high kept
Rises-from low high x [] l h = tt
Rises-from None high x (y ∷ ys) l h = (tt, h.1, h.2)
Rises-from (Some s) high x (y ∷ ys) l h = (not_below s y (from_below s x y l h.0), h.1, h.2)

-- some of the entries that rise between two bounds rise between them
pub Rises-sublist : (low high : Bound) {kept xs : List Entry} → IsSublist kept xs → Rises low high xs → Rises low high kept
Rises-sublist low high nothing h = tt
Rises-sublist low high (keeps x s) h = (h.0, h.1, Climbs-sublist x high s h.2)
Rises-sublist low high {kept = kept} (drops x s) h = Rises-from low high x kept h.0 (Climbs-sublist x high s h.2)
