-- Laws of the order of leaf_entries, and of bounds.
use Rattle.std.proofs.Common.{◌≡◌, List, [], ◌∷◌, ◌++◌, refl, ap, sym, ◌∙◌, subst, inl, inr}
use Rattle.std.specs.Prelude.{Some, None, ⊤, Bool, true, false}
use Rattle.std.specs.declared.cmp.Ordering.{Ordering}
use Rattle.std.specs.declared.cmp.Ordering.TheVariants.{Less, Equal, Greater}
use Rattle.std.specs.Ordering.{nat_cmp, is_lt, is_eq, ordering_reverse}
use Rattle.std.specs.Cmp.Lexicographic.{slice_cmp, nat_list_cmp_total, same_text, texts_ties}
use Rattle.entry_tree.specs.EntryBounds.{AtLeast, Bound, Climbs, IsEntryOf, Rises, Room, Under, with_entry}
use Rattle.mdc_words.specs.ByteOrder.{Entry, below}

less_of : (o : Ordering) → is_lt o ≡ true → o ≡ Less
less_of Less h = refl
less_of Equal h = cc
less_of Greater h = cc

pub below_itself : (x : Entry) → below x x ≡ false
unfolding below
below_itself x = go (slice_cmp nat_cmp x x) (nat_list_cmp_total.antisymm x x)
  where
    go : (o : Ordering) → o ≡ ordering_reverse o → is_lt o ≡ false
    go Less e = cc
    go Equal e = refl
    go Greater e = refl

pub below_trans : (x y z : Entry) → below x y ≡ true → below y z ≡ true → below x z ≡ true
unfolding below
below_trans x y z h k = ap is_lt (nat_list_cmp_total.trans x y z (less_of _ h) (less_of _ k))

-- x isn't below s and is below y
pub from_below : (s x y : Entry) → below x s ≡ false → below x y ≡ true → below s y ≡ true
unfolding below
from_below s x y h k = go (slice_cmp nat_cmp x s) refl h
  where
    go : (o : Ordering) → slice_cmp nat_cmp x s ≡ o → is_lt o ≡ false → is_lt (slice_cmp nat_cmp s y) ≡ true
    go Less e f = cc
    go Equal e f = subst (λ (r : Ordering). is_lt r ≡ true) (nat_list_cmp_total.congr x s y e) k
    go Greater e f = ap is_lt (nat_list_cmp_total.trans s x y (nat_list_cmp_total.antisymm s x ∙ ap ordering_reverse e) (less_of _ k))

pub not_below : (x y : Entry) → below x y ≡ true → below y x ≡ false
not_below x y h = go (below y x) refl
  where
    go : (b : Bool) → below y x ≡ b → b ≡ false
    go true e = let k = below_trans x y x h e in let i = below_itself x in cc
    go false e = refl

-- y is below s and x isn't
pub up_to : (y s x : Entry) → below y s ≡ true → below x s ≡ false → below y x ≡ true
unfolding below
up_to y s x h k = go (slice_cmp nat_cmp x s) refl k
  where
    go : (o : Ordering) → slice_cmp nat_cmp x s ≡ o → is_lt o ≡ false → is_lt (slice_cmp nat_cmp y x) ≡ true
    go Less e f = cc
    go Equal e f = back (slice_cmp nat_cmp y x) refl
      where
        back : (o : Ordering) → slice_cmp nat_cmp y x ≡ o → is_lt o ≡ true
        back Less g = refl
        back Equal g = let q = nat_list_cmp_total.congr y x s g in let l = less_of _ h in cc
        back Greater g =
            let a = nat_list_cmp_total.antisymm x y ∙ ap ordering_reverse g in
            let q = nat_list_cmp_total.congr x s y e in
            let r = nat_list_cmp_total.antisymm s y ∙ ap ordering_reverse (less_of _ h) in cc
    go Greater e f = ap is_lt (nat_list_cmp_total.trans y s x (less_of _ h) (nat_list_cmp_total.antisymm s x ∙ ap ordering_reverse e))

pub room_trans : (low high : Bound) (s : Entry) → Room low (Some s) → Room (Some s) high → Room low high
room_trans None high s h k = tt
room_trans (Some r) None s h k = tt
room_trans (Some r) (Some t) s h k = below_trans r s t h k

pub Under-up : (high : Bound) (s x : Entry) → Room (Some s) high → Under (Some s) x → Under high x
Under-up None s x h k = tt
Under-up (Some t) s x h k = below_trans x s t k h

pub AtLeast-down : (low : Bound) (s x : Entry) → Room low (Some s) → AtLeast (Some s) x → AtLeast low x
AtLeast-down None s x h k = tt
AtLeast-down (Some r) s x h k = not_below r x (up_to r s x h k)

pub Climbs-up : (high : Bound) (s last : Entry) (xs : List Entry) → Room (Some s) high → Climbs last (Some s) xs → Climbs last high xs
Climbs-up high s last [] r h = tt
Climbs-up high s last (x ∷ xs) r h = (h.0, Under-up high s x r h.1, Climbs-up high s x xs r h.2)

pub Rises-up : (low high : Bound) (s : Entry) (xs : List Entry) → Room (Some s) high → Rises low (Some s) xs → Rises low high xs
Rises-up low high s [] r h = tt
Rises-up low high s (x ∷ xs) r h = (h.0, Under-up high s x r h.1, Climbs-up high s x xs r h.2)

pub Rises-down : (low high : Bound) (s : Entry) (xs : List Entry) → Room low (Some s) → Rises (Some s) high xs → Rises low high xs
Rises-down low high s [] r h = tt
Rises-down low high s (x ∷ xs) r h = (AtLeast-down low s x r h.0, h.1, h.2)

pub Climbs-and : (last : Entry) (high : Bound) (xs : List Entry) (y : Entry) (ys : List Entry) → Climbs last high (xs ++ y ∷ ys)
    → Climbs last (Some y) xs × (below last y ≡ true) × Under high y × Climbs y high ys
Climbs-and last high [] y ys h = (tt, h.0, h.1, h.2)
Climbs-and last high (x ∷ xs) y ys h =
    let r = Climbs-and x high xs y ys h.2 in
    ((h.0, r.1, r.0), below_trans last x y h.0 r.1, r.2, r.3)

pub Room-under : (high : Bound) (y : Entry) → Under high y → Room (Some y) high
Room-under None y h = tt
Room-under (Some t) y h = h

pub Room-at_least : (low : Bound) (x y : Entry) → AtLeast low x → below x y ≡ true → Room low (Some y)
Room-at_least None x y h k = tt
Room-at_least (Some s) x y h k = from_below s x y h k

-- each entry is below x, or above it
abbrev pub AllBelow : Entry → List Entry → Type 0
AllBelow x [] = ⊤
AllBelow x (y ∷ ys) = (below y x ≡ true) × AllBelow x ys

abbrev pub AllAbove : Entry → List Entry → Type 0
AllAbove x [] = ⊤
AllAbove x (y ∷ ys) = (below x y ≡ true) × AllAbove x ys

pub AllBelow-and : (x : Entry) (ys zs : List Entry) → AllBelow x ys → AllBelow x zs → AllBelow x (ys ++ zs)
AllBelow-and x [] zs h k = k
AllBelow-and x (y ∷ ys) zs h k = (h.0, AllBelow-and x ys zs h.1 k)

pub AllAbove-and : (x : Entry) (ys zs : List Entry) → AllAbove x ys → AllAbove x zs → AllAbove x (ys ++ zs)
AllAbove-and x [] zs h k = k
AllAbove-and x (y ∷ ys) zs h k = (h.0, AllAbove-and x ys zs h.1 k)

pub Climbs-below : (last x s : Entry) (ys : List Entry) → Climbs last (Some s) ys → below x s ≡ false → AllBelow x ys
Climbs-below last x s [] h k = tt
Climbs-below last x s (y ∷ ys) h k = (up_to y s x h.1 k, Climbs-below y x s ys h.2 k)

pub Rises-below : (low : Bound) (x s : Entry) (ys : List Entry) → Rises low (Some s) ys → below x s ≡ false → AllBelow x ys
Rises-below low x s [] h k = tt
Rises-below low x s (y ∷ ys) h k = (up_to y s x h.1 k, Climbs-below y x s ys h.2 k)

pub Climbs-above : (last x : Entry) (high : Bound) (ys : List Entry) → Climbs last high ys → below x last ≡ true → AllAbove x ys
Climbs-above last x high [] h k = tt
Climbs-above last x high (y ∷ ys) h k = let r = below_trans x last y k h.0 in (r, Climbs-above y x high ys h.2 r)

pub Rises-above : (high : Bound) (x s : Entry) (ys : List Entry) → Rises (Some s) high ys → below x s ≡ true → AllAbove x ys
Rises-above high x s [] h k = tt
Rises-above high x s (y ∷ ys) h k = let r = up_to x s y k h.0 in (r, Climbs-above y x high ys h.2 r)

pub exact_entries : (x y : Entry) → below x y ≡ false → below y x ≡ false → x ≡ y
unfolding below
exact_entries x y h k = go (slice_cmp nat_cmp x y) refl h
  where
    go : (o : Ordering) → slice_cmp nat_cmp x y ≡ o → is_lt o ≡ false → x ≡ y
    go Less e f = cc
    go Equal e f = same_text x y (sym (texts_ties x y ∙ ap is_eq e))
    go Greater e f = let q = nat_list_cmp_total.antisymm y x ∙ ap ordering_reverse e in let r = ap is_lt q in cc

-- what lies around the place of x
pub put_between : (x : Entry) (before xs behind : List Entry) → AllBelow x before → AllAbove x behind
    → with_entry x (before ++ (xs ++ behind)) ≡ before ++ (with_entry x xs ++ behind)
put_between x [] [] [] h k = refl
put_between x [] [] (z ∷ zs) h k = rw (not_below x z k.0)
put_between x [] (y ∷ ys) behind h k = go (put_between x [] ys behind tt k) (below y x) refl
  where
    go : with_entry x (ys ++ behind) ≡ with_entry x ys ++ behind → (b : Bool) → below y x ≡ b → with_entry x ((y ∷ ys) ++ behind) ≡ with_entry x (y ∷ ys) ++ behind
    go r true e = rw e (ap (λ (l : List Entry). y ∷ l) r)
    go r false e = rw e
put_between x (y ∷ before) xs behind h k = rw h.0 (ap (λ (l : List Entry). y ∷ l) (put_between x before xs behind h.1 k))

pub in_behind : (x : Entry) (behind : List Entry) → AllAbove x behind → IsEntryOf x behind → ⊥
in_behind x [] k i = i
in_behind x (z ∷ zs) k (inl e) = let q = below_itself x in let r = k.0 in subst (λ (w : Entry). below x w ≡ true → ⊥) e (λ m. cc) k.0
in_behind x (z ∷ zs) k (inr i) = in_behind x zs k.1 i

pub in_between : (x : Entry) (before xs behind : List Entry) → AllBelow x before → AllAbove x behind → IsEntryOf x (before ++ (xs ++ behind)) → IsEntryOf x xs
in_between x [] [] behind h k i = in_behind x behind k i
in_between x [] (y ∷ ys) behind h k (inl e) = inl e
in_between x [] (y ∷ ys) behind h k (inr i) = inr (in_between x [] ys behind tt k i)
in_between x (y ∷ before) xs behind h k (inl e) = let q = below_itself x in absurd (subst (λ (w : Entry). below w x ≡ true → ⊥) e (λ m. cc) h.0)
in_between x (y ∷ before) xs behind h k (inr i) = in_between x before xs behind h.1 k i

pub in_part : (x : Entry) (before xs behind : List Entry) → IsEntryOf x xs → IsEntryOf x (before ++ (xs ++ behind))
in_part x [] (y ∷ ys) behind (inl e) = inl e
in_part x [] (y ∷ ys) behind (inr i) = inr (in_part x [] ys behind i)
in_part x [] [] behind i = absurd i
in_part x (y ∷ before) xs behind i = inr (in_part x before xs behind i)

-- a new entry in rising ones
pub put_climbs : (last x : Entry) (high : Bound) (ys : List Entry) → Climbs last high ys → below last x ≡ true → Under high x → (IsEntryOf x ys → ⊥) → Climbs last high (with_entry x ys)
put_climbs last x high [] h k u n = (k, u, tt)
put_climbs last x high (y ∷ ys) h k u n = go (λ e. put_climbs y x high ys h.2 e u (λ i. n (inr i))) (below y x) refl
  where
    go : (below y x ≡ true → Climbs y high (with_entry x ys)) → (b : Bool) → below y x ≡ b → Climbs last high (with_entry x (y ∷ ys))
    go r true e = rw e (h.0, h.1, r e)
    go r false e = rw e (k, u, (above (below x y) refl, h.1, h.2))
      where
        above : (b : Bool) → below x y ≡ b → below x y ≡ true
        above true f = f
        above false f = absurd (n (inl (exact_entries x y f e)))

pub put_rises : (low high : Bound) (x : Entry) (ys : List Entry) → Rises low high ys → AtLeast low x → Under high x → (IsEntryOf x ys → ⊥) → Rises low high (with_entry x ys)
put_rises low high x [] h k u n = (k, u, tt)
put_rises low high x (y ∷ ys) h k u n = go (below y x) refl
  where
    go : (b : Bool) → below y x ≡ b → Rises low high (with_entry x (y ∷ ys))
    go true e = rw e (h.0, h.1, put_climbs y x high ys h.2 e u (λ i. n (inr i)))
    go false e = rw e (k, u, (above (below x y) refl, h.1, h.2))
      where
        above : (b : Bool) → below x y ≡ b → below x y ≡ true
        above true f = f
        above false f = absurd (n (inl (exact_entries x y f e)))
