-- Entries with the same first four bytes stand to all others alike.
use Rattle.std.proofs.Common.{◌≡◌, ℕ, zero, suc, List, [], ◌∷◌, ◌++◌, refl, ap, sym, ◌∙◌, subst, take, inl, inr, ne_eqb, cond}
use Rattle.std.specs.Prelude.{true, false, Bool, nat_lt}
use Rattle.std.proofs.lemmas.Bool.{cases_eq}
use Rattle.std.specs.Ordering.{nat_cmp, is_lt, ordering_then}
use Rattle.std.specs.declared.cmp.Ordering.{Ordering}
use Rattle.std.specs.declared.cmp.Ordering.TheVariants.{Less, Greater}
use Rattle.std.specs.Cmp.Lexicographic.{slice_cmp}
use Rattle.mdc_words.specs.ByteOrder.{Entry, below}
use Rattle.entry_tree.specs.Amending.{HasOwnFront}
use Rattle.entry_tree.specs.EntryBounds.{IsEntryOf}
use Rattle.entry_tree.proofs.EntryBoundsLemmas.{AllAbove, AllBelow, below_itself}

-- where the first bytes of two lists differ, these decide
cmp_fronts : (n : ℕ) (x y : List ℕ) → (take n x ≡ take n y → ⊥) → slice_cmp nat_cmp x y ≡ slice_cmp nat_cmp (take n x) (take n y)
cmp_fronts zero x y d = absurd (d refl)
cmp_fronts (suc n) [] [] d = absurd (d refl)
cmp_fronts (suc n) [] (y ∷ ys) d = refl
cmp_fronts (suc n) (x ∷ xs) [] d = refl
cmp_fronts (suc n) (x ∷ xs) (y ∷ ys) d =
    let up : (take n xs ≡ take n ys → ⊥) → slice_cmp nat_cmp xs ys ≡ slice_cmp nat_cmp (take n xs) (take n ys) = cmp_fronts n xs ys in
    elim (cases_eq x y) [
      | inl e ↦ ap (ordering_then (nat_cmp x y)) (up (λ q. d (ap (λ (v : ℕ). v ∷ take n xs) e ∙ ap (λ (r : List ℕ). y ∷ r) q)))
      | inr ne ↦ rw (ne_eqb x y ne) (either (nat_lt x y) (slice_cmp nat_cmp xs ys) (slice_cmp nat_cmp (take n xs) (take n ys)))
    ]
  where
    either : (b : Bool) (o p : Ordering) → ordering_then (cond b Less Greater) o ≡ ordering_then (cond b Less Greater) p
    either true o p = refl
    either false o p = refl

pub alike_below : (y x z : Entry) → take 4 x ≡ take 4 z → (take 4 y ≡ take 4 x → ⊥) → below y x ≡ below y z
unfolding below
alike_below y x z e d =
    ap is_lt (cmp_fronts 4 y x d ∙ ap (slice_cmp nat_cmp (take 4 y)) e ∙ sym (cmp_fronts 4 y z (λ q. d (q ∙ sym e))))

pub alike_above : (y x z : Entry) → take 4 x ≡ take 4 z → (take 4 y ≡ take 4 x → ⊥) → below x y ≡ below z y
unfolding below
alike_above y x z e d =
    ap is_lt (cmp_fronts 4 x y (λ q. d (sym q)) ∙ ap (λ (r : List ℕ). slice_cmp nat_cmp r (take 4 y)) e ∙ sym (cmp_fronts 4 z y (λ q. d (sym (e ∙ q)))))

pub AllBelow-alike : (x z : Entry) (ys : List Entry) → take 4 x ≡ take 4 z → HasOwnFront x ys → AllBelow x ys → AllBelow z ys
AllBelow-alike x z [] e a h = tt
AllBelow-alike x z (y ∷ ys) e a h = (
  sym (alike_below y x z e (λ q. let same = a y (inl refl) q in let i = below_itself x in let b : below x x ≡ true = subst (λ (v : Entry). below v x ≡ true) same h.0 in cc)) ∙ h.0,
  AllBelow-alike x z ys e (λ w i. a w (inr i)) h.1,
)

pub AllAbove-alike : (x z : Entry) (ys : List Entry) → take 4 x ≡ take 4 z → HasOwnFront x ys → AllAbove x ys → AllAbove z ys
AllAbove-alike x z [] e a h = tt
AllAbove-alike x z (y ∷ ys) e a h = (
  sym (alike_above y x z e (λ q. let same = a y (inl refl) q in let i = below_itself x in let b : below x x ≡ true = subst (λ (v : Entry). below x v ≡ true) same h.0 in cc)) ∙ h.0,
  AllAbove-alike x z ys e (λ w i. a w (inr i)) h.1,
)

-- a part of a list
pub alone_left : (x : Entry) (xs ys : List Entry) → HasOwnFront x (xs ++ ys) → HasOwnFront x xs
alone_left x xs ys a y i = a y (left xs i)
  where
    left : (zs : List Entry) → IsEntryOf y zs → IsEntryOf y (zs ++ ys)
    left [] i = absurd i
    left (z ∷ zs) (inl e) = inl e
    left (z ∷ zs) (inr i) = inr (left zs i)

pub alone_right : (x : Entry) (xs ys : List Entry) → HasOwnFront x (xs ++ ys) → HasOwnFront x ys
alone_right x xs ys a y i = a y (right xs)
  where
    right : (zs : List Entry) → IsEntryOf y (zs ++ ys)
    right [] = i
    right (z ∷ zs) = inr (right zs)
