-- Places that were sorted, each of which is put last unless it is the last already.
use Rattle.std.proofs.Common.{◌≡◌, ◌<◌, ◌≤◌, ◌+◌, ◌-◌, ◌⊎◌, ℕ, zero, suc, List, [], ◌∷◌, ◌++◌, false, refl, ap, arith, sym, ◌∙◌, subst, length, take, get_or, inl, inr}
use Rattle.std.specs.Prelude.{◌↔◌, Contains, Some, slice_get}
use Rattle.std.specs.Cmp.{ranks}
use Rattle.std.specs.Ordering.{MatchOrdering, is_lt, nat_cmp, ordering_then}
use Rattle.std.specs.List.Sorted.{IsPermutation}
use Rattle.std.specs.declared.cmp.Ordering.{Ordering}
use Rattle.std.specs.declared.cmp.Ordering.TheVariants.{Less, Equal, Greater}
use Rattle.std.proofs.lemmas.List.{get_or-take, get_or_default, length-take-le, take_more}
use Rattle.std.proofs.lemmas.List.Elements.{Contains-append_cases, Contains-append_left, Contains-append_right}
use Rattle.std.proofs.Math.Seq.{take-length}
use Rattle.std.proofs.lemmas.List.Sorted.{Contains-permutation, IsPermutation-sym}
use Rattle.mdc_values.specs.Rising.{IsEarlier, LastIsBefore}
use Rattle.mdc_values.specs.declared.rid.Rid.{Rid}

-- ---- order

-- a place stands before another, or is it
abbrev pub IsNoLater : Rid → Rid → Type 0
IsNoLater a b = IsEarlier a b ⊎ (a ≡ b)

no_later_still : (a b c : Rid) → IsNoLater a b → IsNoLater b c → IsNoLater a c
no_later_still a b c (inl p) (inr q) = inl (subst (IsEarlier a) q p)
no_later_still a b c (inr p) q = subst (λ r. IsNoLater r c) (sym p) q
no_later_still a b c (inl (inl p)) (inl (inl q)) = inl (inl (omega (arith, p, q)))
no_later_still a b c (inl (inl p)) (inl (inr q)) = inl (inl (omega (arith, p, q.0)))
no_later_still a b c (inl (inr p)) (inl (inl q)) = inl (inl (omega (arith, p.0, q)))
no_later_still a b c (inl (inr p)) (inl (inr q)) = inl (inr (p.0 ∙ q.0, omega (arith, p.1, q.1)))

-- the next one isn't less, by block and then by slot
not_less : (a b : Rid) → is_lt (ordering_then (nat_cmp b.block a.block) (nat_cmp b.slot a.slot)) ≡ false → IsNoLater a b
not_less a b = go (nat_cmp b.block a.block) (nat_cmp b.slot a.slot) (ranks b.block a.block) (ranks b.slot a.slot)
  where
    go : (o p : Ordering) → MatchOrdering o (b.block < a.block) (b.block ≡ a.block) (a.block < b.block) → MatchOrdering p (b.slot < a.slot) (b.slot ≡ a.slot) (a.slot < b.slot)
        → is_lt (ordering_then o p) ≡ false → IsNoLater a b
    go Less p m n e = absurd cc
    go Greater p m n e = inl (inl m)
    go Equal Less m n e = absurd cc
    go Equal Equal m n e = inr (ap (λ k. record { block = k; slot = a.slot }) (sym m) ∙ ap (λ k. record { block = b.block; slot = k }) (sym n))
    go Equal Greater m n e = inl (inr (sym m, n))

-- each place stands before the next, or is it
abbrev pub AreSortedPlaces : List Rid → Type 0
AreSortedPlaces xs = (k : ℕ) (d : Rid) → k + 1 < length xs → IsNoLater (get_or xs k d) (get_or xs (k + 1) d)

pub sorted_places : (xs : List Rid) → ((k : ℕ) (d : Rid) → 0 ≤ k → k + 1 < length xs
    → is_lt (ordering_then (nat_cmp (get_or xs (k + 1) d).block (get_or xs k d).block) (nat_cmp (get_or xs (k + 1) d).slot (get_or xs k d).slot)) ≡ false) → AreSortedPlaces xs
sorted_places xs up k d low = not_less (get_or xs k d) (get_or xs (k + 1) d) (up k d (omega arith) low)

later_on : (xs : List Rid) → AreSortedPlaces xs → (n k : ℕ) (d : Rid) → k + n < length xs → IsNoLater (get_or xs k d) (get_or xs (k + n) d)
later_on xs sorted zero k d low = inr (ap (λ i. get_or xs i d) (let e : k ≡ k + 0 = omega arith in e))
later_on xs sorted (suc n) k d low =
    let same : (k + n) + 1 ≡ k + suc n = omega arith in
    subst (λ i. IsNoLater (get_or xs k d) (get_or xs i d)) same
    (no_later_still (get_or xs k d) (get_or xs (k + n) d) (get_or xs ((k + n) + 1) d) (later_on xs sorted n k d (omega (arith, low))) (sorted (k + n) d (omega (arith, low))))

-- those before one stand before it, or are it
pub behind_places : (xs : List Rid) (i : ℕ) (d : Rid) → AreSortedPlaces xs → i < length xs → (place : Rid) → Contains (take i xs) place → IsNoLater place (get_or xs i d)
behind_places xs i d sorted within place (k, low, at) =
    let before : k < i = omega (arith, low, length-take-le i xs (omega (arith, within))) in
    let far : k + (i - k) ≡ i = omega (arith, before) in
    let is : get_or xs k d ≡ place = get_or_default xs k d place (omega (arith, before, within)) ∙ (sym (get_or-take i xs k place before) ∙ at) in
    subst (λ j. IsNoLater place (get_or xs j d)) far
    (subst (λ r. IsNoLater r (get_or xs (k + (i - k)) d)) is (later_on xs sorted (i - k) k d (omega (arith, before, within))))

-- ---- the last

-- a place that stands behind all, and isn't the last, stands behind the last
pub before_last : (xs : List Rid) (rid : Rid) → ((n : ℕ) → suc n ≡ length xs → slice_get xs n ≡ Some rid → ⊥) → ((place : Rid) → Contains xs place → IsNoLater place rid) → LastIsBefore IsEarlier rid xs
before_last [] rid other behind = tt
before_last (x ∷ []) rid other behind = elim (behind x (0, omega arith, refl)) [
  | inl earlier ↦ earlier
  | inr same ↦ absurd (other 0 refl (ap Some same))
]
before_last (x ∷ y ∷ xs) rid other behind =
    before_last (y ∷ xs) rid (λ n e at. other (suc n) (ap suc e) at) (λ place there. behind place (suc there.0, omega (arith, there.1), there.2))

-- ---- members

-- a place put last is one more
pub put_one : (xs : List Rid) (rid place : Rid) → Contains (xs ++ rid ∷ []) place ↔ (Contains xs place ⊎ (place ≡ rid))
put_one xs rid place = (
  λ there. elim (Contains-append_cases xs (rid ∷ []) place there) [
    | inl before ↦ inl before
    | inr last ↦ inr (only last)
  ],
  λ either. elim either [
    | inl before ↦ Contains-append_left xs (rid ∷ []) place before
    | inr is ↦ Contains-append_right xs (rid ∷ []) place (0, omega arith, sym is)
  ],
)
  where
    only : Contains (rid ∷ []) place → place ≡ rid
    only (zero, low, at) = sym at
    only (suc k, low, at) = absurd (omega (arith, low))

-- ---- the loop

-- the places so far, and one more
pub one_more : (xs : List Rid) (i : ℕ) (d : Rid) (places now : List Rid) → i < length xs → ((rid : Rid) → Contains places rid ↔ Contains (take i xs) rid)
    → ((rid : Rid) → Contains now rid ↔ (Contains places rid ⊎ (rid ≡ get_or xs i d))) → (rid : Rid) → Contains now rid ↔ Contains (take (i + 1) xs) rid
one_more xs i d places now within so_far made rid =
    let last = put_one (take i xs) (get_or xs i d) rid in
    let whole : take (i + 1) xs ≡ take i xs ++ get_or xs i d ∷ [] = take_more xs i d within in (
      λ there. subst (λ rs. Contains rs rid) (sym whole) (elim ((made rid).0 there) [
        | inl before ↦ last.1 (inl ((so_far rid).0 before))
        | inr is ↦ last.1 (inr is)
      ]),
      λ there. elim (last.0 (subst (λ rs. Contains rs rid) whole there)) [
        | inl before ↦ (made rid).1 (inl ((so_far rid).1 before))
        | inr is ↦ (made rid).1 (inr is)
      ],
    )

-- all of them
pub all_places : (rids sorted : List Rid) (i : ℕ) (places : List Rid) → IsPermutation rids sorted → i ≡ length sorted → ((rid : Rid) → Contains places rid ↔ Contains (take i sorted) rid)
    → (rid : Rid) → Contains places rid ↔ Contains rids rid
all_places rids sorted i places moved whole so_far rid =
    let all : take i sorted ≡ sorted = ap (λ n. take n sorted) whole ∙ take-length sorted in (
      λ there. Contains-permutation sorted rids rid (IsPermutation-sym rids sorted moved) (subst (λ rs. Contains rs rid) all ((so_far rid).0 there)),
      λ there. (so_far rid).1 (subst (λ rs. Contains rs rid) (sym all) (Contains-permutation rids sorted rid moved there)),
    )
