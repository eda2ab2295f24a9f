-- Numbers that rise, or stand still, each once.
use Rattle.std.proofs.Common.{◌≡◌, ◌<◌, ◌≤◌, ◌+◌, ◌-◌, ℕ, List, [], ◌∷◌, ◌++◌, length, get_or, take, refl, inl, inr, arith, sym, subst}
use Rattle.std.specs.Prelude.{AllPairs, Contains, IsPermutation}
use Rattle.std.proofs.lemmas.List.{get_or-take, get_or_default, length-take-le, take_all, take_more}
use Rattle.std.proofs.lemmas.List.Elements.{Contains-append_cases, Contains-append_left, Contains-append_right}
use Rattle.std.proofs.lemmas.List.Sorted.{Contains-permutation, IsPermutation-sym}
use Rattle.mdc_values.specs.Rising.{IsLower, IsRising, LastIsBefore}
use Rattle.mdc_values.proofs.RisingLemmas.{IsRising-push}
use Rattle.block_map.proofs.MapLinesLemmas.{contains_cases}
use Rattle.table_scan.specs.Choices.{HaveSameMembers}

-- ---- the same members

-- the only element
only_one : (x y : ℕ) → Contains (x ∷ []) y → x ≡ y
only_one x y there = elim (contains_cases y x [] there) [ inl here ↦ here | inr later ↦ absurd (omega (arith, later.1)) ]

last_there : (xs : List ℕ) (x : ℕ) → Contains (xs ++ x ∷ []) x
last_there xs x = Contains-append_right xs (x ∷ []) x (0, omega arith, refl)

-- a member more in both
same_more : (xs ys : List ℕ) (x : ℕ) → HaveSameMembers xs ys → HaveSameMembers (xs ++ x ∷ []) (ys ++ x ∷ [])
same_more xs ys x same y = (one_way xs ys same, one_way ys xs (λ z. ((same z).1, (same z).0)))
  where
    one_way : (us vs : List ℕ) → HaveSameMembers us vs → Contains (us ++ x ∷ []) y → Contains (vs ++ x ∷ []) y
    one_way us vs are there = elim (Contains-append_cases us (x ∷ []) y there) [
      | inl early ↦ Contains-append_left vs (x ∷ []) y ((are y).0 early)
      | inr last ↦ Contains-append_right vs (x ∷ []) y last
    ]

-- one more in the first that the second has
same_again : (xs ys : List ℕ) (x : ℕ) → HaveSameMembers xs ys → Contains ys x → HaveSameMembers (xs ++ x ∷ []) ys
same_again xs ys x same is_in y = (
  (λ there. elim (Contains-append_cases xs (x ∷ []) y there) [
    | inl early ↦ (same y).0 early
    | inr last ↦ subst (Contains ys) (only_one x y last) is_in
  ]),
  (λ there. Contains-append_left xs (x ∷ []) y ((same y).1 there)),
)

-- the same in another order
pub same_moved : (xs ys zs : List ℕ) → IsPermutation xs ys → HaveSameMembers ys zs → HaveSameMembers xs zs
same_moved xs ys zs moved same x = (
  (λ there. (same x).0 (Contains-permutation xs ys x moved there)),
  (λ there. Contains-permutation ys xs x (IsPermutation-sym xs ys moved) ((same x).1 there)),
)

-- ---- each once

last_before-push : (xs : List ℕ) (y new : ℕ) → y < new → LastIsBefore IsLower new (xs ++ y ∷ [])
last_before-push [] y new below = below
last_before-push (x ∷ []) y new below = below
last_before-push (x ∷ z ∷ xs) y new below = last_before-push (z ∷ xs) y new below

-- these numbers were gone over, of which the lowest that may come next is next
pub record GoesTo (done blocks : List ℕ) (next : ℕ) : Type 0 where
  pub same : HaveSameMembers done blocks
  pub rising : IsRising IsLower blocks
  pub last : (x : ℕ) → next ≤ x → LastIsBefore IsLower x blocks
  pub reached : (x : ℕ) → next ≡ x + 1 → Contains blocks x

pub goes_none : GoesTo [] [] 0
goes_none = record { same = λ x. ((λ there. there), (λ there. there)); rising = tt; last = λ x low. tt; reached = λ x is. absurd (omega (arith, is)) }

-- the next number is a new one
pub goes_more : (numbers blocks : List ℕ) (i next : ℕ) → i < length numbers → next ≤ get_or numbers i 0 → GoesTo (take i numbers) blocks next
    → GoesTo (take (i + 1) numbers) (blocks ++ get_or numbers i 0 ∷ []) (get_or numbers i 0 + 1)
goes_more numbers blocks i next low high goes =
    let x = get_or numbers i 0 in
    subst (λ done. GoesTo done (blocks ++ x ∷ []) (x + 1)) (sym (take_more numbers i 0 low)) (record {
      same = same_more (take i numbers) blocks x goes.same;
      rising = IsRising-push IsLower blocks x goes.rising (goes.last x high);
      last = λ y above. last_before-push blocks x y (omega (arith, above));
      reached = λ y is. let same : x ≡ y = omega (arith, is) in subst (Contains (blocks ++ x ∷ [])) same (last_there blocks x);
    })

-- or the last one again
pub goes_again : (numbers blocks : List ℕ) (i next : ℕ) → AllPairs (λ a b. a ≤ b) numbers → i < length numbers → get_or numbers i 0 < next → GoesTo (take i numbers) blocks next
    → GoesTo (take (i + 1) numbers) blocks next
goes_again numbers blocks i next sorted low below goes =
    let x = get_or numbers i 0 in
    let before : ℕ = next - 1 in
    let next_is : next ≡ before + 1 = omega (arith, below) in
    let is_in : Contains blocks before = goes.reached before next_is in
    let (k, early, at) = (goes.same before).1 is_in in
    let within : k < i = omega (arith, early, length-take-le i numbers (omega (arith, low))) in
    let ordered : get_or numbers k before ≤ get_or numbers i before = sorted k i before within low in
    let same : before ≡ x = omega (arith, below, ordered, next_is, get_or-take i numbers k before within, at, get_or_default numbers i before 0 low) in
    subst (λ done. GoesTo done blocks next) (sym (take_more numbers i 0 low)) (record {
      same = same_again (take i numbers) blocks x goes.same (subst (Contains blocks) same is_in);
      rising = goes.rising;
      last = goes.last;
      reached = goes.reached;
    })

-- all numbers were gone over
pub goes_all : (numbers blocks : List ℕ) (i next : ℕ) → length numbers ≤ i → GoesTo (take i numbers) blocks next → HaveSameMembers numbers blocks
goes_all numbers blocks i next all goes = subst (λ done. HaveSameMembers done blocks) (take_all i numbers all) goes.same
