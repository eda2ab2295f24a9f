-- The places of sorted numbers, put into a rising list, each once.
use Rattle.std.proofs.Common.{◌≡◌, ◌<◌, ◌≤◌, ◌+◌, ◌^◌, ℕ, zero, suc, List, [], ◌∷◌, ◌++◌, refl, ap, arith, sym, ◌∙◌, subst, get_or, length}
use Rattle.std.specs.Prelude.{◌↔◌, Contains, map}
use Rattle.std.specs.List.{AllByRecursion}
use Rattle.std.specs.List.Sorted.{IsPermutation}
use Rattle.std.proofs.lemmas.List.{map-append}
use Rattle.std.proofs.lemmas.List.Sorted.{Contains-permutation, IsPermutation-sym}
use Rattle.mdc_values.specs.Rising.{IsEarlier, IsLower, LastIsBefore}
use Rattle.mdc_values.specs.declared.rid.Rid.{Rid}
use Rattle.block_index.proofs.RisingLemmas.{AreSorted, IsRisen, risen_again, risen_all, risen_next, risen_none}
use Rattle.record_index.specs.FoundRids.{IsRid, rid_of_number}
use Rattle.record_index.proofs.PlacesLemmas.{earlier, is_rid}

-- ---- places of rising numbers

-- what stands behind all of some numbers stands behind their places
pub behind_rids : (numbers : List ℕ) (n : ℕ) → LastIsBefore IsLower n numbers → LastIsBefore IsEarlier (rid_of_number n) (map rid_of_number numbers)
behind_rids [] n l = tt
behind_rids (x ∷ []) n l = earlier x n l
behind_rids (x ∷ y ∷ xs) n l = behind_rids (y ∷ xs) n l

pub in_map : {A B : Type 0} (f : A → B) (xs : List A) (x : A) → Contains xs x → Contains (map f xs) (f x)
in_map f [] x (k, l, e) = absurd (omega (arith, l))
in_map f (y ∷ ys) x (zero, l, e) = (zero, omega arith, ap f e)
in_map f (y ∷ ys) x (suc k, l, e) = let r = in_map f ys x (k, omega (arith, l), e) in (suc r.0, omega (arith, r.1), r.2)

pub from_map : {A B : Type 0} (f : A → B) (xs : List A) (z : B) → Contains (map f xs) z → (x : A) × Contains xs x × (f x ≡ z)
from_map f [] z (k, l, e) = absurd (omega (arith, l))
from_map f (y ∷ ys) z (zero, l, e) = (y, (zero, omega arith, refl), e)
from_map f (y ∷ ys) z (suc k, l, e) = let r = from_map f ys z (k, omega (arith, l), e) in let at = r.1 in (r.0, (suc at.0, omega (arith, at.1), at.2), r.2)

-- ---- the loop

-- the places of the first i of them are in the rising list
pub record IsRisenRids (numbers : List ℕ) (i from : ℕ) (rids : List Rid) : Type 0 where
  pub so_far : List ℕ
  pub rids_are : rids ≡ map rid_of_number so_far
  pub risen : IsRisen numbers i from so_far

pub rids_none : (numbers : List ℕ) (rids : List Rid) → rids ≡ [] → IsRisenRids numbers 0 0 rids
rids_none numbers rids is = record { so_far = []; rids_are = is; risen = risen_none numbers [] refl }

module _ (numbers : List ℕ) (i from : ℕ) (rids : List Rid) (so : IsRisenRids numbers i from rids) where
  pub rids_behind : (n : ℕ) → from ≤ n → LastIsBefore IsEarlier (rid_of_number n) rids
  rids_behind n high = subst (LastIsBefore IsEarlier (rid_of_number n)) (sym so.rids_are) (behind_rids so.so_far n (so.risen.behind n high))

  module _ (sorted : AreSorted numbers) (within : i < length numbers) where
    pub rids_next : (rids_now : List Rid) → from ≤ get_or numbers i 0 → rids_now ≡ rids ++ rid_of_number (get_or numbers i 0) ∷ [] → IsRisenRids numbers (i + 1) (get_or numbers i 0 + 1) rids_now
    rids_next rids_now high now = record {
      so_far = so.so_far ++ get_or numbers i 0 ∷ [];
      rids_are = now ∙ (ap (λ rs. rs ++ rid_of_number (get_or numbers i 0) ∷ []) so.rids_are ∙ sym (map-append rid_of_number so.so_far (get_or numbers i 0 ∷ [])));
      risen = risen_next numbers i from so.so_far so.risen sorted within (so.so_far ++ get_or numbers i 0 ∷ []) high refl;
    }

    pub rids_again : get_or numbers i 0 < from → IsRisenRids numbers (i + 1) from rids
    rids_again low = record { so_far = so.so_far; rids_are = so.rids_are; risen = risen_again numbers i from so.so_far so.risen sorted within low }

-- all of them are
pub rids_all : (numbers sorted : List ℕ) (i from : ℕ) (rids : List Rid) → IsPermutation numbers sorted → i ≡ length sorted → IsRisenRids sorted i from rids → (rid : Rid) → Contains rids rid ↔ Contains (map rid_of_number numbers) rid
rids_all numbers sorted i from rids moved whole so rid =
    let all = risen_all numbers sorted i from so.so_far moved whole so.risen in (
      λ has. let r = from_map rid_of_number so.so_far rid (subst (λ rs. Contains rs rid) so.rids_are has) in
          subst (Contains (map rid_of_number numbers)) r.2 (in_map rid_of_number numbers r.0 ((all r.0).0 r.1)),
      λ has. let r = from_map rid_of_number numbers rid has in
          subst (λ rs. Contains rs rid) (sym so.rids_are) (subst (Contains (map rid_of_number so.so_far)) r.2 (in_map rid_of_number so.so_far r.0 ((all r.0).1 r.1))),
    )

-- ---- small numbers

pub small_of : (numbers : List ℕ) (n : ℕ) → AllByRecursion (λ rid_number. rid_number < 2 ^ 48) numbers → Contains numbers n → n < 2 ^ 48
small_of [] n all (k, l, e) = absurd (omega (arith, l))
small_of (x ∷ xs) n all (zero, l, e) = subst (λ m. m < 2 ^ 48) e all.0
small_of (x ∷ xs) n all (suc k, l, e) = small_of xs n all.1 (k, omega (arith, l), e)

-- sorted ones are still small
pub small_sorted : (numbers sorted : List ℕ) (i : ℕ) → IsPermutation numbers sorted → AllByRecursion (λ rid_number. rid_number < 2 ^ 48) numbers → i < length sorted → get_or sorted i 0 < 2 ^ 48
small_sorted numbers sorted i moved small within =
    small_of numbers (get_or sorted i 0) small (Contains-permutation sorted numbers (get_or sorted i 0) (IsPermutation-sym numbers sorted moved) (here sorted i within))
  where
    here : (xs : List ℕ) (i : ℕ) → i < length xs → Contains xs (get_or xs i 0)
    here [] i l = absurd (omega (arith, l))
    here (x ∷ xs) zero l = (zero, omega arith, refl)
    here (x ∷ xs) (suc i) l = let r = here xs i (omega (arith, l)) in (suc r.0, omega (arith, r.1), r.2)

-- the places of small numbers are places
pub places_risen : (numbers sorted : List ℕ) (i from : ℕ) (rids : List Rid) → IsPermutation numbers sorted → i ≡ length sorted → AllByRecursion (λ rid_number. rid_number < 2 ^ 48) numbers → IsRisenRids sorted i from rids → (rid : Rid) → Contains rids rid → IsRid rid
places_risen numbers sorted i from rids moved whole small so rid has =
    let r = from_map rid_of_number numbers rid ((rids_all numbers sorted i from rids moved whole so rid).0 has) in
    subst IsRid r.2 (is_rid r.0 (small_of numbers r.0 small r.1))
