-- Blocks and places that stand in lists, and elements of lists that differ.
use Rattle.std.proofs.Common.{◌≡◌, ◌⊎◌, inl, inr, ◌<◌, ◌==◌, ℕ, zero, suc, List, [], ◌∷◌, Bool, true, false, refl, ap, arith, sym, ◌∙◌, subst, get_or, length}
use Rattle.std.specs.Prelude.{◌||◌, AllPairs, Contains, Some, slice_get, slice_index_or}
use Rattle.std.proofs.lemmas.Bool.{and_from, and_parts, cases_Bool, cases_eq, eq-eqb, eqb-true, ne_eqb, or_left, or_right}
use Rattle.std.proofs.lemmas.List.{get_or_default}
use Rattle.mdc_values.specs.declared.rid.Rid.{Rid}
use Rattle.block_map.proofs.MapLinesLemmas.{contains_cases, contains_more}
use Rattle.block_lists.specs.Places.{has_number, has_rid, same_rid}
use Rattle.block_lists.proofs.PartLemmas.{lower_or_not}

-- two tests that say the same
pub same_test : (p q : Bool) → (p ≡ true → q ≡ true) → (q ≡ true → p ≡ true) → p ≡ q
same_test true q forth back = sym (forth refl)
same_test false true forth back = back refl
same_test false false forth back = refl

-- ---- numbers

pub number_in : (numbers : List ℕ) (n : ℕ) → has_number numbers n ≡ true → Contains numbers n
number_in [] n h = cc
number_in (m ∷ numbers) n h = elim (cases_eq m n) [
  | inl e ↦ (0, omega arith, e)
  | inr other ↦ contains_more n m numbers (number_in numbers n (sym (ap (λ b. b || has_number numbers n) (ne_eqb m n other)) ∙ h))
]

pub in_numbers : (numbers : List ℕ) (n : ℕ) → Contains numbers n → has_number numbers n ≡ true
in_numbers [] n (k, l, e) = absurd (omega (arith, l))
in_numbers (m ∷ numbers) n there = elim (contains_cases n m numbers there) [
  | inl same ↦ or_left (m == n) (has_number numbers n) (eq-eqb m n same)
  | inr more ↦ or_right (m == n) (has_number numbers n) (in_numbers numbers n more)
]

-- ---- places

pub one_rid : (a b : Rid) → same_rid a b ≡ true → a ≡ b
one_rid a b h =
    let both = and_parts (a.block == b.block) (a.slot == b.slot) h in
    ap (λ n. record { block = n; slot = a.slot }) (eqb-true a.block b.block both.0) ∙ ap (λ n. record { block = b.block; slot = n }) (eqb-true a.slot b.slot both.1)

pub rid_in : (rids : List Rid) (rid : Rid) → has_rid rids rid ≡ true → Contains rids rid
rid_in [] rid h = cc
rid_in (other ∷ rids) rid h = elim (cases_Bool (same_rid other rid)) [
  | inl is ↦ (0, omega arith, one_rid other rid is)
  | inr not ↦ contains_more rid other rids (rid_in rids rid (sym (ap (λ b. b || has_rid rids rid) not) ∙ h))
]

pub in_rids : (rids : List Rid) (rid : Rid) → Contains rids rid → has_rid rids rid ≡ true
in_rids [] rid (k, l, e) = absurd (omega (arith, l))
in_rids (other ∷ rids) rid there = elim (contains_cases rid other rids there) [
  | inl same ↦
      or_left (same_rid other rid) (has_rid rids rid)
      (and_from (other.block == rid.block) (other.slot == rid.slot) (eq-eqb other.block rid.block (ap (λ (r : Rid). r.block) same)) (eq-eqb other.slot rid.slot (ap (λ (r : Rid). r.slot) same)))
  | inr more ↦ or_right (same_rid other rid) (has_rid rids rid) (in_rids rids rid more)
]

-- ---- pairs of a list

-- of any two elements of a list, they are one, or the one stands before the other
pub either_pair : {X : Type 0} (R : X → X → Type 0) (xs : List X) (a b : X) → AllPairs R xs → Contains xs a → Contains xs b → (a ≡ b) ⊎ (R a b ⊎ R b a)
either_pair R xs a b pairs (i, li, ei) (j, lj, ej) = elim (lower_or_not i j) [
  | inl lt ↦ inr (inl (subst (λ y. R a y) (get_or_default xs j a b lj ∙ ej) (subst (λ x. R x (get_or xs j a)) ei (pairs i j a lt lj))))
  | inr le ↦ elim (lower_or_not j i) [
    | inl lt ↦ inr (inr (subst (λ y. R b y) (get_or_default xs i b a li ∙ ei) (subst (λ x. R x (get_or xs i b)) ej (pairs j i b lt li))))
    | inr ge ↦
        let same : i ≡ j = omega (arith, le, ge) in
        inl (sym ei ∙ (ap (λ k. get_or xs k a) same ∙ (get_or_default xs j a b lj ∙ ej)))
  ]
]

-- ---- places of a list

pub get_at : {X : Type 0} (xs : List X) (i : ℕ) (d : X) → i < length xs → slice_get xs i ≡ Some (slice_index_or xs i d)
get_at [] i d l = absurd (omega (arith, l))
get_at (x ∷ xs) zero d l = refl
get_at (x ∷ xs) (suc i) d l = get_at xs i d (omega (arith, l))

pub get_in : {X : Type 0} (xs : List X) (i : ℕ) (d : X) → i < length xs → Contains xs (slice_index_or xs i d)
get_in [] i d l = absurd (omega (arith, l))
get_in (x ∷ xs) zero d l = (0, omega arith, refl)
get_in (x ∷ xs) (suc i) d l = contains_more (slice_index_or xs i d) x xs (get_in xs i d (omega (arith, l)))

-- an element that a loop comes to
pub item_in : {X : Type 0} (all items : List X) (i : ℕ) (x : X) → items ≡ all → i < length items → x ≡ get_or items i x → Contains all x
item_in all items i x are low is = subst (λ l. Contains l x) are (i, low, sym is)
