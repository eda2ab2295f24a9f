-- Rows of a table that lie outside some places, and their values.
use Rattle.std.proofs.Common.{◌≡◌, ◌≢◌, zero, suc, List, [], ◌∷◌, map, Bool, true, false, cond, not, get_or, refl, sym, ap, subst, arith, ◌∙◌, inl, inr}
use Rattle.std.specs.Prelude.{◌↔◌, AllPairs, Contains, IsPermutation, Option, filter}
use Rattle.std.specs.List.{AllByRecursion}
use Rattle.std.proofs.lemmas.Bool.{cases_eq, cases_lt, false≢true}
use Rattle.std.proofs.lemmas.List.{get_or_default}
use Rattle.std.proofs.lemmas.List.Sorted.{Contains-permutation, IsPermutation-sym}
use Rattle.mdc_values.specs.declared.rid.Rid.{Rid}
use Rattle.mdc_values.specs.declared.value.Value.{Value}
use Rattle.mdc_ast.specs.Truth.{qualifies}
use Rattle.mdc_ast.specs.declared.predicate.Pred.{Pred}
use Rattle.mdc_sound.specs.TableRows.{PlacedRow}
use Rattle.mdc_sound.proofs.ElementsLemmas.{each_in, from_map, in_map}
use Rattle.record_index.specs.SoundRows.{LieApart}
use Rattle.unique_keys.specs.Clashes.{AreStaying}

-- ---- those that pass a test

pub in_filter : {X : Type 0} (p : X → Bool) (xs : List X) (x : X) → Contains xs x → p x ≡ true → Contains (filter p xs) x
in_filter p [] x (k, low, at) e = absurd (omega (arith, low))
in_filter p (y ∷ xs) x (zero, low, at) e = subst (λ b. Contains (cond b (y ∷ filter p xs) (filter p xs)) x) (sym (ap p at ∙ e)) (0, omega arith, at)
in_filter p (y ∷ xs) x (suc k, low, at) e = by_test (p y) (in_filter p xs x (k, omega (arith, low), at) e)
  where
    by_test : (b : Bool) → Contains (filter p xs) x → Contains (cond b (y ∷ filter p xs) (filter p xs)) x
    by_test true there = (suc there.0, omega (arith, there.1), there.2)
    by_test false there = there

from_filter : {X : Type 0} (p : X → Bool) (xs : List X) (x : X) → Contains (filter p xs) x → Contains xs x × (p x ≡ true)
from_filter p [] x (k, low, at) = absurd (omega (arith, low))
from_filter p (y ∷ xs) x there = by_test (p y) refl there (from_filter p xs x)
  where
    later : Contains xs x × (p x ≡ true) → Contains (y ∷ xs) x × (p x ≡ true)
    later (at, is) = ((suc at.0, omega (arith, at.1), at.2), is)

    by_test : (b : Bool) → p y ≡ b → Contains (cond b (y ∷ filter p xs) (filter p xs)) x → (Contains (filter p xs) x → Contains xs x × (p x ≡ true)) → Contains (y ∷ xs) x × (p x ≡ true)
    by_test true is (zero, low, at) rest = ((0, omega arith, at), sym (ap p at) ∙ is)
    by_test true is (suc k, low, at) rest = later (rest (k, omega (arith, low), at))
    by_test false is there rest = later (rest there)

all_pass : {X : Type 0} (xs : List X) → filter (λ (x : X). true) xs ≡ xs
all_pass [] = refl
all_pass (x ∷ xs) = ap (λ more. x ∷ more) (all_pass xs)

-- ---- the values of rows that stay

module _ (rows : List PlacedRow) (but : List Rid) (stay : List (List Value)) (is : AreStaying rows but stay) where
  -- the values of a row outside the places are among them
  pub stays_too : (one : PlacedRow) → Contains rows one → (Contains but one.rid → ⊥) → Contains stay one.row.values
  stays_too one there out =
      Contains-permutation (map (λ (one : PlacedRow). one.row.values) (filter is.stays rows)) stay one.row.values is.values
      (in_map (λ (one : PlacedRow). one.row.values) (filter is.stays rows) one (in_filter is.stays rows one there ((is.outside one there).1 out)))

  -- and each of them are those of such a row
  pub of_staying : (values : List Value) → Contains stay values → (one : PlacedRow) × Contains rows one × (Contains but one.rid → ⊥) × (one.row.values ≡ values)
  of_staying values there =
      let from = from_map (λ (one : PlacedRow). one.row.values) (filter is.stays rows) values
      (Contains-permutation stay (map (λ (one : PlacedRow). one.row.values) (filter is.stays rows)) values (IsPermutation-sym (map (λ (one : PlacedRow). one.row.values) (filter is.stays rows)) stay is.values) there) in
      let kept = from_filter is.stays rows from.0 from.1 in
      (from.0, kept.0, (is.outside from.0 kept.0).0 kept.1, from.2)

  -- what holds of the values of each row holds of each that stays
  pub each_staying : (P : List Value → Type 0) → ((one : PlacedRow) → Contains rows one → (Contains but one.rid → ⊥) → P one.row.values) → AllByRecursion P stay
  each_staying P each = each_in P stay (λ values there.
      let one = of_staying values there in
      subst P one.3 (each one.0 one.1 one.2))

-- ---- which rows stay

-- all of them, where none goes
pub all_stay : (rows : List PlacedRow) (stay : List (List Value)) → IsPermutation (map (λ one. one.row.values) rows) stay → AreStaying rows [] stay
all_stay rows stay same = record {
  stays = λ one. true;
  outside = λ one there. (λ yes among. omega (arith, among.1), λ out. refl);
  values = subst (λ ones. IsPermutation (map (λ (one : PlacedRow). one.row.values) ones) stay) (sym (all_pass rows)) same;
}

-- rows in one place are the same
one_place : (rows : List PlacedRow) → AllPairs (λ a b. a.rid ≢ b.rid) rows → (a b : PlacedRow) → Contains rows a → Contains rows b → a.rid ≡ b.rid → a ≡ b
one_place rows apart a b (i, low, at) (j, low_too, at_too) same = elim (cases_eq i j) [
  | inl here ↦ sym at ∙ (get_or_default rows i a b low ∙ (ap (λ k. get_or rows k b) here ∙ at_too))
  | inr other ↦ elim (cases_lt i j) [
    | inl before ↦ absurd (apart i j a before low_too (ap (λ (one : PlacedRow). one.rid) at ∙ (same ∙ sym (ap (λ (one : PlacedRow). one.rid) (get_or_default rows j a b low_too ∙ at_too)))))
    | inr behind ↦ absurd (apart j i a (omega (arith, behind, other)) low (ap (λ (one : PlacedRow). one.rid) (get_or_default rows j a b low_too ∙ at_too) ∙ (sym same ∙ sym (ap (λ (one : PlacedRow). one.rid) at))))
  ]
]

-- of rows that lie apart those that don't qualify, where the places of all that do are left
pub unqualified_stay : (pred : Option Pred) (rows : List PlacedRow) (but : List Rid) (stay : List (List Value)) → LieApart rows
    → ((rid : Rid) → Contains but rid ↔ Contains (map (λ one. one.rid) (filter (λ one. qualifies pred one.row.values) rows)) rid)
    → IsPermutation (map (λ one. one.row.values) (filter (λ one. not (qualifies pred one.row.values)) rows)) stay → AreStaying rows but stay
unqualified_stay pred rows but stay lie left same = record {
  stays = λ one. not (qualifies pred one.row.values);
  outside = λ one there. (λ unqualified. outside one there unqualified, λ out. by_test one there (qualifies pred one.row.values) refl out);
  values = same;
}
  where
    outside : (one : PlacedRow) → Contains rows one → not (qualifies pred one.row.values) ≡ true → Contains but one.rid → ⊥
    outside one there unqualified among =
        let from = from_map (λ (one : PlacedRow). one.rid) (filter (λ (one : PlacedRow). qualifies pred one.row.values) rows) one.rid ((left one.rid).0 among) in
        let kept = from_filter (λ (one : PlacedRow). qualifies pred one.row.values) rows from.0 from.1 in
        let is : from.0 ≡ one = one_place rows lie.apart from.0 one kept.0 there from.2 in
        false≢true (sym (ap not (sym (ap (λ (one : PlacedRow). qualifies pred one.row.values) is) ∙ kept.1)) ∙ unqualified)

    by_test : (one : PlacedRow) → Contains rows one → (b : Bool) → qualifies pred one.row.values ≡ b → (Contains but one.rid → ⊥) → not b ≡ true
    by_test one there true is out =
        absurd (out ((left one.rid).1 (in_map (λ (one : PlacedRow). one.rid) (filter (λ (one : PlacedRow). qualifies pred one.row.values) rows) one (in_filter (λ (one : PlacedRow). qualifies pred one.row.values) rows one there is))))
    by_test one there false is out = refl
