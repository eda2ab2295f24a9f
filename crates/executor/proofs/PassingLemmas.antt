-- Elements of lists that pass tests.
use Rattle.std.proofs.Common.{◌≡◌, ◌∙◌, inl, inr, List, [], ◌∷◌, ◌++◌, Bool, true, false, ap, arith, refl, subst, sym}
use Rattle.std.specs.Prelude.{◌||◌, Contains, IsPermutation, filter}
use Rattle.std.proofs.lemmas.Bool.{cases_Bool, false≢true}
use Rattle.std.proofs.lemmas.List.Elements.{All-contains, All-contains_itself, All-filter, filter_passes}
use Rattle.std.proofs.lemmas.List.Sorted.{IsPermutation-append, IsPermutation-middle, IsPermutation-refl, IsPermutation-sym, IsPermutation-trans}
use Rattle.block_map.proofs.MapLinesLemmas.{contains_cases, contains_more}
use Rattle.table_scan.proofs.ScanningLemmas.{filter_first, filter_past}

module _ {X : Type 0} where
  pub filter_none : (p : X → Bool) (xs : List X) → ((x : X) → Contains xs x → p x ≡ false) → filter p xs ≡ []
  filter_none p [] none = refl
  filter_none p (x ∷ xs) none = filter_past p x xs (none x (0, omega arith, refl)) ∙ filter_none p xs (λ y there. none y (contains_more y x xs there))

  pub filter_all : (xs : List X) → filter (λ x. true) xs ≡ xs
  filter_all [] = refl
  filter_all (x ∷ xs) = ap (λ l. x ∷ l) (filter_all xs)

  pub filter_same : (p q : X → Bool) (xs : List X) → ((x : X) → Contains xs x → p x ≡ q x) → filter p xs ≡ filter q xs
  filter_same p q [] same = refl
  filter_same p q (x ∷ xs) same =
      let is = same x (0, omega arith, refl) in
      let rest = filter_same p q xs (λ y there. same y (contains_more y x xs there)) in
      elim (cases_Bool (q x)) [
        | inl yes_q ↦ filter_first p x xs (is ∙ yes_q) ∙ (ap (λ l. x ∷ l) rest ∙ sym (filter_first q x xs yes_q))
        | inr no_q ↦ filter_past p x xs (is ∙ no_q) ∙ (rest ∙ sym (filter_past q x xs no_q))
      ]

  -- those that pass one of two tests, which none passes both of
  pub filter_split : (p q r : X → Bool) (xs : List X) → ((x : X) → Contains xs x → r x ≡ (p x || q x)) → ((x : X) → Contains xs x → p x ≡ true → q x ≡ false) → IsPermutation (filter r xs) (filter p xs ++ filter q xs)
  filter_split p q r [] either apart = IsPermutation-refl []
  filter_split p q r (x ∷ xs) either apart =
      let is = either x (0, omega arith, refl) in
      let rest = filter_split p q r xs (λ y there. either y (contains_more y x xs there)) (λ y there. apart y (contains_more y x xs there)) in
      let more = IsPermutation-append (x ∷ []) (x ∷ []) (filter r xs) (filter p xs ++ filter q xs) (IsPermutation-refl (x ∷ [])) rest in
      elim (cases_Bool (p x)) [
        | inl yes_p ↦
            let no_q = apart x (0, omega arith, refl) yes_p in
            subst (λ l. IsPermutation l (filter p (x ∷ xs) ++ filter q (x ∷ xs))) (sym (filter_first r x xs (is ∙ ap (λ b. b || q x) yes_p)))
            (subst (λ l. IsPermutation (x ∷ filter r xs) (l ++ filter q (x ∷ xs))) (sym (filter_first p x xs yes_p))
            (subst (λ l. IsPermutation (x ∷ filter r xs) ((x ∷ filter p xs) ++ l)) (sym (filter_past q x xs no_q)) more))
        | inr no_p ↦ elim (cases_Bool (q x)) [
          | inl yes_q ↦
              subst (λ l. IsPermutation l (filter p (x ∷ xs) ++ filter q (x ∷ xs))) (sym (filter_first r x xs (is ∙ (ap (λ b. b || q x) no_p ∙ yes_q))))
              (subst (λ l. IsPermutation (x ∷ filter r xs) (l ++ filter q (x ∷ xs))) (sym (filter_past p x xs no_p))
              (subst (λ l. IsPermutation (x ∷ filter r xs) (filter p xs ++ l)) (sym (filter_first q x xs yes_q))
              (IsPermutation-trans (x ∷ filter r xs) (x ∷ (filter p xs ++ filter q xs)) (filter p xs ++ x ∷ filter q xs) more
              (IsPermutation-sym (filter p xs ++ x ∷ filter q xs) (x ∷ (filter p xs ++ filter q xs)) (IsPermutation-middle (filter p xs) x (filter q xs))))))
          | inr no_q ↦
              subst (λ l. IsPermutation l (filter p (x ∷ xs) ++ filter q (x ∷ xs))) (sym (filter_past r x xs (is ∙ (ap (λ b. b || q x) no_p ∙ no_q))))
              (subst (λ l. IsPermutation (filter r xs) (l ++ filter q (x ∷ xs))) (sym (filter_past p x xs no_p))
              (subst (λ l. IsPermutation (filter r xs) (filter p xs ++ l)) (sym (filter_past q x xs no_q)) rest))
        ]
      ]

-- an element that passed is one of all, and one of all that passes is among them
module _ {X : Type 0} (p : X → Bool) where
  pub of_kept : (xs : List X) (z : X) → Contains (filter p xs) z → Contains xs z × (p z ≡ true)
  of_kept xs z there =
      (All-contains (Contains xs) (filter p xs) z (All-filter p (Contains xs) xs (All-contains_itself xs)) there, All-contains (λ x. p x ≡ true) (filter p xs) z (filter_passes p xs) there)

  pub is_kept : (xs : List X) (z : X) → Contains xs z → p z ≡ true → Contains (filter p xs) z
  is_kept [] z there passes = there
  is_kept (x ∷ xs) z there passes = elim (contains_cases z x xs there) [
    | inl first ↦ subst (λ l. Contains l z) (sym (filter_first p x xs (ap p first ∙ passes))) (0, omega arith, first)
    | inr later ↦ elim (cases_Bool (p x)) [
      | inl yes_x ↦ subst (λ l. Contains l z) (sym (filter_first p x xs yes_x)) (contains_more z x (filter p xs) (is_kept xs z later passes))
      | inr no_x ↦ subst (λ l. Contains l z) (sym (filter_past p x xs no_x)) (is_kept xs z later passes)
    ]
  ]

-- those of the elements that pass a second test are those of all, where each of these passes the first
pub kept_anyway : {X : Type 0} (p q : X → Bool) (xs : List X) → ((x : X) → Contains xs x → p x ≡ true → q x ≡ true) → filter p (filter q xs) ≡ filter p xs
kept_anyway p q [] all = refl
kept_anyway p q (x ∷ xs) all =
    let rest = kept_anyway p q xs (λ y there. all y (contains_more y x xs there)) in
    elim (cases_Bool (q x)) [
      | inl yes_q ↦ elim (cases_Bool (p x)) [
        | inl yes_p ↦ ap (filter p) (filter_first q x xs yes_q) ∙ (filter_first p x (filter q xs) yes_p ∙ (ap (λ l. x ∷ l) rest ∙ sym (filter_first p x xs yes_p)))
        | inr no_p ↦ ap (filter p) (filter_first q x xs yes_q) ∙ (filter_past p x (filter q xs) no_p ∙ (rest ∙ sym (filter_past p x xs no_p)))
      ]
      | inr no_q ↦
          let no_p : p x ≡ false = elim (cases_Bool (p x)) [ inl yes_p ↦ absurd (false≢true (sym no_q ∙ all x (0, omega arith, refl) yes_p)) | inr no_p ↦ no_p ] in
          ap (filter p) (filter_past q x xs no_q) ∙ (rest ∙ sym (filter_past p x xs no_p))
    ]
