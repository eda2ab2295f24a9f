-- Lists by a number: in order, and determined where no two have the same.
use Rattle.std.proofs.Common.{◌≡◌, ℕ, ◌<◌, ◌≤◌, List, [], ◌∷◌, ◌++◌, map, filter, Bool, true, false, not, cond, ◌==◌, ◌⊎◌, inl, inr, refl, sym, ap, ◌∙◌, subst, arith}
use Rattle.std.specs.Prelude.{nat_lt}
use Rattle.std.specs.List.{AllByRecursion, IsDistinct}
use Rattle.std.specs.List.Sorted.{IsPermutation}
use Rattle.std.proofs.lemmas.Bool.Decides.{nat_tests}
use Rattle.std.proofs.lemmas.List.Elements.{All-from_recursion, recursion_from_All}
use Rattle.std.proofs.lemmas.List.Sorted.{All-permutation, IsPermutation-sym}
use Rattle.row_groups.specs.Ordering.{ordered, placed}

-- an element of a list
abbrev pub IsIn : {X : Type 0} → X → List X → Type 0
IsIn x [] = ⊥
IsIn x (y ∷ ys) = (x ≡ y) ⊎ IsIn x ys

pub in_map : {X Y : Type 0} (f : X → Y) (x : X) (xs : List X) → IsIn x xs → IsIn (f x) (map f xs)
in_map f x [] i = i
in_map f x (y ∷ ys) i = elim i [ inl e ↦ inl (ap f e) | inr j ↦ inr (in_map f x ys j) ]

pub from_map : {X Y : Type 0} (f : X → Y) (y : Y) (xs : List X) → IsIn y (map f xs) → (x : X) × IsIn x xs × (y ≡ f x)
from_map f y [] i = absurd i
from_map f y (x ∷ xs) i = elim i [ inl e ↦ (x, inl refl, e) | inr j ↦ (let there = from_map f y xs j in (there.0, inr there.1, there.2)) ]

-- what holds of all holds of each
pub all_in : {X : Type 0} (P : X → Type 0) (x : X) (xs : List X) → AllByRecursion P xs → IsIn x xs → P x
all_in P x [] all i = absurd i
all_in P x (y ∷ ys) all i = elim i [ inl e ↦ subst P (sym e) all.0 | inr j ↦ all_in P x ys all.1 j ]

-- what is in a list is in it in any order
pub in_permuted : {X : Type 0} (xs ys : List X) → IsPermutation xs ys → (x : X) → IsIn x xs → IsIn x ys
in_permuted {X} xs ys permuted x i =
    all_in (λ y. IsIn y ys) x xs (recursion_from_All (λ y. IsIn y ys) xs (All-permutation (λ y. IsIn y ys) ys xs (IsPermutation-sym xs ys permuted) (All-from_recursion (λ y. IsIn y ys) ys (all_itself ys)))) i
  where
    all_itself : (zs : List X) → AllByRecursion (λ z. IsIn z zs) zs
    all_itself [] = tt
    all_itself (z ∷ zs) = (inl refl, later zs (all_itself zs))
      where
        later : (ws : List X) → AllByRecursion (λ w. IsIn w zs) ws → AllByRecursion (λ w. (w ≡ z) ⊎ IsIn w zs) ws
        later [] all = tt
        later (w ∷ ws) all = (inr all.0, later ws all.1)

module _ {X : Type 0} (number : X → ℕ) where
  abbrev lower : X → X → Bool
  lower a b = nat_lt (number a) (number b)

  -- what comes later stands behind those with its number
  abbrev no_higher : X → X → Bool
  no_higher a b = not (nat_lt (number b) (number a))

  abbrev pub Rises : List X → Type 0
  Rises [] = Unit {0}
  Rises (x ∷ xs) = AllByRecursion (λ y. number x ≤ number y) xs × Rises xs

  abbrev pub RisesStrictly : List X → Type 0
  RisesStrictly [] = Unit {0}
  RisesStrictly (x ∷ xs) = AllByRecursion (λ y. number x < number y) xs × RisesStrictly xs

  all_placed : (P : X → Type 0) (x : X) (ys : List X) → P x → AllByRecursion P ys → AllByRecursion P (placed lower x ys)
  all_placed P x [] here all = (here, tt)
  all_placed P x (y ∷ ys) here all = at (lower y x) (all_placed P x ys here all.1)
    where
      at : (b : Bool) → AllByRecursion P (placed lower x ys) → AllByRecursion P (cond b (y ∷ placed lower x ys) (x ∷ (y ∷ ys)))
      at true rest = (all.0, rest)
      at false rest = (here, all)

  pub all_ordered : (P : X → Type 0) (xs : List X) → AllByRecursion P xs → AllByRecursion P (ordered lower xs)
  all_ordered P [] all = tt
  all_ordered P (x ∷ xs) all = all_placed P x (ordered lower xs) all.0 (all_ordered P xs all.1)

  all_above : (n m : ℕ) (xs : List X) → n ≤ m → AllByRecursion (λ y. m ≤ number y) xs → AllByRecursion (λ y. n ≤ number y) xs
  all_above n m [] le all = tt
  all_above n m (x ∷ xs) le all = (omega (arith, le, all.0), all_above n m xs le all.1)

  all_over : (n m : ℕ) (xs : List X) → n < m → AllByRecursion (λ y. m ≤ number y) xs → AllByRecursion (λ y. n < number y) xs
  all_over n m [] lt all = tt
  all_over n m (x ∷ xs) lt all = (omega (arith, lt, all.0), all_over n m xs lt all.1)

  all_past : (n m : ℕ) (xs : List X) → n ≤ m → AllByRecursion (λ y. m < number y) xs → AllByRecursion (λ y. n < number y) xs
  all_past n m [] le all = tt
  all_past n m (x ∷ xs) le all = (omega (arith, le, all.0), all_past n m xs le all.1)

  rises_placed : (x : X) (ys : List X) → Rises ys → Rises (placed lower x ys)
  rises_placed x [] up = (tt, tt)
  rises_placed x (y ∷ ys) up = at (lower y x) refl (rises_placed x ys up.1)
    where
      at : (b : Bool) → lower y x ≡ b → Rises (placed lower x ys) → Rises (cond b (y ∷ placed lower x ys) (x ∷ (y ∷ ys)))
      at true e rest = let lt : number y < number x = grind (arith, nat_tests) in (all_placed (λ z. number y ≤ number z) x ys (omega (arith, lt)) up.0, rest)
      at false e rest = let le : number x ≤ number y = grind (arith, nat_tests) in ((le, all_above (number x) (number y) ys le up.0), up)

  pub rises_ordered : (xs : List X) → Rises (ordered lower xs)
  rises_ordered [] = tt
  rises_ordered (x ∷ xs) = rises_placed x (ordered lower xs) (rises_ordered xs)

  -- ---- one more at the end

  swapped : (x r : X) (ys : List X) → placed lower x (placed no_higher r ys) ≡ placed no_higher r (placed lower x ys)
  swapped x r [] = at (lower r x)
    where
      at : (b : Bool) → cond b (r ∷ x ∷ []) (x ∷ r ∷ []) ≡ cond (not b) (x ∷ r ∷ []) (r ∷ x ∷ [])
      at true = refl
      at false = refl
  swapped x r (y ∷ ys) = at (lower r y) (lower y x) (lower r x) refl refl refl (swapped x r ys)
    where
      at : (b c d : Bool) → lower r y ≡ b → lower y x ≡ c → lower r x ≡ d → placed lower x (placed no_higher r ys) ≡ placed no_higher r (placed lower x ys)
          → placed lower x (placed no_higher r (y ∷ ys)) ≡ placed no_higher r (placed lower x (y ∷ ys))
      at false true d e f g rest = rw (e, f, e) (ap (λ zs. y ∷ zs) rest)
      at false false true e f g rest = absurd (grind (arith, nat_tests))
      at false false false e f g rest = rw (e, f, g, e) refl
      at true true true e f g rest = rw (e, f, g, e) refl
      at true true false e f g rest = absurd (grind (arith, nat_tests))
      at true false true e f g rest = rw (e, f, g) refl
      at true false false e f g rest = rw (e, f, g, e) refl

  pub ordered_more : (xs : List X) (r : X) → ordered lower (xs ++ r ∷ []) ≡ placed no_higher r (ordered lower xs)
  ordered_more [] r = refl
  ordered_more (x ∷ xs) r = ap (placed lower x) (ordered_more xs r) ∙ swapped x r (ordered lower xs)

  -- what is lower than all comes first
  placed_first : (x : X) (ys : List X) → AllByRecursion (λ y. number x < number y) ys → placed no_higher x ys ≡ x ∷ ys
  placed_first x [] all = refl
  placed_first x (y ∷ ys) all = let lt : nat_lt (number x) (number y) ≡ true = (let low = all.0 in grind (arith, nat_tests)) in rw lt refl

  all_filter : (P : X → Type 0) (p : X → Bool) (xs : List X) → AllByRecursion P xs → AllByRecursion P (filter p xs)
  all_filter P p [] all = tt
  all_filter P p (x ∷ xs) all = at (p x) (all_filter P p xs all.1)
    where
      at : (b : Bool) → AllByRecursion P (filter p xs) → AllByRecursion P (cond b (x ∷ filter p xs) (filter p xs))
      at true rest = (all.0, rest)
      at false rest = rest

  -- a filter keeps the places
  pub filter_placed : (p : X → Bool) (x : X) (ys : List X) → Rises ys → filter p (placed no_higher x ys) ≡ cond (p x) (placed no_higher x (filter p ys)) (filter p ys)
  filter_placed p x [] up = at (p x)
    where
      at : (b : Bool) → cond b (x ∷ []) [] ≡ cond b (x ∷ []) []
      at b = refl
  filter_placed p x (y ∷ ys) up = at (nat_lt (number x) (number y)) (p x) (p y) refl refl refl (filter_placed p x ys up.1)
    where
      at : (b c d : Bool) → nat_lt (number x) (number y) ≡ b → p x ≡ c → p y ≡ d → filter p (placed no_higher x ys) ≡ cond (p x) (placed no_higher x (filter p ys)) (filter p ys)
          → filter p (placed no_higher x (y ∷ ys)) ≡ cond (p x) (placed no_higher x (filter p (y ∷ ys))) (filter p (y ∷ ys))
      at true true d e f g rest =
          let lt : number x < number y = grind (arith, nat_tests) in
          let first = placed_first x (filter p (y ∷ ys)) (all_filter (λ z. number x < number z) p (y ∷ ys) (lt, all_over (number x) (number y) ys lt up.0)) in
          rw (e, f) (sym first)
      at true false d e f g rest = rw (e, f) refl
      at false true true e f g rest = let r : filter p (placed no_higher x ys) ≡ placed no_higher x (filter p ys) = rest ∙ rw f refl in rw (e, f, g, e) (ap (λ zs. y ∷ zs) r)
      at false true false e f g rest = let r : filter p (placed no_higher x ys) ≡ placed no_higher x (filter p ys) = rest ∙ rw f refl in rw (e, f, g) r
      at false false true e f g rest = let r : filter p (placed no_higher x ys) ≡ filter p ys = rest ∙ rw f refl in rw (e, f, g) (ap (λ zs. y ∷ zs) r)
      at false false false e f g rest = let r : filter p (placed no_higher x ys) ≡ filter p ys = rest ∙ rw f refl in rw (e, f, g) r

  -- ---- where no two have the same number

  abbrev pub Differ : List X → Type 0
  Differ xs = IsDistinct (λ a b. a == b) (map number xs)

  apart_from : (n : ℕ) (xs : List X) → AllByRecursion (λ m. (n == m) ≡ false) (map number xs) → AllByRecursion (λ y. (n == number y) ≡ false) xs
  apart_from n [] all = tt
  apart_from n (x ∷ xs) all = (all.0, apart_from n xs all.1)

  strictly_placed : (x : X) (ys : List X) → RisesStrictly ys → AllByRecursion (λ y. (number x == number y) ≡ false) ys → RisesStrictly (placed lower x ys)
  strictly_placed x [] up apart = (tt, tt)
  strictly_placed x (y ∷ ys) up apart = at (lower y x) refl (strictly_placed x ys up.1 apart.1)
    where
      at : (b : Bool) → lower y x ≡ b → RisesStrictly (placed lower x ys) → RisesStrictly (cond b (y ∷ placed lower x ys) (x ∷ (y ∷ ys)))
      at true e rest = let lt : number y < number x = grind (arith, nat_tests) in (all_placed (λ z. number y < number z) x ys lt up.0, rest)
      at false e rest = let other = apart.0 in let lt : number x < number y = grind (arith, nat_tests) in ((lt, all_past (number x) (number y) ys (omega (arith, lt)) up.0), up)

  pub strictly_ordered : (xs : List X) → Differ xs → RisesStrictly (ordered lower xs)
  unfolding IsDistinct
  strictly_ordered [] differ = tt
  strictly_ordered (x ∷ xs) differ = strictly_placed x (ordered lower xs) (strictly_ordered xs differ.1) (all_ordered (λ y. (number x == number y) ≡ false) xs (apart_from (number x) xs differ.0))

  from_placed : (x z : X) (ys : List X) → IsIn z (placed lower x ys) → (z ≡ x) ⊎ IsIn z ys
  from_placed x z [] i = i
  from_placed x z (y ∷ ys) i = at (lower y x) i (from_placed x z ys)
    where
      at : (b : Bool) → IsIn z (cond b (y ∷ placed lower x ys) (x ∷ (y ∷ ys))) → (IsIn z (placed lower x ys) → (z ≡ x) ⊎ IsIn z ys) → (z ≡ x) ⊎ ((z ≡ y) ⊎ IsIn z ys)
      at true i rest = elim i [ inl e ↦ inr (inl e) | inr j ↦ elim (rest j) [ inl e ↦ inl e | inr k ↦ inr (inr k) ] ]
      at false i rest = i

  to_placed : (x z : X) (ys : List X) → (z ≡ x) ⊎ IsIn z ys → IsIn z (placed lower x ys)
  to_placed x z [] i = i
  to_placed x z (y ∷ ys) i = at (lower y x) i (to_placed x z ys)
    where
      at : (b : Bool) → (z ≡ x) ⊎ ((z ≡ y) ⊎ IsIn z ys) → ((z ≡ x) ⊎ IsIn z ys → IsIn z (placed lower x ys)) → IsIn z (cond b (y ∷ placed lower x ys) (x ∷ (y ∷ ys)))
      at true i rest = elim i [ inl e ↦ inr (rest (inl e)) | inr j ↦ elim j [ inl e ↦ inl e | inr k ↦ inr (rest (inr k)) ] ]
      at false i rest = i

  pub from_ordered : (z : X) (xs : List X) → IsIn z (ordered lower xs) → IsIn z xs
  from_ordered z [] i = i
  from_ordered z (x ∷ xs) i = elim (from_placed x z (ordered lower xs) i) [ inl e ↦ inl e | inr j ↦ inr (from_ordered z xs j) ]

  pub to_ordered : (z : X) (xs : List X) → IsIn z xs → IsIn z (ordered lower xs)
  to_ordered z [] i = i
  to_ordered z (x ∷ xs) i = to_placed x z (ordered lower xs) (elim i [ inl e ↦ inl e | inr j ↦ inr (to_ordered z xs j) ])

  -- ---- lists in order with the same elements are the same

  not_above : (y z : X) (zs : List X) → RisesStrictly (z ∷ zs) → IsIn y (z ∷ zs) → number z ≤ number y
  not_above y z zs up i = elim i [ inl e ↦ (let same : number y ≡ number z = ap number e in omega (arith, same)) | inr j ↦ (let lt = all_in (λ w. number z < number w) y zs up.0 j in omega (arith, lt)) ]

  heads_same : (y z : X) (ys zs : List X) → RisesStrictly (y ∷ ys) → RisesStrictly (z ∷ zs) → IsIn y (z ∷ zs) → IsIn z (y ∷ ys) → y ≡ z
  heads_same y z ys zs up up' i j = elim i [
    | inl e ↦ e
    | inr k ↦ absurd (let lt = all_in (λ w. number z < number w) y zs up'.0 k in let le = not_above z y ys up j in omega (arith, lt, le))
  ]

  in_rest : (x y z : X) (ys zs : List X) → RisesStrictly (y ∷ ys) → y ≡ z → IsIn x ys → IsIn x (z ∷ zs) → IsIn x zs
  in_rest x y z ys zs up same i j = elim j [
    | inl e ↦ absurd (let lt = all_in (λ w. number y < number w) x ys up.0 i in let n : number x ≡ number y = ap number (e ∙ sym same) in omega (arith, lt, n))
    | inr k ↦ k
  ]

  pub strictly_same : (ys zs : List X) → RisesStrictly ys → RisesStrictly zs → ((x : X) → IsIn x ys → IsIn x zs) → ((x : X) → IsIn x zs → IsIn x ys) → ys ≡ zs
  strictly_same [] [] up up' to from = refl
  strictly_same [] (z ∷ zs) up up' to from = absurd (from z (inl refl))
  strictly_same (y ∷ ys) [] up up' to from = absurd (to y (inl refl))
  strictly_same (y ∷ ys) (z ∷ zs) up up' to from =
      let head : y ≡ z = heads_same y z ys zs up up' (to y (inl refl)) (from z (inl refl)) in
      let tail : ys ≡ zs = strictly_same ys zs up.1 up'.1 (λ x i. in_rest x y z ys zs up head i (to x (inr i))) (λ x i. in_rest x z y zs ys up' (sym head) i (from x (inr i))) in
      cc
