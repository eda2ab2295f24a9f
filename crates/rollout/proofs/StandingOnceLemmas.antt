-- Elements of which none stands twice: where they are all among others there are no more of them.
use Rattle.std.proofs.Common.{◌≡◌, ◌≢◌, ◌≤◌, ◌∙◌, suc, List, [], ◌∷◌, length, refl, sym, ap, subst, arith, inl, inr}
use Rattle.std.specs.Prelude.{AllPairs, Contains}
use Rattle.block_map.proofs.MapLinesLemmas.{contains_cases, contains_more}

-- none stands twice
abbrev pub StandOnce : {X : Type 0} → List X → Type 0
StandOnce [] = Unit {0}
StandOnce (x ∷ xs) = (Contains xs x → ⊥) × StandOnce xs

pub stand_once : {X : Type 0} (xs : List X) → AllPairs (λ a b. a ≢ b) xs → StandOnce xs
stand_once [] differ = tt
stand_once (x ∷ xs) differ = (
  λ (k, low, at). differ 0 (suc k) x (omega arith) (omega (arith, low)) (sym at),
  stand_once xs (λ i j d low high. differ (suc i) (suc j) d (omega (arith, low)) (omega (arith, high))),
)

-- what is left of some elements without one of them
record WithoutOne {X : Type 0} (ys : List X) (x : X) : Type 0 where
  rest : List X
  long : length ys ≡ suc (length rest)
  other : (z : X) → Contains ys z → x ≢ z → Contains rest z

without_one : {X : Type 0} (ys : List X) (x : X) → Contains ys x → WithoutOne ys x
without_one [] x there = absurd (omega (arith, there.1))
without_one (y ∷ ys) x there = elim (contains_cases x y ys there) [
  | inl here ↦ record { rest = ys; long = refl; other = λ z is apart. elim (contains_cases z y ys is) [ inl first ↦ absurd (apart (sym here ∙ first)) | inr later ↦ later ] }
  | inr later ↦ (
      let r = without_one ys x later in
      record {
        rest = y ∷ r.rest;
        long = ap suc r.long;
        other = λ z is apart. elim (contains_cases z y ys is) [ inl first ↦ (0, omega arith, first) | inr more ↦ contains_more z y r.rest (r.other z more apart) ];
      })
]

pub no_more_than : {X : Type 0} (xs ys : List X) → StandOnce xs → ((x : X) → Contains xs x → Contains ys x) → length xs ≤ length ys
no_more_than [] ys once within = omega arith
no_more_than (x ∷ xs) ys once within =
    let r = without_one ys x (within x (0, omega arith, refl)) in
    omega (arith, r.long, no_more_than xs r.rest once.1 (λ z there. r.other z (within z (contains_more z x xs there)) (λ same. once.0 (subst (Contains xs) (sym same) there))))
