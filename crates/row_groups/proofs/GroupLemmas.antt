-- The rows with which groups begin, and the groups.
use Rattle.std.proofs.Common.{◌≡◌, ℕ, ◌<◌, List, [], ◌∷◌, ◌++◌, map, filter, Bool, true, false, ◌||◌, cond, ◌⊎◌, inl, inr, refl, sym, ap, ◌∙◌, subst}
use Rattle.std.specs.List.{AllByRecursion, list_any}
use Rattle.std.proofs.lemmas.List.Folds.{list_any-append}
use Rattle.std.proofs.lemmas.List.{map-append}
use Rattle.row_groups.specs.Firsts.{firsts_after}
use Rattle.row_groups.proofs.NumberLemmas.{IsIn, RisesStrictly}

or_left : (a b : Bool) → (a || b) ≡ false → a ≡ false
or_left true b e = e
or_left false b e = refl

or_right : (a b : Bool) → (a || b) ≡ false → b ≡ false
or_right true b e = cc
or_right false b e = e

or_first : (a b : Bool) → a ≡ false → b ≡ false → (a || (b || false)) ≡ false
or_first true b e f = e
or_first false true e f = f
or_first false false e f = refl

heads : {X : Type 0} {x y : X} {xs ys : List X} → (x ∷ xs) ≡ (y ∷ ys) → x ≡ y
heads e = cc

-- what is first of a filter passes
pub passes_first : {X : Type 0} (p : X → Bool) (f : X) (rest xs : List X) → filter p xs ≡ f ∷ rest → p f ≡ true
passes_first p f rest [] e = cc
passes_first p f rest (x ∷ xs) e = at (p x) refl (passes_first p f rest xs)
  where
    at : (b : Bool) → p x ≡ b → (filter p xs ≡ f ∷ rest → p f ≡ true) → p f ≡ true
    at true q later = let same : x ∷ filter p xs ≡ f ∷ rest = rw q at e in ap p (sym (heads same)) ∙ q
    at false q later = later (rw q at e)

pub all_first : {X : Type 0} (P : X → Type 0) (p : X → Bool) (f : X) (rest xs : List X) → AllByRecursion P xs → filter p xs ≡ f ∷ rest → P f
all_first P p f rest [] all e = cc
all_first P p f rest (x ∷ xs) all e = at (p x) refl (all_first P p f rest xs all.1)
  where
    at : (b : Bool) → p x ≡ b → (filter p xs ≡ f ∷ rest → P f) → P f
    at true q later = let same : x ∷ filter p xs ≡ f ∷ rest = rw q at e in subst P (heads same) all.0
    at false q later = later (rw q at e)

pub first_in : {X : Type 0} (p : X → Bool) (f : X) (rest xs : List X) → filter p xs ≡ f ∷ rest → IsIn f xs
first_in p f rest [] e = cc
first_in p f rest (x ∷ xs) e = at (p x) refl (first_in p f rest xs)
  where
    at : (b : Bool) → p x ≡ b → (filter p xs ≡ f ∷ rest → IsIn f xs) → (f ≡ x) ⊎ IsIn f xs
    at true q later = let same : x ∷ filter p xs ≡ f ∷ rest = rw q at e in inl (sym (heads same))
    at false q later = inr (later (rw q at e))

-- tests that agree on all keep the same
pub filter_same : {X : Type 0} (p q : X → Bool) (xs : List X) → AllByRecursion (λ x. p x ≡ q x) xs → filter p xs ≡ filter q xs
filter_same p q [] all = refl
filter_same p q (x ∷ xs) all = let rest = filter_same p q xs all.1 in rw (all.0, rest) refl

module _ {X : Type 0} (same : X → X → Bool) (itself : (x : X) → same x x ≡ true) where
  -- the first of a group begins it
  pub to_firsts : (before xs : List X) (f : X) (rest : List X) → filter (same f) xs ≡ f ∷ rest → list_any (same f) before ≡ false → IsIn f (firsts_after same before xs)
  to_firsts before [] f rest e none = cc
  to_firsts before (x ∷ xs) f rest e none = at (same f x) refl (to_firsts (before ++ x ∷ []) xs f rest)
    where
      into : (b : Bool) → IsIn f (firsts_after same (before ++ x ∷ []) xs) → IsIn f (cond b (firsts_after same (before ++ x ∷ []) xs) (x ∷ firsts_after same (before ++ x ∷ []) xs))
      into true i = i
      into false i = inr i

      at : (b : Bool) → same f x ≡ b → (filter (same f) xs ≡ f ∷ rest → list_any (same f) (before ++ x ∷ []) ≡ false → IsIn f (firsts_after same (before ++ x ∷ []) xs)) → IsIn f (firsts_after same before (x ∷ xs))
      at true q later =
          let all : x ∷ filter (same f) xs ≡ f ∷ rest = rw q at e in
          let begins : x ≡ f = heads all in
          let first : list_any (same x) before ≡ false = ap (λ y. list_any (same y) before) begins ∙ none in
          rw first (inl (sym begins))
      at false q later = into (list_any (same x) before) (later (rw q at e) (list_any-append (same f) before (x ∷ []) ∙ or_first (list_any (same f) before) (same f x) none q))

  -- what begins a group is the first of it, and none before is of it
  pub from_firsts : (before xs : List X) (f : X) → IsIn f (firsts_after same before xs) → (list_any (same f) before ≡ false) × ((rest : List X) × (filter (same f) xs ≡ f ∷ rest))
  from_firsts before [] f i = absurd i
  from_firsts before (x ∷ xs) f i = at (list_any (same x) before) refl i (from_firsts (before ++ x ∷ []) xs f)
    where
      behind : (list_any (same f) (before ++ x ∷ []) ≡ false) × ((rest : List X) × (filter (same f) xs ≡ f ∷ rest)) → (list_any (same f) before ≡ false) × ((rest : List X) × (filter (same f) (x ∷ xs) ≡ f ∷ rest))
      behind both =
          let none : (list_any (same f) before || (same f x || false)) ≡ false = sym (list_any-append (same f) before (x ∷ [])) ∙ both.0 in
          let other : same f x ≡ false = or_left (same f x) false (or_right (list_any (same f) before) (same f x || false) none) in
          (or_left (list_any (same f) before) (same f x || false) none, (both.1.0, rw other (both.1.1)))

      at : (b : Bool) → list_any (same x) before ≡ b → IsIn f (cond b (firsts_after same (before ++ x ∷ []) xs) (x ∷ firsts_after same (before ++ x ∷ []) xs))
          → (IsIn f (firsts_after same (before ++ x ∷ []) xs) → (list_any (same f) (before ++ x ∷ []) ≡ false) × ((rest : List X) × (filter (same f) xs ≡ f ∷ rest)))
          → (list_any (same f) before ≡ false) × ((rest : List X) × (filter (same f) (x ∷ xs) ≡ f ∷ rest))
      at true q i later = behind (later i)
      at false q i later = elim i [ inl e ↦ here e | inr j ↦ behind (later j) ]
        where
          here : f ≡ x → (list_any (same f) before ≡ false) × ((rest : List X) × (filter (same f) (x ∷ xs) ≡ f ∷ rest))
          here e =
              let mine : same f x ≡ true = ap (λ y. same y x) e ∙ itself x in
              (ap (λ y. list_any (same y) before) e ∙ q, (filter (same f) xs, rw mine (ap (λ y. y ∷ filter (same f) xs) (sym e))))

  pub all_firsts : (P : X → Type 0) (before xs : List X) → AllByRecursion P xs → AllByRecursion P (firsts_after same before xs)
  all_firsts P before [] all = tt
  all_firsts P before (x ∷ xs) all = at (list_any (same x) before) (all_firsts P (before ++ x ∷ []) xs all.1)
    where
      at : (b : Bool) → AllByRecursion P (firsts_after same (before ++ x ∷ []) xs) → AllByRecursion P (cond b (firsts_after same (before ++ x ∷ []) xs) (x ∷ firsts_after same (before ++ x ∷ []) xs))
      at true rest = rest
      at false rest = (all.0, rest)

  pub firsts_rise : (number : X → ℕ) (before xs : List X) → RisesStrictly number xs → RisesStrictly number (firsts_after same before xs)
  firsts_rise number before [] up = tt
  firsts_rise number before (x ∷ xs) up = at (list_any (same x) before) (firsts_rise number (before ++ x ∷ []) xs up.1)
    where
      at : (b : Bool) → RisesStrictly number (firsts_after same (before ++ x ∷ []) xs) → RisesStrictly number (cond b (firsts_after same (before ++ x ∷ []) xs) (x ∷ firsts_after same (before ++ x ∷ []) xs))
      at true rest = rest
      at false rest = (all_firsts (λ y. number x < number y) (before ++ x ∷ []) xs up.0, rest)

-- ---- groups of what is shown of rows

module _ {X Y : Type 0} (shown : X → Y) (same : Y → Y → Bool) where
  any_shown : (y : Y) (xs : List X) → list_any (same y) (map shown xs) ≡ list_any (λ x. same y (shown x)) xs
  any_shown y [] = refl
  any_shown y (x ∷ xs) = ap (λ b. same y (shown x) || b) (any_shown y xs)

  pub group_shown : (y : Y) (xs : List X) → filter (same y) (map shown xs) ≡ map shown (filter (λ x. same y (shown x)) xs)
  group_shown y [] = refl
  group_shown y (x ∷ xs) = at (same y (shown x)) (group_shown y xs)
    where
      at : (b : Bool) → filter (same y) (map shown xs) ≡ map shown (filter (λ x. same y (shown x)) xs)
          → cond b (shown x ∷ filter (same y) (map shown xs)) (filter (same y) (map shown xs)) ≡ map shown (cond b (x ∷ filter (λ x. same y (shown x)) xs) (filter (λ x. same y (shown x)) xs))
      at true rest = ap (λ ys. shown x ∷ ys) rest
      at false rest = rest

  pub firsts_shown : (before xs : List X) → firsts_after same (map shown before) (map shown xs) ≡ map shown (firsts_after (λ a b. same (shown a) (shown b)) before xs)
  firsts_shown before [] = refl
  firsts_shown before (x ∷ xs) =
      let rest : firsts_after same (map shown before ++ shown x ∷ []) (map shown xs) ≡ map shown (firsts_after (λ a b. same (shown a) (shown b)) (before ++ x ∷ []) xs)
      = ap (λ b. firsts_after same b (map shown xs)) (sym (map-append shown before (x ∷ []))) ∙ firsts_shown (before ++ x ∷ []) xs in
      let any = any_shown (shown x) before in
      rw (any, rest) (at (list_any (λ b. same (shown x) (shown b)) before) (firsts_after (λ a b. same (shown a) (shown b)) (before ++ x ∷ []) xs))
    where
      at : (b : Bool) (ys : List X) → cond b (map shown ys) (shown x ∷ map shown ys) ≡ map shown (cond b ys (x ∷ ys))
      at true ys = refl
      at false ys = refl
