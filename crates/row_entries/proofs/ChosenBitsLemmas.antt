-- Truth values that tell which indexes are chosen, as they are worked out one after the other.
use Rattle.std.proofs.Common.{◌≡◌, ◌<◌, ◌≤◌, ℕ, zero, suc, List, [], ◌∷◌, length, map, set, take, replicate, refl, ap, arith, sym, ◌∙◌}
use Rattle.std.specs.Prelude.{Bool, true, false, Some, filter, slice_get}
use Rattle.std.proofs.lemmas.Option.{same_Some}
use Rattle.mdc_ast.specs.declared.definition.IndexDef.{IndexDef}
use Rattle.row_entries.specs.ChosenIndexes.{chosen_indexes}

-- one more
pub next_told : (f : IndexDef → Bool) (n : ℕ) (chosen : List Bool) (indexes : List IndexDef) (which : IndexDef) (is : Bool) → take n chosen ≡ take n (map f indexes) → slice_get indexes n ≡ Some which → is ≡ f which → n < length chosen
    → take (suc n) (set chosen n is) ≡ take (suc n) (map f indexes)
next_told f n [] indexes which is first at same low = absurd (omega (arith, low))
next_told f n (c ∷ chosen) [] which is first at same low = absurd cc
next_told f zero (c ∷ chosen) (x ∷ indexes) which is first at same low = ap (λ b. b ∷ []) (same ∙ ap f (sym (same_Some x which at)))
next_told f (suc n) (c ∷ chosen) (x ∷ indexes) which is first at same low =
    let head : c ≡ f x = cc in
    let rest : take n chosen ≡ take n (map f indexes) = cc in
    let more : take (suc n) (set chosen n is) ≡ take (suc n) (map f indexes) = next_told f n chosen indexes which is rest at same (omega (arith, low)) in
    cc (head, more)

-- all are told by as many as there are indexes
pub told_all : (f : IndexDef → Bool) (n : ℕ) (indexes : List IndexDef) → length indexes ≤ n → take n (map f indexes) ≡ map f indexes
told_all f zero [] low = refl
told_all f (suc n) [] low = refl
told_all f zero (x ∷ indexes) low = absurd (omega (arith, low))
told_all f (suc n) (x ∷ indexes) low = ap (λ bs. f x ∷ bs) (told_all f n indexes (omega (arith, low)))

-- all are chosen
pub all_true : (n : ℕ) (indexes : List IndexDef) → length indexes ≤ n → take (length indexes) (replicate n true) ≡ map (λ which. true) indexes
all_true n [] low = refl
all_true zero (x ∷ indexes) low = absurd (omega (arith, low))
all_true (suc n) (x ∷ indexes) low = ap (λ bs. true ∷ bs) (all_true n indexes (omega (arith, low)))

-- ---- the chosen ones

pub chosen_all : (indexes : List IndexDef) → chosen_indexes (map (λ which. true) indexes) indexes ≡ indexes
chosen_all [] = refl
chosen_all (x ∷ indexes) = ap (λ xs. x ∷ xs) (chosen_all indexes)

pub chosen_by : (f : IndexDef → Bool) (indexes : List IndexDef) → chosen_indexes (map f indexes) indexes ≡ filter f indexes
chosen_by f [] = refl
chosen_by f (x ∷ indexes) = go (f x) refl (chosen_by f indexes)
  where
    go : (is : Bool) → f x ≡ is → chosen_indexes (map f indexes) indexes ≡ filter f indexes → chosen_indexes (map f (x ∷ indexes)) (x ∷ indexes) ≡ filter f (x ∷ indexes)
    go true is rest = rw is (ap (λ xs. x ∷ xs) rest)
    go false is rest = rw is rest
