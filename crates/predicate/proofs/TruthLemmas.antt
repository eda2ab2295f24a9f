-- AND and OR of many truths, one after another.
use Rattle.std.proofs.Common.{◌≡◌, ℕ, suc, ◌+◌, ◌<◌, ◌≤◌, List, length, drop, get_or, map, refl, drop-cons, add-one, sym}
use Rattle.std.proofs.lemmas.List.{drop_all}
use Rattle.mdc_values.specs.declared.truth.Truth.{Truth}
use Rattle.mdc_values.specs.declared.truth.Truth.TheVariants.{True, False, Unknown}
use Rattle.mdc_ast.specs.Truth.{all_of, and_of, any_of, or_of}

and_of-and_of : (a b c : Truth) → and_of (and_of a b) c ≡ and_of a (and_of b c)
and_of-and_of True b c = refl
and_of-and_of False b c = refl
and_of-and_of Unknown True c = refl
and_of-and_of Unknown False c = refl
and_of-and_of Unknown Unknown True = refl
and_of-and_of Unknown Unknown False = refl
and_of-and_of Unknown Unknown Unknown = refl

or_of-or_of : (a b c : Truth) → or_of (or_of a b) c ≡ or_of a (or_of b c)
or_of-or_of True b c = refl
or_of-or_of False b c = refl
or_of-or_of Unknown False c = refl
or_of-or_of Unknown True c = refl
or_of-or_of Unknown Unknown True = refl
or_of-or_of Unknown Unknown False = refl
or_of-or_of Unknown Unknown Unknown = refl

and_of-True : (a : Truth) → and_of a True ≡ a
and_of-True True = refl
and_of-True False = refl
and_of-True Unknown = refl

or_of-False : (a : Truth) → or_of a False ≡ a
or_of-False True = refl
or_of-False False = refl
or_of-False Unknown = refl

-- the next one of a list is taken into what is known
pub and_of-all_of : {X : Type 0} (f : X → Truth) (xs : List X) (i : ℕ) (x : X) (a : Truth) → i < length xs → and_of a (all_of (map f (drop i xs))) ≡ and_of (and_of a (f (get_or xs i x))) (all_of (map f (drop (i + 1) xs)))
and_of-all_of f xs i x a lt = rw (drop-cons xs i x, add-one) (sym (and_of-and_of a (f (get_or xs i x)) (all_of (map f (drop (suc i) xs)))))

pub or_of-any_of : {X : Type 0} (f : X → Truth) (xs : List X) (i : ℕ) (x : X) (a : Truth) → i < length xs → or_of a (any_of (map f (drop i xs))) ≡ or_of (or_of a (f (get_or xs i x))) (any_of (map f (drop (i + 1) xs)))
or_of-any_of f xs i x a lt = rw (drop-cons xs i x, add-one) (sym (or_of-or_of a (f (get_or xs i x)) (any_of (map f (drop (suc i) xs)))))

-- nothing is left behind the last
pub and_of-all_of_end : {X : Type 0} (f : X → Truth) (xs : List X) (i : ℕ) (a : Truth) → length xs ≤ i → and_of a (all_of (map f (drop i xs))) ≡ a
and_of-all_of_end f xs i a le = rw (drop_all i xs) (and_of-True a)

pub or_of-any_of_end : {X : Type 0} (f : X → Truth) (xs : List X) (i : ℕ) (a : Truth) → length xs ≤ i → or_of a (any_of (map f (drop i xs))) ≡ a
or_of-any_of_end f xs i a le = rw (drop_all i xs) (or_of-False a)
