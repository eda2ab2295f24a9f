-- NOT of comparisons, of AND and of OR.
use Rattle.std.proofs.Common.{◌≡◌, List, [], ◌∷◌, Bool, true, false, map, refl, ap, ◌∙◌}
use Rattle.std.specs.Prelude.{not}
use Rattle.std.specs.declared.cmp.Ordering.{Ordering}
use Rattle.std.specs.declared.cmp.Ordering.TheVariants as ordering
use Rattle.mdc_values.specs.declared.truth.Op.{Op}
use Rattle.mdc_values.specs.declared.truth.Op.TheVariants.{Equal, Unequal, Less, AtMost, Greater, AtLeast}
use Rattle.mdc_values.specs.declared.truth.Truth.{Truth}
use Rattle.mdc_values.specs.declared.truth.Truth.TheVariants.{True, False, Unknown}
use Rattle.mdc_values.specs.declared.value.Value.{Value}
use Rattle.mdc_values.specs.declared.value.Value.TheVariants.{Null, Int, Text, Day}
use Rattle.mdc_values.specs.Order.{compared, holds, order, told}
use Rattle.mdc_ast.specs.Truth.{all_of, and_of, any_of, negated_if, not_of, or_of}
use Rattle.predicate.specs.Pushed.{op_if, opposite}

-- ---- comparisons

told-not : (b : Bool) → told (not b) ≡ not_of (told b)
told-not true = refl
told-not false = refl

pub not-not : (b : Bool) → b ≡ not (not b)
not-not true = refl
not-not false = refl

holds-opposite : (op : Op) (o : Ordering) → holds (opposite op) o ≡ not (holds op o)
holds-opposite Equal o = refl
holds-opposite Unequal o = not-not (holds Equal o)
holds-opposite Less ordering.Less = refl
holds-opposite Less ordering.Equal = refl
holds-opposite Less ordering.Greater = refl
holds-opposite AtMost ordering.Less = refl
holds-opposite AtMost ordering.Equal = refl
holds-opposite AtMost ordering.Greater = refl
holds-opposite Greater ordering.Less = refl
holds-opposite Greater ordering.Equal = refl
holds-opposite Greater ordering.Greater = refl
holds-opposite AtLeast ordering.Less = refl
holds-opposite AtLeast ordering.Equal = refl
holds-opposite AtLeast ordering.Greater = refl

told-opposite : (op : Op) (o : Ordering) → told (holds (opposite op) o) ≡ not_of (told (holds op o))
told-opposite op o = ap told (holds-opposite op o) ∙ told-not (holds op o)

-- a comparison with a null is unknown, and so is its opposite
pub compared-opposite : (op : Op) (a b : Value) → compared (opposite op) a b ≡ not_of (compared op a b)
compared-opposite op Null b = refl
compared-opposite op (Int a) Null = refl
compared-opposite op (Text a) Null = refl
compared-opposite op (Day a) Null = refl
compared-opposite op a b = told-opposite op (order a b)

pub compared-op_if : (negated : Bool) (op : Op) (a b : Value) → compared (op_if negated op) a b ≡ negated_if negated (compared op a b)
compared-op_if true op a b = compared-opposite op a b
compared-op_if false op a b = refl

-- ---- AND and OR

pub not_of-not_of : (t : Truth) → not_of (not_of t) ≡ t
not_of-not_of True = refl
not_of-not_of False = refl
not_of-not_of Unknown = refl

pub or_of-not_of : (a b : Truth) → or_of (not_of a) (not_of b) ≡ not_of (and_of a b)
or_of-not_of True b = refl
or_of-not_of False b = refl
or_of-not_of Unknown True = refl
or_of-not_of Unknown False = refl
or_of-not_of Unknown Unknown = refl

pub and_of-not_of : (a b : Truth) → and_of (not_of a) (not_of b) ≡ not_of (or_of a b)
and_of-not_of True b = refl
and_of-not_of False b = refl
and_of-not_of Unknown True = refl
and_of-not_of Unknown False = refl
and_of-not_of Unknown Unknown = refl

pub any_of-not_of : {X : Type 0} (f : X → Truth) (xs : List X) → any_of (map (λ x. not_of (f x)) xs) ≡ not_of (all_of (map f xs))
any_of-not_of f [] = refl
any_of-not_of f (x ∷ xs) = ap (or_of (not_of (f x))) (any_of-not_of f xs) ∙ or_of-not_of (f x) (all_of (map f xs))

pub all_of-not_of : {X : Type 0} (f : X → Truth) (xs : List X) → all_of (map (λ x. not_of (f x)) xs) ≡ not_of (any_of (map f xs))
all_of-not_of f [] = refl
all_of-not_of f (x ∷ xs) = ap (and_of (not_of (f x))) (all_of-not_of f xs) ∙ and_of-not_of (f x) (any_of (map f xs))
