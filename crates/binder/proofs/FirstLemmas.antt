-- The first of causes that stand one behind the other.
use Rattle.std.proofs.Common.{◌≡◌, ℕ, ◌+◌, ◌<◌, ◌≤◌, List, [], ◌∷◌, ◌++◌, Some, None, add-one, ap, drop, drop-cons, get_or, length, sym, refl, ◌∙◌}
use Rattle.std.specs.Prelude.{flat_map}
use Rattle.std.proofs.lemmas.List.{drop_all}
use Rattle.std.proofs.lemmas.Option.{none-some}
use Rattle.statement_meaning.specs.Cause.{Cause}
use Rattle.binder.specs.Saying.{first_of}

-- the first of the front part is the first of all
pub first_of-front : (xs ys : List Cause) (cause : Cause) → first_of xs ≡ Some cause → first_of (xs ++ ys) ≡ Some cause
first_of-front [] ys cause e = absurd (none-some cause e)
first_of-front (x ∷ xs) ys cause e = e

-- nothing is said in front
pub first_of-behind : (xs ys : List Cause) → first_of xs ≡ None → first_of (xs ++ ys) ≡ first_of ys
first_of-behind [] ys e = refl
first_of-behind (x ∷ xs) ys e = absurd (none-some x (sym e))

pub first_of-nothing : (xs : List Cause) → first_of xs ≡ None → xs ≡ []
first_of-nothing [] e = refl
first_of-nothing (x ∷ xs) e = absurd (none-some x (sym e))

-- ---- what is said of each element of a list, from a place on

flat_map-step : {X : Type 0} (f : X → List Cause) (xs : List X) (i : ℕ) (x : X) → i < length xs → x ≡ get_or xs i x → flat_map f (drop i xs) ≡ f x ++ flat_map f (drop (i + 1) xs)
flat_map-step f xs i x lt at = rw (drop-cons xs i x, add-one, ← at) refl

-- the element at the place is the first of which something is said
pub first_of-here : {X : Type 0} (f : X → List Cause) (xs : List X) (i : ℕ) (x : X) (cause : Cause) → i < length xs → x ≡ get_or xs i x → first_of (f x) ≡ Some cause → first_of (flat_map f (drop i xs)) ≡ Some cause
first_of-here f xs i x cause lt at e = ap first_of (flat_map-step f xs i x lt at) ∙ first_of-front (f x) (flat_map f (drop (i + 1) xs)) cause e

pub first_of-next : {X : Type 0} (f : X → List Cause) (xs : List X) (i : ℕ) (x : X) → i < length xs → x ≡ get_or xs i x → first_of (f x) ≡ None → first_of (flat_map f (drop i xs)) ≡ first_of (flat_map f (drop (i + 1) xs))
first_of-next f xs i x lt at e = ap first_of (flat_map-step f xs i x lt at) ∙ first_of-behind (f x) (flat_map f (drop (i + 1) xs)) e

pub first_of-end : {X : Type 0} (f : X → List Cause) (xs : List X) (i : ℕ) → length xs ≤ i → first_of (flat_map f (drop i xs)) ≡ None
first_of-end f xs i le = rw (drop_all i xs) refl

-- what is said in front, and what behind
pub ruleset first_steps = (first_of-front, first_of-behind)
