-- The first elements of a list.
use Rattle.std.proofs.Common.{◌≡◌, ◌<◌, ℕ, zero, suc, List, [], ◌∷◌, get_or, length, take, refl, arith}
use Rattle.std.specs.Prelude.{Contains}

-- one of the first of a list stands before the next
pub in_take : {X : Type 0} (xs : List X) (n : ℕ) (x : X) → Contains (take n xs) x → (k : ℕ) × (k < n) × (k < length xs) × (get_or xs k x ≡ x)
in_take xs zero x there = absurd (omega (arith, there.1))
in_take [] (suc n) x there = absurd (omega (arith, there.1))
in_take (y ∷ xs) (suc n) x (zero, low, at) = (0, omega arith, omega arith, at)
in_take (y ∷ xs) (suc n) x (suc k, low, at) = let later = in_take xs n x (k, omega (arith, low), at) in (suc later.0, omega (arith, later.1), omega (arith, later.2), later.3)

-- what stands at a place that is there, whatever is said of places past the end
pub any_default : {X : Type 0} (xs : List X) (k : ℕ) (a b : X) → k < length xs → get_or xs k a ≡ get_or xs k b
any_default [] k a b low = absurd (omega (arith, low))
any_default (x ∷ xs) zero a b low = refl
any_default (x ∷ xs) (suc k) a b low = any_default xs k a b (omega (arith, low))
