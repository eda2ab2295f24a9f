-- The elements of a list at their places, once it is added to, cut or written to.
use Rattle.std.proofs.Common.{◌≡◌, ◌≢◌, ◌<◌, ◌⊎◌, ℕ, zero, suc, List, [], ◌∷◌, ◌++◌, length, take, set, Some, slice_get, refl, ap, inl, inr, arith}

-- the elements of a list and one more
pub slice_get-push : {X : Type 0} (xs : List X) (y : X) (i : ℕ) (x : X) → slice_get (xs ++ y ∷ []) i ≡ Some x
    → (slice_get xs i ≡ Some x) ⊎ ((i ≡ length xs) × (x ≡ y))
slice_get-push [] y zero x is = let same : x ≡ y = cc in inr (refl, same)
slice_get-push [] y (suc i) x is = absurd (cc)
slice_get-push (first ∷ xs) y zero x is = inl is
slice_get-push (first ∷ xs) y (suc i) x is = elim (slice_get-push xs y i x is) [ inl before ↦ inl before | inr last ↦ inr (ap suc last.0, last.1) ]

-- those of a first part
pub slice_get-take : {X : Type 0} (n : ℕ) (xs : List X) (i : ℕ) (x : X) → slice_get (take n xs) i ≡ Some x → slice_get xs i ≡ Some x
slice_get-take zero xs i x is = absurd (cc)
slice_get-take (suc n) [] i x is = absurd (cc)
slice_get-take (suc n) (first ∷ xs) zero x is = is
slice_get-take (suc n) (first ∷ xs) (suc i) x is = slice_get-take n xs i x is

-- the one that was written
pub slice_get-set_same : {X : Type 0} (xs : List X) (k : ℕ) (y : X) → k < length xs → slice_get (set xs k y) k ≡ Some y
slice_get-set_same [] k y lt = absurd (omega arith)
slice_get-set_same (first ∷ xs) zero y lt = refl
slice_get-set_same (first ∷ xs) (suc k) y lt = slice_get-set_same xs k y (omega arith)

-- and the others
pub slice_get-set_other : {X : Type 0} (xs : List X) (k : ℕ) (y : X) (i : ℕ) → i ≢ k → slice_get (set xs k y) i ≡ slice_get xs i
slice_get-set_other [] k y i ne = refl
slice_get-set_other (first ∷ xs) zero y zero ne = absurd (ne refl)
slice_get-set_other (first ∷ xs) zero y (suc i) ne = refl
slice_get-set_other (first ∷ xs) (suc k) y zero ne = refl
slice_get-set_other (first ∷ xs) (suc k) y (suc i) ne = slice_get-set_other xs k y i (λ e. ne (ap suc e))
