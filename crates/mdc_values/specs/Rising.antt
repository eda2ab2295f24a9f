-- Rising lists of blocks and of places of rows.
use Rattle.std.specs.Prelude.{◌≡◌, ◌<◌, ◌⊎◌, ℕ, List, [], ◌∷◌}
use Rattle.mdc_values.specs.declared.rid.Rid.{Rid}

-- each element stands before the next
abbrev pub IsRising : {X : Type 0} → (X → X → Type 0) → List X → Type 0
IsRising Before [] = Unit {0}
IsRising Before (x ∷ []) = Unit {0}
IsRising Before (x ∷ y ∷ xs) = Before x y × IsRising Before (y ∷ xs)

-- the last element, if there is one, stands before this one
abbrev pub LastIsBefore : {X : Type 0} → (X → X → Type 0) → X → List X → Type 0
LastIsBefore Before new [] = Unit {0}
LastIsBefore Before new (x ∷ []) = Before x new
LastIsBefore Before new (x ∷ y ∷ xs) = LastIsBefore Before new (y ∷ xs)

-- a lower number
abbrev pub IsLower : ℕ → ℕ → Type 0
IsLower a b = a < b

-- a lower block, or a lower slot of the same block
abbrev pub IsEarlier : Rid → Rid → Type 0
IsEarlier a b = (a.block < b.block) ⊎ ((a.block ≡ b.block) × (a.slot < b.slot))
