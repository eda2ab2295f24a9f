-- Steps along rising lists.
use Rattle.std.specs.Prelude.{◌≡◌, ◌≢◌, ◌⊎◌, ◌≤◌, ℕ, List, [], ◌∷◌}
use Rattle.mdc_values.specs.declared.rid.Rid.{Rid}

-- the list begins with it
abbrev pub BeginsWith : {X : Type 0} → X → List X → Type 0
BeginsWith x [] = ⊥
BeginsWith x (y ∷ ys) = y ≡ x

-- the list begins with it, or behind it, or is empty
abbrev pub BeginsFrom : {X : Type 0} → (X → X → Type 0) → X → List X → Type 0
BeginsFrom Before x [] = Unit {0}
BeginsFrom Before x (y ∷ ys) = (y ≡ x) ⊎ Before x y

-- the first of what two rising lists begin with
pub record IsLowerHead {X : Type 0} (Before : X → X → Type 0) (a b : List X) (x : X) : Type 0 where
  pub there : BeginsWith x a ⊎ BeginsWith x b
  pub low_a : BeginsFrom Before x a
  pub low_b : BeginsFrom Before x b

-- what is left of a list when an element is taken from its front, if it stands there
abbrev pub IsLeft : {X : Type 0} → X → List X → List X → Type 0
IsLeft x [] rest = rest ≡ []
IsLeft x (y ∷ ys) rest = ((y ≡ x) × (rest ≡ ys)) ⊎ ((y ≢ x) × (rest ≡ y ∷ ys))

-- the first place lies in the block
abbrev pub BeginsInBlock : ℕ → List Rid → Type 0
BeginsInBlock block [] = ⊥
BeginsInBlock block (rid ∷ rids) = rid.block ≡ block

-- the first place, if there is one, lies in no lower block
abbrev pub BeginsFromBlock : ℕ → List Rid → Type 0
BeginsFromBlock block [] = Unit {0}
BeginsFromBlock block (rid ∷ rids) = block ≤ rid.block
