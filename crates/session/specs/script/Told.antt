-- What is told, and what is told still.
use Rattle.std.specs.Prelude.{◌≡◌, ℕ, List, Option, Some}
use Rattle.mdc_outside.specs.Outside.{Takes}

-- what was told is told still
abbrev pub StaysTold : {A : Type 0} → Option A → Option A → Type 0
StaysTold old new = (was : _) → old ≡ Some was → (is : _) × (new ≡ Some is)

-- a tape has some bytes more at its end
abbrev pub TellsMore : Option (List ℕ) → Option (List ℕ) → Type 0
TellsMore old new = (more : List ℕ) × Takes old more new
