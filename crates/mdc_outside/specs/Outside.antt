-- What calls to the outside do to what it tells (docs/ARCHITECTURE.md, "The outside").
use Rattle.std.specs.Prelude.{◌≡◌, ℕ, List, ◌++◌, Option, Some, None}

-- where the bytes left are told, a piece came off their front; where they aren't, they stay untold
abbrev pub Gives : Option (List ℕ) → List ℕ → Option (List ℕ) → Type 0
Gives None piece new = new ≡ None
Gives (Some bytes) piece new = (rest : List ℕ) × (bytes ≡ piece ++ rest) × (new ≡ Some rest)

-- where the tape is told, it has a piece more at its end; where it isn't, it stays untold
abbrev pub Takes : Option (List ℕ) → List ℕ → Option (List ℕ) → Type 0
Takes None piece new = new ≡ None
Takes (Some tape) piece new = new ≡ Some (tape ++ piece)

-- where the tape is told, it has a first part of the piece more at its end; where it isn't, it stays untold
abbrev pub TakesPart : Option (List ℕ) → List ℕ → Option (List ℕ) → Type 0
TakesPart None piece new = new ≡ None
TakesPart (Some tape) piece new = (part unsaid : List ℕ) × (piece ≡ part ++ unsaid) × (new ≡ Some (tape ++ part))
