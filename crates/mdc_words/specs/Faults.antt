-- How faults of the outside are counted (docs/ARCHITECTURE.md, "The outside").
use Rattle.std.specs.Prelude.{◌≡◌, ◌⊎◌, ◌<◌, ◌≤◌, ℕ}

-- A count of faults rose. It is kept in 64 bits, and stands still at the last number.
abbrev pub Rose : ℕ → ℕ → Type 0
Rose before now = (before < now) ⊎ (before ≡ 18446744073709551615)

-- A count of faults over a call: it rose where the call answered the fault that is counted, stood still where it answered
-- anything else, and never falls.
pub record CountsFault (Answered : Type 0) (before now : ℕ) : Type 0 where
  pub rose : Answered → Rose before now
  pub still : (Answered → ⊥) → now ≡ before
  pub later : before ≤ now
