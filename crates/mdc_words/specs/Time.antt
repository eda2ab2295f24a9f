-- What no call, one call or a run of calls leaves of what a crash may leave (docs/DISK.md, "Moments").
use Rattle.std.specs.Prelude.{◌⊎◌, ◌≤◌, ℕ}

-- Time goes on from the old state to the new. `left s t x said` says that a crash at some time since t may leave this of the
-- file (an image, or the pages that it stands for) with these bytes said. What could be left since an earlier time may be
-- left still, and nothing else but what is within.
pub record OverTime {S A B : Type 0} (clock : S → ℕ) (left : S → ℕ → A → B → Type 0) (Within : A → B → Type 0) (old new : S) : Type 0 where
  pub later : clock old ≤ clock new
  pub keeps : (t : ℕ) (x : A) (said : B) → t ≤ clock old → left old t x said → left new t x said
  pub only : (t : ℕ) (x : A) (said : B) → t ≤ clock old → left new t x said → left old t x said ⊎ Within x said

-- what may be left since a time may be left since an earlier one
abbrev pub ReachesBack : {S A B : Type 0} → (S → ℕ) → (S → ℕ → A → B → Type 0) → S → Type 0
ReachesBack clock left s = (t u : ℕ) (x : _) (said : _) → t ≤ u → u ≤ clock s → left s u x said → left s t x said

-- a crash now leaves only this
pub record RestsAt {S A B : Type 0} (clock : S → ℕ) (left : S → ℕ → A → B → Type 0) (Rest : A → B → Type 0) (s : S) : Type 0 where
  pub only_rest : (x : A) (said : B) → left s (clock s) x said → Rest x said
