-- The moments since a time are those at the points from it on.
use Rattle.std.proofs.Common.{◌↔◌, ◌≤◌, ℕ, zero, suc, List, [], ◌∷◌, take, drop, length, arith, inl, inr}
use Rattle.mdc_outside.specs.Replay.{Past, State, replay, entry_step, at_first, may_leave, ReplayLeaves}
use Rattle.mdc_outside.specs.Points.{IsNext, IsLeftAt}
use Rattle.mdc_outside.specs.declared.call.Entry.{Entry}

-- each moment is at a point
point_of : (state : State) (entries : List Entry) (t : ℕ) (image tape : List ℕ) → t ≤ length entries → ReplayLeaves (replay state (take t entries)) (drop t entries) image tape
    → (k : ℕ) × (t ≤ k) × (k ≤ length entries) × IsNext (replay state (take k entries)) (drop k entries) image tape
point_of state [] zero image tape le may = (zero, omega arith, omega arith, may)
point_of state [] (suc t) image tape le may = absurd (omega arith)
point_of state (entry ∷ entries) zero image tape le (inl may) = (zero, omega arith, omega arith, may)
point_of state (entry ∷ entries) zero image tape le (inr may) =
    let later = point_of (entry_step entry state) entries zero image tape (omega arith) may in
    (suc later.0, omega arith, omega (arith, later.2), later.3)
point_of state (entry ∷ entries) (suc t) image tape le may =
    let later = point_of (entry_step entry state) entries t image tape (omega arith) may in
    (suc later.0, omega (arith, later.1), omega (arith, later.2), later.3)

-- what may be left at each point is a moment
moment_of : (state : State) (entries : List Entry) (t k : ℕ) (image tape : List ℕ) → t ≤ k → k ≤ length entries → IsNext (replay state (take k entries)) (drop k entries) image tape
    → ReplayLeaves (replay state (take t entries)) (drop t entries) image tape
moment_of state [] zero zero image tape from to may = may
moment_of state [] zero (suc k) image tape from to may = absurd (omega arith)
moment_of state [] (suc t) k image tape from to may = absurd (omega arith)
moment_of state (entry ∷ entries) zero zero image tape from to may = inl may
moment_of state (entry ∷ entries) zero (suc k) image tape from to may = inr (moment_of (entry_step entry state) entries zero k image tape (omega arith) (omega arith) may)
moment_of state (entry ∷ entries) (suc t) zero image tape from to may = absurd (omega arith)
moment_of state (entry ∷ entries) (suc t) (suc k) image tape from to may = moment_of (entry_step entry state) entries t k image tape (omega arith) (omega arith) may

-- the moments of a host are those at the points of its record
pub moments-points : (past : Past) (t : ℕ) (image tape : List ℕ) → t ≤ length past.entries
    → may_leave past t image tape ↔ ((k : ℕ) × (t ≤ k) × (k ≤ length past.entries) × IsLeftAt past k image tape)
moments-points past t image tape le = (
  λ may. point_of (at_first past.first past.heard) past.entries t image tape le may,
  λ at. moment_of (at_first past.first past.heard) past.entries t at.0 image tape at.1 at.2 at.3,
)
