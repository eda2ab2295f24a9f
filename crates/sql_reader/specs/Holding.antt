-- What a reader holds.
use Rattle.std.specs.Prelude.{ℕ, ◌+◌, ◌-◌, ◌*◌, List, [], length, Bool, false, if◌then◌else◌}
use Rattle.sql_reader.specs.declared.place.Place.{Place}
use Rattle.sql_reader.specs.declared.place.Place.TheVariants.{Outside}

-- The bytes kept of the piece at hand up to where its scan came, the bytes ahead of the scan, and the place there; whether
-- the statement at hand is too long, so that its bytes aren't kept; how many bytes are in memory, and how many were taken in
-- all; and whether the script's end was come to.
pub record Holding : Type 0 where
  pub scanned : List ℕ
  pub ahead : List ℕ
  pub place : Place
  pub long : Bool
  pub kept : ℕ
  pub count : ℕ
  pub finished : Bool

-- nothing was taken yet
abbrev pub nothing_held : Holding
nothing_held = record { scanned = []; ahead = []; place = Outside; long = false; kept = 0; count = 0; finished = false }

-- how much a reader has still to go over at most; each item makes it less
abbrev pub work_left : Holding → ℕ
work_left reader = 2 * (67108864 - reader.count) + length reader.ahead + (if reader.finished then 0 else 1)
