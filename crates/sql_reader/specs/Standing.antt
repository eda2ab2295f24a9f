-- What the bytes that a reader keeps stand for.
use Rattle.std.specs.Prelude.{◌≡◌, ◌≤◌, ◌<◌, ℕ, List, [], ◌++◌, Bool, true, false, Some, take, drop, length}
use Rattle.mdc_ast.specs.Cutting.{Cut, Trims}
use Rattle.mdc_ast.specs.Reading.{statement_limit}
use Rattle.sql_reader.specs.declared.place.Place.TheVariants.{Outside}
use Rattle.sql_reader.specs.Holding.{Holding}
use Rattle.sql_reader.specs.Progress.{Progress}
use Rattle.sql_reader.specs.Scan.{place_behind}

-- whatever follows, a piece that goes on from the first bytes has the statement of one that goes on from those kept of them
abbrev pub StandsFor : List ℕ → List ℕ → Type 0
StandsFor bytes kept = (rest statement : List ℕ) → Trims (kept ++ rest) statement → Trims (bytes ++ rest) statement

-- whatever follows, a statement begins with the first of these bytes
abbrev pub BeginsStatement : List ℕ → Type 0
BeginsStatement bytes = (rest : List ℕ) → Trims (bytes ++ rest) (bytes ++ rest)

-- whatever follows, the statement of a piece that begins with these bytes is too long
abbrev pub IsLong : List ℕ → Type 0
IsLong bytes = (rest : List ℕ) → (statement : List ℕ) × Trims (bytes ++ rest) statement × (statement_limit < length statement)

-- what a reader keeps of the first bytes of a piece is enough to tell its item
abbrev pub Covers : Bool → List ℕ → List ℕ → Type 0
Covers true kept bytes = IsLong bytes
Covers false kept bytes = StandsFor bytes kept

-- What was taken is closed pieces, then bytes of the piece at hand that were scanned and are covered by what is kept of them,
-- then the bytes ahead.
pub record HoldsRest (reader : Holding) (progress : Progress) : Type 0 where
  pub within : progress.past ≤ length progress.taken
  pub closed : List (List ℕ)
  pub cut : Cut (take progress.past progress.taken) closed []
  pub piece : List ℕ
  pub bytes : drop progress.past progress.taken ≡ piece ++ reader.ahead
  pub came : place_behind Outside piece ≡ Some reader.place
  pub covers : Covers reader.long reader.scanned piece

-- a reader that holds this may be so far
pub record IsAt (reader : Holding) (progress : Progress) : Type 0 where
  pub counts : reader.count ≡ length progress.taken
  pub ends : reader.finished ≡ progress.finished
  pub rest : progress.finished ≡ false → HoldsRest reader progress
