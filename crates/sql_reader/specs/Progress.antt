-- How far a reader is, and what it may have given by then.
use Rattle.std.specs.Prelude.{◌≡◌, ◌≤◌, ◌-◌, length, ℕ, List, [], ◌++◌, Bool, true, false, Option, Some, None, take}
use Rattle.mdc_ast.specs.Reading.{Item, Reads, Closes}

-- The bytes that a reader took, how many of them belong to pieces that are done with, and whether the last piece,
-- which the end of the script closes, is one of these.
pub record Progress : Type 0 where
  pub taken : List ℕ
  pub past : ℕ
  pub finished : Bool

-- no byte is taken, and no piece is done with
abbrev pub at_start : Progress
at_start = record { taken = []; past = 0; finished = false }

-- all items of a finished script; before its end those that semicolons close in the bytes done with
abbrev pub IsGivenAt : Bool → List ℕ → ℕ → List Item → Type 0
IsGivenAt true taken past items = Reads taken items
IsGivenAt false taken past items = Closes (take past taken) items

-- these are the items given so far
abbrev pub Given : Progress → List Item → Type 0
Given progress items = IsGivenAt progress.finished progress.taken progress.past items

-- where the bytes left are told, those that came off their front are taken
abbrev pub Took : Option (List ℕ) → List ℕ → Option (List ℕ) → List ℕ → Type 0
Took None old left new = Unit {0}
Took (Some bytes) old left new = (piece rest : List ℕ) × (bytes ≡ piece ++ rest) × (left ≡ Some rest) × (new ≡ old ++ piece)

-- What was taken ends with the last read, of at most 4,096 bytes. Each statement that the bytes before it close was given
-- by then.
pub record IsLastRead (old : Progress) (taken : List ℕ) : Type 0 where
  pub before : List ℕ
  pub more : List ℕ
  pub piece : List ℕ
  pub begins : before ≡ old.taken ++ more
  pub is : taken ≡ before ++ piece
  pub short : length piece ≤ 4096
  pub given : (items : List Item) → Given old items → Closes before items

-- what was taken but for its last 4,096 bytes closes no more than what was given before
abbrev pub IsJustClosed : Progress → List ℕ → Type 0
IsJustClosed old taken = (given closed : List Item) → Given old given → Closes (take (length taken - 4096) taken) closed → length closed ≤ length given
