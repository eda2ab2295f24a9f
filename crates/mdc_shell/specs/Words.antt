-- The words of the command line (docs/PROGRAM.md).
use Rattle.std.specs.Prelude.{◌≡◌, ◌≢◌, ◌⊎◌, ◌<◌, ◌≤◌, ℕ, List, [], ◌∷◌, Option, codes, length, slice_index, IsTrue}
use Rattle.std.specs.Str.Parse.{AllDigits, digits_value}
use Rattle.store_api.specs.Extents.{is_shape}
use Rattle.mdc_outside.specs.Outside.{Takes, TakesPart}

-- the words are `run -`
abbrev pub IsScratchLine : List (List ℕ) → Type 0
IsScratchLine words = words ≡ codes "run" ∷ codes "-" ∷ []

-- one to nine decimal digits without a leading zero, which write this number
pub record IsNumeral (text : List ℕ) (number : ℕ) : Type 0 where
  pub digits : AllDigits 10 text
  pub some : 0 < length text
  pub short : length text ≤ 9
  pub lead : slice_index text 0 ≢ 48
  pub value : number ≡ digits_value 10 text

-- a word that names a file: it isn't empty, and no hyphen is in front
abbrev pub IsPath : List ℕ → Type 0
IsPath [] = ⊥
IsPath (first ∷ rest) = first ≢ 45

-- a path and two numerals, whose numbers are within the limits
pub record IsRequest (path extents_text pages_text : List ℕ) (extents extent_pages : ℕ) : Type 0 where
  pub names : IsPath path
  pub extents_written : IsNumeral extents_text extents
  pub pages_written : IsNumeral pages_text extent_pages
  pub limits : IsTrue (is_shape extents extent_pages)

-- the words are `create FILE EXTENTS PAGES`, of this path and these numbers
pub record IsCreateLine (words : List (List ℕ)) (path : List ℕ) (extents extent_pages : ℕ) : Type 0 where
  pub extents_text : List ℕ
  pub pages_text : List ℕ
  pub are : words ≡ codes "create" ∷ path ∷ extents_text ∷ pages_text ∷ []
  pub request : IsRequest path extents_text pages_text extents extent_pages

-- the words are `run FILE`, of this path
abbrev pub IsRunFileLine : List (List ℕ) → List ℕ → Type 0
IsRunFileLine words path = (words ≡ codes "run" ∷ path ∷ []) × IsPath path

-- the words are `check FILE`, of this path
abbrev pub IsCheckLine : List (List ℕ) → List ℕ → Type 0
IsCheckLine words path = (words ≡ codes "check" ∷ path ∷ []) × IsPath path

-- what a command line asks for
pub data Line : Type 0 where
  RunScratch : Line
  RunFile : (path : List ℕ) → Line
  CheckFile : (path : List ℕ) → Line
  CreateFile : (path : List ℕ) (extents extent_pages : ℕ) → Line

-- the words spell a command line
abbrev pub SpellsLine : List (List ℕ) → Line → Type 0
SpellsLine words RunScratch = IsScratchLine words
SpellsLine words (RunFile path) = IsRunFileLine words path
SpellsLine words (CheckFile path) = IsCheckLine words path
SpellsLine words (CreateFile path extents extent_pages) = IsCreateLine words path extents extent_pages

-- the words spell no command line
abbrev pub IsNoLine : List (List ℕ) → Type 0
IsNoLine words = (line : Line) → SpellsLine words line → ⊥

-- the word may be one of a command line: it isn't empty, and a hyphen is in front only where it is all of the word
abbrev pub IsPlain : List ℕ → Type 0
IsPlain [] = ⊥
IsPlain (first ∷ rest) = (first ≢ 45) ⊎ (rest ≡ [])

-- the line that is said for all other words
abbrev pub usage : List ℕ
usage = codes "usage: mdc create FILE EXTENTS PAGES | run FILE | check FILE | work N\n"

-- The usage line is said, and the status is 2; or a part of it, and the status is 5; or memory is wanted before the words
-- are read, and nothing is said.
abbrev pub SaysUsage : Option (List ℕ) → Option (List ℕ) → ℕ → Type 0
SaysUsage tape new status =
    ((status ≡ 2) × Takes tape usage new) ⊎ ((status ≡ 5) × TakesPart tape usage new) ⊎ ((status ≡ 8) × (new ≡ tape))
