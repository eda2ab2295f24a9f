-- What `create FILE EXTENTS PAGES` does to its file and its tape, for each status (docs/PROGRAM.md).
use Rattle.std.specs.Prelude.{◌≡◌, ◌⊎◌, ◌<◌, ℕ, Bool, List, Option, Some, length, codes}
use Rattle.std.specs.Option.{ForSome}
use Rattle.mdc_outside.specs.Disk.{File}
use Rattle.mdc_outside.specs.Moments.{Adds}
use Rattle.mdc_outside.specs.Outside.{Takes, TakesPart}
use Rattle.page_store.specs.Empty.{IsEmptyDatabase}
use Rattle.page_store.specs.Fresh.{HoldsFresh, IsOfMaking}
use Rattle.mdc_shell.specs.Status.{IsCreateStatus}

-- what is said once the database is made
abbrev pub made_line : List ℕ
made_line = codes "OK\n"

-- what is said where the file has a byte already
abbrev pub exists_line : List ℕ
exists_line = codes "FILE EXISTS\n"

-- the file, where it is told, holds an empty database, and all of it is on the disk
abbrev pub HoldsEmpty : ℕ → ℕ → Option File → Type 0
HoldsEmpty extents extent_pages file = ForSome file (λ f. HoldsFresh extents extent_pages f × IsEmptyDatabase extents f.bytes)

-- the file, where it is told, had no byte, and now it holds an empty database
abbrev pub IsMadeOfNothing : ℕ → ℕ → Option File → Option File → Type 0
IsMadeOfNothing extents extent_pages old new = ForSome old (λ f. length f.bytes ≡ 0) × HoldsEmpty extents extent_pages new

-- the file, where it is told, has a byte, and it is as it was
abbrev pub StaysAsItWas : Option File → Option File → Type 0
StaysAsItWas old new = ForSome old (λ f. 0 < length f.bytes) × (new ≡ old)

-- where the file has a byte, it is as it was
abbrev pub StaysWhereFull : Option File → Option File → Type 0
StaysWhereFull old new = ForSome old (λ f. 0 < length f.bytes → new ≡ old)

-- a told file is still told, and it is one that a crash within a making could leave
abbrev pub IsLeftByMaking : ℕ → ℕ → Option File → Option File → Type 0
IsLeftByMaking extents extent_pages old new = (before : File) → old ≡ Some before
    → (after : File) × (new ≡ Some after) × IsOfMaking extents extent_pages before after.bytes

-- What a create does to the file and to the tape, for each status.
pub record Creates (extents extent_pages : ℕ) (file new_file : Option File) (tape new_tape : Option (List ℕ)) (status : ℕ) : Type 0 where
  pub one_of : IsCreateStatus status
  -- 0: the database is made of a file without a byte, and this is said
  pub made : status ≡ 0 → IsMadeOfNothing extents extent_pages file new_file × Takes tape made_line new_tape
  -- 6: the file has a byte already, and this is said
  pub exists : status ≡ 6 → StaysAsItWas file new_file × Takes tape exists_line new_tape
  -- 5: one of the two, and a first part of its line is said
  pub part : status ≡ 5 → (IsMadeOfNothing extents extent_pages file new_file × TakesPart tape made_line new_tape)
      ⊎ (StaysAsItWas file new_file × TakesPart tape exists_line new_tape)
  -- 3: nothing is said, a file with a byte is as it was, and one without is what a crash within the making could leave
  pub failed : status ≡ 3 → (new_tape ≡ tape) × StaysWhereFull file new_file × IsLeftByMaking extents extent_pages file new_file
  -- 8: nothing is said, and the file is as it was
  pub memory : status ≡ 8 → (new_tape ≡ tape) × (new_file ≡ file)

-- the path is attached once more, and made where it wasn't there if so told, or not at all
abbrev pub MayAttach : Option (List (List ℕ × Bool)) → List ℕ → Bool → Option (List (List ℕ × Bool)) → Type 0
MayAttach old path make new = Adds old (path, make) new ⊎ (new ≡ old)

-- A told file without a byte becomes a database, and one with a byte is refused, unless memory is wanted.
pub record Completes (file : Option File) (status : ℕ) : Type 0 where
  pub empty : (before : File) → file ≡ Some before → length before.bytes ≡ 0 → (status ≡ 0) ⊎ (status ≡ 8)
  pub full : (before : File) → file ≡ Some before → 0 < length before.bytes → (status ≡ 6) ⊎ (status ≡ 8)
