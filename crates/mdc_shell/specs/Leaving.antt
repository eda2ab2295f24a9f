-- What a crash within a create leaves of the file and the tape (docs/ARCHITECTURE.md, "How a crash is modelled").
use Rattle.std.specs.Prelude.{◌≡◌, ◌⊎◌, ◌<◌, ℕ, List, ◌++◌, length}
use Rattle.mdc_outside.specs.Disk.{File, IsImage}
use Rattle.page_store.specs.Fresh.{IsOfMaking, fresh_file}
use Rattle.mdc_shell.specs.Create.{made_line, exists_line}

-- the tape has a first part of the line more than what was said before
abbrev pub HasPart : List ℕ → List ℕ → List ℕ → Type 0
HasPart line said tape = (part unsaid : List ℕ) × (line ≡ part ++ unsaid) × (tape ≡ said ++ part)

-- What a crash within a create leaves. Where no byte could be left before, the image isn't made or is the whole. Where the
-- file had no byte, it is the whole once something is said. Where it had one, it is an image that could be left before.
pub record LeftByCreate (extents extent_pages : ℕ) (before : File) (said image tape : List ℕ) : Type 0 where
  pub left : IsOfMaking extents extent_pages before image
  pub told : length before.bytes ≡ 0 → (tape ≡ said) ⊎ ((image ≡ fresh_file extents extent_pages) × HasPart made_line said tape)
  pub full : 0 < length before.bytes → IsImage before.since image × HasPart exists_line said tape
