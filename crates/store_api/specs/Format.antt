-- What differs from version to version of the file: its format (docs/FORMAT.md, "Pages", "Block map").
use Rattle.std.specs.Prelude.{ℕ}

-- the bytes of an entry in which a number stands: from which on, and how many
pub record EntryPart : Type 0 where
  pub from : ℕ
  pub bytes : ℕ

-- A format: the version that the root page states, how many bytes an entry of a block map has, and in which of them it says the
-- block, its state and how many rows it has.
pub record Format : Type 0 where
  pub version : ℕ
  pub map_width : ℕ
  pub block : EntryPart
  pub state : EntryPart
  pub rows : EntryPart

-- the format in which files are made and served, which is version 1
abbrev pub first_format : Format
first_format = record {
  version = 1;
  map_width = 7;
  block = record { from = 0; bytes = 4 };
  state = record { from = 4; bytes = 1 };
  rows = record { from = 5; bytes = 2 };
}
