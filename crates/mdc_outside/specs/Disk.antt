-- A file as a disk tells it, and what a crash may leave of it.
use Rattle.std.specs.Prelude.{◌≡◌, ◌⊎◌, ◌<◌, ◌≤◌, ◌+◌, max, ℕ, Bool, true, false, List, [], ◌∷◌, ◌++◌, Option, Some, None, length, take, drop, slice_index}

-- a place in a file, and how many bytes from there on
pub record Range : Type 0 where
  pub at : ℕ
  pub count : ℕ

-- What a crash may leave of a file: `synced` is its bytes at the last sync that succeeded, `ranges` what was written
-- since, also by writes that failed, and `longest` the greatest length since.
pub record Since : Type 0 where
  pub synced : List ℕ
  pub ranges : List Range
  pub longest : ℕ

-- the file under the path; `bytes` is what a read gives
pub record File : Type 0 where
  pub is_there : Bool
  pub bytes : List ℕ
  pub since : Since

-- all of these bytes are on the disk
abbrev pub all_synced : List ℕ → Since
all_synced bytes = record { synced = bytes; ranges = []; longest = length bytes }

-- a file that isn't there has no bytes
abbrev pub no_file : File
no_file = record { is_there = false; bytes = []; since = all_synced [] }

-- the file that a disk has at first, if any, all of it on the disk
abbrev pub file_at_first : Option (List ℕ) → File
file_at_first None = no_file
file_at_first (Some bytes) = record { is_there = true; bytes = bytes; since = all_synced bytes }

-- a place is before or behind the range
abbrev pub IsOutside : ℕ → Range → Type 0
IsOutside i range = (i < range.at) ⊎ (range.at + range.count ≤ i)

-- a place is in none of the ranges
abbrev pub IsInNone : ℕ → List Range → Type 0
IsInNone i [] = Unit {0}
IsInNone i (range ∷ ranges) = IsOutside i range × IsInNone i ranges

-- A crash may leave this image: its length is between the synced one and the longest, and each synced byte that is in
-- no range is as it was.
pub record IsImage (since : Since) (image : List ℕ) : Type 0 where
  pub no_shorter : length since.synced ≤ length image
  pub no_longer : length image ≤ since.longest
  pub kept : (i : ℕ) → i < length since.synced → IsInNone i since.ranges → slice_index image i ≡ slice_index since.synced i

-- the bytes, with these in place of those from there on
abbrev pub overwritten : ℕ → List ℕ → List ℕ → List ℕ
overwritten at piece bytes = take at bytes ++ piece ++ drop (at + length piece) bytes

-- opened, and made where it wasn't there
abbrev pub opened : File → File
opened file = record file { is_there = true }

-- so many bytes from this place on are being written
abbrev pub torn : ℕ → ℕ → Since → Since
torn at count since =
    record { synced = since.synced; ranges = record { at = at; count = count } ∷ since.ranges; longest = max since.longest (at + count) }

-- after a write
abbrev pub written : ℕ → List ℕ → File → File
written at piece file =
    record { is_there = true; bytes = overwritten at piece file.bytes; since = torn at (length piece) file.since }

-- after a write that failed: the bytes are any that a crash may leave
abbrev pub IsTorn : ℕ → ℕ → File → File → Type 0
IsTorn at count old new =
    (bytes : List ℕ) × IsImage (torn at count old.since) bytes
    × (new ≡ record { is_there = true; bytes = bytes; since = torn at count old.since })

-- after a sync
abbrev pub settled : File → File
settled file = record file { since = all_synced file.bytes }

-- after a sync that failed: the bytes are any that a crash may leave
abbrev pub IsUnsettled : File → File → Type 0
IsUnsettled old new = (bytes : List ℕ) × IsImage old.since bytes × (new ≡ record old { bytes = bytes })

-- A told file is one that a crash may leave as it reads. If it isn't there, nothing was ever written.
pub record IsSound (file : File) : Type 0 where
  pub image : IsImage file.since file.bytes
  pub absent : file.is_there ≡ false → file ≡ no_file

-- where a file is told, it is still told and changed like this; where it isn't, it stays untold
abbrev pub Becomes : Option File → (File → File → Type 0) → Option File → Type 0
Becomes None change new = new ≡ None
Becomes (Some old) change new = (file : File) × (new ≡ Some file) × change old file
