-- The file that is made: empty but for its gates, its birth page and its root page (docs/FORMAT.md, "Making").
use Rattle.std.specs.Prelude.{◌≡◌, ◌⊎◌, ◌≤◌, ◌<◌, ℕ, ◌+◌, List, [], ◌∷◌, ◌++◌, length, max, drop, replicate, IsFalse}
use Rattle.byteorder.specs.Endian.{big_bytes}
use Rattle.mdc_outside.specs.Disk.{File, IsImage, all_synced}
use Rattle.store_api.specs.StoreState.{zero_page}
use Rattle.store_api.specs.Extents.{map_pages, first_count}
use Rattle.store_api.specs.Format.{first_format}
use Rattle.page_store.specs.Shape.{birth_page}
use Rattle.page_store.specs.Standing.{is_made}
use Rattle.page_file.specs.Layout.{home_start, page_start}

-- so many pages of zeros, one after the other
unfoldable pub zero_pages : ℕ → List ℕ
zero_pages n = replicate (page_start n) 0

-- the first file page of a database: its gates are closed, and this is the made byte
abbrev pub gates : ℕ → List ℕ
gates made = made ∷ drop 1 zero_page

-- the root page of an empty database: `ROOT`, the version and the page count
abbrev pub root_page : ℕ → List ℕ
root_page extents = (82 ∷ 79 ∷ 79 ∷ 84 ∷ []) ++ big_bytes 4 first_format.version ++ big_bytes 4 (first_count extents) ++ drop 12 zero_page

-- gates with this made byte, birth page, and 64 pages for a log
abbrev pub front_with : ℕ → ℕ → ℕ → List ℕ
front_with made extents extent_pages = gates made ++ birth_page extents extent_pages ++ zero_pages 64

-- behind these the root page, 16 table pages and the extent map
abbrev pub file_with : ℕ → ℕ → ℕ → List ℕ
file_with made extents extent_pages = front_with made extents extent_pages ++ root_page extents ++ zero_pages (16 + map_pages extents)

-- an empty database
abbrev pub fresh_file : ℕ → ℕ → List ℕ
fresh_file extents extent_pages = file_with 77 extents extent_pages

-- how many bytes it has
abbrev pub fresh_len : ℕ → ℕ
fresh_len extents = home_start (first_count extents)

-- the file is too short for a database, or its made byte isn't open
abbrev pub IsUnmade : List ℕ → Type 0
IsUnmade file = (length file < page_start 2) ⊎ IsFalse (is_made file)

-- what a crash while a database is made leaves: a file that isn't made, or the whole
abbrev pub IsUnmadeOrFresh : ℕ → ℕ → List ℕ → Type 0
IsUnmadeOrFresh extents extent_pages file = IsUnmade file ⊎ (file ≡ fresh_file extents extent_pages)

-- a crash leaves no byte of the file
abbrev pub IsBlank : File → Type 0
IsBlank file = (left : List ℕ) → IsImage file.since left → left ≡ []

-- The image is one that could be left before, or the file had no byte. Where none could be left, the image isn't made or is
-- the whole. It is no longer than could be left before, or than the whole.
abbrev pub IsOfMaking : ℕ → ℕ → File → List ℕ → Type 0
IsOfMaking extents extent_pages before image =
    IsImage before.since image
    ⊎ ((length before.bytes ≡ 0) × (IsBlank before → IsUnmadeOrFresh extents extent_pages image) × (length image ≤ max before.since.longest (fresh_len extents)))

-- the file holds an empty database, all of it on the disk
pub record HoldsFresh (extents extent_pages : ℕ) (file : File) : Type 0 where
  pub bytes : file.bytes ≡ fresh_file extents extent_pages
  pub synced : file.since ≡ all_synced file.bytes
