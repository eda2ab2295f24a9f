-- Where things lie in the file (docs/FORMAT.md): the gates in file page 0, and page p of the store behind the log.
use Rattle.std.specs.Prelude.{◌≡◌, ◌≤◌, ◌<◌, ℕ, ◌+◌, ◌*◌, List, length, take, drop, slice_index}
use Rattle.mdc_outside.specs.Disk.{File, IsOutside, all_synced}
use Rattle.page_file.specs.declared.layout.TheConstants.{PAGE_BYTES, FIRST_PAGE, GATE, HEADER, HEADER_BYTES}

-- where file page n begins, and how many bytes n pages have
abbrev pub page_start : ℕ → ℕ
page_start n = PAGE_BYTES * n

-- where page p of the store begins
abbrev pub home_start : ℕ → ℕ
home_start p = page_start (FIRST_PAGE + p)

-- the bytes of file page n
abbrev pub file_page : List ℕ → ℕ → List ℕ
file_page image n = take PAGE_BYTES (drop (page_start n) image)

-- the bytes of page p of the store
abbrev pub home_page : List ℕ → ℕ → List ℕ
home_page image p = file_page image (FIRST_PAGE + p)

-- the file has its gates and its birth page, and all of it is on the disk
pub record IsReady (file : File) : Type 0 where
  pub long : page_start 2 ≤ length file.bytes
  pub synced : file.since ≡ all_synced file.bytes

-- the place lies in neither the journal's gate nor its header
abbrev pub IsNoPlaceOfJournal : ℕ → Type 0
IsNoPlaceOfJournal i = IsOutside i (record { at = GATE; count = 1 }) × IsOutside i (record { at = HEADER; count = HEADER_BYTES })

-- No byte before the first home page was changed, but for the journal's gate and its header, and nothing was cut off.
pub record FrontStays (file image : List ℕ) : Type 0 where
  pub no_shorter : length file ≤ length image
  pub same : (i : ℕ) → i < length file → i < home_start 0 → IsNoPlaceOfJournal i → slice_index image i ≡ slice_index file i
