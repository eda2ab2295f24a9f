-- What a file of pages becomes by commits: what of it stays, and how long it is (docs/FORMAT.md, "Commit").
use Rattle.std.specs.Prelude.{◌≤◌, ℕ, ◌+◌, ◌/◌, List, length, max}
use Rattle.page_file.specs.Layout.{FrontStays, page_start}
use Rattle.page_file.specs.declared.layout.TheConstants.{FIRST_PAGE}

-- how many file pages hold so many page numbers, 1,024 each
abbrev pub index_pages : ℕ → ℕ
index_pages n = (n + 1023) / 1024

-- the most bytes of a file of so many pages: they end with the pages, and one journal of them all behind these
abbrev pub most_bytes : ℕ → ℕ
most_bytes count = page_start (FIRST_PAGE + count + index_pages count + count)

-- What a file became that had these bytes first: its front is as it was, nothing was cut off, and it is no longer than it was,
-- or than so many pages and one journal.
pub record GrewFrom (first : List ℕ) (count : ℕ) (file : List ℕ) : Type 0 where
  pub front : FrontStays first file
  pub size : length file ≤ max (length first) (most_bytes count)
