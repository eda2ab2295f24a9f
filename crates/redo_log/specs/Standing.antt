-- What the bytes of a file stand for: its home pages, under the records of the log that count, under the journal where its
-- gate is open.
use Rattle.std.specs.Prelude.{◌≡◌, ◌⊎◌, ◌≤◌, ◌<◌, ◌==◌, ℕ, suc, ◌+◌, ◌*◌, IsTrue, IsSome, if◌then◌else◌, Option, Some, None, unwrap_or, List, [], ◌∷◌, ◌++◌, length, slice_index}
use Rattle.std.specs.List.{All}
use Rattle.mdc_words.specs.Listed.{listed}
use Rattle.mdc_outside.specs.Disk.{IsOutside}
use Rattle.store_api.specs.StoreState.{stated_in}
use Rattle.page_file.specs.Layout.{home_page, home_start, page_start}
use Rattle.page_file.specs.declared.layout.TheConstants.{FIRST_PAGE}
use Rattle.redo_journal.specs.Images.{Numbered}
use Rattle.redo_journal.specs.Layout.{is_open, start_of, journal_of, IsJournal}
use Rattle.redo_log.specs.declared.layout.TheConstants.{LOG_GATES, GATE_COUNT, LOG_HEADERS, LOG_HEADER_BYTES, FIRST_LOG_PAGE}
use Rattle.redo_log.specs.Layout.{record_at, records_in, newest, AreLaid}

-- the image of page p that comes first, where there is one
abbrev pub image_of : Numbered → ℕ → Option (List ℕ)
image_of [] p = None
image_of (image ∷ images) p = if image.0 == p then Some image.1 else image_of images p

-- the images of the journal, where its gate is open
abbrev pub journaled : List ℕ → Numbered
journaled file = if is_open file then journal_of file else []

-- the images that come before the home pages, if the first n records count
abbrev pub counted_by : ℕ → List ℕ → Numbered
counted_by n file = journaled file ++ newest n file

-- the bytes of page p, if the first n records count
abbrev pub page_by : ℕ → List ℕ → ℕ → List ℕ
page_by n file p = unwrap_or (image_of (counted_by n file) p) (home_page file p)

-- how many pages there are then, as page 0 states it
abbrev pub count_by : ℕ → List ℕ → ℕ
count_by n file = stated_in (page_by n file 0)

-- the pages that the file stands for then
abbrev pub pages_by : ℕ → List ℕ → List (List ℕ)
pages_by n file = listed (count_by n file) (page_by n file)

-- how many pages there are without the journal's images
abbrev pub count_under : ℕ → List ℕ → ℕ
count_under n file = stated_in (unwrap_or (image_of (newest n file) 0) (home_page file 0))

-- the journal lies behind all pages and within the file, and its numbers rise and name pages
pub record IsFitting (n : ℕ) (file : List ℕ) : Type 0 where
  pub behind : FIRST_PAGE + count_by n file ≤ start_of file
  pub behind_under : 0 < n → FIRST_PAGE + count_under n file ≤ start_of file
  pub journal : IsJournal file
  pub named : All (λ image. image.0 < count_by n file) (journal_of file)

-- If the first n records count, all that comes before the home pages lies where it may and names pages, and no page is
-- missing: each has an image or is whole in the file.
pub record IsFormedBy (n : ℕ) (file : List ℕ) : Type 0 where
  pub long : page_start 2 ≤ length file
  pub some : 0 < count_by n file
  pub journal : IsTrue (is_open file) → IsFitting n file
  pub laid : AreLaid n file
  pub named : (k : ℕ) → k < n → All (λ image. image.0 < count_by n file) (record_at k file)
  pub whole : (p : ℕ) → p < count_by n file → IsSome (image_of (counted_by n file) p) ⊎ (home_start (suc p) ≤ length file)

-- by the records that count
abbrev pub IsFormed : List ℕ → Type 0
IsFormed file = IsFormedBy (records_in file) file

-- the pages that a file stands for
abbrev pub pages_of : List ℕ → List (List ℕ)
pages_of file = pages_by (records_in file) file

-- the place lies in none of the log's gates, headers and pages
pub record IsNoPlaceOfLog (i : ℕ) : Type 0 where
  pub gates : IsOutside i (record { at = LOG_GATES; count = GATE_COUNT })
  pub headers : IsOutside i (record { at = LOG_HEADERS; count = LOG_HEADER_BYTES * GATE_COUNT })
  pub log : IsOutside i (record { at = page_start FIRST_LOG_PAGE; count = page_start 64 })

-- no byte before the first home page was changed but the log's, and nothing was cut off
pub record FrontStaysBesideLog (file image : List ℕ) : Type 0 where
  pub no_shorter : length file ≤ length image
  pub same : (i : ℕ) → i < length file → i < home_start 0 → IsNoPlaceOfLog i → slice_index image i ≡ slice_index file i

-- the image is formed, stands for these pages, and has all else before the home pages as the file has it
pub record Stands (file : List ℕ) (all : List (List ℕ)) (image : List ℕ) : Type 0 where
  pub formed : IsFormed image
  pub pages : pages_of image ≡ all
  pub front : FrontStaysBesideLog file image
