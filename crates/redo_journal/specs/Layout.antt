-- The journal in a file: its gate, its header, its index and its images.
pub use Rattle.page_file.specs.Growing.{index_pages}
use Rattle.std.specs.Prelude.{◌≡◌, ◌≤◌, ◌==◌, ℕ, zero, suc, ◌+◌, Bool, IsFalse, IsTrue, Option, Some, None, List, [], ◌∷◌, length, take, drop, slice_index}
use Rattle.std.specs.List.{All}
use Rattle.page_file.specs.declared.layout.TheConstants.{FIRST_PAGE, GATE, HEADER, HEADER_BYTES, PAGE_BYTES}
use Rattle.byteorder.specs.Endian.{big_number}
use Rattle.page_file.specs.Layout.{home_page, home_start, page_start}
use Rattle.mdc_outside.specs.Disk.{File, Since, all_synced, torn}
use Rattle.redo_journal.specs.Images.{Numbered, AreRising}
use Rattle.redo_journal.specs.Pieces.{index_bytes}

-- whether the journal gate is open
abbrev pub is_open : List ℕ → Bool
is_open image = slice_index image GATE == 79

-- the file page at which the journal starts
abbrev pub start_of : List ℕ → ℕ
start_of image = big_number 4 (drop HEADER image)

-- how many images the journal has
abbrev pub number_of : List ℕ → ℕ
number_of image = big_number 4 (drop (HEADER + 4) image)

-- the first n images, whose numbers stand in the index and whose bytes stand in the pages
abbrev pub entries : ℕ → List ℕ → List ℕ → Numbered
entries zero index pages = []
entries (suc n) index pages = (big_number 4 index, take PAGE_BYTES pages) ∷ entries n (drop 4 index) (drop PAGE_BYTES pages)

-- the images of the journal
abbrev pub journal_of : List ℕ → Numbered
journal_of image =
    entries (number_of image) (drop (page_start (start_of image)) image) (drop (page_start (start_of image + index_pages (number_of image))) image)

-- the home pages of these images are being written
abbrev pub torn_home : Numbered → Since → Since
torn_home [] since = since
torn_home (image ∷ images) since = torn_home images (torn (home_start image.0) PAGE_BYTES since)

-- so many images are being written into a journal that starts at this file page
abbrev pub torn_journal : ℕ → ℕ → Since → Since
torn_journal start n since = torn (page_start start) (page_start (index_pages n + n)) (torn HEADER HEADER_BYTES since)

-- the file holds this journal, with the gate closed, and all of it is on the disk; the journal lies within the file
pub record HoldsJournal (start : ℕ) (listed : Numbered) (file : File) : Type 0 where
  pub settled : file.since ≡ all_synced file.bytes
  pub starts : start_of file.bytes ≡ start
  pub images : journal_of file.bytes ≡ listed
  pub within : page_start (start + index_pages (length listed) + length listed) ≤ length file.bytes
  -- behind the last number of the index stand zeros
  pub index : take (page_start (index_pages (length listed))) (drop (page_start start) file.bytes) ≡ index_bytes (index_pages (length listed)) listed
  pub closed : IsFalse (is_open file.bytes)

-- each image stands in its home page, and all is on the disk
pub record HoldsHome (listed : Numbered) (file : File) : Type 0 where
  pub settled : file.since ≡ all_synced file.bytes
  pub home : All (λ image. home_page file.bytes image.0 ≡ image.1) listed

-- the journal lies behind the gates and within the file, and its numbers rise
pub record IsJournal (image : List ℕ) : Type 0 where
  pub behind_gates : FIRST_PAGE ≤ start_of image
  pub within : page_start (start_of image + index_pages (number_of image) + number_of image) ≤ length image
  pub rising : AreRising (journal_of image)

-- what a replay finds in a file: nothing where the gate isn't open, and else the images of the journal
abbrev pub FindsJournal : Option Numbered → List ℕ → Type 0
FindsJournal None image = IsFalse (is_open image)
FindsJournal (Some images) image = IsTrue (is_open image) × IsJournal image × (images ≡ journal_of image)
