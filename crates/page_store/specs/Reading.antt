-- What was read of a file before it is judged, and what is then made of it.
use Rattle.std.specs.Prelude.{◌≡◌, ◌≤◌, ◌<◌, ℕ, ◌+◌, IsTrue, IsFalse, List, Option, Some, None, length}
use Rattle.std.specs.List.{All}
use Rattle.page_file.specs.Layout.{file_page}
use Rattle.redo_journal.specs.Layout.{is_open, start_of, journal_of, IsJournal}
use Rattle.page_store.specs.declared.journal.Journal.{Journal}
use Rattle.page_store.specs.declared.recovery.Opened.{Opened}
use Rattle.page_store.specs.Shape.{IsBirth, extents_in, extent_pages_in}
use Rattle.page_store.specs.Standing.{page_of, count_of}
use Rattle.page_store.specs.Opening.{IsMade}
use Rattle.page_file.specs.declared.layout.TheConstants.{FIRST_PAGE}

-- the journal that counts in the file, or nothing where its gate isn't open
abbrev pub IsJournalIn : Option Journal → List ℕ → Type 0
IsJournalIn None file = IsFalse (is_open file)
IsJournalIn (Some journal) file = IsTrue (is_open file) × IsJournal file × (journal.images ≡ journal_of file) × (journal.start ≡ start_of file)

-- where there is a journal, it lies behind so many pages, and names them alone
abbrev pub IsBehind : Option Journal → ℕ → Type 0
IsBehind None count = Unit {0}
IsBehind (Some journal) count = (FIRST_PAGE + count ≤ journal.start) × All (λ image. image.0 < count) journal.images

-- what was read of a file that was made and has a birth page: its length, the two numbers, its journal and page 0
pub record WasRead (bytes extents extent_pages : ℕ) (journal : Option Journal) (root : List ℕ) (file : List ℕ) : Type 0 where
  pub made : IsMade file
  pub birth : IsBirth (file_page file 1)
  pub size : bytes ≡ length file
  pub states_extents : extents ≡ extents_in (file_page file 1)
  pub states_extent_pages : extent_pages ≡ extent_pages_in (file_page file 1)
  pub counting : IsJournalIn journal file
  pub root_is : root ≡ page_of file 0

-- the shape of the file's database, and how many pages it has
pub record States (opened : Opened) (file : List ℕ) : Type 0 where
  pub extents : opened.shape.extents ≡ extents_in (file_page file 1)
  pub extent_pages : opened.shape.extent_pages ≡ extent_pages_in (file_page file 1)
  pub count : opened.count ≡ count_of file
