-- What the bytes of a database file stand for (docs/FORMAT.md).
use Rattle.std.specs.Prelude.{◌≡◌, ◌≤◌, ◌<◌, ◌==◌, ℕ, ◌+◌, Bool, IsTrue, if◌then◌else◌, Option, Some, None, unwrap_or, List, [], ◌∷◌, length, slice_index}
use Rattle.std.specs.List.{All}
use Rattle.mdc_words.specs.Listed.{listed}
use Rattle.store_api.specs.StoreState.{stated_in}
use Rattle.redo_journal.specs.Images.{Numbered}
use Rattle.page_file.specs.Layout.{file_page, home_page, FrontStays, IsNoPlaceOfJournal, home_start}
use Rattle.redo_journal.specs.Layout.{is_open, start_of, journal_of, IsJournal}
use Rattle.store_api.specs.declared.shape.Shape.{Shape}
use Rattle.page_store.specs.Shape.{IsBirth, extents_in, extent_pages_in}
use Rattle.page_file.specs.declared.layout.TheConstants.{FIRST_PAGE}

-- the image of page p, where there is one
abbrev pub image_of : Numbered → ℕ → Option (List ℕ)
image_of [] p = None
image_of (image ∷ images) p = if image.0 == p then Some image.1 else image_of images p

-- the images that count before the home pages: those of the journal, where its gate is open
abbrev pub counted : List ℕ → Numbered
counted file = if is_open file then journal_of file else []

-- the bytes of page p: its image that counts, or else its home page
abbrev pub page_of : List ℕ → ℕ → List ℕ
page_of file p = unwrap_or (image_of (counted file) p) (home_page file p)

-- how many pages there are, as page 0 states it
abbrev pub count_of : List ℕ → ℕ
count_of file = stated_in (page_of file 0)

-- the pages that a file stands for
abbrev pub pages_in : List ℕ → List (List ℕ)
pages_in file = listed (count_of file) (page_of file)

-- the made byte is open
abbrev pub is_made : List ℕ → Bool
is_made file = slice_index file 0 == 77

-- the journal lies behind all pages and within the file, and its numbers rise and name pages
pub record IsFitting (file : List ℕ) : Type 0 where
  pub behind : FIRST_PAGE + count_of file ≤ start_of file
  pub journal : IsJournal file
  pub named : All (λ image. image.0 < count_of file) (journal_of file)

-- The file was made, its file page 1 is a birth page, a journal that counts fits, and no page is missing.
pub record IsFormed (file : List ℕ) : Type 0 where
  pub made : IsTrue (is_made file)
  pub birth : IsBirth (file_page file 1)
  pub journal : IsTrue (is_open file) → IsFitting file
  pub whole : home_start (count_of file) ≤ length file

-- the image is formed, stands for these pages, and has the file's birth page and all else of the file that isn't the store's
pub record Stands (file : List ℕ) (all : List (List ℕ)) (image : List ℕ) : Type 0 where
  pub formed : IsFormed image
  pub pages : pages_in image ≡ all
  pub birth : file_page image 1 ≡ file_page file 1
  pub front : FrontStays file image

-- the file is formed, and its birth page states this shape
pub record IsFormedAs (shape : Shape) (file : List ℕ) : Type 0 where
  pub formed : IsFormed file
  pub extents : extents_in (file_page file 1) ≡ shape.extents
  pub extent_pages : extent_pages_in (file_page file 1) ≡ shape.extent_pages

-- the two have the same bytes before the first home page, but for the journal's gate and its header
pub record FrontAgrees (one other : List ℕ) : Type 0 where
  pub same : (i : ℕ) → i < home_start 0 → IsNoPlaceOfJournal i → slice_index other i ≡ slice_index one i

-- an image of a store's file: it is formed, states the store's shape, and has all that isn't the store's as the file has it
pub record IsStoreImage (shape : Shape) (file image : List ℕ) : Type 0 where
  pub formed : IsFormedAs shape image
  pub front : FrontAgrees file image

-- what opening an image of a file gives the store of that file: its pages, where it is an image of the store, and else
-- nothing
abbrev pub Reopens : Shape → List ℕ → List ℕ → Option (List (List ℕ)) → Type 0
Reopens shape file image None = ¬ IsStoreImage shape file image
Reopens shape file image (Some pages) = IsStoreImage shape file image × (pages ≡ pages_in image)
