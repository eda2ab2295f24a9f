-- What a commit needs of its images, and what it leaves of the file.
use Rattle.std.specs.Prelude.{◌≡◌, ◌⊎◌, ◌≤◌, ◌<◌, ℕ, ◌+◌, IsTrue, IsFalse, IsSome, List, length, max, Option, Some, unwrap_or}
use Rattle.std.specs.List.{All}
use Rattle.store_api.specs.StoreState.{stated_in}
use Rattle.mdc_outside.specs.Disk.{File, IsImage, all_synced}
use Rattle.redo_journal.specs.Images.{Numbered, AreRising}
use Rattle.page_file.specs.Layout.{home_page, page_start}
use Rattle.redo_journal.specs.Layout.{is_open, journal_of, index_pages}
use Rattle.mdc_words.specs.Listed.{listed}
use Rattle.page_store.specs.Standing.{image_of, count_of, pages_in, IsFormed, Stands}
use Rattle.page_file.specs.declared.layout.TheConstants.{FIRST_PAGE}

-- how many pages there are with these images, as page 0 then states it
abbrev pub count_with_images : Numbered → List ℕ → ℕ
count_with_images images file = stated_in (unwrap_or (image_of images 0) (home_page file 0))

-- the home pages with these images in place of some
abbrev pub pages_with : Numbered → List ℕ → List (List ℕ)
pages_with images file = listed (count_with_images images file) (λ p. unwrap_or (image_of images p) (home_page file p))

-- the journal of these images lies behind all pages and within the file, and they name pages
pub record AreFitting (start : ℕ) (images : Numbered) (file : List ℕ) : Type 0 where
  pub behind : FIRST_PAGE + count_with_images images file ≤ start
  pub within : page_start (start + index_pages (length images) + length images) ≤ length file
  pub rising : AreRising images
  pub named : All (λ image. image.0 < count_with_images images file) images

-- The file can take a commit of these images: all is on the disk, the gate is closed, a journal that starts there lies
-- behind all pages, old and new, and each new page is among the images.
pub record IsReadyFor (start : ℕ) (images : Numbered) (file : File) : Type 0 where
  pub synced : file.since ≡ all_synced file.bytes
  pub formed : IsFormed file.bytes
  pub closed : IsFalse (is_open file.bytes)
  pub some : 0 < count_of file.bytes
  pub behind_old : FIRST_PAGE + count_of file.bytes ≤ start
  pub behind_new : FIRST_PAGE + count_with_images images file.bytes ≤ start
  pub named : All (λ image. image.0 < count_with_images images file.bytes) images
  pub grown : (p : ℕ) → count_of file.bytes ≤ p → p < count_with_images images file.bytes → IsSome (image_of images p)

-- the journal counts: all is on the disk, the gate is open, and these are the images
pub record IsCounting (images : Numbered) (file : File) : Type 0 where
  pub synced : file.since ≡ all_synced file.bytes
  pub gate : IsTrue (is_open file.bytes)
  pub journal : journal_of file.bytes ≡ images

-- all is on the disk, and the gate is closed
pub record IsClosed (file : File) : Type 0 where
  pub synced : file.since ≡ all_synced file.bytes
  pub closed : IsFalse (is_open file.bytes)

-- the home pages of a file are in the image as they were
abbrev pub HomeStays : List ℕ → List ℕ → Type 0
HomeStays file image = (p : ℕ) → p < count_of file → home_page image p ≡ home_page file p

-- while images go into the journal: it doesn't count yet, or it does; the home pages are as they were
pub record IsJournaled (images : Numbered) (file image : List ℕ) : Type 0 where
  pub stands : Stands file (pages_in file) image ⊎ Stands file (pages_with images file) image
  pub stays : HomeStays file image

-- the file stands for what it stood for
abbrev pub StandsStill : File → List ℕ → Type 0
StandsStill before image = Stands before.bytes (pages_in before.bytes) image

-- the file stands for its pages or for those with the images
abbrev pub StandsEither : Numbered → File → List ℕ → Type 0
StandsEither images before image = Stands before.bytes (pages_in before.bytes) image ⊎ Stands before.bytes (pages_with images before.bytes) image

-- an image is no longer than the file
abbrev pub NoLonger : File → List ℕ → Type 0
NoLonger before image = length image ≤ length before.bytes

-- an image is no longer than the file, or than up to the end of the journal of n images that starts at this file page
abbrev pub ReachesTo : ℕ → ℕ → File → List ℕ → Type 0
ReachesTo start n before image = length image ≤ max (length before.bytes) (page_start (start + index_pages n + n))

-- a fact of the file before and after, where both are told
pub record BothFiles (old new : Option File) (fact : File → File → Type 0) : Type 0 where
  pub holds : (before after : File) → old ≡ Some before → new ≡ Some after → fact before after

-- after a commit: the journal is closed, and the home pages are those with the images
abbrev pub IsCommitted : Numbered → File → File → Type 0
IsCommitted images before after = IsClosed after × Stands before.bytes (pages_with images before.bytes) after.bytes

-- what a crash leaves from now on stands for the pages with the images
abbrev pub RestsWith : Numbered → File → File → Type 0
RestsWith images before after = (image : List ℕ) → IsImage after.since image → Stands before.bytes (pages_with images before.bytes) image
