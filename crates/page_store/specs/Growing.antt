-- What any run of calls makes of a file beside its pages (docs/FORMAT.md, "Commit").
use Rattle.std.specs.Prelude.{◌≡◌, ◌⊎◌, ◌≤◌, ℕ, List, length}
use Rattle.mdc_outside.specs.Disk.{File}
use Rattle.page_file.specs.Growing.{most_bytes}
use Rattle.page_file.specs.Layout.{FrontStays}
use Rattle.page_store.specs.Opened.{CouldBeLeft}
use Rattle.page_store.specs.Standing.{count_of}
use Rattle.store_api.specs.declared.pages.TheConstants.{MAX_PAGES}

-- The file ends no later than so many pages and one journal of them all. Unless a call of the disk failed, these are the pages that it
-- has.
pub record EndsByPages (Failed : Type 0) (file : List ℕ) : Type 0 where
  pub count : ℕ
  pub few : count ≤ MAX_PAGES
  pub its : (Failed → ⊥) → count ≡ count_of file
  pub size : length file ≤ most_bytes count

-- What a file became that had these bytes first: its front is as it was, nothing was cut off, and it is no longer than it was, or than
-- its pages and one journal.
pub record GrewUnless (Failed : Type 0) (first file : List ℕ) : Type 0 where
  pub front : FrontStays first file
  pub size : (length file ≤ length first) ⊎ EndsByPages Failed file

-- Or a call of the disk failed before all of the file was on the disk, and it is what a crash could leave.
abbrev pub GrewByCalls : Type 0 → File → List ℕ → Type 0
GrewByCalls Failed before after = GrewUnless Failed before.bytes after ⊎ (Failed × CouldBeLeft before after)
