-- What a crash leaves of a file that is opened, and then only read or changed by commits: from the origin of the opening on.
use Rattle.std.specs.Prelude.{◌≡◌, ◌⊎◌, ◌≤◌, ℕ, List, Some, None}
use Rattle.mdc_words.specs.Time.{OverTime}
use Rattle.mdc_outside.specs.Disk.{File}
use Rattle.mdc_outside.specs.declared.disk.Disk as disk
use Rattle.store_api.specs.declared.pages.Pages as pages
use Rattle.page_file.specs.Layout.{file_page}
use Rattle.page_file.specs.Leaving.{LeavesImage}
use Rattle.page_store.specs.Opened.{CouldBeLeft}
use Rattle.page_store.specs.Shape.{extents_in, extent_pages_in}
use Rattle.page_store.specs.Standing.{FrontAgrees, IsFormed, pages_in}

-- these bytes were said as the run began, or could be left on the tape before
abbrev pub WasTold : {D : Type 0} → disk.Ghosts D → ℕ → List ℕ → D → List ℕ → Type 0
WasTold g t said old tape = (tape ≡ said) ⊎ ((image : List ℕ) × g.moment old t image tape)

-- The run came to an origin, at which all of the file was on the disk. Up to it a crash leaves an image that could be left as the
-- run began, with nothing said; since then, what the run leaves. So where a byte was said, a crash leaves what the run leaves.
pub record ComesToRest {D : Type 0} (g : disk.Ghosts D) (before : File) (said : List ℕ) (Left : List ℕ → List ℕ → Type 0) (old new : D) : Type 0 where
  pub origin : D
  pub until : OverTime g.clock g.moment (LeavesImage (CouldBeLeft before) said) old origin
  pub later : g.clock origin ≤ g.clock new
  pub since : (image tape : List ℕ) → g.moment new (g.clock origin) image tape → Left image tape
  pub behind : (t : ℕ) (image tape : List ℕ) → t ≤ g.clock old → g.moment new t image tape → Left image tape ⊎ WasTold g t said old tape

-- a crash within a run leaves so much, or the run stopped before any origin
abbrev pub LeavesSince : {D : Type 0} → disk.Ghosts D → File → List ℕ → (List ℕ → List ℕ → Type 0) → D → D → Type 0
LeavesSince g before said Left old new =
    ComesToRest g before said Left old new ⊎ OverTime g.clock g.moment (LeavesImage (CouldBeLeft before) said) old new

-- An image of a file, whatever its pages are: it is formed, its birth page states the extents that the file states, and what isn't the
-- journal's before its first home page is as it is in the file.
pub record StaysFormed (file image : List ℕ) : Type 0 where
  pub formed : IsFormed image
  pub front : FrontAgrees file image
  pub extents : extents_in (file_page image 1) ≡ extents_in (file_page file 1)
  pub extent_pages : extent_pages_in (file_page image 1) ≡ extent_pages_in (file_page file 1)

-- An image that stands for what the file stands for: it is formed, states the file's extents, and has the same front and pages.
pub record StandsAsBefore (file image : List ℕ) : Type 0 where
  pub stays : StaysFormed file image
  pub pages : pages_in image ≡ pages_in file

-- What is left of the host to which a store was closed, by what the store left as it was opened: an image is formed and states what the
-- file states, and the store left the pages that it stands for, or they are its base, with the tape as it was. Or the store left a file
-- that doesn't reopen.
pub record LeavesBase {S D : Type 0} (g : pages.Ghosts S) (d : disk.Ghosts D) (file said : List ℕ) (old : S) (new : D) : Type 0 where
  pub since : (t : ℕ) → t ≤ g.clock old → (image heard : List ℕ) → d.moment new t image heard
      → (StaysFormed file image × (g.left old t (Some (pages_in image)) heard ⊎ ((pages_in image ≡ (g.state old).base) × (heard ≡ said)))) ⊎ g.left old t None heard
