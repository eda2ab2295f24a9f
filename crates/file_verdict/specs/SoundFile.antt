-- Which files are sound: each bit of what they stand for is as it should be (docs/FORMAT.md, "Rules").
use Rattle.std.specs.Prelude.{◌≡◌, ℕ, List}
use Rattle.mdc_outside.specs.Disk.{File, IsImage}
use Rattle.store_api.specs.declared.shape.Shape.{Shape}
use Rattle.mdc_sound.specs.SoundDatabase.{IsSoundDatabase}
use Rattle.page_file.specs.Layout.{file_page}
use Rattle.page_store.specs.Shape.{extents_in, extent_pages_in}
use Rattle.page_store.specs.Standing.{IsFormed, pages_in}

-- the birth page of a file states the shape
pub record StatesExtents (file : List ℕ) (shape : Shape) : Type 0 where
  pub extents : extents_in (file_page file 1) ≡ shape.extents
  pub extent_pages : extent_pages_in (file_page file 1) ≡ shape.extent_pages

-- A file is sound: it was made, a journal that counts fits, none of its pages is missing, and the pages that it stands for keep the
-- twelve rules.
pub record IsSoundFile (file : List ℕ) : Type 0 where
  pub formed : IsFormed file
  pub shape : Shape
  pub states : StatesExtents file shape
  pub sound : IsSoundDatabase shape (pages_in file)

-- each image that a crash may leave of a file is sound
abbrev pub AreSoundFiles : File → Type 0
AreSoundFiles file = (image : List ℕ) → IsImage file.since image → IsSoundFile image
