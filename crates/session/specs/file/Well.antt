-- Which files are well: each bit of what they stand for is as it should be (docs/FORMAT.md).
use Rattle.std.specs.Prelude.{ℕ, List}
use Rattle.mdc_outside.specs.Disk.{File, IsImage}
use Rattle.page_store.specs.Standing.{IsFormed, pages_in}
use Rattle.store_api.specs.declared.shape.Shape.{Shape}
use Rattle.file_verdict.specs.SoundFile.{StatesExtents}
use Rattle.session.specs.script.Leaving.{AreServedPages}

-- A file is well: it was made and none of its pages is missing, and the pages that it stands for are a sound database of tables of
-- built forms.
pub record IsWell (file : List ℕ) : Type 0 where
  pub formed : IsFormed file
  pub shape : Shape
  pub states : StatesExtents file shape
  pub served : AreServedPages shape (pages_in file)

-- each image that a crash may leave of a file is well
abbrev pub AreWell : File → Type 0
AreWell file = (image : List ℕ) → IsImage file.since image → IsWell image
