-- What a crash within a run on a file leaves of the file and the tape.
use Rattle.std.specs.Prelude.{◌≡◌, ℕ, List, Option, Some}
use Rattle.mdc_words.specs.Time.{OverTime}
use Rattle.mdc_ast.specs.declared.reply.Outcome.{Outcome}
use Rattle.mdc_ast.specs.Reading.{Item}
use Rattle.mdc_outside.specs.Disk.{File, IsImage}
use Rattle.mdc_outside.specs.declared.disk.Disk.{Ghosts}
use Rattle.store_api.specs.declared.shape.Shape.{Shape}
use Rattle.page_file.specs.Leaving.{LeavesImage}
use Rattle.page_store.specs.Opened.{CouldBeLeft}
use Rattle.page_store.specs.Standing.{IsFormed, pages_in}
use Rattle.file_verdict.specs.Resting.{StaysFormed}
use Rattle.file_verdict.specs.SoundFile.{StatesExtents}
use Rattle.script_engine.specs.Held.{HeldPages}
use Rattle.session.specs.script.Going.{Stage}
use Rattle.session.specs.script.Leaving.{LeftByServing, LeftOnAny}

-- A crash within a run leaves a well image that stands for the pages of the last commit after some of the items, with each whose
-- reply was begun, and at most one more.
pub record LeftByRun (shape : Shape) (held : HeldPages) (stages : List Stage) (outcomes : List Outcome) (in_hand : List Item) (said image tape : List ℕ) : Type 0 where
  pub formed : IsFormed image
  pub states_extents : StatesExtents image shape
  pub left : LeftByServing shape held stages outcomes in_hand said (Some (pages_in image)) tape

-- Whatever the pages are, a crash within a run leaves a formed image of the extents that the file states, which stands for pages of the
-- last commit after some of the items, with each whose reply was begun, and at most one more.
pub record LeftByAnyRun (file : List ℕ) (held : HeldPages) (stages : List Stage) (outcomes : List Outcome) (in_hand : List Item) (said image tape : List ℕ) : Type 0 where
  pub stays : StaysFormed file image
  pub left : LeftOnAny held stages outcomes in_hand said (Some (pages_in image)) tape

-- the run stopped before any origin: a crash meanwhile leaves what could be left before, and nothing was taken of the script
abbrev pub StopsUnrested : {D : Type 0} → Ghosts D → File → List ℕ → Option (List ℕ) → Option (List ℕ) → D → D → Type 0
StopsUnrested g before said script left old new = OverTime g.clock g.moment (LeavesImage (CouldBeLeft before) said) old new × (left ≡ script)

-- each image that a crash may leave of a file is formed
abbrev pub AreFormed : File → Type 0
AreFormed file = (image : List ℕ) → IsImage file.since image → IsFormed image
