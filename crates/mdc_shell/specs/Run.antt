-- What the runs of scripts do to their source, their file and their tape, for each end (docs/PROGRAM.md).
use Rattle.std.specs.Prelude.{◌≡◌, ◌⊎◌, ◌≤◌, ◌+◌, ◌++◌, ℕ, List, [], Option, Some, None, Result, Err, length}
use Rattle.std.specs.Option.{ForSome}
use Rattle.mdc_ast.specs.Database.{empty_database}
use Rattle.mdc_ast.specs.declared.reply.Outcome.{Outcome}
use Rattle.mdc_ast.specs.Reading.{Item}
use Rattle.mdc_outside.specs.Disk.{File}
use Rattle.mdc_words.specs.Time.{OverTime}
use Rattle.mdc_outside.specs.Moments.{IsMoment}
use Rattle.mdc_outside.specs.Outside.{Takes, TakesPart}
use Rattle.mdc_outside.specs.declared.disk.Disk.{Ghosts}
use Rattle.store_api.specs.declared.shape.Shape.{Shape}
use Rattle.mdc_sound.specs.StandsForDatabase.{PagesStandFor}
use Rattle.page_store.specs.Standing.{pages_in}
use Rattle.script_engine.specs.Held.{HeldPages}
use Rattle.file_verdict.specs.Resting.{ComesToRest, StaysFormed}
use Rattle.file_verdict.specs.SoundFile.{StatesExtents}
use Rattle.session.specs.script.Ending.{script_limit}
use Rattle.session.specs.script.Fetching.{FetchesInRun}
use Rattle.session.specs.script.Going.{Stage, held_last}
use Rattle.session.specs.script.Told.{TellsMore}
use Rattle.session.specs.declared.script.served.Served.{Served}
use Rattle.session.specs.file.MadePages.{made_pages}
use Rattle.session.specs.file.AnyServing.{RunsOnServed, StandsFor}
use Rattle.session.specs.file.Ending.{IsCauseIn, IsRefused, IsUnopened}
use Rattle.session.specs.file.Leaving.{LeftByAnyRun}
use Rattle.session.specs.file.Serving.{RunsItems, RunsOnFile}
use Rattle.session.specs.declared.stop.Stop.{Stop}
use Rattle.session.specs.declared.stop.Stop.TheVariants.{Device, Memory}
use Rattle.mdc_shell.specs.Create.{exists_line}
use Rattle.mdc_shell.specs.Leaving.{HasPart}
use Rattle.mdc_shell.specs.Status.{SaysEnd, line_of_end, status_of}

-- the source tells a script within the limit
abbrev pub IsWithinLimit : Option (List ℕ) → Type 0
IsWithinLimit None = ⊥
IsWithinLimit (Some script) = length script ≤ script_limit

-- `run FILE` on any file: the end has its cause in it where it is told, and its line is said behind the replies. Unless the file was
-- refused, there is one run of the script's items on its pages, whatever they are: each does what its statement may, the replies are
-- those of its outcomes, and damage that is named is that of the file, or of the pages that were held then.
pub record ServesPath (file : Option File) (script left tape new_tape : Option (List ℕ)) (status : ℕ) : Type 0 where
  pub end_ : Result Served Stop
  pub cause : ForSome file (λ file. IsCauseIn file.bytes end_)
  pub before_line : Option (List ℕ)
  pub kept : TellsMore tape before_line
  pub any : IsRefused end_ ⊎ RunsOnServed file script left tape before_line end_
  pub ends : SaysEnd before_line new_tape status end_

-- what a crash left before the line of an end was said, also with a first part of it behind all that was said then
abbrev pub LeftWithLine : (List ℕ → List ℕ → Type 0) → List ℕ → List ℕ → List ℕ → List ℕ → Type 0
LeftWithLine Left heard line image tape = Left image tape ⊎ (Left image heard × HasPart line heard tape)

-- Such a run that came to its origin: from there on a crash leaves what the run leaves, also while the line of its end is said. And at the
-- end, unless a call of the disk failed, each image that may be left stands for the pages of the last commit that were held last.
pub record RestsByPath {D : Type 0} (g : Ghosts D) (before : File) (said heard : List ℕ) (held : HeldPages) (stages : List Stage) (outcomes : List Outcome) (in_hand : List Item) (old new : D) (end_ : Result Served Stop) : Type 0 where
  pub rest : ComesToRest g before said (LeftWithLine (LeftByAnyRun before.bytes held stages outcomes in_hand said) heard (line_of_end end_)) old new
  pub kept : (end_ ≡ Err Device → ⊥) → StandsFor before.bytes (held_last held stages).base (g.file new)

-- the run stopped before any origin: nothing was taken, and a crash meanwhile leaves an image that could be left before, with a first part of
-- the line of the end
abbrev pub StopsUnrestedPath : {D : Type 0} → Ghosts D → File → List ℕ → Option (List ℕ) → Option (List ℕ) → D → D → Result Served Stop → Type 0
StopsUnrestedPath g before said script left old new end_ = OverTime g.clock g.moment (IsMoment before.since said (line_of_end end_)) old new × (left ≡ script)

-- `run FILE` on a file that is served, whatever its pages are: one run of the script's items on them, and what a crash leaves at each
-- moment of it
pub record RunsAnyPath {D : Type 0} (g : Ghosts D) (before : File) (said : List ℕ) (script left new_tape : Option (List ℕ)) (old new : D) (status : ℕ) : Type 0 where
  pub end_ : Result Served Stop
  pub heard : List ℕ
  pub serves : RunsOnServed (Some before) script left (Some said) (Some heard) end_
  pub ends : SaysEnd (Some heard) new_tape status end_
  pub leaves : RestsByPath g before said heard serves.run.held serves.run.stages serves.run.outcomes serves.run.in_hand old new end_ ⊎ StopsUnrestedPath g before said script left old new end_

-- `run FILE` on a file that is well: a run of the script's items on what it stands for, with a log that told these fetches before and tells
-- those now
pub record RunsPath {D : Type 0} (g : Ghosts D) (before : File) (said : List ℕ) (script left : Option (List ℕ)) (old new : D) (status : ℕ) (log now : Option (List ℕ)) : Type 0 where
  pub end_ : Result Served Stop
  pub run : RunsOnFile g before said script left old new end_ log now
  pub status_is : status ≡ status_of end_

-- `run FILE` on a file that can't be opened: nothing but the line of its cause is said, and a crash meanwhile leaves an image that
-- could be left before.
pub record RefusesFile {D : Type 0} (g : Ghosts D) (before : File) (said : List ℕ) (new_tape : Option (List ℕ)) (old new : D) (status : ℕ) : Type 0 where
  pub end_ : Result Served Stop
  pub unopened : IsUnopened end_
  pub cause : IsCauseIn before.bytes end_
  pub ends : SaysEnd (Some said) new_tape status end_
  pub time : OverTime g.clock g.moment (IsMoment before.since said (line_of_end end_)) old new

-- `run FILE` that stopped before any origin: the end has its cause in the file, nothing was taken of the script, nothing but the line of
-- the end is said, and a crash meanwhile leaves an image that could be left before.
pub record StopsBeforeOrigin {D : Type 0} (g : Ghosts D) (before : File) (said : List ℕ) (script left new_tape : Option (List ℕ)) (old new : D) (status : ℕ) : Type 0 where
  pub end_ : Result Served Stop
  pub untaken : left ≡ script
  pub cause : IsCauseIn before.bytes end_
  pub ends : SaysEnd (Some said) new_tape status end_
  pub time : OverTime g.clock g.moment (IsMoment before.since said (line_of_end end_)) old new

-- `run FILE` on a formed file, whatever its pages are: from the run's origin on a crash leaves a formed image of the extents that the
-- file states, whose front is as it was, also while the line of the end is said; or the run stopped before any origin.
abbrev pub ReopensFile : {D : Type 0} → Ghosts D → File → List ℕ → Option (List ℕ) → Option (List ℕ) → Option (List ℕ) → D → D → ℕ → Type 0
ReopensFile g before said script left new_tape old new status =
    ComesToRest g before said (λ image tape. StaysFormed before.bytes image) old new ⊎ StopsBeforeOrigin g before said script left new_tape old new status

-- What was taken of a script, by the status of its run, whatever the file is: all of it, one byte more than the limit, or a part
-- within it.
pub record TakesByStatus (script : List ℕ) (left : Option (List ℕ)) (status : ℕ) : Type 0 where
  pub taken : List ℕ
  pub rest : List ℕ
  pub script_is : script ≡ taken ++ rest
  pub left_is : left ≡ Some rest
  pub all : (status ≡ 0) ⊎ (status ≡ 1) → rest ≡ []
  pub past : status ≡ 7 → length taken ≡ script_limit + 1
  pub within : (status ≡ 7 → ⊥) → length taken ≤ script_limit

-- `run -` on a scratch file without a byte: a run of the script's items on a database of 4,096 extents of 4 pages without a table, with a log
-- that told these fetches before and tells those now
pub record RunsScratch (said : List ℕ) (script left new_tape : Option (List ℕ)) (status : ℕ) (log now : Option (List ℕ)) : Type 0 where
  pub end_ : Result Served Stop
  pub shape : Shape
  pub extents : shape.extents ≡ 4096
  pub extent_pages : shape.extent_pages ≡ 4
  pub run : RunsItems shape (made_pages 4096) said script left new_tape end_
  pub fetches : FetchesInRun shape run.held run.items run.in_hand run.stages log now
  pub empty : run.db ≡ empty_database
  pub status_is : status ≡ status_of end_

-- `run -` on a scratch file that has a byte: it is refused, unless the disk failed or memory was wanted before
abbrev pub RefusesScratch : List ℕ → Option (List ℕ) → ℕ → Type 0
RefusesScratch said new_tape status =
    ((status ≡ 6) × Takes (Some said) exists_line new_tape) ⊎ ((status ≡ 5) × TakesPart (Some said) exists_line new_tape)
    ⊎ (((status ≡ 3) ⊎ (status ≡ 8)) × (new_tape ≡ Some said))

-- a stop that may come before anything of a script is taken
abbrev pub IsStopBefore : Stop → Type 0
IsStopBefore Device = Unit {0}
IsStopBefore Memory = Unit {0}
IsStopBefore stop = ⊥

-- the file stands for a database without a table
pub record StandsForNothing (file : List ℕ) : Type 0 where
  pub shape : Shape
  pub states : StatesExtents file shape
  pub stands : PagesStandFor shape (pages_in file) empty_database

-- a script within the limit is run to its end, unless memory is wanted
abbrev pub IsComplete : ℕ → Type 0
IsComplete status = (status ≡ 0) ⊎ (status ≡ 1) ⊎ (status ≡ 8)
