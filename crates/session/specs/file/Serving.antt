-- What serving a script on a database file does.
use Rattle.std.specs.Prelude.{◌≡◌, ◌++◌, ℕ, List, Option, Some, IfErr, IfSome, Result, Err, false}
use Rattle.mdc_ast.specs.declared.reply.Outcome.{Outcome}
use Rattle.mdc_ast.specs.Reading.{Item}
use Rattle.mdc_ast.specs.Database.{Database}
use Rattle.statement_meaning.specs.Session.{Session, first_settings, session_on}
use Rattle.statement_meaning.specs.declared.pass.Pass.TheVariants.{Idle}
use Rattle.mdc_outside.specs.Disk.{File}
use Rattle.mdc_outside.specs.declared.disk.Disk.{Ghosts}
use Rattle.store_api.specs.declared.fault.Damage.{Damage}
use Rattle.store_api.specs.declared.shape.Shape.{Shape}
use Rattle.table_trees.specs.ToldPages.{PageList}
use Rattle.mdc_sound.specs.StandsForDatabase.{PagesStandFor}
use Rattle.stored_catalog.specs.StoredDefinitions.{AreStored}
use Rattle.page_store.specs.Standing.{pages_in}
use Rattle.script_engine.specs.Held.{HeldPages}
use Rattle.file_verdict.specs.Resting.{LeavesSince}
use Rattle.file_verdict.specs.SoundFile.{StatesExtents}
use Rattle.session.specs.script.Fetching.{FetchesInRun}
use Rattle.session.specs.script.Going.{GoesOnPages, Stage}
use Rattle.session.specs.script.Lists.{GoesOnLists}
use Rattle.session.specs.script.Serving.{EndsScript, TakesScript}
use Rattle.session.specs.declared.script.served.Served.{Served}
use Rattle.session.specs.Stops.{IsOfScript}
use Rattle.session.specs.declared.stop.Stop.{Stop}
use Rattle.session.specs.declared.stop.Stop.TheVariants.{Damaged}
use Rattle.session.specs.file.Leaving.{LeftByRun}

-- what is held of a file that was opened: its pages, all of which are committed, no transaction is open, the settings are the first
-- ones, and the cleaner's pass is idle
pub record IsOpened (pages : PageList) (held : HeldPages) : Type 0 where
  pub base : held.base ≡ pages
  pub work : held.work ≡ pages
  pub defs : AreStored pages held.defs
  pub closed : held.open_ ≡ false
  pub settings : held.settings ≡ first_settings
  pub pass : held.pass ≡ Idle

-- A run of a script on these pages, which are sound: one run of its items on them, and so one over the plain lists of rows that
-- they stand for, whose texts are said in order, and how it ends.
pub record RunsItems (shape : Shape) (pages : PageList) (said : List ℕ) (script left tape : Option (List ℕ)) (result : Result Served Stop) : Type 0 where
  pub held : HeldPages
  pub opened : IsOpened pages held
  pub db : Database
  pub stands : PagesStandFor shape pages db
  pub items : List Item
  pub outcomes : List Outcome
  pub stages : List Stage
  pub in_hand : List Item
  pub goes : GoesOnPages shape held items outcomes stages
  pub sessions : List Session
  pub lists : GoesOnLists shape held (session_on db) items outcomes stages sessions
  pub more : List ℕ
  pub tape_is : tape ≡ Some (said ++ more)
  pub undamaged : (damage : Damage) → result ≡ Err (Damaged damage) → ⊥
  pub of_script : IfErr result IsOfScript
  pub ends : IfSome script (λ script. EndsScript script left more items in_hand outcomes result)

-- the script was begun, and how much of it was taken, whatever the file's pages are
abbrev pub TakesBySession : Option (List ℕ) → Option (List ℕ) → Result Served Stop → Type 0
TakesBySession script left result = IfErr result IsOfScript × IfSome script (λ script. TakesScript script left result)

-- A run of a script on a file of these bytes, which is well: such a run on the pages that it stands for, which of them came to hand, by a
-- log that told these fetches before and tells those now, and what a crash leaves at each moment of it.
pub record RunsOnFile {D : Type 0} (g : Ghosts D) (before : File) (said : List ℕ) (script left : Option (List ℕ)) (old new : D) (result : Result Served Stop) (log now : Option (List ℕ)) : Type 0 where
  pub shape : Shape
  pub states_extents : StatesExtents before.bytes shape
  pub run : RunsItems shape (pages_in before.bytes) said script left (g.beside new).tape result
  pub fetches : FetchesInRun shape run.held run.items run.in_hand run.stages log now
  pub leaves : LeavesSince g before said (LeftByRun shape run.held run.stages run.outcomes run.in_hand said) old new
