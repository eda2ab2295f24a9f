-- What serving a script on a file does whatever its pages are.
use Rattle.std.specs.Prelude.{◌≡◌, ◌⊎◌, ℕ, Bool, false, is_some, List, [], Option, Some, IfErr, IfSome, IsTrue, Result, Err}
use Rattle.std.specs.Option.{ForSome}
use Rattle.mdc_ast.specs.declared.reply.Outcome.{Outcome}
use Rattle.mdc_ast.specs.Reading.{Item}
use Rattle.statement_meaning.specs.Session.{first_settings}
use Rattle.statement_meaning.specs.declared.pass.Pass.TheVariants.{Idle}
use Rattle.mdc_outside.specs.Disk.{File, IsImage}
use Rattle.mdc_outside.specs.Outside.{Takes}
use Rattle.mdc_outside.specs.declared.disk.Disk.{Ghosts}
use Rattle.store_api.specs.declared.fault.Damage.{Damage}
use Rattle.store_api.specs.declared.shape.Shape.{Shape}
use Rattle.table_trees.specs.ToldPages.{PageList}
use Rattle.stored_catalog.specs.StoredDefinitions.{AreStored}
use Rattle.page_store.specs.Opening.{IsDamagedFile}
use Rattle.page_store.specs.Standing.{pages_in}
use Rattle.script_engine.specs.Held.{HeldPages}
use Rattle.file_verdict.specs.Resting.{ComesToRest, StaysFormed}
use Rattle.file_verdict.specs.SoundFile.{StatesExtents}
use Rattle.session.specs.script.AnyGoing.{GoesOnAny}
use Rattle.session.specs.script.AnyStops.{FindsBuilt, IsHeldDamage}
use Rattle.session.specs.script.Going.{Stage, held_last}
use Rattle.session.specs.script.Serving.{EndsScript}
use Rattle.session.specs.declared.script.served.Served.{Served}
use Rattle.session.specs.Stops.{IsOfScript}
use Rattle.session.specs.declared.stop.Stop.{Stop}
use Rattle.session.specs.file.Leaving.{LeftByAnyRun, StopsUnrested}
use Rattle.session.specs.declared.stop.Stop.TheVariants.{Damaged, Device}

-- ---- a run

-- what is held at first of a file that stands for these pages: all of them are committed, no transaction is open, the settings are the
-- first ones, and the cleaner's pass is idle
pub record AreHeldFirst (pages : PageList) (held : HeldPages) : Type 0 where
  pub base : held.base ≡ pages
  pub work : held.work ≡ pages
  pub closed : held.open_ ≡ false
  pub settings : held.settings ≡ first_settings
  pub pass : held.pass ≡ Idle

-- nothing was run: no item was met and none is in hand, nothing was said, and nothing was taken of the script
pub record RunsNothing (items in_hand : List Item) (said : List ℕ) (script left : Option (List ℕ)) : Type 0 where
  pub unmet : items ≡ []
  pub none_in_hand : in_hand ≡ []
  pub unsaid : said ≡ []
  pub untaken : left ≡ script

-- A run of a script on these pages, which are told or not, and may be any: one run of its items on them, each of which does what its
-- statement may, whose texts are said in order, and how it ends. The definitions are those of the pages, or they couldn't be read, and
-- nothing was run.
pub record RunsAnyItems (told : Bool) (pages : PageList) (script left tape new_tape : Option (List ℕ)) (result : Result Served Stop) : Type 0 where
  pub held : HeldPages
  pub first : AreHeldFirst pages held
  pub items : List Item
  pub outcomes : List Outcome
  pub stages : List Stage
  pub in_hand : List Item
  pub goes : GoesOnAny told held items outcomes stages
  pub said : List ℕ
  pub read : (IsTrue told → AreStored pages held.defs) ⊎ RunsNothing items in_hand said script left
  pub tape_is : Takes tape said new_tape
  pub of_script : IfErr result IsOfScript
  pub ends : IfSome script (λ script. EndsScript script left said items in_hand outcomes result)
  pub built : IfErr result (λ stop. FindsBuilt held stages in_hand)

-- Damage that is named of a file of these bytes: the file can't be opened there, or it is that of the pages that the run held then, in
-- the extents that the file states.
abbrev pub IsDamageOf : List ℕ → HeldPages → List Stage → List Item → Damage → Type 0
IsDamageOf file held stages in_hand damage = IsDamagedFile damage file ⊎ ((shape : Shape) → StatesExtents file shape → IsHeldDamage shape held stages in_hand damage)

-- A run of a script on a file: one on the pages that it stands for, where it is told, and the damage at which it stops.
pub record RunsOnServed (file : Option File) (script left tape new_tape : Option (List ℕ)) (result : Result Served Stop) : Type 0 where
  pub pages : PageList
  pub theirs : ForSome file (λ file. pages ≡ pages_in file.bytes)
  pub run : RunsAnyItems (is_some file) pages script left tape new_tape result
  pub damage : (damage : Damage) → result ≡ Err (Damaged damage) → ForSome file (λ file. IsDamageOf file.bytes run.held run.stages run.in_hand damage)

-- ---- what it leaves

-- each image that a crash may leave of a file is formed, states the extents of this one, and stands for these pages
abbrev pub StandsFor : List ℕ → PageList → Option File → Type 0
StandsFor file pages after = ForSome after (λ after. (image : List ℕ) → IsImage after.since image → StaysFormed file image × (pages_in image ≡ pages))

-- The run came to its origin, from which on a crash leaves so much. And at its end, unless a call of the disk failed, each image that may be
-- left stands for the pages of the last commit that were held last.
pub record RestsByRun {D : Type 0} (g : Ghosts D) (before : File) (said : List ℕ) (held : HeldPages) (stages : List Stage) (outcomes : List Outcome) (in_hand : List Item) (old new : D) (result : Result Served Stop) : Type 0 where
  pub rest : ComesToRest g before said (LeftByAnyRun before.bytes held stages outcomes in_hand said) old new
  pub kept : (result ≡ Err Device → ⊥) → StandsFor before.bytes (held_last held stages).base (g.file new)

-- A run of a script on a file that is served, whatever its pages are, and what a crash leaves at each moment of it.
pub record RunsOnAnyFile {D : Type 0} (g : Ghosts D) (before : File) (said : List ℕ) (script left : Option (List ℕ)) (old new : D) (result : Result Served Stop) : Type 0 where
  pub serves : RunsOnServed (Some before) script left (Some said) (g.beside new).tape result
  pub leaves : RestsByRun g before said serves.run.held serves.run.stages serves.run.outcomes serves.run.in_hand old new result ⊎ StopsUnrested g before said script left old new
