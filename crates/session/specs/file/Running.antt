-- What serving a script does to a store, and to the host that the store gives back.
use Rattle.std.specs.Prelude.{◌≡◌, ◌⊎◌, ◌≤◌, ℕ, is_some, List, Option, Some, None, IfErr, IfSome, IsTrue, Result, Err}
use Rattle.std.specs.Option.{ForSome}
use Rattle.mdc_words.specs.Time.{OverTime}
use Rattle.mdc_ast.specs.declared.reply.Outcome.{Outcome}
use Rattle.mdc_ast.specs.Reading.{Item}
use Rattle.mdc_outside.specs.Disk.{File}
use Rattle.mdc_outside.specs.Outside.{Takes}
use Rattle.mdc_outside.specs.declared.disk.Disk as disk
use Rattle.store_api.specs.declared.fault.Damage.{Damage}
use Rattle.store_api.specs.declared.pages.Pages as pages
use Rattle.store_api.specs.declared.shape.Shape.{Shape}
use Rattle.page_store.specs.Standing.{IsFormed, pages_in}
use Rattle.script_engine.specs.Held.{HeldPages}
use Rattle.stored_catalog.specs.StoredDefinitions.{AreStored}
use Rattle.file_verdict.specs.Resting.{StaysFormed}
use Rattle.file_verdict.specs.SoundFile.{StatesExtents}
use Rattle.session.specs.script.AnyGoing.{GoesOnAny}
use Rattle.session.specs.script.AnyStops.{FindsBuilt, IsHeldDamage}
use Rattle.session.specs.script.Fetching.{FetchesInRun}
use Rattle.session.specs.script.Going.{GoesOnPages, Stage, held_last}
use Rattle.session.specs.script.Leaving.{AreServedPages, LeftByServing, LeftOnAny}
use Rattle.session.specs.script.Serving.{EndsScript}
use Rattle.session.specs.declared.script.served.Served.{Served}
use Rattle.session.specs.declared.stop.Stop.{Stop}
use Rattle.session.specs.declared.stop.Stop.TheVariants.{Damaged, Device}
use Rattle.session.specs.file.AnyServing.{AreHeldFirst, RunsAnyItems, RunsNothing}
use Rattle.session.specs.file.Serving.{IsOpened, RunsItems}

-- A run of a script on a store that tells sound pages, all of which are committed: one run of its items on these, whose texts are
-- told in order, which pages came to hand, how it ends, and what a crash meanwhile leaves.
pub record RunsOnStore {S : Type 0} (g : pages.Ghosts S) (shape : Shape) (script left : Option (List ℕ)) (old new : S) (result : Result Served Stop) : Type 0 where
  pub served : AreServedPages shape (g.state old).base
  pub held : HeldPages
  pub opened : IsOpened (g.state old).base held
  pub items : List Item
  pub outcomes : List Outcome
  pub stages : List Stage
  pub in_hand : List Item
  pub goes : GoesOnPages shape held items outcomes stages
  pub fetches : FetchesInRun shape held items in_hand stages (g.state old).fetched (g.state new).fetched
  pub said : List ℕ
  pub told : Takes (g.state old).told said (g.state new).told
  pub undamaged : (damage : Damage) → result ≡ Err (Damaged damage) → ⊥
  pub ends : IfSome script (λ script. EndsScript script left said items in_hand outcomes result)
  pub time : (before : List ℕ) → (g.state old).told ≡ Some before
      → OverTime g.clock g.left (LeftByServing shape held stages outcomes in_hand before) old new

-- What was left of a store since a time, by an image of the host that it gives back: the image is formed and states the extents, and
-- the store left the pages that it stands for at its opening, or the run leaves them. Or the store left a file that doesn't reopen.
abbrev pub IsLeftSince : (List (List ℕ) → List ℕ → Type 0) → Shape → (Option (List (List ℕ)) → List ℕ → Type 0) → List ℕ → List ℕ → Type 0
IsLeftSince Run shape left image heard =
    (IsFormed image × StatesExtents image shape × (left (Some (pages_in image)) heard ⊎ Run (pages_in image) heard)) ⊎ left None heard

-- Such a run over the lists of rows that the pages stand for, as the host has it to which the store was closed, and the log, which tells
-- these fetches now.
pub record ServesStore {S D : Type 0} (g : pages.Ghosts S) (d : disk.Ghosts D) (shape : Shape) (said : List ℕ) (script left : Option (List ℕ)) (old : S) (new : D) (result : Result Served Stop) (now : Option (List ℕ)) : Type 0 where
  pub served : AreServedPages shape (g.state old).base
  pub run : RunsItems shape (g.state old).base said script left (d.beside new).tape result
  pub fetches : FetchesInRun shape run.held run.items run.in_hand run.stages (g.state old).fetched now
  pub since : (t : ℕ) → t ≤ g.clock old → (image heard : List ℕ) → d.moment new t image heard
      → IsLeftSince (λ pages heard. LeftByServing shape run.held run.stages run.outcomes run.in_hand said (Some pages) heard) shape (g.left old t) image heard

-- Whatever the pages are: since each time up to the opening of the store, a crash leaves an image of the host that is formed and
-- states what the file states, or the store left a file then that doesn't reopen.
pub record LeavesFormed {S D : Type 0} (g : pages.Ghosts S) (d : disk.Ghosts D) (file : List ℕ) (old : S) (new : D) : Type 0 where
  pub since : (t : ℕ) → t ≤ g.clock old → (image heard : List ℕ) → d.moment new t image heard → StaysFormed file image ⊎ g.left old t None heard

-- ---- whatever the pages are

-- A run of a script on a store, all of whose pages are committed, whatever they are: one run of its items on these, whose texts are told
-- in order, how it ends, and what a crash meanwhile leaves.
pub record RunsAnyOnStore {S : Type 0} (g : pages.Ghosts S) (shape : Shape) (script left : Option (List ℕ)) (old new : S) (result : Result Served Stop) : Type 0 where
  pub held : HeldPages
  pub first : AreHeldFirst (g.state old).base held
  pub items : List Item
  pub outcomes : List Outcome
  pub stages : List Stage
  pub in_hand : List Item
  pub goes : GoesOnAny (g.state old).is_told held items outcomes stages
  pub said : List ℕ
  pub read : (IsTrue (g.state old).is_told → AreStored (g.state old).base held.defs) ⊎ RunsNothing items in_hand said script left
  pub told : Takes (g.state old).told said (g.state new).told
  pub ends : IfSome script (λ script. EndsScript script left said items in_hand outcomes result)
  pub built : IfErr result (λ stop. FindsBuilt held stages in_hand)
  pub damage : (damage : Damage) → result ≡ Err (Damaged damage) → IsTrue (g.state old).is_told → IsHeldDamage shape held stages in_hand damage
  pub kept : (result ≡ Err Device → ⊥) → (g.state new).base ≡ (held_last held stages).base
  pub time : (before : List ℕ) → (g.state old).told ≡ Some before → OverTime g.clock g.left (LeftOnAny held stages outcomes in_hand before) old new

-- What was left of a store since a time, by an image of the host that it gives back: the image is formed, states what the file states, and
-- the store left the pages that it stands for at its opening, or the run leaves them. Or the store left a file that doesn't reopen.
abbrev pub IsLeftSinceAny : (List (List ℕ) → List ℕ → Type 0) → List ℕ → (Option (List (List ℕ)) → List ℕ → Type 0) → List ℕ → List ℕ → Type 0
IsLeftSinceAny Run file left image heard = (StaysFormed file image × (left (Some (pages_in image)) heard ⊎ Run (pages_in image) heard)) ⊎ left None heard

-- Such a run, as the host has it to which the store was closed, which told its file or not as the run began.
pub record ServesAny {S D : Type 0} (g : pages.Ghosts S) (d : disk.Ghosts D) (file : Option File) (script left : Option (List ℕ)) (old : S) (new : D) (result : Result Served Stop) : Type 0 where
  pub run : RunsAnyItems (is_some file) (g.state old).base script left (g.state old).told (d.beside new).tape result
  pub damage : (damage : Damage) → result ≡ Err (Damaged damage) → ForSome file (λ file. (shape : Shape) → StatesExtents file.bytes shape → IsHeldDamage shape run.held run.stages run.in_hand damage)
  pub since : (said : List ℕ) → (g.state old).told ≡ Some said → ForSome file (λ file. (t : ℕ) → t ≤ g.clock old → (image heard : List ℕ) → d.moment new t image heard
      → IsLeftSinceAny (λ pages heard. LeftOnAny run.held run.stages run.outcomes run.in_hand said (Some pages) heard) file.bytes (g.left old t) image heard)
  pub kept : (result ≡ Err Device → ⊥) → (said : List ℕ) → (g.state old).told ≡ Some said → ForSome file (λ file. (image heard : List ℕ) → d.moment new (d.clock new) image heard
      → StaysFormed file.bytes image × (pages_in image ≡ (held_last run.held run.stages).base))
