-- What is kept behind an item may be a chain of steps, each a commit that leaves the database as it is.
use Rattle.std.specs.Prelude.{◌≡◌, ◌⊎◌, Bool, List, [], ◌∷◌, Some, false, true, IfSome, IsTrue, OnErr, OnOk, IsErrOf, Result, Err}
use Rattle.mdc_words.specs.Faults.{CountsFault}
use Rattle.mdc_words.specs.Time.{OverTime}
use Rattle.statement_meaning.specs.Built.{AreBuiltDefs}
use Rattle.statement_meaning.specs.Session.{Session, rested}
use Rattle.store_api.specs.Moments.{Outcomes}
use Rattle.store_api.specs.StoreState.{StoreState}
use Rattle.store_api.specs.Works.{Rests}
use Rattle.store_api.specs.declared.fault.Damage.{Damage}
use Rattle.store_api.specs.declared.fault.StoreFault.{StoreFault}
use Rattle.store_api.specs.declared.fault.StoreFault.TheVariants.{Damaged, Device}
use Rattle.store_api.specs.declared.pages.Pages.{Ghosts}
use Rattle.store_api.specs.declared.shape.Shape.{Shape}
use Rattle.table_trees.specs.ToldPages.{PageList}
use Rattle.mdc_sound.specs.SoundDatabase.{IsSoundDatabase}
use Rattle.stored_catalog.specs.StoredDefinitions.{AreStored}
use Rattle.script_engine.specs.Breaking.{NamesExactly}
use Rattle.script_engine.specs.Held.{HeldPages, StandsForSession}
use Rattle.script_engine.specs.Leaving.{IsAllCommitted}
use Rattle.script_engine.specs.OnAnyPages.{IsGoingEngine}
use Rattle.script_engine.specs.Serving.{IsReadyEngine, MayCall, held_by}
use Rattle.script_engine.specs.Turns.{IsServedByForms, KeepsTime}
use Rattle.script_engine.specs.declared.engine.Engine.{Engine}

-- ---- the chain

-- A step where no transaction is open: its pages are those before it, sound and committed, and stand for every session that those before
-- stood for, but for how far the pass is. Definitions, which are of built forms, and settings stay. No step changes a page as long as
-- nothing is there to be cleaned.
pub record RestsOnce (shape : Shape) (old new : HeldPages) : Type 0 where
  pub was_shut : old.open_ ≡ false
  pub is_shut : new.open_ ≡ false
  pub work : new.work ≡ old.work
  pub committed : new.base ≡ new.work
  pub sound : IsSoundDatabase shape new.work
  pub stands : (session : Session) → StandsForSession shape old session → StandsForSession shape new (rested session new.pass)
  pub defs : new.defs ≡ old.defs
  pub stored : AreStored new.work new.defs
  pub valid : AreBuiltDefs new.defs
  pub settings : new.settings ≡ old.settings

-- The same whatever the pages are: they are those before it, and committed, and the definitions are those that there were, or those of the
-- pages.
pub record RestsOnceOnAny (told : Bool) (old new : HeldPages) : Type 0 where
  pub was_shut : old.open_ ≡ false
  pub is_shut : new.open_ ≡ false
  pub work : new.work ≡ old.work
  pub committed : new.base ≡ new.work
  pub settings : new.settings ≡ old.settings
  pub defs : (new.defs ≡ old.defs) ⊎ (IsTrue told → AreStored new.work new.defs)

-- steps of such a kind, each from where the one before ends, behind which this is held
pub data RestsBy (Once : HeldPages → HeldPages → Type 0) : HeldPages → List HeldPages → Type 0 where
  nothing : {held : HeldPages} → RestsBy Once held []
  one : {held next : HeldPages} {rests : List HeldPages} → Once held next → RestsBy Once next rests → RestsBy Once held (next ∷ rests)

-- steps on sound pages
abbrev pub RestsOnPages : Shape → HeldPages → List HeldPages → Type 0
RestsOnPages shape = RestsBy (RestsOnce shape)

-- what is held behind the last of them
abbrev pub held_behind : HeldPages → List HeldPages → HeldPages
held_behind held [] = held
held_behind held (next ∷ rests) = held_behind next rests

-- it is held before them all, or behind one of them
abbrev pub IsHeldWithin : HeldPages → List HeldPages → HeldPages → Type 0
IsHeldWithin held [] within = within ≡ held
IsHeldWithin held (next ∷ rests) within = (within ≡ held) ⊎ IsHeldWithin next rests within

-- ---- what the engine does by it

-- the pages are those of the last commit before such steps, or behind one of them
abbrev pub IsBaseWithin : HeldPages → List HeldPages → PageList → Type 0
IsBaseWithin held rests pages = (within : HeldPages) × IsHeldWithin held rests within × (pages ≡ within.base)

-- the pages are those that were held before such steps, or behind one of them
abbrev pub IsWorkWithin : HeldPages → List HeldPages → PageList → Type 0
IsWorkWithin held rests pages = (within : HeldPages) × IsHeldWithin held rests within × (pages ≡ within.work)

-- the pages to which the file reopens after a crash within such steps, with the bytes told before them, where they are told
abbrev pub LeftResting : HeldPages → List HeldPages → StoreState → Outcomes
LeftResting held rests s left told = ((pages : PageList) × (left ≡ Some pages) × IsBaseWithin held rests pages) × IfSome s.told (λ bytes. told ≡ bytes)

-- whatever the pages are: the file reopens to some pages, with the bytes told before, where they are told
abbrev pub LeftTold : StoreState → Outcomes
LeftTold s left told = ((pages : PageList) × (left ≡ Some pages)) × IfSome s.told (λ bytes. told ≡ bytes)

-- An engine took steps of such a kind: it is as such steps leave it behind the last, or it stopped, and then the last was perhaps not
-- committed, where a call of the disk failed. Where it stopped at damage, the pages are those that were held before such steps, or
-- behind one of them.
pub record TakesStepsBy {S : Type 0} (g : Ghosts S) (Once : HeldPages → HeldPages → Type 0) (Ready : Engine S → Type 0) (result : Result (Unit {0}) StoreFault) (old new : Engine S) : Type 0 where
  pub rests : List HeldPages
  pub steps : RestsBy Once (held_by g old) rests
  pub last : OnOk result ((held_by g new ≡ held_behind (held_by g old) rests) × Ready new)
  pub base : IsBaseWithin (held_by g old) rests (g.state new.store).base
  pub kept : OnErr result ((IsErrOf result Device → ⊥) → (g.state new.store).base ≡ (held_behind (held_by g old) rests).base)
  pub work : (damage : Damage) → result ≡ Err (Damaged damage) → IsWorkWithin (held_by g old) rests (g.state new.store).work
  pub time : OverTime g.clock g.left (LeftResting (held_by g old) rests (g.state old.store)) old.store new.store

-- a sound engine took steps that leave it sound
abbrev pub TakesSteps : {S : Type 0} → Ghosts S → Result (Unit {0}) StoreFault → Engine S → Engine S → Type 0
TakesSteps g result old new = TakesStepsBy g (RestsOnce old.tables.shape) (IsReadyEngine g) result old new

-- one that may go on took steps whatever the pages are
abbrev pub TakesStepsOnAny : {S : Type 0} → Ghosts S → Result (Unit {0}) StoreFault → Engine S → Engine S → Type 0
TakesStepsOnAny g result old new = TakesStepsBy g (RestsOnceOnAny (g.state old.store).is_told) (IsGoingEngine g) result old new

-- The engine did what is left to be done after an answer: steps that leave it sound, or, whatever the pages are, such as may go on. A
-- transaction stays open or none, all that was committed is, nothing is told, no page comes to hand, and the file reopens; no damage is
-- named of sound pages, and damage that is named is exact.
pub record Settles {S : Type 0} (g : Ghosts S) (result : Result (Unit {0}) StoreFault) (old new : Engine S) : Type 0 where
  pub takes : IsReadyEngine g old → TakesSteps g result old new
  pub takes_any : IsGoingEngine g old → TakesStepsOnAny g result old new
  pub still : old.is_open ≡ true → held_by g new ≡ held_by g old
  pub may : OnOk result (MayCall g new)
  pub built : OnOk result (IsServedByForms old → IsServedByForms new)
  pub keeps : OnOk result (IsAllCommitted (held_by g old) → IsAllCommitted (held_by g new))
  pub opens : new.is_open ≡ old.is_open
  pub damaged : (damage : Damage) → result ≡ Err (Damaged damage) → IsReadyEngine g old → ⊥
  pub exact : NamesExactly g old.tables.shape result new.store
  pub going : (IsErrOf result Device → ⊥) → (g.state new.store).ended ≡ false
  pub committed : (damage : Damage) → result ≡ Err (Damaged damage) → IsAllCommitted (held_by g old) → IsAllCommitted (held_by g new)
  pub shape : new.tables.shape ≡ old.tables.shape
  pub device : CountsFault (IsErrOf result Device) (g.disk_faults old.store) (g.disk_faults new.store)
  pub say_faults : g.say_faults new.store ≡ g.say_faults old.store
  pub is_told : (g.state new.store).is_told ≡ (g.state old.store).is_told
  pub told : (g.state new.store).told ≡ (g.state old.store).told
  pub fetched : (g.state new.store).fetched ≡ (g.state old.store).fetched
  pub beside : (g.state new.store).beside ≡ (g.state old.store).beside
  pub time : OverTime g.clock g.left (LeftTold (g.state old.store)) old.store new.store
  pub at_rest : KeepsTime g → (g.state old.store).ended ≡ false → Rests g old.store → Rests g new.store
