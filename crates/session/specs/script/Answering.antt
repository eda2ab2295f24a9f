-- What the answer to one item does to an engine.
use Rattle.std.specs.Prelude.{◌≡◌, ◌⊎◌, ◌≤◌, ℕ, Bool, List, false, [], ◌∷◌, IsErrOf, None, OnErr, OnOk, Some, IfSome, Result, Ok, Err}
use Rattle.mdc_words.specs.Faults.{CountsFault}
use Rattle.mdc_words.specs.Time.{OverTime}
use Rattle.mdc_ast.specs.declared.reply.Outcome.{Outcome}
use Rattle.mdc_ast.specs.Reading.{Item}
use Rattle.statement_meaning.specs.Texts.{outcome_text}
use Rattle.store_api.specs.Calls.{Tells, TellsPart}
use Rattle.store_api.specs.Fetching.{Brought}
use Rattle.store_api.specs.Moments.{BaseWithFront, Outcomes}
use Rattle.store_api.specs.StoreState.{StoreState}
use Rattle.store_api.specs.Works as works
use Rattle.store_api.specs.declared.fault.Damage.{Damage}
use Rattle.store_api.specs.declared.pages.Pages.{Ghosts}
use Rattle.store_api.specs.declared.shape.Shape.{Shape}
use Rattle.table_trees.specs.ToldPages.{PageList}
use Rattle.script_engine.specs.Held.{HeldPages}
use Rattle.script_engine.specs.OnAnyPages.{BaseBeforeOrAfter, IsGoingEngine}
use Rattle.script_engine.specs.Serving.{IsReadyEngine, MayCall, held_by}
use Rattle.script_engine.specs.Turns.{LeavesOutside}
use Rattle.script_engine.specs.declared.engine.Engine.{Engine}
use Rattle.store_api.specs.declared.fault.StoreFault.{StoreFault}
use Rattle.store_api.specs.declared.fault.StoreFault.TheVariants.{Damaged, Device}
use Rattle.session.specs.script.Engines.{IsAnyEngine, IsSoundEngine}
use Rattle.session.specs.script.Fetching.{FetchesMore}
use Rattle.session.specs.script.Going.{still}
use Rattle.session.specs.script.Leaving.{AreKept}
use Rattle.session.specs.Stops.{stop_of_fault}
use Rattle.session.specs.script.TheWays.{on_any, on_sound}
use Rattle.session.specs.script.Ways.{Way}
use Rattle.session.specs.declared.stop.Stop.{Stop}
use Rattle.session.specs.declared.stop.Stop.TheVariants.{Memory, Unsaid}

-- ---- an item

-- the item brought to hand what it may
pub record FetchesItem {S : Type 0} (way : Way) (g : Ghosts S) (item : Item) (old new : Engine S) : Type 0 where
  pub pages : List ℕ
  pub brings : way.Brings (held_by g old) item pages
  pub brought : Brought g pages old.store new.store

-- the item has an outcome, and what it may be done to what is held was done; a crash meanwhile leaves the pages of the last commit
-- before it or after it
pub record AnswersBy {S : Type 0} (way : Way) (Ready : Engine S → Type 0) (g : Ghosts S) (item : Item) (outcome : Outcome) (old new : Engine S) : Type 0 where
  pub met : way.Met (held_by g old) item outcome (still (held_by g new))
  pub fetches : FetchesItem way g item old new
  pub ready : Ready new
  pub time : OverTime g.clock g.left (BaseBeforeOrAfter (g.state old.store) (g.state new.store)) old.store new.store

-- the pages of the last commit before an item in hand, or those that it may have committed
pub record MayBeKept (way : Way) (held : HeldPages) (item : Item) (pages : PageList) : Type 0 where
  pub may : way.Left pages
  pub items : ℕ
  pub few : items ≤ 1
  pub kept : AreKept way.Stopped held [] (item ∷ []) pages items

-- the pages to which the file reopens after a crash within it, with the bytes told before it, where they are told
abbrev pub LeftInHand : Way → HeldPages → Item → StoreState → Outcomes
LeftInHand way held item s left told = ((pages : PageList) × (left ≡ Some pages) × MayBeKept way held item pages) × IfSome s.told (λ bytes. told ≡ bytes)

-- the engine stopped at the item, as a stop says
pub record StopsBy {S : Type 0} (way : Way) (g : Ghosts S) (item : Item) (stop : Stop) (old new : Engine S) : Type 0 where
  pub base : MayBeKept way (held_by g old) item (g.state new.store).base
  pub time : OverTime g.clock g.left (LeftInHand way (held_by g old) item (g.state old.store)) old.store new.store
  pub fetches : FetchesItem way g item old new
  pub stops : way.Stops (held_by g old) [] (item ∷ []) stop (g.state new.store).base

-- one or the other
abbrev pub AnswersSo : {S : Type 0} → Way → (Engine S → Type 0) → Ghosts S → Item → Result Outcome StoreFault → Engine S → Engine S → Type 0
AnswersSo way Ready g item (Ok outcome) old new = AnswersBy way Ready g item outcome old new
AnswersSo way Ready g item (Err stop) old new = StopsBy way g item (stop_of_fault stop) old new

-- What the answer to an item does, on a sound engine and on any, and whatever the engine is: no damage is named of sound pages, the
-- store goes on unless the disk failed, nothing is told, and a log of fetches goes on.
pub record AnswersItem {S : Type 0} (g : Ghosts S) (item : Item) (result : Result Outcome StoreFault) (old new : Engine S) : Type 0 where
  pub sound : (shape : Shape) → IsSoundEngine g shape old → AnswersSo (on_sound shape) (IsSoundEngine g shape) g item result old new
  pub any : (told : Bool) (shape : Shape) → IsAnyEngine g told shape old → AnswersSo (on_any told shape) (IsAnyEngine g told shape) g item result old new
  pub may : OnOk result (MayCall g new)
  pub going : IsGoingEngine g old → (IsErrOf result Device → ⊥) → (g.state new.store).ended ≡ false
  pub damaged : (damage : Damage) → result ≡ Err (Damaged damage) → IsReadyEngine g old → ⊥
  pub shape : new.tables.shape ≡ old.tables.shape
  pub outside : LeavesOutside g result old new
  pub log : FetchesMore (g.state old.store).fetched (g.state new.store).fetched
  pub at_rest : works.Rests g old.store → works.Rests g new.store

-- ---- its reply

-- An outcome is told on an engine, whole, or at a stop a first part of its text, whatever page is at hand then. Nothing else changes.
pub record TellsOutcome {S : Type 0} (g : Ghosts S) (outcome : Outcome) (result : Result (Unit {0}) Stop) (old new : Engine S) : Type 0 where
  pub ok : OnOk result (Tells (outcome_text outcome) (g.state old.store) (g.state new.store))
  pub err : OnErr result (TellsPart (outcome_text outcome) (record (g.state old.store) { hand = None }) (record (g.state new.store) { hand = None }))
  pub cause : OnErr result (IsErrOf result Memory ⊎ IsErrOf result Unsaid)
  pub stays : new ≡ record old { store = new.store }
  pub held : held_by g new ≡ held_by g old
  pub ready : IsReadyEngine g old → IsReadyEngine g new
  pub may : OnOk result (MayCall g new)
  pub unsaid : CountsFault (IsErrOf result Unsaid) (g.say_faults old.store) (g.say_faults new.store)
  pub disk_faults : g.disk_faults new.store ≡ g.disk_faults old.store
  pub time : OverTime g.clock g.left (BaseWithFront (outcome_text outcome) (g.state old.store)) old.store new.store
  pub at_rest : works.Rests g old.store → works.Rests g new.store
