-- What a run of some items does to an engine, and how the turn of one item ends.
use Rattle.std.specs.Prelude.{◌≡◌, ◌⊎◌, ◌≤◌, ◌++◌, ℕ, Bool, false, List, [], ◌∷◌, Some, IfErr, IsErrOf, OnOk, Result, Ok, Err}
use Rattle.mdc_words.specs.Faults.{CountsFault}
use Rattle.mdc_words.specs.Time.{OverTime}
use Rattle.mdc_ast.specs.declared.reply.Outcome.{Outcome}
use Rattle.mdc_ast.specs.Reading.{Item}
use Rattle.statement_meaning.specs.Session.{is_refusal}
use Rattle.statement_meaning.specs.Texts.{outcome_text}
use Rattle.mdc_outside.specs.Outside.{Takes}
use Rattle.store_api.specs.Works as works
use Rattle.store_api.specs.declared.fault.Damage.{Damage}
use Rattle.store_api.specs.declared.pages.Pages.{Ghosts}
use Rattle.store_api.specs.declared.shape.Shape.{Shape}
use Rattle.script_engine.specs.OnAnyPages.{IsGoingEngine}
use Rattle.script_engine.specs.Serving.{IsReadyEngine, MayCall, held_by}
use Rattle.script_engine.specs.Turns.{KeepsTime}
use Rattle.script_engine.specs.declared.engine.Engine.{Engine}
use Rattle.session.specs.script.Engines.{IsAnyEngine, IsSoundEngine}
use Rattle.session.specs.script.Fetching.{FetchesByItems, FetchesMore}
use Rattle.session.specs.script.Going.{Goes, Stage, end_of}
use Rattle.session.specs.script.Leaving.{AreKept, LeftBy, ReopensAlways}
use Rattle.session.specs.script.TheWays.{on_any, on_sound}
use Rattle.session.specs.script.Told.{TellsMore}
use Rattle.session.specs.script.Ways.{Way}
use Rattle.session.specs.declared.stop.Stop.{Stop}
use Rattle.session.specs.declared.stop.Stop.TheVariants.{Damaged, Device, NotMdc, TooLong, Unmade, Unread, Unsaid, Version}

-- A run of items on an engine: they go on the pages that were held, bring to hand what they may, these bytes are told, and a crash
-- meanwhile leaves what is kept after some of them.
pub record RunsItems {S : Type 0} (way : Way) (g : Ghosts S) (items in_hand : List Item) (outcomes : List Outcome) (stages : List Stage) (said : List ℕ) (old new : Engine S) : Type 0 where
  pub goes : Goes way.Met (held_by g old) items outcomes stages
  pub fetches : FetchesByItems way.Brings (held_by g old) items in_hand stages (g.state old.store).fetched (g.state new.store).fetched
  pub told : Takes (g.state old.store).told said (g.state new.store).told
  pub base : (n : ℕ) × AreKept way.Stopped (held_by g old) stages in_hand (g.state new.store).base n
  pub time : (before : List ℕ) → (g.state old.store).told ≡ Some before
      → OverTime g.clock g.left (LeftBy way.Left way.Stopped (held_by g old) stages outcomes in_hand before) old.store new.store

-- the item has an outcome, a refusal or none, whose text is told
pub record EndsTold {S : Type 0} (way : Way) (Ready : Engine S → Type 0) (g : Ghosts S) (item : Item) (refused : Bool) (old new : Engine S) : Type 0 where
  pub outcome : Outcome
  pub noted : refused ≡ is_refusal outcome
  pub stage : Stage
  pub runs : RunsItems way g (item ∷ []) [] (outcome ∷ []) (stage ∷ []) (outcome_text outcome) old new
  pub held : held_by g new ≡ end_of stage
  pub ready : Ready new

-- the item has an outcome, of whose text a first part is told, all of it where the engine stopped at a step after it
pub record EndsUntold {S : Type 0} (way : Way) (g : Ghosts S) (item : Item) (stop : Stop) (old new : Engine S) : Type 0 where
  pub outcome : Outcome
  pub stage : Stage
  pub part : List ℕ
  pub unsaid : List ℕ
  pub text : outcome_text outcome ≡ part ++ unsaid
  pub runs : RunsItems way g (item ∷ []) [] (outcome ∷ []) (stage ∷ []) part old new
  pub stops : way.Stops (held_by g old) (stage ∷ []) [] stop (g.state new.store).base

-- the turn stopped at the item in hand
pub record StopsInHand {S : Type 0} (way : Way) (g : Ghosts S) (item : Item) (stop : Stop) (old new : Engine S) : Type 0 where
  pub runs : RunsItems way g [] (item ∷ []) [] [] [] old new
  pub stops : way.Stops (held_by g old) [] (item ∷ []) stop (g.state new.store).base

-- a turn stopped: behind an outcome, or at the item in hand
abbrev pub StopsTurn : {S : Type 0} → Way → Ghosts S → Item → Stop → Engine S → Engine S → Type 0
StopsTurn way g item stop old new = EndsUntold way g item stop old new ⊎ StopsInHand way g item stop old new

-- a turn ended: its item has an outcome that is told, or it stopped
abbrev pub TurnsSo : {S : Type 0} → Way → (Engine S → Type 0) → Ghosts S → Item → Result Bool Stop → Engine S → Engine S → Type 0
TurnsSo way Ready g item (Ok refused) old new = EndsTold way Ready g item refused old new
TurnsSo way Ready g item (Err stop) old new = StopsTurn way g item stop old new

-- a stop of a turn: none that refuses the file, and none of the reader of the script alone
abbrev pub IsTurnStop : Stop → Type 0
IsTurnStop Unmade = ⊥
IsTurnStop NotMdc = ⊥
IsTurnStop (Version version) = ⊥
IsTurnStop Unread = ⊥
IsTurnStop TooLong = ⊥
IsTurnStop stop = Unit {0}

-- What a turn of an item does to an engine, on a sound one and on any. Whatever the engine is, no damage is named of sound pages, and a
-- crash leaves a file that reopens.
pub record TurnsItem {S : Type 0} (g : Ghosts S) (item : Item) (result : Result Bool Stop) (old new : Engine S) : Type 0 where
  pub sound : (shape : Shape) → IsSoundEngine g shape old → TurnsSo (on_sound shape) (IsSoundEngine g shape) g item result old new
  pub any : (told : Bool) (shape : Shape) → IsAnyEngine g told shape old → TurnsSo (on_any told shape) (IsAnyEngine g told shape) g item result old new
  pub may : OnOk result (MayCall g new)
  pub stop : IfErr result IsTurnStop
  pub going : IsGoingEngine g old → (IsErrOf result Device → ⊥) → (g.state new.store).ended ≡ false
  pub unsaid : CountsFault (IsErrOf result Unsaid) (g.say_faults old.store) (g.say_faults new.store)
  pub device : CountsFault (IsErrOf result Device) (g.disk_faults old.store) (g.disk_faults new.store)
  pub damaged : (damage : Damage) → result ≡ Err (Damaged damage) → IsReadyEngine g old → ⊥
  pub beside : (g.state new.store).beside ≡ (g.state old.store).beside
  pub is_told : (g.state new.store).is_told ≡ (g.state old.store).is_told
  pub tells : TellsMore (g.state old.store).told (g.state new.store).told
  pub log : FetchesMore (g.state old.store).fetched (g.state new.store).fetched
  pub reopens : OverTime g.clock g.left ReopensAlways old.store new.store
  pub at_rest : KeepsTime g → works.Rests g old.store → works.Rests g new.store
  pub shape : new.tables.shape ≡ old.tables.shape
  pub later : g.clock old.store ≤ g.clock new.store
