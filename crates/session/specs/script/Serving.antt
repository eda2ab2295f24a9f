-- What serving a script does to an engine, to its source and to what is told.
use Rattle.std.specs.Prelude.{◌≡◌, ◌≤◌, ◌+◌, ◌++◌, List, [], length, ℕ, Option, Some, IfErr, OnOk, IfSome, Result, Ok, Err}
use Rattle.mdc_words.specs.Time.{OverTime}
use Rattle.mdc_ast.specs.declared.reply.Outcome.{Outcome}
use Rattle.mdc_ast.specs.Reading.{Item}
use Rattle.mdc_outside.specs.Outside.{Takes}
use Rattle.store_api.specs.declared.pages.Pages.{Ghosts}
use Rattle.script_engine.specs.Serving.{held_by}
use Rattle.script_engine.specs.declared.engine.Engine.{Engine}
use Rattle.session.specs.script.Ending.{EndsSo, script_limit}
use Rattle.session.specs.script.Engines.{IsAnyEngine, IsSoundEngine}
use Rattle.session.specs.script.Fetching.{FetchesByItems}
use Rattle.session.specs.script.Going.{Goes, Stage, held_last}
use Rattle.session.specs.script.Leaving.{AreKept, LeftBy}
use Rattle.session.specs.script.TheWays.{on_any, on_sound}
use Rattle.session.specs.script.Ways.{Way}
use Rattle.session.specs.declared.script.served.Served.{Served}
use Rattle.session.specs.declared.stop.Stop.{Stop}
use Rattle.session.specs.declared.stop.Stop.TheVariants.{TooLong}

-- what was taken of a script by an end of its run: all of it, one byte more than the limit, or some part within it
abbrev pub IsTakenBy : Result Served Stop → List ℕ → List ℕ → Type 0
IsTakenBy (Ok served) taken rest = (rest ≡ []) × (length taken ≤ script_limit)
IsTakenBy (Err TooLong) taken rest = length taken ≡ script_limit + 1
IsTakenBy (Err stop) taken rest = length taken ≤ script_limit

-- how much of a script was taken, whatever the engine's pages are
pub record TakesScript (script : List ℕ) (left : Option (List ℕ)) (result : Result Served Stop) : Type 0 where
  pub taken : List ℕ
  pub rest : List ℕ
  pub script_is : script ≡ taken ++ rest
  pub left_is : left ≡ Some rest
  pub by_end : IsTakenBy result taken rest

-- how the run of a script whose bytes are told ends
pub record EndsScript (script : List ℕ) (left : Option (List ℕ)) (said : List ℕ) (items in_hand : List Item) (outcomes : List Outcome) (result : Result Served Stop) : Type 0 where
  pub taken : List ℕ
  pub rest : List ℕ
  pub script_is : script ≡ taken ++ rest
  pub left_is : left ≡ Some rest
  pub ends : EndsSo taken rest said items in_hand outcomes result

-- A run of a script on an engine: its items go on the pages that were held, a log of fetches with what they bring to hand, their texts
-- are told in order, a crash meanwhile leaves what is kept after some of them, and at the end the last pages are held, or the run stopped,
-- at the item in hand or behind those that have outcomes.
pub record RunsBy {S : Type 0} (way : Way) (Ready : Engine S → Type 0) (g : Ghosts S) (script left : Option (List ℕ)) (old new : Engine S) (result : Result Served Stop) : Type 0 where
  pub items : List Item
  pub outcomes : List Outcome
  pub stages : List Stage
  pub in_hand : List Item
  pub goes : Goes way.Met (held_by g old) items outcomes stages
  pub said : List ℕ
  pub told : Takes (g.state old.store).told said (g.state new.store).told
  pub ends : IfSome script (λ script. EndsScript script left said items in_hand outcomes result)
  pub last : OnOk result ((held_by g new ≡ held_last (held_by g old) stages) × Ready new)
  pub fetches : FetchesByItems way.Brings (held_by g old) items in_hand stages (g.state old.store).fetched (g.state new.store).fetched
  pub stops : IfErr result (λ stop. way.Stops (held_by g old) stages in_hand stop (g.state new.store).base)
  pub base : (n : ℕ) × AreKept way.Stopped (held_by g old) stages in_hand (g.state new.store).base n
  pub time : (before : List ℕ) → (g.state old.store).told ≡ Some before
      → OverTime g.clock g.left (LeftBy way.Left way.Stopped (held_by g old) stages outcomes in_hand before) old.store new.store

-- such a run on a sound engine
abbrev pub RunsScript : {S : Type 0} → Ghosts S → Option (List ℕ) → Option (List ℕ) → Engine S → Engine S → Result Served Stop → Type 0
RunsScript g script left old new result = RunsBy (on_sound old.tables.shape) (IsSoundEngine g old.tables.shape) g script left old new result

-- such a run on any engine
abbrev pub RunsOnAny : {S : Type 0} → Ghosts S → Option (List ℕ) → Option (List ℕ) → Engine S → Engine S → Result Served Stop → Type 0
RunsOnAny g script left old new result =
    RunsBy (on_any (g.state old.store).is_told old.tables.shape) (IsAnyEngine g (g.state old.store).is_told old.tables.shape) g script left old new result
