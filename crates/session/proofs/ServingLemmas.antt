-- How far an engine is with the items that a reader has given, how it goes on, and how a run ends.
use Rattle.std.proofs.Common.{◌≡◌, ◌||◌, ℕ, List, [], ◌∷◌, ◌++◌, Bool, true, false, Option, Some, None, Result, Ok, Err, IfErr, OnOk, IfSome, refl, sym, ◌∙◌, ap, subst, inl, inr}
use Rattle.std.proofs.lemmas.List.{append-nil}
use Rattle.std.proofs.lemmas.Grind.{flat_map-append}
use Rattle.std.proofs.lemmas.List.Folds.{list_any-append}
use Rattle.mdc_ast.specs.declared.reply.Outcome.{Outcome}
use Rattle.mdc_ast.specs.Reading.{Item}
use Rattle.statement_meaning.specs.Session.{has_refusal, is_refusal}
use Rattle.statement_meaning.specs.Texts.{outcome_text, texts}
use Rattle.sql_reader.specs.Holding.{Holding}
use Rattle.sql_reader.specs.Item.{item_of}
use Rattle.sql_reader.specs.declared.statements.Read.{Read}
use Rattle.sql_reader.specs.declared.statements.ReadStop.{ReadStop}
use Rattle.store_api.specs.declared.pages.Pages.{Ghosts}
use Rattle.script_engine.specs.Held.{HeldPages}
use Rattle.script_engine.specs.Serving.{held_by}
use Rattle.script_engine.specs.declared.engine.Engine.{Engine}
use Rattle.session.specs.script.Going.{Stage, held_last}
use Rattle.session.specs.script.ScriptLaws.{ScriptLaws}
use Rattle.session.specs.script.Serving.{EndsScript, RunsBy}
use Rattle.session.specs.Stops.{served_by, stop_of_reader}
use Rattle.session.specs.script.Turning.{EndsTold, IsTurnStop, RunsItems, StopsTurn}
use Rattle.session.specs.script.Ways.{Way}
use Rattle.session.specs.declared.script.served.Served.{Served}
use Rattle.session.specs.declared.stop.Stop.{Stop}
use Rattle.session.specs.declared.stop.Stop.TheVariants.{Memory}
use Rattle.session.proofs.AskedEndsLemmas.{ends_asked_done, ends_asked_in_hand, ends_asked_reading, ends_asked_untold, ends_unasked}
use Rattle.session.proofs.AskingLemmas.{IsAsked}
use Rattle.session.proofs.GoingLemmas.{held_last-append, length-items}
use Rattle.session.proofs.RunsLemmas.{runs_none, runs_then}
use Rattle.session.proofs.StopsLemmas.{reader_names_no_damage}
use Rattle.session.proofs.WayLemmas.{IsWay}

-- The items have outcomes, all of which are told, and the engine that they leave is as such an engine is.
pub record HasAnswered {S : Type 0} (way : Way) (Ready : Engine S → Type 0) (g : Ghosts S) (items : List Item) (refused : Bool) (old new : Engine S) : Type 0 where
  pub outcomes : List Outcome
  pub stages : List Stage
  pub runs : RunsItems way g items [] outcomes stages (texts outcomes) old new
  pub held : held_by g new ≡ held_last (held_by g old) stages
  pub noted : refused ≡ has_refusal outcomes
  pub ready : Ready new

-- ---- one outcome more

texts_more : (outcomes : List Outcome) (outcome : Outcome) → texts (outcomes ++ outcome ∷ []) ≡ texts outcomes ++ outcome_text outcome
texts_more outcomes outcome =
    flat_map-append outcome_text outcomes (outcome ∷ []) ∙ ap (λ t. texts outcomes ++ t) (append-nil (outcome_text outcome))

or_false : (b : Bool) → (b || false) ≡ b
or_false true = refl
or_false false = refl

refusal_more : (outcomes : List Outcome) (outcome : Outcome) → has_refusal (outcomes ++ outcome ∷ []) ≡ (has_refusal outcomes || is_refusal outcome)
refusal_more outcomes outcome =
    list_any-append is_refusal outcomes (outcome ∷ []) ∙ ap (λ b. has_refusal outcomes || b) (or_false (is_refusal outcome))

module _ {S : Type 0} (way : Way) {Once : HeldPages → HeldPages → Type 0} (is_way : IsWay way Once) (Ready : Engine S → Type 0) (g : Ghosts S) where
  -- ---- how it goes on

  -- at the start
  pub answered_first : (engine : Engine S) → Ready engine → HasAnswered way Ready g [] false engine engine
  answered_first engine ready = record { outcomes = []; stages = []; runs = runs_none way g engine; held = refl; noted = refl; ready = ready }

  -- one item more, whose outcome is told
  pub answered_more : {items : List Item} {refused noted : Bool} (item : Item) {old mid new : Engine S} → HasAnswered way Ready g items refused old mid
      → EndsTold way Ready g item noted mid new → HasAnswered way Ready g (items ++ item ∷ []) (refused || noted) old new
  answered_more {items} {refused} {noted} item {old} {mid} {new} was turn =
      let outcomes = was.outcomes ++ turn.outcome ∷ [] in
      let stages = was.stages ++ turn.stage ∷ [] in
      let runs = runs_then way g was.runs was.held turn.runs in
      record {
        outcomes = outcomes;
        stages = stages;
        runs = subst (λ (said : List ℕ). RunsItems way g (items ++ item ∷ []) [] outcomes stages said old new) (sym (texts_more was.outcomes turn.outcome)) runs;
        held = turn.held ∙ sym (held_last-append (held_by g old) was.stages (turn.stage ∷ []));
        noted = ap (λ b. b || noted) was.noted ∙ (ap (λ b. has_refusal was.outcomes || b) turn.noted ∙ sym (refusal_more was.outcomes turn.outcome));
        ready = turn.ready;
      }

  -- ---- how it ends

  -- a run of items that ends so is one of their script
  runs_script : {script left : Option (List ℕ)} {items in_hand : List Item} {outcomes : List Outcome} {stages : List Stage} {said : List ℕ} {old new : Engine S} (result : Result Served Stop)
      → RunsItems way g items in_hand outcomes stages said old new → IfSome script (λ bytes. EndsScript bytes left said items in_hand outcomes result)
      → OnOk result ((held_by g new ≡ held_last (held_by g old) stages) × Ready new)
      → IfErr result (λ stop. way.Stops (held_by g old) stages in_hand stop (g.state new.store).base) → RunsBy way Ready g script left old new result
  runs_script {items = items} {in_hand = in_hand} {outcomes = outcomes} {stages = stages} {said = said} result runs ends last stops = record {
    items = items;
    outcomes = outcomes;
    stages = stages;
    in_hand = in_hand;
    goes = runs.goes;
    said = said;
    told = runs.told;
    ends = ends;
    last = last;
    fetches = runs.fetches;
    stops = stops;
    base = runs.base;
    time = runs.time;
  }

  -- memory is wanted before the first read
  pub exit_first : (laws : ScriptLaws) (script : Option (List ℕ)) (engine : Engine S) → RunsBy way Ready g script script engine engine (Err Memory)
  exit_first laws script engine =
      runs_script (Err Memory) (runs_none way g engine) (ends_unasked laws script) tt (is_way.still (held_by g engine) [] Memory (g.state engine.store).base (λ damage is. cc) refl)

  -- the reader stops
  pub exit_reading : (laws : ScriptLaws) {script left : Option (List ℕ)} {reader : Holding} {items : List Item} {stop : ReadStop} {refused : Bool} {old new : Engine S}
      → IsAsked script left reader items (Err stop) → HasAnswered way Ready g items refused old new → RunsBy way Ready g script left old new (Err (stop_of_reader stop))
  exit_reading laws {stop = stop} {old = old} {new = new} asked was =
      runs_script (Err (stop_of_reader stop)) was.runs (ends_asked_reading laws was.outcomes (length-items was.runs.goes) asked) tt
      (is_way.still (held_by g old) was.stages (stop_of_reader stop) (g.state new.store).base (reader_names_no_damage stop) (ap (λ (held : HeldPages). held.base) was.held))

  -- a stop of a turn behind the items before it
  stops_turn : {items : List Item} {refused : Bool} {old mid : Engine S} (was : HasAnswered way Ready g items refused old mid) (new : Engine S) (more : List Stage) (in_hand : List Item) (stop : Stop)
      → way.Stops (held_by g mid) more in_hand stop (g.state new.store).base → way.Stops (held_by g old) (was.stages ++ more) in_hand stop (g.state new.store).base
  stops_turn {old = old} was new more in_hand stop stops =
      is_way.behind (held_by g old) was.stages more in_hand stop (g.state new.store).base (subst (λ (held : HeldPages). way.Stops held more in_hand stop (g.state new.store).base) was.held stops)

  -- the turn of an item stops: behind its outcome, or at the item in hand
  pub exit_turning : (laws : ScriptLaws) {script left : Option (List ℕ)} {reader : Holding} {items : List Item} {read : Read} (stop : Stop) {refused : Bool} {old mid new : Engine S}
      → IsAsked script left reader items (Ok (Some read)) → HasAnswered way Ready g items refused old mid → IsTurnStop stop
      → StopsTurn way g (item_of read) stop mid new → RunsBy way Ready g script left old new (Err stop)
  exit_turning laws stop {new = new} asked was is_stop (inl turn) =
      let ends = ends_asked_untold laws stop was.outcomes turn.outcome turn.part turn.unsaid (length-items was.runs.goes) turn.text asked is_stop in
      runs_script (Err stop) (runs_then way g was.runs was.held turn.runs) ends tt (stops_turn was new (turn.stage ∷ []) [] stop turn.stops)
  exit_turning laws {items = items} {read = read} stop {old = old} {new = new} asked was is_stop (inr turn) =
      let hand = item_of read ∷ [] in
      let runs : RunsItems way g items hand was.outcomes was.stages (texts was.outcomes) old new =
      rw (append-nil items, append-nil was.outcomes, append-nil was.stages, append-nil (texts was.outcomes)) at (runs_then way g was.runs was.held turn.runs) in
      let stops : way.Stops (held_by g old) was.stages hand stop (g.state new.store).base = rw (append-nil was.stages) at (stops_turn was new [] hand stop turn.stops) in
      runs_script (Err stop) runs (ends_asked_in_hand laws stop was.outcomes (length-items was.runs.goes) asked is_stop) tt stops

  -- the script ends
  pub exit_done : {script left : Option (List ℕ)} {reader : Holding} {items : List Item} (refused : Bool) {old new : Engine S}
      → IsAsked script left reader items (Ok None) → HasAnswered way Ready g items refused old new → RunsBy way Ready g script left old new (Ok (served_by refused))
  exit_done refused asked was = runs_script (Ok (served_by refused)) was.runs (ends_asked_done refused was.outcomes was.noted asked) (was.held, was.ready) tt
