use Rattle.std.proofs.Common.{◌≡◌, ◌≤◌, List}
use Rattle.mdc_ast.specs.Reading.{Item}
use Rattle.sql_reader.specs.Holding.{work_left}
use Rattle.store_api.specs.Works.{Rests}
use Rattle.script_engine.specs.OnAnyPages.{IsGoingEngine}
use Rattle.script_engine.specs.Serving.{IsReadyEngine, MayCall}
use Rattle.mdc_words.specs.Time.{OverTime}
use Rattle.session.specs.script.Engines.{IsAnyEngine, IsSoundEngine}
use Rattle.session.specs.script.Fetching.{FetchesMore}
use Rattle.session.specs.script.Leaving.{ReopensAlways}
use Rattle.session.specs.script.TheWays.{on_any, on_sound}
use Rattle.session.specs.script.Told.{TellsMore}
use Rattle.session.proofs.AskingLemmas.{HasGiven}
use Rattle.session.proofs.ServingLemmas.{HasAnswered}
use Rattle.session.proofs.script.serving.serve.Given as goal

-- the items given so far are answered
abbrev pub invariant-loop-reply : goal.invariant-loop-reply
invariant-loop-reply g l =
    let left = g.I.Source.left in
    let state = g.S.Pages.state in
    let shape = l.fn.engine.tables.shape in
    let told = (state l.fn.engine.store).is_told in
    record {
      items : List Item;
      given : HasGiven (left l.fn.input) (left l.input) l.statements items;
      answered : IsReadyEngine g.S.Pages l.fn.engine → HasAnswered (on_sound shape) (IsSoundEngine g.S.Pages shape) g.S.Pages items l.refused l.fn.engine l.engine;
      any : IsGoingEngine g.S.Pages l.fn.engine → HasAnswered (on_any told shape) (IsAnyEngine g.S.Pages told shape) g.S.Pages items l.refused l.fn.engine l.engine;
      may : MayCall g.S.Pages l.engine;
      fits : l.statements.count ≤ 67108864;
      reads : g.I.Source.read_faults l.input ≡ g.I.Source.read_faults l.fn.input;
      unsaid : g.S.Pages.say_faults l.engine.store ≡ g.S.Pages.say_faults l.fn.engine.store;
      device : g.S.Pages.disk_faults l.engine.store ≡ g.S.Pages.disk_faults l.fn.engine.store;
      beside : (state l.engine.store).beside ≡ (state l.fn.engine.store).beside;
      is_told : (state l.engine.store).is_told ≡ (state l.fn.engine.store).is_told;
      tells : TellsMore (state l.fn.engine.store).told (state l.engine.store).told;
      log : FetchesMore (state l.fn.engine.store).fetched (state l.engine.store).fetched;
      reopens : OverTime g.S.Pages.clock g.S.Pages.left ReopensAlways l.fn.engine.store l.engine.store;
      at_rest : Rests g.S.Pages l.fn.engine.store → Rests g.S.Pages l.engine.store;
      later : g.S.Pages.clock l.fn.engine.store ≤ g.S.Pages.clock l.engine.store;
    }

-- with each item less is left to go over
abbrev pub decreases-loop-reply : goal.decreases-loop-reply
decreases-loop-reply g l = work_left l.statements
