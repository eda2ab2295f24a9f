-- A run that stops before anything is taken of the script is a run of none of its items.
use Rattle.std.proofs.Common.{◌≡◌, ℕ, List, [], false, Option, Some, IfErr, IfSome, Result, Err, refl, sym, ap}
use Rattle.std.proofs.lemmas.List.{append-nil}
use Rattle.mdc_ast.specs.Database.{Database}
use Rattle.statement_meaning.specs.Session.{first_settings}
use Rattle.statement_meaning.specs.declared.pass.Pass.TheVariants.{Idle}
use Rattle.store_api.specs.declared.fault.Damage.{Damage}
use Rattle.store_api.specs.declared.shape.Shape.{Shape}
use Rattle.table_trees.specs.ToldPages.{PageList}
use Rattle.mdc_sound.specs.StandsForDatabase.{PagesStandFor}
use Rattle.script_engine.specs.Held.{HeldPages}
use Rattle.session.specs.script.Fetching.{FetchesInRun}
use Rattle.session.specs.script.Going.{Goes}
use Rattle.session.specs.script.Leaving.{AreServedPages}
use Rattle.session.specs.script.Lists.{GoesOnLists}
use Rattle.session.specs.script.Serving.{EndsScript}
use Rattle.session.specs.declared.script.served.Served.{Served}
use Rattle.session.specs.Stops.{IsOfScript}
use Rattle.session.specs.declared.stop.Stop.{Stop}
use Rattle.session.specs.file.Serving.{IsOpened, RunsItems}
use Rattle.session.specs.declared.stop.Stop.TheVariants.{Damaged, Device, Memory, NotMdc, TooLong, Unmade, Unread, Unsaid, Version}
use Rattle.session.proofs.FetchedRunsLemmas.{fetches_nothing}
use Rattle.session.proofs.FirstEndsLemmas.{ends_first}
use Rattle.session.proofs.HostRunsLemmas.{opened_session}
use Rattle.mdc_shell.specs.Run.{IsStopBefore}

-- a run of no items on pages that are served, which stand for this database, up to this end of its session
run_to : (shape : Shape) (pages : PageList) (db : Database) (said : List ℕ) (script : Option (List ℕ)) (end_ : Result Served Stop) → AreServedPages shape pages → PagesStandFor shape pages db
    → ((damage : Damage) → end_ ≡ Err (Damaged damage) → ⊥) → IfErr end_ IsOfScript → IfSome script (λ bytes. EndsScript bytes script [] [] [] [] end_)
    → (run : RunsItems shape pages said script script (Some said) end_) × (run.db ≡ db) × ((log : Option (List ℕ)) → FetchesInRun shape run.held run.items run.in_hand run.stages log log)
run_to shape pages db said script end_ served stands undamaged begun ends =
    let held : HeldPages = record { base = pages; work = pages; defs = served.defs; open_ = false; settings = first_settings; pass = Idle } in
    let opened : IsOpened pages held = record { base = refl; work = refl; defs = served.stored; closed = refl; settings = refl; pass = refl } in (
      record {
        held = held;
        opened = opened;
        db = db;
        stands = stands;
        items = [];
        outcomes = [];
        stages = [];
        in_hand = [];
        goes = Goes.nothing;
        sessions = [];
        lists = GoesOnLists.nothing (opened_session shape pages held db opened stands);
        more = [];
        tape_is = ap Some (sym (append-nil said));
        undamaged = undamaged;
        of_script = begun;
        ends = ends;
      },
      refl,
      λ log. fetches_nothing shape held refl,
    )

-- such a run up to a stop that comes before anything is taken
pub nothing_run : (shape : Shape) (pages : PageList) (db : Database) (said : List ℕ) (script : Option (List ℕ)) (stop : Stop) → IsStopBefore stop → AreServedPages shape pages
    → PagesStandFor shape pages db → (run : RunsItems shape pages said script script (Some said) (Err stop)) × (run.db ≡ db) × ((log : Option (List ℕ)) → FetchesInRun shape run.held run.items run.in_hand run.stages log log)
nothing_run shape pages db said script Device before served stands = run_to shape pages db said script (Err Device) served stands (λ damage is. cc) tt (ends_first script Device (λ e. cc) (λ e. cc))
nothing_run shape pages db said script Memory before served stands = run_to shape pages db said script (Err Memory) served stands (λ damage is. cc) tt (ends_first script Memory (λ e. cc) (λ e. cc))
nothing_run shape pages db said script Unmade before served stands = absurd before
nothing_run shape pages db said script NotMdc before served stands = absurd before
nothing_run shape pages db said script (Version version) before served stands = absurd before
nothing_run shape pages db said script Unread before served stands = absurd before
nothing_run shape pages db said script TooLong before served stands = absurd before
nothing_run shape pages db said script Unsaid before served stands = absurd before
nothing_run shape pages db said script (Damaged damage) before served stands = absurd before
