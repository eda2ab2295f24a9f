-- A run on a file that was just made is one on a database without a table.
use Rattle.std.proofs.Common.{◌≡◌, ℕ, List, IsTrue, Option, Some, Result, Err, refl, sym, subst, ◌∙◌}
use Rattle.mdc_ast.specs.Reading.{Item}
use Rattle.mdc_ast.specs.declared.reply.Outcome.{Outcome}
use Rattle.mdc_ast.specs.Database.{empty_database}
use Rattle.statement_meaning.specs.Built.{AreBuiltDefs}
use Rattle.mdc_ast.specs.Definitions.{no_tables}
use Rattle.statement_meaning.specs.Session.{Session, session_on}
use Rattle.mdc_outside.specs.Disk.{File}
use Rattle.store_api.specs.Extents.{is_shape}
use Rattle.store_api.specs.declared.shape.Shape.{Shape}
use Rattle.table_trees.specs.ToldPages.{PageList}
use Rattle.mdc_sound.specs.SoundDatabase.{IsSoundDatabase}
use Rattle.mdc_sound.specs.StandsForDatabase.{PagesStandFor}
use Rattle.stored_catalog.specs.StoredDefinitions.{AreStored}
use Rattle.page_store.specs.Empty.{IsEmptyDatabase}
use Rattle.page_store.specs.Fresh.{HoldsFresh}
use Rattle.page_store.specs.Standing.{pages_in}
use Rattle.script_engine.specs.Held.{HeldPages, StandsForSession}
use Rattle.file_verdict.specs.SoundFile.{StatesExtents}
use Rattle.session.specs.script.Fetching.{FetchesInRun}
use Rattle.session.specs.script.Going.{GoesOnPages, Stage}
use Rattle.session.specs.script.Leaving.{AreServedPages}
use Rattle.session.specs.script.Lists.{GoesOnLists}
use Rattle.session.specs.declared.script.served.Served.{Served}
use Rattle.session.specs.file.MadePages.{made_pages}
use Rattle.session.specs.file.Serving.{RunsItems}
use Rattle.session.specs.declared.stop.Stop.{Stop}
use Rattle.mdc_shell.specs.Run.{IsStopBefore, RunsScratch}
use Rattle.mdc_shell.specs.Status.{status_of}
use Rattle.session.proofs.MadeFilesLemmas.{made_states}
use Rattle.session.proofs.HostRunsLemmas.{opened_session}
use Rattle.mdc_shell.proofs.NothingRunLemmas.{nothing_run}

-- The laws of the pages of a database that was just made.
pub record MadeLaws : Type 0 where
  pub sound : (shape : Shape) → IsSoundDatabase shape (made_pages shape.extents)
  pub stands : (shape : Shape) → PagesStandFor shape (made_pages shape.extents) empty_database
  pub stored : (shape : Shape) → AreStored (made_pages shape.extents) no_tables
  pub valid : AreBuiltDefs no_tables
  pub extents : (extents extent_pages : ℕ) → IsTrue (is_shape extents extent_pages) → (shape : Shape) × (shape.extents ≡ extents) × (shape.extent_pages ≡ extent_pages)

-- the pages that are made are served
made_pages-served : MadeLaws → (shape : Shape) → AreServedPages shape (made_pages shape.extents)
made_pages-served laws shape = record { sound = laws.sound shape; defs = no_tables; stored = laws.stored shape; valid = laws.valid }

-- the law of a run over pages: it is one over lists
abbrev pub OverLists : Type 0
OverLists = (shape : Shape) (held : HeldPages) (items : List Item) (outcomes : List Outcome) (stages : List Stage) → GoesOnPages shape held items outcomes stages
    → (session : Session) → StandsForSession shape held session → (sessions : List Session) × GoesOnLists shape held session items outcomes stages sessions

-- a run on pages that stand for no table is one over a database without a table
over_nothing : OverLists → (shape : Shape) (pages : PageList) (said : List ℕ) (script left tape : Option (List ℕ)) (end_ : Result Served Stop) → PagesStandFor shape pages empty_database
    → RunsItems shape pages said script left tape end_ → (run : RunsItems shape pages said script left tape end_) × (run.db ≡ empty_database)
over_nothing over shape pages said script left tape end_ stands run =
    let all = over shape run.held run.items run.outcomes run.stages run.goes (session_on empty_database) (opened_session shape pages run.held empty_database run.opened stands) in (
      record {
        held = run.held;
        opened = run.opened;
        db = empty_database;
        stands = stands;
        items = run.items;
        outcomes = run.outcomes;
        stages = run.stages;
        in_hand = run.in_hand;
        goes = run.goes;
        sessions = all.0;
        lists = all.1;
        more = run.more;
        tape_is = run.tape_is;
        undamaged = run.undamaged;
        of_script = run.of_script;
        ends = run.ends;
      },
      refl,
    )

-- a run on a scratch file that was just made
pub made_file-runs : MadeLaws → OverLists → (file : File) (shape : Shape) (said : List ℕ) (script left tape : Option (List ℕ)) (end_ : Result Served Stop) → HoldsFresh 4096 4 file
    → IsEmptyDatabase 4096 file.bytes → StatesExtents file.bytes shape → (run : RunsItems shape (pages_in file.bytes) said script left tape end_) → (log now : Option (List ℕ))
    → FetchesInRun shape run.held run.items run.in_hand run.stages log now → RunsScratch said script left tape (status_of end_) log now
unfolding over_nothing
made_file-runs laws over file shape said script left tape end_ fresh empty states run log now fetches =
    let stated = made_states 4096 4 file.bytes refl fresh.bytes in
    let cap : shape.extents ≡ 4096 = sym states.extents ∙ stated.0 in
    let pages : shape.extent_pages ≡ 4 = sym states.extent_pages ∙ stated.1 in
    let stands : PagesStandFor shape (made_pages 4096) empty_database = subst (λ (n : ℕ). PagesStandFor shape (made_pages n) empty_database) cap (laws.stands shape) in
    let Runs : PageList → Type 0 = λ p. (run : RunsItems shape p said script left tape end_) × FetchesInRun shape run.held run.items run.in_hand run.stages log now in
    let (on_made, fetched) = subst Runs empty.pages (run, fetches) in
    let whole = over_nothing over shape (made_pages 4096) said script left tape end_ stands on_made in
    record { end_ = end_; shape = shape; extents = cap; extent_pages = pages; run = whole.0; fetches = fetched; empty = whole.1; status_is = refl }

-- a run of none of a script's items on a scratch file
pub nothing_run-scratch : MadeLaws → (said : List ℕ) (script : Option (List ℕ)) (stop : Stop) → IsStopBefore stop → (log : Option (List ℕ))
    → RunsScratch said script script (Some said) (status_of (Err stop)) log log
nothing_run-scratch laws said script stop before log =
    let found = laws.extents 4096 4 refl in
    let shape : Shape = found.0 in
    let served : AreServedPages shape (made_pages 4096) = subst (λ (n : ℕ). AreServedPages shape (made_pages n)) found.1 (made_pages-served laws shape) in
    let stands : PagesStandFor shape (made_pages 4096) empty_database = subst (λ (n : ℕ). PagesStandFor shape (made_pages n) empty_database) found.1 (laws.stands shape) in
    let run = nothing_run shape (made_pages 4096) empty_database said script stop before served stands in
    record { end_ = Err stop; shape = shape; extents = found.1; extent_pages = found.2; run = run.0; fetches = run.2 log; empty = run.1; status_is = refl }
