-- What the next run goes on from: the database that the run before kept.
use Rattle.std.proofs.Common.{◌≡◌, ℕ, List, Option, Result, sym, subst}
use Rattle.mdc_ast.specs.Database.{Database}
use Rattle.statement_meaning.specs.Session.{session_on}
use Rattle.mdc_outside.specs.Disk.{File, IsImage, all_synced}
use Rattle.store_api.specs.declared.shape.Shape.{Shape}
use Rattle.table_trees.specs.ToldPages.{PageList}
use Rattle.mdc_sound.specs.StandsForDatabase.{PagesStandFor}
use Rattle.page_store.specs.Standing.{pages_in}
use Rattle.session.proofs.KeptDatabaseLemmas.{kept_stand}
use Rattle.file_verdict.specs.SoundFile.{StatesExtents}
use Rattle.file_verdict.proofs.JudgingLemmas.{stated_alike}
use Rattle.session.specs.script.Lists.{IsKeptDatabase}
use Rattle.session.specs.declared.script.served.Served.{Served}
use Rattle.session.specs.file.Leaving.{LeftByRun}
use Rattle.session.specs.file.Serving.{RunsItems}
use Rattle.session.specs.declared.stop.Stop.{Stop}
use Rattle.session.proofs.WellFilesLemmas.{pages_left, synced_image}

-- a run on what a crash within a run leaves begins with the database that this one kept
pub next_database : ((shape : Shape) (pages : PageList) (a b : Database) → PagesStandFor shape pages a → PagesStandFor shape pages b → a ≡ b)
    → (shape now : Shape) (pages : PageList) (said said_next : List ℕ) (script left tape script_next left_next tape_next : Option (List ℕ)) (result result_next : Result Served Stop)
    (run : RunsItems shape pages said script left tape result) (image told : List ℕ) (crash : LeftByRun shape run.held run.stages run.outcomes run.in_hand said image told)
    → StatesExtents image now → (next : RunsItems now (pages_in image) said_next script_next left_next tape_next result_next)
    → IsKeptDatabase shape.extents (session_on run.db) run.sessions run.in_hand crash.left.items next.db
next_database one shape now pages said said_next script left tape script_next left_next tape_next result result_next run image told crash states next =
    let kept = kept_stand run.lists crash.left.kept in
    let alike = stated_alike image shape now crash.states_extents states in
    let same = pages_left shape run.held run.stages run.outcomes run.in_hand said image told crash in
    let stands : PagesStandFor now (pages_in image) kept.db =
    subst (λ (p : PageList). PagesStandFor now p kept.db) (sym same) (subst (λ (s : Shape). PagesStandFor s crash.left.pages kept.db) alike kept.stand) in
    subst (IsKeptDatabase shape.extents (session_on run.db) run.sessions run.in_hand crash.left.items) (one now (pages_in image) kept.db next.db stands next.stands) kept.kept

-- a run on what a crash leaves of a file that is all on the disk, before any run on it came to its origin, has the same database
pub same_database : ((shape : Shape) (pages : PageList) (a b : Database) → PagesStandFor shape pages a → PagesStandFor shape pages b → a ≡ b)
    → (before : File) (shape now : Shape) (said said_next : List ℕ) (script left tape script_next left_next tape_next : Option (List ℕ)) (result result_next : Result Served Stop)
    → before.since ≡ all_synced before.bytes → StatesExtents before.bytes shape → (run : RunsItems shape (pages_in before.bytes) said script left tape result)
    → (image : List ℕ) → IsImage before.since image → StatesExtents image now → (next : RunsItems now (pages_in image) said_next script_next left_next tape_next result_next) → next.db ≡ run.db
same_database one before shape now said said_next script left tape script_next left_next tape_next result result_next synced states run image could states_now next =
    let same : image ≡ before.bytes = synced_image before image synced could in
    let alike = stated_alike image shape now (subst (λ (bytes : List ℕ). StatesExtents bytes shape) (sym same) states) states_now in
    let stands : PagesStandFor now (pages_in image) run.db =
    subst (λ (bytes : List ℕ). PagesStandFor now (pages_in bytes) run.db) (sym same) (subst (λ (s : Shape). PagesStandFor s (pages_in before.bytes) run.db) alike run.stands) in
    one now (pages_in image) next.db run.db next.stands stands
