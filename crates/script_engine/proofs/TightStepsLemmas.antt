-- A statement that only puts and is done on tight pages leaves tight pages.
use Rattle.std.proofs.Common.{◌≡◌, ℕ, Some, List, map, true, refl, ap, sym, subst, ◌∙◌}
use Rattle.mdc_values.specs.declared.value.Value.{Value}
use Rattle.mdc_ast.specs.Database.{Database, appended, changed_at, defs_of}
use Rattle.mdc_ast.specs.Definitions.{Definitions, def_at, def_named}
use Rattle.mdc_ast.specs.ValidDatabase.{IsValid}
use Rattle.mdc_ast.specs.declared.bound.Bound.{Bound}
use Rattle.mdc_ast.specs.declared.bound.Bound.TheVariants as bound
use Rattle.mdc_ast.specs.declared.definition.ColumnDef.{ColumnDef}
use Rattle.mdc_ast.specs.declared.definition.IndexDef.{IndexDef}
use Rattle.mdc_ast.specs.declared.definition.TableDef.{TableDef}
use Rattle.mdc_ast.specs.declared.reply.Outcome.TheVariants as said
use Rattle.mdc_ast.specs.declared.reply.Reply.{Reply}
use Rattle.mdc_ast.specs.declared.statement.Stmt.{Stmt}
use Rattle.mdc_ast.specs.declared.statement.Stmt.TheVariants as stmt
use Rattle.statement_meaning.specs.Binding.{bound_index, bound_of, bound_table, bound_tuple, columns_of}
use Rattle.statement_meaning.specs.Built.{are_built}
use Rattle.statement_meaning.specs.Doing.{effect, indexed_table}
use Rattle.statement_meaning.specs.Judged.{index_judged, insert_judged, targets}
use Rattle.statement_meaning.specs.Step.{Replied, step}
use Rattle.statement_meaning.proofs.KeepingLemmas.{step_keeps}
use Rattle.store_api.specs.declared.pages.Pages.{Ghosts}
use Rattle.store_api.specs.declared.shape.Shape.{Shape}
use Rattle.table_trees.specs.ToldPages.{PageList}
use Rattle.mdc_sound.specs.SoundDatabase.{KeepAllRules}
use Rattle.mdc_sound.specs.SpaceRules.{DatabaseView}
use Rattle.mdc_sound.specs.StandingTable.{pages_of}
use Rattle.mdc_sound.specs.StandsForDatabase.{PagesStandFor}
use Rattle.mdc_sound.specs.TightPages.{AreTightPages}
use Rattle.stored_catalog.specs.StoredDefinitions.{AreStored}
use Rattle.mdc_ast.specs.declared.statement.RolloutMode.{RolloutMode}
use Rattle.script_engine.specs.Doing.{DoesStep, PlacesOnPages, changed_place}
use Rattle.script_engine.specs.Others.{KeepsOthers, touched_place}
use Rattle.script_engine.specs.declared.tables.Tables.{Tables}
use Rattle.script_engine.proofs.StoredDefsLemmas.{stored_defs, without_roots}
use Rattle.script_engine.specs.PuttingStatements.{IsTightDatabase, OnlyPutsByText}
use Rattle.script_engine.specs.Ready.{AreServed}
use Rattle.script_engine.proofs.SoundPagesStandLemmas.{sound_pages_stand}
use Rattle.script_engine.proofs.StepsDoneLemmas.{effect_is, none_judged, on_its_table, place_found}
use Rattle.script_engine.proofs.TightCreatesLemmas.{creates_tight}
use Rattle.script_engine.proofs.TightIndexesLemmas.{indexes_tight}
use Rattle.script_engine.proofs.TightInsertsLemmas.{inserts_tight}
use Rattle.script_engine.proofs.ValidPagesLemmas.{valid_pages}

-- ---- on pages

module _ (shape : Shape) (old new : PageList) (view now : DatabaseView) (sound : KeepAllRules shape old view) (tight : AreTightPages shape old view) (sound_now : KeepAllRules shape new now)
    (defs defs_now : Definitions) (stored : AreStored old defs) (stored_now : AreStored new defs_now) (built : are_built defs ≡ true)
    (db : Database) (stands : PagesStandFor shape old db) (valid : IsValid db) (reply : Reply) (mode : RolloutMode) where
  same : defs_of db ≡ without_roots defs
  same = stored_defs shape old defs db stored stands

  pub step_tight : (statement : Stmt) → OnlyPutsByText statement → (step db statement).1 ≡ Replied reply → PagesStandFor shape new (step db statement).0
      → KeepsOthers shape old new defs defs_now (touched_place (bound_of defs statement))
      → ((place : ℕ) (def : TableDef) → changed_place (bound_of defs statement) ≡ Some place → def_at defs place ≡ Some def → PlacesOnPages shape old new mode def (bound_of defs statement))
      → AreTightPages shape new now
  step_tight (stmt.CreateTable name columns dims) puts replied stands_now keeps places =
      let text = stmt.CreateTable name columns dims in
      creates_tight shape old new view now defs defs_now db (bound_table name columns dims) sound tight sound_now stored stored_now stands (subst (PagesStandFor shape new) (effect_is db defs same built text reply replied) stands_now)
      (place_found db name columns dims reply replied) refl keeps
  step_tight (stmt.CreateIndex name unique table parts) puts replied stands_now keeps places =
      let text = stmt.CreateIndex name unique table parts in
      let bind : ℕ → List ColumnDef → Bound = λ place columns. bound.CreateIndex place (bound_index columns name unique parts) in
      let on = on_its_table defs table (index_judged defs name parts) bind (none_judged db defs same built text reply replied) in
      let index : IndexDef = bound_index (columns_of (def_named defs table)) name unique parts in
      let is : (step db text).0 ≡ changed_at db on.place (indexed_table index) = effect_is db defs same built text reply replied ∙ ap (λ (b : Bound). (effect db b).0) on.bound_is in
      indexes_tight shape old new view now defs defs_now db on.place index on.def sound tight sound_now stored stored_now stands (subst (PagesStandFor shape new) is stands_now) on.at
      (subst (λ (b : Bound). KeepsOthers shape old new defs defs_now (touched_place b)) on.bound_is keeps)
  step_tight (stmt.Insert name listed tuples) puts replied stands_now keeps places =
      let text = stmt.Insert name listed tuples in
      let bind : ℕ → List ColumnDef → Bound = λ place columns. bound.Insert place (map (bound_tuple columns (targets columns listed)) tuples) in
      let on = on_its_table defs name (λ (def : TableDef). insert_judged listed tuples def.columns) bind (none_judged db defs same built text reply replied) in
      let columns : List ColumnDef = columns_of (def_named defs name) in
      let rows : List (List Value) = map (bound_tuple columns (targets columns listed)) tuples in
      let is : (step db text).0 ≡ changed_at db on.place (appended rows) = effect_is db defs same built text reply replied ∙ ap (λ (b : Bound). (effect db b).0) on.bound_is in
      inserts_tight shape old new view now defs defs_now db on.place rows on.def sound tight sound_now stored stored_now stands (subst (PagesStandFor shape new) is stands_now) (subst IsValid is (step_keeps db text valid)) on.at
      (subst (λ (b : Bound). KeepsOthers shape old new defs defs_now (touched_place b)) on.bound_is keeps)
      (subst (PlacesOnPages shape old new mode on.def) on.bound_is (places on.place on.def (ap changed_place on.bound_is) on.at))
  step_tight statement puts replied stands_now keeps places = absurd puts

-- ---- in the words of the engine

pub steps_tight : {S : Type 0} (g : Ghosts S) (old new : S) (before now : Tables) (statement : Stmt) (reply : Reply) (view after : DatabaseView) (db : Database) → DoesStep g old new before now statement (said.Done reply) → OnlyPutsByText statement
    → AreServed before.catalog → now.shape ≡ before.shape → AreStored (pages_of g old) before.catalog → PagesStandFor before.shape (pages_of g old) db → KeepAllRules before.shape (pages_of g old) view
    → AreTightPages before.shape (pages_of g old) view → KeepAllRules now.shape (pages_of g new) after → AreTightPages now.shape (pages_of g new) after
steps_tight g old new before now statement reply view after db does puts served shape stored stands sound tight sound_now =
    let end_ = does.stands db stands in
    let valid = valid_pages before.shape (pages_of g old) view before.catalog db sound stored served stands in
    let sound_then = subst (λ (s : Shape). KeepAllRules s (pages_of g new) after) shape sound_now in
    let stands_then = subst (λ (s : Shape). PagesStandFor s (pages_of g new) (step db statement).0) shape end_.pages_are in
    subst (λ (s : Shape). AreTightPages s (pages_of g new) after) (sym shape)
    (step_tight before.shape (pages_of g old) (pages_of g new) view after sound tight sound_then before.catalog now.catalog stored does.ready.stored served.built db stands valid reply before.settings.rollout statement puts end_.answers stands_then does.others (does.places reply refl))

-- so are the pages that are held then
pub leaves_tight : {S : Type 0} (g : Ghosts S) (old mid : S) (before now : Tables) (statement : Stmt) (reply : Reply) (work : PageList) → DoesStep g old mid before now statement (said.Done reply)
    → work ≡ pages_of g mid → now.shape ≡ before.shape → AreStored (pages_of g old) before.catalog → AreServed before.catalog → OnlyPutsByText statement → IsTightDatabase before.shape (pages_of g old)
    → IsTightDatabase before.shape work
leaves_tight g old mid before now statement reply work does is shape stored served puts tight =
    let after : DatabaseView = does.ready.view in
    let (db, stands) = sound_pages_stand before.shape (pages_of g old) (tight.view, tight.sound) in
    let tight_now = steps_tight g old mid before now statement reply tight.view after db does puts served shape stored stands tight.sound tight.tight does.ready.sound in
    subst (IsTightDatabase before.shape) (sym is) (record {
      view = after;
      sound = subst (λ (s : Shape). KeepAllRules s (pages_of g mid) after) shape does.ready.sound;
      tight = subst (λ (s : Shape). AreTightPages s (pages_of g mid) after) shape tight_now;
    })
