-- A statement's text that only puts and runs full on tight pages.
use Rattle.std.proofs.Common.{◌≡◌, ◌<◌, ℕ, List, map, true, sym, subst}
use Rattle.mdc_ast.specs.Database.{Database, defs_of}
use Rattle.mdc_ast.specs.Definitions.{Definitions}
use Rattle.mdc_ast.specs.ValidDatabase.{IsValid}
use Rattle.mdc_ast.specs.declared.bound.Bound.{Bound}
use Rattle.mdc_ast.specs.declared.bound.Bound.TheVariants as bound
use Rattle.mdc_ast.specs.declared.definition.ColumnDef.{ColumnDef}
use Rattle.mdc_ast.specs.declared.definition.TableDef.{TableDef}
use Rattle.mdc_ast.specs.declared.reply.Reply.{Reply}
use Rattle.mdc_ast.specs.declared.statement.Stmt.{Stmt}
use Rattle.mdc_ast.specs.declared.statement.Stmt.TheVariants as stmt
use Rattle.statement_meaning.specs.Binding.{bound_index, bound_of, bound_tuple}
use Rattle.statement_meaning.specs.Built.{are_built}
use Rattle.statement_meaning.specs.Judged.{index_judged, insert_judged, targets}
use Rattle.statement_meaning.specs.Step.{Replied, step}
use Rattle.statement_meaning.proofs.KeepingLemmas.{step_keeps}
use Rattle.store_api.specs.declared.shape.Shape.{Shape}
use Rattle.table_trees.specs.ToldPages.{PageList}
use Rattle.mdc_sound.specs.SoundDatabase.{KeepAllRules}
use Rattle.mdc_sound.specs.SpaceRules.{DatabaseView}
use Rattle.mdc_sound.specs.StandsForDatabase.{PagesStandFor}
use Rattle.mdc_sound.specs.TightPages.{AreTightPages, need}
use Rattle.stored_catalog.specs.StoredDefinitions.{AreStored}
use Rattle.script_engine.specs.Doing.{StepRunsFull}
use Rattle.script_engine.proofs.StoredDefsLemmas.{stored_defs, without_roots}
use Rattle.script_engine.specs.PuttingStatements.{OnlyPutsByText, OnlyPuts}
use Rattle.script_engine.proofs.FullBeyondLemmas.{full_beyond}
use Rattle.script_engine.proofs.StepsDoneLemmas.{effect_is, faultless_replies, none_judged, on_its_table, place_found}
use Rattle.script_engine.proofs.ValidPagesLemmas.{valid_pages}
use Rattle.script_engine.specs.Ready.{AreServed}

-- a statement that only puts is bound to one that does
only_puts : (db : Database) (defs : Definitions) → defs_of db ≡ without_roots defs → are_built defs ≡ true → (reply : Reply) (statement : Stmt) → OnlyPutsByText statement → (step db statement).1 ≡ Replied reply → OnlyPuts db (bound_of defs statement)
only_puts db defs same built reply (stmt.CreateTable name columns dims) puts replied = place_found db name columns dims reply replied
only_puts db defs same built reply (stmt.CreateIndex name unique table parts) puts replied =
    let bind : ℕ → List ColumnDef → Bound = λ place columns. bound.CreateIndex place (bound_index columns name unique parts) in
    let on = on_its_table defs table (index_judged defs name parts) bind (none_judged db defs same built (stmt.CreateIndex name unique table parts) reply replied) in
    subst (OnlyPuts db) (sym on.bound_is) tt
only_puts db defs same built reply (stmt.Insert name listed tuples) puts replied =
    let bind : ℕ → List ColumnDef → Bound = λ place columns. bound.Insert place (map (bound_tuple columns (targets columns listed)) tuples) in
    let on = on_its_table defs name (λ (def : TableDef). insert_judged listed tuples def.columns) bind (none_judged db defs same built (stmt.Insert name listed tuples) reply replied) in
    subst (OnlyPuts db) (sym on.bound_is) tt
only_puts db defs same built reply statement puts replied = absurd puts

pub step_beyond : (shape : Shape) (pages : PageList) (view : DatabaseView) (defs : Definitions) (db : Database) (statement : Stmt) → KeepAllRules shape pages view → AreTightPages shape pages view → AreStored pages defs
    → AreServed defs → PagesStandFor shape pages db → OnlyPutsByText statement → StepRunsFull shape pages defs statement → shape.extents < need shape (step db statement).0
step_beyond shape pages view defs db statement sound tight stored served stands puts full =
    let same : defs_of db ≡ without_roots defs = stored_defs shape pages defs db stored stands in
    let valid = step_keeps db statement (valid_pages shape pages view defs db sound stored served stands) in
    let (reply, replied) = faultless_replies db statement (full.faultless db stands) in
    let is = effect_is db defs same served.built statement reply replied in
    subst (λ (after : Database). shape.extents < need shape after) (sym is)
    (full_beyond shape pages view sound tight defs stored db stands (bound_of defs statement) (subst IsValid is valid) (only_puts db defs same served.built reply statement puts replied) full.full)
