-- The keys of a table of ready pages: it stands with its record indexes, and a look for equal keys meets no damage of it.
use Rattle.std.proofs.Common.{◌≡◌, ◌∙◌, ℕ, List, [], ◌∷◌, ◌++◌, false, Option, Some, ap, map, refl, subst}
use Rattle.std.specs.Prelude.{◌&&◌, flat_map}
use Rattle.std.specs.List.{list_any}
use Rattle.mdc_values.specs.declared.value.Value.{Value}
use Rattle.mdc_ast.specs.declared.bound.Bound.{Bound}
use Rattle.mdc_ast.specs.declared.definition.IndexDef.{IndexDef}
use Rattle.mdc_ast.specs.declared.definition.TableDef.{TableDef}
use Rattle.mdc_ast.specs.Database.{Database}
use Rattle.mdc_ast.specs.Definitions.{def_at}
use Rattle.mdc_ast.specs.TableLimits.{IsTableDef}
use Rattle.mdc_ast.proofs.DefinitionsLemmas.{neither}
use Rattle.statement_meaning.specs.Cause.{DuplicateKey, cause_if}
use Rattle.statement_meaning.specs.Doing.{causes_of_rows, key_causes, number_causes, twin_causes, value_causes}
use Rattle.statement_meaning.specs.Keys.{have_twins}
use Rattle.statement_meaning.proofs.CausesLemmas.{none_of_both}
use Rattle.store_api.specs.Frame.{NoPage}
use Rattle.store_api.specs.RunsOverPages.{RunsOverPages}
use Rattle.store_api.specs.declared.fault.Damage.{Damage}
use Rattle.store_api.specs.declared.fault.StoreFault.{StoreFault}
use Rattle.store_api.specs.declared.pages.Pages.{Ghosts}
use Rattle.store_api.specs.declared.shape.Shape.{Shape}
use Rattle.store_api.proofs.RunsOverPagesLemmas.{runs_wider}
use Rattle.extent_map.specs.declared.kind.Kind.{Kind}
use Rattle.mdc_sound.specs.BlockRules.{AreTableIndexesSound, AreTableKeysSound}
use Rattle.mdc_sound.specs.StandingTable.{BreaksTable, StandsTable, TableForests, pages_of, view_of}
use Rattle.mdc_sound.specs.StandsForDatabase.{rootless_index}
use Rattle.mdc_sound.proofs.SpaceRulesLemmas.{there_at}
use Rattle.mdc_sound.proofs.StandingTableLemmas.{forests_of, stands_of_rules, stands_told}
use Rattle.live_rows.proofs.LookInTableLemmas.{look_breaks}
use Rattle.stored_catalog.proofs.LeftDefinitionsLemmas.{stored_at}
use Rattle.stored_catalog.proofs.OpenedTableLemmas.{defined_there}
use Rattle.statement_rows.specs.RowsOfStatement.{AnyPage}
use Rattle.unique_keys.specs.Clashes.{BreaksClash, IsClashPage}
use Rattle.script_engine.specs.Ready.{AreServed, BreaksDatabase, IsReady}
use Rattle.script_engine.specs.declared.tables.Tables.{Tables}
use Rattle.script_engine.proofs.ReadyTablesLemmas.{served_def}

-- ---- what is said of keys

-- nothing of it looks at roots
pub rootless_twins : (rows : List (List Value)) (indexes : List IndexDef) → flat_map (twin_causes rows) (map rootless_index indexes) ≡ flat_map (twin_causes rows) indexes
rootless_twins rows [] = refl
rootless_twins rows (index ∷ indexes) = ap (λ more. twin_causes rows index ++ more) (rootless_twins rows indexes)

-- where no index is UNIQUE, nothing is said
pub no_unique_says_nothing : (rows : List (List Value)) (indexes : List IndexDef) → list_any (λ index. index.unique) indexes ≡ false → flat_map (twin_causes rows) indexes ≡ []
no_unique_says_nothing rows [] none = refl
no_unique_says_nothing rows (index ∷ indexes) none =
    let each = neither index.unique (list_any (λ (other : IndexDef). other.unique) indexes) none in
    ap (λ unique. cause_if (unique && have_twins index.parts rows) (DuplicateKey index.name) ++ flat_map (twin_causes rows) indexes) each.0 ∙ no_unique_says_nothing rows indexes each.1

-- where the rows say nothing, nothing is said of keys
pub nothing_of_keys : (db : Database) (statement : Bound) → causes_of_rows db statement ≡ [] → key_causes db statement ≡ []
nothing_of_keys db statement nothing =
    (none_of_both (value_causes db statement) (key_causes db statement) (none_of_both (value_causes db statement ++ key_causes db statement) (number_causes db statement) nothing).0).1

-- ---- a table of ready pages

-- a table stands, with the record indexes and the keys of sound pages
pub record StandsWithKeys {S : Type 0} (g : Ghosts S) (shape : Shape) (s : S) (def : TableDef) : Type 0 where
  pub owners : List Kind
  pub forests : TableForests
  pub stands : StandsTable g shape s def owners forests
  pub indexes : AreTableIndexesSound shape (pages_of g s) (view_of def forests)
  pub keys : AreTableKeysSound shape (pages_of g s) (view_of def forests)

-- so do the tables of ready pages
pub stands_with_keys : {S : Type 0} (g : Ghosts S) (s : S) (tables : Tables) (place : ℕ) (def : TableDef) → AreServed tables.catalog → IsReady g s tables → def_at tables.catalog place ≡ Some def
    → StandsWithKeys g tables.shape s def
stands_with_keys g s tables place def served ready at =
    let shape = tables.shape in
    let there = defined_there shape (pages_of g s) ready.view place def ready.sound (served_def tables.catalog place def served at).below (stored_at (pages_of g s) tables.catalog place def ready.stored at) in
    let forests = forests_of there.table in record {
      owners = ready.view.owners;
      forests = forests;
      stands = subst (λ (d : TableDef). StandsTable g shape s d ready.view.owners forests) there.same
          (stands_told g s ready.told shape there.table.def ready.view.owners forests (stands_of_rules shape (pages_of g s) ready.view ready.sound.first place there.table there.there));
      indexes = subst (λ (d : TableDef). AreTableIndexesSound shape (pages_of g s) (view_of d forests)) there.same
          (there_at (AreTableIndexesSound shape (pages_of g s)) ready.view.places place there.table there.there ready.sound.rule11);
      keys = subst (λ (d : TableDef). AreTableKeysSound shape (pages_of g s) (view_of d forests)) there.same
          (there_at (AreTableKeysSound shape (pages_of g s)) ready.view.places place there.table there.there ready.sound.rule12.unique);
    }

-- ---- damage

-- a look for equal keys names damage of a table that doesn't stand alone
pub clash_breaks : {S : Type 0} (g : Ghosts S) (shape : Shape) (s : S) (def : TableDef) → IsTableDef def.number def → (damage : Damage) → BreaksClash g s def damage → BreaksTable g shape s def damage
clash_breaks g shape s def defined damage (index, which, is, unique, breaks) = look_breaks shape s def defined index which is damage breaks

-- so it shows that the pages weren't ready
pub runs_clash : {S : Type 0} (g : Ghosts S) (old new : S) (tables : Tables) (place : ℕ) (def : TableDef) {fault : Option StoreFault} → AreServed tables.catalog → def_at tables.catalog place ≡ Some def
    → RunsOverPages g NoPage (IsClashPage g old def) (BreaksClash g old def) old new fault → RunsOverPages g NoPage AnyPage (BreaksDatabase g old tables) old new fault
runs_clash g old new tables place def served at run =
    runs_wider run (λ p there none. none) (λ p of. tt)
    (λ damage breaks ready.
    let st = stands_with_keys g old tables place def served ready at in
    (clash_breaks g tables.shape old def (served_def tables.catalog place def served at).limits damage breaks).broken st.owners st.forests st.stands)
