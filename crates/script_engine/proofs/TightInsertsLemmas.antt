-- An INSERT that is done on tight pages leaves tight pages.
use Rattle.std.proofs.Common.{◌≡◌, ◌≢◌, ◌<◌, ℕ, Some, List, [], ◌∷◌, ap, sym, subst, inl, inr}
use Rattle.std.specs.Prelude.{Contains, slice_get}
use Rattle.std.proofs.lemmas.Bool.{cases_eq}
use Rattle.std.proofs.lemmas.Option.{same_Some}
use Rattle.mdc_values.specs.declared.value.Value.{Value}
use Rattle.mdc_ast.specs.Database.{Database, appended, changed_at, numbered}
use Rattle.mdc_ast.specs.Definitions.{Definitions, def_at}
use Rattle.mdc_ast.specs.TableLimits.{IsTableDef}
use Rattle.mdc_ast.specs.ValidDatabase.{IsValid}
use Rattle.mdc_ast.specs.declared.bound.Bound.TheVariants as bound
use Rattle.mdc_ast.specs.declared.definition.TableDef.{TableDef}
use Rattle.mdc_ast.specs.declared.row.Row.{Row}
use Rattle.store_api.specs.declared.shape.Shape.{Shape}
use Rattle.table_trees.specs.SpaceChanges.{SpaceChange}
use Rattle.table_trees.specs.TableTrees.{TreePlace, map_place, tree_places}
use Rattle.table_trees.specs.ToldPages.{PageList}
use Rattle.mdc_sound.specs.Placing.{Spot, block_slot_count, table_spots}
use Rattle.mdc_sound.specs.RunningFull.{InsertingChanges}
use Rattle.mdc_sound.specs.SoundDatabase.{KeepAllRules}
use Rattle.mdc_sound.specs.SpaceRules.{DatabaseView}
use Rattle.mdc_sound.specs.StandsForDatabase.{PagesStandFor}
use Rattle.mdc_sound.specs.TablePages.{DefinesTable}
use Rattle.mdc_sound.specs.TableViews.{TableView}
use Rattle.mdc_sound.specs.TightPages.{AreTightPages}
use Rattle.mdc_sound.proofs.ChangedRowsLemmas.{some_slots}
use Rattle.stored_catalog.specs.StoredDefinitions.{AreStored}
use Rattle.statement_rows.specs.OtherTables.{KeepsTableBlocks}
use Rattle.statement_rows.specs.RowsAndSpace.{PutsRowsBy}
use Rattle.stored_catalog.proofs.LeftDefinitionsLemmas.{stored_at}
use Rattle.mdc_ast.specs.declared.statement.RolloutMode.{RolloutMode}
use Rattle.script_engine.specs.Doing.{PlacesOnPages, PlacesRows}
use Rattle.script_engine.specs.Others.{KeepsOthers}
use Rattle.tight_space.specs.PuttingChanges.{AllFit, HasTightBlocks, IsTreeAfter}
use Rattle.tight_space.proofs.FullStatementsLemmas.{has}
use Rattle.tight_space.proofs.PutChangesLemmas.{inserting_putting}
use Rattle.tight_space.proofs.StaysTightLemmas.{stays_tight}
use Rattle.tight_space.proofs.TightDatabaseLemmas.{limits}
use Rattle.tight_space.proofs.TightSpotsLemmas.{AreTightSpots, claims_tight, puts_tight}
use Rattle.script_engine.proofs.FullBeyondLemmas.{IsTableOf, insert_fits, table_of_stored}
use Rattle.script_engine.proofs.OtherTablesLemmas.{other_blocks, other_changed, other_trees, same_def, still_there}
use Rattle.script_engine.proofs.TightBlocksLemmas.{shown_are, shown_tight}

-- ---- spots

-- rows that are put one after the other make changes of an INSERT
inserting_of : (def : TableDef) (n : ℕ) (old new : List Spot) (rows : List Row) (changes : List SpaceChange) → PutsRowsBy def n old rows changes new → InsertingChanges def n old rows changes
inserting_of def n old new [] changes PutsRowsBy.none = InsertingChanges.none
inserting_of def n old new (row ∷ rows) changes (PutsRowsBy.one {mid = mid} {next = next} {changes = later} rid puts after more) = InsertingChanges.one rid puts after (inserting_of def n next new rows later more)

-- and leave tight spots
puts_all_tight : (def : TableDef) (n : ℕ) → 0 < n → (old new : List Spot) (rows : List Row) (changes : List SpaceChange) → AreTightSpots def n old → AllFit def rows → PutsRowsBy def n old rows changes new → AreTightSpots def n new
puts_all_tight def n some old new [] changes tight fits PutsRowsBy.none = tight
puts_all_tight def n some old new (row ∷ rows) changes tight fits (PutsRowsBy.one {mid = mid} {next = next} {changes = later} rid puts after more) =
    puts_all_tight def n some next new rows later (claims_tight def n mid next after (puts_tight def n some old row fits.0 tight mid rid puts).tight) fits.1 more

-- ---- the pages afterwards

module _ (shape : Shape) (old new : PageList) (view now : DatabaseView) (sound : KeepAllRules shape old view) (tight : AreTightPages shape old view) (sound_now : KeepAllRules shape new now)
    (defs : Definitions) (stored : AreStored old defs) (db : Database) (stands : PagesStandFor shape old db) (t : ℕ) (tuples : List (List Value)) (def : TableDef) (is : def_at defs t ≡ Some def)
    (stands_now : PagesStandFor shape new (changed_at db t (appended tuples)))
    (others : (u : ℕ) (other : TableDef) → u ≢ t → def_at defs u ≡ Some other → DefinesTable new u other × KeepsTableBlocks shape old new other)
    (fit : AllFit def (numbered def.next tuples)) {mode : RolloutMode} (placed : PlacesOnPages shape old new mode def (bound.Insert t tuples)) where
  abbrev after : Database
  after = changed_at db t (appended tuples)

  of : IsTableOf view t def
  of = table_of_stored shape old view defs t def sound stored is

  rows_put : PutsRowsBy def (block_slot_count shape def) placed.was (numbered def.next tuples) placed.space placed.is
  rows_put = go placed.places
    where
      go : PlacesRows mode def (block_slot_count shape def) placed.was placed.space placed.is (bound.Insert t tuples) → PutsRowsBy def (block_slot_count shape def) placed.was (numbered def.next tuples) placed.space placed.is
      go (PlacesRows.insert puts) = puts

  limits_of : IsTableDef t def
  limits_of = subst (IsTableDef t) of.same (limits shape old view sound tight t of.table of.at)

  was_tight : AreTightSpots def (block_slot_count shape def) placed.was
  was_tight =
      let here = (has shape old view sound tight t of.table of.at).spots in
      let were = shown_are shape old view sound t of.table def placed.was of.at (ap map_place (sym of.same)) placed.shown_before in
      subst (AreTightSpots def (block_slot_count shape def)) (sym were)
      (subst (λ (d : TableDef). AreTightSpots d (block_slot_count shape d) (table_spots shape old d view.owners of.table.map)) of.same here)

  -- the table that got rows
  has_next : (table : TableView) → slice_get now.places t ≡ Some (Some table) → table.def ≡ record def { next = placed.defined.0 }
  has_next table at =
      let defined = subst (λ (n : ℕ). DefinesTable new n (record def { next = placed.defined.0 })) limits_of.stands placed.defined.1 in
      same_def shape new now sound_now t table (record def { next = placed.defined.0 }) at defined

  put_blocks : (table : TableView) → slice_get now.places t ≡ Some (Some table) → HasTightBlocks shape new now table
  put_blocks table at =
      let after = puts_all_tight def (block_slot_count shape def) (some_slots shape t def limits_of) placed.was placed.is (numbered def.next tuples) placed.space was_tight fit rows_put in
      shown_tight shape new now sound_now t table def placed.defined.0 def.indexes placed.is at (has_next table at) placed.shown_after after

  put_trees : (table : TableView) → slice_get now.places t ≡ Some (Some table) → (place : TreePlace) → Contains (tree_places table.def) place → IsTreeAfter view placed.space place
  put_trees table at place there =
      let in_def : Contains (tree_places def) place = subst (λ (d : TableDef). Contains (tree_places d) place) (has_next table at) there in
      λ places all. still_there placed.space places place (all t of.table of.at place (subst (λ (d : TableDef). Contains (tree_places d) place) (sym of.same) in_def))

  pub insert_tight : AreTightPages shape new now
  insert_tight =
      stays_tight shape old new view now db placed.space sound tight stands
      (λ places all. inserting_putting def places (λ place in_it. all t of.table of.at place (subst (λ (d : TableDef). Contains (tree_places d) place) (sym of.same) in_it)) (block_slot_count shape def) placed.was (numbered def.next tuples) placed.space
      (inserting_of def (block_slot_count shape def) placed.was placed.is (numbered def.next tuples) placed.space rows_put)) placed.makes sound_now
      (λ u table at. elim (cases_eq u t) [
        | inl here ↦ put_blocks table (subst (λ (n : ℕ). slice_get now.places n ≡ Some (Some table)) here at)
        | inr apart ↦ other_blocks shape old new view now sound tight sound_now defs stored db after stands stands_now t (λ v e. other_changed db t v (appended tuples) e) others u table apart at
      ])
      (λ u table at place there. elim (cases_eq u t) [
        | inl here ↦ put_trees table (subst (λ (n : ℕ). slice_get now.places n ≡ Some (Some table)) here at) place there
        | inr apart ↦ other_trees shape old new view now sound tight sound_now defs stored db after stands stands_now t (λ v e. other_changed db t v (appended tuples) e) others placed.space u table apart at place there
      ])

-- in the words of the engine
pub inserts_tight : {mode : RolloutMode} (shape : Shape) (old new : PageList) (view now : DatabaseView) (defs defs_now : Definitions) (db : Database) (t : ℕ) (tuples : List (List Value)) (def : TableDef) → KeepAllRules shape old view → AreTightPages shape old view
    → KeepAllRules shape new now → AreStored old defs → AreStored new defs_now → PagesStandFor shape old db → PagesStandFor shape new (changed_at db t (appended tuples)) → IsValid (changed_at db t (appended tuples)) → def_at defs t ≡ Some def
    → KeepsOthers shape old new defs defs_now (Some t) → PlacesOnPages shape old new mode def (bound.Insert t tuples) → AreTightPages shape new now
inserts_tight shape old new view now defs defs_now db t tuples def sound tight sound_now stored stored_now stands stands_now valid is keeps placed =
    insert_tight shape old new view now sound tight sound_now defs stored db stands t tuples def is stands_now
    (λ u other apart at. (let kept = keeps.each u other (λ e. apart (sym (same_Some t u e))) at in (stored_at new defs_now u other stored_now kept.0, kept.1)))
    (insert_fits shape old view sound tight defs stored db stands t tuples def is valid) placed
