-- A CREATE TABLE that is done on tight pages leaves tight pages.
use Rattle.std.proofs.Common.{◌≡◌, ◌≢◌, ◌<◌, ℕ, Option, Some, None, List, [], ◌∷◌, ◌++◌, map, refl, ap, arith, sym, subst, ◌∙◌, inl, inr}
use Rattle.std.specs.Prelude.{Contains, slice_get}
use Rattle.std.specs.List.{AllByRecursion}
use Rattle.std.proofs.lemmas.Bool.{cases_eq}
use Rattle.std.proofs.lemmas.List.{append-nil}
use Rattle.mdc_words.proofs.PlacesLemmas.{slice_get-set_other}
use Rattle.mdc_ast.specs.Database.{Database, PlainTable, defs_of, with_place}
use Rattle.mdc_ast.specs.Definitions.{Definitions, def_at, empty_place}
use Rattle.mdc_ast.specs.declared.bound.Bound.TheVariants as bound
use Rattle.mdc_ast.specs.declared.definition.IndexDef.{IndexDef}
use Rattle.mdc_ast.specs.declared.definition.TableDef.{TableDef}
use Rattle.statement_meaning.specs.Doing.{entered}
use Rattle.store_api.specs.declared.shape.Shape.{Shape}
use Rattle.block_map.proofs.MapLinesLemmas.{contains_cases}
use Rattle.table_trees.specs.SpaceChanges.SpaceChange.{MakeTree}
use Rattle.table_trees.specs.TableTrees.{TreePlace, composite_place, dimension_places, map_place, record_place, tree_places}
use Rattle.table_trees.specs.ToldPages.{PageList}
use Rattle.mdc_sound.specs.Placing.{block_slot_count}
use Rattle.mdc_sound.specs.RunningFull.{creating_changes}
use Rattle.mdc_sound.specs.SoundDatabase.{KeepAllRules}
use Rattle.mdc_sound.specs.SpaceRules.{DatabaseView}
use Rattle.mdc_sound.specs.StandsForDatabase.{HoldsTable, PagesStandFor, rootless_index}
use Rattle.mdc_sound.specs.TablePages.{DefinesTable}
use Rattle.mdc_sound.specs.TableViews.{TableView}
use Rattle.mdc_sound.specs.TightPages.{AreTightPages}
use Rattle.stored_catalog.specs.StoredDefinitions.{AreStored}
use Rattle.stored_catalog.proofs.LeftDefinitionsLemmas.{stored_at}
use Rattle.statement_rows.specs.OtherTables.{KeepsTableBlocks}
use Rattle.script_engine.specs.Others.{ComesEmpty, KeepsOthers}
use Rattle.tight_space.specs.PuttingChanges.{ArePutting, HasTightBlocks, IsShortWidth, IsTreeAfter, places_after_all}
use Rattle.tight_space.proofs.MadeTreesLemmas.{makes_put}
use Rattle.tight_space.proofs.StaysTightLemmas.{stays_tight}
use Rattle.tight_space.proofs.TightDatabaseLemmas.{definition_short}
use Rattle.script_engine.specs.PuttingStatements.{OnlyPuts}
use Rattle.script_engine.proofs.FullBeyondLemmas.{free_place, set_there}
use Rattle.script_engine.proofs.OtherTablesLemmas.{held_at, other_blocks, other_trees, same_def, still_there, stored_def, stored_none}
use Rattle.script_engine.proofs.TightBlocksLemmas.{none_tight, shown_tight}

-- ---- trees that are made

-- a tree that is made is there afterwards
made_there : (makes places : List TreePlace) (place : TreePlace) → Contains makes place → Contains (places_after_all (map MakeTree makes) places) place
made_there [] places place (k, low, at) = absurd (omega (arith, low))
made_there (first ∷ makes) places place there = elim (contains_cases place first makes there) [
  | inl is ↦ still_there (map MakeTree makes) (first ∷ places) place (0, omega arith, is)
  | inr later ↦ made_there makes (first ∷ places) place later
]

none_mapped : (indexes : List IndexDef) → [] ≡ map rootless_index indexes → indexes ≡ []
none_mapped [] same = refl
none_mapped (index ∷ indexes) same = cc

-- ---- the pages afterwards

module _ (shape : Shape) (old new : PageList) (view now : DatabaseView) (sound : KeepAllRules shape old view) (tight : AreTightPages shape old view) (sound_now : KeepAllRules shape new now)
    (defs defs_now : Definitions) (stored : AreStored old defs) (stored_now : AreStored new defs_now) (keeps : KeepsOthers shape old new defs defs_now None)
    (db : Database) (stands : PagesStandFor shape old db) (t : ℕ) (free : slice_get db t ≡ Some None) (plain : PlainTable) (no_index : plain.def.indexes ≡ [])
    (stands_now : PagesStandFor shape new (with_place db t (Some plain))) where
  held : (t < 16) × HoldsTable shape new t plain
  held = held_at shape new (with_place db t (Some plain)) t (Some plain) stands_now (set_there db t plain free)

  -- its definition, with the roots that it got
  abbrev made : TableDef
  made = held.1.def

  comes : ComesEmpty shape old new made
  comes =
      keeps.made t made (stored_none shape old defs t stored held.0 (held_at shape old db t None stands free).1)
      (stored_def new defs_now t made stored_now held.0 held.1.defines)

  -- it has no record index
  abbrev its_trees : List TreePlace
  its_trees = map_place made ∷ composite_place made ∷ dimension_places made

  trees_are : tree_places made ≡ its_trees
  trees_are =
      let none : made.indexes ≡ [] = none_mapped made.indexes (sym no_index ∙ ap (λ (d : TableDef). d.indexes) held.1.def_is) in
      ap (λ (indexes : List IndexDef). map_place made ∷ composite_place made ∷ dimension_places made ++ map (record_place made) indexes) none
      ∙ ap (λ (places : List TreePlace). map_place made ∷ composite_place made ∷ places) (append-nil (dimension_places made))

  makes_all : (places : List TreePlace) → ArePutting places (creating_changes made)
  makes_all places = makes_put places its_trees (subst (AllByRecursion (λ (place : TreePlace). IsShortWidth place.width)) trees_are (definition_short t made held.1.defines.limits))

  is_made : (table : TableView) → slice_get now.places t ≡ Some (Some table) → table.def ≡ made
  is_made table at = same_def shape new now sound_now t table made at held.1.defines

  made_blocks : (table : TableView) → slice_get now.places t ≡ Some (Some table) → HasTightBlocks shape new now table
  made_blocks table at =
      shown_tight shape new now sound_now t table made made.next made.indexes comes.blocks.spots at (is_made table at) comes.blocks.shown
      (none_tight made (block_slot_count shape made) comes.blocks.spots comes.blocks.none)

  made_trees : (table : TableView) → slice_get now.places t ≡ Some (Some table) → (place : TreePlace) → Contains (tree_places table.def) place → IsTreeAfter view (creating_changes made) place
  made_trees table at place there =
      let mine = subst (λ (places : List TreePlace). Contains places place) (ap tree_places (is_made table at) ∙ trees_are) there in
      λ places all. made_there its_trees places place mine

  others : (u : ℕ) (other : TableDef) → u ≢ t → def_at defs u ≡ Some other → DefinesTable new u other × KeepsTableBlocks shape old new other
  others u other apart at = (let kept = keeps.each u other (λ e. cc) at in (stored_at new defs_now u other stored_now kept.0, kept.1))

  create_tight : AreTightPages shape new now
  create_tight =
      stays_tight shape old new view now db (creating_changes made) sound tight stands (λ places all. makes_all places) comes.makes sound_now
      (λ u table at. elim (cases_eq u t) [
        | inl here ↦ made_blocks table (subst (λ (n : ℕ). slice_get now.places n ≡ Some (Some table)) here at)
        | inr apart ↦ other_blocks shape old new view now sound tight sound_now defs stored db (with_place db t (Some plain)) stands stands_now t (λ v e. slice_get-set_other db t (Some plain) v e) others u table apart at
      ])
      (λ u table at place there. elim (cases_eq u t) [
        | inl here ↦ made_trees table (subst (λ (n : ℕ). slice_get now.places n ≡ Some (Some table)) here at) place there
        | inr apart ↦ other_trees shape old new view now sound tight sound_now defs stored db (with_place db t (Some plain)) stands stands_now t (λ v e. slice_get-set_other db t (Some plain) v e) others (creating_changes made) u table apart at place there
      ])

-- in the words of the engine
pub creates_tight : (shape : Shape) (old new : PageList) (view now : DatabaseView) (defs defs_now : Definitions) (db : Database) (def : TableDef) → KeepAllRules shape old view → AreTightPages shape old view → KeepAllRules shape new now
    → AreStored old defs → AreStored new defs_now → PagesStandFor shape old db → PagesStandFor shape new (entered db (empty_place (defs_of db)) def) → OnlyPuts db (bound.CreateTable def) → def.indexes ≡ [] → KeepsOthers shape old new defs defs_now None
    → AreTightPages shape new now
creates_tight shape old new view now defs defs_now db def sound tight sound_now stored stored_now stands stands_now puts no_index keeps =
    let plain : PlainTable = record { def = record def { number = puts.0 }; rows = [] } in
    create_tight shape old new view now sound tight sound_now defs defs_now stored stored_now keeps db stands puts.0 (free_place db puts.0 puts.1) plain no_index
    (subst (λ (place : Option ℕ). PagesStandFor shape new (entered db place def)) puts.1 stands_now)
