-- A CREATE INDEX that is done on tight pages leaves tight pages.
use Rattle.std.proofs.Common.{◌≡◌, ◌≢◌, ◌<◌, ℕ, Some, List, [], ◌∷◌, ◌++◌, length, map, refl, ap, arith, sym, subst, ◌∙◌, inl, inr}
use Rattle.std.specs.Prelude.{Contains, slice_get}
use Rattle.std.specs.List.{AllByRecursion}
use Rattle.std.proofs.lemmas.Bool.{cases_eq}
use Rattle.std.proofs.lemmas.List.{append_assoc, length-append, length-map, map-append}
use Rattle.std.proofs.lemmas.Option.{same_Some}
use Rattle.mdc_ast.specs.Database.{Database, PlainTable, changed_at}
use Rattle.mdc_ast.specs.Definitions.{Definitions, def_at, with_index}
use Rattle.mdc_ast.specs.declared.definition.IndexDef.{IndexDef}
use Rattle.mdc_ast.specs.declared.definition.TableDef.{TableDef}
use Rattle.statement_meaning.specs.Doing.{indexed_table}
use Rattle.store_api.specs.declared.shape.Shape.{Shape}
use Rattle.block_map.proofs.MapLinesLemmas.{contains_cases, contains_more}
use Rattle.table_trees.specs.SpaceChanges.{SpaceChange}
use Rattle.table_trees.specs.SpaceChanges.SpaceChange.{AddEntry}
use Rattle.table_trees.specs.TableTrees.{TreePlace, composite_place, dimension_places, map_place, record_entry, record_place, record_places, tree_places}
use Rattle.table_trees.specs.ToldPages.{PageList}
use Rattle.mdc_sound.specs.RunningFull.{indexing_changes}
use Rattle.mdc_sound.specs.SoundDatabase.{KeepAllRules}
use Rattle.mdc_sound.specs.SpaceRules.{DatabaseView}
use Rattle.mdc_sound.specs.StandsForDatabase.{HoldsTable, PagesStandFor, rootless_index}
use Rattle.mdc_sound.specs.TablePages.{DefinesTable}
use Rattle.mdc_sound.specs.TableRows.{PlacedRow}
use Rattle.mdc_sound.specs.TableViews.{TableView}
use Rattle.mdc_sound.specs.TightPages.{AreTightPages}
use Rattle.stored_catalog.specs.StoredDefinitions.{AreStored}
use Rattle.stored_catalog.proofs.LeftDefinitionsLemmas.{stored_at}
use Rattle.statement_rows.specs.OtherTables.{KeepsTableBlocks}
use Rattle.script_engine.specs.Others.{GainsIndex, KeepsOthers}
use Rattle.tight_space.specs.PuttingChanges.{ArePutting, HasTightBlocks, IsShortWidth, IsTreeAfter}
use Rattle.tight_space.proofs.FullStatementsLemmas.{IsPlain, plain_at, plains}
use Rattle.tight_space.proofs.MadeTreesLemmas.{index_puts}
use Rattle.tight_space.proofs.StaysTightLemmas.{stays_tight}
use Rattle.tight_space.proofs.TightDatabaseLemmas.{definition_short}
use Rattle.script_engine.proofs.FullBeyondLemmas.{IsTableOf, changed_there, last_of, table_of_stored}
use Rattle.script_engine.proofs.OtherTablesLemmas.{held_at, kept_blocks, other_blocks, other_changed, other_trees, same_def, still_there, stored_def}

-- ---- the trees of a table with one index more

-- that of the index is behind the others
trees_with_index : (def : TableDef) (index : IndexDef) → tree_places (with_index def index) ≡ tree_places def ++ record_place def index ∷ []
trees_with_index def index =
    ap (λ (records : List TreePlace). map_place def ∷ composite_place def ∷ dimension_places def ++ records) (map-append (record_place def) def.indexes (index ∷ []))
    ∙ ap (λ (places : List TreePlace). map_place def ∷ composite_place def ∷ places) (sym (append_assoc (dimension_places def) (record_places def) (record_place def index ∷ [])))

-- what is there of some and one more is one of them or that one
one_more : {X : Type 0} (xs ys : List X) (last x : X) → ((y : X) → Contains xs y → Contains ys y) → Contains ys last → Contains (xs ++ last ∷ []) x → Contains ys x
one_more [] ys last x all behind there = elim (contains_cases x last [] there) [
  | inl is ↦ subst (λ y. Contains ys y) is behind
  | inr (k, low, at) ↦ absurd (omega (arith, low))
]
one_more (first ∷ xs) ys last x all behind there = elim (contains_cases x first (xs ++ last ∷ []) there) [
  | inl is ↦ all x (0, omega arith, is)
  | inr later ↦ one_more xs ys last x (λ y more. all y (contains_more y first xs more)) behind later
]

-- ---- the pages afterwards

module _ (shape : Shape) (old new : PageList) (view now : DatabaseView) (sound : KeepAllRules shape old view) (tight : AreTightPages shape old view) (sound_now : KeepAllRules shape new now)
    (defs defs_now : Definitions) (stored : AreStored old defs) (stored_now : AreStored new defs_now) (t : ℕ) (keeps : KeepsOthers shape old new defs defs_now (Some t))
    (db : Database) (stands : PagesStandFor shape old db) (index : IndexDef) (def : TableDef) (is : def_at defs t ≡ Some def)
    (stands_now : PagesStandFor shape new (changed_at db t (indexed_table index))) where
  of : IsTableOf view t def
  of = table_of_stored shape old view defs t def sound stored is

  plain : (plain : PlainTable) × (slice_get db t ≡ Some (Some plain)) × IsPlain shape old of.table plain
  plain = plain_at shape old view.places db t of.table (plains shape old view sound tight db stands) of.at

  held : (t < 16) × HoldsTable shape new t (indexed_table index plain.0)
  held = held_at shape new (changed_at db t (indexed_table index)) t (Some (indexed_table index plain.0)) stands_now (changed_there db t (indexed_table index) plain.0 plain.1)

  -- its definition then, in which the index has its root
  abbrev def_now : TableDef
  def_now = held.1.def

  grew : length def.indexes < length def_now.indexes
  grew =
      omega (
        arith,
        ap (λ (d : TableDef). length d.indexes) held.1.def_is,
        length-map def_now.indexes rootless_index,
        length-append plain.0.def.indexes (index ∷ []),
        ap (λ (d : TableDef). length d.indexes) plain.2.def_is,
        length-map of.table.def.indexes rootless_index,
        ap (λ (d : TableDef). length d.indexes) of.same,
      )

  gains : GainsIndex shape old new def def_now
  gains = keeps.gained t def def_now is (stored_def new defs_now t def_now stored_now held.0 held.1.defines) grew

  abbrev made : TreePlace
  made = record_place def gains.index

  abbrev changes : List SpaceChange
  changes = indexing_changes def gains.index gains.rows

  -- its tree is made, and entries are added to it
  puts : (places : List TreePlace) → ArePutting places changes
  puts places = (short, index_puts shape old view sound tight def gains.index gains.rows (made ∷ places) (0, omega arith, refl))
    where
      short : IsShortWidth made.width
      short =
          let all = definition_short t def_now held.1.defines.limits in
          let are = ap tree_places gains.is ∙ trees_with_index def gains.index in
          last_of (λ (place : TreePlace). IsShortWidth place.width) (tree_places def) made (subst (AllByRecursion (λ (place : TreePlace). IsShortWidth place.width)) are all)

  is_indexed : (table : TableView) → slice_get now.places t ≡ Some (Some table) → table.def ≡ with_index def gains.index
  is_indexed table at = same_def shape new now sound_now t table def_now at held.1.defines ∙ gains.is

  indexed_blocks : (table : TableView) → slice_get now.places t ≡ Some (Some table) → HasTightBlocks shape new now table
  indexed_blocks table at = kept_blocks shape old new view now sound tight sound_now defs stored t def (def.indexes ++ gains.index ∷ []) table is gains.blocks at (is_indexed table at)

  indexed_trees : (table : TableView) → slice_get now.places t ≡ Some (Some table) → (place : TreePlace) → Contains (tree_places table.def) place → IsTreeAfter view changes place
  indexed_trees table at place there =
      let mine = subst (λ (ps : List TreePlace). Contains ps place) (ap tree_places (is_indexed table at) ∙ trees_with_index def gains.index) there in
      λ places all. still_there (map (λ (placed : PlacedRow). AddEntry made (record_entry def.columns gains.index.parts placed.row.values placed.rid)) gains.rows) (made ∷ places) place
      (one_more (tree_places def) (made ∷ places) made place
      (λ other in_it. contains_more other made places (all t of.table of.at other (subst (λ (d : TableDef). Contains (tree_places d) other) (sym of.same) in_it))) (0, omega arith, refl) mine)

  others : (u : ℕ) (other : TableDef) → u ≢ t → def_at defs u ≡ Some other → DefinesTable new u other × KeepsTableBlocks shape old new other
  others u other apart at = (let kept = keeps.each u other (λ e. apart (sym (same_Some t u e))) at in (stored_at new defs_now u other stored_now kept.0, kept.1))

  index_tight : AreTightPages shape new now
  index_tight =
      stays_tight shape old new view now db changes sound tight stands (λ places all. puts places) gains.makes sound_now
      (λ u table at. elim (cases_eq u t) [
        | inl here ↦ indexed_blocks table (subst (λ (n : ℕ). slice_get now.places n ≡ Some (Some table)) here at)
        | inr apart ↦ other_blocks shape old new view now sound tight sound_now defs stored db (changed_at db t (indexed_table index)) stands stands_now t (λ v e. other_changed db t v (indexed_table index) e) others u table apart at
      ])
      (λ u table at place there. elim (cases_eq u t) [
        | inl here ↦ indexed_trees table (subst (λ (n : ℕ). slice_get now.places n ≡ Some (Some table)) here at) place there
        | inr apart ↦ other_trees shape old new view now sound tight sound_now defs stored db (changed_at db t (indexed_table index)) stands stands_now t (λ v e. other_changed db t v (indexed_table index) e) others changes u table apart at place there
      ])

-- in the words of the engine
pub indexes_tight : (shape : Shape) (old new : PageList) (view now : DatabaseView) (defs defs_now : Definitions) (db : Database) (t : ℕ) (index : IndexDef) (def : TableDef) → KeepAllRules shape old view → AreTightPages shape old view
    → KeepAllRules shape new now → AreStored old defs → AreStored new defs_now → PagesStandFor shape old db → PagesStandFor shape new (changed_at db t (indexed_table index)) → def_at defs t ≡ Some def → KeepsOthers shape old new defs defs_now (Some t)
    → AreTightPages shape new now
indexes_tight shape old new view now defs defs_now db t index def sound tight sound_now stored stored_now stands stands_now is keeps =
    index_tight shape old new view now sound tight sound_now defs defs_now stored stored_now t keeps db stands index def is stands_now
