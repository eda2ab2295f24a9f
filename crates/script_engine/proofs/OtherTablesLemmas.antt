-- Tables that a statement leaves on pages that were tight.
use Rattle.std.proofs.Common.{◌≡◌, ◌≢◌, ◌<◌, ◌+◌, ℕ, zero, suc, Option, Some, None, List, [], ◌∷◌, refl, ap, arith, sym, subst, ◌∙◌}
use Rattle.std.specs.Prelude.{Contains, option_and_then, slice_get}
use Rattle.std.specs.List.{AllZip, range_with_len}
use Rattle.mdc_ast.specs.Database.{Database, PlainTable, changed_at}
use Rattle.mdc_ast.specs.Definitions.{Definitions, def_at}
use Rattle.mdc_ast.specs.declared.definition.IndexDef.{IndexDef}
use Rattle.mdc_ast.specs.declared.definition.TableDef.{TableDef}
use Rattle.store_api.specs.declared.shape.Shape.{Shape}
use Rattle.block_map.proofs.MapLinesLemmas.{contains_more}
use Rattle.table_trees.specs.SpaceChanges.{SpaceChange}
use Rattle.table_trees.specs.SpaceChanges.SpaceChange.{AddEntry, AmendEntry, ClaimBlock, GiveBlock, MakeTree, RemoveEntry}
use Rattle.table_trees.specs.TableTrees.{TreePlace, map_place, tree_places}
use Rattle.table_trees.specs.ToldPages.{HasTree, PageList}
use Rattle.table_page.proofs.TablePageLemmas.{no_blank_table, one_definition}
use Rattle.table_page.specs.TablePage.{IsTablePageOf}
use Rattle.mdc_sound.specs.Placing.{block_slot_count, table_spots}
use Rattle.mdc_sound.specs.RunningFull.{ShowsTableSpots}
use Rattle.mdc_sound.specs.SoundDatabase.{KeepAllRules}
use Rattle.mdc_sound.specs.SpaceRules.{DatabaseView, IsTablePlaceSound}
use Rattle.mdc_sound.specs.StandsForDatabase.{HoldsPlace, PagesStandFor}
use Rattle.mdc_sound.specs.TablePages.{DefinesTable, table_page_at}
use Rattle.mdc_sound.specs.TableViews.{TableView, trees_of_table}
use Rattle.mdc_sound.specs.TightPages.{AreTightPages}
use Rattle.mdc_sound.proofs.SpaceRulesLemmas.{each_there, range_at, range_length, there_at}
use Rattle.stored_catalog.specs.StoredDefinitions.{AreStored, IsStoredPlace}
use Rattle.statement_rows.specs.OtherTables.{KeepsTableBlocks}
use Rattle.tight_space.specs.PuttingChanges.{HasTightBlocks, IsTreeAfter, places_after, places_after_all}
use Rattle.tight_space.proofs.DatabaseItemsLemmas.{Beside}
use Rattle.tight_space.proofs.FullStatementsLemmas.{IsPlain, has, plain_at, plain_beside}
use Rattle.tight_space.proofs.TightDatabaseLemmas.{extents}
use Rattle.tight_space.proofs.TightSpotsLemmas.{AreTightSpots}
use Rattle.script_engine.proofs.FullBeyondLemmas.{place_there, table_of_stored}
use Rattle.script_engine.proofs.TightBlocksLemmas.{shown_tight, tight_own}

-- ---- places

-- trees that there were are there still
pub still_there : (changes : List SpaceChange) (places : List TreePlace) (place : TreePlace) → Contains places place → Contains (places_after_all changes places) place
still_there [] places place there = there
still_there (change ∷ changes) places place there = still_there changes (places_after change places) place (one change)
  where
    one : (c : SpaceChange) → Contains (places_after c places) place
    one (ClaimBlock t block) = there
    one (GiveBlock t block) = there
    one (AddEntry p entry) = there
    one (RemoveEntry p entry) = there
    one (AmendEntry p was is) = there
    one (MakeTree p) = contains_more place p places there

pub other_changed : (db : Database) (t u : ℕ) (change : PlainTable → PlainTable) → u ≢ t → slice_get (changed_at db t change) u ≡ slice_get db u
other_changed [] t u change apart = refl
other_changed (place ∷ db) zero zero change apart = absurd (apart refl)
other_changed (place ∷ db) zero (suc u) change apart = refl
other_changed (place ∷ db) (suc t) zero change apart = refl
other_changed (place ∷ db) (suc t) (suc u) change apart = other_changed db t u change (λ e. apart (ap suc e))

-- ---- definitions by the pages

-- what stands in a place of a database is what the pages hold there
pub held_at : (shape : Shape) (pages : PageList) (db : Database) (t : ℕ) (place : Option PlainTable) → PagesStandFor shape pages db → slice_get db t ≡ Some place → (t < 16) × HoldsPlace shape pages t place
held_at shape pages db t place stands at =
    let held = range_at (HoldsPlace shape pages) 0 16 db t place stands at in
    let number : 0 + t ≡ t = omega arith in
    (held.0, subst (λ (n : ℕ). HoldsPlace shape pages n place) number held.1)

-- what stands in a place of a catalog
stored_there : (pages : PageList) (defs : Definitions) (t : ℕ) → AreStored pages defs → t < 16 → (place : Option TableDef) × (slice_get defs t ≡ Some place) × IsStoredPlace pages t place
stored_there pages defs t stored low =
    let place = place_there defs t (omega (arith, low, range_length (IsStoredPlace pages) 0 16 defs stored)) in
    let number : 0 + t ≡ t = omega arith in
    (place.0, place.1, subst (λ (n : ℕ). IsStoredPlace pages n place.0) number (range_at (IsStoredPlace pages) 0 16 defs t place.0 stored place.1).1)

-- a catalog has the definition that a table page has
pub stored_def : (pages : PageList) (defs : Definitions) (t : ℕ) (def : TableDef) → AreStored pages defs → t < 16 → DefinesTable pages t def → def_at defs t ≡ Some def
stored_def pages defs t def stored low defines = (let there = stored_there pages defs t stored low in go there.0 there.1 there.2)
  where
    go : (place : Option TableDef) → slice_get defs t ≡ Some place → IsStoredPlace pages t place → def_at defs t ≡ Some def
    go None at blank = absurd (no_blank_table t def (subst (λ page. IsTablePageOf t def page) blank defines))
    go (Some other) at has_it = ap (option_and_then (λ d. d)) at ∙ ap Some (one_definition t other def (table_page_at pages t) has_it defines)

-- and none where the page has none
pub stored_none : (shape : Shape) (pages : PageList) (defs : Definitions) (t : ℕ) → AreStored pages defs → t < 16 → HoldsPlace shape pages t None → def_at defs t ≡ None
stored_none shape pages defs t stored low none = (let there = stored_there pages defs t stored low in go there.0 there.1 there.2)
  where
    go : (place : Option TableDef) → slice_get defs t ≡ Some place → IsStoredPlace pages t place → def_at defs t ≡ None
    go None at blank = ap (option_and_then (λ d. d)) at
    go (Some other) at has_it = absurd (no_blank_table t other (subst (λ page. IsTablePageOf t other page) none has_it))

-- ---- one table of a sound database

-- a table has the definition of its page
pub same_def : (shape : Shape) (pages : PageList) (view : DatabaseView) → KeepAllRules shape pages view → (t : ℕ) (table : TableView) (def : TableDef) → slice_get view.places t ≡ Some (Some table) → DefinesTable pages t def → table.def ≡ def
same_def shape pages view sound t table def at defines =
    let here : 0 + t ≡ t = omega arith in
    let mine = (range_at (IsTablePlaceSound shape pages view.owners) 0 16 view.places t (Some table) sound.first.rule3.each at).1.0 in
    one_definition t table.def def (table_page_at pages t) (subst (λ (n : ℕ). DefinesTable pages n table.def) here mine) defines

module _ (shape : Shape) (old new : PageList) (view now : DatabaseView) (sound : KeepAllRules shape old view) (tight : AreTightPages shape old view) (sound_now : KeepAllRules shape new now)
    (defs : Definitions) (stored : AreStored old defs) where
  -- a table that keeps its blocks, whatever record indexes it has then
  pub kept_blocks : (t : ℕ) (def : TableDef) (indexes : List IndexDef) (table : TableView) → def_at defs t ≡ Some def → KeepsTableBlocks shape old new def → slice_get now.places t ≡ Some (Some table)
      → table.def ≡ record def { indexes = indexes } → HasTightBlocks shape new now table
  kept_blocks t def indexes table is keeps at same =
      let before = table_of_stored shape old view defs t def sound stored is in
      let was = table_spots shape old def view.owners before.table.map in
      let tree = (there_at (λ (one : TableView). AllZip (HasTree old) (tree_places one.def) (trees_of_table one)) view.places t before.table before.at sound.first.rule4).0 in
      let shows : ShowsTableSpots shape old def was = record {
        owners = view.owners;
        map_tree = before.table.map;
        has_extents = extents shape old view sound tight;
        has_map = subst (λ (d : TableDef). HasTree old (map_place d) before.table.map) before.same tree;
        spots_are = refl;
      } in
      let (spots, shown, own) = keeps was shows in
      let had = subst (λ (d : TableDef). AreTightSpots d (block_slot_count shape d) (table_spots shape old d view.owners before.table.map)) before.same (has shape old view sound tight t before.table before.at).spots in
      shown_tight shape new now sound_now t table def def.next indexes spots at same shown (tight_own def (block_slot_count shape def) was spots own had)

  -- ---- all tables but one

  module _ (db after : Database) (stands : PagesStandFor shape old db) (stands_now : PagesStandFor shape new after) (t : ℕ) (same_places : (u : ℕ) → u ≢ t → slice_get after u ≡ slice_get db u)
      (others : (u : ℕ) (other : TableDef) → u ≢ t → def_at defs u ≡ Some other → DefinesTable new u other × KeepsTableBlocks shape old new other) where
    plains_now : AllZip (Beside (IsPlain shape new)) now.places after
    plains_now =
        plain_beside shape new now.owners (range_with_len 0 16) now.places after sound_now.first.rule3.each stands_now
        (each_there (λ (one : TableView). HasTree new (map_place one.def) one.map) now.places (λ i one there. (there_at (λ (v : TableView). AllZip (HasTree new) (tree_places v.def) (trees_of_table v)) now.places i one there sound_now.first.rule4).0))

    -- any other table was there
    was_there : (u : ℕ) (table : TableView) → u ≢ t → slice_get now.places u ≡ Some (Some table) → (other : TableDef) × (def_at defs u ≡ Some other)
    was_there u table apart at =
        let plain = plain_at shape new now.places after u table plains_now at in
        let held = held_at shape old db u (Some plain.0) stands (sym (same_places u apart) ∙ plain.1) in
        (held.1.def, stored_def old defs u held.1.def stored held.0 held.1.defines)

    -- with the same blocks
    pub other_blocks : (u : ℕ) (table : TableView) → u ≢ t → slice_get now.places u ≡ Some (Some table) → HasTightBlocks shape new now table
    other_blocks u table apart at =
        let (other, at_defs) = was_there u table apart at in
        let (defines, keeps) = others u other apart at_defs in
        kept_blocks u other other.indexes table at_defs keeps at (same_def shape new now sound_now u table other at defines)

    -- and the same trees
    pub other_trees : (changes : List SpaceChange) (u : ℕ) (table : TableView) → u ≢ t → slice_get now.places u ≡ Some (Some table) → (place : TreePlace) → Contains (tree_places table.def) place → IsTreeAfter view changes place
    other_trees changes u table apart at place there =
        let (other, at_defs) = was_there u table apart at in
        let (defines, keeps) = others u other apart at_defs in
        let before = table_of_stored shape old view defs u other sound stored at_defs in
        let same = same_def shape new now sound_now u table other at defines in
        let in_old : Contains (tree_places before.table.def) place = subst (λ (d : TableDef). Contains (tree_places d) place) (same ∙ sym before.same) there in
        λ places all. still_there changes places place (all u before.table before.at place in_old)
