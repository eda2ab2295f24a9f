-- The rows over which a CREATE INDEX goes: all of its table, by rising number, in places apart. What is said of their keys is all
-- that rows say against the statement.
use Rattle.std.proofs.Common.{◌≡◌, ◌<◌, ◌∙◌, ◌++◌, ℕ, List, [], ◌∷◌, append-nil, ap, Bool, false, map, refl, subst, sym, true}
use Rattle.std.specs.Prelude.{IsPermutation, IsTrue, ◌&&◌, None, Some, filter, flat_map, slice_get}
use Rattle.std.specs.List.{AllByRecursion}
use Rattle.std.proofs.lemmas.Grind.{flat_map-append}
use Rattle.std.proofs.lemmas.List.Sorted.{IsPermutation-map, IsPermutation-refl, IsPermutation-sym, IsPermutation-trans}
use Rattle.std.proofs.lemmas.Simd.{map-map}
use Rattle.mdc_values.specs.declared.value.Value.{Value}
use Rattle.mdc_ast.specs.declared.bound.Bound.TheVariants as bound
use Rattle.mdc_ast.specs.declared.definition.ColumnDef.{ColumnDef}
use Rattle.mdc_ast.specs.declared.definition.IndexDef.{IndexDef}
use Rattle.mdc_ast.specs.declared.definition.TableDef.{TableDef}
use Rattle.mdc_ast.specs.declared.row.Row.{Row}
use Rattle.mdc_ast.specs.Database.{Database, PlainTable, fits_all, table_at}
use Rattle.mdc_ast.proofs.TestsLemmas.{both}
use Rattle.statement_meaning.specs.Cause.{DuplicateKey, cause_if}
use Rattle.statement_meaning.specs.Doing.{causes_of_rows, duplicate_causes, indexed_table, key_causes, twin_causes}
use Rattle.statement_meaning.specs.Judging.{of_some}
use Rattle.statement_meaning.specs.Keys.{have_twins}
use Rattle.statement_meaning.proofs.DatabaseLemmas.{table_at-changed}
use Rattle.statement_meaning.proofs.KeysLemmas.{all_are_unique}
use Rattle.row_groups.specs.Numbers.{values_of}
use Rattle.row_checks.proofs.UniqueLemmas.{unique_says_nothing}
use Rattle.store_api.specs.declared.pages.Pages.{Ghosts}
use Rattle.store_api.specs.declared.shape.Shape.{Shape}
use Rattle.extent_map.specs.declared.kind.Kind.{Kind}
use Rattle.block_rows.specs.HeldRows.{placed_row}
use Rattle.block_rows.specs.declared.hit.Hit.{Hit}
use Rattle.mdc_sound.specs.BlockRules.{AreRowNumbersSound, AreTableKeysSound, IsUniqueSound}
use Rattle.mdc_sound.specs.Placing.{Spot, rows_from_spot}
use Rattle.mdc_sound.specs.RunningFull.{ShowsTableSpots}
use Rattle.mdc_sound.specs.SoundDatabase.{KeepAllRules}
use Rattle.mdc_sound.specs.SpaceRules.{DatabaseView}
use Rattle.mdc_sound.specs.StandingTable.{StandsTable, TableForests, pages_of, spots_of}
use Rattle.mdc_sound.specs.TablePages.{DefinesTable}
use Rattle.mdc_sound.specs.TableRows.{PlacedRow, rows_in_table}
use Rattle.mdc_sound.specs.TableViews.{TableView}
use Rattle.mdc_sound.proofs.ChangedRowsLemmas.{rows_of_standing}
use Rattle.mdc_sound.proofs.SpaceRulesLemmas.{there_at}
use Rattle.mdc_sound.proofs.StandingTableLemmas.{forests_of, stands_of_rules, stands_told}
use Rattle.cell_change.proofs.ChangedSpaceLemmas.{shows_spots}
use Rattle.row_entries.proofs.StandingRowsLemmas.{lie_apart}
use Rattle.table_scan.specs.FoundRows.{FindsRows}
use Rattle.table_scan.proofs.ScannedRowsLemmas.{found_rows_rise, placed_rise}
use Rattle.stored_catalog.proofs.OpenedTableLemmas.{defined_there}
use Rattle.index_building.specs.IndexSteps.{AreRowsOf, ByRowNumber, LieApart}
use Rattle.index_building.proofs.IndexingDamageLemmas.{apart_in_order}
use Rattle.unique_keys.proofs.UniqueRowsLemmas.{keys_of_placed, keys_of_plain}
use Rattle.script_engine.proofs.ScannedTablesLemmas.{hits_fit}

-- ---- lists of rows

-- where there is no predicate, all are left
pub kept_all : {X : Type 0} (xs : List X) → filter (λ x. true) xs ≡ xs
kept_all [] = refl
kept_all (x ∷ xs) = ap (λ rest. x ∷ rest) (kept_all xs)

-- the values of what was found
pub values_of_hits : (found : List Hit) → values_of (map (λ hit. hit.row) found) ≡ map (λ hit. hit.row.values) found
values_of_hits found = map-map (λ (row : Row). row.values) (λ (hit : Hit). hit.row) found

rows_of_hits : (found : List Hit) → map (λ (placed : PlacedRow). placed.row) (map placed_row found) ≡ map (λ hit. hit.row) found
rows_of_hits found = map-map (λ (placed : PlacedRow). placed.row) placed_row found

rows_fit : (columns : List ColumnDef) (found : List Hit) → AllByRecursion (λ hit. IsTrue (fits_all columns hit.row.values)) found
    → AllByRecursion (λ row. IsTrue (fits_all columns row.values)) (map (λ hit. hit.row) found)
rows_fit columns [] fit = tt
rows_fit columns (hit ∷ found) fit = (fit.0, rows_fit columns found fit.1)

-- ---- keys

-- of indexes of which nothing is said, and one behind them, there is said what is said of that one
last_causes : (rows : List (List Value)) (indexes : List IndexDef) (index : IndexDef) → flat_map (twin_causes rows) indexes ≡ [] → flat_map (twin_causes rows) (indexes ++ index ∷ []) ≡ twin_causes rows index
last_causes rows indexes index none =
    flat_map-append (twin_causes rows) indexes (index ∷ [])
    ∙ (ap (λ front. front ++ flat_map (twin_causes rows) (index ∷ [])) none ∙ append-nil (twin_causes rows index))

-- so what rows say against a CREATE INDEX is what is said of its index
pub indexed_causes : (db : Database) (place : ℕ) (table : PlainTable) (index : IndexDef) → table_at db place ≡ Some table → flat_map (twin_causes (values_of table.rows)) table.def.indexes ≡ []
    → causes_of_rows db (bound.CreateIndex place index) ≡ twin_causes (values_of table.rows) index
indexed_causes db place table index at none =
    append-nil (key_causes db (bound.CreateIndex place index))
    ∙ (ap (λ found. of_some found duplicate_causes) (table_at-changed db place table (indexed_table index) at) ∙ last_causes (values_of table.rows) table.def.indexes index none)

-- rows of which no two have equal keys are unique
pub new_keys : (found : List Hit) (index : IndexDef) → (index.unique && have_twins index.parts (map (λ hit. hit.row.values) found)) ≡ false → IsUniqueSound (map placed_row found) index
new_keys found index none =
    let rows : List Row = map (λ (hit : Hit). hit.row) found in
    let unsaid : flat_map (twin_causes (values_of rows)) (index ∷ []) ≡ [] =
    ap (λ doubled. cause_if doubled (DuplicateKey index.name) ++ []) (ap (λ all. index.unique && have_twins index.parts all) (values_of_hits found) ∙ none) in
    let same : IsPermutation (map (λ (placed : PlacedRow). placed.row) (map placed_row found)) rows = subst (λ all. IsPermutation all rows) (sym (rows_of_hits found)) (IsPermutation-refl rows) in
    (keys_of_plain (map placed_row found) rows (index ∷ []) same (all_are_unique rows (index ∷ []) unsaid)).0

-- ---- rows on pages

-- these are the rows of the table, wherever it was told to stand
abbrev pub FindsAll : {S : Type 0} → Ghosts S → Shape → S → TableDef → List Hit → Type 0
FindsAll g shape s def found = (owners : List Kind) (forests : TableForests) → StandsTable g shape s def owners forests → FindsRows g shape s def None found forests

-- the same rows, in another list
pub finds_as : {S : Type 0} (g : Ghosts S) (shape : Shape) (s : S) (def : TableDef) (found rows : List Hit) → rows ≡ found → FindsAll g shape s def found → FindsAll g shape s def rows
finds_as g shape s def found rows same finds = subst (FindsAll g shape s def) (sym same) finds

pub doubled_as : (index : IndexDef) (rows others : List Hit) (doubled test : Bool) → others ≡ rows → doubled ≡ (index.unique && have_twins index.parts (map (λ hit. hit.row.values) rows)) → doubled ≡ test
    → (index.unique && have_twins index.parts (map (λ hit. hit.row.values) others)) ≡ test
doubled_as index rows others doubled test same is tested = ap (λ (all : List Hit). index.unique && have_twins index.parts (map (λ hit. hit.row.values) all)) same ∙ (sym is ∙ tested)

-- where two of some rows are doubled, the index is UNIQUE
pub is_unique : (index : IndexDef) (twins doubled : Bool) → doubled ≡ (index.unique && twins) → doubled ≡ true → IsTrue index.unique
is_unique index twins doubled is tested = (both index.unique twins (sym is ∙ tested)).0

-- What a scan found are all rows of a table of sound pages, by rising number, in places apart, and in no UNIQUE index of the table
-- two of them have equal keys. The pages show them in the table's spots.
pub record HasAllRows {S : Type 0} (g : Ghosts S) (shape : Shape) (s : S) (view : DatabaseView) (place : ℕ) (def : TableDef) (found : List Hit) : Type 0 where
  pub are : AreRowsOf shape (pages_of g s) view place (map placed_row found)
  pub by_number : ByRowNumber (map placed_row found)
  pub lie : LieApart (map placed_row found)
  pub unsaid : flat_map (twin_causes (values_of (map (λ hit. hit.row) found))) def.indexes ≡ []
  pub spots : List Spot
  pub shows : ShowsTableSpots shape (pages_of g s) def spots
  pub in_spots : IsPermutation (map placed_row found) (rows_from_spot 0 spots)

module _ {S : Type 0} (g : Ghosts S) (shape : Shape) (s : S) (told : IsTrue (g.state s).is_told) (view : DatabaseView) (keeps : KeepAllRules shape (pages_of g s) view) (place : ℕ) (found : List Hit) where
  module _ (table : TableView) (there : slice_get view.places place ≡ Some (Some table)) (finds : FindsAll g shape s table.def found) where
    abbrev rows_there : List PlacedRow
    rows_there = rows_in_table shape (pages_of g s) table.def table.map

    stands : StandsTable g shape s table.def view.owners (forests_of table)
    stands = stands_told g s told shape table.def view.owners (forests_of table) (stands_of_rules shape (pages_of g s) view keeps.first place table there)

    here : FindsRows g shape s table.def None found (forests_of table)
    here = finds view.owners (forests_of table) stands

    all_found : IsPermutation rows_there (map placed_row found)
    all_found = subst (λ all. IsPermutation all (map placed_row found)) (kept_all rows_there) here.found

    found_all : IsPermutation (map placed_row found) rows_there
    found_all = IsPermutation-sym rows_there (map placed_row found) all_found

    numbers : AreRowNumbersSound table.def rows_there
    numbers = there_at (λ (other : TableView). AreRowNumbersSound other.def (rows_in_table shape (pages_of g s) other.def other.map)) view.places place table there keeps.rule12.numbers

    lie_there : LieApart rows_there
    lie_there = lie_apart g shape s table.def view.owners (forests_of table) stands

    old_keys : flat_map (twin_causes (values_of (map (λ hit. hit.row) found))) table.def.indexes ≡ []
    old_keys =
        let rows : List Row = map (λ (hit : Hit). hit.row) found in
        let row_of : PlacedRow → Row = λ placed. placed.row in
        let same : IsPermutation (map row_of rows_there) rows = subst (IsPermutation (map row_of rows_there)) (rows_of_hits found) (IsPermutation-map row_of rows_there (map placed_row found) all_found) in
        let keys : AreTableKeysSound shape (pages_of g s) table = there_at (AreTableKeysSound shape (pages_of g s)) view.places place table there keeps.rule12.unique in
        unique_says_nothing table.def.columns rows table.def.indexes
        (rows_fit table.def.columns found (hits_fit g shape s table.def view.owners (forests_of table) stands None found here))
        (keys_of_placed rows_there rows table.def.indexes same keys)

    all_rows_there : HasAllRows g shape s view place table.def found
    all_rows_there = record {
      are = record { table = table; there = there; same = found_all };
      by_number = placed_rise found (found_rows_rise g shape s table.def None found (forests_of table) here numbers);
      lie = apart_in_order (map placed_row found) rows_there found_all lie_there;
      unsaid = old_keys;
      spots = spots_of g shape s table.def view.owners (forests_of table);
      shows = shows_spots g shape s table.def view.owners (forests_of table) stands;
      in_spots = IsPermutation-trans (map placed_row found) rows_there (rows_from_spot 0 (spots_of g shape s table.def view.owners (forests_of table))) found_all
          (rows_of_standing g shape s table.def view.owners (forests_of table) stands);
    }

  pub has_all_rows : (def : TableDef) → place < 16 → DefinesTable (pages_of g s) place def → FindsAll g shape s def found → HasAllRows g shape s view place def found
  has_all_rows def low defines finds =
      let defined = defined_there shape (pages_of g s) view place def keeps low defines in
      subst (λ (d : TableDef). HasAllRows g shape s view place d found) defined.same
      (all_rows_there defined.table defined.there (subst (λ (d : TableDef). FindsAll g shape s d found) (sym defined.same) finds))
