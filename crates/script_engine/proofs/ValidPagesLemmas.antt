-- Sound pages whose definitions are served stand for a valid database.
use Rattle.std.proofs.Common.{◌≡◌, ◌≤◌, ◌<◌, ◌+◌, ◌∙◌, ℕ, List, [], ◌∷◌, ◌++◌, Option, Some, None, map, refl, ap, arith, sym, subst}
use Rattle.std.specs.Prelude.{◌||◌, AllPairs, Contains, IsPermutation, flat_map, option_map}
use Rattle.std.specs.List.{AllByRecursion, AllZip, list_any, range_with_len}
use Rattle.std.proofs.lemmas.List.{length-map}
use Rattle.std.proofs.lemmas.List.Sorted.{Contains-permutation, IsPermutation-sym}
use Rattle.mdc_ast.specs.Database.{Database}
use Rattle.mdc_ast.specs.Definitions.{AllNamesDiffer, Definitions, is_defined}
use Rattle.mdc_ast.specs.FittingRows.{RowFits}
use Rattle.mdc_ast.specs.ValidDatabase.{AllDefsDiffer, AreValidDefs, AreValidFrom, AreValidRows, IsUniqueIn, IsValid, IsValidDef, IsValidIndex, IsValidTable, RiseFrom, index_names}
use Rattle.mdc_ast.specs.declared.definition.ColumnDef.{ColumnDef}
use Rattle.mdc_ast.specs.declared.definition.IndexDef.{IndexDef}
use Rattle.mdc_ast.specs.declared.definition.TableDef.{TableDef}
use Rattle.mdc_ast.specs.declared.name.Name.{Name}
use Rattle.mdc_ast.specs.declared.row.Row.{Row}
use Rattle.store_api.specs.declared.shape.Shape.{Shape}
use Rattle.block_map.specs.MapLines.{used_blocks}
use Rattle.table_trees.specs.TableTrees.{map_place, tree_places}
use Rattle.table_trees.specs.ToldPages.{HasTree, PageList}
use Rattle.mdc_sound.specs.BlockLines.{mapped_line}
use Rattle.mdc_sound.specs.BlockRules.{AreLineRowsSound, AreRowNumbersSound, AreTableKeysSound}
use Rattle.mdc_sound.specs.SoundDatabase.{KeepAllRules}
use Rattle.mdc_sound.specs.SpaceRules.{DatabaseView, tables_there}
use Rattle.mdc_sound.specs.StandsForDatabase.{HoldsPlace, PagesStandFor, rootless, rootless_index}
use Rattle.mdc_sound.specs.TableRows.{PlacedRow, rows_by_line, rows_in_table}
use Rattle.mdc_sound.specs.TableViews.{TableView, trees_of_table}
use Rattle.mdc_sound.proofs.BlockRulesLemmas.{each_of}
use Rattle.mdc_sound.proofs.ElementsLemmas.{each_in, flat_contains, from_map}
use Rattle.mdc_sound.proofs.SpaceRulesLemmas.{each_there, there_at}
use Rattle.mdc_sound.proofs.StandsForLemmas.{above_first, is_first, is_later, rest_rises}
use Rattle.stored_catalog.specs.StoredDefinitions.{AreStored}
use Rattle.tight_space.proofs.DatabaseItemsLemmas.{Beside}
use Rattle.tight_space.proofs.FullStatementsLemmas.{IsPlain, plain_beside}
use Rattle.unique_keys.proofs.UniqueRowsLemmas.{keys_of_placed}
use Rattle.script_engine.specs.Ready.{AreServed}
use Rattle.script_engine.proofs.StoredDefsLemmas.{stored_defs, without_roots}

-- ---- definitions without roots

rootless_indexes : (columns : List ColumnDef) (indexes : List IndexDef) → AllByRecursion (IsValidIndex columns) indexes → AllByRecursion (IsValidIndex columns) (map rootless_index indexes)
rootless_indexes columns [] valid = tt
rootless_indexes columns (index ∷ indexes) valid =
    (record { short = valid.0.short; there = valid.0.there; apart = valid.0.apart; short_key = valid.0.short_key }, rootless_indexes columns indexes valid.1)

rootless_def : (place : ℕ) (def : TableDef) → IsValidDef place def → IsValidDef place (rootless def)
rootless_def place def is = record {
  stands = is.stands;
  short = is.short;
  few = is.few;
  short_names = is.short_names;
  good_types = is.good_types;
  names_differ = is.names_differ;
  narrow = is.narrow;
  few_dims = is.few_dims;
  dims_there = is.dims_there;
  dims_apart = is.dims_apart;
  short_keys = is.short_keys;
  short_composite = is.short_composite;
  sources = is.sources;
  few_indexes = subst (λ n. n ≤ 8) (sym (length-map def.indexes rootless_index)) is.few_indexes;
  indexes = rootless_indexes def.columns def.indexes is.indexes;
  few_rows = is.few_rows;
}

rootless_from : (from : ℕ) (defs : Definitions) → AreValidFrom from defs → AreValidFrom from (without_roots defs)
rootless_from from [] valid = tt
rootless_from from (None ∷ defs) valid = (tt, rootless_from (from + 1) defs valid.1)
rootless_from from (Some def ∷ defs) valid = (rootless_def from def valid.0, rootless_from (from + 1) defs valid.1)

any_rootless : (name : Name) (defs : Definitions) → list_any (is_defined name) (without_roots defs) ≡ list_any (is_defined name) defs
any_rootless name [] = refl
any_rootless name (None ∷ defs) = ap (λ found. is_defined name None || found) (any_rootless name defs)
any_rootless name (Some def ∷ defs) = ap (λ found. is_defined name (Some def) || found) (any_rootless name defs)

rootless_differ : (defs : Definitions) → AllDefsDiffer defs → AllDefsDiffer (without_roots defs)
rootless_differ [] differ = tt
rootless_differ (None ∷ defs) differ = rootless_differ defs differ
rootless_differ (Some def ∷ defs) differ = (any_rootless def.name defs ∙ differ.0, rootless_differ defs differ.1)

same_names : (indexes : List IndexDef) → map (λ (index : IndexDef). index.name) (map rootless_index indexes) ≡ map (λ (index : IndexDef). index.name) indexes
same_names [] = refl
same_names (index ∷ indexes) = ap (λ names. index.name ∷ names) (same_names indexes)

rootless_names : (defs : Definitions) → flat_map index_names (without_roots defs) ≡ flat_map index_names defs
rootless_names [] = refl
rootless_names (None ∷ defs) = rootless_names defs
rootless_names (Some def ∷ defs) =
    ap (λ names. names ++ flat_map index_names (without_roots defs)) (same_names def.indexes) ∙ ap (λ names. index_names (Some def) ++ names) (rootless_names defs)

rootless_valid : (defs : Definitions) → AreValidDefs defs → AreValidDefs (without_roots defs)
rootless_valid defs valid = record {
  places = length-map defs (option_map rootless) ∙ valid.places;
  differ = rootless_differ defs valid.differ;
  index_names_differ = subst AllNamesDiffer (sym (rootless_names defs)) valid.index_names_differ;
  each = rootless_from 0 defs valid.each;
}

-- ---- the rows of a table

-- rows that rise between two numbers
rises_from : (n : ℕ) (rows : List Row) (next : ℕ) → n ≤ next → ((row : Row) → Contains rows row → (n ≤ row.number) × (row.number < next)) → AllPairs (λ a b. a.number < b.number) rows → RiseFrom n rows next
rises_from n [] next low each rise = low
rises_from n (row ∷ rows) next low each rise =
    let here = each row (is_first row rows) in (
      here.0,
      rises_from (row.number + 1) rows next (omega (arith, here.1))
          (λ z there. ((let above = above_first row rows rise z there in omega (arith, above)), (each z (is_later row z rows there)).1)) (rest_rises row rows rise),
    )

rootless_unique : (rows : List Row) (indexes : List IndexDef) → AllByRecursion (IsUniqueIn rows) indexes → AllByRecursion (IsUniqueIn rows) (map rootless_index indexes)
rootless_unique rows [] unique = tt
rootless_unique rows (index ∷ indexes) unique = (unique.0, rootless_unique rows indexes unique.1)

-- the rows of a table keep the rules on them
record HasSoundRows (shape : Shape) (pages : PageList) (table : TableView) : Type 0 where
  pub fit : AllByRecursion (λ block. AreLineRowsSound shape pages table.def (mapped_line table.map block)) (used_blocks table.map)
  pub numbers : AreRowNumbersSound table.def (rows_in_table shape pages table.def table.map)
  pub unique : AreTableKeysSound shape pages table

module _ (shape : Shape) (pages : PageList) (table : TableView) (has : HasSoundRows shape pages table) where
  abbrev rows_there : List PlacedRow
  rows_there = rows_in_table shape pages table.def table.map

  row_fits : (placed : PlacedRow) → Contains rows_there placed → RowFits table.def placed.row
  row_fits placed there =
      let of = flat_contains (λ block. rows_by_line shape pages table.def (mapped_line table.map block)) (used_blocks table.map) placed there in
      each_of (λ (p : PlacedRow). RowFits table.def p.row) (rows_by_line shape pages table.def (mapped_line table.map of.0)) placed
      (each_of (λ block. AreLineRowsSound shape pages table.def (mapped_line table.map block)) (used_blocks table.map) of.0 has.fit of.1).rows of.2

  -- what holds of each placed row holds of each row of the plain table
  each_plain : (P : Row → Type 0) (rows : List Row) → IsPermutation (map (λ (placed : PlacedRow). placed.row) rows_there) rows → ((placed : PlacedRow) → Contains rows_there placed → P placed.row)
      → (row : Row) → Contains rows row → P row
  each_plain P rows same each row there =
      let of = from_map (λ (placed : PlacedRow). placed.row) rows_there row
      (Contains-permutation rows (map (λ (placed : PlacedRow). placed.row) rows_there) row (IsPermutation-sym (map (λ (placed : PlacedRow). placed.row) rows_there) rows same) there) in
      subst P of.2 (each of.0 of.1)

  valid_rows : (rows : List Row) → IsPermutation (map (λ (placed : PlacedRow). placed.row) rows_there) rows → AllPairs (λ a b. a.number < b.number) rows → IsValidTable (record { def = rootless table.def; rows = rows })
  valid_rows rows same rise = record {
    rising = rises_from 0 rows table.def.next (omega arith)
        (λ row there. (omega arith, each_plain (λ (r : Row). r.number < table.def.next) rows same (λ placed at. each_of (λ (p : PlacedRow). p.row.number < table.def.next) rows_there placed has.numbers.below_next at) row there)) rise;
    fitting = each_in (RowFits (rootless table.def)) rows
        (λ row there. (let fits = each_plain (RowFits table.def) rows same row_fits row there in record { values = fits.values; generated = fits.generated }));
    unique = rootless_unique rows table.def.indexes (keys_of_placed rows_there rows table.def.indexes same has.unique);
  }

-- ---- all tables

tables_valid : (shape : Shape) (pages : PageList) (ts : List ℕ) (places : List (Option TableView)) (db : Database) → AllZip (HoldsPlace shape pages) ts db → AllZip (Beside (IsPlain shape pages)) places db
    → AllByRecursion (HasSoundRows shape pages) (tables_there places) → AllByRecursion AreValidRows db
tables_valid shape pages [] places [] holds beside have = tt
tables_valid shape pages [] places (plain ∷ db) holds beside have = absurd holds
tables_valid shape pages (t ∷ ts) places [] holds beside have = absurd holds
tables_valid shape pages (t ∷ ts) [] (plain ∷ db) holds beside have = absurd beside
tables_valid shape pages (t ∷ ts) (None ∷ places) (None ∷ db) holds beside have = (tt, tables_valid shape pages ts places db holds.1 beside.1 have)
tables_valid shape pages (t ∷ ts) (None ∷ places) (Some plain ∷ db) holds beside have = absurd beside.0
tables_valid shape pages (t ∷ ts) (Some table ∷ places) (None ∷ db) holds beside have = absurd beside.0
tables_valid shape pages (t ∷ ts) (Some table ∷ places) (Some plain ∷ db) holds beside have = (
  subst (λ (def : TableDef). IsValidTable (record { def = def; rows = plain.rows })) (sym beside.0.def_is) (valid_rows shape pages table have.0 plain.rows beside.0.same_rows holds.0.rising),
  tables_valid shape pages ts places db holds.1 beside.1 have.1,
)

pub valid_pages : (shape : Shape) (pages : PageList) (view : DatabaseView) (defs : Definitions) (db : Database) → KeepAllRules shape pages view → AreStored pages defs → AreServed defs → PagesStandFor shape pages db → IsValid db
valid_pages shape pages view defs db sound stored served stands =
    let maps = each_there (λ (one : TableView). HasTree pages (map_place one.def) one.map) view.places
    (λ t table at. (there_at (λ (one : TableView). AllZip (HasTree pages) (tree_places one.def) (trees_of_table one)) view.places t table at sound.first.rule4).0) in
    record {
      defs = subst AreValidDefs (sym (stored_defs shape pages defs db stored stands)) (rootless_valid defs served.valid);
      tables = tables_valid shape pages (range_with_len 0 16) view.places db stands
          (plain_beside shape pages view.owners (range_with_len 0 16) view.places db sound.first.rule3.each stands maps)
          (each_there (HasSoundRows shape pages) view.places (λ t table at. record {
            fit = there_at (λ (one : TableView). AllByRecursion (λ block. AreLineRowsSound shape pages one.def (mapped_line one.map block)) (used_blocks one.map)) view.places t table at sound.first.rule7;
            numbers = there_at (λ (one : TableView). AreRowNumbersSound one.def (rows_in_table shape pages one.def one.map)) view.places t table at sound.rule12.numbers;
            unique = there_at (AreTableKeysSound shape pages) view.places t table at sound.rule12.unique;
          }));
    }
