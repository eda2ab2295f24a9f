-- A CREATE TABLE, a CREATE INDEX or an INSERT that runs full on a tight database: what it would make needs more extents than there
-- are.
use Rattle.std.proofs.Common.{◌≡◌, ◌≢◌, ◌<◌, ◌≤◌, ◌+◌, ◌*◌, ◌==◌, ℕ, zero, suc, Bool, cond, Option, Some, None, List, [], ◌∷◌, ◌++◌, length, map, refl, ap, arith, sym, subst, ◌∙◌}
use Rattle.std.specs.Prelude.{Contains, IsPermutation, flat_map, slice_get, sum_by, zip}
use Rattle.std.specs.Int.{div_ceil}
use Rattle.std.specs.List.{AllByRecursion, AllZip, range_with_len}
use Rattle.std.specs.Str.{bytes_eq}
use Rattle.std.proofs.lemmas.Bool.{eq-eqb, ne_eqb}
use Rattle.std.proofs.lemmas.List.{append-nil, length-append}
use Rattle.std.proofs.lemmas.List.Elements.{Contains-append_left, Contains-append_right}
use Rattle.std.proofs.lemmas.List.Sorted.{IsPermutation-map, IsPermutation-sym, IsPermutation-trans, length_permutation, sum_by-IsPermutation}
use Rattle.std.proofs.lemmas.List.Sums.{sum_by-append, sum_by-cons}
use Rattle.std.proofs.lemmas.Option.{same_Some}
use Rattle.mdc_words.specs.ByteOrder.{Entry}
use Rattle.mdc_values.specs.declared.value.Value.{Value}
use Rattle.mdc_ast.specs.Database.{Database, PlainTable, appended, changed_at, numbered}
use Rattle.mdc_ast.specs.declared.definition.ColumnDef.{ColumnDef}
use Rattle.mdc_ast.specs.declared.definition.IndexDef.{IndexDef}
use Rattle.mdc_ast.specs.declared.definition.TableDef.{TableDef}
use Rattle.mdc_ast.specs.declared.row.Row.{Row}
use Rattle.store_api.specs.Format.{first_format}
use Rattle.store_api.specs.declared.shape.Shape.{Shape}
use Rattle.extent_map.specs.declared.kind.Kind.{Kind}
use Rattle.extent_map.proofs.ExtentsLemmas.{extent_limits}
use Rattle.extent_map.proofs.LawsOfTheMap.{one_map}
use Rattle.key_codec.specs.Keys.{key_bytes, width_of_parts}
use Rattle.row_page.specs.RowPage.{slot_count}
use Rattle.entry_tree.specs.Forest.{Forest, once, times}
use Rattle.table_trees.specs.SpaceChanges.{SpaceChange}
use Rattle.table_trees.specs.TableTrees.{TreePlace, block_index_places, cell_parts, composite_place, dimension_place, dimension_places, map_place, record_place, record_places, rising_parts, tree_places}
use Rattle.table_trees.specs.ToldPages.{HasTree, PageList}
use Rattle.table_page.proofs.TablePageLemmas.{no_blank_table, one_definition}
use Rattle.table_page.specs.TablePage.{IsTablePageOf}
use Rattle.mdc_sound.specs.Placing.{Spot, block_slot_count, rows_from_spot, table_spots}
use Rattle.mdc_sound.specs.RunningFull.{InsertRunsFull, InsertingChanges}
use Rattle.mdc_sound.specs.SoundDatabase.{KeepAllRules}
use Rattle.mdc_sound.specs.SpaceRules.{DatabaseView, IsBlockMapSound, IsTablePlaceSound, tables_there}
use Rattle.mdc_sound.specs.StandsForDatabase.{HoldsPlace, PagesStandFor, rootless, rootless_index}
use Rattle.mdc_sound.specs.TablePages.{table_page_at}
use Rattle.mdc_sound.specs.TableRows.{PlacedRow, rows_in_table}
use Rattle.mdc_sound.specs.TableViews.{TableView, trees_of_table}
use Rattle.mdc_sound.specs.TightPages.{AreTightPages, blocks_needed, index_pages_needed, key_of_cell, need, pages_needed, rows_of_cell, sum_of_tables, table_blocks}
use Rattle.mdc_sound.proofs.ChangedRowsLemmas.{some_slots}
use Rattle.mdc_sound.proofs.DefinitionTreesLemmas.{has_block_indexes}
use Rattle.mdc_sound.proofs.ElementsLemmas.{each_in}
use Rattle.mdc_sound.proofs.SpaceRulesLemmas.{there_at, there_sum, two_there_sum}
use Rattle.mdc_sound.proofs.StandsForLemmas.{one_tree_at}
use Rattle.mdc_sound.proofs.TableSpotRowsLemmas.{rows_of_spots}
use Rattle.tight_space.specs.PuttingChanges.{AllFit}
use Rattle.tight_space.proofs.CellBlocksLemmas.{needed, needed_le, rows_of_cell-cons}
use Rattle.table_trees.proofs.PlaceCountsLemmas.{one_if}
use Rattle.tight_space.proofs.DatabaseItemsLemmas.{Beside, HasTrees, pages_at, table_wants}
use Rattle.tight_space.proofs.PutChangesLemmas.{AsksNoMore, block_places, inserting_asks, inserting_putting, no_tree_inserted, roots_at}
use Rattle.tight_space.proofs.TightChainsLemmas.{adds, claims, made_sum}
use Rattle.tight_space.proofs.TightDatabaseLemmas.{TableHas, Wanted, beyond, extents, has_trees, limits, once_in_all, root_there, roots_most, table_has}
use Rattle.tight_space.proofs.TightSpotsLemmas.{all_rows, all_rows_placed, blocks_most, used_count}

-- ---- what plain tables count

dims_counted : (def : TableDef) (b : ℕ) (dims : List (List ℕ)) (roots : List ℕ)
    → pages_at b (map (λ pair. dimension_place def pair.0 pair.1) (zip dims roots)) ≤ sum_by (λ dim. pages_needed (width_of_parts def.columns (rising_parts dim) + 4) b) dims
dims_counted def b [] roots = omega arith
dims_counted def b (dim ∷ dims) [] = omega arith
dims_counted def b (dim ∷ dims) (root ∷ roots) =
    omega (
      arith,
      dims_counted def b dims roots,
      sum_by-cons (λ (place : TreePlace). pages_needed place.width b) (dimension_place def dim root) (map (λ pair. dimension_place def pair.0 pair.1) (zip dims roots)),
      sum_by-cons (λ d. pages_needed (width_of_parts def.columns (rising_parts d) + 4) b) dim dims,
    )

records_counted : (def : TableDef) (r : ℕ) (indexes : List IndexDef)
    → pages_at r (map (record_place def) indexes) ≤ sum_by (λ (index : IndexDef). pages_needed (width_of_parts def.columns index.parts + 6) r) (map rootless_index indexes)
records_counted def r [] = omega arith
records_counted def r (index ∷ indexes) =
    omega (
      arith,
      records_counted def r indexes,
      sum_by-cons (λ (place : TreePlace). pages_needed place.width r) (record_place def index) (map (record_place def) indexes),
      sum_by-cons (λ (i : IndexDef). pages_needed (width_of_parts def.columns i.parts + 6) r) (rootless_index index) (map rootless_index indexes),
    )

abbrev plain_of : TableDef → List Row → PlainTable
plain_of def rows = record { def = def; rows = rows }

-- the trees of a table count no more than its plain one
trees_counted : (def : TableDef) (b : ℕ) (rows : List Row) → pages_at b (block_places def) + pages_at (length rows) (record_places def) ≤ index_pages_needed b (plain_of (rootless def) rows)
trees_counted def b rows =
    omega (
      arith,
      sum_by-cons (λ (place : TreePlace). pages_needed place.width b) (map_place def) (block_index_places def),
      sum_by-cons (λ (place : TreePlace). pages_needed place.width b) (composite_place def) (dimension_places def),
      dims_counted def b def.dims def.roots.dims,
      records_counted def (length rows) def.indexes,
    )

-- what a table counts, by the parts that matter
abbrev counts_by : ℕ → List ColumnDef → List (List ℕ) → List IndexDef → List Row → ℕ
counts_by b columns dims indexes rows =
    pages_needed first_format.map_width b + pages_needed (width_of_parts columns (rising_parts (flat_map (λ dim. dim) dims)) + 4) b
    + sum_by (λ dim. pages_needed (width_of_parts columns (rising_parts dim) + 4) b) dims
    + sum_by (λ (index : IndexDef). pages_needed (width_of_parts columns index.parts + 6) (length rows)) indexes

-- tables of the same columns, dimensions and indexes count alike
pages_same : (b : ℕ) (one other : PlainTable) → one.def.columns ≡ other.def.columns → one.def.dims ≡ other.def.dims → one.def.indexes ≡ other.def.indexes → one.rows ≡ other.rows
    → index_pages_needed b one ≡ index_pages_needed b other
pages_same b one other columns dims indexes rows =
    counts_of one ∙ (ap (λ cs. counts_by b cs one.def.dims one.def.indexes one.rows) columns
    ∙ (ap (λ ds. counts_by b other.def.columns ds one.def.indexes one.rows) dims
    ∙ (ap (λ is. counts_by b other.def.columns other.def.dims is one.rows) indexes ∙ (ap (λ rs. counts_by b other.def.columns other.def.dims other.def.indexes rs) rows ∙ sym (counts_of other)))))
  where
    counts_of : (t : PlainTable) → index_pages_needed b t ≡ counts_by b t.def.columns t.def.dims t.def.indexes t.rows
    counts_of t = refl

-- ---- plain tables beside their pages

-- the plain table of a table on pages
pub record IsPlain (shape : Shape) (pages : PageList) (table : TableView) (plain : PlainTable) : Type 0 where
  pub def_is : plain.def ≡ rootless table.def
  pub same_rows : IsPermutation (map (λ placed. placed.row) (rows_in_table shape pages table.def table.map)) plain.rows

module _ (shape : Shape) (pages : PageList) where
  pub plain_beside : (owners : List Kind) (ts : List ℕ) (places : List (Option TableView)) (db : Database) → AllZip (IsTablePlaceSound shape pages owners) ts places → AllZip (HoldsPlace shape pages) ts db
      → AllByRecursion (λ (table : TableView). HasTree pages (map_place table.def) table.map) (tables_there places) → AllZip (Beside (IsPlain shape pages)) places db
  plain_beside owners [] [] [] sound holds maps = tt
  plain_beside owners [] [] (plain ∷ db) sound holds maps = absurd holds
  plain_beside owners [] (place ∷ places) db sound holds maps = absurd sound
  plain_beside owners (t ∷ ts) [] db sound holds maps = absurd sound
  plain_beside owners (t ∷ ts) (place ∷ places) [] sound holds maps = absurd holds
  plain_beside owners (t ∷ ts) (None ∷ places) (None ∷ db) sound holds maps = (tt, plain_beside owners ts places db sound.1 holds.1 maps)
  plain_beside owners (t ∷ ts) (None ∷ places) (Some plain ∷ db) sound holds maps = absurd (no_blank_table t holds.0.def (subst (λ page. IsTablePageOf t holds.0.def page) sound.0 holds.0.defines))
  plain_beside owners (t ∷ ts) (Some table ∷ places) (None ∷ db) sound holds maps = absurd (no_blank_table t table.def (subst (λ page. IsTablePageOf t table.def page) holds.0 sound.0.0))
  plain_beside owners (t ∷ ts) (Some table ∷ places) (Some plain ∷ db) sound holds maps =
      let h = holds.0 in
      let def : h.def ≡ table.def = one_definition t h.def table.def (table_page_at pages t) h.defines sound.0.0 in
      let trees : h.map_tree ≡ table.map = one_tree_at pages (map_place table.def) h.map_tree table.map (subst (λ (d : TableDef). HasTree pages (map_place d) h.map_tree) def h.has_map) maps.0 in
      let rows : rows_in_table shape pages h.def h.map_tree ≡ rows_in_table shape pages table.def table.map = ap (λ d. rows_in_table shape pages d h.map_tree) def ∙ ap (λ tree. rows_in_table shape pages table.def tree) trees in
      (record { def_is = h.def_is ∙ ap rootless def; same_rows = subst (λ all. IsPermutation (map (λ (placed : PlacedRow). placed.row) all) plain.rows) rows h.same_rows }, plain_beside owners ts places db sound.1 holds.1 maps.1)

-- the plain table of one that is there
pub plain_at : (shape : Shape) (pages : PageList) (places : List (Option TableView)) (db : Database) (t : ℕ) (table : TableView) → AllZip (Beside (IsPlain shape pages)) places db → slice_get places t ≡ Some (Some table)
    → (plain : PlainTable) × (slice_get db t ≡ Some (Some plain)) × IsPlain shape pages table plain
plain_at shape pages [] db t table all at = absurd (cc)
plain_at shape pages (place ∷ places) [] t table all at = absurd all
plain_at shape pages (None ∷ places) (plain ∷ db) zero table all at = absurd (cc)
plain_at shape pages (Some first ∷ places) (None ∷ db) zero table all at = absurd all.0
plain_at shape pages (Some first ∷ places) (Some plain ∷ db) zero table all at = (plain, refl, subst (λ (v : TableView). IsPlain shape pages v plain) (same_Some first table (same_Some (Some first) (Some table) at)) all.0)
plain_at shape pages (place ∷ places) (plain ∷ db) (suc t) table all at = plain_at shape pages places db t table all.1 at

-- one place changed
pub beside_all : (R Q : TableView → PlainTable → Type 0) (places : List (Option TableView)) (db : Database) → AllZip (Beside R) places db
    → ((i : ℕ) (table : TableView) (plain : PlainTable) → slice_get places i ≡ Some (Some table) → R table plain → Q table plain) → AllZip (Beside Q) places db
beside_all R Q [] [] all turn = tt
beside_all R Q [] (plain ∷ db) all turn = absurd all
beside_all R Q (place ∷ places) [] all turn = absurd all
beside_all R Q (None ∷ places) (None ∷ db) all turn = (tt, beside_all R Q places db all.1 (λ i table plain at. turn (suc i) table plain at))
beside_all R Q (None ∷ places) (Some plain ∷ db) all turn = absurd all.0
beside_all R Q (Some table ∷ places) (None ∷ db) all turn = absurd all.0
beside_all R Q (Some table ∷ places) (Some plain ∷ db) all turn = (turn 0 table plain refl all.0, beside_all R Q places db all.1 (λ i table plain at. turn (suc i) table plain at))

beside_changed : (R Q : TableView → PlainTable → Type 0) (places : List (Option TableView)) (db : Database) (t : ℕ) (f : PlainTable → PlainTable) → AllZip (Beside R) places db
    → ((i : ℕ) (table : TableView) (plain : PlainTable) → i ≢ t → slice_get places i ≡ Some (Some table) → R table plain → Q table plain)
    → ((table : TableView) (plain : PlainTable) → slice_get places t ≡ Some (Some table) → R table plain → Q table (f plain)) → AllZip (Beside Q) places (changed_at db t f)
beside_changed R Q [] [] t f all others here = tt
beside_changed R Q [] (plain ∷ db) t f all others here = absurd all
beside_changed R Q (place ∷ places) [] t f all others here = absurd all
beside_changed R Q (None ∷ places) (None ∷ db) zero f all others here = (tt, beside_all R Q places db all.1 (λ i table plain at. others (suc i) table plain (λ e. omega (arith, e)) at))
beside_changed R Q (None ∷ places) (None ∷ db) (suc t) f all others here =
    (tt, beside_changed R Q places db t f all.1 (λ i table plain other at. others (suc i) table plain (λ e. other (omega (arith, e))) at) here)
beside_changed R Q (None ∷ places) (Some plain ∷ db) t f all others here = absurd all.0
beside_changed R Q (Some table ∷ places) (None ∷ db) t f all others here = absurd all.0
beside_changed R Q (Some table ∷ places) (Some plain ∷ db) zero f all others here =
    (here table plain refl all.0, beside_all R Q places db all.1 (λ i one other at. others (suc i) one other (λ e. omega (arith, e)) at))
beside_changed R Q (Some table ∷ places) (Some plain ∷ db) (suc t) f all others here =
    (others 0 table plain (λ e. omega (arith, e)) refl all.0, beside_changed R Q places db t f all.1 (λ i one other apart at. others (suc i) one other (λ e. apart (omega (arith, e))) at) here)

-- ---- on a tight database

module _ (shape : Shape) (pages : PageList) (view : DatabaseView) (sound : KeepAllRules shape pages view) (tight : AreTightPages shape pages view) where
  abbrev pub spots_in : TableView → List Spot
  spots_in table = table_spots shape pages table.def view.owners table.map

  some_pages : 0 < shape.extent_pages
  some_pages = omega (arith, (extent_limits shape).0)

  pub maps_there : AllByRecursion (λ (table : TableView). HasTree pages (map_place table.def) table.map) (tables_there view.places)
  maps_there = first_of (tables_there view.places) sound.first.rule4
    where
      first_of : (tables : List TableView) → AllByRecursion (λ table. AllZip (HasTree pages) (tree_places table.def) (trees_of_table table)) tables → AllByRecursion (λ (table : TableView). HasTree pages (map_place table.def) table.map) tables
      first_of [] all = tt
      first_of (table ∷ tables) all = (all.0.0, first_of tables all.1)

  pub plains : (db : Database) → PagesStandFor shape pages db → AllZip (Beside (IsPlain shape pages)) view.places db
  plains db stands = plain_beside shape pages view.owners (range_with_len 0 16) view.places db sound.first.rule3.each stands maps_there

  module _ (t : ℕ) (table : TableView) (at : slice_get view.places t ≡ Some (Some table)) where
    pub map_sound : IsBlockMapSound shape view.owners table.def table.map
    map_sound = there_at (λ one. IsBlockMapSound shape view.owners one.def one.map) view.places t table at sound.first.rule6

    pub has : TableHas shape pages view sound tight table
    has = table_has shape pages view sound tight t table at

    pub some : 0 < block_slot_count shape table.def
    some = some_slots shape t table.def (limits shape pages view sound tight t table at)

    -- the rows of its spots are those of the plain table
    pub rows_same : (plain : PlainTable) → IsPlain shape pages table plain → IsPermutation (all_rows (spots_in table)) plain.rows
    rows_same plain is =
        let placed = IsPermutation-map (λ (p : PlacedRow). p.row) (rows_in_table shape pages table.def table.map) (rows_from_spot 0 (spots_in table)) (rows_of_spots shape pages table.def view.owners table.map map_sound) in
        subst (λ (rows : List Row). IsPermutation rows plain.rows) (all_rows_placed 0 (spots_in table))
        (IsPermutation-trans (map (λ (p : PlacedRow). p.row) (rows_from_spot 0 (spots_in table))) (map (λ (p : PlacedRow). p.row) (rows_in_table shape pages table.def table.map)) plain.rows
        (IsPermutation-sym (map (λ (p : PlacedRow). p.row) (rows_in_table shape pages table.def table.map)) (map (λ (p : PlacedRow). p.row) (rows_from_spot 0 (spots_in table))) placed) is.same_rows)

    rows_counted : (plain : PlainTable) → IsPlain shape pages table plain → (k : Entry) → rows_of_cell table.def k plain.rows ≡ rows_of_cell table.def k (all_rows (spots_in table))
    rows_counted plain is k = sum_by-IsPermutation (λ (one : Row). cond (bytes_eq (key_of_cell table.def one) k) 1 0) (all_rows (spots_in table)) plain.rows (rows_same plain is)

    -- rows behind its own need no more than the plain table needs with them
    blocks_plain : (plain now : PlainTable) (rows : List Row) → IsPlain shape pages table plain → now.def.columns ≡ table.def.columns → now.def.dims ≡ table.def.dims → now.rows ≡ plain.rows ++ rows
        → needed table.def (block_slot_count shape table.def) (all_rows (spots_in table) ++ rows) ≤ table_blocks shape now
    blocks_plain plain now rows is columns dims rows_are =
        let n = block_slot_count shape table.def in
        let slots : block_slot_count shape now.def ≡ n = ap (λ (cs : _). shape.extent_pages * slot_count cs) columns in
        let keys : (row : Row) → key_of_cell now.def row ≡ key_of_cell table.def row = λ row. ap (λ (cs : _). key_bytes cs (cell_parts now.def) row.values) columns ∙ ap (λ (ds : _). key_bytes table.def.columns (rising_parts (flat_map (λ dim. dim) ds)) row.values) dims in
        subst (λ (m : ℕ). needed table.def n (all_rows (spots_in table) ++ rows) ≤ blocks_needed m now) (sym slots)
        (needed_le table.def now.def n (all_rows (spots_in table) ++ rows) now.rows some
        (λ k. omega (
          arith,
          sum_by-append (λ (one : Row). cond (bytes_eq (key_of_cell table.def one) k) 1 0) (all_rows (spots_in table)) rows,
          sum_by-append (λ (one : Row). cond (bytes_eq (key_of_cell table.def one) k) 1 0) plain.rows rows,
          rows_counted plain is k,
          ap (λ (rs : List Row). rows_of_cell table.def k rs) rows_are,
          same_counts now.def table.def k now.rows keys,
        )))
      where
        same_counts : (a b : TableDef) (k : Entry) (rows : List Row) → ((row : Row) → key_of_cell a row ≡ key_of_cell b row) → rows_of_cell a k rows ≡ rows_of_cell b k rows
        same_counts a b k [] same = refl
        same_counts a b k (row ∷ rows) same = omega (arith, same_counts a b k rows same, rows_of_cell-cons a k row rows, rows_of_cell-cons b k row rows, ap (λ (key : Entry). one_if (bytes_eq key k)) (same row))

    -- a tree of another table is no tree of this one
    other_roots : (u : ℕ) (other : TableView) → t ≢ u → slice_get view.places u ≡ Some (Some other) → (place : TreePlace) → Contains (tree_places table.def) place → roots_at place.root (tree_places other.def) ≡ 0
    other_roots u other apart there place in_it =
        let p = place.root in
        let all = has_trees shape pages view sound tight in
        omega (
          arith,
          once_in_all shape pages view sound tight p,
          two_there_sum (λ (one : TableView). sum_by (times p) (trees_of_table one)) view.places t u table other apart at there,
          roots_most pages p (tree_places table.def) (trees_of_table table) (there_at (HasTrees pages) view.places t table at all).has,
          roots_most pages p (tree_places other.def) (trees_of_table other) (there_at (HasTrees pages) view.places u other there all).has,
          root_there place (tree_places table.def) in_it,
        )

    own_roots : (p : ℕ) → roots_at p (block_places table.def) + roots_at p (record_places table.def) ≤ 1
    own_roots p =
        omega (
          arith,
          once_in_all shape pages view sound tight p,
          there_sum (λ (one : TableView). sum_by (times p) (trees_of_table one)) view.places t table at,
          roots_most pages p (tree_places table.def) (trees_of_table table) (there_at (HasTrees pages) view.places t table at (has_trees shape pages view sound tight)).has,
          sum_by-append (λ (one : TreePlace). once p one.root) (block_places table.def) (record_places table.def),
        )

    -- a table of which nothing changes
    pub wanted_apart : (changes : List SpaceChange) (c : TableView → ℕ) (plain : PlainTable) → IsPlain shape pages table plain → c table ≡ 0 → ((place : TreePlace) → Contains (tree_places table.def) place → adds place.root changes ≡ 0)
        → Wanted shape pages view sound tight changes c table plain
    wanted_apart changes c plain is no_claim no_add =
        let def = table.def in
        let columns : plain.def.columns ≡ def.columns = ap (λ (d : TableDef). d.columns) is.def_is in
        let dims : plain.def.dims ≡ def.dims = ap (λ (d : TableDef). d.dims) is.def_is in
        let none : all_rows (spots_in table) ++ [] ≡ all_rows (spots_in table) = append-nil (all_rows (spots_in table)) in
        let blocks = blocks_plain plain plain [] is columns dims (sym (append-nil plain.rows)) in
        let most = blocks_most def (block_slot_count shape def) (has_block_indexes t def (limits shape pages view sound tight t table at)).composite.key some (spots_in table) has.spots.each has.spots.once in
        let fit : used_count (spots_in table) ≤ table_blocks shape plain = omega (arith, most, blocks, ap (needed def (block_slot_count shape def)) none) in
        let long : length (all_rows (spots_in table)) ≡ length plain.rows = sym (length_permutation (all_rows (spots_in table)) plain.rows (rows_same plain is)) in record {
          blocks = omega (arith, has.owned, fit, no_claim);
          wants = table_wants changes (table_blocks shape plain) (length plain.rows) (used_count (spots_in table)) 0 (length (all_rows (spots_in table))) 0 table (omega (arith, fit)) (omega (arith, long)) has.listed has.filed
              (each_in (λ (place : TreePlace). adds place.root changes ≤ 0) (block_places def) (λ place there. omega (arith, no_add place (Contains-append_left (block_places def) (record_places def) place there))))
              (each_in (λ (place : TreePlace). adds place.root changes ≤ 0) (record_places def) (λ place there. omega (arith, no_add place (Contains-append_right (block_places def) (record_places def) place there))));
          counts = omega (arith, trees_counted def (table_blocks shape plain) plain.rows, ap (λ (d : TableDef). index_pages_needed (table_blocks shape plain) (plain_of d plain.rows)) is.def_is);
        }

    -- and one that gets rows
    wanted_rows : (changes : List SpaceChange) (c : TableView → ℕ) (plain now : PlainTable) (rows : List Row) → IsPlain shape pages table plain → c table ≡ claims changes
        → AsksNoMore table.def (block_slot_count shape table.def) (spots_in table) rows changes → now.def.columns ≡ table.def.columns → now.def.dims ≡ table.def.dims → now.def.indexes ≡ map rootless_index table.def.indexes
        → now.rows ≡ plain.rows ++ rows → Wanted shape pages view sound tight changes c table now
    wanted_rows changes c plain now rows is claimed asks columns dims indexes rows_are =
        let def = table.def in
        let blocks = blocks_plain plain now rows is columns dims rows_are in
        let fit : used_count (spots_in table) + claims changes ≤ table_blocks shape now = omega (arith, asks.blocks, blocks) in
        let long : length (all_rows (spots_in table)) + length rows ≡ length now.rows = omega (arith, length_permutation (all_rows (spots_in table)) plain.rows (rows_same plain is), ap length rows_are, length-append plain.rows rows) in record {
          blocks = omega (arith, has.owned, fit, claimed);
          wants = table_wants changes (table_blocks shape now) (length now.rows) (used_count (spots_in table)) (claims changes) (length (all_rows (spots_in table))) (length rows) table fit (omega (arith, long)) has.listed has.filed
              (each_in (λ (place : TreePlace). adds place.root changes ≤ claims changes) (block_places def) added)
              (each_in (λ (place : TreePlace). adds place.root changes ≤ length rows) (record_places def) filed);
          counts =
              let all = trees_counted def (table_blocks shape now) now.rows in
              let same : index_pages_needed (table_blocks shape now) (plain_of (rootless def) now.rows) ≡ index_pages_needed (table_blocks shape now) now =
              pages_same (table_blocks shape now) (plain_of (rootless def) now.rows) now (sym columns) (sym dims) (sym indexes) refl in
              omega (arith, all, same);
        }
      where
        added : (place : TreePlace) → Contains (block_places table.def) place → adds place.root changes ≤ claims changes
        added place there =
            let p = place.root in
            let b : roots_at p (block_places table.def) ≡ 1 = omega (arith, own_roots p, root_there place (block_places table.def) there) in
            let r : roots_at p (record_places table.def) ≡ 0 = omega (arith, own_roots p, b) in
            let first : roots_at p (block_places table.def) * claims changes ≡ claims changes = ap (λ (n : ℕ). n * claims changes) b ∙ omega arith in
            let second : roots_at p (record_places table.def) * length rows ≡ 0 = ap (λ (n : ℕ). n * length rows) r ∙ omega arith in
            omega (arith, asks.entries p, first, second)

        filed : (place : TreePlace) → Contains (record_places table.def) place → adds place.root changes ≤ length rows
        filed place there =
            let p = place.root in
            let r : roots_at p (record_places table.def) ≡ 1 = omega (arith, own_roots p, root_there place (record_places table.def) there) in
            let b : roots_at p (block_places table.def) ≡ 0 = omega (arith, own_roots p, r) in
            let first : roots_at p (block_places table.def) * claims changes ≡ 0 = ap (λ (n : ℕ). n * claims changes) b ∙ omega arith in
            let second : roots_at p (record_places table.def) * length rows ≡ length rows = ap (λ (n : ℕ). n * length rows) r ∙ omega arith in
            omega (arith, asks.entries p, first, second)

  -- ---- an INSERT

  -- the claims of a statement, all for the table in one place
  abbrev claims_for : ℕ → ℕ → TableView → ℕ
  claims_for t n table = cond (table.def.number == t) n 0

  pub insert_beyond : (t : ℕ) (table : TableView) (db : Database) (tuples : List (List Value)) → slice_get view.places t ≡ Some (Some table) → PagesStandFor shape pages db
      → AllFit table.def (numbered table.def.next tuples) → InsertRunsFull shape pages table.def (numbered table.def.next tuples) → shape.extents < need shape (changed_at db t (appended tuples))
  insert_beyond t table db tuples at stands fit full =
      let def = table.def in
      let n = block_slot_count shape def in
      let rows = numbered def.next tuples in
      let kinds : full.shows.owners ≡ view.owners = one_map full.shows.has_extents (extents shape pages view sound tight) in
      let maps : full.shows.map_tree ≡ table.map = one_tree_at pages (map_place def) full.shows.map_tree table.map full.shows.has_map (there_at (λ (one : TableView). HasTree pages (map_place one.def) one.map) view.places t table at maps_there) in
      let spots : full.spots ≡ spots_in table = full.shows.spots_are ∙ (ap (λ (os : List Kind). table_spots shape pages def os full.shows.map_tree) kinds ∙ ap (λ (m : Forest). table_spots shape pages def view.owners m) maps) in
      let inserting = subst (λ (s : List Spot). InsertingChanges def n s rows full.changes) spots full.inserting in
      let here = has t table at in
      let parts = (has_block_indexes t def (limits shape pages view sound tight t table at)).composite.key in
      let asks = inserting_asks def n (some t table at) parts (spots_in table) rows full.changes here.spots fit inserting in
      let c = claims_for t (claims full.changes) in
      let mine : c table ≡ claims full.changes = ap (λ (b : Bool). cond b (claims full.changes) 0) (eq-eqb def.number t (limits shape pages view sound tight t table at).stands) in
      let all = beside_changed (IsPlain shape pages) (Wanted shape pages view sound tight full.changes c) view.places db t (appended tuples) (plains db stands)
      (λ i other plain apart there is. wanted_apart i other there full.changes c plain is
      (ap (λ (b : Bool). cond b (claims full.changes) 0) (ne_eqb other.def.number t (λ e. apart (sym (limits shape pages view sound tight i other there).stands ∙ e))))
      (λ place in_it. (
      let gone = other_roots i other there t table apart at place in_it in
      let split = sum_by-append (λ (one : TreePlace). once place.root one.root) (block_places def) (record_places def) in
      let b : roots_at place.root (block_places def) ≡ 0 = omega (arith, gone, split) in
      let r : roots_at place.root (record_places def) ≡ 0 = omega (arith, gone, split) in
      let first : roots_at place.root (block_places def) * claims full.changes ≡ 0 = ap (λ (k : ℕ). k * claims full.changes) b ∙ omega arith in
      let second : roots_at place.root (record_places def) * length rows ≡ 0 = ap (λ (k : ℕ). k * length rows) r ∙ omega arith in
      omega (arith, asks.entries place.root, first, second))))
      (λ one plain there is. (
      let same : one ≡ table = same_Some one table (same_Some (Some one) (Some table) (sym there ∙ at)) in
      let is_it = subst (λ (v : TableView). IsPlain shape pages v plain) same is in
      let next : plain.def.next ≡ def.next = ap (λ (d : TableDef). d.next) is_it.def_is in
      subst (λ (v : TableView). Wanted shape pages view sound tight full.changes c v (appended tuples plain)) (sym same)
      (wanted_rows t table at full.changes c plain (appended tuples plain) rows is_it mine asks (ap (λ (d : TableDef). d.columns) is_it.def_is) (ap (λ (d : TableDef). d.dims) is_it.def_is) (ap (λ (d : TableDef). d.indexes) is_it.def_is)
      (ap (λ (k : ℕ). plain.rows ++ numbered k tuples) next)))) in
      let few : claims full.changes ≤ sum_by c (tables_there view.places) = omega (arith, there_sum c view.places t table at, mine) in
      let short = beyond shape pages view sound tight full.changes c (changed_at db t (appended tuples)) all few (λ places there. inserting_putting def places (there t table at) n (spots_in table) rows full.changes inserting) full.full in
      let made : sum_of_tables (λ (one : PlainTable). index_pages_needed (table_blocks shape one) one) (changed_at db t (appended tuples)) + made_sum full.changes ≡ sum_of_tables (λ (one : PlainTable). index_pages_needed (table_blocks shape one) one) (changed_at db t (appended tuples)) =
      omega (arith, no_tree_inserted def n (spots_in table) rows full.changes inserting) in
      omega (arith, short, ap (λ (k : ℕ). div_ceil k shape.extent_pages) made)
