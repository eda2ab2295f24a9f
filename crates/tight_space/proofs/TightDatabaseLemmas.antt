-- A sound and tight database: what each table has, and what runs full on it.
use Rattle.std.proofs.Common.{◌≡◌, ◌<◌, ◌≤◌, ◌+◌, ◌/◌, ℕ, zero, suc, Option, Some, None, List, [], ◌∷◌, ◌++◌, length, map, refl, ap, arith, sym, subst, ◌∙◌, inl, inr}
use Rattle.std.specs.Prelude.{Contains, count_by, slice_get, sum_by, zip}
use Rattle.std.specs.Int.{div_ceil}
use Rattle.std.specs.List.{AllByRecursion, AllZip}
use Rattle.std.proofs.lemmas.Bool.{cases_eq, eq-eqb}
use Rattle.std.proofs.lemmas.Bool.Decides.{nat_tests}
use Rattle.std.proofs.lemmas.List.Sums.{sum_by-cons}
use Rattle.std.proofs.lemmas.Nat.{le-div}
use Rattle.mdc_ast.specs.Database.{Database, PlainTable}
use Rattle.mdc_ast.specs.TableLimits.{IsTableDef}
use Rattle.mdc_ast.specs.declared.definition.ColumnDef.{ColumnDef}
use Rattle.mdc_ast.specs.declared.definition.IndexDef.{IndexDef}
use Rattle.mdc_ast.specs.declared.definition.KeyPart.{KeyPart}
use Rattle.mdc_ast.specs.declared.definition.TableDef.{TableDef}
use Rattle.store_api.specs.Extents.{map_pages}
use Rattle.store_api.specs.declared.shape.Shape.{Shape}
use Rattle.extent_map.specs.Map.{HoldsMap}
use Rattle.extent_map.specs.Owners.{owner_of}
use Rattle.extent_map.specs.declared.kind.Kind.TheVariants.{Block}
use Rattle.key_codec.specs.Keys.{ArePartsOf, width_of_parts}
use Rattle.entry_tree.specs.Forest.{Forest, leaf_entries, once, times}
use Rattle.entry_tree.proofs.ForestLemmas.{once_least, once_other, once_same}
use Rattle.entry_tree.proofs.WayLemmas.{head_times}
use Rattle.table_trees.specs.SpaceChanges.{RunsFull, SpaceChange}
use Rattle.table_trees.specs.TableTrees.{AreIndexParts, TreePlace, cell_parts, composite_place, dimension_place, dimension_places, record_place, record_places, rising_parts, tree_places}
use Rattle.table_trees.specs.ToldPages.{HasTree, PageList, told_pages}
use Rattle.mdc_sound.specs.Placing.{Spot, block_slot_count, table_spots}
use Rattle.mdc_sound.specs.SoundDatabase.{KeepAllRules}
use Rattle.mdc_sound.specs.BlockLines.{mapped_line}
use Rattle.mdc_sound.specs.BlockRules.{AreLineRowsSound, AreTableBlockIndexesSound, AreTableIndexesSound, IsBlockIndexSound, IsLineOfOneCell, IsSoundIndex, IsUsedCountSound}
use Rattle.mdc_sound.specs.SpaceRules.{DatabaseView, IsBlockMapSound, IsOwnerThere, IsTablePlaceSound, tables_there, times_in_trees}
use Rattle.mdc_sound.specs.TablePages.{DefinesTable, IsTableThere}
use Rattle.mdc_sound.specs.TableRows.{PlacedRow, rows_in_table}
use Rattle.mdc_sound.specs.TableViews.{TableView, trees_of_table}
use Rattle.mdc_sound.specs.TightPages.{AreTightPages, IsTightTable, index_pages_needed, sum_of_tables, table_blocks}
use Rattle.mdc_sound.proofs.DefinitionTreesLemmas.{has_block_indexes, index_has_parts}
use Rattle.mdc_sound.proofs.SpaceRulesLemmas.{each_there, range_at, range_length, there_at, there_sum, used_or_not}
use Rattle.block_map.specs.MapLines.{map_lines, pending_blocks, used_blocks}
use Rattle.block_map.proofs.MapLinesLemmas.{contains_cases, contains_more}
use Rattle.tight_space.specs.PuttingChanges.{ArePutting, IsShortWidth}
use Rattle.tight_space.proofs.DatabaseItemsLemmas.{Beside, HasTrees, blocks_of_tables, items_counted, items_of, items_there, items_tight, items_times, items_want, pages_at, split_zip, table_items, tables_sum}
use Rattle.tight_space.proofs.PutChangesLemmas.{block_places, roots_at}
use Rattle.tight_space.proofs.TableCountsLemmas.{composite_most, dimension_most, index_most, is_own, map_most, owned_most, spots_tight}
use Rattle.tight_space.proofs.TightChainsLemmas.{KeepWants, claims, counted, full_beyond, made_sum}
use Rattle.tight_space.proofs.TightItemsLemmas.{HoldsItems, item_places}
use Rattle.tight_space.proofs.TightSpotsLemmas.{AreTightSpots, all_rows, used_count}
use Rattle.tight_space.proofs.TreePagesLemmas.{sum_by-plus}
use Rattle.tight_space.proofs.CellBlocksLemmas.{ceil_mono}
use Rattle.table_trees.proofs.PlaceCountsLemmas.{one_if}
use Rattle.extent_map.proofs.ExtentsLemmas.{extent_limits}

-- ---- widths

-- entries of so few bytes are short
short_by : (width : ℕ) → 0 < width → width ≤ 134 → IsShortWidth width
short_by width some few = record { leaf = le-div 2 4080 width some (omega (arith, few)); inner = le-div 2 4080 (width + 4) (omega arith) (omega (arith, few)) }

parts_short : (columns : List ColumnDef) (parts : List KeyPart) → ArePartsOf columns parts → width_of_parts columns parts ≤ 128
parts_short columns parts are = grind (arith, nat_tests, are.short)

pub block_width : (columns : List ColumnDef) (parts : List KeyPart) → ArePartsOf columns parts → IsShortWidth (width_of_parts columns parts + 4)
block_width columns parts are = short_by (width_of_parts columns parts + 4) (omega arith) (omega (arith, parts_short columns parts are))

pub row_width : (columns : List ColumnDef) (parts : List KeyPart) → ArePartsOf columns parts → IsShortWidth (width_of_parts columns parts + 6)
row_width columns parts are = short_by (width_of_parts columns parts + 6) (omega arith) (omega (arith, parts_short columns parts are))

dims_short : (def : TableDef) (dims : List (List ℕ)) (roots : List ℕ) → AllByRecursion (λ dim. AreIndexParts def.columns (rising_parts dim)) dims
    → AllByRecursion (λ (place : TreePlace). IsShortWidth place.width) (map (λ pair. dimension_place def pair.0 pair.1) (zip dims roots))
dims_short def [] roots all = tt
dims_short def (dim ∷ dims) [] all = tt
dims_short def (dim ∷ dims) (root ∷ roots) all = (block_width def.columns (rising_parts dim) all.0.key, dims_short def dims roots all.1)

records_short : (def : TableDef) (indexes : List IndexDef) → AllByRecursion (λ index. AreIndexParts def.columns index.parts) indexes
    → AllByRecursion (λ (place : TreePlace). IsShortWidth place.width) (map (record_place def) indexes)
records_short def [] all = tt
records_short def (index ∷ indexes) all = (row_width def.columns index.parts all.0.key, records_short def indexes all.1)

each_append : {X : Type 0} (P : X → Type 0) (xs ys : List X) → AllByRecursion P xs → AllByRecursion P ys → AllByRecursion P (xs ++ ys)
each_append P [] ys front back = back
each_append P (x ∷ xs) ys front back = (front.0, each_append P xs ys front.1 back)

pub map_short : IsShortWidth 7
map_short = short_by 7 (omega arith) (omega arith)

pub definition_short : (t : ℕ) (def : TableDef) → IsTableDef t def → AllByRecursion (λ (place : TreePlace). IsShortWidth place.width) (tree_places def)
definition_short t def is =
    let trees = has_block_indexes t def is in (
      map_short,
      (
        block_width def.columns (cell_parts def) trees.composite.key,
        each_append (λ (place : TreePlace). IsShortWidth place.width) (dimension_places def) (record_places def) (dims_short def def.dims def.roots.dims trees.dimensions) (records_short def def.indexes (index_has_parts def.columns def.indexes is.indexes.good)),
      ),
    )

length-dimensions : (def : TableDef) (dims : List (List ℕ)) (roots : List ℕ) → length roots ≡ length dims → length (map (λ pair. dimension_place def pair.0 pair.1) (zip dims roots)) ≡ length dims
length-dimensions def [] [] long = refl
length-dimensions def [] (root ∷ roots) long = refl
length-dimensions def (dim ∷ dims) [] long = absurd (omega (arith, long))
length-dimensions def (dim ∷ dims) (root ∷ roots) long = ap suc (length-dimensions def dims roots (omega (arith, long)))

zip_length : {A B : Type 0} (R : A → B → Type 0) (xs : List A) (ys : List B) → AllZip R xs ys → length ys ≡ length xs
zip_length R [] [] all = refl
zip_length R [] (y ∷ ys) all = absurd all
zip_length R (x ∷ xs) [] all = absurd all
zip_length R (x ∷ xs) (y ∷ ys) all = ap suc (zip_length R xs ys all.1)

-- ---- roots

-- trees have their roots
pub roots_most : (pages : PageList) (p : ℕ) (places : List TreePlace) (trees : List Forest) → AllZip (HasTree pages) places trees → roots_at p places ≤ sum_by (times p) trees
roots_most pages p [] [] all = omega arith
roots_most pages p [] (tree ∷ trees) all = absurd all
roots_most pages p (place ∷ places) [] all = absurd all
roots_most pages p (place ∷ places) (tree ∷ trees) all =
    omega (arith, roots_most pages p places trees all.1, sum_by-cons (λ (one : TreePlace). once p one.root) place places, sum_by-cons (times p) tree trees, root_once)
  where
    root_once : once p place.root ≤ times p tree
    root_once = elim (cases_eq p place.root) [
      | inl is ↦ omega (arith, once_least p place.root, subst (λ (q : ℕ). 0 < times q tree) (sym is) (head_times tree place.root all.0.is_tree.head))
      | inr other ↦ omega (arith, once_other p place.root other)
    ]

pub root_there : (place : TreePlace) (places : List TreePlace) → Contains places place → 1 ≤ roots_at place.root places
root_there place [] (k, low, at) = absurd (omega (arith, low))
root_there place (first ∷ places) there = elim (contains_cases place first places there) [
  | inl is ↦ omega (arith, sum_by-cons (λ (one : TreePlace). once place.root one.root) first places, once_same place.root, ap (λ (one : TreePlace). once place.root one.root) is)
  | inr later ↦ omega (arith, sum_by-cons (λ (one : TreePlace). once place.root one.root) first places, root_there place places later)
]

-- ---- a sound and tight database

module _ (shape : Shape) (pages : PageList) (view : DatabaseView) (sound : KeepAllRules shape pages view) (tight : AreTightPages shape pages view) where
  abbrev spots_of_table : TableView → List Spot
  spots_of_table table = table_spots shape pages table.def view.owners table.map

  -- what stands in a place is sound
  place_sound : (t : ℕ) (place : Option TableView) → slice_get view.places t ≡ Some place → IsTablePlaceSound shape pages view.owners t place
  place_sound t place at =
      let number : 0 + t ≡ t = omega arith in
      subst (λ (n : ℕ). IsTablePlaceSound shape pages view.owners n place) number (range_at (IsTablePlaceSound shape pages view.owners) 0 16 view.places t place sound.first.rule3.each at).1

  pub defined : (t : ℕ) (table : TableView) → slice_get view.places t ≡ Some (Some table) → DefinesTable pages t table.def
  defined t table at = (place_sound t (Some table) at).0

  pub limits : (t : ℕ) (table : TableView) → slice_get view.places t ≡ Some (Some table) → IsTableDef t table.def
  limits t table at = (defined t table at).limits

  pub extents : HoldsMap told_pages shape pages view.owners
  extents = record { count = sound.first.rule2.count; pages = λ i low. (sound.first.rule2.each i low).held }

  pub has_trees : AllByRecursion (HasTrees pages) (tables_there view.places)
  has_trees = each_there (HasTrees pages) view.places (λ t table at. record {
    has = there_at (λ one. AllZip (HasTree pages) (tree_places one.def) (trees_of_table one)) view.places t table at sound.first.rule4;
    half = (there_at (IsTightTable shape pages view) view.places t table at tight.tables).trees;
    short = definition_short t table.def (limits t table at);
    one_each =
        let indexes = there_at (AreTableBlockIndexesSound shape pages) view.places t table at sound.first.rule10 in
        length-dimensions table.def table.def.dims table.def.roots.dims (limits t table at).roots.one_each
        ∙ sym (zip_length (λ dim index. IsBlockIndexSound table.def (rows_in_table shape pages table.def table.map) (rising_parts dim) index) table.def.dims table.dims indexes.dims);
  })

  -- no page is in two trees
  pub once_in_all : (p : ℕ) → times_in_trees p view ≤ 1
  once_in_all p = elim (used_or_not shape view.owners p) [
    | inl used ↦ omega (arith, (sound.first.rule5 p).used used)
    | inr unused ↦ omega (arith, (sound.first.rule5 p).others unused)
  ]

  -- what a table has
  pub record TableHas (table : TableView) : Type 0 where
    pub spots : AreTightSpots table.def (block_slot_count shape table.def) (table_spots shape pages table.def view.owners table.map)
    pub owned : count_by (is_own table.def.number) view.owners ≤ used_count (table_spots shape pages table.def view.owners table.map)
    pub listed : AllByRecursion (λ tree. length (leaf_entries tree) ≤ used_count (table_spots shape pages table.def view.owners table.map)) (table.map ∷ table.composite ∷ table.dims)
    pub filed : AllByRecursion (λ tree. length (leaf_entries tree) ≤ length (all_rows (table_spots shape pages table.def view.owners table.map))) table.indexes

  dims_listed : (table : TableView) (used : ℕ) (rows : List PlacedRow) (all dims : List (List ℕ)) (roots : List ℕ) (trees : List Forest)
      → ((dim : List ℕ) (place : TreePlace) (index : Forest) → Contains all dim → HasTree pages place index → IsBlockIndexSound table.def rows (rising_parts dim) index → length (leaf_entries index) ≤ used)
      → ((dim : List ℕ) → Contains dims dim → Contains all dim) → length roots ≡ length dims
      → AllZip (HasTree pages) (map (λ pair. dimension_place table.def pair.0 pair.1) (zip dims roots)) trees → AllZip (λ dim index. IsBlockIndexSound table.def rows (rising_parts dim) index) dims trees
      → AllByRecursion (λ tree. length (leaf_entries tree) ≤ used) trees
  dims_listed table used rows all [] roots [] most there long has is = tt
  dims_listed table used rows all [] roots (tree ∷ trees) most there long has is = absurd is
  dims_listed table used rows all (dim ∷ dims) roots [] most there long has is = absurd is
  dims_listed table used rows all (dim ∷ dims) [] (tree ∷ trees) most there long has is = absurd (omega (arith, long))
  dims_listed table used rows all (dim ∷ dims) (root ∷ roots) (tree ∷ trees) most there long has is = (
    most dim (dimension_place table.def dim root) tree (there dim (0, omega arith, refl)) has.0 is.0,
    dims_listed table used rows all dims roots trees most (λ d in_it. there d (contains_more d dim dims in_it)) (omega (arith, long)) has.1 is.1,
  )

  indexes_filed : (table : TableView) (filled : ℕ) (rows : List PlacedRow) (pending : List ℕ) (indexes : List IndexDef) (trees : List Forest)
      → ((index : IndexDef) (place : TreePlace) (tree : Forest) → HasTree pages place tree → IsSoundIndex table.def rows pending index tree → length (leaf_entries tree) ≤ filled)
      → AllZip (HasTree pages) (map (record_place table.def) indexes) trees → AllZip (IsSoundIndex table.def rows pending) indexes trees → AllByRecursion (λ tree. length (leaf_entries tree) ≤ filled) trees
  indexes_filed table filled rows pending [] [] most has is = tt
  indexes_filed table filled rows pending [] (tree ∷ trees) most has is = absurd is
  indexes_filed table filled rows pending (index ∷ indexes) [] most has is = absurd is
  indexes_filed table filled rows pending (index ∷ indexes) (tree ∷ trees) most has is =
      (most index (record_place table.def index) tree has.0 is.0, indexes_filed table filled rows pending indexes trees most has.1 is.1)

  pub table_has : (t : ℕ) (table : TableView) → slice_get view.places t ≡ Some (Some table) → TableHas table
  table_has t table at =
      let def = table.def in
      let is_tight = there_at (IsTightTable shape pages view) view.places t table at tight.tables in
      let map_is = there_at (λ one. IsBlockMapSound shape view.owners one.def one.map) view.places t table at sound.first.rule6 in
      let rows = there_at (λ one. AllByRecursion (λ block. AreLineRowsSound shape pages one.def (mapped_line one.map block)) (used_blocks one.map)) view.places t table at sound.first.rule7 in
      let counts = there_at (λ one. AllByRecursion (IsUsedCountSound shape pages one.def) (map_lines one.map)) view.places t table at sound.first.rule8.used in
      let cells = there_at (λ one. AllByRecursion (λ block. IsLineOfOneCell shape pages one.def (mapped_line one.map block)) (used_blocks one.map)) view.places t table at sound.first.rule9 in
      let listed = there_at (AreTableBlockIndexesSound shape pages) view.places t table at sound.first.rule10 in
      let filed = there_at (AreTableIndexesSound shape pages) view.places t table at sound.rule11 in
      let trees = there_at (HasTrees pages) view.places t table at has_trees in
      let split = split_zip (HasTree pages) (block_places def) (record_places def) (table.map ∷ table.composite ∷ table.dims) table.indexes (omega (arith, trees.one_each)) trees.has in
      let long = sound.first.rule2.count in record {
        spots = spots_tight shape pages def view.owners table.map long map_is is_tight.none_free is_tight.none_pending rows counts cells is_tight.room;
        owned = owned_most shape pages def view.owners table.map long map_is is_tight.none_free is_tight.none_pending;
        listed = (
          map_most shape pages def view.owners table.map long map_is is_tight.none_free is_tight.none_pending,
          (
            composite_most shape pages def view.owners table.map long map_is is_tight.none_free is_tight.none_pending rows counts cells (composite_place def) table.composite split.0.1.0 listed.composite,
            dims_listed table (used_count (table_spots shape pages def view.owners table.map)) (rows_in_table shape pages def table.map) def.dims def.dims def.roots.dims table.dims
                (λ dim place index there has is. dimension_most shape pages def view.owners table.map long map_is is_tight.none_free is_tight.none_pending rows counts cells dim place index there has is)
                (λ dim there. there) (limits t table at).roots.one_each split.0.1.1 listed.dims,
          ),
        );
        filed = indexes_filed table (length (all_rows (table_spots shape pages def view.owners table.map))) (rows_in_table shape pages def table.map) (pending_blocks table.map) def.indexes table.indexes
            (λ index place tree has is. index_most shape pages def view.owners table.map long map_is is_tight.none_free is_tight.none_pending index place tree has is) split.1 filed;
      }

  -- ---- the same beside the plain tables

  -- what changes may make of a table, as its plain one counts it, where so many blocks are claimed for it
  pub record Wanted (changes : List SpaceChange) (c : TableView → ℕ) (table : TableView) (plain : PlainTable) : Type 0 where
    pub blocks : count_by (is_own table.def.number) view.owners + c table ≤ table_blocks shape plain
    pub wants : KeepWants changes (table_items (table_blocks shape plain) (length plain.rows) table)
    pub counts : pages_at (table_blocks shape plain) (block_places table.def) + pages_at (length plain.rows) (record_places table.def) ≤ index_pages_needed (table_blocks shape plain) plain

  beside_as : (R Q : TableView → PlainTable → Type 0) (places : List (Option TableView)) (db : Database) → ((table : TableView) (plain : PlainTable) → R table plain → Q table plain) → AllZip (Beside R) places db → AllZip (Beside Q) places db
  beside_as R Q [] [] turn all = tt
  beside_as R Q [] (plain ∷ db) turn all = absurd all
  beside_as R Q (place ∷ places) [] turn all = absurd all
  beside_as R Q (None ∷ places) (None ∷ db) turn all = (tt, beside_as R Q places db turn all.1)
  beside_as R Q (None ∷ places) (Some plain ∷ db) turn all = absurd all.0
  beside_as R Q (Some table ∷ places) (None ∷ db) turn all = absurd all.0
  beside_as R Q (Some table ∷ places) (Some plain ∷ db) turn all = (turn table plain all.0, beside_as R Q places db turn all.1)

  -- each block is one of a table that is there
  block_there : (e t : ℕ) → e < length view.owners → owner_of view.owners e ≡ Block t → 1 ≤ sum_by (λ table. one_if (is_own table.def.number (Block t))) (tables_there view.places)
  block_there e t low is =
      let long = sound.first.rule2.count in
      let page = sound.first.rule2.each (e / 512) (map_page_of e (omega (arith, low, long))) in
      let owner : IsTableThere pages t = subst (IsOwnerThere pages) is (page.owned e refl) in
      go (slice_get view.places t) refl owner
    where
      map_page_of : (e : ℕ) → e < shape.extents → e / 512 < map_pages shape.extents
      map_page_of e low = omega (arith, low)

      go : (place : Option (Option TableView)) → slice_get view.places t ≡ place → IsTableThere pages t → 1 ≤ sum_by (λ table. one_if (is_own table.def.number (Block t))) (tables_there view.places)
      go None at owner = (let long = range_length (IsTablePlaceSound shape pages view.owners) 0 16 view.places sound.first.rule3.each in absurd (get_none view.places t at (omega (arith, owner.0, long))))
        where
          get_none : {X : Type 0} (xs : List X) (i : ℕ) → slice_get xs i ≡ None → i < length xs → ⊥
          get_none [] i e low = omega (arith, low)
          get_none (x ∷ xs) zero e low = cc
          get_none (x ∷ xs) (suc i) e low = get_none xs i e (omega (arith, low))
      go (Some None) at owner = absurd (owner.1 (place_sound t None at))
      go (Some (Some table)) at owner =
          omega (
            arith,
            there_sum (λ (one : TableView). one_if (is_own one.def.number (Block t))) view.places t table at,
            ap one_if (eq-eqb t table.def.number (sym (limits t table at).stands)),
          )

  pub items_hold : (blocks : PlainTable → ℕ) (R : TableView → PlainTable → Type 0) (db : Database) → AllZip (Beside R) view.places db → HoldsItems shape pages view.owners (items_of blocks view.places db)
  items_hold blocks R db all = record {
    extents = extents;
    each = items_tight pages blocks R view.places db all has_trees;
    used = λ p used. items_times pages blocks R p view.places db all has_trees ∙ (sound.first.rule5 p).used used;
    others = λ p unused. items_times pages blocks R p view.places db all has_trees ∙ (sound.first.rule5 p).others unused;
    few = tight.few_unused;
  }

  -- changes that run full: the extents are fewer than such plain tables need, with the trees that are made
  pub beyond : (changes : List SpaceChange) (c : TableView → ℕ) (db : Database) → AllZip (Beside (Wanted changes c)) view.places db → claims changes ≤ sum_by c (tables_there view.places)
      → ((places : List TreePlace) → ((t : ℕ) (table : TableView) → slice_get view.places t ≡ Some (Some table) → (place : TreePlace) → Contains (tree_places table.def) place → Contains places place) → ArePutting places changes)
      → RunsFull shape pages changes
      → shape.extents < sum_of_tables (table_blocks shape) db + div_ceil (sum_of_tables (λ table. index_pages_needed (table_blocks shape table) table) db + made_sum changes) shape.extent_pages
  beyond changes c db all few putting full =
      let blocks = table_blocks shape in
      let holds = items_hold blocks (Wanted changes c) db all in
      let there : (t : ℕ) (table : TableView) → slice_get view.places t ≡ Some (Some table) → (place : TreePlace) → Contains (tree_places table.def) place → Contains (item_places (items_of blocks view.places db)) place =
      λ t table at place in_it. items_there pages blocks (Wanted changes c) t table view.places db at all has_trees place in_it in
      let wants = items_want blocks changes view.places db (beside_as (Wanted changes c) (λ table plain. KeepWants changes (table_items (blocks plain) (length plain.rows) table)) view.places db (λ table plain w. w.wants) all) in
      let short = full_beyond shape pages view.owners (items_of blocks view.places db) changes holds (putting (item_places (items_of blocks view.places db)) there) wants full in
      let pages_most = items_counted blocks (λ table. index_pages_needed (table_blocks shape table) table) view.places db
      (beside_as (Wanted changes c) (λ table plain. pages_at (blocks plain) (block_places table.def) + pages_at (length plain.rows) (record_places table.def) ≤ index_pages_needed (table_blocks shape plain) plain) view.places db (λ table plain w. w.counts) all) in
      let blocks_most = tables_sum (λ table. count_by (is_own table.def.number) view.owners + c table) blocks view.places db
      (beside_as (Wanted changes c) (λ table plain. count_by (is_own table.def.number) view.owners + c table ≤ table_blocks shape plain) view.places db (λ table plain w. w.blocks) all) in
      omega (
        arith,
        short,
        few,
        blocks_most,
        blocks_of_tables (tables_there view.places) view.owners block_there,
        sum_by-plus (λ (table : TableView). count_by (is_own table.def.number) view.owners) c (tables_there view.places),
        ceil_mono shape.extent_pages (sum_by counted (items_of blocks view.places db) + made_sum changes) (sum_of_tables (λ table. index_pages_needed (table_blocks shape table) table) db + made_sum changes)
            (omega (arith, (extent_limits shape).0)) (omega (arith, pages_most)),
      )
