-- A table more: what stands around its empty place, and how its trees and its table page close the database again.
use Rattle.std.proofs.Common.{◌≡◌, ◌≢◌, ◌<◌, ◌+◌, ◌/◌, inr, ℕ, zero, suc, List, [], ◌∷◌, Option, Some, None, length, map, set, refl, ap, arith, sym, ◌∙◌, subst}
use Rattle.std.specs.Prelude.{AllPairs, flat_map, slice_get}
use Rattle.std.specs.List.{AllByRecursion, AllZip}
use Rattle.std.proofs.lemmas.List.Sorted.{IsPermutation-refl}
use Rattle.mdc_ast.specs.declared.definition.IndexDef.{IndexDef}
use Rattle.mdc_ast.specs.declared.definition.TableDef.{TableDef}
use Rattle.store_api.specs.StoreState.{zero_page}
use Rattle.store_api.specs.declared.shape.Shape.{Shape}
use Rattle.extent_map.specs.Owners.{owner_of}
use Rattle.extent_map.specs.declared.kind.Kind.{Kind}
use Rattle.extent_map.specs.declared.kind.Kind.TheVariants.{Block}
use Rattle.extent_map.proofs.HoldsMapLemmas.{on_map}
use Rattle.entry_tree.specs.Forest.{Forest}
use Rattle.mdc_ast.specs.TableLimits.{IsTableDef}
use Rattle.table_page.specs.TablePage.{table_page}
use Rattle.table_page.proofs.TablePageLemmas.{no_blank_table}
use Rattle.table_trees.specs.TableTrees.{rising_parts, tree_places}
use Rattle.table_trees.specs.ToldPages.{PageList}
use Rattle.mdc_sound.specs.BlockRules.{AreTableBlockIndexesSound, IsBlockIndexSound}
use Rattle.mdc_sound.specs.SoundDatabase.{KeepAllRules}
use Rattle.mdc_sound.specs.SpaceRules.{DatabaseView, IsBlockMapSound, IsOwnerThere, IsTablePlaceSound, tables_there}
use Rattle.mdc_sound.specs.StandsForDatabase.{HoldsPlace}
use Rattle.mdc_sound.specs.TablePages.{IsTableThere, table_page_at}
use Rattle.mdc_sound.specs.TableRows.{PlacedRow}
use Rattle.mdc_sound.specs.TableViews.{TableView, trees_of_table}
use Rattle.mdc_sound.proofs.SpaceRulesLemmas.{range_at, range_length}
use Rattle.mdc_sound.proofs.StandingTableLemmas.{block_below, map_of_rules}
use Rattle.stored_catalog.specs.AroundTable.{HasNoBlocks, StandsBut, view_with}
use Rattle.stored_catalog.specs.NewTables.{empty_table, empty_tree, empty_trees, own_places}
use Rattle.stored_catalog.specs.StoredDefinitions.{with_stored}
use Rattle.stored_catalog.specs.TableSteps.{IsNameFree, plain_empty}
use Rattle.stored_catalog.proofs.AroundTableLemmas.{around_kept, page_around, page_written}
use Rattle.stored_catalog.proofs.ClosedTableLemmas.{closed_with}
use Rattle.stored_catalog.proofs.NewTablesLemmas.{StandsBetween, empty_trees_all, indexes_between, names_between, own_places_all, stands_between}

-- ---- opening

-- what stands in a place
pub place_there : {X : Type 0} (xs : List X) (t : ℕ) → t < length xs → (x : X) × (slice_get xs t ≡ Some x)
place_there [] t low = absurd (omega arith)
place_there (x ∷ xs) zero low = (x, refl)
place_there (x ∷ xs) (suc t) low = place_there xs t (omega (arith, low))

module _ (shape : Shape) (pages : PageList) (view : DatabaseView) (keeps : KeepAllRules shape pages view) where
  -- there are 16 places
  places_count : length view.places ≡ 16
  places_count = range_length (IsTablePlaceSound shape pages view.owners) 0 16 view.places keeps.first.rule3.each

  -- what stands in each is sound
  place_sound : (u : ℕ) (place : Option TableView) → slice_get view.places u ≡ Some place → IsTablePlaceSound shape pages view.owners u place
  place_sound u place at =
      let same : 0 + u ≡ u = omega arith in
      subst (λ v. IsTablePlaceSound shape pages view.owners v place) same (range_at (IsTablePlaceSound shape pages view.owners) 0 16 view.places u place keeps.first.rule3.each at).1

  -- a table page of zeros has no table
  pub absent_of_zero : (t : ℕ) → t < 16 → table_page_at pages t ≡ zero_page → slice_get view.places t ≡ Some None
  absent_of_zero t low zeros = let found = place_there view.places t (omega (arith, places_count, low)) in go found.0 found.1
    where
      go : (place : Option TableView) → slice_get view.places t ≡ Some place → slice_get view.places t ≡ Some None
      go None at = at
      go (Some table) at = let sound = place_sound t (Some table) at in absurd (no_blank_table t table.def (record { limits = sound.0.limits; printed = sym zeros ∙ sound.0.printed }))

  -- a block is one of a table that is there
  owned_there : (e u : ℕ) → owner_of view.owners e ≡ Block u → IsTableThere pages u
  owned_there e u block =
      let below : e < shape.extents = omega (arith, block_below view.owners e u block, keeps.first.rule2.count) in
      subst (IsOwnerThere pages) block ((keeps.first.rule2.each (e / 512) (on_map shape.extents e below)).owned e refl)

  -- and no block
  pub no_blocks_absent : (t : ℕ) → slice_get view.places t ≡ Some None → HasNoBlocks view.owners t
  no_blocks_absent t absent e block = (owned_there e t block).1 (place_sound t None absent)

  -- a sound database stands around an empty place
  pub opened_adding : (t : ℕ) → t < 16 → slice_get view.places t ≡ Some None → StandsBut shape pages view t [] []
  opened_adding t low absent = record {
    within = low;
    count = places_count;
    absent = absent;
    root = keeps.first.rule1;
    extents = map_of_rules shape pages view keeps.first;
    owned = λ e u block. inr (owned_there e u block);
    each = λ u place apart at. place_sound u place at;
    tables_differ = keeps.first.rule3.tables_differ;
    indexes_differ = keeps.first.rule3.indexes_differ;
    trees_stand = keeps.first.rule4;
    held = tt;
    used = λ p used. omega (arith, (keeps.first.rule5 p).used used);
    unused = λ p unused. omega (arith, (keeps.first.rule5 p).others unused);
    block_maps = keeps.first.rule6;
    rows = keeps.first.rule7;
    counts = keeps.first.rule8;
    cells = keeps.first.rule9;
    block_indexes = keeps.first.rule10;
    record_indexes = keeps.rule11;
    keys = keeps.rule12;
  }

-- ---- closing

-- indexes without entries, where there are no rows
no_entries : (pages : PageList) (def : TableDef) (dims : List (List ℕ)) (roots : List ℕ) → length roots ≡ length dims
    → AllZip (λ dim index. IsBlockIndexSound def [] (rising_parts dim) index) dims (map empty_tree roots)
no_entries pages def [] [] one_each = tt
no_entries pages def [] (root ∷ roots) one_each = absurd (omega (arith, one_each))
no_entries pages def (dim ∷ dims) [] one_each = absurd (omega (arith, one_each))
no_entries pages def (dim ∷ dims) (root ∷ roots) one_each = (record { has = tt; only = tt }, no_entries pages def dims roots (omega (arith, one_each)))

-- no record index has its tree
no_record_trees : (R : IndexDef → Forest → Type 0) (indexes : List IndexDef) → indexes ≡ [] → AllZip R indexes []
no_record_trees R [] none = tt
no_record_trees R (index ∷ indexes) none = absurd cc

-- what holds of each of none
none_of : {X : Type 0} (P : X → Type 0) (xs : List X) → xs ≡ [] → AllByRecursion P xs
none_of P [] none = tt
none_of P (x ∷ xs) none = absurd cc

-- none differ from each other
no_pairs : {X : Type 0} (R : X → X → Type 0) → AllPairs R []
no_pairs R i j d low high = absurd (omega arith)

-- what a table without rows and record indexes has of the rules on rows
module _ (shape : Shape) (pages : PageList) (owners : List Kind) (def : TableDef) (no_indexes : def.indexes ≡ []) (one_each : length def.roots.dims ≡ length def.dims) (none : HasNoBlocks owners def.number) where
  -- its block map names all of its blocks, for it has none
  empty_map : IsBlockMapSound shape owners def (empty_tree def.roots.map)
  empty_map = record { entries = λ entry there. absurd there; lines = tt; once_each = no_pairs (λ a b. a ≢ b); all_named = λ e low block. absurd (none e block) }

  -- its block indexes have all of its Used blocks, for it has none
  empty_indexes : AreTableBlockIndexesSound shape pages (empty_table def)
  empty_indexes = record { composite = record { has = tt; only = tt }; dims = no_entries pages def def.dims def.roots.dims one_each }

-- where its trees stand and its page is written, the table without rows is one of a sound database
closed_around : (shape : Shape) (pages : PageList) (view : DatabaseView) (t : ℕ) (def : TableDef) → StandsBut shape pages view t (own_places def) (empty_trees (own_places def))
    → HasNoBlocks view.owners t → IsTableDef t def → def.indexes ≡ [] → IsNameFree view def.name → table_page_at pages t ≡ table_page def
    → KeepAllRules shape pages (view_with view view.owners t (Some (empty_table def)))
closed_around shape pages view t def st none limits no_indexes free printed = closed_with shape pages view t table stands (record {
  defines = record { limits = limits; printed = printed };
  tables_differ = subst (λ tables. AllPairs (λ a b. a.name ≢ b.name) (map (λ (other : TableView). other.def) tables)) (sym between.are)
      (names_between between.front between.back table (subst (λ tables. AllPairs (λ a b. a.name ≢ b.name) (map (λ (other : TableView). other.def) tables)) between.were st.tables_differ)
      (subst (AllByRecursion (λ other. other.def.name ≢ def.name)) between.were free));
  indexes_differ = subst (AllPairs (λ a b. a.name ≢ b.name)) same_indexes st.indexes_differ;
  block_map = empty_map shape pages view.owners def no_indexes limits.roots.one_each none_own;
  rows = tt;
  used_counts = tt;
  idle_counts = tt;
  cells = tt;
  block_indexes = empty_indexes shape pages view.owners def no_indexes limits.roots.one_each none_own;
  record_indexes = no_record_trees _ def.indexes no_indexes;
  numbers = record { below_next = tt; differ = no_pairs (λ (a b : PlacedRow). a.row.number ≢ b.row.number) };
}) (none_of _ def.indexes no_indexes)
  where
    table : TableView
    table = empty_table def

    between : StandsBetween view.places t table
    between = stands_between view.places t table st.absent

    none_own : HasNoBlocks view.owners def.number
    none_own = subst (HasNoBlocks view.owners) (sym limits.stands) none

    stands : StandsBut shape pages view t (tree_places def) (trees_of_table table)
    stands = subst (λ trees. StandsBut shape pages view t (tree_places def) trees) (sym (empty_trees_all def limits.roots.one_each))
        (subst (λ places. StandsBut shape pages view t places (empty_trees (own_places def))) (sym (own_places_all def no_indexes)) st)

    same_indexes : flat_map (λ (d : TableDef). d.indexes) (map (λ (other : TableView). other.def) (tables_there view.places))
        ≡ flat_map (λ (d : TableDef). d.indexes) (map (λ (other : TableView). other.def) (tables_there (set view.places t (Some table))))
    same_indexes =
        ap (λ tables. flat_map (λ (d : TableDef). d.indexes) (map (λ (other : TableView). other.def) tables)) between.were
        ∙ (indexes_between between.front between.back table no_indexes ∙ ap (λ tables. flat_map (λ (d : TableDef). d.indexes) (map (λ (other : TableView). other.def) tables)) (sym between.are))

-- the table without rows stands where its trees do, and its page says so
pub closed_adding : (shape : Shape) (pages : PageList) (view : DatabaseView) (t : ℕ) (def : TableDef) → StandsBut shape pages view t (own_places def) (empty_trees (own_places def))
    → HasNoBlocks view.owners t → IsTableDef t def → def.indexes ≡ [] → IsNameFree view def.name
    → KeepAllRules shape (with_stored pages t (Some def)) (view_with view view.owners t (Some (empty_table def)))
closed_adding shape pages view t def st none limits no_indexes free =
    let places = own_places def in
    let trees = empty_trees places in
    let bytes = table_page def in
    closed_around shape (with_stored pages t (Some def)) view t def
    (around_kept shape pages (with_stored pages t (Some def)) view t places trees view.owners places trees st (page_around shape pages view t places trees bytes st))
    none limits no_indexes free (page_written shape pages view t places trees bytes st)

-- and holds no row
pub empty_place_held : (shape : Shape) (pages : PageList) (view : DatabaseView) (t : ℕ) (def : TableDef) → StandsBut shape pages view t (own_places def) (empty_trees (own_places def)) → IsTableDef t def
    → HoldsPlace shape (with_stored pages t (Some def)) t (Some (plain_empty def))
empty_place_held shape pages view t def st limits =
    let places = own_places def in
    let trees = empty_trees places in
    let bytes = table_page def in
    let now = around_kept shape pages (with_stored pages t (Some def)) view t places trees view.owners places trees st (page_around shape pages view t places trees bytes st) in
    record {
      def = def;
      map_tree = empty_tree def.roots.map;
      defines = record { limits = limits; printed = page_written shape pages view t places trees bytes st };
      has_map = now.held.0;
      def_is = refl;
      same_rows = IsPermutation-refl [];
      rising = no_pairs (λ a b. a.number < b.number);
    }
