-- A record index more: the definition with it, its name among all, and its tree beside those of the table.
use Rattle.std.proofs.Common.{◌≡◌, ◌≢◌, ◌<◌, ◌+◌, ◌∙◌, ℕ, zero, suc, List, [], ◌∷◌, ◌++◌, true, false, Option, Some, None, map, set, refl, ap, arith, sym, subst, ◌⊎◌, inl, inr}
use Rattle.std.specs.Prelude.{All, AllPairs, Contains, IsPermutation, flat_map, slice_get}
use Rattle.std.specs.List.{AllByRecursion}
use Rattle.std.proofs.lemmas.List.{append_assoc, length-append, map-append}
use Rattle.std.proofs.lemmas.List.Kept.{AllPairs-cons}
use Rattle.std.proofs.lemmas.List.Sorted.{Contains-permutation, IsPermutation-sym}
use Rattle.std.proofs.lemmas.List.Sums.{sum_by-append, sum_by-cons}
use Rattle.std.proofs.lemmas.Option.{same_Some}
use Rattle.std.proofs.lemmas.Slice.Eq.{bytes_eq-Decides}
use Rattle.mdc_ast.specs.declared.definition.IndexDef.{IndexDef}
use Rattle.mdc_ast.specs.declared.definition.TableDef.{TableDef}
use Rattle.mdc_ast.specs.declared.name.Name.{Name}
use Rattle.mdc_ast.specs.Definitions.{AllNamesDiffer, Definitions, index_place_of, is_among, is_same, with_index}
use Rattle.mdc_ast.specs.TableLimits.{IsGoodIndex, IsTableDef}
use Rattle.mdc_ast.specs.ValidDatabase.{index_names}
use Rattle.mdc_ast.proofs.DefinitionsLemmas.{neither}
use Rattle.store_api.specs.declared.shape.Shape.{Shape}
use Rattle.entry_tree.specs.Forest.{Forest, leaf_entries, times}
use Rattle.table_page.specs.TablePage.{IsTablePageOf}
use Rattle.table_page.proofs.TablePageLemmas.{no_blank_table, one_definition}
use Rattle.table_trees.specs.TableTrees.{TreePlace, composite_place, dimension_places, map_place, record_place, record_places, tree_places}
use Rattle.table_trees.specs.ToldPages.{HasTree, PageList}
use Rattle.table_trees.proofs.TreeListsLemmas.{AllZip-both, times-one}
use Rattle.mdc_sound.specs.BlockRules.{IsSoundIndex, block_in_entry, entry_of_row}
use Rattle.mdc_sound.specs.SoundDatabase.{KeepAllRules}
use Rattle.mdc_sound.specs.SpaceRules.{DatabaseView, IsTablePlaceSound, tables_there}
use Rattle.mdc_sound.specs.TablePages.{table_page_at}
use Rattle.mdc_sound.specs.TableRows.{PlacedRow}
use Rattle.mdc_sound.specs.TableViews.{TableView, trees_of_table}
use Rattle.mdc_sound.proofs.BlockRulesLemmas.{each_as, each_of}
use Rattle.mdc_sound.proofs.ElementsLemmas.{from_map, in_map}
use Rattle.mdc_sound.proofs.SpaceRulesLemmas.{each_there, range_at, range_length}
use Rattle.stored_catalog.specs.AroundTable.{StandsBut}
use Rattle.stored_catalog.specs.StoredDefinitions.{AreStored, IsStoredPlace}
use Rattle.stored_catalog.proofs.IndexNamesLemmas.{apart_turned, differ_both, in_neither, none_has}
use Rattle.index_building.specs.IndexViews.{TakesIndex, rooted_index, view_with_index}
use Rattle.index_building.proofs.AroundIndexLemmas.{cut_at_table, indexes_cut, indexes_of}
use Rattle.index_building.proofs.FilledIndexesLemmas.{all_push}
use Rattle.index_building.proofs.OtherIndexesLemmas.{limits_other}
use Rattle.index_building.proofs.RemovedLemmas.{there-at}

-- ---- names

same_name : (a b : Name) → a ≡ b → is_same a b ≡ true
same_name a b is = (bytes_eq-Decides a.0 b.0).1 (ap (λ (name : Name). name.0) is)

-- a name that is among none of these is none of theirs
pub not_theirs : (name : Name) (indexes : List IndexDef) → is_among name (map (λ (index : IndexDef). index.name) indexes) ≡ false → AllByRecursion (λ (index : IndexDef). index.name ≢ name) indexes
not_theirs name [] none = tt
not_theirs name (index ∷ indexes) none =
    let both : (is_same name index.name ≡ false) × (is_among name (map (λ (index : IndexDef). index.name) indexes) ≡ false) = neither (is_same name index.name) (is_among name (map (λ (index : IndexDef). index.name) indexes)) none in
    (λ same. let wrong : true ≡ false = sym (same_name name index.name (sym same)) ∙ both.0 in cc, not_theirs name indexes both.1)

-- nor is it one of a definition of the catalog
among_at : (name : Name) (defs : Definitions) (t : ℕ) (def : TableDef) → is_among name (flat_map index_names defs) ≡ false → slice_get defs t ≡ Some (Some def) → is_among name (map (λ (index : IndexDef). index.name) def.indexes) ≡ false
among_at name [] t def none at = absurd cc
among_at name (place ∷ defs) zero def none at =
    let here : place ≡ Some def = same_Some place (Some def) at in
    subst (λ p. is_among name (index_names p) ≡ false) here (in_neither name (index_names place) (flat_map index_names defs) none).0
among_at name (place ∷ defs) (suc t) def none at = among_at name defs t def (in_neither name (index_names place) (flat_map index_names defs) none).1 at

-- where no record index of a catalog has a name, none of the database has it
each_free : (shape : Shape) (pages : PageList) (view : DatabaseView) (defs : Definitions) (name : Name) → KeepAllRules shape pages view → AreStored pages defs → index_place_of defs name ≡ None
    → AllByRecursion (λ (table : TableView). AllByRecursion (λ (index : IndexDef). index.name ≢ name) table.def.indexes) (tables_there view.places)
each_free shape pages view defs name keeps stored free = each_there (λ table. AllByRecursion (λ (index : IndexDef). index.name ≢ name) table.def.indexes) view.places go
  where
    other : (t : ℕ) (table : TableView) (place : Option TableDef) → IsTablePlaceSound shape pages view.owners t (Some table) → slice_get defs t ≡ Some place → IsStoredPlace pages t place
        → AllByRecursion (λ (index : IndexDef). index.name ≢ name) table.def.indexes
    other t table None sound at is = absurd (no_blank_table t table.def (subst (λ page. IsTablePageOf t table.def page) is sound.0))
    other t table (Some def) sound at is =
        subst (λ (d : TableDef). AllByRecursion (λ (index : IndexDef). index.name ≢ name) d.indexes) (one_definition t def table.def (table_page_at pages t) is sound.0)
        (not_theirs name def.indexes (among_at name defs t def (none_has name defs 0 free) at))

    go : (t : ℕ) (table : TableView) → slice_get view.places t ≡ Some (Some table) → AllByRecursion (λ (index : IndexDef). index.name ≢ name) table.def.indexes
    go t table at =
        let here = range_at (IsTablePlaceSound shape pages view.owners) 0 16 view.places t (Some table) keeps.first.rule3.each at in
        let found = there-at defs t (omega (arith, here.0, range_length (IsStoredPlace pages) 0 16 defs stored)) in
        let is = range_at (IsStoredPlace pages) 0 16 defs t found.0 stored found.1 in
        let same : 0 + t ≡ t = omega arith in
        other t table found.0 (subst (λ i. IsTablePlaceSound shape pages view.owners i (Some table)) same here.1) found.1 (subst (λ i. IsStoredPlace pages i found.0) same is.1)

all_both : {X : Type 0} (P : X → Type 0) (xs ys : List X) → AllByRecursion P xs → AllByRecursion P ys → AllByRecursion P (xs ++ ys)
all_both P [] ys first second = second
all_both P (x ∷ xs) ys first second = (first.0, all_both P xs ys first.1 second)

all_parts : {X : Type 0} (P : X → Type 0) (xs ys : List X) → AllByRecursion P (xs ++ ys) → AllByRecursion P xs × AllByRecursion P ys
all_parts P [] ys all = (tt, all)
all_parts P (x ∷ xs) ys all = let rest = all_parts P xs ys all.1 in ((all.0, rest.0), rest.1)

in_all : (P : IndexDef → Type 0) (tables : List TableView) → AllByRecursion (λ (table : TableView). AllByRecursion P table.def.indexes) tables → AllByRecursion P (indexes_of tables)
in_all P [] all = tt
in_all P (table ∷ tables) all = all_both P table.def.indexes (indexes_of tables) all.0 (in_all P tables all.1)

pub name_is_free : (shape : Shape) (pages : PageList) (view : DatabaseView) (defs : Definitions) (name : Name) → KeepAllRules shape pages view → AreStored pages defs → index_place_of defs name ≡ None
    → AllByRecursion (λ (index : IndexDef). index.name ≢ name) (indexes_of (tables_there view.places))
name_is_free shape pages view defs name keeps stored free = in_all (λ (index : IndexDef). index.name ≢ name) (tables_there view.places) (each_free shape pages view defs name keeps stored free)

-- ---- pairs with one more

all_of : {X : Type 0} (P : X → Type 0) (xs : List X) → AllByRecursion P xs → All P xs
all_of P [] all i d low = absurd (omega (arith, low))
all_of P (x ∷ xs) all zero d low = all.0
all_of P (x ∷ xs) all (suc i) d low = all_of P xs all.1 i d (omega (arith, low))

all_with : {X : Type 0} (P : X → Type 0) (xs ys : List X) (x : X) → All P (xs ++ ys) → P x → All P (xs ++ x ∷ ys)
all_with P [] ys x all is zero d low = is
all_with P [] ys x all is (suc i) d low = all i d (omega (arith, low))
all_with P (y ∷ xs) ys x all is zero d low = all 0 d (omega arith)
all_with P (y ∷ xs) ys x all is (suc i) d low = all_with P xs ys x (λ j e within. all (suc j) e (omega (arith, within))) is i d (omega (arith, low))

pub pairs_between : {X : Type 0} (R : X → X → Type 0) (xs ys : List X) (x : X) → AllPairs R (xs ++ ys) → AllByRecursion (λ y. R y x) xs → AllByRecursion (λ y. R x y) ys → AllPairs R (xs ++ x ∷ ys)
pairs_between R [] ys x all before behind = AllPairs-cons R x ys (all_of (λ y. R x y) ys behind) all
pairs_between R (y ∷ xs) ys x all before behind =
    AllPairs-cons R y (xs ++ x ∷ ys) (all_with (λ z. R y z) xs ys x (λ i d low. all 0 (suc i) d (omega arith) (omega (arith, low))) before.0)
    (pairs_between R xs ys x (λ i j d low high. all (suc i) (suc j) d (omega (arith, low)) (omega (arith, high))) before.1 behind)

-- the names of all record indexes differ, with one more whose name none has
pub indexes_differ_with : (places : List (Option TableView)) (t : ℕ) (table : TableView) (index : IndexDef) (tree : Forest) → slice_get places t ≡ Some (Some table)
    → AllByRecursion (λ (other : IndexDef). other.name ≢ index.name) (indexes_of (tables_there places))
    → AllPairs (λ (a b : IndexDef). a.name ≢ b.name) (indexes_of (tables_there places)) → AllPairs (λ (a b : IndexDef). a.name ≢ b.name) (indexes_of (tables_there (set places t (Some (view_with_index table index tree)))))
indexes_differ_with places t table index tree at free all =
    let R : IndexDef → IndexDef → Type 0 = λ a b. a.name ≢ b.name in
    let c = cut_at_table places t table at in
    let more = view_with_index table index tree in
    let own = table.def.indexes in
    let front = indexes_of c.front in
    let back = indexes_of c.back in
    let whole : indexes_of (tables_there places) ≡ (front ++ own) ++ back = ap indexes_of c.are ∙ (indexes_cut c.front c.back table ∙ sym (append_assoc front own back)) in
    let now : indexes_of (tables_there (set places t (Some more))) ≡ (front ++ own) ++ index ∷ back =
    ap indexes_of (c.now more) ∙ (indexes_cut c.front c.back more ∙ (ap (λ rest. front ++ rest) (append_assoc own (index ∷ []) back) ∙ sym (append_assoc front own (index ∷ back)))) in
    let parts = all_parts (λ (other : IndexDef). other.name ≢ index.name) (front ++ own) back (subst (AllByRecursion (λ (other : IndexDef). other.name ≢ index.name)) whole free) in
    subst (AllPairs R) (sym now)
    (pairs_between R (front ++ own) back index (subst (AllPairs R) whole all) parts.0
    (each_as (λ (other : IndexDef). other.name ≢ index.name) (λ (other : IndexDef). index.name ≢ other.name) back (λ other there apart same. apart (sym same)) parts.1))

-- ---- the definition

differ_push : (names : List Name) (name : Name) → AllNamesDiffer names → is_among name names ≡ false → AllNamesDiffer (names ++ name ∷ [])
differ_push names name all none = differ_both names (name ∷ []) all (refl, tt) (apart_turned (name ∷ []) names (none, tt))

-- it is within the limits with an index of a free name
pub limits_with : (t : ℕ) (def : TableDef) (index : IndexDef) (root : ℕ) (defs : Definitions) → TakesIndex def index → root < 4294967296 → IsTableDef t def → index_place_of defs index.name ≡ None → slice_get defs t ≡ Some (Some def)
    → IsTableDef t (with_index def (rooted_index index root))
limits_with t def index root defs takes small is free at =
    let which = rooted_index index root in
    limits_other t def (def.indexes ++ which ∷ []) (record {
      few = omega (arith, takes.few, length-append def.indexes (which ∷ []));
      good = all_push (IsGoodIndex def.columns) def.indexes which is.indexes.good (record {
        name = takes.good.name;
        some_parts = takes.good.some_parts;
        few_parts = takes.good.few_parts;
        there = takes.good.there;
        apart = takes.good.apart;
        short = takes.good.short;
        root = small;
      });
      differ = subst AllNamesDiffer (sym (map-append (λ (i : IndexDef). i.name) def.indexes (which ∷ [])))
          (differ_push (map (λ (i : IndexDef). i.name) def.indexes) index.name is.indexes.differ (among_at index.name defs t def (none_has index.name defs 0 free) at));
    }) is

-- ---- the trees

-- a tree in front of the others goes behind them
pub stands_turned : (shape : Shape) (pages : PageList) (view : DatabaseView) (t : ℕ) (place : TreePlace) (places : List TreePlace) (tree : Forest) (trees : List Forest)
    → StandsBut shape pages view t (place ∷ places) (tree ∷ trees) → StandsBut shape pages view t (places ++ place ∷ []) (trees ++ tree ∷ [])
stands_turned shape pages view t place places tree trees st = record {
  within = st.within;
  count = st.count;
  absent = st.absent;
  root = st.root;
  extents = st.extents;
  owned = st.owned;
  each = st.each;
  tables_differ = st.tables_differ;
  indexes_differ = st.indexes_differ;
  trees_stand = st.trees_stand;
  held = AllZip-both (HasTree pages) places (place ∷ []) trees (tree ∷ []) st.held.1 (st.held.0, tt);
  used = λ p used. omega (arith, st.used p used, sum_by-append (times p) trees (tree ∷ []), sum_by-cons (times p) tree trees, times-one p tree);
  unused = λ p off. omega (arith, st.unused p off, sum_by-append (times p) trees (tree ∷ []), sum_by-cons (times p) tree trees, times-one p tree);
  block_maps = st.block_maps;
  rows = st.rows;
  counts = st.counts;
  cells = st.cells;
  block_indexes = st.block_indexes;
  record_indexes = st.record_indexes;
  keys = st.keys;
}

pub places_with : (def : TableDef) (index : IndexDef) → tree_places (with_index def index) ≡ tree_places def ++ record_place def index ∷ []
places_with def index =
    ap (λ records. map_place def ∷ composite_place def ∷ dimension_places def ++ records) (map-append (record_place def) def.indexes (index ∷ []))
    ∙ sym (append_assoc (map_place def ∷ composite_place def ∷ dimension_places def) (record_places def) (record_place def index ∷ []))

pub trees_with : (table : TableView) (index : IndexDef) (tree : Forest) → trees_of_table (view_with_index table index tree) ≡ trees_of_table table ++ tree ∷ []
trees_with table index tree = sym (append_assoc (table.map ∷ table.composite ∷ table.dims) table.indexes (tree ∷ []))

-- ---- rows in another order

pub sound_in_order : (def : TableDef) (rows others : List PlacedRow) (pending : List ℕ) (index : IndexDef) (tree : Forest) → IsPermutation rows others → IsSoundIndex def rows [] index tree → IsSoundIndex def others pending index tree
sound_in_order def rows others pending index tree same sound = record {
  has = each_as (λ (placed : PlacedRow). Unit {0}) (λ (placed : PlacedRow). Contains (leaf_entries tree) (entry_of_row def index placed)) others
      (λ placed there any. each_of (λ (x : PlacedRow). Contains (leaf_entries tree) (entry_of_row def index x)) rows placed sound.has (Contains-permutation others rows placed (IsPermutation-sym rows others same) there)) (any_rows others);
  only = each_as (λ e. Contains (map (entry_of_row def index) rows) e ⊎ Contains [] (block_in_entry def index.parts e)) (λ e. Contains (map (entry_of_row def index) others) e ⊎ Contains pending (block_in_entry def index.parts e)) (leaf_entries tree)
      (λ e there is. elim is [ inl row ↦ inl (in_others e row) | inr none ↦ absurd (omega (arith, none.1)) ]) sound.only;
}
  where
    any_rows : (some : List PlacedRow) → AllByRecursion (λ (placed : PlacedRow). Unit {0}) some
    any_rows [] = tt
    any_rows (placed ∷ some) = (tt, any_rows some)

    in_others : (e : List ℕ) → Contains (map (entry_of_row def index) rows) e → Contains (map (entry_of_row def index) others) e
    in_others e row =
        let one = from_map (entry_of_row def index) rows e row in
        subst (Contains (map (entry_of_row def index) others)) one.2 (in_map (entry_of_row def index) others one.0 (Contains-permutation rows others one.0 same one.1))
