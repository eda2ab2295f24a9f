-- New tables: their definitions, where their trees are, and what a view has with one more of them.
use Rattle.std.proofs.Common.{◌≡◌, ◌≢◌, ◌<◌, ◌+◌, ℕ, zero, suc, List, [], ◌∷◌, ◌++◌, Option, Some, None, length, map, set, sum_by, zip, refl, ap, arith, sym, ◌∙◌}
use Rattle.std.specs.Prelude.{AllPairs, All, flat_map, slice_get}
use Rattle.std.specs.List.{AllByRecursion}
use Rattle.std.proofs.lemmas.List.{append-nil}
use Rattle.std.proofs.lemmas.List.Kept.{AllPairs-cons}
use Rattle.std.proofs.lemmas.List.Sums.{sum_by-cons}
use Rattle.mdc_ast.specs.declared.definition.ColumnDef.{ColumnDef}
use Rattle.mdc_ast.specs.declared.definition.IndexDef.{IndexDef}
use Rattle.mdc_ast.specs.declared.definition.Roots.{Roots}
use Rattle.mdc_ast.specs.declared.definition.TableDef.{TableDef}
use Rattle.mdc_ast.specs.TableLimits.{AreRootsFor, AreTableIndexes, IsTableDef}
use Rattle.table_trees.specs.TableTrees.{AreIndexParts, cell_parts, composite_place, dimension_place, dimension_places, map_place, record_place, rising_parts, tree_places}
use Rattle.mdc_sound.specs.SpaceRules.{tables_there}
use Rattle.mdc_sound.specs.TableViews.{TableView, trees_of_table}
use Rattle.mdc_sound.proofs.DefinitionTreesLemmas.{has_block_indexes}
use Rattle.stored_catalog.specs.NewTables.{IsNewTableDef, empty_table, empty_tree, empty_trees, own_places, rooted}

-- ---- the definition

-- no record index breaks a limit
no_table_indexes : (columns : List ColumnDef) (indexes : List IndexDef) → indexes ≡ [] → AreTableIndexes columns indexes
no_table_indexes columns [] none = record { few = omega arith; good = tt; differ = tt }
no_table_indexes columns (index ∷ indexes) none = absurd cc

-- a new definition with its roots is within the limits
pub table_def_of_new : (t : ℕ) (def : TableDef) (roots : Roots) → def.number ≡ t → IsNewTableDef def → AreRootsFor def.dims roots → IsTableDef t (rooted def roots)
table_def_of_new t def roots number new roots_are = record {
  stands = number;
  name = new.name;
  columns = new.columns;
  dims = new.dims;
  indexes = no_table_indexes def.columns def.indexes new.no_indexes;
  next = omega arith;
  roots = roots_are;
}

-- roots of nothing
abbrev zeros_for : List (List ℕ) → List ℕ
zeros_for [] = []
zeros_for (dim ∷ dims) = 0 ∷ zeros_for dims

-- they are roots for the dimensions
zero_roots : (dims : List (List ℕ)) → (roots : Roots) × AreRootsFor dims roots
zero_roots dims = (record { map = 0; composite = 0; dims = zeros_for dims }, record { map = omega arith; composite = omega arith; one_each = count dims; dimensions = each dims })
  where
    count : (dims : List (List ℕ)) → length (zeros_for dims) ≡ length dims
    count [] = refl
    count (dim ∷ dims) = ap suc (count dims)

    each : (dims : List (List ℕ)) → AllByRecursion (λ root. root < 4294967296) (zeros_for dims)
    each [] = tt
    each (dim ∷ dims) = (omega arith, each dims)

-- its keys may be those of block indexes
pub new_cell_parts : (def : TableDef) → IsNewTableDef def → AreIndexParts def.columns (cell_parts def)
new_cell_parts def new = let roots = zero_roots def.dims in (has_block_indexes def.number (rooted def roots.0) (table_def_of_new def.number def roots.0 refl new roots.1)).composite

-- so may those of each dimension
pub new_dimension_parts : (def : TableDef) → IsNewTableDef def → AllByRecursion (λ dim. AreIndexParts def.columns (rising_parts dim)) def.dims
new_dimension_parts def new = let roots = zero_roots def.dims in (has_block_indexes def.number (rooted def roots.0) (table_def_of_new def.number def roots.0 refl new roots.1)).dimensions

-- ---- the trees

-- a table without record indexes has a block map and block indexes alone
pub own_places_all : (def : TableDef) → def.indexes ≡ [] → tree_places def ≡ own_places def
own_places_all def none =
    ap (λ indexes. map_place def ∷ composite_place def ∷ dimension_places def ++ map (record_place def) indexes) none
    ∙ ap (λ more. map_place def ∷ composite_place def ∷ more) (append-nil (dimension_places def))

-- the empty trees of the dimensions are those at their places
dims_empty : (def : TableDef) (dims : List (List ℕ)) (roots : List ℕ) → length roots ≡ length dims → map empty_tree roots ≡ empty_trees (map (λ pair. dimension_place def pair.0 pair.1) (zip dims roots))
dims_empty def [] [] one_each = refl
dims_empty def [] (root ∷ roots) one_each = absurd (omega (arith, one_each))
dims_empty def (dim ∷ dims) [] one_each = absurd (omega (arith, one_each))
dims_empty def (dim ∷ dims) (root ∷ roots) one_each = ap (λ more. empty_tree root ∷ more) (dims_empty def dims roots (omega (arith, one_each)))

-- so are all of its trees
pub empty_trees_all : (def : TableDef) → length def.roots.dims ≡ length def.dims → trees_of_table (empty_table def) ≡ empty_trees (own_places def)
empty_trees_all def one_each =
    ap (λ more. empty_tree def.roots.map ∷ empty_tree def.roots.composite ∷ more) (append-nil (map empty_tree def.roots.dims) ∙ dims_empty def def.dims def.roots.dims one_each)

-- ---- a table more

-- the tables before an empty place and those behind it
pub record StandsBetween (places : List (Option TableView)) (t : ℕ) (table : TableView) : Type 0 where
  pub front : List TableView
  pub back : List TableView
  pub were : tables_there places ≡ front ++ back
  pub are : tables_there (set places t (Some table)) ≡ front ++ table ∷ back

-- each empty place stands so
pub stands_between : (places : List (Option TableView)) (t : ℕ) (table : TableView) → slice_get places t ≡ Some None → StandsBetween places t table
stands_between [] t table empty = absurd cc
stands_between (None ∷ places) zero table empty = record { front = []; back = tables_there places; were = refl; are = refl }
stands_between (Some first ∷ places) zero table empty = absurd (let e : Some (Some first) ≡ Some None = empty in cc)
stands_between (None ∷ places) (suc t) table empty = let rest = stands_between places t table empty in record { front = rest.front; back = rest.back; were = rest.were; are = rest.are }
stands_between (Some first ∷ places) (suc t) table empty =
    let rest = stands_between places t table empty in
    record { front = first ∷ rest.front; back = rest.back; were = ap (λ more. first ∷ more) rest.were; are = ap (λ more. first ∷ more) rest.are }

-- what holds of all and of one more
pub each_between : (P : TableView → Type 0) (front back : List TableView) (table : TableView) → AllByRecursion P (front ++ back) → P table → AllByRecursion P (front ++ table ∷ back)
each_between P [] back table all here = (here, all)
each_between P (first ∷ front) back table all here = (all.0, each_between P front back table all.1 here)

-- a sum over all and one more
pub sum_between : (f : TableView → ℕ) (front back : List TableView) (table : TableView) → sum_by f (front ++ table ∷ back) ≡ sum_by f (front ++ back) + f table
sum_between f [] back table = omega (arith, sum_by-cons f table back)
sum_between f (first ∷ front) back table = omega (arith, sum_between f front back table, sum_by-cons f first (front ++ table ∷ back), sum_by-cons f first (front ++ back))

-- names that differ, with one that none has
abbrev Differ : List TableView → Type 0
Differ tables = AllPairs (λ a b. a.name ≢ b.name) (map (λ (table : TableView). table.def) tables)

-- its name differs from all
other_names : (table : TableView) (tables : List TableView) → AllByRecursion (λ other. other.def.name ≢ table.def.name) tables
    → All (λ def. table.def.name ≢ def.name) (map (λ (other : TableView). other.def) tables)
other_names table [] free i d low = absurd (omega arith)
other_names table (other ∷ tables) free zero d low = λ same. free.0 (sym same)
other_names table (other ∷ tables) free (suc i) d low = other_names table tables free.1 i d (omega arith)

-- the first differs from all, also with one more
names_with : (first table : TableView) (front back : List TableView) → first.def.name ≢ table.def.name → All (λ def. first.def.name ≢ def.name) (map (λ (other : TableView). other.def) (front ++ back))
    → All (λ def. first.def.name ≢ def.name) (map (λ (other : TableView). other.def) (front ++ table ∷ back))
names_with first table [] back apart all zero d low = apart
names_with first table [] back apart all (suc i) d low = all i d (omega arith)
names_with first table (next ∷ front) back apart all zero d low = all 0 d (omega arith)
names_with first table (next ∷ front) back apart all (suc i) d low = names_with first table front back apart (λ j e within. all (suc j) e (omega arith)) i d (omega arith)

-- so all differ
pub names_between : (front back : List TableView) (table : TableView) → Differ (front ++ back) → AllByRecursion (λ other. other.def.name ≢ table.def.name) (front ++ back) → Differ (front ++ table ∷ back)
names_between [] back table differ free = AllPairs-cons (λ a b. a.name ≢ b.name) table.def (map (λ (other : TableView). other.def) back) (other_names table back free) differ
names_between (first ∷ front) back table differ free =
    AllPairs-cons (λ a b. a.name ≢ b.name) first.def (map (λ (other : TableView). other.def) (front ++ table ∷ back))
    (names_with first table front back free.0 (λ i d low. differ 0 (suc i) d (omega arith) (omega (arith, low))))
    (names_between front back table (λ i j d low high. differ (suc i) (suc j) d (omega (arith, low)) (omega (arith, high))) free.1)

-- record indexes, with a table that has none
pub indexes_between : (front back : List TableView) (table : TableView) → table.def.indexes ≡ []
    → flat_map (λ (def : TableDef). def.indexes) (map (λ (other : TableView). other.def) (front ++ back)) ≡ flat_map (λ (def : TableDef). def.indexes) (map (λ (other : TableView). other.def) (front ++ table ∷ back))
indexes_between [] back table none = ap (λ (indexes : List IndexDef). indexes ++ flat_map (λ (def : TableDef). def.indexes) (map (λ (other : TableView). other.def) back)) (sym none)
indexes_between (first ∷ front) back table none = ap (λ more. first.def.indexes ++ more) (indexes_between front back table none)
