-- The trees of all tables of a tight database, each with the entries that it may come to have, beside the plain tables that give
-- these numbers.
use Rattle.std.proofs.Common.{◌≡◌, ◌<◌, ◌≤◌, ◌+◌, ℕ, zero, suc, Option, Some, None, List, [], ◌∷◌, ◌++◌, length, refl, ap, arith, sym, subst, ◌∙◌}
use Rattle.std.specs.Prelude.{Contains, count_by, slice_get, sum_by}
use Rattle.std.specs.List.{AllByRecursion, AllZip}
use Rattle.std.proofs.lemmas.List.Elements.{Contains-append_left, Contains-append_right}
use Rattle.std.proofs.lemmas.List.Sums.{sum_by-append, sum_by-cons}
use Rattle.mdc_ast.specs.Database.{Database, PlainTable}
use Rattle.extent_map.specs.Kinds.{is_block_kind}
use Rattle.extent_map.specs.Owners.{owner_of}
use Rattle.extent_map.specs.declared.kind.Kind.{Kind}
use Rattle.extent_map.specs.declared.kind.Kind.TheVariants.{Free, Block, Index}
use Rattle.entry_tree.specs.Forest.{Forest, leaf_entries, times}
use Rattle.table_trees.specs.SpaceChanges.{SpaceChange}
use Rattle.table_trees.specs.TableTrees.{TreePlace, dimension_places, record_places, tree_places}
use Rattle.table_trees.specs.ToldPages.{HasTree, PageList}
use Rattle.mdc_sound.specs.SpaceRules.{tables_there}
use Rattle.mdc_sound.specs.TableViews.{TableView, trees_of_table}
use Rattle.mdc_sound.specs.TightPages.{IsHalfFullTree, pages_needed, sum_of_tables}
use Rattle.mdc_sound.proofs.SpaceRulesLemmas.{same_table}
use Rattle.tight_space.specs.PuttingChanges.{IsShortWidth}
use Rattle.tight_space.proofs.PutChangesLemmas.{block_places}
use Rattle.tight_space.proofs.TableCountsLemmas.{is_own}
use Rattle.tight_space.proofs.TightChainsLemmas.{KeepWants, adds, counted}
use Rattle.tight_space.proofs.TightItemsLemmas.{IsTightItem, TreeItem, each_joined, item_places, times_in}
use Rattle.tight_space.proofs.TreePagesLemmas.{sum_by-plus}
use Rattle.tight_space.proofs.SpaceCountsLemmas.{block_extents}
use Rattle.table_trees.proofs.PlaceCountsLemmas.{one_if}

-- ---- the trees of one table

-- trees in their places, which may all come to have so many entries
abbrev pub items_with : ℕ → List TreePlace → List Forest → List TreeItem
items_with want [] trees = []
items_with want (place ∷ places) [] = []
items_with want (place ∷ places) (tree ∷ trees) = record { place = place; tree = tree; want = want } ∷ items_with want places trees

-- those of a table: an entry a block, or an entry a row
abbrev pub table_items : ℕ → ℕ → TableView → List TreeItem
table_items blocks rows table = items_with blocks (block_places table.def) (table.map ∷ table.composite ∷ table.dims) ++ items_with rows (record_places table.def) table.indexes

-- what holds of a table with its trees, whose dimensions have one each
pub record HasTrees (pages : PageList) (table : TableView) : Type 0 where
  pub has : AllZip (HasTree pages) (tree_places table.def) (trees_of_table table)
  pub half : AllZip (λ place tree. IsHalfFullTree place.width tree) (tree_places table.def) (trees_of_table table)
  pub short : AllByRecursion (λ place. IsShortWidth place.width) (tree_places table.def)
  pub one_each : length (dimension_places table.def) ≡ length table.dims

pub split_zip : {A B : Type 0} (R : A → B → Type 0) (xs us : List A) (ys vs : List B) → length xs ≡ length ys → AllZip R (xs ++ us) (ys ++ vs) → AllZip R xs ys × AllZip R us vs
split_zip R [] us [] vs long all = (tt, all)
split_zip R [] us (y ∷ ys) vs long all = absurd (omega (arith, long))
split_zip R (x ∷ xs) us [] vs long all = absurd (omega (arith, long))
split_zip R (x ∷ xs) us (y ∷ ys) vs long all = (let rest = split_zip R xs us ys vs (omega (arith, long)) all.1 in ((all.0, rest.0), rest.1))

split_each : {A : Type 0} (P : A → Type 0) (xs us : List A) → AllByRecursion P (xs ++ us) → AllByRecursion P xs × AllByRecursion P us
split_each P [] us all = (tt, all)
split_each P (x ∷ xs) us all = (let rest = split_each P xs us all.1 in ((all.0, rest.0), rest.1))

tight_with : (pages : PageList) (want : ℕ) (places : List TreePlace) (trees : List Forest) → AllZip (HasTree pages) places trees → AllZip (λ place tree. IsHalfFullTree place.width tree) places trees
    → AllByRecursion (λ place. IsShortWidth place.width) places → AllByRecursion (IsTightItem pages) (items_with want places trees)
tight_with pages want [] trees has half short = tt
tight_with pages want (place ∷ places) [] has half short = tt
tight_with pages want (place ∷ places) (tree ∷ trees) has half short = (record { has = has.0; half = half.0; short = short.0 }, tight_with pages want places trees has.1 half.1 short.1)

times_with : (p want : ℕ) (places : List TreePlace) (trees : List Forest) (R : TreePlace → Forest → Type 0) → AllZip R places trees → sum_by (times_in p) (items_with want places trees) ≡ sum_by (times p) trees
times_with p want [] [] R all = refl
times_with p want [] (tree ∷ trees) R all = absurd all
times_with p want (place ∷ places) [] R all = absurd all
times_with p want (place ∷ places) (tree ∷ trees) R all =
    omega (arith, times_with p want places trees R all.1, sum_by-cons (times_in p) (record { place = place; tree = tree; want = want }) (items_with want places trees), sum_by-cons (times p) tree trees)

places_with : (want : ℕ) (places : List TreePlace) (trees : List Forest) (R : TreePlace → Forest → Type 0) → AllZip R places trees → item_places (items_with want places trees) ≡ places
places_with want [] [] R all = refl
places_with want [] (tree ∷ trees) R all = absurd all
places_with want (place ∷ places) [] R all = absurd all
places_with want (place ∷ places) (tree ∷ trees) R all = ap (λ more. place ∷ more) (places_with want places trees R all.1)

-- the pages that so many trees of places count
abbrev pub pages_at : ℕ → List TreePlace → ℕ
pages_at want places = sum_by (λ (place : TreePlace). pages_needed place.width want) places

counted_with : (want : ℕ) (places : List TreePlace) (trees : List Forest) → sum_by counted (items_with want places trees) ≤ pages_at want places
counted_with want [] trees = omega arith
counted_with want (place ∷ places) [] = omega arith
counted_with want (place ∷ places) (tree ∷ trees) =
    omega (
      arith,
      counted_with want places trees,
      sum_by-cons counted (record { place = place; tree = tree; want = want }) (items_with want places trees),
      sum_by-cons (λ (one : TreePlace). pages_needed one.width want) place places,
    )

-- no tree comes to have more, by what it has and what each place is added
wants_with : (changes : List SpaceChange) (want has more : ℕ) (places : List TreePlace) (trees : List Forest) → has + more ≤ want → AllByRecursion (λ tree. length (leaf_entries tree) ≤ has) trees
    → AllByRecursion (λ place. adds place.root changes ≤ more) places → KeepWants changes (items_with want places trees)
wants_with changes want has more [] trees fit entries added = tt
wants_with changes want has more (place ∷ places) [] fit entries added = tt
wants_with changes want has more (place ∷ places) (tree ∷ trees) fit entries added =
    (omega (arith, fit, entries.0, added.0), wants_with changes want has more places trees fit entries.1 added.1)

item_places-append : (xs ys : List TreeItem) → item_places (xs ++ ys) ≡ item_places xs ++ item_places ys
item_places-append [] ys = refl
item_places-append (x ∷ xs) ys = ap (λ more. x.place ∷ more) (item_places-append xs ys)

module _ (pages : PageList) (table : TableView) (is : HasTrees pages table) (blocks rows : ℕ) where
  long : length (block_places table.def) ≡ length (table.map ∷ table.composite ∷ table.dims)
  long = omega (arith, is.one_each)

  parts : AllZip (HasTree pages) (block_places table.def) (table.map ∷ table.composite ∷ table.dims) × AllZip (HasTree pages) (record_places table.def) table.indexes
  parts = split_zip (HasTree pages) (block_places table.def) (record_places table.def) (table.map ∷ table.composite ∷ table.dims) table.indexes long is.has

  pub table_tight : AllByRecursion (IsTightItem pages) (table_items blocks rows table)
  table_tight =
      let half = split_zip (λ (place : TreePlace) tree. IsHalfFullTree place.width tree) (block_places table.def) (record_places table.def) (table.map ∷ table.composite ∷ table.dims) table.indexes long is.half in
      let short = split_each (λ (place : TreePlace). IsShortWidth place.width) (block_places table.def) (record_places table.def) is.short in
      each_joined (IsTightItem pages) (items_with blocks (block_places table.def) (table.map ∷ table.composite ∷ table.dims)) (items_with rows (record_places table.def) table.indexes)
      (tight_with pages blocks (block_places table.def) (table.map ∷ table.composite ∷ table.dims) parts.0 half.0 short.0)
      (tight_with pages rows (record_places table.def) table.indexes parts.1 half.1 short.1)

  pub table_times : (p : ℕ) → sum_by (times_in p) (table_items blocks rows table) ≡ sum_by (times p) (trees_of_table table)
  table_times p =
      omega (
        arith,
        sum_by-append (times_in p) (items_with blocks (block_places table.def) (table.map ∷ table.composite ∷ table.dims)) (items_with rows (record_places table.def) table.indexes),
        times_with p blocks (block_places table.def) (table.map ∷ table.composite ∷ table.dims) (HasTree pages) parts.0,
        times_with p rows (record_places table.def) table.indexes (HasTree pages) parts.1,
        sum_by-append (times p) (table.map ∷ table.composite ∷ table.dims) table.indexes,
      )

  pub table_places : item_places (table_items blocks rows table) ≡ tree_places table.def
  table_places =
      item_places-append (items_with blocks (block_places table.def) (table.map ∷ table.composite ∷ table.dims)) (items_with rows (record_places table.def) table.indexes)
      ∙ (let first = places_with blocks (block_places table.def) (table.map ∷ table.composite ∷ table.dims) (HasTree pages) parts.0 in
      let second = places_with rows (record_places table.def) table.indexes (HasTree pages) parts.1 in cc (first, second))

pub table_counted : (blocks rows : ℕ) (table : TableView) → sum_by counted (table_items blocks rows table) ≤ pages_at blocks (block_places table.def) + pages_at rows (record_places table.def)
table_counted blocks rows table =
    omega (
      arith,
      sum_by-append counted (items_with blocks (block_places table.def) (table.map ∷ table.composite ∷ table.dims)) (items_with rows (record_places table.def) table.indexes),
      counted_with blocks (block_places table.def) (table.map ∷ table.composite ∷ table.dims),
      counted_with rows (record_places table.def) table.indexes,
    )

pub table_wants : (changes : List SpaceChange) (blocks rows used claimed filled more : ℕ) (table : TableView) → used + claimed ≤ blocks → filled + more ≤ rows
    → AllByRecursion (λ tree. length (leaf_entries tree) ≤ used) (table.map ∷ table.composite ∷ table.dims) → AllByRecursion (λ tree. length (leaf_entries tree) ≤ filled) table.indexes
    → AllByRecursion (λ place. adds place.root changes ≤ claimed) (block_places table.def) → AllByRecursion (λ place. adds place.root changes ≤ more) (record_places table.def)
    → KeepWants changes (table_items blocks rows table)
table_wants changes blocks rows used claimed filled more table fit_blocks fit_rows entries listed added filed =
    each_joined (λ (item : TreeItem). length (leaf_entries item.tree) + adds item.place.root changes ≤ item.want) (items_with blocks (block_places table.def) (table.map ∷ table.composite ∷ table.dims)) (items_with rows (record_places table.def) table.indexes)
    (wants_with changes blocks used claimed (block_places table.def) (table.map ∷ table.composite ∷ table.dims) fit_blocks entries added)
    (wants_with changes rows filled more (record_places table.def) table.indexes fit_rows listed filed)

-- ---- the trees of all tables

-- a table and the numbers of its plain one
abbrev pub Numbers : Type 0
Numbers = PlainTable → ℕ

abbrev pub items_of : Numbers → List (Option TableView) → Database → List TreeItem
items_of blocks [] db = []
items_of blocks (place ∷ places) [] = []
items_of blocks (None ∷ places) (plain ∷ db) = items_of blocks places db
items_of blocks (Some table ∷ places) (None ∷ db) = items_of blocks places db
items_of blocks (Some table ∷ places) (Some plain ∷ db) = table_items (blocks plain) (length plain.rows) table ++ items_of blocks places db

-- what stands in a place beside the plain one
abbrev pub Beside : (TableView → PlainTable → Type 0) → Option TableView → Option PlainTable → Type 0
Beside R None None = Unit {0}
Beside R (Some table) (Some plain) = R table plain
Beside R None (Some plain) = ⊥
Beside R (Some table) None = ⊥

module _ (pages : PageList) (blocks : Numbers) (R : TableView → PlainTable → Type 0) where
  pub items_tight : (places : List (Option TableView)) (db : Database) → AllZip (Beside R) places db → AllByRecursion (HasTrees pages) (tables_there places) → AllByRecursion (IsTightItem pages) (items_of blocks places db)
  items_tight [] [] all each = tt
  items_tight [] (plain ∷ db) all each = absurd all
  items_tight (place ∷ places) [] all each = absurd all
  items_tight (None ∷ places) (None ∷ db) all each = items_tight places db all.1 each
  items_tight (None ∷ places) (Some plain ∷ db) all each = absurd all.0
  items_tight (Some table ∷ places) (None ∷ db) all each = absurd all.0
  items_tight (Some table ∷ places) (Some plain ∷ db) all each =
      each_joined (IsTightItem pages) (table_items (blocks plain) (length plain.rows) table) (items_of blocks places db) (table_tight pages table each.0 (blocks plain) (length plain.rows)) (items_tight places db all.1 each.1)

  pub items_times : (p : ℕ) (places : List (Option TableView)) (db : Database) → AllZip (Beside R) places db → AllByRecursion (HasTrees pages) (tables_there places)
      → sum_by (times_in p) (items_of blocks places db) ≡ sum_by (λ table. sum_by (times p) (trees_of_table table)) (tables_there places)
  items_times p [] [] all each = refl
  items_times p [] (plain ∷ db) all each = absurd all
  items_times p (place ∷ places) [] all each = absurd all
  items_times p (None ∷ places) (None ∷ db) all each = items_times p places db all.1 each
  items_times p (None ∷ places) (Some plain ∷ db) all each = absurd all.0
  items_times p (Some table ∷ places) (None ∷ db) all each = absurd all.0
  items_times p (Some table ∷ places) (Some plain ∷ db) all each =
      omega (
        arith,
        sum_by-append (times_in p) (table_items (blocks plain) (length plain.rows) table) (items_of blocks places db),
        table_times pages table each.0 (blocks plain) (length plain.rows) p,
        items_times p places db all.1 each.1,
        sum_by-cons (λ (one : TableView). sum_by (times p) (trees_of_table one)) table (tables_there places),
      )

  -- the places of a table are among those of all
  pub items_there : (t : ℕ) (table : TableView) (places : List (Option TableView)) (db : Database) → slice_get places t ≡ Some (Some table) → AllZip (Beside R) places db → AllByRecursion (HasTrees pages) (tables_there places)
      → (place : TreePlace) → Contains (tree_places table.def) place → Contains (item_places (items_of blocks places db)) place
  items_there t table [] db at all each place there = absurd (cc)
  items_there t table (first ∷ places) [] at all each place there = absurd all
  items_there zero table (None ∷ places) (plain ∷ db) at all each place there = absurd (cc)
  items_there (suc t) table (None ∷ places) (None ∷ db) at all each place there = items_there t table places db at all.1 each place there
  items_there (suc t) table (None ∷ places) (Some plain ∷ db) at all each place there = absurd all.0
  items_there t table (Some first ∷ places) (None ∷ db) at all each place there = absurd all.0
  items_there zero table (Some first ∷ places) (Some plain ∷ db) at all each place there =
      let same = same_table first table at in
      subst (λ (ps : List TreePlace). Contains ps place) (sym (item_places-append (table_items (blocks plain) (length plain.rows) first) (items_of blocks places db)))
      (Contains-append_left (item_places (table_items (blocks plain) (length plain.rows) first)) (item_places (items_of blocks places db)) place
      (subst (λ (ps : List TreePlace). Contains ps place) (sym (table_places pages first each.0 (blocks plain) (length plain.rows))) (subst (λ (one : TableView). Contains (tree_places one.def) place) (sym same) there)))
  items_there (suc t) table (Some first ∷ places) (Some plain ∷ db) at all each place there =
      subst (λ (ps : List TreePlace). Contains ps place) (sym (item_places-append (table_items (blocks plain) (length plain.rows) first) (items_of blocks places db)))
      (Contains-append_right (item_places (table_items (blocks plain) (length plain.rows) first)) (item_places (items_of blocks places db)) place (items_there t table places db at all.1 each.1 place there))

pub items_want : (blocks : Numbers) (changes : List SpaceChange) (places : List (Option TableView)) (db : Database) → AllZip (Beside (λ table plain. KeepWants changes (table_items (blocks plain) (length plain.rows) table))) places db
    → KeepWants changes (items_of blocks places db)
items_want blocks changes [] db all = tt
items_want blocks changes (place ∷ places) [] all = tt
items_want blocks changes (None ∷ places) (plain ∷ db) all = items_want blocks changes places db all.1
items_want blocks changes (Some table ∷ places) (None ∷ db) all = items_want blocks changes places db all.1
items_want blocks changes (Some table ∷ places) (Some plain ∷ db) all =
    each_joined (λ (item : TreeItem). length (leaf_entries item.tree) + adds item.place.root changes ≤ item.want) (table_items (blocks plain) (length plain.rows) table) (items_of blocks places db) all.0 (items_want blocks changes places db all.1)

pub items_counted : (blocks f : Numbers) (places : List (Option TableView)) (db : Database)
    → AllZip (Beside (λ table plain. pages_at (blocks plain) (block_places table.def) + pages_at (length plain.rows) (record_places table.def) ≤ f plain)) places db
    → sum_by counted (items_of blocks places db) ≤ sum_of_tables f db
items_counted blocks f [] db all = omega arith
items_counted blocks f (place ∷ places) [] all = omega arith
items_counted blocks f (None ∷ places) (None ∷ db) all = items_counted blocks f places db all.1
items_counted blocks f (None ∷ places) (Some plain ∷ db) all = absurd all.0
items_counted blocks f (Some table ∷ places) (None ∷ db) all = absurd all.0
items_counted blocks f (Some table ∷ places) (Some plain ∷ db) all =
    omega (
      arith,
      sum_by-append counted (table_items (blocks plain) (length plain.rows) table) (items_of blocks places db),
      table_counted (blocks plain) (length plain.rows) table,
      all.0,
      items_counted blocks f places db all.1,
    )

pub tables_sum : (u : TableView → ℕ) (f : Numbers) (places : List (Option TableView)) (db : Database) → AllZip (Beside (λ table plain. u table ≤ f plain)) places db → sum_by u (tables_there places) ≤ sum_of_tables f db
tables_sum u f [] db all = omega arith
tables_sum u f (place ∷ places) [] all = absurd all
tables_sum u f (None ∷ places) (None ∷ db) all = tables_sum u f places db all.1
tables_sum u f (None ∷ places) (Some plain ∷ db) all = absurd all.0
tables_sum u f (Some table ∷ places) (None ∷ db) all = absurd all.0
tables_sum u f (Some table ∷ places) (Some plain ∷ db) all = omega (arith, all.0, tables_sum u f places db all.1, sum_by-cons u table (tables_there places))

-- ---- the blocks of all tables

-- each block is one of a table that is there
pub blocks_of_tables : (tables : List TableView) (owners : List Kind) → ((e t : ℕ) → e < length owners → owner_of owners e ≡ Block t → 1 ≤ sum_by (λ table. one_if (is_own table.def.number (Block t))) tables)
    → block_extents owners ≤ sum_by (λ table. count_by (is_own table.def.number) owners) tables
blocks_of_tables tables [] there = omega arith
blocks_of_tables tables (kind ∷ owners) there =
    let split : sum_by (λ table. count_by (is_own table.def.number) (kind ∷ owners)) tables ≡ sum_by (λ table. one_if (is_own table.def.number kind) + count_by (is_own table.def.number) owners) tables =
    sum_ext (λ (table : TableView). count_by (is_own table.def.number) (kind ∷ owners)) (λ (table : TableView). one_if (is_own table.def.number kind) + count_by (is_own table.def.number) owners) tables
    (λ table. sum_by-cons (λ k. one_if (is_own table.def.number k)) kind owners) in
    omega (
      arith,
      split,
      sum_by-plus (λ (table : TableView). one_if (is_own table.def.number kind)) (λ (table : TableView). count_by (is_own table.def.number) owners) tables,
      sum_by-cons (λ k. one_if (is_block_kind k)) kind owners,
      first kind refl,
      blocks_of_tables tables owners (λ e t low is. there (suc e) t (omega (arith, low)) is),
    )
  where
    sum_ext : (f g : TableView → ℕ) (xs : List TableView) → ((x : TableView) → f x ≡ g x) → sum_by f xs ≡ sum_by g xs
    sum_ext f g [] same = refl
    sum_ext f g (x ∷ xs) same = omega (arith, same x, sum_ext f g xs same, sum_by-cons f x xs, sum_by-cons g x xs)

    first : (k : Kind) → kind ≡ k → one_if (is_block_kind kind) ≤ sum_by (λ table. one_if (is_own table.def.number kind)) tables
    first Free is = omega (arith, ap (λ k. one_if (is_block_kind k)) is)
    first (Index used) is = omega (arith, ap (λ k. one_if (is_block_kind k)) is)
    first (Block t) is =
        omega (arith, ap (λ k. one_if (is_block_kind k)) is, there 0 t (omega arith) is, ap (λ k. sum_by (λ (table : TableView). one_if (is_own table.def.number k)) tables) is)
