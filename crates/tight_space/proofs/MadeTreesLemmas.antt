-- A CREATE TABLE or a CREATE INDEX that runs full on a tight database.
use Rattle.std.proofs.Common.{◌≡◌, ◌<◌, ◌≤◌, ◌+◌, ◌*◌, ℕ, zero, suc, Some, None, List, [], ◌∷◌, ◌++◌, length, map, set, refl, ap, arith, sym, subst, ◌∙◌, inl, inr}
use Rattle.std.specs.Prelude.{Contains, flat_map, slice_get, sum_by, zip}
use Rattle.std.specs.Int.{div_ceil}
use Rattle.std.specs.List.{AllByRecursion, FoldsTo}
use Rattle.std.proofs.lemmas.Bool.{cases_eq}
use Rattle.std.proofs.lemmas.List.{length-map}
use Rattle.std.proofs.lemmas.List.Sorted.{length_permutation}
use Rattle.std.proofs.lemmas.List.Sums.{sum_by-append, sum_by-cons}
use Rattle.std.proofs.lemmas.Option.{same_Some}
use Rattle.mdc_ast.specs.Database.{Database, PlainTable, changed_at, with_place}
use Rattle.mdc_ast.specs.Definitions.{with_index}
use Rattle.mdc_ast.specs.declared.definition.IndexDef.{IndexDef}
use Rattle.mdc_ast.specs.declared.definition.TableDef.{TableDef}
use Rattle.store_api.specs.Format.{first_format}
use Rattle.store_api.specs.declared.shape.Shape.{Shape}
use Rattle.extent_map.specs.Map.{HoldsMap}
use Rattle.extent_map.specs.Owners.{IsUsedPage}
use Rattle.extent_map.specs.declared.kind.Kind.{Kind}
use Rattle.extent_map.proofs.ExtentsLemmas.{extent_limits}
use Rattle.extent_map.proofs.LawsOfTheMap.{one_map}
use Rattle.extent_map.proofs.UsedPagesLemmas.{claimable-not_used}
use Rattle.key_codec.specs.Keys.{ArePartsOf, width_of_parts}
use Rattle.entry_tree.specs.Forest.{Forest, once, times}
use Rattle.entry_tree.proofs.ForestLemmas.{once_other, once_same}
use Rattle.table_trees.specs.SpaceChanges.{AsksTooMuch, MakesChange, RunsFull, SpaceChange}
use Rattle.table_trees.specs.SpaceChanges.SpaceChange.{AddEntry, MakeTree}
use Rattle.table_trees.specs.TableTrees.{TreePlace, cell_parts, composite_place, dimension_place, dimension_places, map_place, record_entry, record_place, rising_parts, tree_places}
use Rattle.table_trees.specs.ToldPages.{HasTree, PageList, told_pages}
use Rattle.table_trees.proofs.ExtentCountsLemmas.{lowest-claimable}
use Rattle.mdc_sound.specs.Placing.{Spot, rows_from_spot, table_spots}
use Rattle.mdc_sound.specs.RunningFull.{CreateRunsFull, IndexRunsFull, creating_changes, indexing_changes}
use Rattle.mdc_sound.specs.SoundDatabase.{KeepAllRules}
use Rattle.mdc_sound.specs.SpaceRules.{DatabaseView, times_in_trees}
use Rattle.mdc_sound.specs.StandsForDatabase.{PagesStandFor, rootless}
use Rattle.mdc_sound.specs.TableRows.{PlacedRow}
use Rattle.mdc_sound.specs.TableViews.{TableView, trees_of_table}
use Rattle.mdc_sound.specs.TightPages.{AreTightPages, index_pages_needed, need, pages_needed, sum_of_tables, table_blocks}
use Rattle.mdc_sound.proofs.SpaceRulesLemmas.{there_at, there_sum, used_or_not}
use Rattle.mdc_sound.proofs.StandsForLemmas.{one_tree_at}
use Rattle.tight_space.specs.PuttingChanges.{ArePutting, IsShortWidth}
use Rattle.tight_space.proofs.CellBlocksLemmas.{ceil_mono}
use Rattle.tight_space.proofs.DatabaseItemsLemmas.{HasTrees}
use Rattle.tight_space.proofs.FullStatementsLemmas.{IsPlain, beside_all, maps_there, plains, rows_same, wanted_apart}
use Rattle.tight_space.proofs.TightChainsLemmas.{adds, adds_by, claims, claims_by, made_sum}
use Rattle.tight_space.proofs.TightDatabaseLemmas.{Wanted, beyond, block_width, extents, has_trees, map_short, root_there, roots_most, row_width}
use Rattle.tight_space.proofs.TightSpotsLemmas.{all_rows, all_rows_placed}
use Rattle.tight_space.proofs.TreeSizesLemmas.{pages_needed-mono}

-- ---- lists

-- a table more
sum_entered : (f : PlainTable → ℕ) (db : Database) (place : ℕ) (new : PlainTable) → slice_get db place ≡ Some None → sum_of_tables f (set db place (Some new)) ≡ sum_of_tables f db + f new
sum_entered f [] place new at = absurd (cc)
sum_entered f (None ∷ db) zero new at = omega arith
sum_entered f (Some table ∷ db) zero new at = absurd (cc)
sum_entered f (None ∷ db) (suc place) new at = sum_entered f db place new at
sum_entered f (Some table ∷ db) (suc place) new at = omega (arith, sum_entered f db place new at)

-- a table that counts otherwise
sum_changed : (f : PlainTable → ℕ) (db : Database) (place : ℕ) (change : PlainTable → PlainTable) (table : PlainTable) → slice_get db place ≡ Some (Some table)
    → sum_of_tables f (changed_at db place change) + f table ≡ sum_of_tables f db + f (change table)
sum_changed f [] place change table at = absurd (cc)
sum_changed f (None ∷ db) zero change table at = absurd (cc)
sum_changed f (Some first ∷ db) zero change table at = (let same : first ≡ table = same_Some first table (same_Some (Some first) (Some table) at) in omega (arith, ap f same, ap (λ (t : PlainTable). f (change t)) same))
sum_changed f (None ∷ db) (suc place) change table at = sum_changed f db place change table at
sum_changed f (Some first ∷ db) (suc place) change table at = omega (arith, sum_changed f db place change table at)

-- ---- trees that are made and nothing is added to

no_adds : (root : ℕ) (places : List TreePlace) → adds root (map MakeTree places) ≡ 0
no_adds root [] = refl
no_adds root (place ∷ places) = omega (arith, no_adds root places, sum_by-cons (adds_by root) (MakeTree place) (map MakeTree places))

no_claims : (places : List TreePlace) → claims (map MakeTree places) ≡ 0
no_claims [] = refl
no_claims (place ∷ places) = omega (arith, no_claims places, sum_by-cons claims_by (MakeTree place) (map MakeTree places))

pub makes_put : (all places : List TreePlace) → AllByRecursion (λ (place : TreePlace). IsShortWidth place.width) places → ArePutting all (map MakeTree places)
makes_put all [] short = tt
makes_put all (place ∷ places) short = (short.0, makes_put (place ∷ all) places short.1)

made_dims : (def : TableDef) (dims : List (List ℕ)) (roots : List ℕ)
    → made_sum (map MakeTree (map (λ pair. dimension_place def pair.0 pair.1) (zip dims roots))) ≤ sum_by (λ dim. pages_needed (width_of_parts def.columns (rising_parts dim) + 4) 0) dims
made_dims def [] roots = omega arith
made_dims def (dim ∷ dims) [] = omega arith
made_dims def (dim ∷ dims) (root ∷ roots) =
    omega (
      arith,
      made_dims def dims roots,
      sum_by-cons (λ d. pages_needed (width_of_parts def.columns (rising_parts d) + 4) 0) dim dims,
      ap (pages_needed (width_of_parts def.columns (rising_parts dim) + 4)) (no_adds root (map (λ pair. dimension_place def pair.0 pair.1) (zip dims roots))),
    )

dims_short : (def : TableDef) (dims : List (List ℕ)) (roots : List ℕ) → AllByRecursion (λ dim. ArePartsOf def.columns (rising_parts dim)) dims
    → AllByRecursion (λ (place : TreePlace). IsShortWidth place.width) (map (λ pair. dimension_place def pair.0 pair.1) (zip dims roots))
dims_short def [] roots all = tt
dims_short def (dim ∷ dims) [] all = tt
dims_short def (dim ∷ dims) (root ∷ roots) all = (block_width def.columns (rising_parts dim) all.0, dims_short def dims roots all.1)

-- ---- on a tight database

module _ (shape : Shape) (pages : PageList) (view : DatabaseView) (sound : KeepAllRules shape pages view) (tight : AreTightPages shape pages view) where
  -- no blocks are claimed
  abbrev no_claim : TableView → ℕ
  no_claim table = 0

  -- changes that claim no block and add to no tree that there is
  made_beyond : (changes : List SpaceChange) (db : Database) → PagesStandFor shape pages db → claims changes ≡ 0
      → ((t : ℕ) (table : TableView) → slice_get view.places t ≡ Some (Some table) → (place : TreePlace) → Contains (tree_places table.def) place → adds place.root changes ≡ 0)
      → ((places : List TreePlace) → ArePutting places changes) → RunsFull shape pages changes
      → shape.extents < sum_of_tables (table_blocks shape) db + div_ceil (sum_of_tables (λ table. index_pages_needed (table_blocks shape table) table) db + made_sum changes) shape.extent_pages
  made_beyond changes db stands none apart putting full =
      beyond shape pages view sound tight changes no_claim db
      (beside_all (IsPlain shape pages) (Wanted shape pages view sound tight changes no_claim) view.places db (plains shape pages view sound tight db stands)
      (λ t table plain at is. wanted_apart shape pages view sound tight t table at changes no_claim plain is refl (λ place there. apart t table at place there)))
      (omega (arith, none)) (λ places there. putting places) full

  -- ---- a CREATE TABLE

  pub create_beyond : (db : Database) (place : ℕ) (def now : TableDef) → PagesStandFor shape pages db → slice_get db place ≡ Some None → ArePartsOf def.columns (cell_parts def)
      → AllByRecursion (λ dim. ArePartsOf def.columns (rising_parts dim)) def.dims → now.columns ≡ def.columns → now.dims ≡ def.dims → CreateRunsFull shape pages def
      → shape.extents < need shape (with_place db place (Some (record { def = now; rows = [] })))
  create_beyond db place def now stands free composite dims columns_are dims_are full =
      let rooted = record def { roots = full.0 } in
      let changes = creating_changes rooted in
      let new : PlainTable = record { def = now; rows = [] } in
      let more = dimension_places rooted in
      let no_add : (root : ℕ) → adds root changes ≡ 0 = λ root. no_adds root (map_place rooted ∷ composite_place rooted ∷ more) in
      let short = made_beyond changes db stands (no_claims (map_place rooted ∷ composite_place rooted ∷ more)) (λ t table at one there. no_add one.root)
      (λ places. (map_short, (block_width def.columns (cell_parts def) composite, makes_put (composite_place rooted ∷ map_place rooted ∷ places) more (dims_short rooted def.dims full.0.dims dims)))) full.1 in
      let made : made_sum changes ≤ pages_needed first_format.map_width 0 + pages_needed (width_of_parts def.columns (cell_parts def) + 4) 0 + sum_by (λ dim. pages_needed (width_of_parts def.columns (rising_parts dim) + 4) 0) def.dims =
      omega (
        arith,
        made_dims rooted def.dims full.0.dims,
        ap (pages_needed first_format.map_width) (no_adds full.0.map (composite_place rooted ∷ more)),
        ap (pages_needed (width_of_parts def.columns (cell_parts def) + 4)) (no_adds full.0.composite more),
      ) in
      let counts : made_sum changes ≤ index_pages_needed (table_blocks shape new) new =
      new_counts made in
      omega (
        arith,
        short,
        sum_entered (table_blocks shape) db place new free,
        ceil_mono shape.extent_pages (sum_of_tables (λ table. index_pages_needed (table_blocks shape table) table) db + made_sum changes)
            (sum_of_tables (λ table. index_pages_needed (table_blocks shape table) table) (set db place (Some new))) (omega (arith, (extent_limits shape).0))
            (omega (arith, counts, sum_entered (λ table. index_pages_needed (table_blocks shape table) table) db place new free)),
      )
    where
      new_counts : {made : ℕ} → made ≤ pages_needed first_format.map_width 0 + pages_needed (width_of_parts def.columns (cell_parts def) + 4) 0 + sum_by (λ dim. pages_needed (width_of_parts def.columns (rising_parts dim) + 4) 0) def.dims
          → made ≤ index_pages_needed (table_blocks shape (record { def = now; rows = [] })) (record { def = now; rows = [] })
      new_counts le =
          let cs : width_of_parts now.columns (cell_parts now) ≡ width_of_parts def.columns (cell_parts def) =
          ap (λ (columns : _). width_of_parts columns (cell_parts now)) columns_are ∙ ap (λ (ds : _). width_of_parts def.columns (rising_parts (flat_map (λ dim. dim) ds))) dims_are in
          let ds : sum_by (λ dim. pages_needed (width_of_parts now.columns (rising_parts dim) + 4) 0) now.dims ≡ sum_by (λ dim. pages_needed (width_of_parts def.columns (rising_parts dim) + 4) 0) def.dims =
          ap (λ (columns : _). sum_by (λ dim. pages_needed (width_of_parts columns (rising_parts dim) + 4) 0) now.dims) columns_are ∙ ap (λ (all : _). sum_by (λ dim. pages_needed (width_of_parts def.columns (rising_parts dim) + 4) 0) all) dims_are in
          omega (arith, le, ap (λ (w : ℕ). pages_needed (w + 4) 0) cs, ds)

  -- ---- a CREATE INDEX

  index_adds : (def : TableDef) (index : IndexDef) (root : ℕ) (rows : List PlacedRow)
      → adds root (map (λ placed. AddEntry (record_place def index) (record_entry def.columns index.parts placed.row.values placed.rid)) rows) ≡ once root index.root * length rows
  index_adds def index root [] = omega arith
  index_adds def index root (placed ∷ rows) =
      let product : once root index.root * suc (length rows) ≡ once root index.root + once root index.root * length rows = omega arith in
      omega (
        arith,
        product,
        index_adds def index root rows,
        sum_by-cons (adds_by root) (AddEntry (record_place def index) (record_entry def.columns index.parts placed.row.values placed.rid))
            (map (λ (p : PlacedRow). AddEntry (record_place def index) (record_entry def.columns index.parts p.row.values p.rid)) rows),
      )

  index_claims : (def : TableDef) (index : IndexDef) (rows : List PlacedRow)
      → claims (map (λ placed. AddEntry (record_place def index) (record_entry def.columns index.parts placed.row.values placed.rid)) rows) ≡ 0
  index_claims def index [] = refl
  index_claims def index (placed ∷ rows) =
      omega (
        arith,
        index_claims def index rows,
        sum_by-cons claims_by (AddEntry (record_place def index) (record_entry def.columns index.parts placed.row.values placed.rid))
            (map (λ (p : PlacedRow). AddEntry (record_place def index) (record_entry def.columns index.parts p.row.values p.rid)) rows),
      )

  index_made : (def : TableDef) (index : IndexDef) (rows : List PlacedRow)
      → made_sum (map (λ placed. AddEntry (record_place def index) (record_entry def.columns index.parts placed.row.values placed.rid)) rows) ≡ 0
  index_made def index [] = refl
  index_made def index (placed ∷ rows) = omega (arith, index_made def index rows)

  pub index_puts : (def : TableDef) (index : IndexDef) (rows : List PlacedRow) (places : List TreePlace) → Contains places (record_place def index)
      → ArePutting places (map (λ placed. AddEntry (record_place def index) (record_entry def.columns index.parts placed.row.values placed.rid)) rows)
  index_puts def index [] places there = tt
  index_puts def index (placed ∷ rows) places there = (there, index_puts def index rows places there)

  -- the root of a tree that was made there isn't that of another
  other_root : (old new : PageList) (made : TreePlace) → old ≡ pages → MakesChange shape old (MakeTree made) new → (t : ℕ) (table : TableView) → slice_get view.places t ≡ Some (Some table)
      → (place : TreePlace) → Contains (tree_places table.def) place → once place.root made.root ≡ 0
  other_root old new made same m t table at place there = elim (cases_eq place.root made.root) [
    | inr other ↦ once_other place.root made.root other
    | inl is ↦ (
        let kinds : m.old_owners ≡ view.owners = one_map m.old_map (subst (λ (ps : PageList). HoldsMap told_pages shape ps view.owners) (sym same) (extents shape pages view sound tight)) in
        let p = made.root in
        let some : 1 ≤ times_in_trees place.root view =
        omega (
          arith,
          there_sum (λ (one : TableView). sum_by (times place.root) (trees_of_table one)) view.places t table at,
          roots_most pages place.root (tree_places table.def) (trees_of_table table) (there_at (HasTrees pages) view.places t table at (has_trees shape pages view sound tight)).has,
          root_there place (tree_places table.def) there,
        ) in
        let used : IsUsedPage shape view.owners place.root = elim (used_or_not shape view.owners place.root) [ inl used ↦ used | inr unused ↦ absurd (omega (arith, some, (sound.first.rule5 place.root).others unused)) ] in
        absurd (claimable-not_used shape m.old_owners p (lowest-claimable shape m.old_owners p m.effect.1) (subst (λ (ks : List Kind). IsUsedPage shape ks p) (sym kinds) (subst (IsUsedPage shape view.owners) is used))))
  ]

  -- a database with an index more on one table
  needs : (all : Database) (u : ℕ) (one : PlainTable) (it : IndexDef) (f : PlainTable → PlainTable) → slice_get all u ≡ Some (Some one) → ((other : PlainTable) → f other ≡ record other { def = with_index other.def it })
      → (d : TableDef) → one.def ≡ rootless d → (k : ℕ) → k ≤ pages_needed (width_of_parts d.columns it.parts + 6) (length one.rows)
      → shape.extents < sum_of_tables (table_blocks shape) all + div_ceil (sum_of_tables (λ table. index_pages_needed (table_blocks shape table) table) all + k) shape.extent_pages → shape.extents < need shape (changed_at all u f)
  needs all u one it f there are d is_def k most less =
      let now : PlainTable = record one { def = with_index one.def it } in
      let counts : index_pages_needed (table_blocks shape now) now ≡ index_pages_needed (table_blocks shape one) one + pages_needed (width_of_parts one.def.columns it.parts + 6) (length one.rows) =
      omega (arith, sum_by-append (λ (i : IndexDef). pages_needed (width_of_parts one.def.columns i.parts + 6) (length one.rows)) one.def.indexes (it ∷ []), sum_by-cons (λ (i : IndexDef). pages_needed (width_of_parts one.def.columns i.parts + 6) (length one.rows)) it []) in
      let columns = ap (λ (e : TableDef). pages_needed (width_of_parts e.columns it.parts + 6) (length one.rows)) is_def in
      omega (
        arith,
        less,
        sum_changed (table_blocks shape) all u f one there,
        ap (table_blocks shape) (are one),
        ceil_mono shape.extent_pages (sum_of_tables (λ table. index_pages_needed (table_blocks shape table) table) all + k) (sum_of_tables (λ table. index_pages_needed (table_blocks shape table) table) (changed_at all u f)) (omega (arith, (extent_limits shape).0))
            (omega (arith, sum_changed (λ table. index_pages_needed (table_blocks shape table) table) all u f one there, ap (λ (t : PlainTable). index_pages_needed (table_blocks shape t) t) (are one), counts, columns, most)),
      )

  -- what the tree of an index counts, of which more is asked for than is free
  pub record CountsTree (db : Database) (width rows : ℕ) : Type 0 where
    pub counts : ℕ
    pub most : counts ≤ pages_needed width rows
    pub short : shape.extents < sum_of_tables (table_blocks shape) db + div_ceil (sum_of_tables (λ table. index_pages_needed (table_blocks shape table) table) db + counts) shape.extent_pages

  module _ (db : Database) (stands : PagesStandFor shape pages db) (def : TableDef) (made : IndexDef) (rows : List PlacedRow) (short : IsShortWidth (record_place def made).width) where
    abbrev place : TreePlace
    place = record_place def made

    abbrev entries : List SpaceChange
    entries = map (λ (placed : PlacedRow). AddEntry place (record_entry def.columns made.parts placed.row.values placed.rid)) rows

    first_full : (next : SpaceChange) (rest : List SpaceChange) (reached : PageList) → MakeTree place ∷ entries ≡ next ∷ rest → pages ≡ reached → AsksTooMuch shape reached next → CountsTree db place.width (length rows)
    first_full next rest reached split goes asks =
        let first : MakeTree place ≡ next = cc in
        let full : RunsFull shape pages (MakeTree place ∷ []) = record { done = []; next = MakeTree place; rest = []; reached = reached; split = refl; goes = goes; short = subst (AsksTooMuch shape reached) (sym first) asks } in record {
          counts = made_sum (MakeTree place ∷ []);
          most = omega (arith, pages_needed-mono place.width 0 (length rows) short (omega arith));
          short = made_beyond (MakeTree place ∷ []) db stands refl (λ t table at one there. refl) (λ places. (short, tt)) full;
        }

    later_full : (change : SpaceChange) (mid : PageList) → MakesChange shape pages change mid → change ≡ MakeTree place → RunsFull shape pages (MakeTree place ∷ entries) → CountsTree db place.width (length rows)
    later_full change mid m is full =
        let makes = subst (λ (c : SpaceChange). MakesChange shape pages c mid) is m in
        let one : once made.root made.root * length rows ≡ length rows = ap (λ (n : ℕ). n * length rows) (once_same made.root) ∙ omega arith in
        let added : adds made.root entries ≡ length rows = index_adds def made made.root rows ∙ one in record {
          counts = made_sum (MakeTree place ∷ entries);
          most = omega (arith, ap (pages_needed place.width) added, index_made def made rows);
          short = made_beyond (MakeTree place ∷ entries) db stands (omega (arith, index_claims def made rows, sum_by-cons claims_by (MakeTree place) entries))
              (λ t table at other there. (
              let none : once other.root made.root * length rows ≡ 0 = ap (λ (n : ℕ). n * length rows) (other_root pages mid place refl makes t table at other there) ∙ omega arith in
              omega (arith, index_adds def made other.root rows, none, sum_by-cons (adds_by other.root) (MakeTree place) entries)))
              (λ places. (short, index_puts def made rows (place ∷ places) (0, omega arith, refl))) full;
        }

    index_full : RunsFull shape pages (indexing_changes def made rows) → CountsTree db place.width (length rows)
    index_full full = go full.done full.split full.goes
      where
        go : (done : List SpaceChange) → MakeTree place ∷ entries ≡ done ++ full.next ∷ full.rest → FoldsTo (MakesChange shape) pages done full.reached → CountsTree db place.width (length rows)
        go [] split goes = first_full full.next full.rest full.reached split goes full.short
        go (change ∷ done) split goes = (let is : change ≡ MakeTree place = cc in later_full change goes.0 goes.1 is full)

  pub index_beyond : (db : Database) (t : ℕ) (table : TableView) (plain : PlainTable) (index : IndexDef) (change : PlainTable → PlainTable) → slice_get view.places t ≡ Some (Some table) → slice_get db t ≡ Some (Some plain)
      → IsPlain shape pages table plain → PagesStandFor shape pages db → ArePartsOf table.def.columns index.parts → ((one : PlainTable) → change one ≡ record one { def = with_index one.def index })
      → IndexRunsFull shape pages table.def index → shape.extents < need shape (changed_at db t change)
  index_beyond db t table plain index change at there is stands parts changes_are full =
      let def = table.def in
      let kinds : full.shows.owners ≡ view.owners = one_map full.shows.has_extents (extents shape pages view sound tight) in
      let maps : full.shows.map_tree ≡ table.map = one_tree_at pages (map_place def) full.shows.map_tree table.map full.shows.has_map (there_at (λ (one : TableView). HasTree pages (map_place one.def) one.map) view.places t table at (maps_there shape pages view sound tight)) in
      let spots : full.spots ≡ table_spots shape pages def view.owners table.map = full.shows.spots_are ∙ (ap (λ (os : List Kind). table_spots shape pages def os full.shows.map_tree) kinds ∙ ap (λ (m : Forest). table_spots shape pages def view.owners m) maps) in
      let rows : length full.rows ≡ length plain.rows =
      omega (
        arith,
        length_permutation full.rows (rows_from_spot 0 full.spots) full.same_rows,
        ap (λ (s : List Spot). length (rows_from_spot 0 s)) spots,
        length-map (rows_from_spot 0 (table_spots shape pages def view.owners table.map)) (λ (p : PlacedRow). p.row),
        ap length (all_rows_placed 0 (table_spots shape pages def view.owners table.map)),
        length_permutation (all_rows (table_spots shape pages def view.owners table.map)) plain.rows (rows_same shape pages view sound tight t table at plain is),
      ) in
      let tree = index_full db stands def (record index { root = full.root }) full.rows (row_width def.columns index.parts parts) full.full in
      needs db t plain index change there changes_are def is.def_is tree.counts (omega (arith, tree.most, ap (pages_needed (width_of_parts def.columns index.parts + 6)) rows)) tree.short
