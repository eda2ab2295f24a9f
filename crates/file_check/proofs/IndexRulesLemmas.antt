-- Rules 10 and 11 are that the indexes of a kind of all tables are sound.
use Rattle.std.proofs.Common.{◌≡◌, ◌<◌, ◌⊎◌, ℕ, zero, suc, List, [], ◌∷◌, ◌++◌, refl, sym, ap, subst, ◌∙◌, arith, length, inl, inr}
use Rattle.std.specs.Prelude.{Contains, Option, Some, map, slice_get, zip}
use Rattle.std.specs.List.{AllByRecursion, AllZip}
use Rattle.mdc_ast.specs.declared.definition.IndexDef.{IndexDef}
use Rattle.mdc_ast.specs.declared.definition.TableDef.{TableDef}
use Rattle.mdc_ast.specs.Definitions.{Definitions}
use Rattle.store_api.specs.declared.shape.Shape.{Shape}
use Rattle.key_codec.specs.Keys.{width_of_parts}
use Rattle.node_page.specs.Node.{number_within}
use Rattle.entry_tree.specs.Forest.{Forest, leaf_entries}
use Rattle.block_map.specs.MapLines.{pending_blocks}
use Rattle.block_map.proofs.MapLinesLemmas.{contains_cases, contains_more}
use Rattle.table_trees.specs.TableTrees.{TreePlace, cell_parts, composite_place, dimension_place, dimension_places, map_place, record_place, record_places, rising_parts, tree_places}
use Rattle.table_trees.specs.ToldPages.{HasTree, PageList}
use Rattle.mdc_sound.specs.BlockRules.{AreBlockIndexesSound, AreSoundIndexes, AreTableBlockIndexesSound, AreTableIndexesSound, IsBlockIndexSound, IsSoundIndex, entry_of_block, entry_of_row}
use Rattle.mdc_sound.specs.Breaks.{BreaksRule}
use Rattle.mdc_sound.specs.SpaceRules.{DatabaseView, tables_there}
use Rattle.mdc_sound.specs.TablePages.{DefinesTable}
use Rattle.mdc_sound.specs.TableRows.{rows_in_table}
use Rattle.mdc_sound.specs.TableViews.{TableView, trees_of_table}
use Rattle.mdc_sound.proofs.ElementsLemmas.{each_in, from_map, in_map}
use Rattle.mdc_sound.proofs.SpaceRulesLemmas.{each_there, there_at}
use Rattle.mdc_sound.proofs.StandsForLemmas.{one_tree_at}
use Rattle.file_check.specs.Judging.{BreaksAny, JudgesEach, JudgesRule}
use Rattle.file_check.specs.Known.{ViewHasCells}
use Rattle.file_check.specs.RulesOfTables.{BreaksTableRule, KeepsTableRule}
use Rattle.file_check.specs.declared.table_rule.TableRule.TheVariants.{Index}
use Rattle.file_check.proofs.JudgingLemmas.{breaks_any-member, judges_as, member-breaks_any}
use Rattle.file_check.proofs.KnownTablesLemmas.{defined_is_viewed, member_is_placed, viewed_is_defined}
use Rattle.file_check.proofs.TableJudgingLemmas.{each_of}
use Rattle.file_check.specs.declared.table_index.IndexKind.{IndexKind}
use Rattle.file_check.specs.declared.table_index.IndexKind.TheVariants.{Blocks, Rows}
use Rattle.file_check.specs.TableIndexes.{BreaksPlace, IsPlaceSound, IsSoundTree, PlacedIndex, index_of_dimension, indexes_of_kind}

-- ---- one index, in the words of the rules

module _ (shape : Shape) (pages : PageList) (def : TableDef) (map_tree : Forest) (index : PlacedIndex) (tree : Forest) where
  pub block_index_of : IsSoundTree Blocks shape pages def map_tree index tree → IsBlockIndexSound def (rows_in_table shape pages def map_tree) index.parts tree
  block_index_of sound =
      let rows = rows_in_table shape pages def map_tree in
      record {
        has = each_in (λ placed. Contains (leaf_entries tree) (entry_of_block def index.parts placed)) rows
            (λ placed there. sound.has (entry_of_block def index.parts placed) (in_map (entry_of_block def index.parts) rows placed there));
        only = each_in (Contains (map (entry_of_block def index.parts) rows)) (leaf_entries tree) (λ entry there. no_spare (Contains (map (entry_of_block def index.parts) rows) entry) (number_within (width_of_parts def.columns index.parts) 4 entry) (sound.only entry there));
      }
    where
      no_spare : (X : Type 0) (n : ℕ) → X ⊎ Contains [] n → X
      no_spare X n (inl wanted) = wanted
      no_spare X n (inr (k, low, at)) = absurd (omega (arith, low))

  pub of_block_index : IsBlockIndexSound def (rows_in_table shape pages def map_tree) index.parts tree → IsSoundTree Blocks shape pages def map_tree index tree
  of_block_index sound =
      let rows = rows_in_table shape pages def map_tree in
      record {
        has = λ entry wanted.
            let row = from_map (entry_of_block def index.parts) rows entry wanted in
            subst (Contains (leaf_entries tree)) row.2 (each_of (λ placed. Contains (leaf_entries tree) (entry_of_block def index.parts placed)) rows row.0 sound.has row.1);
        only = λ entry there. inl (each_of (Contains (map (entry_of_block def index.parts) rows)) (leaf_entries tree) entry sound.only there);
      }

module _ (shape : Shape) (pages : PageList) (def : TableDef) (map_tree : Forest) (index : IndexDef) (tree : Forest) where
  pub record_index_of : IsSoundTree Rows shape pages def map_tree (record { place = record_place def index; parts = index.parts }) tree
      → IsSoundIndex def (rows_in_table shape pages def map_tree) (pending_blocks map_tree) index tree
  record_index_of sound =
      let rows = rows_in_table shape pages def map_tree in
      record {
        has = each_in (λ placed. Contains (leaf_entries tree) (entry_of_row def index placed)) rows
            (λ placed there. sound.has (entry_of_row def index placed) (in_map (entry_of_row def index) rows placed there));
        only = each_in _ (leaf_entries tree) (λ entry there. sound.only entry there);
      }

  pub of_record_index : IsSoundIndex def (rows_in_table shape pages def map_tree) (pending_blocks map_tree) index tree
      → IsSoundTree Rows shape pages def map_tree (record { place = record_place def index; parts = index.parts }) tree
  of_record_index sound =
      let rows = rows_in_table shape pages def map_tree in
      record {
        has = λ entry wanted.
            let row = from_map (entry_of_row def index) rows entry wanted in
            subst (Contains (leaf_entries tree)) row.2 (each_of (λ placed. Contains (leaf_entries tree) (entry_of_row def index placed)) rows row.0 sound.has row.1);
        only = λ entry there. each_of _ (leaf_entries tree) entry sound.only there;
      }

-- ---- all indexes of a table

dimensions_of : (shape : Shape) (pages : PageList) (def : TableDef) (map_tree : Forest) (dims : List (List ℕ)) (roots : List ℕ) (trees more : List Forest) (rest : List TreePlace)
    → length roots ≡ length dims → length trees ≡ length dims → AllZip (HasTree pages) (map (λ pair. dimension_place def pair.0 pair.1) (zip dims roots) ++ rest) (trees ++ more)
    → AllByRecursion (IsPlaceSound Blocks shape pages def map_tree) (map (index_of_dimension def) (zip dims roots))
    → AllZip (λ dim tree. IsBlockIndexSound def (rows_in_table shape pages def map_tree) (rising_parts dim) tree) dims trees
dimensions_of shape pages def map_tree [] roots [] more rest one_each as_many stand sound = tt
dimensions_of shape pages def map_tree [] roots (tree ∷ trees) more rest one_each as_many stand sound = absurd (omega (arith, as_many))
dimensions_of shape pages def map_tree (dim ∷ dims) [] trees more rest one_each as_many stand sound = absurd (omega (arith, one_each))
dimensions_of shape pages def map_tree (dim ∷ dims) (root ∷ roots) [] more rest one_each as_many stand sound = absurd (omega (arith, as_many))
dimensions_of shape pages def map_tree (dim ∷ dims) (root ∷ roots) (tree ∷ trees) more rest one_each as_many stand sound = (
  block_index_of shape pages def map_tree (index_of_dimension def (dim, root)) tree (sound.0 tree stand.0),
  dimensions_of shape pages def map_tree dims roots trees more rest (omega (arith, one_each)) (omega (arith, as_many)) stand.1 sound.1,
)

-- the trees behind those of the dimensions
pub behind_dimensions : (pages : PageList) (first rest : List TreePlace) (trees more : List Forest) → length trees ≡ length first → AllZip (HasTree pages) (first ++ rest) (trees ++ more) → AllZip (HasTree pages) rest more
behind_dimensions pages [] rest [] more as_many stand = stand
behind_dimensions pages [] rest (tree ∷ trees) more as_many stand = absurd (omega (arith, as_many))
behind_dimensions pages (place ∷ first) rest [] more as_many stand = absurd (omega (arith, as_many))
behind_dimensions pages (place ∷ first) rest (tree ∷ trees) more as_many stand = behind_dimensions pages first rest trees more (omega (arith, as_many)) stand.1

pub length-dimension_places : (def : TableDef) (dims : List (List ℕ)) (roots : List ℕ) → length roots ≡ length dims → length (map (λ pair. dimension_place def pair.0 pair.1) (zip dims roots)) ≡ length dims
length-dimension_places def [] roots one_each = refl
length-dimension_places def (dim ∷ dims) [] one_each = absurd (omega (arith, one_each))
length-dimension_places def (dim ∷ dims) (root ∷ roots) one_each = ap suc (length-dimension_places def dims roots (omega (arith, one_each)))

records_of : (shape : Shape) (pages : PageList) (def : TableDef) (map_tree : Forest) (indexes : List IndexDef) (trees : List Forest) → AllZip (HasTree pages) (map (record_place def) indexes) trees
    → AllByRecursion (IsPlaceSound Rows shape pages def map_tree) (map (λ index. record { place = record_place def index; parts = index.parts }) indexes)
    → AllZip (IsSoundIndex def (rows_in_table shape pages def map_tree) (pending_blocks map_tree)) indexes trees
records_of shape pages def map_tree [] [] stand sound = tt
records_of shape pages def map_tree [] (tree ∷ trees) stand sound = absurd stand
records_of shape pages def map_tree (index ∷ indexes) [] stand sound = absurd stand
records_of shape pages def map_tree (index ∷ indexes) (tree ∷ trees) stand sound = (
  record_index_of shape pages def map_tree index tree (sound.0 tree stand.0),
  records_of shape pages def map_tree indexes trees stand.1 sound.1,
)

-- ---- places of a page that breaks a rule

-- a pair of two lists stands at one place of both
zip_at : {X Y : Type 0} (xs : List X) (ys : List Y) (pair : X × Y) → Contains (zip xs ys) pair → (i : ℕ) × (slice_get xs i ≡ Some pair.0) × (slice_get ys i ≡ Some pair.1)
zip_at [] ys pair (k, low, at) = absurd (omega (arith, low))
zip_at (x ∷ xs) [] pair (k, low, at) = absurd (omega (arith, low))
zip_at {X} {Y} (x ∷ xs) (y ∷ ys) pair there = go (contains_cases pair (x, y) (zip xs ys) there) (zip_at xs ys pair)
  where
    go : ((x, y) ≡ pair) ⊎ Contains (zip xs ys) pair → (Contains (zip xs ys) pair → (i : ℕ) × (slice_get xs i ≡ Some pair.0) × (slice_get ys i ≡ Some pair.1))
        → (i : ℕ) × (slice_get (x ∷ xs) i ≡ Some pair.0) × (slice_get (y ∷ ys) i ≡ Some pair.1)
    go (inl e) more = (0, ap (λ p. Some p.0) e, ap (λ p. Some p.1) e)
    go (inr c) more = let found = more c in (suc found.0, found.1, found.2)

-- and the other way round
at_zip : {X Y : Type 0} (xs : List X) (ys : List Y) (i : ℕ) (x : X) (y : Y) → slice_get xs i ≡ Some x → slice_get ys i ≡ Some y → Contains (zip xs ys) (x, y)
at_zip [] ys i x y e f = absurd (cc)
at_zip (x0 ∷ xs) [] i x y e f = absurd (cc)
at_zip (x0 ∷ xs) (y0 ∷ ys) zero x y e f = (0, omega arith, cc)
at_zip (x0 ∷ xs) (y0 ∷ ys) (suc i) x y e f = contains_more (x, y) (x0, y0) (zip xs ys) (at_zip xs ys i x y e f)

module _ (shape : Shape) (pages : PageList) (defs : Definitions) (view : DatabaseView) (known : ViewHasCells shape pages defs view) where
  -- an index of a table of the view that isn't sound
  broken_index : (kind : IndexKind) (t : ℕ) (def : TableDef) (index : PlacedIndex) → t < 16 → DefinesTable pages t def → Contains (indexes_of_kind kind def) index
      → ((map_tree tree : Forest) → HasTree pages (map_place def) map_tree → HasTree pages index.place tree → IsSoundTree kind shape pages def map_tree index tree → ⊥)
      → BreaksAny (BreaksTableRule (Index kind) shape pages) (tables_there view.places) index.place.root
  broken_index kind t def index within defines there never =
      let viewed = defined_is_viewed shape pages defs view t def known.rows.blocks.trees within defines in
      let table = viewed.table in
      let trees = there_at (λ table. AllZip (HasTree pages) (tree_places table.def) (trees_of_table table)) view.places t table viewed.stands known.rows.blocks.trees.rule4 in
      let breaks : BreaksAny (BreaksPlace kind shape pages def table.map) (indexes_of_kind kind def) index.place.root =
      breaks_any-member (BreaksPlace kind shape pages def table.map) (indexes_of_kind kind def) index index.place.root there
      (refl, λ tree has sound. never table.map tree (subst (λ (d : TableDef). HasTree pages (map_place d) table.map) viewed.same trees.0) has sound) in
      breaks_any-member (BreaksTableRule (Index kind) shape pages) (tables_there view.places) table index.place.root viewed.member
      (subst (λ (d : TableDef). BreaksAny (BreaksPlace kind shape pages d table.map) (indexes_of_kind kind d) index.place.root) (sym viewed.same) breaks)

  -- of a table of the view, where its index stands
  pub record IsBrokenIndex (kind : IndexKind) (p : ℕ) : Type 0 where
    pub t : ℕ
    pub table : TableView
    pub within : t < 16
    pub defines : DefinesTable pages t table.def
    pub index : PlacedIndex
    pub there : Contains (indexes_of_kind kind table.def) index
    pub page : p ≡ index.place.root
    pub never : (map_tree tree : Forest) → HasTree pages (map_place table.def) map_tree → HasTree pages index.place tree → IsSoundTree kind shape pages table.def map_tree index tree → ⊥

  index_broken : (kind : IndexKind) (p : ℕ) → BreaksAny (BreaksTableRule (Index kind) shape pages) (tables_there view.places) p → IsBrokenIndex kind p
  index_broken kind p breaks =
      let (table, member, any) = member-breaks_any (BreaksTableRule (Index kind) shape pages) (tables_there view.places) p breaks in
      let (index, there, broken) = member-breaks_any (BreaksPlace kind shape pages table.def table.map) (indexes_of_kind kind table.def) p any in
      let (t, at) = member_is_placed view table member in
      let defined = viewed_is_defined shape pages defs view t table known.rows.blocks.trees at in
      let trees = there_at (λ table. AllZip (HasTree pages) (tree_places table.def) (trees_of_table table)) view.places t table at known.rows.blocks.trees.rule4 in
      record {
        t = t;
        table = table;
        within = defined.within;
        defines = defined.defines;
        index = index;
        there = there;
        page = broken.0;
        never = λ map_tree tree has_map has sound.
            broken.1 tree has (subst (λ (m : Forest). IsSoundTree kind shape pages table.def m index tree) (one_tree_at pages (map_place table.def) map_tree table.map has_map trees.0) sound);
      }

  -- ---- rule 10

  block_indexes_sound : AllByRecursion (KeepsTableRule (Index Blocks) shape pages) (tables_there view.places) → AreBlockIndexesSound shape pages view
  block_indexes_sound all = each_there (AreTableBlockIndexesSound shape pages) view.places (λ t table at.
      let sound = there_at (KeepsTableRule (Index Blocks) shape pages) view.places t table at all in
      let trees = there_at (λ table. AllZip (HasTree pages) (tree_places table.def) (trees_of_table table)) view.places t table at known.rows.blocks.trees.rule4 in
      let split = there_at (λ table. length table.dims ≡ length table.def.dims) view.places t table at known.rows.blocks.trees.split in
      let defined = viewed_is_defined shape pages defs view t table known.rows.blocks.trees at in
      record {
        composite = block_index_of shape pages table.def table.map (record { place = composite_place table.def; parts = cell_parts table.def }) table.composite (sound.0 table.composite trees.1.0);
        dims = dimensions_of shape pages table.def table.map table.def.dims table.def.roots.dims table.dims table.indexes (record_places table.def) defined.defines.limits.roots.one_each split trees.1.1 sound.1;
      })

  breaks_rule_10 : (p : ℕ) → BreaksAny (BreaksTableRule (Index Blocks) shape pages) (tables_there view.places) p → BreaksRule shape pages 10 p
  breaks_rule_10 p breaks =
      let broken = index_broken Blocks p breaks in
      subst (BreaksRule shape pages 10) (sym broken.page) (go broken (contains_cases broken.index (record { place = composite_place broken.table.def; parts = cell_parts broken.table.def })
      (map (index_of_dimension broken.table.def) (zip broken.table.def.dims broken.table.def.roots.dims)) broken.there))
    where
      dimension_broken : (broken : IsBrokenIndex Blocks p) (pair : List ℕ × ℕ) → Contains (zip broken.table.def.dims broken.table.def.roots.dims) pair → index_of_dimension broken.table.def pair ≡ broken.index
          → BreaksRule shape pages 10 broken.index.place.root
      dimension_broken broken pair there is =
          let def = broken.table.def in
          let (i, dim_at, root_at) = zip_at def.dims def.roots.dims pair there in
          subst (λ (index : PlacedIndex). BreaksRule shape pages 10 index.place.root) is
          (BreaksRule.dimension broken.t i pair.1 def pair.0 broken.within broken.defines dim_at root_at (λ map_tree tree has_map has sound.
          broken.never map_tree tree has_map (subst (λ (index : PlacedIndex). HasTree pages index.place tree) is has)
          (subst (λ (index : PlacedIndex). IsSoundTree Blocks shape pages def map_tree index tree) is (of_block_index shape pages def map_tree (index_of_dimension def pair) tree sound))))

      go : (broken : IsBrokenIndex Blocks p) → (record { place = composite_place broken.table.def; parts = cell_parts broken.table.def } ≡ broken.index) ⊎ Contains (map (index_of_dimension broken.table.def) (zip broken.table.def.dims broken.table.def.roots.dims)) broken.index
          → BreaksRule shape pages 10 broken.index.place.root
      go broken (inl is) =
          let def = broken.table.def in
          subst (λ (index : PlacedIndex). BreaksRule shape pages 10 index.place.root) is
          (BreaksRule.composite broken.t def broken.within broken.defines (λ map_tree tree has_map has sound.
          broken.never map_tree tree has_map (subst (λ (index : PlacedIndex). HasTree pages index.place tree) is has)
          (subst (λ (index : PlacedIndex). IsSoundTree Blocks shape pages def map_tree index tree) is
          (of_block_index shape pages def map_tree (record { place = composite_place def; parts = cell_parts def }) tree sound))))
      go broken (inr later) =
          let found = from_map (index_of_dimension broken.table.def) (zip broken.table.def.dims broken.table.def.roots.dims) broken.index later in
          dimension_broken broken found.0 found.1 found.2

  rule_10_breaks : (p : ℕ) → BreaksRule shape pages 10 p → BreaksAny (BreaksTableRule (Index Blocks) shape pages) (tables_there view.places) p
  rule_10_breaks _ (BreaksRule.composite t def within defines never) =
      let index : PlacedIndex = record { place = composite_place def; parts = cell_parts def } in
      broken_index Blocks t def index within defines (0, omega arith, refl)
      (λ map_tree tree has_map has sound. never map_tree tree has_map has (block_index_of shape pages def map_tree index tree sound))
  rule_10_breaks _ (BreaksRule.dimension t i root def dim within defines dim_at root_at never) =
      let index = index_of_dimension def (dim, root) in
      broken_index Blocks t def index within defines
      (contains_more index (record { place = composite_place def; parts = cell_parts def }) (map (index_of_dimension def) (zip def.dims def.roots.dims))
      (in_map (index_of_dimension def) (zip def.dims def.roots.dims) (dim, root) (at_zip def.dims def.roots.dims i dim root dim_at root_at)))
      (λ map_tree tree has_map has sound. never map_tree tree has_map has (block_index_of shape pages def map_tree index tree sound))

  pub judges_rule_10 : (found : Option ℕ) → JudgesEach (KeepsTableRule (Index Blocks) shape pages) (BreaksTableRule (Index Blocks) shape pages) (tables_there view.places) found → JudgesRule shape pages 10 (AreBlockIndexesSound shape pages view) found
  judges_rule_10 found judged =
      judges_as {P = AllByRecursion (KeepsTableRule (Index Blocks) shape pages) (tables_there view.places)} {Q = AreBlockIndexesSound shape pages view}
      {A = BreaksAny (BreaksTableRule (Index Blocks) shape pages) (tables_there view.places)} {B = BreaksRule shape pages 10} found block_indexes_sound breaks_rule_10 rule_10_breaks judged

  -- ---- rule 11

  record_indexes_sound : AllByRecursion (KeepsTableRule (Index Rows) shape pages) (tables_there view.places) → AreSoundIndexes shape pages view
  record_indexes_sound all = each_there (AreTableIndexesSound shape pages) view.places (λ t table at.
      let sound = there_at (KeepsTableRule (Index Rows) shape pages) view.places t table at all in
      let trees = there_at (λ table. AllZip (HasTree pages) (tree_places table.def) (trees_of_table table)) view.places t table at known.rows.blocks.trees.rule4 in
      let split = there_at (λ table. length table.dims ≡ length table.def.dims) view.places t table at known.rows.blocks.trees.split in
      let defined = viewed_is_defined shape pages defs view t table known.rows.blocks.trees at in
      records_of shape pages table.def table.map table.def.indexes table.indexes
      (behind_dimensions pages (dimension_places table.def) (record_places table.def) table.dims table.indexes
      (split ∙ sym (length-dimension_places table.def table.def.dims table.def.roots.dims defined.defines.limits.roots.one_each)) trees.1.1) sound)

  breaks_rule_11 : (p : ℕ) → BreaksAny (BreaksTableRule (Index Rows) shape pages) (tables_there view.places) p → BreaksRule shape pages 11 p
  breaks_rule_11 p breaks =
      let broken = index_broken Rows p breaks in
      let def = broken.table.def in
      let (index, there, is) = from_map (λ index. record { place = record_place def index; parts = index.parts }) def.indexes broken.index broken.there in
      subst (BreaksRule shape pages 11) (sym broken.page) (subst (λ (placed : PlacedIndex). BreaksRule shape pages 11 placed.place.root) is
      (BreaksRule.record_index broken.t def index broken.within broken.defines there (λ map_tree tree has_map has sound.
      broken.never map_tree tree has_map (subst (λ (placed : PlacedIndex). HasTree pages placed.place tree) is has)
      (subst (λ (placed : PlacedIndex). IsSoundTree Rows shape pages def map_tree placed tree) is (of_record_index shape pages def map_tree index tree sound)))))

  rule_11_breaks : (p : ℕ) → BreaksRule shape pages 11 p → BreaksAny (BreaksTableRule (Index Rows) shape pages) (tables_there view.places) p
  rule_11_breaks _ (BreaksRule.record_index t def index within defines there never) =
      broken_index Rows t def (record { place = record_place def index; parts = index.parts }) within defines
      (in_map (λ index. record { place = record_place def index; parts = index.parts }) def.indexes index there)
      (λ map_tree tree has_map has sound. never map_tree tree has_map has (record_index_of shape pages def map_tree index tree sound))

  pub judges_rule_11 : (found : Option ℕ) → JudgesEach (KeepsTableRule (Index Rows) shape pages) (BreaksTableRule (Index Rows) shape pages) (tables_there view.places) found → JudgesRule shape pages 11 (AreSoundIndexes shape pages view) found
  judges_rule_11 found judged =
      judges_as {P = AllByRecursion (KeepsTableRule (Index Rows) shape pages) (tables_there view.places)} {Q = AreSoundIndexes shape pages view}
      {A = BreaksAny (BreaksTableRule (Index Rows) shape pages) (tables_there view.places)} {B = BreaksRule shape pages 11} found record_indexes_sound breaks_rule_11 rule_11_breaks judged
