-- No page of a sound database breaks a rule.
use Rattle.std.proofs.Common.{◌≡◌, ◌≢◌, ◌<◌, ◌+◌, ◌/◌, ℕ, zero, suc, List, [], ◌∷◌, ◌++◌, Option, Some, None, refl, sym, ap, subst, ◌∙◌, arith, get_or, length, inl, inr}
use Rattle.std.specs.Prelude.{Contains, map, slice_get, zip}
use Rattle.std.specs.List.{AllByRecursion, AllZip}
use Rattle.std.proofs.lemmas.Option.{same_Some, slice_get-get_or}
use Rattle.mdc_ast.specs.declared.definition.IndexDef.{IndexDef}
use Rattle.mdc_ast.specs.declared.definition.TableDef.{TableDef}
use Rattle.store_api.specs.StoreState.{zero_page}
use Rattle.store_api.specs.declared.shape.Shape.{Shape}
use Rattle.extent_map.specs.Map.{HoldsMapPage}
use Rattle.extent_map.specs.Owners.{extent_of, owner_of}
use Rattle.extent_map.specs.declared.kind.Kind.{Kind}
use Rattle.extent_map.specs.declared.kind.Kind.TheVariants as kind
use Rattle.extent_map.proofs.ExtentsLemmas.{extent_below}
use Rattle.extent_map.proofs.HoldsMapLemmas.{on_map}
use Rattle.entry_tree.specs.Forest.{Forest}
use Rattle.block_map.specs.BlockMaps.{IsMapForm}
use Rattle.block_map.specs.MapLines.{map_lines, mapped_blocks, pending_blocks, used_blocks}
use Rattle.block_map.proofs.MapLinesLemmas.{contains_cases}
use Rattle.table_trees.specs.TableTrees.{TreePlace, cell_parts, composite_place, dimension_place, dimension_places, map_place, record_place, record_places, rising_parts, tree_places}
use Rattle.table_trees.specs.ToldPages.{HasTree, PageList, told_pages}
use Rattle.mdc_sound.specs.BlockRules.{AreBlockRowsSound, AreTableBlockIndexesSound, AreTableIndexesSound, AreTableKeysSound, IsBlockIndexSound, IsBlockPageSound, IsIdleCountSound, IsOfOneCell, IsSoundIndex, IsUniqueSound, IsUsedCountSound, AreRowNumbersSound}
use Rattle.mdc_sound.specs.Breaks.{BreaksRule}
use Rattle.mdc_ast.specs.FittingRows.{RowFits}
use Rattle.mdc_sound.specs.SoundDatabase.{IsSoundDatabase, KeepAllRules}
use Rattle.mdc_sound.specs.SpaceRules.{AreRootsInIndexes, DatabaseView, IsBlockMapSound, IsIndexKind, IsIndexPage, IsMapLineSound, IsTablePlaceSound, tables_there}
use Rattle.mdc_sound.specs.TablePages.{DefinesTable, table_page_at}
use Rattle.mdc_sound.specs.TableRows.{rows_in_block, rows_in_table}
use Rattle.mdc_sound.specs.TableViews.{TableView, trees_of_table}
use Rattle.mdc_sound.proofs.BlockRulesLemmas.{each_as, each_of}
use Rattle.mdc_sound.proofs.SpaceRulesLemmas.{range_at, range_length}
use Rattle.file_check.specs.Known.{ViewHasTrees, defs_of}
use Rattle.file_check.specs.Verdicts.{IsVerdictOf}
use Rattle.file_check.specs.declared.verdict.Verdict.{Verdict}
use Rattle.file_check.specs.declared.verdict.Verdict.TheVariants.{Sound, Broken}
use Rattle.file_check.proofs.IndexRulesLemmas.{behind_dimensions, length-dimension_places}
use Rattle.file_check.proofs.KnownTablesLemmas.{defined_is_viewed, member_is_placed, viewed_is_defined}
use Rattle.file_check.proofs.LaterTablesLemmas.{definitions_later, indexes_later}
use Rattle.file_check.proofs.OwnersShownLemmas.{one_owner}
use Rattle.file_check.proofs.RootPageLemmas.{root_holds}
use Rattle.file_check.proofs.ShownTablesLemmas.{member_map, shown_is_viewed}
use Rattle.file_check.proofs.TreePagesLemmas.{all_judged}

-- ---- two lists side by side

same_length : {X Y : Type 0} (R : X → Y → Type 0) (xs : List X) (ys : List Y) → AllZip R xs ys → length ys ≡ length xs
same_length R [] [] all = refl
same_length R [] (y ∷ ys) all = absurd all
same_length R (x ∷ xs) [] all = absurd all
same_length R (x ∷ xs) (y ∷ ys) all = ap suc (same_length R xs ys all.1)

-- beside each element of the first stands one
stands_beside : {X Y : Type 0} (R : X → Y → Type 0) (xs : List X) (ys : List Y) (x : X) → AllZip R xs ys → Contains xs x → (y : Y) × R x y
stands_beside R [] ys x all (k, low, at) = absurd (omega (arith, low))
stands_beside R (first ∷ xs) [] x all there = absurd all
stands_beside R (first ∷ xs) (y ∷ ys) x all there = elim (contains_cases x first xs there) [
  | inl same ↦ (y, subst (λ z. R z y) same all.0)
  | inr later ↦ stands_beside R xs ys x all.1 later
]

-- the tree of a dimension, and what holds of it
dimension_holds : (pages : PageList) (def : TableDef) (P : List ℕ → Forest → Type 0) (dims : List (List ℕ)) (roots : List ℕ) (trees more : List Forest) (rest : List TreePlace)
    (i : ℕ) (dim : List ℕ) (root : ℕ) → AllZip P dims trees → slice_get dims i ≡ Some dim → slice_get roots i ≡ Some root
    → AllZip (HasTree pages) (map (λ pair. dimension_place def pair.0 pair.1) (zip dims roots) ++ rest) (trees ++ more)
    → (tree : Forest) × HasTree pages (dimension_place def dim root) tree × P dim tree
dimension_holds pages def P [] roots trees more rest i dim root all dim_at root_at stand = absurd (cc)
dimension_holds pages def P (d ∷ dims) [] trees more rest i dim root all dim_at root_at stand = absurd (cc)
dimension_holds pages def P (d ∷ dims) (r ∷ roots) [] more rest i dim root all dim_at root_at stand = absurd all
dimension_holds pages def P (d ∷ dims) (r ∷ roots) (tree ∷ trees) more rest zero dim root all dim_at root_at stand =
    let same_dim = same_Some d dim dim_at in
    let same_root = same_Some r root root_at in
    (tree, subst (λ n. HasTree pages (dimension_place def dim n) tree) same_root (subst (λ e. HasTree pages (dimension_place def e r) tree) same_dim stand.0), subst (λ e. P e tree) same_dim all.0)
dimension_holds pages def P (d ∷ dims) (r ∷ roots) (tree ∷ trees) more rest (suc i) dim root all dim_at root_at stand =
    dimension_holds pages def P dims roots trees more rest i dim root all.1 dim_at root_at stand.1

-- the tree of a record index, and what holds of it
record_holds : (pages : PageList) (def : TableDef) (P : IndexDef → Forest → Type 0) (indexes : List IndexDef) (trees : List Forest) (index : IndexDef)
    → AllZip P indexes trees → Contains indexes index → AllZip (HasTree pages) (map (record_place def) indexes) trees → (tree : Forest) × HasTree pages (record_place def index) tree × P index tree
record_holds pages def P [] trees index all (k, low, at) stand = absurd (omega (arith, low))
record_holds pages def P (first ∷ indexes) [] index all there stand = absurd all
record_holds pages def P (first ∷ indexes) (tree ∷ trees) index all there stand = elim (contains_cases index first indexes there) [
  | inl same ↦ (tree, subst (λ (i : IndexDef). HasTree pages (record_place def i) tree) same stand.0, subst (λ (i : IndexDef). P i tree) same all.0)
  | inr later ↦ record_holds pages def P indexes trees index all.1 later stand.1
]

module _ (shape : Shape) (pages : PageList) (view : DatabaseView) (keeps : KeepAllRules shape pages view) where
  -- ---- what is known of the view

  has_trees : ViewHasTrees shape pages (defs_of view) view
  has_trees = record {
    defined = refl;
    rule1 = keeps.first.rule1;
    rule2 = keeps.first.rule2;
    rule3 = keeps.first.rule3;
    rule4 = keeps.first.rule4;
    split = each_as (AreTableBlockIndexesSound shape pages) (λ table. length table.dims ≡ length table.def.dims) (tables_there view.places)
        (λ table there is. same_length (λ dim index. IsBlockIndexSound table.def (rows_in_table shape pages table.def table.map) (rising_parts dim) index) table.def.dims table.dims is.dims) keeps.first.rule10;
  }

  -- what each table is
  each_table : (P : TableView → Type 0) → AllByRecursion P (tables_there view.places) → (table : TableView) → Contains (tables_there view.places) table → P table
  each_table P all table there = each_of P (tables_there view.places) table all there

  trees_stand : (table : TableView) → Contains (tables_there view.places) table → AllZip (HasTree pages) (tree_places table.def) (trees_of_table table)
  trees_stand = each_table (λ table. AllZip (HasTree pages) (tree_places table.def) (trees_of_table table)) keeps.first.rule4

  roots_sound : (table : TableView) → Contains (tables_there view.places) table → AreRootsInIndexes shape view.owners table.def
  roots_sound table there =
      let placed = member_is_placed view table there in
      (range_at (IsTablePlaceSound shape pages view.owners) 0 16 view.places placed.0 (Some table) keeps.first.rule3.each placed.1).1.1

  lines_sound : (table : TableView) → Contains (tables_there view.places) table → AllByRecursion (IsMapLineSound shape view.owners table.def) (map_lines table.map)
  lines_sound table there = (each_table (λ table. IsBlockMapSound shape view.owners table.def table.map) keeps.first.rule6 table there).lines

  block_sound : (table : TableView) (block : ℕ) → Contains (tables_there view.places) table → Contains (used_blocks table.map) block → AreBlockRowsSound shape pages table.def block
  block_sound table block there used =
      each_of (AreBlockRowsSound shape pages table.def) (used_blocks table.map) block (each_table (λ table. AllByRecursion (AreBlockRowsSound shape pages table.def) (used_blocks table.map)) keeps.first.rule7 table there) used

  shown_page : (e : ℕ) → e < shape.extents → HoldsMapPage told_pages shape pages view.owners (e / 512)
  shown_page e low = (keeps.first.rule2.each (e / 512) (on_map shape.extents e low)).held

  shown_owner : (owners : List Kind) (e : ℕ) → e < shape.extents → HoldsMapPage told_pages shape pages owners (e / 512) → owner_of owners e ≡ owner_of view.owners e
  shown_owner owners e low shows = one_owner owners view.owners e shows (shown_page e low)

  -- a table page with more than zeros has a definition
  formed : (t : ℕ) → t < 16 → table_page_at pages t ≢ zero_page → (def : TableDef) × DefinesTable pages t def
  formed t low some =
      go (get_or view.places t None) (slice_get-get_or view.places t None (omega (arith, low, range_length (IsTablePlaceSound shape pages view.owners) 0 16 view.places keeps.first.rule3.each)))
    where
      go : (place : Option TableView) → slice_get view.places t ≡ Some place → (def : TableDef) × DefinesTable pages t def
      go None at =
          let here = range_at (IsTablePlaceSound shape pages view.owners) 0 16 view.places t None keeps.first.rule3.each at in
          let same : 0 + t ≡ t = omega arith in
          absurd (some (subst (λ n. table_page_at pages n ≡ zero_page) same here.1))
      go (Some table) at = (table.def, (viewed_is_defined shape pages (defs_of view) view t table has_trees at).defines)

  -- what is said of a table that a page defines is said of one of the view
  refuted : (t : ℕ) (def : TableDef) (P : TableDef → Forest → Type 0) → t < 16 → DefinesTable pages t def → ((map_tree : Forest) → HasTree pages (map_place def) map_tree → P def map_tree)
      → ((table : TableView) → Contains (tables_there view.places) table → P table.def table.map → ⊥) → ⊥
  refuted t def P low defines says never =
      let shown = shown_is_viewed shape pages (defs_of view) view has_trees t def P (record { within = low; defines = defines; map = says }) in
      never shown.table shown.member shown.holds

  -- ---- no page breaks a rule

  pub unbroken : (rule page : ℕ) → BreaksRule shape pages rule page → ⊥
  unbroken _ page (BreaksRule.root none) = none (length pages) (keeps.first.rule1.count.extents, keeps.first.rule1.count.within, keeps.first.rule1.count.count) (omega arith) keeps.first.rule1.root
  unbroken _ p (BreaksRule.missing n _ whole is behind before) =
      (root_holds shape pages (length pages) (keeps.first.rule1.count.extents, keeps.first.rule1.count.within, keeps.first.rule1.count.count) keeps.first.rule1.root refl).unbroken p
      (BreaksRule.missing n p whole is behind before)
  unbroken _ _ (BreaksRule.map_page i low none) = none view.owners (keeps.first.rule2.each i low)
  unbroken _ _ (BreaksRule.table t low some none) = let its = formed t low some in none its.0 its.1
  unbroken _ _ (BreaksRule.root_outside t def place low defines among outside) =
      refuted t def (λ d m. Contains (tree_places d) place) low defines (λ m tree. among)
      (λ table there its. outside (each_of (λ (p : TreePlace). IsIndexPage shape view.owners p.root) (tree_places table.def) place (roots_sound table there) its).page)
  unbroken _ _ (BreaksRule.root_no_index t def place owners low defines among shows other) =
      refuted t def (λ d m. Contains (tree_places d) place) low defines (λ m tree. among)
      (λ table there its.
      let is = each_of (λ (p : TreePlace). IsIndexPage shape view.owners p.root) (tree_places table.def) place (roots_sound table there) its in
      let same = shown_owner owners (extent_of shape place.root) (extent_below shape place.root shows.0) shows.1 in
      other (record { page = is.page; index = subst IsIndexKind (sym same) is.index }))
  unbroken _ _ (BreaksRule.table_name t u a b before low first second same) =
      let one = defined_is_viewed shape pages (defs_of view) view t a has_trees (omega (arith, before, low)) first in
      let other = defined_is_viewed shape pages (defs_of view) view u b has_trees low second in
      definitions_later (λ (c d : TableDef). c.name ≢ d.name) view.places t u one.table other.table before one.stands other.stands keeps.first.rule3.tables_differ
      (ap (λ (d : TableDef). d.name) one.same ∙ same ∙ ap (λ (d : TableDef). d.name) (sym other.same))
  unbroken _ _ (BreaksRule.index_name t u i j before first second same) =
      let one = defined_is_viewed shape pages (defs_of view) view t first.def has_trees first.within first.defines in
      let other = defined_is_viewed shape pages (defs_of view) view u second.def has_trees second.within second.defines in
      indexes_later (λ (c d : IndexDef). c.name ≢ d.name) view.places t u one.table other.table i j before one.stands other.stands
      (subst (λ (d : TableDef). Contains d.indexes i) (sym one.same) first.is_its) (subst (λ (d : TableDef). Contains d.indexes j) (sym other.same) second.is_its) keeps.first.rule3.indexes_differ same
  unbroken _ _ (BreaksRule.tree t def place low defines among none) =
      refuted t def (λ d m. Contains (tree_places d) place) low defines (λ m tree. among)
      (λ table there its. let found = stands_beside (HasTree pages) (tree_places table.def) (trees_of_table table) place (trees_stand table there) its in none found.0 found.1)
  unbroken _ p (BreaksRule.shared t u i j _ one other apart) = (all_judged shape pages (defs_of view) view has_trees keeps.first.rule5).unbroken p (BreaksRule.shared t u i j p one other apart)
  unbroken _ p (BreaksRule.in_none _ owners shows used none) = (all_judged shape pages (defs_of view) view has_trees keeps.first.rule5).unbroken p (BreaksRule.in_none p owners shows used none)
  unbroken _ p (BreaksRule.outside t i _ shows out) = (all_judged shape pages (defs_of view) view has_trees keeps.first.rule5).unbroken p (BreaksRule.outside t i p shows out)
  unbroken _ p (BreaksRule.not_used t i _ owners shows extent not) = (all_judged shape pages (defs_of view) view has_trees keeps.first.rule5).unbroken p (BreaksRule.not_used t i p owners shows extent not)
  unbroken _ _ (BreaksRule.map_form t def low defines none) =
      refuted t def (λ d m. IsMapForm m → ⊥) low defines none (λ table there never. never (member_map shape pages (defs_of view) view has_trees keeps.first.rule6 table there).form)
  unbroken _ _ (BreaksRule.map_past t def line shows past) =
      refuted t def (λ d m. Contains (map_lines m) line) shows.within shows.defines shows.map
      (λ table there its. omega (arith, past, (each_of (IsMapLineSound shape view.owners table.def) (map_lines table.map) line (lines_sound table there) its).within))
  unbroken _ _ (BreaksRule.map_other t def line owners shows low holds other) =
      refuted t def (λ d m. Contains (map_lines m) line × (owner_of owners line.block ≢ kind.Block d.number)) shows.within shows.defines (λ m tree. (shows.map m tree, other))
      (λ table there says. says.1 (shown_owner owners line.block low holds ∙ (each_of (IsMapLineSound shape view.owners table.def) (map_lines table.map) line (lines_sound table there) says.0).owned))
  unbroken _ _ (BreaksRule.map_lacks t e def owners shows low holds is) =
      refuted t def (λ d m. (Contains (mapped_blocks m) e → ⊥) × (owner_of owners e ≡ kind.Block d.number)) shows.within shows.defines (λ m tree. (shows.map m tree, is))
      (λ table there says.
      says.0 ((each_table (λ table. IsBlockMapSound shape view.owners table.def table.map) keeps.first.rule6 table there).all_named e low (sym (shown_owner owners e low holds) ∙ says.1)))
  unbroken _ _ (BreaksRule.row_page t def line j shows low not) =
      refuted t def (λ d m. Contains (used_blocks m) line.block × (IsBlockPageSound shape pages d line.block j → ⊥)) shows.within shows.defines (λ m tree. ((shows.map m tree).0, not))
      (λ table there says. says.1 ((block_sound table line.block there says.0).forms j low))
  unbroken _ _ (BreaksRule.row t def line placed shows inside not) =
      refuted t def (λ d m. Contains (used_blocks m) line.block × Contains (rows_in_block shape pages d line.block) placed × (RowFits d placed.row → ⊥)) shows.within shows.defines
      (λ m tree. ((shows.map m tree).0, inside, not))
      (λ table there says. says.2 (each_of _ (rows_in_block shape pages table.def line.block) placed (block_sound table line.block there says.0).rows says.1))
  unbroken _ _ (BreaksRule.used_count t def line shows not) =
      refuted t def (λ d m. Contains (map_lines m) line × (IsUsedCountSound shape pages d line → ⊥)) shows.within shows.defines (λ m tree. (shows.map m tree, not))
      (λ table there says.
      says.1 (each_of (IsUsedCountSound shape pages table.def) (map_lines table.map) line
      (each_table (λ table. AllByRecursion (IsUsedCountSound shape pages table.def) (map_lines table.map)) keeps.first.rule8.used table there) says.0))
  unbroken _ _ (BreaksRule.idle_count t def line shows not) =
      refuted t def (λ d m. Contains (map_lines m) line) shows.within shows.defines shows.map
      (λ table there its. not (each_of IsIdleCountSound (map_lines table.map) line (each_table (λ table. AllByRecursion IsIdleCountSound (map_lines table.map)) keeps.first.rule8.idle table there) its))
  unbroken _ _ (BreaksRule.cell t def line shows not) =
      refuted t def (λ d m. Contains (used_blocks m) line.block × (IsOfOneCell shape pages d line.block → ⊥)) shows.within shows.defines (λ m tree. ((shows.map m tree).0, not))
      (λ table there says.
      says.1 (each_of (IsOfOneCell shape pages table.def) (used_blocks table.map) line.block (each_table (λ table. AllByRecursion (IsOfOneCell shape pages table.def) (used_blocks table.map)) keeps.first.rule9 table there) says.0))
  unbroken _ _ (BreaksRule.composite t def low defines none) =
      refuted t def (λ d m. (index : Forest) → HasTree pages (composite_place d) index → IsBlockIndexSound d (rows_in_table shape pages d m) (cell_parts d) index → ⊥) low defines
      (λ m tree index has sound. none m index tree has sound)
      (λ table there never. never table.composite (trees_stand table there).1.0 (each_table (AreTableBlockIndexesSound shape pages) keeps.first.rule10 table there).composite)
  unbroken _ _ (BreaksRule.dimension t i root def dim low defines dim_at root_at none) =
      refuted t def
      (λ d m. (slice_get d.dims i ≡ Some dim) × (slice_get d.roots.dims i ≡ Some root)
      × ((index : Forest) → HasTree pages (dimension_place d dim root) index → IsBlockIndexSound d (rows_in_table shape pages d m) (rising_parts dim) index → ⊥))
      low defines (λ m tree. (dim_at, root_at, λ index has sound. none m index tree has sound))
      (λ table there says.
      let found = dimension_holds pages table.def (λ e index. IsBlockIndexSound table.def (rows_in_table shape pages table.def table.map) (rising_parts e) index) table.def.dims table.def.roots.dims
      table.dims table.indexes (record_places table.def) i dim root (each_table (AreTableBlockIndexesSound shape pages) keeps.first.rule10 table there).dims says.0 says.1 (trees_stand table there).1.1 in
      says.2 found.0 found.1 found.2)
  unbroken _ _ (BreaksRule.record_index t def index low defines among none) =
      refuted t def
      (λ d m. Contains d.indexes index × ((tree : Forest) → HasTree pages (record_place d index) tree → IsSoundIndex d (rows_in_table shape pages d m) (pending_blocks m) index tree → ⊥))
      low defines (λ m map_stands. (among, λ tree has sound. none m tree map_stands has sound))
      (λ table there says.
      let placed = member_is_placed view table there in
      let defined = viewed_is_defined shape pages (defs_of view) view placed.0 table has_trees placed.1 in
      let split = each_table (λ table. length table.dims ≡ length table.def.dims) has_trees.split table there in
      let stand = behind_dimensions pages (dimension_places table.def) (record_places table.def) table.dims table.indexes
      (split ∙ sym (length-dimension_places table.def table.def.dims table.def.roots.dims defined.defines.limits.roots.one_each)) (trees_stand table there).1.1 in
      let found = record_holds pages table.def (IsSoundIndex table.def (rows_in_table shape pages table.def table.map) (pending_blocks table.map)) table.def.indexes table.indexes index
      (each_table (AreTableIndexesSound shape pages) keeps.rule11 table there) says.0 stand in
      says.1 found.0 found.1 found.2)
  unbroken _ _ (BreaksRule.numbers t def shows) =
      refuted t def (λ d m. AreRowNumbersSound d (rows_in_table shape pages d m) → ⊥) shows.within shows.defines shows.map
      (λ table there never. never (each_table (λ table. AreRowNumbersSound table.def (rows_in_table shape pages table.def table.map)) keeps.rule12.numbers table there))
  unbroken _ _ (BreaksRule.unique t def index among shows) =
      refuted t def (λ d m. Contains d.indexes index × (IsUniqueSound (rows_in_table shape pages d m) index → ⊥)) shows.within shows.defines (λ m tree. (among, shows.map m tree))
      (λ table there says.
      says.1 (each_of (IsUniqueSound (rows_in_table shape pages table.def table.map)) table.def.indexes index (each_table (AreTableKeysSound shape pages) keeps.rule12.unique table there) says.0))

-- ---- verdicts

pub sound_unbroken : (shape : Shape) (pages : PageList) → IsSoundDatabase shape pages → (rule page : ℕ) → BreaksRule shape pages rule page → ⊥
sound_unbroken shape pages sound = unbroken shape pages sound.0 sound.1

-- a verdict that says so is right
pub says_sound : (shape : Shape) (pages : PageList) (verdict : Verdict) → IsVerdictOf shape pages verdict → verdict ≡ Sound → IsSoundDatabase shape pages
says_sound shape pages verdict is same = let right : IsVerdictOf shape pages Sound = subst (IsVerdictOf shape pages) same is in right.sound

-- and that of sound pages says so
pub is_sound : (shape : Shape) (pages : PageList) (verdict : Verdict) → IsVerdictOf shape pages verdict → IsSoundDatabase shape pages → verdict ≡ Sound
is_sound shape pages Sound is sound = refl
is_sound shape pages (Broken damage) is sound = absurd (sound_unbroken shape pages sound damage.rule damage.page is.breaks)
