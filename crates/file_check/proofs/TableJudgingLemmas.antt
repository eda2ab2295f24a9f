-- The indexes of a table are judged one after the other, and those of all tables.
use Rattle.std.proofs.Common.{◌≡◌, ◌+◌, ◌⊎◌, Bool, ℕ, List, [], ◌∷◌, ◌++◌, refl, sym, ap, subst, ◌∙◌, arith, take, inl, inr, true, false}
use Rattle.std.specs.Prelude.{IsTrue, Contains, ◌↔◌, Option, Some, None, map, slice_get, zip}
use Rattle.std.specs.List.{AllByRecursion, AllZip}
use Rattle.std.proofs.lemmas.List.{take_more}
use Rattle.std.proofs.lemmas.List.Elements.{Contains-append_left, Contains-append_right}
use Rattle.std.proofs.lemmas.Option.{get_or_from_slice_get, slice_get_within}
use Rattle.mdc_ast.specs.declared.definition.TableDef.{TableDef}
use Rattle.mdc_ast.specs.Definitions.{Definitions}
use Rattle.store_api.specs.Frame.{NoPage}
use Rattle.store_api.specs.RunsOverPages.{RunsOverPages}
use Rattle.store_api.specs.declared.fault.Damage.{Damage}
use Rattle.store_api.specs.declared.fault.StoreFault.{StoreFault}
use Rattle.store_api.specs.declared.pages.Pages.{Ghosts}
use Rattle.store_api.specs.declared.shape.Shape.{Shape}
use Rattle.store_api.proofs.RunsOverPagesLemmas.{runs_then}
use Rattle.key_codec.specs.Keys.{width_of_parts}
use Rattle.entry_tree.specs.Forest.{Forest, leaf_entries}
use Rattle.block_map.specs.MapLines.{map_lines, used_blocks}
use Rattle.block_map.proofs.MapLinesLemmas.{contains_cases, contains_more}
use Rattle.table_trees.specs.TableTrees.{TreePlace, cell_parts, composite_place, dimension_place, dimension_places, map_place, place_of_tree, record_place, record_places, tree_places}
use Rattle.table_trees.specs.ToldPages.{HasTree, PageList}
use Rattle.mdc_sound.specs.BlockRules.{AreBlockRowsSound, IsIdleCountSound, IsOfOneCell, IsUsedCountSound}
use Rattle.mdc_sound.specs.SpaceRules.{DatabaseView, tables_there}
use Rattle.mdc_sound.specs.TableViews.{TableView, trees_of_table}
use Rattle.mdc_sound.proofs.ElementsLemmas.{each_in, from_map, in_map}
use Rattle.mdc_sound.proofs.SpaceRulesLemmas.{there_at}
use Rattle.mdc_sound.proofs.StandsForLemmas.{one_tree_at}
use Rattle.file_check.specs.Judging.{Judges, JudgesEach, lower}
use Rattle.file_check.specs.BlocksJudged.{IsLineCounted}
use Rattle.file_check.specs.Known.{ViewHasBlocks, ViewHasCells, ViewHasRows}
use Rattle.file_check.specs.KnownTables.{TableHasCells, TableHasRows, TableHasTrees}
use Rattle.file_check.specs.Looking.{AnyPage, Unless}
use Rattle.file_check.proofs.IndexJudgingLemmas.{TellsIndexes}
use Rattle.file_check.proofs.JudgingLemmas.{judges_next}
use Rattle.file_check.proofs.KnownTablesLemmas.{placed_is_there}
use Rattle.file_check.proofs.ShownTablesLemmas.{member_map}
use Rattle.file_check.specs.declared.table_index.IndexKind.{IndexKind}
use Rattle.file_check.specs.declared.table_index.IndexKind.TheVariants.{Blocks, Rows}
use Rattle.file_check.specs.declared.table_index.TableIndex.{TableIndex}
use Rattle.file_check.specs.TableIndexes.{AreReadable, AreSoundEntries, BreaksPlace, HasIndexes, IsPlaceSound, IsSoundTree, PlacedIndex, UnlessReadable, entries_of_blocks, index_of_dimension, indexes_of_kind, place_of_index, spare_blocks}

-- ---- one index

module _ (kind : IndexKind) (shape : Shape) (pages : PageList) (def : TableDef) (map_tree : Forest) (index : PlacedIndex) (tree : Forest) (here : HasTree pages index.place tree) where
  judged_sound : IsSoundTree kind shape pages def map_tree index tree → Judges (IsPlaceSound kind shape pages def map_tree index) (BreaksPlace kind shape pages def map_tree index) None
  judged_sound sound = record {
    holds = λ other has. subst (IsSoundTree kind shape pages def map_tree index) (one_tree_at pages index.place tree other here has) sound;
    unbroken = λ p breaks. breaks.1 tree here sound;
  }

  judged_broken : (IsSoundTree kind shape pages def map_tree index tree → ⊥) → Judges (IsPlaceSound kind shape pages def map_tree index) (BreaksPlace kind shape pages def map_tree index) (Some index.place.root)
  judged_broken broken = record {
    breaks = (refl, λ other has sound. broken (subst (IsSoundTree kind shape pages def map_tree index) (one_tree_at pages index.place other tree has here) sound));
    lowest = λ p breaks. omega (arith, breaks.0);
  }

-- what was found of the index in hand is said of the one in its place
found_in_place : (kind : IndexKind) (shape : Shape) (pages work : PageList) (def : TableDef) (map_tree : Forest) (index : TableIndex) (used spare : List ℕ) (sound : Bool)
    → index.kind ≡ kind → work ≡ pages → used ≡ used_blocks map_tree → spare ≡ spare_blocks kind map_tree
    → (AreReadable shape work def used → (tree : Forest) → HasTree work (place_of_tree index.tree) tree
    → IsTrue sound ↔ AreSoundEntries (entries_of_blocks index.kind shape work def index.parts used) spare (width_of_parts def.columns index.parts) (leaf_entries tree))
    → AreReadable shape pages def (used_blocks map_tree) → (tree : Forest) → HasTree pages (place_of_tree index.tree) tree → IsTrue sound ↔ IsSoundTree kind shape pages def map_tree (place_of_index index) tree
found_in_place kind shape pages work def map_tree index used spare sound kind_is same used_is spare_is found readable tree has =
    let width = width_of_parts def.columns index.parts in
    let first = found (subst (λ (blocks : List ℕ). AreReadable shape work def blocks) (sym used_is) (subst (λ (told : PageList). AreReadable shape told def (used_blocks map_tree)) (sym same) readable)) tree
    (subst (λ (told : PageList). HasTree told (place_of_tree index.tree) tree) (sym same) has) in
    subst (λ (k : IndexKind). IsTrue sound ↔ AreSoundEntries (entries_of_blocks k shape pages def index.parts (used_blocks map_tree)) (spare_blocks kind map_tree) width (leaf_entries tree)) kind_is
    (subst (λ (told : PageList). IsTrue sound ↔ AreSoundEntries (entries_of_blocks index.kind shape told def index.parts (used_blocks map_tree)) (spare_blocks kind map_tree) width (leaf_entries tree)) same
    (subst (λ (blocks : List ℕ). IsTrue sound ↔ AreSoundEntries (entries_of_blocks index.kind shape work def index.parts blocks) (spare_blocks kind map_tree) width (leaf_entries tree)) used_is
    (subst (λ (blocks : List ℕ). IsTrue sound ↔ AreSoundEntries (entries_of_blocks index.kind shape work def index.parts used) blocks width (leaf_entries tree)) spare_is first)))

-- ---- one of a list after the other

pub lower-none : (found : Option ℕ) → lower found None ≡ found
lower-none None = refl
lower-none (Some page) = refl

pub place_next : {X : Type 0} (P : X → Type 0) (B : X → ℕ → Type 0) (xs : List X) (i : ℕ) (x : X) (found here : Option ℕ) → slice_get xs i ≡ Some x
    → JudgesEach P B (take i xs) found → Judges (P x) (B x) here → JudgesEach P B (take (i + 1) xs) (lower found here)
place_next {X} P B xs i x found here at before this =
    let low = slice_get_within xs i x at in
    let more : take (i + 1) xs ≡ take i xs ++ x ∷ [] = take_more xs i x low ∙ ap (λ y. take i xs ++ y ∷ []) (get_or_from_slice_get xs i x x at) in
    subst (λ (ys : List X). JudgesEach P B ys (lower found here)) (sym more) (judges_next P B (take i xs) x found here before this)

pub member_at : {X : Type 0} (xs : List X) (i : ℕ) (x : X) → slice_get xs i ≡ Some x → Contains xs x
member_at xs i x at = (i, slice_get_within xs i x at, get_or_from_slice_get xs i x x at)

-- ---- the next one is judged

-- The index in a place is in hand, and so are the Used blocks and the spare ones.
pub record IndexInHand {S : Type 0} (g : Ghosts S) (kind : IndexKind) (shape : Shape) (def : TableDef) (old now : S) (i : ℕ) (index : TableIndex) (used spare : List ℕ) : Type 0 where
  pub kind_is : index.kind ≡ kind
  pub place_is : slice_get (indexes_of_kind kind def) i ≡ Some (place_of_index index)
  pub used_are : IsTrue (g.state old).is_told → (map_tree : Forest) → HasTree (g.state old).work (map_place def) map_tree → used ≡ used_blocks map_tree
  pub spare_are : IsTrue (g.state old).is_told → (map_tree : Forest) → HasTree (g.state old).work (map_place def) map_tree → spare ≡ spare_blocks kind map_tree
  pub same : (g.state now).work ≡ (g.state old).work
  pub runs : RunsOverPages g NoPage AnyPage (Unless g old (TellsIndexes kind shape def)) old now None

module _ {S : Type 0} {g : Ghosts S} {kind : IndexKind} {shape : Shape} {def : TableDef} {old now : S} {i : ℕ} {index : TableIndex} {used spare : List ℕ} (is : IndexInHand g kind shape def old now i index used spare) where
  tree_there : (map_tree : Forest) → HasIndexes kind shape (g.state old).work def map_tree → (tree : Forest) × HasTree (g.state old).work (place_of_tree index.tree) tree
  tree_there map_tree has = has.trees (place_of_index index) (member_at (indexes_of_kind kind def) i (place_of_index index) is.place_is)

  -- it is read
  pub runs_index : {new : S} {fault : Option StoreFault} → RunsOverPages g NoPage AnyPage (UnlessReadable g shape now def used (place_of_tree index.tree)) now new fault
      → RunsOverPages g NoPage AnyPage (Unless g old (TellsIndexes kind shape def)) old new fault
  runs_index run = runs_then is.runs run (λ p there mine. mine) (λ p any. any) (λ damage unless told tells. damaged damage unless told tells.0 tells.1)
    where
      damaged : (damage : Damage) → UnlessReadable g shape now def used (place_of_tree index.tree) damage → IsTrue (g.state old).is_told → (map_tree : Forest) → HasIndexes kind shape (g.state old).work def map_tree → ⊥
      damaged damage unless told map_tree has =
          let tree = tree_there map_tree has in
          unless (is.runs.works.steady.is_told ∙ told)
          (subst (λ (blocks : List ℕ). AreReadable shape (g.state now).work def blocks) (sym (is.used_are told map_tree has.map)) (subst (λ (pages : PageList). AreReadable shape pages def (used_blocks map_tree)) (sym is.same) has.used))
          tree.0 (subst (λ (pages : PageList). HasTree pages (place_of_tree index.tree) tree.0) (sym is.same) tree.1)

  -- and found to be sound, or not to be
  module _ (sound : Bool)
      (found : IsTrue (g.state now).is_told → AreReadable shape (g.state now).work def used → (tree : Forest) → HasTree (g.state now).work (place_of_tree index.tree) tree
      → IsTrue sound ↔ AreSoundEntries (entries_of_blocks index.kind shape (g.state now).work def index.parts used) spare (width_of_parts def.columns index.parts) (leaf_entries tree))
      (told : IsTrue (g.state old).is_told) (map_tree : Forest) (has : HasIndexes kind shape (g.state old).work def map_tree) (lowest : Option ℕ)
      (before : JudgesEach (IsPlaceSound kind shape (g.state old).work def map_tree) (BreaksPlace kind shape (g.state old).work def map_tree) (take i (indexes_of_kind kind def)) lowest) where
    of_tree : IsTrue sound ↔ IsSoundTree kind shape (g.state old).work def map_tree (place_of_index index) (tree_there map_tree has).0
    of_tree =
        found_in_place kind shape (g.state old).work (g.state now).work def map_tree index used spare sound is.kind_is is.same (is.used_are told map_tree has.map) (is.spare_are told map_tree has.map)
        (found (is.runs.works.steady.is_told ∙ told)) has.used (tree_there map_tree has).0 (tree_there map_tree has).1

    next : (here lower_now : Option ℕ) → lower_now ≡ lower lowest here → Judges (IsPlaceSound kind shape (g.state old).work def map_tree (place_of_index index)) (BreaksPlace kind shape (g.state old).work def map_tree (place_of_index index)) here
        → JudgesEach (IsPlaceSound kind shape (g.state old).work def map_tree) (BreaksPlace kind shape (g.state old).work def map_tree) (take (i + 1) (indexes_of_kind kind def)) lower_now
    next here lower_now lowered judged =
        let P = IsPlaceSound kind shape (g.state old).work def map_tree in
        let B = BreaksPlace kind shape (g.state old).work def map_tree in
        subst (λ (page : Option ℕ). JudgesEach P B (take (i + 1) (indexes_of_kind kind def)) page) (sym lowered) (place_next P B (indexes_of_kind kind def) i (place_of_index index) lowest here is.place_is before judged)

    pub sound_next : sound ≡ true → JudgesEach (IsPlaceSound kind shape (g.state old).work def map_tree) (BreaksPlace kind shape (g.state old).work def map_tree) (take (i + 1) (indexes_of_kind kind def)) lowest
    sound_next is_sound =
        let tree = tree_there map_tree has in
        next None lowest (sym (lower-none lowest)) (judged_sound kind shape (g.state old).work def map_tree (place_of_index index) tree.0 tree.1 (of_tree.0 is_sound))

    pub broken_next : sound ≡ false → (lower_now : Option ℕ) → lower_now ≡ lower lowest (Some index.tree.root)
        → JudgesEach (IsPlaceSound kind shape (g.state old).work def map_tree) (BreaksPlace kind shape (g.state old).work def map_tree) (take (i + 1) (indexes_of_kind kind def)) lower_now
    broken_next is_none lower_now lowered =
        let tree = tree_there map_tree has in
        next (Some index.tree.root) lower_now lowered
        (judged_broken kind shape (g.state old).work def map_tree (place_of_index index) tree.0 tree.1 (λ holds. (let is_sound = of_tree.1 holds in absurd (cc (is_sound, is_none)))))

-- ---- what is known of a table

pub tree_in : (pages : PageList) (places : List TreePlace) (trees : List Forest) (place : TreePlace) → AllZip (HasTree pages) places trees → Contains places place → (tree : Forest) × HasTree pages place tree
tree_in pages [] trees place all (k, low, at) = absurd (omega (arith, low))
tree_in pages (first ∷ places) [] place all there = absurd all
tree_in pages (first ∷ places) (t ∷ trees) place all there = go (contains_cases place first places there) (tree_in pages places trees place all.1)
  where
    go : (first ≡ place) ⊎ Contains places place → (Contains places place → (tree : Forest) × HasTree pages place tree) → (tree : Forest) × HasTree pages place tree
    go (inl e) more = (t, subst (λ (p : TreePlace). HasTree pages p t) e all.0)
    go (inr c) more = more c

later_place : (def : TableDef) (place : TreePlace) → Contains (dimension_places def ++ record_places def) place → Contains (tree_places def) place
later_place def place there =
    contains_more place (map_place def) (composite_place def ∷ dimension_places def ++ record_places def) (contains_more place (composite_place def) (dimension_places def ++ record_places def) there)

-- each index is one of the trees of its table
pub is_tree_place : (kind : IndexKind) (def : TableDef) (index : PlacedIndex) → Contains (indexes_of_kind kind def) index → Contains (tree_places def) index.place
is_tree_place Blocks def index there = go (contains_cases index (record { place = composite_place def; parts = cell_parts def }) (map (index_of_dimension def) (zip def.dims def.roots.dims)) there)
  where
    go : (record { place = composite_place def; parts = cell_parts def } ≡ index) ⊎ Contains (map (index_of_dimension def) (zip def.dims def.roots.dims)) index → Contains (tree_places def) index.place
    go (inl e) = contains_more index.place (map_place def) (composite_place def ∷ dimension_places def ++ record_places def) (0, omega arith, ap (λ (i : PlacedIndex). i.place) e)
    go (inr c) =
        let found = from_map (index_of_dimension def) (zip def.dims def.roots.dims) index c in
        later_place def index.place (Contains-append_left (dimension_places def) (record_places def) index.place
        (subst (Contains (dimension_places def)) (ap (λ (i : PlacedIndex). i.place) found.2) (in_map (λ pair. dimension_place def pair.0 pair.1) (zip def.dims def.roots.dims) found.0 found.1)))
is_tree_place Rows def index there =
    let found = from_map (λ i. record { place = record_place def i; parts = i.parts }) def.indexes index there in
    later_place def index.place (Contains-append_right (dimension_places def) (record_places def) index.place
    (subst (Contains (record_places def)) (ap (λ (i : PlacedIndex). i.place) found.2) (in_map (record_place def) def.indexes found.0 found.1)))

pub each_of : {X : Type 0} (P : X → Type 0) (xs : List X) (x : X) → AllByRecursion P xs → Contains xs x → P x
each_of P [] x all (k, low, at) = absurd (omega (arith, low))
each_of {X} P (y ∷ ys) x all there = go (contains_cases x y ys there) (each_of P ys x all.1)
  where
    go : (y ≡ x) ⊎ Contains ys x → (Contains ys x → P x) → P x
    go (inl e) more = subst P e all.0
    go (inr c) more = more c

-- the trees of a table of the view stand
module _ (shape : Shape) (pages : PageList) (defs : Definitions) (view : DatabaseView) (t : ℕ) (table : TableView) (at : slice_get view.places t ≡ Some (Some table)) where
  abbrev tables : List TableView
  tables = tables_there view.places

  there : Contains tables table
  there = placed_is_there view.places t table at

  pub table_trees : ViewHasBlocks shape pages defs view → TableHasTrees shape pages table.def table.map
  table_trees known =
      let trees = there_at (λ table. AllZip (HasTree pages) (tree_places table.def) (trees_of_table table)) view.places t table at known.trees.rule4 in
      record {
        map = member_map shape pages defs view known.trees known.rule6 table there;
        indexes = λ kind index is. tree_in pages (tree_places table.def) (trees_of_table table) index.place trees (is_tree_place kind table.def index is);
      }

  -- and its rows
  pub table_rows : ViewHasRows shape pages defs view → TableHasRows shape pages table.def table.map
  table_rows known = record {
    trees = table_trees known.blocks;
    rows = λ block used.
        each_of (AreBlockRowsSound shape pages table.def) (used_blocks table.map) block
        (each_of (λ (x : TableView). AllByRecursion (AreBlockRowsSound shape pages x.def) (used_blocks x.map)) tables table known.rule7 there) used;
  }

  -- which are counted right, those of a block of one cell
  pub table_cells : ViewHasCells shape pages defs view → TableHasCells shape pages table.def table.map
  table_cells known =
      let used = each_of (λ (x : TableView). AllByRecursion (IsUsedCountSound shape pages x.def) (map_lines x.map)) tables table known.rule8.used there in
      let idle = each_of (λ (x : TableView). AllByRecursion IsIdleCountSound (map_lines x.map)) tables table known.rule8.idle there in
      record {
        rows = table_rows known.rows;
        counts = each_in (IsLineCounted shape pages table.def) (map_lines table.map) (λ line is. record {
          used = each_of (IsUsedCountSound shape pages table.def) (map_lines table.map) line used is;
          idle = each_of IsIdleCountSound (map_lines table.map) line idle is;
        });
        cells = each_of (λ (x : TableView). AllByRecursion (IsOfOneCell shape pages x.def) (used_blocks x.map)) tables table known.rule9 there;
      }
