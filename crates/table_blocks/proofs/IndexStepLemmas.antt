-- The block comes into the block indexes, or leaves them.
use Rattle.std.proofs.Common.{◌≡◌, ◌<◌, ◌≤◌, ◌^◌, ℕ, List, ◌∷◌, length, [], ap, arith, inl, inr, map, refl, subst, suc, sym, zero, ◌++◌, ◌+◌, ◌∙◌}
use Rattle.std.specs.Prelude.{sum_by, Contains, Some, slice_get, zip}
use Rattle.mdc_values.specs.declared.value.Value.{Value}
use Rattle.mdc_ast.specs.declared.definition.TableDef.{TableDef}
use Rattle.mdc_ast.specs.declared.row.Cell.{Cell}
use Rattle.store_api.specs.Frame.{Touches}
use Rattle.store_api.specs.declared.fault.Damage.{Damage}
use Rattle.store_api.specs.declared.pages.Pages.{Ghosts}
use Rattle.extent_map.specs.Owners.{AreRightNotes, owner_of}
use Rattle.extent_map.specs.declared.kind.Kind.{Kind}
use Rattle.entry_tree.specs.Forest.{times, Forest, leaf_entries}
use Rattle.table_trees.specs.RowCells.{cell_places}
use Rattle.table_trees.specs.TableTrees.{HasBlockIndexes, block_index_places, TreePlace, block_entry, cell_parts, dimension_place, map_place, place_of_tree, record_places, rising_parts, tree_places}
use Rattle.table_trees.specs.TreesBeside.{GrowsPages, IsSpaceOfTrees, IsTreesOrMapPage, StandTrees, ChangesTrees}
use Rattle.block_index.specs.Cells.{HaveKeys, cell_entries}
use Rattle.block_index.specs.Listing.{BreaksListing, BreaksUnlisting, FillsListing, ListsBlock, UnlistsBlock, ComesTo, GainsEntry, LosesEntry, MoveFirst}
use Rattle.table_trees.specs.RowCells.{IsCellOf}
use Rattle.mdc_sound.specs.Placing.{AfterClaims, AfterReturns, Spot}
use Rattle.mdc_sound.specs.StandingTable.{MeetsNoFree, TableForests, forests_in_order, NamesTablePart, pages_of, roots_in}
use Rattle.table_blocks.specs.AroundBlock.{StandsAround, IsIndexAround, IsOtherRow}
use Rattle.table_blocks.specs.BlockChanges.{BreaksAround, IsPlaceAround, IsSpaceAround, IsSpotChange}
use Rattle.table_blocks.specs.BlockNow.{IsListedInEach, IsOwnBlock, IsUnlisted, IsListedIn, IsUnlistedIn}
use Rattle.table_blocks.specs.BlockSteps.{MovesEntries}
use Rattle.std.specs.List.{AllByRecursion, AllZip}
use Rattle.std.proofs.lemmas.Slice.Zip.{AllZip-long}
use Rattle.extent_map.specs.declared.kind.Kind.TheVariants.{Block, Free, Index}
use Rattle.entry_tree.specs.Pruning.{BreaksAtReturn}
use Rattle.mdc_words.specs.ByteOrder.{Entry}
use Rattle.mdc_sound.specs.Placing.Spot.{FreeExtent, IndexExtent}
use Rattle.extent_map.specs.declared.space_notes.SpaceNotes.{SpaceNotes}
use Rattle.entry_tree.specs.EntryBounds.{IsEntryOf}
use Rattle.table_blocks.proofs.IndexEntriesLemmas.{IsKeyedDimension, around_gained, around_lost, at_dimension, keyed_dimensions, listed_in, move_each, moves_both, not_yet, unlisted_in}
use Rattle.mdc_sound.proofs.TableRowsLemmas.{KeepsBlockPages}
use Rattle.mdc_sound.specs.TableRows.{PlacedRow}
use Rattle.entry_tree.specs.Standing.{StandsTree, with_pages}
use Rattle.entry_tree.specs.declared.tree.Tree.{Tree}
use Rattle.mdc_sound.proofs.StandingTableLemmas.{block_below, block_kept}
use Rattle.mdc_sound.specs.BlockRules.{block_in_entry}
use Rattle.table_blocks.proofs.BlockEntriesLemmas.{block_in_keyed}
use Rattle.table_trees.proofs.SideBySideLemmas.{block_page_apart, part_changes, part_space, part_stands, part_trees_or_map, space_of_trees_or_map, tree_among}
use Rattle.extent_map.proofs.DamagesLemmas.{breaks_space_never}
use Rattle.block_index.proofs.CellsLemmas.{cell_entries-row}
use Rattle.table_blocks.proofs.SpotChangesLemmas.{claims_change, returns_change}
use Rattle.block_map.proofs.MapLinesLemmas.{contains_more}
use Rattle.table_blocks.proofs.OtherBlocksLemmas.{map_still, other_row_now, other_row_small, other_row_was, rows_held_still, spot_after}
use Rattle.table_blocks.proofs.KeptExtentsLemmas.{grows_untouched, no_less, no_more}
use Rattle.table_blocks.proofs.LineStepLemmas.{map_page_told, names_space, names_use}
use Rattle.store_api.specs.declared.shape.Shape.{Shape}
use Rattle.std.proofs.lemmas.Option.{same_Some}
use Rattle.table_trees.proofs.TreeListsLemmas.{times-parts}
use Rattle.store_api.proofs.FrameLemmas.{touches_wider}

-- ---- lists of places

-- how many indexes of dimensions there are
pub count_dimensions : (def : TableDef) (dims : List (List ℕ)) (roots : List ℕ) → length roots ≡ length dims → length (map (λ pair. dimension_place def pair.0 pair.1) (zip dims roots)) ≡ length dims
count_dimensions def [] roots one_each = refl
count_dimensions def (dim ∷ dims) [] one_each = absurd (omega (arith, one_each))
count_dimensions def (dim ∷ dims) (root ∷ roots) one_each = ap suc (count_dimensions def dims roots (omega (arith, one_each)))

-- what stands in a list stands at the same place where more follows
place_in_front : (places more : List TreePlace) (n : ℕ) (place : TreePlace) → slice_get places n ≡ Some place → slice_get (places ++ more) n ≡ Some place
place_in_front [] more n place at = absurd cc
place_in_front (first ∷ places) more zero place at = at
place_in_front (first ∷ places) more (suc n) place at = place_in_front places more n place at

root_there : (places : List TreePlace) (n : ℕ) (place : TreePlace) → slice_get places n ≡ Some place → Contains (roots_in places) place.root
root_there [] n place at = absurd cc
root_there (first ∷ places) zero place at = (0, omega arith, ap (λ (q : TreePlace). q.root) (same_Some first place at))
root_there (first ∷ places) (suc n) place at = contains_more place.root first.root (roots_in places) (root_there places n place at)

-- ---- damage

-- what an index that the call had come to may name
module _ (def : TableDef) (n : ℕ) (tree : Tree) (at : slice_get (block_index_places def) n ≡ Some (place_of_tree tree)) (shape : Shape) (damage : Damage) where
  tree_named : damage.page ≡ tree.root → damage.rule ≡ 4 → NamesTablePart shape def damage
  tree_named page rule =
      NamesTablePart.tree rule (subst (Contains (roots_in (tree_places def))) (sym page) (root_there (tree_places def) (suc n) (place_of_tree tree) (place_in_front (block_index_places def) (record_places def) n (place_of_tree tree) at)))

  index_named : damage.page ≡ tree.root → damage.rule ≡ 10 → NamesTablePart shape def damage
  index_named page rule = NamesTablePart.block_index rule (subst (Contains (roots_in (block_index_places def))) (sym page) (root_there (block_index_places def) n (place_of_tree tree) at))

-- what is named where a page is given back
return_named : {S : Type 0} {g : Ghosts S} (def : TableDef) (shape : Shape) (old mid : S) (tree : Tree) (damage : Damage)
    → BreaksAtReturn g shape (λ owners. (t : Forest) × StandsTree g shape mid tree owners t) damage → NamesTablePart shape def damage
return_named def shape old mid tree damage at_return = names_use shape at_return.mid at_return.page damage at_return.breaks

-- ---- the block in the indexes

-- the entries of the block under the values of a row
abbrev all_entries : TableDef → List Value → ℕ → List Entry
all_entries def values block = block_entry def.columns (cell_parts def) values block ∷ map (λ dim. block_entry def.columns (rising_parts dim) values block) def.dims

module _ (def : TableDef) (values : List Value) (block : ℕ) (small : block < 2 ^ 32) (has : HasBlockIndexes def) (keys : HaveKeys def.columns (cell_places def) values) where
  -- what is known of the columns of an index
  keyed : AllByRecursion (IsKeyedDimension def.columns values) def.dims
  keyed = keyed_dimensions def.columns values def.dims has.dimensions keys

  names_cell : block_in_entry def (cell_parts def) (block_entry def.columns (cell_parts def) values block) ≡ block
  names_cell = block_in_keyed def (cell_places def) values block has.composite keys small

  names_dimension : (dim : List ℕ) → IsKeyedDimension def.columns values dim → block_in_entry def (rising_parts dim) (block_entry def.columns (rising_parts dim) values block) ≡ block
  names_dimension dim known = block_in_keyed def dim values block known.0 known.1 small

  -- the entry of the block in the index of a dimension
  abbrev dimension_entry : List ℕ → Entry
  dimension_entry dim = block_entry def.columns (rising_parts dim) values block

  unlisted_absent : (forests : TableForests) (n : ℕ) (x : Entry) (t : Forest) → IsUnlisted def forests block → slice_get (forests.composite ∷ forests.dims) n ≡ Some t → slice_get (all_entries def values block) n ≡ Some x
      → IsEntryOf x (leaf_entries t) → ⊥
  unlisted_absent forests zero x t none there entry at =
      let tree_is : forests.composite ≡ t = same_Some forests.composite t there in
      let entry_is : block_entry def.columns (cell_parts def) values block ≡ x = same_Some (block_entry def.columns (cell_parts def) values block) x entry in
      none.composite x (subst (λ (v : Forest). IsEntryOf x (leaf_entries v)) (sym tree_is) at) (ap (block_in_entry def (cell_parts def)) (sym entry_is) ∙ names_cell)
  unlisted_absent forests (suc n) x t none there entry at =
      let here = at_dimension (IsKeyedDimension def.columns values) (λ dim index. IsUnlistedIn def (rising_parts dim) block index) dimension_entry def.dims forests.dims n x t keyed none.dims entry there in
      here.2 x at (ap (block_in_entry def (rising_parts here.0)) here.3 ∙ names_dimension here.0 here.1)

  listed_there : (forests : TableForests) (n : ℕ) (x : Entry) (t : Forest) → IsListedInEach def forests values block → slice_get (forests.composite ∷ forests.dims) n ≡ Some t → slice_get (all_entries def values block) n ≡ Some x
      → IsEntryOf x (leaf_entries t)
  listed_there forests zero x t listed there entry =
      let tree_is : forests.composite ≡ t = same_Some forests.composite t there in
      let entry_is : block_entry def.columns (cell_parts def) values block ≡ x = same_Some (block_entry def.columns (cell_parts def) values block) x entry in
      subst (λ (v : Forest). IsEntryOf x (leaf_entries v)) tree_is (subst (λ (y : Entry). IsEntryOf y (leaf_entries forests.composite)) entry_is listed.composite.has)
  listed_there forests (suc n) x t listed there entry =
      let here = at_dimension (IsKeyedDimension def.columns values) (λ dim index. IsListedIn def (rising_parts dim) values block index) dimension_entry def.dims forests.dims n x t keyed listed.dims entry there in
      subst (λ (y : Entry). IsEntryOf y (leaf_entries t)) (sym here.3) here.2.has

-- what taking a block out of the indexes names, under whichever values
pub names_unlisting : {S : Type 0} (g : Ghosts S) (def : TableDef) (values : List Value) (block : ℕ) (shape : Shape) (noted : SpaceNotes) (s : S) (damage : Damage) → BreaksUnlisting g shape noted s def values block damage → NamesTablePart shape def damage
names_unlisting g def values block shape noted s damage breaks = elim breaks.breaks [
  | inl tree_or_return ↦ elim tree_or_return [
    | inl broken ↦ tree_named def breaks.comes.n breaks.tree breaks.comes.place shape damage broken.page broken.rule
    | inr at_return ↦ return_named def shape s breaks.mid breaks.tree damage at_return
  ]
  | inr index ↦ index_named def breaks.comes.n breaks.tree breaks.comes.place shape damage index.page index.rule
]

module _ {S : Type 0} {g : Ghosts S} (def : TableDef) (block : ℕ) (has : HasBlockIndexes def) where
  as_many : (shape : Shape) (s : S) (owners : List Kind) (forests : TableForests) → StandsAround g shape s def owners forests block → length (block_index_places def) ≡ length (forests.composite ∷ forests.dims)
  as_many shape s owners forests st =
      let dims = AllZip-long (λ dim index. IsIndexAround shape (pages_of g s) def forests.map (rising_parts dim) block index) def.dims forests.dims st.dims in
      omega (arith, dims, count_dimensions def def.dims def.roots.dims has.one_each)

  -- the block indexes stand side by side
  pub indexes_around : (shape : Shape) (s : S) (owners : List Kind) (forests : TableForests) → StandsAround g shape s def owners forests block → StandTrees g shape s owners (block_index_places def) (forests.composite ∷ forests.dims)
  indexes_around shape s owners forests st =
      part_stands shape s owners (map_place def ∷ []) (block_index_places def) (record_places def) (forests.map ∷ []) (forests.composite ∷ forests.dims) forests.indexes refl (as_many shape s owners forests st) st.trees

  -- the pages
  pub space_of_indexes : (shape : Shape) (s : S) (p : ℕ) → IsSpaceOfTrees g shape s (block_index_places def) p → IsSpaceAround g shape s def block p
  space_of_indexes shape s p at owners forests st own =
      elim (part_space shape s (map_place def ∷ []) (block_index_places def) (record_places def) p at owners (forests_in_order forests) st.trees) [ inl here ↦ inl here | inr rest ↦ inr (inr rest) ]

  pub place_of_indexes : (shape : Shape) (s : S) (p : ℕ) → IsTreesOrMapPage g shape s (block_index_places def) p → IsPlaceAround g shape s def block p
  place_of_indexes shape s p at owners forests st own =
      elim (part_trees_or_map shape s (map_place def ∷ []) (block_index_places def) (record_places def) p at owners (forests_in_order forests) st.trees) [ inl here ↦ inl here | inr map ↦ inr (inr map) ]

module _ {S : Type 0} {g : Ghosts S} (def : TableDef) (cell : Cell) (values : List Value) (block : ℕ) (small : block < 2 ^ 32) (has : HasBlockIndexes def) (is : IsCellOf def cell values) (keys : HaveKeys def.columns (cell_places def) values) where
  -- ---- a change of them

  module _ (shape : Shape) (before noted : SpaceNotes) (old new : S) (owners owners_now : List Kind) (forests : TableForests) (u : Forest) (us : List Forest) (st : StandsAround g shape old def owners forests block)
      (changes : ChangesTrees g shape before noted new (block_index_places def) owners (forests.composite ∷ forests.dims) owners_now (u ∷ us)) (touched : Touches g (IsSpaceOfTrees g shape old (block_index_places def)) old new)
      (told : (g.state new).is_told ≡ (g.state old).is_told) where
    -- the trees of the table afterwards
    abbrev after : TableForests
    after = record { map = forests.map; composite = u; dims = us; indexes = forests.indexes }

    blocks_kept : (e : ℕ) → owner_of owners e ≡ Block def.number → KeepsBlockPages shape (pages_of g old) (pages_of g new) e
    blocks_kept e is =
        block_kept (IsSpaceOfTrees g shape old (block_index_places def)) shape old new owners def.number e st.trees.map st.told touched
        (λ p of mine. block_page_apart shape old owners (block_index_places def) (forests.composite ∷ forests.dims) p def.number (indexes_around def block has shape old owners forests st) of.page of.block mine)
        (omega (arith, block_below owners e def.number is, st.trees.map.count)) is

    other_now : (placed : PlacedRow) → IsOtherRow shape (pages_of g old) def forests.map block placed → IsOtherRow shape (pages_of g new) def forests.map block placed
    other_now = other_row_now shape (pages_of g old) (pages_of g new) def owners owners_now forests.map block (λ e low is. blocks_kept e is) (λ e other. changes.kept.blocks e) st.map

    other_was : (placed : PlacedRow) → IsOtherRow shape (pages_of g new) def forests.map block placed → IsOtherRow shape (pages_of g old) def forests.map block placed
    other_was = other_row_was shape (pages_of g old) (pages_of g new) def owners owners_now forests.map block (λ e low is. blocks_kept e is) (λ e other. changes.kept.blocks e) st.map

    abbrev AroundOld : List ℕ → Forest → Type 0
    AroundOld dim index = IsIndexAround shape (pages_of g old) def forests.map (rising_parts dim) block index

    abbrev AroundNew : List ℕ → Forest → Type 0
    AroundNew dim index = IsIndexAround shape (pages_of g new) def forests.map (rising_parts dim) block index

    whole_changes : ChangesTrees g shape before noted new (tree_places def) owners (forests_in_order forests) owners_now (forests_in_order after)
    whole_changes =
        part_changes shape old new (map_place def ∷ []) (block_index_places def) (record_places def) (forests.map ∷ []) (forests.composite ∷ forests.dims) (u ∷ us) forests.indexes owners owners_now refl
        (as_many def block has shape old owners forests st) st.trees touched told changes

    -- how often a page stands in all of them
    times_before : (p : ℕ) → sum_by (times p) (forests_in_order forests) ≡ sum_by (times p) (forests.map ∷ []) + (sum_by (times p) (forests.composite ∷ forests.dims) + sum_by (times p) forests.indexes)
    times_before p = omega (arith, times-parts p (forests.map ∷ []) (forests.composite ∷ forests.dims) forests.indexes)

    times_after : (p : ℕ) → sum_by (times p) (forests_in_order after) ≡ sum_by (times p) (forests.map ∷ []) + (sum_by (times p) (u ∷ us) + sum_by (times p) forests.indexes)
    times_after p = omega (arith, times-parts p (forests.map ∷ []) (u ∷ us) forests.indexes)

    module _ {After : Spot → Spot → Type 0} (change : IsSpotChange After) (longer : length (g.state old).work ≤ length (g.state new).work) where
      moves_entries : IsOwnBlock shape owners def block → IsIndexAround shape (pages_of g new) def forests.map (cell_parts def) block u → AllZip AroundNew def.dims us → GrowsPages g shape old new
          → ((e used : ℕ) → owner_of owners e ≡ Free → owner_of owners_now e ≡ Index used → After FreeExtent IndexExtent) → ((e used : ℕ) → owner_of owners e ≡ Index used → owner_of owners_now e ≡ Free → After IndexExtent FreeExtent)
          → MovesEntries g After shape before noted old new def block owners forests
      moves_entries own composite dims grows took gave = record {
        owners_now = owners_now;
        forests_now = after;
        changes = record {
          stands = record {
            told = told ∙ st.told;
            trees = whole_changes.stand;
            map = map_still shape (pages_of g old) (pages_of g new) def owners owners_now forests.map block (λ e low is. blocks_kept e is) (λ e other. changes.kept.blocks e) st.map;
            composite = composite;
            dims = dims;
          };
          trees = whole_changes;
          records = refl;
          spots = λ e other. spot_after change g shape old new def owners owners_now forests.map e (blocks_kept e) (changes.kept.blocks e) (took e) (gave e);
          longer = longer;
          grows = grows;
        };
        same_map = refl;
        rows = λ slots held. rows_held_still g shape old new def block slots (blocks_kept block own.owned) told longer held;
      }

  pub lists_entries : (shape : Shape) (before noted : SpaceNotes) (old new : S) (owners : List Kind) (forests : TableForests) → StandsAround g shape old def owners forests block → IsOwnBlock shape owners def block
      → ListsBlock g shape before noted new def cell.values block owners (forests.composite ∷ forests.dims) → GrowsPages g shape old new
      → Touches g (IsSpaceOfTrees g shape old (block_index_places def)) old new → (g.state new).is_told ≡ (g.state old).is_told → length (g.state old).work ≤ length (g.state new).work
      → (moves : MovesEntries g AfterClaims shape before noted old new def block owners forests) × (IsUnlisted def forests block → IsListedInEach def moves.forests_now values block)
  unfolding moves_entries
  lists_entries shape before noted old new owners forests st own lists grows touched told longer =
      let first : MoveFirst GainsEntry (length (all_entries def values block)) (all_entries def values block) (forests.composite ∷ forests.dims) lists.first.trees_now =
      subst (λ es. MoveFirst GainsEntry (length es) es (forests.composite ∷ forests.dims) lists.first.trees_now) (cell_entries-row def cell values block is) lists.first.moves in
      let both = moves_both GainsEntry (length (map (dimension_entry def values block small has keys) def.dims)) (block_entry def.columns (cell_parts def) values block) (map (dimension_entry def values block small has keys) def.dims) forests.composite forests.dims lists.first.trees_now first in
      let changes : ChangesTrees g shape before noted new (block_index_places def) owners (forests.composite ∷ forests.dims) lists.first.owners_now (both.first ∷ both.rest) =
      subst (λ ts. ChangesTrees g shape before noted new (block_index_places def) owners (forests.composite ∷ forests.dims) lists.first.owners_now ts) both.after_is lists.first.changes in
      let more : (p : ℕ) → sum_by (times p) (forests.composite ∷ forests.dims) ≤ sum_by (times p) (both.first ∷ both.rest) = λ p. omega (arith, lists.pages p, ap (sum_by (times p)) both.after_is) in (
        moves_entries shape before noted old new owners lists.first.owners_now forests both.first both.rest st changes touched told claims_change longer own
            (around_gained def (cell_parts def) values block (names_cell def values block small has keys) forests.composite both.first shape (pages_of g old) (pages_of g new) forests.map
            (other_now shape before noted old new owners lists.first.owners_now forests both.first both.rest st changes touched told)
            (other_was shape before noted old new owners lists.first.owners_now forests both.first both.rest st changes touched told) both.moves st.composite)
            (move_each GainsEntry (IsKeyedDimension def.columns values) (λ dim index. IsIndexAround shape (pages_of g old) def forests.map (rising_parts dim) block index)
            (λ dim index. IsIndexAround shape (pages_of g new) def forests.map (rising_parts dim) block index) (dimension_entry def values block small has keys)
            (λ dim t v known moves was. around_gained def (rising_parts dim) values block ((names_dimension def values block small has keys) dim known) t v shape (pages_of g old) (pages_of g new) forests.map
            (other_now shape before noted old new owners lists.first.owners_now forests both.first both.rest st changes touched told)
            (other_was shape before noted old new owners lists.first.owners_now forests both.first both.rest st changes touched told) moves was)
            def.dims forests.dims both.rest (keyed def values block small has keys) st.dims both.more)
            grows (λ e used was now. tt) (λ e used was now. absurd (no_less shape before noted old new owners lists.first.owners_now (block_index_places def) (forests.composite ∷ forests.dims) (both.first ∷ both.rest) changes st.trees.map more e used was now)),
        λ none. record {
          composite = listed_in def (cell_parts def) values block (names_cell def values block small has keys) forests.composite both.first both.moves none.composite;
          dims = move_each GainsEntry (IsKeyedDimension def.columns values) (λ dim index. IsUnlistedIn def (rising_parts dim) block index) (λ dim index. IsListedIn def (rising_parts dim) values block index) (dimension_entry def values block small has keys)
              (λ dim t v known moves was. listed_in def (rising_parts dim) values block ((names_dimension def values block small has keys) dim known) t v moves was) def.dims forests.dims both.rest (keyed def values block small has keys) none.dims both.more;
        },
      )

  pub unlists_entries : (shape : Shape) (before noted : SpaceNotes) (old new : S) (owners : List Kind) (forests : TableForests) → StandsAround g shape old def owners forests block → IsOwnBlock shape owners def block
      → UnlistsBlock g shape before noted new def cell.values block owners (forests.composite ∷ forests.dims)
      → Touches g (IsTreesOrMapPage g shape old (block_index_places def)) old new → (g.state new).is_told ≡ (g.state old).is_told → length (g.state new).work ≡ length (g.state old).work
      → (moves : MovesEntries g AfterReturns shape before noted old new def block owners forests) × (IsListedInEach def forests values block → IsUnlisted def moves.forests_now block)
      × ((p : ℕ) → 0 < sum_by (times p) (forests_in_order moves.forests_now) → 0 < sum_by (times p) (forests_in_order forests))
  unfolding moves_entries
  unlists_entries shape before noted old new owners forests st own unlists touched told count =
      let first : MoveFirst LosesEntry (length (all_entries def values block)) (all_entries def values block) (forests.composite ∷ forests.dims) unlists.first.trees_now =
      subst (λ es. MoveFirst LosesEntry (length es) es (forests.composite ∷ forests.dims) unlists.first.trees_now) (cell_entries-row def cell values block is) unlists.first.moves in
      let both = moves_both LosesEntry (length (map (dimension_entry def values block small has keys) def.dims)) (block_entry def.columns (cell_parts def) values block) (map (dimension_entry def values block small has keys) def.dims) forests.composite forests.dims unlists.first.trees_now first in
      let changes : ChangesTrees g shape before noted new (block_index_places def) owners (forests.composite ∷ forests.dims) unlists.first.owners_now (both.first ∷ both.rest) =
      subst (λ ts. ChangesTrees g shape before noted new (block_index_places def) owners (forests.composite ∷ forests.dims) unlists.first.owners_now ts) both.after_is unlists.first.changes in
      let fewer : (p : ℕ) → sum_by (times p) (both.first ∷ both.rest) ≤ sum_by (times p) (forests.composite ∷ forests.dims) = λ p. omega (arith, unlists.pages p, ap (sum_by (times p)) both.after_is) in
      let stand = indexes_around def block has shape old owners forests st in
      let wide : Touches g (IsSpaceOfTrees g shape old (block_index_places def)) old new = touches_wider touched (λ p at. space_of_trees_or_map shape old (block_index_places def) p at) in
      let longer : length (g.state old).work ≤ length (g.state new).work = omega (arith, count) in (
        moves_entries shape before noted old new owners unlists.first.owners_now forests both.first both.rest st changes wide told returns_change longer own
            (around_lost def (cell_parts def) values block (names_cell def values block small has keys) forests.composite both.first shape (pages_of g old) (pages_of g new) forests.map
            (other_now shape before noted old new owners unlists.first.owners_now forests both.first both.rest st changes wide told)
            (other_was shape before noted old new owners unlists.first.owners_now forests both.first both.rest st changes wide told)
            small (other_row_small shape (pages_of g old) owners def forests.map block st.map) both.moves st.composite)
            (move_each LosesEntry (IsKeyedDimension def.columns values) (λ dim index. IsIndexAround shape (pages_of g old) def forests.map (rising_parts dim) block index)
            (λ dim index. IsIndexAround shape (pages_of g new) def forests.map (rising_parts dim) block index) (dimension_entry def values block small has keys)
            (λ dim t v known moves was. around_lost def (rising_parts dim) values block ((names_dimension def values block small has keys) dim known) t v shape (pages_of g old) (pages_of g new) forests.map
            (other_now shape before noted old new owners unlists.first.owners_now forests both.first both.rest st changes wide told)
            (other_was shape before noted old new owners unlists.first.owners_now forests both.first both.rest st changes wide told)
            small (other_row_small shape (pages_of g old) owners def forests.map block st.map) moves was)
            def.dims forests.dims both.rest (keyed def values block small has keys) st.dims both.more)
            (grows_untouched shape old new owners (block_index_places def) (forests.composite ∷ forests.dims) stand touched count)
            (λ e used was now. absurd (no_more shape before noted old new owners unlists.first.owners_now (block_index_places def) (forests.composite ∷ forests.dims) (both.first ∷ both.rest) changes stand fewer e used was now)) (λ e used was now. tt),
        λ listed. record {
          composite = unlisted_in def (cell_parts def) values block (names_cell def values block small has keys) forests.composite both.first both.moves listed.composite;
          dims = move_each LosesEntry (IsKeyedDimension def.columns values) (λ dim index. IsListedIn def (rising_parts dim) values block index) (λ dim index. IsUnlistedIn def (rising_parts dim) block index) (dimension_entry def values block small has keys)
              (λ dim t v known moves was. unlisted_in def (rising_parts dim) values block ((names_dimension def values block small has keys) dim known) t v moves was) def.dims forests.dims both.rest (keyed def values block small has keys) listed.dims both.more;
        },
        λ p l. omega (
          arith,
          l,
          fewer p,
          times_before shape before noted old new owners unlists.first.owners_now forests both.first both.rest st changes wide told p,
          times_after shape before noted old new owners unlists.first.owners_now forests both.first both.rest st changes wide told p,
        ),
      )

  -- what the index that a call had come to is to the table as it was
  module _ (Moves : Entry → Forest → Forest → Type 0) (shape : Shape) (before now : SpaceNotes) (old mid : S) (tree : Tree) (x : Entry) (comes : ComesTo g Moves shape before old def cell.values block now mid tree x) (owners : List Kind) (forests : TableForests)
      (st : StandsAround g shape old def owners forests block) where
    record IsNext : Type 0 where
      pub owners_mid : List Kind
      pub t : Forest
      pub stands : StandsTree g shape mid tree owners_mid t
      pub there : slice_get (forests.composite ∷ forests.dims) comes.n ≡ Some t
      pub entry : slice_get (all_entries def values block) comes.n ≡ Some x
      pub notes : AreRightNotes shape before owners → AreRightNotes shape now owners_mid

    next_index : IsNext
    next_index =
        let d = comes.done owners (forests.composite ∷ forests.dims) (indexes_around def block has shape old owners forests st) in
        let one = tree_among shape mid d.owners_now (block_index_places def) d.trees_now tree comes.n d.changes.stand comes.place in
        record {
          owners_mid = d.owners_now;
          t = one.0;
          stands = one.2;
          there = sym (not_yet Moves comes.n (cell_entries def cell.values block) (forests.composite ∷ forests.dims) d.trees_now d.moves) ∙ one.1;
          entry = ap (λ es. slice_get es comes.n) (sym (cell_entries-row def cell values block is)) ∙ comes.entry;
          notes = d.changes.notes;
        }

  pub breaks_listing : (shape : Shape) (noted : SpaceNotes) (s : S) (damage : Damage) → BreaksListing g shape noted s def cell.values block damage → BreaksAround g shape s def block (λ owners forests. IsUnlisted def forests block) damage
  breaks_listing shape noted s damage breaks = record {
    names = elim breaks.breaks [
      | inl tree_or_map ↦ elim tree_or_map [
        | inl standing ↦ tree_named def breaks.comes.n breaks.tree breaks.comes.place shape damage standing.page standing.rule
        | inr space ↦ names_space shape breaks.mid damage space
      ]
      | inr index ↦ index_named def breaks.comes.n breaks.tree breaks.comes.place shape damage index.page index.rule
    ];
    broken = λ owners forests st own none.
        let next = next_index GainsEntry shape noted breaks.now s breaks.mid breaks.tree breaks.x breaks.comes owners forests st in
        elim breaks.breaks [
          | inl tree_or_map ↦ elim tree_or_map [
            | inl standing ↦ standing.broken next.owners_mid next.t next.stands
            | inr space ↦ breaks_space_never damage next.stands.map space
          ]
          | inr index ↦ (unlisted_absent def values block small has keys) forests breaks.comes.n breaks.x next.t none next.there next.entry (index.wrong next.owners_mid next.t next.stands)
        ];
  }

  pub breaks_unlisting : (shape : Shape) (noted : SpaceNotes) (s : S) (damage : Damage) → BreaksUnlisting g shape noted s def cell.values block damage → BreaksAround g shape s def block (λ owners forests. IsListedInEach def forests values block) damage
  breaks_unlisting shape noted s damage breaks = record {
    names = names_unlisting g def cell.values block shape noted s damage breaks;
    broken = λ owners forests st own listed.
        let next = next_index LosesEntry shape noted breaks.now s breaks.mid breaks.tree breaks.x breaks.comes owners forests st in
        elim breaks.breaks [
          | inl tree_or_return ↦ elim tree_or_return [
            | inl broken ↦ broken.broken next.t next.stands.held
            | inr at_return ↦
                let then = at_return.map next.owners_mid (next.t, next.stands) in
                elim at_return.breaks [
                  | inl space ↦ breaks_space_never damage then.1 space
                  | inr unused ↦ unused.not_used then.0 (map_page_told then.1 then.2) then.2
                ]
          ]
          | inr index ↦ index.wrong next.owners_mid next.t next.stands ((listed_there def values block small has keys) forests breaks.comes.n breaks.x next.t listed next.there next.entry)
        ];
  }

  -- a full map
  pub full_listing : (shape : Shape) (before noted : SpaceNotes) (old new : S) (owners : List Kind) (forests : TableForests) → FillsListing g shape before noted old new def cell.values block → StandsAround g shape old def owners forests block
      → AreRightNotes shape before owners → MeetsNoFree g shape new
  full_listing shape before noted old new owners forests fills st notes =
      let next = next_index GainsEntry shape before fills.now old fills.mid fills.tree fills.x fills.comes owners forests st in
      let found = fills.full next.owners_mid next.t next.stands in
      record {
        owners = with_pages shape next.owners_mid found.meets.claimed;
        map = found.stands.map;
        none_free = (found.meets.full (next.notes notes)).no_free;
      }
