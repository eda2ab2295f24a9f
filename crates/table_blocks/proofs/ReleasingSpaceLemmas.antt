-- What releasing a block changes of space: its line, and its entries in the block indexes.
use Rattle.std.proofs.Common.{◌≡◌, List, [], ◌∷◌, length}
use Rattle.std.specs.Prelude.{IsTrue, None}
use Rattle.mdc_ast.specs.TableLimits.{IsTableDef}
use Rattle.mdc_ast.specs.declared.definition.TableDef.{TableDef}
use Rattle.mdc_ast.specs.declared.row.Cell.{Cell}
use Rattle.store_api.specs.RunsOverPages.{RunsOverPages}
use Rattle.store_api.specs.declared.pages.Pages.{Ghosts}
use Rattle.store_api.specs.declared.shape.Shape.{Shape}
use Rattle.extent_map.specs.declared.kind.Kind.{Kind}
use Rattle.entry_tree.specs.Forest.{Forest}
use Rattle.entry_tree.specs.HeldTrees.{HoldsTree, IsTreePage}
use Rattle.entry_tree.specs.declared.tree.Tree.{Tree}
use Rattle.block_map.specs.BlockMaps.{BreaksMapTree, HasRow, IsMapForm}
use Rattle.block_map.specs.MapChanges.{ChangesRowTo}
use Rattle.block_map.specs.MapRows.{row_entry}
use Rattle.block_map.specs.declared.row.BlockRow.{BlockRow}
use Rattle.block_map.specs.declared.state.BlockState.{BlockState}
use Rattle.block_index.specs.Cells.{index_listings}
use Rattle.table_trees.specs.SpaceChanges.{MakesChanges, removed_entries}
use Rattle.table_trees.specs.SpaceChanges.SpaceChange.{AmendEntry}
use Rattle.table_trees.specs.TableTrees.{block_index_places, map_place}
use Rattle.table_trees.specs.TreesBeside.{StandTrees}
use Rattle.table_trees.proofs.SpaceChainsLemmas.{changes_then, one_change}
use Rattle.mdc_sound.specs.StandingTable.{TableForests, pages_of}
use Rattle.mdc_sound.proofs.DefinitionTreesLemmas.{has_block_indexes}
use Rattle.table_blocks.specs.AroundBlock.{StandsAround}
use Rattle.table_blocks.specs.BlockNow.{IsOwnBlock, released_line}
use Rattle.table_blocks.specs.BlockSteps.{released_changes}
use Rattle.table_blocks.proofs.AroundLemmas.{some_notes}
use Rattle.table_blocks.proofs.BlockSpaceLemmas.{line_makes}
use Rattle.table_blocks.proofs.IndexStepLemmas.{indexes_around}
use Rattle.table_blocks.proofs.LineStepLemmas.{map_around}
use Rattle.table_blocks.proofs.ReleasingLemmas.{moves_line}

module _ {S : Type 0} {g : Ghosts S} (def : TableDef) (defined : IsTableDef def.number def) (tree : Tree) (root : tree.root ≡ def.roots.map) (width : tree.width ≡ 7) (shape : Shape) (old : S) (line : BlockRow) (given : BlockState) (cell : Cell)
    (mid : S) (there : (t : Forest) → HoldsTree g old tree t → HasRow line t) (changes : (t : Forest) → HoldsTree g old tree t → IsMapForm t → ChangesRowTo g mid tree line (released_line given line.block) t)
    (count : length (g.state mid).work ≡ length (g.state old).work) (first : RunsOverPages g (IsTreePage g old tree) (IsTreePage g old tree) (BreaksMapTree g old tree (HasRow line)) old mid None) where
  pub releasing_space : (new : S)
      → ((owners : List Kind) (trees : List Forest) → StandTrees g shape mid owners (block_index_places def) trees → IsTrue (g.state mid).is_told
      → MakesChanges shape (g.state mid).work (removed_entries (index_listings def cell.values line.block)) (g.state new).work)
      → (owners : List Kind) (forests : TableForests) → StandsAround g shape old def owners forests line.block → IsOwnBlock shape owners def line.block
      → MakesChanges shape (pages_of g old) (released_changes def cell given line) (pages_of g new)
  releasing_space new leaves owners forests st own =
      let m = (moves_line def defined tree root width shape some_notes old line given cell mid there changes count first owners forests st own).0 in
      let held = (map_around tree def root width shape old owners forests line.block st).held in
      let amended = line_makes tree def root width shape old mid line.block line (released_line given line.block) owners forests st (changes forests.map held st.map.form) first.touches first.works.steady.is_told count in
      let stand = indexes_around def line.block (has_block_indexes def.number def defined) shape mid m.owners_now m.forests_now m.changes.stands in
      let left = leaves m.owners_now (m.forests_now.composite ∷ m.forests_now.dims) stand m.changes.stands.told in
      let change = AmendEntry (map_place def) (row_entry line) (row_entry (released_line given line.block)) in
      changes_then shape (pages_of g old) (pages_of g mid) (pages_of g new) (change ∷ []) (removed_entries (index_listings def cell.values line.block)) (one_change shape (pages_of g old) (pages_of g mid) change amended) left
