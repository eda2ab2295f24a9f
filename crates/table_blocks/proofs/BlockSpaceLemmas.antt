-- What one call of a run on a block changes of space: nothing where it writes rows, and an entry of the block map where it writes
-- the block's line.
use Rattle.std.proofs.Common.{◌≡◌, ℕ, length, ap, ◌∙◌, subst}
use Rattle.std.specs.Prelude.{List, Some}
use Rattle.mdc_ast.specs.declared.definition.TableDef.{TableDef}
use Rattle.store_api.specs.Frame.{Touches}
use Rattle.store_api.specs.declared.pages.Pages.{Ghosts}
use Rattle.store_api.specs.declared.shape.Shape.{Shape}
use Rattle.extent_map.specs.Owners.{extent_of, owner_of, place_in_extent}
use Rattle.extent_map.specs.declared.kind.Kind.{Kind}
use Rattle.extent_map.proofs.UsedPagesLemmas.{no_space_page}
use Rattle.entry_tree.specs.HeldTrees.{IsTreePage}
use Rattle.entry_tree.specs.declared.tree.Tree.{Tree}
use Rattle.block_map.specs.MapChanges.{ChangesRowTo}
use Rattle.block_map.specs.MapRows.{row_entry}
use Rattle.block_map.specs.declared.row.BlockRow.{BlockRow}
use Rattle.block_map.specs.declared.state.BlockState.TheVariants as state
use Rattle.table_trees.specs.SpaceChanges.{IsSameSpace, MakesChange}
use Rattle.table_trees.specs.SpaceChanges.SpaceChange.{AmendEntry}
use Rattle.table_trees.specs.TableTrees.{map_place, place_of_tree}
use Rattle.table_trees.specs.TreesBeside.{table_of_block}
use Rattle.table_trees.proofs.KeptOwnersLemmas.{used_no_block}
use Rattle.table_trees.proofs.TableTreesLemmas.{same_tree_place}
use Rattle.mdc_sound.specs.StandingTable.{IsPageOfBlock, TableForests}
use Rattle.table_blocks.specs.AroundBlock.{StandsAround}
use Rattle.table_blocks.specs.BlockNow.{IsOwnBlock}
use Rattle.table_blocks.proofs.LineStepLemmas.{map_around}
use Rattle.table_trees.proofs.SpaceStepsLemmas.{amendment_makes, space_stays}
use Rattle.block_map.specs.Counting.{used_row}

-- the line of a Used block, by what it says
pub line_used : (line : BlockRow) (block rows : ℕ) → line.block ≡ block → line.state ≡ state.Used → line.rows ≡ rows → line ≡ used_row block rows
line_used line block rows here used counted =
    ap (λ (b : ℕ). record { block = b; state = line.state; rows = line.rows }) here
    ∙ ap (λ s. record { block = block; state = s; rows = line.rows }) used ∙ ap (used_row block) counted

module _ {S : Type 0} {g : Ghosts S} where
  -- a call on the rows of the block
  pub rows_same : (shape : Shape) (old new : S) (def : TableDef) (block : ℕ) (owners : List Kind) (forests : TableForests) → StandsAround g shape old def owners forests block → IsOwnBlock shape owners def block
      → Touches g (IsPageOfBlock shape block) old new → (g.state new).is_told ≡ (g.state old).is_told → length (g.state new).work ≡ length (g.state old).work
      → IsSameSpace shape (g.state old).work (g.state new).work
  rows_same shape old new def block owners forests st own touched told count =
      space_stays shape old new owners (IsPageOfBlock shape block) st.trees.map st.told told count touched
      (λ p mine used.
      let none = used_no_block (place_in_extent shape p) (owner_of owners (extent_of shape p)) used.used in
      let some : table_of_block (owner_of owners (extent_of shape p)) ≡ Some def.number = ap table_of_block (ap (owner_of owners) mine.1 ∙ own.owned) in
      absurd (cc))
      (λ p mine on_map. no_space_page shape p mine.0 on_map)

  -- a call that writes its line
  pub line_makes : (tree : Tree) (def : TableDef) → tree.root ≡ def.roots.map → tree.width ≡ 7 → (shape : Shape) (old new : S) (block : ℕ) (was is : BlockRow) (owners : List Kind) (forests : TableForests)
      → StandsAround g shape old def owners forests block → ChangesRowTo g new tree was is forests.map → Touches g (IsTreePage g old tree) old new → (g.state new).is_told ≡ (g.state old).is_told
      → length (g.state new).work ≡ length (g.state old).work
      → MakesChange shape (g.state old).work (AmendEntry (map_place def) (row_entry was) (row_entry is)) (g.state new).work
  line_makes tree def root width shape old new block was is owners forests st changes touched told count =
      subst (λ place. MakesChange shape (g.state old).work (AmendEntry place (row_entry was) (row_entry is)) (g.state new).work) (same_tree_place (place_of_tree tree) (map_place def) root width)
      (amendment_makes shape old new tree (row_entry was) (row_entry is) owners forests.map (map_around tree def root width shape old owners forests block st) st.told told count touched changes)
