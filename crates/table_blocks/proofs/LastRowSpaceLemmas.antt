-- What the last row of a block changes of space: all that releasing the block does.
use Rattle.std.proofs.Common.{◌≡◌, ◌<◌, ◌≤◌, ◌^◌, ℕ, List, ◌∷◌, ap, arith, sym, ◌∙◌, length, subst}
use Rattle.std.specs.Prelude.{None, Option}
use Rattle.mdc_words.specs.ByteOrder.{Entry}
use Rattle.mdc_values.specs.declared.rid.Rid.{Rid}
use Rattle.mdc_ast.specs.declared.definition.TableDef.{TableDef}
use Rattle.mdc_ast.specs.declared.row.Cell.{Cell}
use Rattle.mdc_ast.specs.declared.row.Row.{Row}
use Rattle.store_api.specs.Causes.{NoDamage}
use Rattle.store_api.specs.Frame.{NoPage}
use Rattle.store_api.specs.RunsOverPages.{RunsOverPages}
use Rattle.store_api.specs.declared.fault.Damage.{Damage}
use Rattle.store_api.specs.declared.pages.Pages.{Ghosts}
use Rattle.store_api.specs.declared.shape.Shape.{Shape}
use Rattle.extent_map.specs.declared.kind.Kind.{Kind}
use Rattle.row_page.specs.RowPage.{count_rows}
use Rattle.mdc_ast.specs.TableLimits.{IsTableDef}
use Rattle.entry_tree.specs.HeldTrees.{IsTreePage}
use Rattle.entry_tree.specs.declared.tree.Tree.{Tree}
use Rattle.block_map.specs.BlockMaps.{HasRow}
use Rattle.block_map.specs.Counting.{used_row}
use Rattle.block_map.specs.MapLines.{map_entry}
use Rattle.block_map.specs.declared.row.BlockRow.{BlockRow}
use Rattle.block_map.specs.declared.state.BlockState.TheVariants as state
use Rattle.table_trees.specs.RowCells.{IsCellOf}
use Rattle.table_trees.specs.SpaceChanges.{MakesChanges, removed_entries}
use Rattle.table_trees.specs.SpaceChanges.SpaceChange.{AmendEntry}
use Rattle.table_trees.specs.TableTrees.{TreePlace, map_place}
use Rattle.mdc_sound.specs.Placing.{IsRowAt}
use Rattle.mdc_sound.specs.RunningFull.{left_changes}
use Rattle.mdc_sound.specs.StandingTable.{IsPageOfBlock, StandsTable, TableForests, pages_of, spots_of}
use Rattle.table_blocks.specs.AroundBlock.{StandsAround}
use Rattle.table_blocks.specs.BlockChanges.{BreaksAround}
use Rattle.table_blocks.specs.BlockNow.{IsOwnBlock}
use Rattle.table_blocks.specs.BlockSteps.{HasFilledSlot, released_changes}
use Rattle.table_blocks.proofs.AroundLemmas.{some_notes}
use Rattle.table_blocks.proofs.BlockSpaceLemmas.{rows_same}
use Rattle.table_blocks.proofs.ClearedSlotsLemmas.{count_cleared}
use Rattle.table_blocks.proofs.LastRowLemmas.{cleared_change, opens, line_counted, so_far}
use Rattle.table_blocks.proofs.ListedSpaceLemmas.{listings_are}
use Rattle.table_trees.proofs.SpaceChainsLemmas.{changes_from}

module _ {S : Type 0} {g : Ghosts S} {Any : Damage → Type 0} (shape : Shape) (s : S) (def : TableDef) (defined : IsTableDef def.number def) (rid : Rid) (low : rid.block < shape.extents) (rows : ℕ) (few : rows < 2 ^ 16)
    (there : (owners : List Kind) (forests : TableForests) → StandsTable g shape s def owners forests → HasRow (used_row rid.block rows) forests.map) (tree : Tree) (root : tree.root ≡ def.roots.map) (width : tree.width ≡ 7)
    (row : Row) (cell : Cell) (is_cell : IsCellOf def cell row.values) (looked cleared : S) (first : RunsOverPages g NoPage (IsTreePage g s tree) Any s looked None) (as_was : (g.state looked).work ≡ (g.state s).work)
    (second : RunsOverPages g (IsPageOfBlock shape rid.block) (IsPageOfBlock shape rid.block) (BreaksAround g shape looked def rid.block (HasFilledSlot rid.slot g shape looked def rid.block)) looked cleared None)
    (count : length (g.state cleared).work ≡ length (g.state looked).work) where
  pub last_space : (line : BlockRow) → line ≡ used_row rid.block rows → (new : S)
      → ((owners : List Kind) (forests : TableForests) → StandsAround g shape cleared def owners forests line.block → IsOwnBlock shape owners def line.block
      → MakesChanges shape (pages_of g cleared) (released_changes def cell state.Free line) (pages_of g new))
      → (owners : List Kind) (forests : TableForests) → StandsTable g shape s def owners forests → rows ≤ 1 → (slots : List (Option Row)) → IsRowAt (spots_of g shape s def owners forests) rid row slots
      → MakesChanges shape (pages_of g s) (left_changes def row rid.block (count_rows slots)) (pages_of g new)
  last_space line is new made owners forests st last slots lies =
      let o = opens shape s def defined rid low rows few there owners forests st in
      let run = so_far shape s def defined rid low rows few there tree root width row looked cleared first as_was second count {Breaks = NoDamage} in
      let stays = rows_same shape s cleared def rid.block owners forests o.0 o.1 run.touches run.works.steady.is_told (count ∙ ap length as_was) in
      let step = cleared_change shape s def defined rid low rows few there tree root width row looked cleared first as_was second count some_notes owners forests o.0 o.1 in
      let counted = line_counted shape s def defined rid low rows few there row slots owners forests st lies in
      let one : count_rows slots ≡ 1 = omega (arith, counted, last, count_cleared slots rid.slot row lies.slot) in
      let row_is : rows ≡ 1 = counted ∙ one in
      let released : MakesChanges shape (pages_of g cleared) (released_changes def cell state.Free (used_row rid.block rows)) (pages_of g new) =
      subst
      (λ (l : BlockRow). (owners : List Kind) (forests : TableForests) → StandsAround g shape cleared def owners forests l.block → IsOwnBlock shape owners def l.block
      → MakesChanges shape (pages_of g cleared) (released_changes def cell state.Free l) (pages_of g new))
      is made owners forests step.stands o.1 in
      let single : MakesChanges shape (pages_of g cleared) (left_changes def row rid.block 1) (pages_of g new) =
      subst
      (λ (listings : List (TreePlace × Entry)). MakesChanges shape (pages_of g cleared) (AmendEntry (map_place def) (map_entry rid.block 1 1) (map_entry rid.block 0 0) ∷ removed_entries listings) (pages_of g new))
      (listings_are def cell row rid.block is_cell)
      (subst (λ (n : ℕ). MakesChanges shape (pages_of g cleared) (released_changes def cell state.Free (used_row rid.block n)) (pages_of g new)) row_is released) in
      changes_from shape (pages_of g s) (pages_of g cleared) (pages_of g new) (left_changes def row rid.block (count_rows slots)) stays
      (subst (λ (n : ℕ). MakesChanges shape (pages_of g cleared) (left_changes def row rid.block n) (pages_of g new)) (sym one) single)
