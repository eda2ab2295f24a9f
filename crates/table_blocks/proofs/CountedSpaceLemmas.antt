-- What another number of rows in the line of a block changes of space, with a call on the rows of the block behind it.
use Rattle.std.proofs.Common.{◌≡◌, ◌<◌, ℕ, List, [], ◌∷◌, None, length}
use Rattle.mdc_ast.specs.declared.definition.TableDef.{TableDef}
use Rattle.store_api.specs.Frame.{Touches}
use Rattle.store_api.specs.RunsOverPages.{RunsOverPages}
use Rattle.store_api.specs.declared.fault.Damage.{Damage}
use Rattle.store_api.specs.declared.pages.Pages.{Ghosts}
use Rattle.store_api.specs.declared.shape.Shape.{Shape}
use Rattle.extent_map.specs.declared.kind.Kind.{Kind}
use Rattle.entry_tree.specs.Forest.{Forest}
use Rattle.entry_tree.specs.HeldTrees.{HoldsTree, IsTreePage}
use Rattle.entry_tree.specs.declared.tree.Tree.{Tree}
use Rattle.block_map.specs.BlockMaps.{HasRow, IsMapForm}
use Rattle.block_map.specs.Counting.{used_row}
use Rattle.block_map.specs.MapChanges.{ChangesRowTo}
use Rattle.block_map.specs.MapRows.{row_entry}
use Rattle.block_map.specs.declared.row.BlockRow.{BlockRow}
use Rattle.mdc_ast.specs.TableLimits.{IsTableDef}
use Rattle.table_trees.specs.SpaceChanges.{MakesChange, MakesChanges}
use Rattle.table_trees.specs.SpaceChanges.SpaceChange.{AmendEntry}
use Rattle.table_trees.specs.TableTrees.{map_place}
use Rattle.mdc_sound.specs.StandingTable.{IsPageOfBlock, StandsTable, TableForests, pages_of}
use Rattle.table_blocks.specs.BlockNow.{IsOwnBlock}
use Rattle.table_blocks.proofs.AroundLemmas.{own_still, some_notes}
use Rattle.table_blocks.proofs.BlockSpaceLemmas.{line_makes, rows_same}
use Rattle.table_blocks.proofs.CountedLineLemmas.{moves}
use Rattle.table_blocks.proofs.LineStepLemmas.{map_around}
use Rattle.table_blocks.proofs.OpeningLemmas.{around_block}
use Rattle.table_blocks.proofs.SpotChangesLemmas.{same_change}
use Rattle.table_trees.proofs.SpaceChainsLemmas.{changes_to, one_change}

module _ {S : Type 0} {g : Ghosts S} {Any : Damage → Type 0} (shape : Shape) (old mid : S) (def : TableDef) (line : BlockRow) (rows : ℕ) (defined : IsTableDef def.number def) (low : line.block < shape.extents) (tree : Tree)
    (root : tree.root ≡ def.roots.map) (width : tree.width ≡ 7) (there : (t : Forest) → HoldsTree g old tree t → HasRow line t)
    (changes : (t : Forest) → HoldsTree g old tree t → IsMapForm t → ChangesRowTo g mid tree line (used_row line.block rows) t) (count : length (g.state mid).work ≡ length (g.state old).work)
    (replaced : RunsOverPages g (IsTreePage g old tree) (IsTreePage g old tree) Any old mid None) where
  pub counted_space : (new : S) → Touches g (IsPageOfBlock shape line.block) mid new → (g.state new).is_told ≡ (g.state mid).is_told → length (g.state new).work ≡ length (g.state mid).work
      → (owners : List Kind) (forests : TableForests) → StandsTable g shape old def owners forests → IsOwnBlock shape owners def line.block
      → MakesChanges shape (pages_of g old) (AmendEntry (map_place def) (row_entry line) (row_entry (used_row line.block rows)) ∷ []) (pages_of g new)
  counted_space new touched told same_count owners forests st own =
      let around = around_block shape old def owners forests defined st line.block in
      let held = (map_around tree def root width shape old owners forests line.block around).held in
      let m = (moves same_change shape old mid def line rows defined low tree root width there changes count replaced some_notes owners forests around own).0 in
      let change = AmendEntry (map_place def) (row_entry line) (row_entry (used_row line.block rows)) in
      let first : MakesChange shape (pages_of g old) change (pages_of g mid) =
      line_makes tree def root width shape old mid line.block line (used_row line.block rows) owners forests around (changes forests.map held around.map.form) replaced.touches replaced.works.steady.is_told count in
      let own_mid = own_still shape some_notes some_notes old mid def line.block owners m.owners_now forests m.forests_now m.changes own in
      let same = rows_same shape mid new def line.block m.owners_now m.forests_now m.changes.stands own_mid touched told same_count in
      changes_to shape (pages_of g old) (pages_of g mid) (pages_of g new) (change ∷ []) (one_change shape (pages_of g old) (pages_of g mid) change first) same
