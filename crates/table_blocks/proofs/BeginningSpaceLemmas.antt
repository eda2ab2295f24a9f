-- What a block that comes into use changes of space: its entries in the block indexes, behind its line where it was Free.
use Rattle.std.proofs.Common.{◌≡◌, ◌<◌, ℕ, List, [], ◌∷◌, length, ◌∙◌, subst}
use Rattle.std.specs.Prelude.{Contains, IsTrue, None}
use Rattle.mdc_words.specs.ByteOrder.{Entry}
use Rattle.mdc_ast.specs.declared.definition.TableDef.{TableDef}
use Rattle.mdc_ast.specs.declared.row.Cell.{Cell}
use Rattle.mdc_ast.specs.declared.row.Row.{Row}
use Rattle.store_api.specs.RunsOverPages.{RunsOverPages}
use Rattle.store_api.specs.declared.pages.Pages.{Ghosts}
use Rattle.store_api.specs.declared.shape.Shape.{Shape}
use Rattle.store_api.proofs.FrameLemmas.{touches_then}
use Rattle.extent_map.specs.Damages.{IfFull}
use Rattle.extent_map.specs.Owners.{AreRightNotes}
use Rattle.extent_map.specs.declared.fault.SpaceFault.{SpaceFault}
use Rattle.extent_map.specs.declared.fault.SpaceFault.TheVariants.{Full, Store}
use Rattle.extent_map.specs.declared.kind.Kind.{Kind}
use Rattle.extent_map.specs.declared.space_notes.SpaceNotes.{SpaceNotes}
use Rattle.entry_tree.specs.Forest.{Forest}
use Rattle.entry_tree.specs.HeldTrees.{HoldsTree, IsTreePage}
use Rattle.entry_tree.specs.declared.tree.Tree.{Tree}
use Rattle.mdc_ast.specs.TableLimits.{IsTableDef}
use Rattle.block_index.specs.Cells.{index_listings}
use Rattle.block_map.specs.BlockMaps.{BreaksMapTree, HasRow, IsMapForm}
use Rattle.block_map.specs.Counting.{used_row}
use Rattle.block_map.specs.MapChanges.{ChangesRowTo}
use Rattle.block_map.specs.MapLines.{free_blocks, map_entry}
use Rattle.block_map.specs.MapRows.{row_entry}
use Rattle.block_map.specs.declared.row.BlockRow.{BlockRow}
use Rattle.table_trees.specs.SpaceChanges.{IsSameSpace, MakesChange, MakesChanges, RunsFull, SpaceChange, added_entries}
use Rattle.table_trees.specs.SpaceChanges.SpaceChange.{AmendEntry}
use Rattle.table_trees.specs.TableTrees.{TreePlace, block_index_places, map_place}
use Rattle.table_trees.specs.TreesBeside.{StandTrees}
use Rattle.mdc_sound.specs.Placing.Spot.{FreeBlock}
use Rattle.mdc_sound.specs.RunningFull.{block_changes, block_listings}
use Rattle.mdc_sound.specs.StandingTable.{StandsTable, TableForests, pages_of}
use Rattle.mdc_sound.proofs.DefinitionTreesLemmas.{has_block_indexes}
use Rattle.table_blocks.specs.AroundBlock.{StandsAround}
use Rattle.table_blocks.specs.BlockNow.{IsOwnBlock, free_line}
use Rattle.table_blocks.proofs.AroundLemmas.{own_still, some_notes}
use Rattle.table_blocks.proofs.BlockSpaceLemmas.{line_makes, rows_same}
use Rattle.table_blocks.proofs.FillBegunLemmas.{PutsFirstRow, changes_put}
use Rattle.table_blocks.proofs.FreeBlockLemmas.{takes_line}
use Rattle.table_blocks.proofs.IndexStepLemmas.{indexes_around}
use Rattle.table_blocks.proofs.LineStepLemmas.{map_around}
use Rattle.table_blocks.proofs.ListedSpaceLemmas.{listings_are}
use Rattle.table_blocks.proofs.OpeningLemmas.{around_block, free_now}
use Rattle.table_trees.proofs.SpaceChainsLemmas.{changes_from, changes_then, full_then, no_changes, one_change}

-- ---- its first row, and its entries

module _ {S : Type 0} {g : Ghosts S} {shape : Shape} {old mid new : S} {def : TableDef} {block : ℕ} {row : Row} {cell : Cell} (is : PutsFirstRow g shape old mid new def block row cell) where
  -- rows alone are written before the listing
  rows_put : (owners : List Kind) (forests : TableForests) → StandsAround g shape old def owners forests block → IsOwnBlock shape owners def block → IsSameSpace shape (pages_of g old) (pages_of g new)
  rows_put owners forests st own =
      rows_same shape old new def block owners forests st own (touches_then is.wipes.touches is.puts.touches) (is.puts.works.steady.is_told ∙ is.wipes.works.steady.is_told) (is.put_count ∙ is.wipe_count)

  -- where the listing finds the block indexes
  indexes_put : (owners : List Kind) (forests : TableForests) → StandsAround g shape old def owners forests block → IsOwnBlock shape owners def block
      → IsTrue (g.state new).is_told × StandTrees g shape new owners (block_index_places def) (forests.composite ∷ forests.dims)
  indexes_put owners forests st own =
      let put = changes_put is some_notes owners forests st own in
      (put.stands.told, indexes_around def block (has_block_indexes def.number def is.defined) shape new owners forests put.stands)

  -- the block is listed
  pub filling_makes : (noted : SpaceNotes) (now : S)
      → ((owners : List Kind) (trees : List Forest) → StandTrees g shape new owners (block_index_places def) trees → IsTrue (g.state new).is_told → AreRightNotes shape noted owners
      → MakesChanges shape (g.state new).work (added_entries (index_listings def cell.values block)) (g.state now).work)
      → (owners : List Kind) (forests : TableForests) → StandsAround g shape old def owners forests block → IsOwnBlock shape owners def block → AreRightNotes shape noted owners
      → MakesChanges shape (pages_of g old) (added_entries (block_listings def row block)) (pages_of g now)
  filling_makes noted now makes owners forests st own notes =
      let at = indexes_put owners forests st own in
      let listed = makes owners (forests.composite ∷ forests.dims) at.1 at.0 notes in
      changes_from shape (pages_of g old) (pages_of g new) (pages_of g now) (added_entries (block_listings def row block)) (rows_put owners forests st own)
      (subst (λ (listings : List (TreePlace × Entry)). MakesChanges shape (pages_of g new) (added_entries listings) (pages_of g now)) (listings_are def cell row block is.of_row) listed)

  -- or an entry asks for too much
  pub filling_full : (noted : SpaceNotes) (fault : SpaceFault)
      → IfFull fault (λ cap. (owners : List Kind) (trees : List Forest) → StandTrees g shape new owners (block_index_places def) trees → IsTrue (g.state new).is_told → AreRightNotes shape noted owners
      → RunsFull shape (g.state new).work (added_entries (index_listings def cell.values block)))
      → IfFull fault (λ cap. (owners : List Kind) (forests : TableForests) → StandsAround g shape old def owners forests block → IsOwnBlock shape owners def block → AreRightNotes shape noted owners
      → RunsFull shape (pages_of g old) (added_entries (block_listings def row block)))
  filling_full noted (Full cap) full = λ owners forests st own notes.
      let at = indexes_put owners forests st own in
      let listed = full owners (forests.composite ∷ forests.dims) at.1 at.0 notes in
      full_then shape (pages_of g old) (pages_of g new) [] (added_entries (block_listings def row block)) (no_changes shape (pages_of g old) (pages_of g new) (rows_put owners forests st own))
      (subst (λ (listings : List (TreePlace × Entry)). RunsFull shape (pages_of g new) (added_entries listings)) (listings_are def cell row block is.of_row) listed)
  filling_full noted (Store fault) full = tt

-- ---- a Free block

module _ {S : Type 0} {g : Ghosts S} (shape : Shape) (old : S) (def : TableDef) (block : ℕ) (tree : Tree) (root : tree.root ≡ def.roots.map) (width : tree.width ≡ 7) (defined : IsTableDef def.number def)
    (mid : S) (line : BlockRow) (low : block < shape.extents) (is : line ≡ used_row block 1) (there : (t : Forest) → HoldsTree g old tree t → HasRow (free_line block) t)
    (changes : (t : Forest) → HoldsTree g old tree t → IsMapForm t → ChangesRowTo g mid tree (free_line block) line t) (count : length (g.state mid).work ≡ length (g.state old).work)
    (run : RunsOverPages g (IsTreePage g old tree) (IsTreePage g old tree) (BreaksMapTree g old tree (HasRow (free_line block))) old mid None) where
  -- its line becomes that of a block with one row
  abbrev taken : SpaceChange
  taken = AmendEntry (map_place def) (map_entry block 0 0) (map_entry block 1 1)

  -- that is a change of the block map
  line_taken : (owners : List Kind) (forests : TableForests) → StandsTable g shape old def owners forests → MakesChanges shape (pages_of g old) (taken ∷ []) (pages_of g mid)
  line_taken owners forests st =
      let around = around_block shape old def owners forests defined st block in
      let held = (map_around tree def root width shape old owners forests block around).held in
      let made = line_makes tree def root width shape old mid block (free_line block) line owners forests around (changes forests.map held around.map.form) run.touches run.works.steady.is_told count in
      one_change shape (pages_of g old) (pages_of g mid) taken
      (subst (λ (other : BlockRow). MakesChange shape (pages_of g old) (AmendEntry (map_place def) (row_entry (free_line block)) (row_entry other)) (pages_of g mid)) is made)

  -- what is said of the pages behind it
  behind_line : (noted : SpaceNotes) {Said : Type 0} → ((owners : List Kind) (forests : TableForests) → StandsAround g shape mid def owners forests block → IsOwnBlock shape owners def block → AreRightNotes shape noted owners → Said)
      → (owners : List Kind) (forests : TableForests) → StandsTable g shape old def owners forests → Contains (free_blocks forests.map) block → AreRightNotes shape noted owners → Said
  behind_line noted says owners forests st free notes =
      let own = (free_now shape old def owners forests defined st block free).own in
      let moves = takes_line shape old def block tree root width defined mid line low is there changes count run noted owners forests (around_block shape old def owners forests defined st block) own in
      says moves.owners_now moves.forests_now moves.changes.stands (own_still shape noted noted old mid def block owners moves.owners_now forests moves.forests_now moves.changes own) (moves.changes.trees.notes notes)

  -- it is filled
  pub free_makes : (noted : SpaceNotes) (row : Row) (new : S)
      → ((owners : List Kind) (forests : TableForests) → StandsAround g shape mid def owners forests block → IsOwnBlock shape owners def block → AreRightNotes shape noted owners
      → MakesChanges shape (pages_of g mid) (added_entries (block_listings def row block)) (pages_of g new))
      → (owners : List Kind) (forests : TableForests) → StandsTable g shape old def owners forests → Contains (free_blocks forests.map) block → AreRightNotes shape noted owners
      → MakesChanges shape (pages_of g old) (block_changes def row block FreeBlock) (pages_of g new)
  free_makes noted row new makes owners forests st free notes =
      changes_then shape (pages_of g old) (pages_of g mid) (pages_of g new) (taken ∷ []) (added_entries (block_listings def row block)) (line_taken owners forests st) (behind_line noted makes owners forests st free notes)

  -- or an entry asks for too much
  pub free_full : (noted : SpaceNotes) (row : Row) (fault : SpaceFault)
      → IfFull fault (λ cap. (owners : List Kind) (forests : TableForests) → StandsAround g shape mid def owners forests block → IsOwnBlock shape owners def block → AreRightNotes shape noted owners
      → RunsFull shape (pages_of g mid) (added_entries (block_listings def row block)))
      → IfFull fault (λ cap. (owners : List Kind) (forests : TableForests) → StandsTable g shape old def owners forests → Contains (free_blocks forests.map) block → AreRightNotes shape noted owners
      → RunsFull shape (pages_of g old) (block_changes def row block FreeBlock))
  free_full noted row (Full cap) full = λ owners forests st free notes.
      full_then shape (pages_of g old) (pages_of g mid) (taken ∷ []) (added_entries (block_listings def row block)) (line_taken owners forests st) (behind_line noted full owners forests st free notes)
  free_full noted row (Store fault) full = tt
