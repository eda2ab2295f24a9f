-- What a row more in a block changes of space, or one in the place of another.
use Rattle.std.proofs.Common.{◌≡◌, ◌<◌, ◌+◌, ◌^◌, ℕ, List, [], ◌∷◌, length, refl, ap, arith, sym, ◌∙◌, subst}
use Rattle.std.specs.Prelude.{None, Option, slice_index_or}
use Rattle.mdc_words.specs.ByteOrder.{Entry}
use Rattle.mdc_values.specs.declared.rid.Rid.{Rid}
use Rattle.mdc_ast.specs.declared.definition.TableDef.{TableDef}
use Rattle.mdc_ast.specs.declared.row.Row.{Row}
use Rattle.store_api.specs.RunsOverPages.{RunsOverPages}
use Rattle.store_api.specs.declared.fault.Damage.{Damage}
use Rattle.store_api.specs.declared.fault.StoreFault.{StoreFault}
use Rattle.store_api.specs.declared.pages.Pages.{Ghosts}
use Rattle.store_api.specs.declared.shape.Shape.{Shape}
use Rattle.store_api.proofs.FrameLemmas.{touches_same, touches_then}
use Rattle.extent_map.specs.declared.kind.Kind.{Kind}
use Rattle.row_page.specs.RowPage.{count_rows}
use Rattle.entry_tree.specs.Forest.{Forest}
use Rattle.entry_tree.specs.HeldTrees.{HoldsTree, IsTreePage}
use Rattle.entry_tree.specs.declared.tree.Tree.{Tree}
use Rattle.block_map.specs.BlockMaps.{HasRow, IsMapForm}
use Rattle.block_map.specs.Counting.{used_row}
use Rattle.block_map.specs.MapChanges.{ChangesRowTo}
use Rattle.block_map.specs.MapLines.{map_entry}
use Rattle.block_map.specs.MapRows.{row_entry}
use Rattle.block_map.specs.declared.row.BlockRow.{BlockRow}
use Rattle.block_map.specs.declared.state.BlockState.TheVariants as state
use Rattle.mdc_ast.specs.TableLimits.{IsTableDef}
use Rattle.table_trees.specs.SpaceChanges.{IsSameSpace, MakesChanges}
use Rattle.table_trees.specs.SpaceChanges.SpaceChange.{AmendEntry}
use Rattle.table_trees.specs.TableTrees.{map_place}
use Rattle.mdc_sound.specs.Placing.{Spot}
use Rattle.mdc_sound.specs.Placing.Spot.{OtherBlock}
use Rattle.mdc_sound.specs.RunningFull.{block_changes}
use Rattle.mdc_sound.specs.StandingTable.{HasRowAt, IsPageOfBlock, StandsTable, TableForests, pages_of, spots_of}
use Rattle.table_blocks.specs.BlockChanges.{BreaksAround}
use Rattle.table_blocks.specs.BlockSteps.{HasEmptySlot, HasRoomAt}
use Rattle.table_blocks.proofs.BlockSpaceLemmas.{line_used, rows_same}
use Rattle.table_blocks.proofs.CountedSpaceLemmas.{counted_space}
use Rattle.table_blocks.proofs.FillingLemmas.{opens}
use Rattle.table_blocks.proofs.OpeningLemmas.{around_block, used_spot_now}

module _ {S : Type 0} {g : Ghosts S} where
  -- a row in the place of another
  pub overwritten_space : {Kinds : ℕ → Type 0} {Breaks : Damage → Type 0} {fault : Option StoreFault} (shape : Shape) (old mid new : S) (def : TableDef) (rid : Rid) → IsTableDef def.number def
      → (g.state mid).is_told ≡ (g.state old).is_told → (g.state mid).work ≡ (g.state old).work → RunsOverPages g (IsPageOfBlock shape rid.block) Kinds Breaks mid new fault
      → length (g.state new).work ≡ length (g.state mid).work → (owners : List Kind) (forests : TableForests) → StandsTable g shape old def owners forests → HasRowAt g shape old def rid owners forests
      → IsSameSpace shape (pages_of g old) (pages_of g new)
  overwritten_space shape old mid new def rid defined told same run count owners forests st has =
      let now = (used_spot_now shape old def owners forests defined st rid.block has.slots (has.lies.block OtherBlock)).1 in
      rows_same shape old new def rid.block owners forests (around_block shape old def owners forests defined st rid.block) now.own
      (touches_then (touches_same told same) run.touches) (run.works.steady.is_told ∙ told) (count ∙ ap length same)

  -- a row more: the block's line, and then the row
  module _ {Any : Damage → Type 0} (shape : Shape) (old : S) (def : TableDef) (line : BlockRow) (defined : IsTableDef def.number def) (low : line.block < shape.extents) (few : line.rows < 2 ^ 16) (tree : Tree)
      (root : tree.root ≡ def.roots.map) (width : tree.width ≡ 7) (mid : S) (rows : ℕ) (there : (t : Forest) → HoldsTree g old tree t → HasRow line t)
      (changes : (t : Forest) → HoldsTree g old tree t → IsMapForm t → ChangesRowTo g mid tree line (used_row line.block rows) t) (count : length (g.state mid).work ≡ length (g.state old).work)
      (replaced : RunsOverPages g (IsTreePage g old tree) (IsTreePage g old tree) Any old mid None) where
    pub filling_space : (row : Row) (new : S) → rows ≡ line.rows + 1 → line.state ≡ state.Used → RunsOverPages g (IsPageOfBlock shape line.block) (IsPageOfBlock shape line.block) (BreaksAround g shape mid def line.block (HasEmptySlot g shape mid def line.block)) mid new None
        → length (g.state new).work ≡ length (g.state mid).work
        → (owners : List Kind) (forests : TableForests) → StandsTable g shape old def owners forests → HasRoomAt g shape old def line row owners forests
        → MakesChanges shape (pages_of g old) (block_changes def row line.block (slice_index_or (spots_of g shape old def owners forests) line.block OtherBlock)) (pages_of g new)
    filling_space row new more used run same_count owners forests st at =
        let o = (opens shape old def line defined low few row owners forests st at).0.here in
        let n = count_rows o.slots in
        let was : row_entry line ≡ map_entry line.block 1 n = ap row_entry (line_used line line.block n refl used o.counted) in
        let is : row_entry (used_row line.block rows) ≡ map_entry line.block 1 (n + 1) = ap (map_entry line.block 1) (omega (arith, more, o.counted)) in
        let made =
        counted_space shape old mid def line rows defined low tree root width there changes count replaced new run.touches run.works.steady.is_told same_count owners forests st o.now.own in
        let named : MakesChanges shape (pages_of g old) (AmendEntry (map_place def) (map_entry line.block 1 n) (map_entry line.block 1 (n + 1)) ∷ []) (pages_of g new) =
        subst (λ (y : Entry). MakesChanges shape (pages_of g old) (AmendEntry (map_place def) (map_entry line.block 1 n) y ∷ []) (pages_of g new)) is
        (subst (λ (x : Entry). MakesChanges shape (pages_of g old) (AmendEntry (map_place def) x (row_entry (used_row line.block rows)) ∷ []) (pages_of g new)) was made) in
        subst (λ (spot : Spot). MakesChanges shape (pages_of g old) (block_changes def row line.block spot) (pages_of g new)) (sym (o.was OtherBlock)) named
