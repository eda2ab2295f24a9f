-- A row more in a block of which the block map counted one more, where it had fewer rows than slots.
use Rattle.std.proofs.Common.{◌≡◌, ◌<◌, ◌*◌, ◌+◌, ◌^◌, ℕ, List, [], ◌∷◌, refl, arith, length}
use Rattle.std.specs.Prelude.{Contains, None, Option, Some, slice_index_or, slice_set}
use Rattle.mdc_ast.specs.declared.definition.TableDef.{TableDef}
use Rattle.mdc_ast.specs.declared.row.Row.{Row}
use Rattle.store_api.specs.RunsOverPages.{RunsOverPages}
use Rattle.store_api.specs.declared.fault.StoreFault.{StoreFault}
use Rattle.store_api.specs.declared.pages.Pages.{Ghosts}
use Rattle.store_api.specs.declared.shape.Shape.{Shape}
use Rattle.extent_map.specs.declared.kind.Kind.{Kind}
use Rattle.extent_map.specs.declared.space_notes.SpaceNotes.{SpaceNotes}
use Rattle.row_page.specs.RowPage.{slot_count}
use Rattle.entry_tree.specs.Forest.{Forest}
use Rattle.entry_tree.specs.HeldTrees.{HoldsTree, IsTreePage}
use Rattle.entry_tree.specs.declared.tree.Tree.{Tree}
use Rattle.block_map.specs.BlockMaps.{AnyMap, BreaksMapTree, HasRow, IsMapForm}
use Rattle.block_map.specs.Counting.{used_row}
use Rattle.block_map.specs.MapChanges.{ChangesRowTo}
use Rattle.block_rows.specs.HeldRows.{HoldsRows}
use Rattle.block_rows.specs.Seats.{IsSeat}
use Rattle.mdc_ast.specs.TableLimits.{IsTableDef}
use Rattle.table_trees.specs.SpaceChanges.{MakesChanges}
use Rattle.mdc_ast.specs.FittingRows.{RowFits}
use Rattle.mdc_sound.specs.Placing.{HasRoomFor}
use Rattle.mdc_sound.specs.Placing.Spot.{OtherBlock}
use Rattle.mdc_sound.specs.RunningFull.{block_changes}
use Rattle.mdc_sound.specs.StandingTable.{BreaksTable, IsBlockOrMapPage, IsPageOfBlock, StandsTable, TableForests, pages_of, spots_of}
use Rattle.table_blocks.specs.BlockChanges.{BreaksAround}
use Rattle.table_blocks.specs.BlockSteps.{FillsSlot, HasEmptySlot, HasRoomAt, IsBlockOfCell}
use Rattle.table_blocks.proofs.FillingLemmas.{fills, opens_counted, room_at, runs_counted}
use Rattle.table_blocks.proofs.FillingSpaceLemmas.{filling_space}
use Rattle.table_blocks.proofs.MapOfTableLemmas.{map_of_table}

-- The line of a Used block with fewer rows than slots counts one more.
pub record CountsRow {S : Type 0} (g : Ghosts S) (shape : Shape) (old new : S) (def : TableDef) (block : ℕ) (tree : Tree) (had : ℕ) : Type 0 where
  pub defined : IsTableDef def.number def
  pub low : block < shape.extents
  pub root : tree.root ≡ def.roots.map
  pub width : tree.width ≡ 7
  pub few : had < 2 ^ 16
  pub fewer : had < shape.extent_pages * slot_count def.columns
  pub there : (t : Forest) → HoldsTree g old tree t → HasRow (used_row block had) t
  pub changes : (t : Forest) → HoldsTree g old tree t → IsMapForm t → ChangesRowTo g new tree (used_row block had) (used_row block (had + 1)) t
  pub count : length (g.state new).work ≡ length (g.state old).work
  pub run : RunsOverPages g (IsTreePage g old tree) (IsTreePage g old tree) (BreaksMapTree g old tree AnyMap) old new None

-- a slot with a row
there_at_first : (slots : List (Option Row)) (first : Row) → slice_index_or slots 0 None ≡ Some first → Contains slots (Some first)
there_at_first [] first is = absurd cc
there_at_first (slot ∷ slots) first is = (0, omega arith, is)

module _ {S : Type 0} {g : Ghosts S} {shape : Shape} {old mid : S} {def : TableDef} {block : ℕ} {tree : Tree} {had : ℕ} (is : CountsRow g shape old mid def block tree had) where
  pub runs_room : {fault : Option StoreFault} (new : S)
      → RunsOverPages g (IsPageOfBlock shape block) (IsPageOfBlock shape block) (BreaksAround g shape mid def block (HasEmptySlot g shape mid def block)) mid new fault
      → RunsOverPages g (IsBlockOrMapPage g shape old def block) (IsBlockOrMapPage g shape old def block) (BreaksTable g shape old def) old new fault
  runs_room new behind = runs_counted shape old def (used_row block had) is.defined is.low is.few tree is.root is.width mid (had + 1) is.there is.changes is.count is.run refl is.fewer new behind

  room_found : (row : Row) (owners : List Kind) (forests : TableForests) → StandsTable g shape old def owners forests → IsBlockOfCell g shape old def block row owners forests
      → HasRoomAt g shape old def (used_row block had) row owners forests
  room_found row owners forests st cell =
      room_at shape old def (used_row block had) is.defined is.low is.few row refl is.fewer owners forests st (is.there forests.map (map_of_table shape old def is.defined tree is.root is.width owners forests st)) cell

  -- it is one of the row's cell, by the row in its lowest slot
  seat_of_cell : (row : Row) (slot : ℕ) → ((slots : List (Option Row)) → HoldsRows g shape old def block slots → IsSeat def row slots slot)
      → (owners : List Kind) (forests : TableForests) → StandsTable g shape old def owners forests → IsBlockOfCell g shape old def block row owners forests
  seat_of_cell row slot seats owners forests st =
      let line = used_row block had in
      let here = (opens_counted shape old def line is.defined is.low is.few refl is.fewer owners forests st (is.there forests.map (map_of_table shape old def is.defined tree is.root is.width owners forests st))).here in
      let begins = (seats here.slots here.now.rows).begins in
      record { slots = here.slots; spot = here.was OtherBlock; other = begins.first; there = there_at_first here.slots begins.first begins.there; one_cell = begins.one_cell }

  module _ (row : Row) (new : S) (slot : ℕ)
      (behind : RunsOverPages g (IsPageOfBlock shape block) (IsPageOfBlock shape block) (BreaksAround g shape mid def block (HasEmptySlot g shape mid def block)) mid new None)
      (same_count : length (g.state new).work ≡ length (g.state mid).work) (seats : (slots : List (Option Row)) → HoldsRows g shape old def block slots → IsSeat def row slots slot) where
    pub fills_room : RowFits def row → ((slots : List (Option Row)) → HoldsRows g shape mid def block slots → HoldsRows g shape new def block (slice_set slots slot (Some row)))
        → (noted : SpaceNotes) (owners : List Kind) (forests : TableForests) → StandsTable g shape old def owners forests
        → HasRoomFor def row (slice_index_or (spots_of g shape old def owners forests) block OtherBlock) × FillsSlot g shape noted old new def (record { block = block; slot = slot }) row owners forests
    fills_room fits puts noted owners forests st =
        let at = room_found row owners forests st (seat_of_cell row slot seats owners forests st) in
        (at.room, fills shape old def (used_row block had) is.defined is.low is.few tree is.root is.width mid (had + 1) is.there is.changes is.count is.run row new slot refl fits behind same_count (λ slots was now. ((seats slots was).lowest, puts slots now)) noted owners forests st at)

    pub room_space : (owners : List Kind) (forests : TableForests) → StandsTable g shape old def owners forests
        → MakesChanges shape (pages_of g old) (block_changes def row block (slice_index_or (spots_of g shape old def owners forests) block OtherBlock)) (pages_of g new)
    room_space owners forests st =
        filling_space shape old def (used_row block had) is.defined is.low is.few tree is.root is.width mid (had + 1) is.there is.changes is.count is.run row new refl refl behind same_count owners forests st
        (room_found row owners forests st (seat_of_cell row slot seats owners forests st))
