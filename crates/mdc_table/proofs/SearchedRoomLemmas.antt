-- What is done behind a search for a block with room: a row that goes into the block that was found, or into one that comes into use.
use Rattle.std.proofs.Common.{◌≡◌, ℕ, List, refl, sym, subst}
use Rattle.std.specs.Prelude.{Option, Some, None, slice_index_or}
use Rattle.mdc_words.specs.ByteOrder.{Entry}
use Rattle.mdc_values.specs.declared.rid.Rid.{Rid}
use Rattle.mdc_ast.specs.declared.definition.TableDef.{TableDef}
use Rattle.mdc_ast.specs.declared.row.Row.{Row}
use Rattle.store_api.specs.Frame.{NoPage, Touches}
use Rattle.store_api.specs.RunsOverPages.{RunsOverPages}
use Rattle.store_api.specs.declared.fault.StoreFault.{StoreFault}
use Rattle.store_api.specs.declared.pages.Pages.{Ghosts}
use Rattle.store_api.specs.declared.shape.Shape.{Shape}
use Rattle.extent_map.specs.Damages.{IfFull}
use Rattle.extent_map.specs.Owners.{AreRightNotes}
use Rattle.extent_map.specs.declared.fault.SpaceFault.{SpaceFault}
use Rattle.extent_map.specs.declared.kind.Kind.{Kind}
use Rattle.extent_map.specs.declared.space_notes.SpaceNotes.{SpaceNotes}
use Rattle.mdc_ast.specs.TableLimits.{IsTableDef}
use Rattle.block_map.specs.declared.row.BlockRow.{BlockRow}
use Rattle.block_map.specs.declared.state.BlockState.TheVariants as state
use Rattle.table_trees.specs.SpaceChanges.{MakesChanges}
use Rattle.mdc_ast.specs.FittingRows.{RowFits}
use Rattle.mdc_sound.specs.Placing.{HasRoomFor, HoldsNowhere}
use Rattle.mdc_sound.specs.Placing.Spot.{OtherBlock}
use Rattle.mdc_sound.specs.RunningFull.{block_changes}
use Rattle.mdc_sound.specs.StandingTable.{BreaksExpected, BreaksTable, IsBlockOrMapPage, IsReadyTable, IsTableSpace, IsTableTreePage, KeepsBlocksBut, MeetsNoFree, PlacesRow, StandsTable, TableForests, pages_of, spots_of}
use Rattle.mdc_sound.proofs.StandingTableLemmas.{stands_same}
use Rattle.table_blocks.specs.BlockSteps.{FillsSlot, HasRoomAt}
use Rattle.free_space.specs.FoundRoom.{FindsRoom, IsFirstRoom, cell_key_of}
use Rattle.free_space.specs.RoomNotes.{Notes, found_at, room_of}
use Rattle.free_space.specs.declared.rooms.Rooms.{Rooms}
use Rattle.free_space.proofs.RoomNotesLemmas.{noted_at_most, others_at_most}
use Rattle.mdc_table.specs.AnyPlace.{IsFreeSpot, PlacesAnywhere}
use Rattle.mdc_table.specs.NextBlock.{BeginsNext, FindsNoPlace, NextBlockRunsFull}
use Rattle.mdc_table.proofs.AnyPlaceLemmas.{begun_anywhere, filled_anywhere}
use Rattle.mdc_table.proofs.KeptBlocksLemmas.{keeps_along, keeps_in_block}
use Rattle.mdc_table.proofs.NextBlocksLemmas.{full_along, full_no_place, full_ready, runs_of_place, runs_space_expecting, runs_space_then}
use Rattle.mdc_table.proofs.PlacingRowsLemmas.{no_room_found, placed_in_cell, placed_in_next, room_at}
use Rattle.mdc_table.proofs.RowSpaceLemmas.{block_makes_along, row_full}

-- The first block with room for the row was looked for, from the noted one of its cell on; the work is as it was.
pub record SearchesRoom {S : Type 0} (g : Ghosts S) (shape : Shape) (old new : S) (def : TableDef) (row : Row) (rooms : Rooms) (key : Entry) (found : Option BlockRow) : Type 0 where
  pub defined : IsTableDef def.number def
  pub fits : RowFits def row
  pub of_cell : key ≡ cell_key_of def row.values
  pub same : (g.state new).work ≡ (g.state old).work
  pub run : RunsOverPages g NoPage (IsTableTreePage g shape old def) (BreaksTable g shape old def) old new None
  pub finds : (owners : List Kind) (forests : TableForests) → StandsTable g shape old def owners forests → FindsRoom def (spots_of g shape old def owners forests) forests.map row (room_of rooms key).from found

module _ {S : Type 0} {g : Ghosts S} {shape : Shape} {old mid : S} {def : TableDef} {row : Row} {rooms : Rooms} {key : Entry} {found : Option BlockRow} (is : SearchesRoom g shape old mid def row rooms key found) where
  told : (g.state mid).is_told ≡ (g.state old).is_told
  told = is.run.works.steady.is_told

  stands : (owners : List Kind) (forests : TableForests) → StandsTable g shape old def owners forests → StandsTable g shape mid def owners forests
  stands owners forests st = stands_same shape old mid def owners forests told is.same st

  -- ---- no block has room

  module _ (none : found ≡ None) where
    finds_none : (owners : List Kind) (forests : TableForests) → StandsTable g shape old def owners forests → FindsRoom def (spots_of g shape old def owners forests) forests.map row (room_of rooms key).from None
    finds_none owners forests st = subst (FindsRoom def (spots_of g shape old def owners forests) forests.map row (room_of rooms key).from) none (is.finds owners forests st)

    no_room : (noted : SpaceNotes) (owners : List Kind) (forests : TableForests) → IsReadyTable g shape noted (room_of rooms) old def owners forests → HoldsNowhere (HasRoomFor def row) (spots_of g shape old def owners forests)
    no_room noted owners forests ready = no_room_found forests.map row (room_of rooms) key is.of_cell ready.rooms (finds_none owners forests ready.stands)

    -- and none comes into use
    pub next_full : (noted : SpaceNotes) (new : S) (fault : SpaceFault)
        → IfFull fault (λ cap. (cap ≡ shape.extents) × ((owners : List Kind) (forests : TableForests) → StandsTable g shape mid def owners forests → AreRightNotes shape noted owners → MeetsNoFree g shape new))
        → IfFull fault (λ cap. (owners : List Kind) (forests : TableForests) → StandsTable g shape mid def owners forests → AreRightNotes shape noted owners → NextBlockRunsFull shape (pages_of g mid) def row owners forests.map)
        → IfFull fault (λ cap. (cap ≡ shape.extents) × ((owners : List Kind) (forests : TableForests) → IsReadyTable g shape noted (room_of rooms) old def owners forests → FindsNoPlace g shape old new def row owners forests))
    next_full noted new fault full runs_full =
        full_no_place g shape noted old new def row (room_of rooms) fault (no_room noted)
        (full_ready g shape noted old new def (room_of rooms) fault (full_along g shape noted old mid new def told is.same fault full))
        (row_full g shape old mid new def row told is.same noted (room_of rooms) fault (no_room noted) runs_full)

    -- or the row is the first of one
    pub next_placed : (before noted : SpaceNotes) (new : S) (now : Rooms) (block : ℕ)
        → ((owners : List Kind) (forests : TableForests) → StandsTable g shape mid def owners forests → BeginsNext g shape before noted mid new def block row owners forests) → Notes key (found_at block) rooms now
        → (owners : List Kind) (forests : TableForests) → IsReadyTable g shape before (room_of rooms) old def owners forests
        → PlacesRow g shape before noted (room_of now) old new def owners forests row (record { block = block; slot = 0 })
    next_placed before noted new now block begins notes owners forests ready =
        placed_in_next shape before noted old mid new def owners forests row (room_of rooms) (room_of now) is.defined is.fits told is.same ready block key is.of_cell (finds_none owners forests ready.stands)
        (begins owners forests (stands owners forests ready.stands)) (noted_at_most key (found_at block) rooms now notes) (others_at_most key (found_at block) rooms now notes)

  -- wherever it lies
  pub next_anywhere : (before noted : SpaceNotes) (new : S) (block : ℕ)
      → ((owners : List Kind) (forests : TableForests) → StandsTable g shape mid def owners forests → BeginsNext g shape before noted mid new def block row owners forests)
      → ((owners : List Kind) (forests : TableForests) → StandsTable g shape mid def owners forests → IsFreeSpot (slice_index_or (spots_of g shape mid def owners forests) block OtherBlock))
      → (owners : List Kind) (forests : TableForests) → StandsTable g shape old def owners forests → PlacesAnywhere g shape before noted old new def owners forests row (record { block = block; slot = 0 })
  next_anywhere before noted new block begins free owners forests st =
      begun_anywhere shape def row before noted old mid new told is.same owners forests block (free owners forests (stands owners forests st)) (begins owners forests (stands owners forests st)).begins

  -- its space, what it keeps, and its run
  pub next_makes : (noted : SpaceNotes) (new : S) (block : ℕ)
      → ((owners : List Kind) (forests : TableForests) → StandsTable g shape mid def owners forests → AreRightNotes shape noted owners
      → MakesChanges shape (pages_of g mid) (block_changes def row block (slice_index_or (spots_of g shape mid def owners forests) block OtherBlock)) (pages_of g new))
      → (owners : List Kind) (forests : TableForests) → IsReadyTable g shape noted (room_of rooms) old def owners forests
      → MakesChanges shape (pages_of g old) (block_changes def row block (slice_index_or (spots_of g shape old def owners forests) block OtherBlock)) (pages_of g new)
  next_makes noted new block makes owners forests ready =
      block_makes_along g shape old mid new def row told is.same owners forests block block refl (makes owners forests (stands owners forests ready.stands) ready.notes)

  pub next_stays : (new : S) (block : ℕ) → ((owners : List Kind) (forests : TableForests) → StandsTable g shape mid def owners forests → KeepsBlocksBut g shape mid new def owners (λ other. other ≡ block))
      → (owners : List Kind) (forests : TableForests) → StandsTable g shape old def owners forests → KeepsBlocksBut g shape old new def owners (λ other. other ≡ block)
  next_stays new block stay owners forests st =
      keeps_along shape old mid new def owners forests told is.same (λ other. other ≡ block) (stay owners forests (stands owners forests st))

  pub next_run : {new : S} {fault : Option StoreFault} → RunsOverPages g (IsTableSpace g shape mid def) (IsTableSpace g shape mid def) (BreaksTable g shape mid def) mid new fault
      → RunsOverPages g (IsTableSpace g shape old def) (IsTableSpace g shape old def) (BreaksTable g shape old def) old new fault
  next_run {new} {fault} run = runs_space_then shape def {fault = fault} is.same is.run run

  -- ---- a block was found

  module _ (line : BlockRow) (some : found ≡ Some line) where
    -- its line in the block map
    abbrev used : BlockRow
    used = record { block = line.block; state = state.Used; rows = line.rows }

    first_room : (owners : List Kind) (forests : TableForests) → StandsTable g shape old def owners forests → IsFirstRoom def (spots_of g shape old def owners forests) forests.map row (room_of rooms key).from line
    first_room owners forests st = subst (FindsRoom def (spots_of g shape old def owners forests) forests.map row (room_of rooms key).from) some (is.finds owners forests st)

    has_room : (owners : List Kind) (forests : TableForests) → StandsTable g shape old def owners forests → HasRoomAt g shape mid def used row owners forests
    has_room owners forests st = room_at shape old mid def owners forests row (room_of rooms key).from line is.same (first_room owners forests st)

    pub block_placed : (noted : SpaceNotes) (new : S) (now : Rooms) (rid : Rid) → rid.block ≡ line.block
        → ((owners : List Kind) (forests : TableForests) → StandsTable g shape mid def owners forests → HasRoomAt g shape mid def used row owners forests → FillsSlot g shape noted mid new def rid row owners forests)
        → Notes key (found_at line.block) rooms now
        → (owners : List Kind) (forests : TableForests) → IsReadyTable g shape noted (room_of rooms) old def owners forests → PlacesRow g shape noted noted (room_of now) old new def owners forests row rid
    block_placed noted new now rid at fills notes owners forests ready =
        placed_in_cell shape noted old mid new def owners forests row (room_of rooms) (room_of now) is.defined is.fits told is.same ready line rid key is.of_cell (first_room owners forests ready.stands) at
        (fills owners forests (stands owners forests ready.stands) (has_room owners forests ready.stands))
        (noted_at_most key (found_at line.block) rooms now notes) (others_at_most key (found_at line.block) rooms now notes)

    pub block_anywhere : (noted : SpaceNotes) (new : S) (rid : Rid) → rid.block ≡ line.block
        → ((owners : List Kind) (forests : TableForests) → StandsTable g shape mid def owners forests → HasRoomAt g shape mid def used row owners forests → FillsSlot g shape noted mid new def rid row owners forests)
        → (owners : List Kind) (forests : TableForests) → StandsTable g shape old def owners forests → PlacesAnywhere g shape noted noted old new def owners forests row rid
    block_anywhere noted new rid at fills owners forests st =
        filled_anywhere shape def row noted old mid new told is.same owners forests line.block rid at (has_room owners forests st).room (fills owners forests (stands owners forests st) (has_room owners forests st))

    pub block_makes : (noted : SpaceNotes) (new : S) (at : ℕ) → at ≡ line.block
        → ((owners : List Kind) (forests : TableForests) → StandsTable g shape mid def owners forests → HasRoomAt g shape mid def used row owners forests
        → MakesChanges shape (pages_of g mid) (block_changes def row line.block (slice_index_or (spots_of g shape mid def owners forests) line.block OtherBlock)) (pages_of g new))
        → (owners : List Kind) (forests : TableForests) → IsReadyTable g shape noted (room_of rooms) old def owners forests
        → MakesChanges shape (pages_of g old) (block_changes def row at (slice_index_or (spots_of g shape old def owners forests) at OtherBlock)) (pages_of g new)
    block_makes noted new at is_at makes owners forests ready =
        block_makes_along g shape old mid new def row told is.same owners forests line.block at is_at (makes owners forests (stands owners forests ready.stands) (has_room owners forests ready.stands))

    pub block_stays : (new : S) (at : ℕ) → at ≡ line.block → Touches g (IsBlockOrMapPage g shape mid def line.block) mid new
        → (owners : List Kind) (forests : TableForests) → StandsTable g shape old def owners forests → KeepsBlocksBut g shape old new def owners (λ other. other ≡ at)
    block_stays new at is_at touched owners forests st =
        subst (λ block. KeepsBlocksBut g shape old new def owners (λ other. other ≡ block)) (sym is_at) (keeps_in_block shape old mid new def owners forests told is.same st line.block touched)

    pub block_run : {new : S} {fault : Option StoreFault}
        → RunsOverPages g (IsBlockOrMapPage g shape mid def line.block) (IsBlockOrMapPage g shape mid def line.block) (BreaksExpected g shape mid def (HasRoomAt g shape mid def used row)) mid new fault
        → RunsOverPages g (IsTableSpace g shape old def) (IsTableSpace g shape old def) (BreaksTable g shape old def) old new fault
    block_run {new} {fault} run =
        runs_space_expecting shape def {fault = fault} (HasRoomAt g shape mid def used row) is.same has_room is.run (runs_of_place shape def {fault = fault} line.block run)
