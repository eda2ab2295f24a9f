-- The changes of space of a row that is put or taken out, and why a row that is put runs full.
use Rattle.std.proofs.Common.{◌≡◌, ℕ, List, ap, arith, sym, ◌∙◌, subst}
use Rattle.std.specs.Prelude.{Contains, IfErr, IfOk, Option, Some, None, Result, Ok, Err, slice_index_or}
use Rattle.mdc_words.specs.ByteOrder.{Entry}
use Rattle.mdc_values.specs.declared.rid.Rid.{Rid}
use Rattle.mdc_ast.specs.declared.definition.TableDef.{TableDef}
use Rattle.mdc_ast.specs.declared.row.Row.{Row}
use Rattle.store_api.specs.declared.pages.Pages.{Ghosts}
use Rattle.store_api.specs.declared.shape.Shape.{Shape}
use Rattle.extent_map.specs.Damages.{IfFull}
use Rattle.extent_map.specs.Owners.{AreRightNotes, IsLowestFree}
use Rattle.extent_map.specs.declared.fault.SpaceFault.{SpaceFault}
use Rattle.extent_map.specs.declared.fault.SpaceFault.TheVariants.{Full, Store}
use Rattle.extent_map.specs.declared.kind.Kind.{Kind}
use Rattle.extent_map.specs.declared.space_notes.SpaceNotes.{SpaceNotes}
use Rattle.block_map.specs.BlockMaps.{FindsFree, IsLowestFreeBlock}
use Rattle.block_map.specs.MapLines.{free_blocks}
use Rattle.table_trees.specs.SpaceChanges.{MakesChanges, RunsFull}
use Rattle.table_trees.specs.ToldPages.{PageList}
use Rattle.mdc_sound.specs.Placing.{HasRoomFor, HoldsNowhere, IsRowAt, Spot, table_spots}
use Rattle.mdc_sound.specs.Placing.Spot.{FreeBlock, FreeExtent, OtherBlock, UsedBlock}
use Rattle.mdc_sound.specs.RunningFull.{RowRunsFull, block_changes}
use Rattle.mdc_sound.specs.StandingTable.{IsReadyTable, RoomNote, StandsTable, TableForests, pages_of, spots_of}
use Rattle.mdc_sound.proofs.StandingTableLemmas.{stands_same}
use Rattle.mdc_sound.proofs.TableSpotsLemmas.{free_block_spot, free_spot}
use Rattle.table_blocks.specs.BlockSteps.{NewBlockRunsFull}
use Rattle.mdc_table.specs.NextBlock.{IsNextBlock, NextBlockRunsFull}
use Rattle.mdc_table.proofs.PlacingRowsLemmas.{no_spot, puts_next}

-- ---- the spot of the next block

module _ {S : Type 0} {g : Ghosts S} (shape : Shape) (s : S) (def : TableDef) (owners : List Kind) (forests : TableForests) (st : StandsTable g shape s def owners forests) where
  pub spot_of_free_block : (block : ℕ) → IsLowestFreeBlock forests.map 0 block → slice_index_or (spots_of g shape s def owners forests) block OtherBlock ≡ FreeBlock
  spot_of_free_block block lowest = free_block_spot shape (pages_of g s) def owners forests.map block OtherBlock st.map lowest.free

  spot_of_free_extent : (block : ℕ) → IsLowestFree owners block → slice_index_or (spots_of g shape s def owners forests) block OtherBlock ≡ FreeExtent
  spot_of_free_extent block lowest = free_spot shape (pages_of g s) def owners forests.map block OtherBlock (omega (arith, lowest.within, st.trees.map.count)) lowest.free

  -- what the next block runs full with, the row runs full with where no block has room for it
  pub row_runs_full : (row : Row) → HoldsNowhere (HasRoomFor def row) (spots_of g shape s def owners forests) → NextBlockRunsFull shape (pages_of g s) def row owners forests.map
      → RowRunsFull shape (pages_of g s) def (spots_of g shape s def owners forests) row
  row_runs_full row no_room (NextBlockRunsFull.free_block block lowest full) =
      RowRunsFull.placed (record { block = block; slot = 0 }) _ (puts_next shape s def owners forests st row no_room block (IsNextBlock.free_block lowest))
      (subst (λ (spot : Spot). RunsFull shape (pages_of g s) (block_changes def row block spot)) (sym (spot_of_free_block block lowest)) full)
  row_runs_full row no_room (NextBlockRunsFull.new_block none (NewBlockRunsFull.no_extent none_free full)) = RowRunsFull.stuck (no_spot shape s def owners forests st row no_room none none_free) full
  row_runs_full row no_room (NextBlockRunsFull.new_block none (NewBlockRunsFull.at_entry block lowest full)) =
      RowRunsFull.placed (record { block = block; slot = 0 }) _ (puts_next shape s def owners forests st row no_room block (IsNextBlock.free_extent none lowest))
      (subst (λ (spot : Spot). RunsFull shape (pages_of g s) (block_changes def row block spot)) (sym (spot_of_free_extent block lowest)) full)

-- ---- the next block, behind a call that left the work as it was

module _ {S : Type 0} (g : Ghosts S) (shape : Shape) (old mid new : S) (def : TableDef) (row : Row) (told : (g.state mid).is_told ≡ (g.state old).is_told) (same : (g.state mid).work ≡ (g.state old).work) where
  -- what a block changes, by what it was
  pub block_makes_along : (owners : List Kind) (forests : TableForests) (block at : ℕ) → at ≡ block
      → MakesChanges shape (pages_of g mid) (block_changes def row block (slice_index_or (spots_of g shape mid def owners forests) block OtherBlock)) (pages_of g new)
      → MakesChanges shape (pages_of g old) (block_changes def row at (slice_index_or (spots_of g shape old def owners forests) at OtherBlock)) (pages_of g new)
  block_makes_along owners forests block at is makes =
      subst (λ (n : ℕ). MakesChanges shape (pages_of g old) (block_changes def row n (slice_index_or (spots_of g shape old def owners forests) n OtherBlock)) (pages_of g new)) (sym is)
      (subst (λ (pages : PageList). MakesChanges shape pages (block_changes def row block (slice_index_or (table_spots shape pages def owners forests.map) block OtherBlock)) (pages_of g new)) same makes)

  -- a Free block that was found
  pub free_block_makes : (owners : List Kind) (forests : TableForests) (block : ℕ) → StandsTable g shape old def owners forests → IsLowestFreeBlock forests.map 0 block
      → MakesChanges shape (pages_of g mid) (block_changes def row block FreeBlock) (pages_of g new)
      → MakesChanges shape (pages_of g old) (block_changes def row block (slice_index_or (spots_of g shape old def owners forests) block OtherBlock)) (pages_of g new)
  free_block_makes owners forests block st lowest makes =
      subst (λ (spot : Spot). MakesChanges shape (pages_of g old) (block_changes def row block spot) (pages_of g new)) (sym (spot_of_free_block shape old def owners forests st block lowest))
      (subst (λ (pages : PageList). MakesChanges shape pages (block_changes def row block FreeBlock) (pages_of g new)) same makes)

  -- a free extent
  pub new_block_makes : (before : SpaceNotes) (result : Result ℕ SpaceFault)
      → IfOk result (λ block. (owners : List Kind) (forests : TableForests) → StandsTable g shape mid def owners forests → AreRightNotes shape before owners → IsLowestFree owners block)
      → IfOk result (λ block. (owners : List Kind) (forests : TableForests) → StandsTable g shape mid def owners forests → AreRightNotes shape before owners
      → MakesChanges shape (pages_of g mid) (block_changes def row block FreeExtent) (pages_of g new))
      → IfOk result (λ block. (owners : List Kind) (forests : TableForests) → StandsTable g shape old def owners forests → AreRightNotes shape before owners
      → MakesChanges shape (pages_of g old) (block_changes def row block (slice_index_or (spots_of g shape old def owners forests) block OtherBlock)) (pages_of g new))
  new_block_makes before (Ok block) lowest makes = λ owners forests st notes.
      let st_mid = stands_same shape old mid def owners forests told same st in
      subst (λ (spot : Spot). MakesChanges shape (pages_of g old) (block_changes def row block spot) (pages_of g new)) (sym (spot_of_free_extent shape old def owners forests st block (lowest owners forests st_mid notes)))
      (subst (λ (pages : PageList). MakesChanges shape pages (block_changes def row block FreeExtent) (pages_of g new)) same (makes owners forests st_mid notes))
  new_block_makes before (Err fault) lowest makes = tt

  -- a Free block that runs full
  pub free_block_full : (before : SpaceNotes) (block : ℕ) (fault : SpaceFault) → ((owners : List Kind) (forests : TableForests) → StandsTable g shape old def owners forests → IsLowestFreeBlock forests.map 0 block)
      → IfFull fault (λ cap. (owners : List Kind) (forests : TableForests) → StandsTable g shape mid def owners forests → Contains (free_blocks forests.map) block
      → AreRightNotes shape before owners → RunsFull shape (pages_of g mid) (block_changes def row block FreeBlock))
      → IfFull fault (λ cap. (owners : List Kind) (forests : TableForests) → StandsTable g shape old def owners forests → AreRightNotes shape before owners
      → NextBlockRunsFull shape (pages_of g old) def row owners forests.map)
  free_block_full before block (Full cap) lowest full = λ owners forests st notes.
      let low = lowest owners forests st in
      NextBlockRunsFull.free_block block low
      (subst (λ (pages : PageList). RunsFull shape pages (block_changes def row block FreeBlock)) same (full owners forests (stands_same shape old mid def owners forests told same st) low.free notes))
  free_block_full before block (Store fault) lowest full = tt

  -- a new block that does, where none is Free
  pub new_block_full : {X : Type 0} (before : SpaceNotes) (result : Result X SpaceFault) → ((owners : List Kind) (forests : TableForests) → StandsTable g shape old def owners forests → FindsFree forests.map 0 None)
      → IfErr result (λ fault. IfFull fault (λ cap. (owners : List Kind) (forests : TableForests) → StandsTable g shape mid def owners forests → AreRightNotes shape before owners
      → NewBlockRunsFull shape (pages_of g mid) def row owners))
      → IfErr result (λ fault. IfFull fault (λ cap. (owners : List Kind) (forests : TableForests) → StandsTable g shape old def owners forests → AreRightNotes shape before owners
      → NextBlockRunsFull shape (pages_of g old) def row owners forests.map))
  new_block_full before (Err (Full cap)) none full = λ owners forests st notes.
      NextBlockRunsFull.new_block (λ other there. none owners forests st other there (omega arith))
      (subst (λ (pages : PageList). NewBlockRunsFull shape pages def row owners) same (full owners forests (stands_same shape old mid def owners forests told same st) notes))
  new_block_full before (Err (Store fault)) none full = tt
  new_block_full before (Ok x) none full = tt

  -- so a row runs full where no block has room for it
  pub row_full : (before : SpaceNotes) (from : Entry → RoomNote) (fault : SpaceFault)
      → ((owners : List Kind) (forests : TableForests) → IsReadyTable g shape before from old def owners forests → HoldsNowhere (HasRoomFor def row) (spots_of g shape old def owners forests))
      → IfFull fault (λ cap. (owners : List Kind) (forests : TableForests) → StandsTable g shape mid def owners forests → AreRightNotes shape before owners
      → NextBlockRunsFull shape (pages_of g mid) def row owners forests.map)
      → IfFull fault (λ cap. (owners : List Kind) (forests : TableForests) → IsReadyTable g shape before from old def owners forests
      → RowRunsFull shape (pages_of g old) def (spots_of g shape old def owners forests) row)
  row_full before from (Full cap) no_room full = λ owners forests ready.
      row_runs_full shape old def owners forests ready.stands row (no_room owners forests ready)
      (subst (λ (pages : PageList). NextBlockRunsFull shape pages def row owners forests.map) same (full owners forests (stands_same shape old mid def owners forests told same ready.stands) ready.notes))
  row_full before from (Store fault) no_room full = tt

-- ---- rows that were taken out

-- one row lies in a place
pub same_row : (spots : List Spot) (rid : Rid) (row other : Row) (slots more : List (Option Row)) → IsRowAt spots rid row slots → IsRowAt spots rid other more → row ≡ other
same_row spots rid row other slots more one two =
    let found : UsedBlock slots ≡ UsedBlock more = sym (one.block OtherBlock) ∙ two.block OtherBlock in
    let same : slots ≡ more = cc in
    let rows : Some row ≡ Some other = sym one.slot ∙ (ap (λ s. slice_index_or s rid.slot None) same ∙ two.slot) in
    cc
