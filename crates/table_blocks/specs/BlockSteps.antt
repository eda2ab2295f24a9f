-- What each call on one block says, in the words of a table that stands around it and of one that stands.
use Rattle.std.specs.Prelude.{◌≡◌, ◌≢◌, ◌≤◌, ◌<◌, ℕ, List, [], ◌∷◌, Contains, Option, Some, None, length, replicate, slice_index_or, slice_set, sum_by}
use Rattle.mdc_values.specs.declared.rid.Rid.{Rid}
use Rattle.mdc_values.specs.declared.value.Value.{Value}
use Rattle.mdc_ast.specs.declared.definition.TableDef.{TableDef}
use Rattle.mdc_ast.specs.declared.row.Cell.{Cell}
use Rattle.mdc_ast.specs.declared.row.Row.{Row}
use Rattle.store_api.specs.declared.pages.Pages.{Ghosts}
use Rattle.store_api.specs.declared.shape.Shape.{Shape}
use Rattle.extent_map.specs.Owners.{AreRightNotes, HasNoFree, IsLowestFree, owner_of, with_block}
use Rattle.extent_map.specs.declared.kind.Kind.{Kind}
use Rattle.extent_map.specs.declared.kind.Kind.TheVariants.{Free}
use Rattle.extent_map.specs.declared.space_notes.SpaceNotes.{SpaceNotes}
use Rattle.entry_tree.specs.Forest.{times}
use Rattle.block_map.specs.BlockMaps.{HasRow}
use Rattle.block_map.specs.MapLines.{free_blocks}
use Rattle.block_map.specs.MapRows.{row_entry}
use Rattle.block_map.specs.declared.row.BlockRow.{BlockRow}
use Rattle.block_map.specs.declared.state.BlockState.{BlockState}
use Rattle.block_index.specs.Cells.{index_listings}
use Rattle.table_trees.specs.RowCells.{AreOfOneCell}
use Rattle.table_trees.specs.SpaceChanges.{RunsFull, SpaceChange, removed_entries}
use Rattle.table_trees.specs.SpaceChanges.SpaceChange.{AmendEntry, ClaimBlock, GiveBlock, RemoveEntry}
use Rattle.table_trees.specs.TableTrees.{map_place}
use Rattle.table_trees.specs.ToldPages.{PageList}
use Rattle.table_trees.specs.TreesBeside.{GrowsPages, table_of_block}
use Rattle.mdc_sound.specs.Placing.{AfterClaims, AfterReturns, HasRoomFor, IsEmptySlot, IsLowestAt, IsRowAt, Spot, begun_with, block_slot_count, left_with}
use Rattle.mdc_sound.specs.Placing.Spot.{FreeExtent, OtherBlock, UsedBlock}
use Rattle.mdc_sound.specs.RunningFull.{block_changes}
use Rattle.mdc_sound.specs.StandingTable.{TableForests, forests_in_order, pages_of, spots_of}
use Rattle.block_rows.specs.HeldRows.{HoldsRows}
use Rattle.table_blocks.specs.AroundBlock.{StandsAround}
use Rattle.table_blocks.specs.BlockChanges.{ChangesAround, SameSpot, TurnsSpot, spot_in}
use Rattle.table_blocks.specs.BlockNow.{IsListedInEach, IsListedUnder, IsOwnBlock, IsUnlisted, IsUnnamed, free_line, released_line, released_spot}

-- ---- a block that comes into use

-- The block has one row, in its lowest slot, and was listed under its cell; its line in the block map is as it was.
pub record FillsBegun {S : Type 0} (g : Ghosts S) (shape : Shape) (before noted : SpaceNotes) (old new : S) (def : TableDef) (block : ℕ) (row : Row) (owners : List Kind) (forests : TableForests) : Type 0 where
  pub owners_now : List Kind
  pub forests_now : TableForests
  pub changes : ChangesAround g AfterClaims shape before noted old new def block owners forests owners_now forests_now
  pub same_map : forests_now.map ≡ forests.map
  pub rows : HoldsRows g shape new def block (slice_set (replicate (block_slot_count shape def) None) 0 (Some row))
  pub listed : IsUnlisted def forests block → IsListedInEach def forests_now row.values block

-- A block of a table that stood is Used now, with one row in its lowest slot; after that trees may have taken free extents.
pub record BeginsBlock {S : Type 0} (g : Ghosts S) (shape : Shape) (before noted : SpaceNotes) (old new : S) (def : TableDef) (block : ℕ) (row : Row) (owners : List Kind) (forests : TableForests) : Type 0 where
  pub owners_now : List Kind
  pub forests_now : TableForests
  pub turns : TurnsSpot g AfterClaims shape before noted old new def block (begun_with (block_slot_count shape def) row) owners forests owners_now forests_now

-- A new block for the row runs full: no extent is free, or what the lowest free one needs as a block runs full.
pub data NewBlockRunsFull (shape : Shape) (work : PageList) (def : TableDef) (row : Row) (owners : List Kind) : Type 0 where
  no_extent : HasNoFree owners → RunsFull shape work (ClaimBlock def.number 0 ∷ []) → NewBlockRunsFull shape work def row owners
  at_entry : (block : ℕ) → IsLowestFree owners block → RunsFull shape work (block_changes def row block FreeExtent) → NewBlockRunsFull shape work def row owners

-- ---- a row more, another row, a row less

-- a block has this line in the block map, and room for the row
pub record HasRoomAt {S : Type 0} (g : Ghosts S) (shape : Shape) (s : S) (def : TableDef) (line : BlockRow) (row : Row) (owners : List Kind) (forests : TableForests) : Type 0 where
  pub line_there : HasRow line forests.map
  pub room : HasRoomFor def row (slice_index_or (spots_of g shape s def owners forests) line.block OtherBlock)

-- a block is a Used one, with a row of this one's cell
pub record IsBlockOfCell {S : Type 0} (g : Ghosts S) (shape : Shape) (s : S) (def : TableDef) (block : ℕ) (row : Row) (owners : List Kind) (forests : TableForests) : Type 0 where
  pub slots : List (Option Row)
  pub spot : slice_index_or (spots_of g shape s def owners forests) block OtherBlock ≡ UsedBlock slots
  pub other : Row
  pub there : Contains slots (Some other)
  pub one_cell : AreOfOneCell def other.values row.values

-- a block holds rows, in slots of which this is so
pub record HoldsSuch (IsSuch : List (Option Row) → Type 0) {S : Type 0} (g : Ghosts S) (shape : Shape) (s : S) (def : TableDef) (block : ℕ) (owners : List Kind) (forests : TableForests) : Type 0 where
  pub slots : List (Option Row)
  pub rows : HoldsRows g shape s def block slots
  pub such : IsSuch slots

-- one of them is empty
abbrev pub HasEmptySlot : {S : Type 0} → Ghosts S → Shape → S → TableDef → ℕ → List Kind → TableForests → Type 0
HasEmptySlot g shape s def block = HoldsSuch (λ slots. Contains slots None) g shape s def block

-- there is a row in this one
abbrev pub HasFilledSlot : ℕ → {S : Type 0} → Ghosts S → Shape → S → TableDef → ℕ → List Kind → TableForests → Type 0
HasFilledSlot slot g shape s def block = HoldsSuch (λ slots. (row : Row) × (slice_index_or slots slot None ≡ Some row)) g shape s def block

-- this row lies in a place
pub record HasThisRow {S : Type 0} (g : Ghosts S) (shape : Shape) (s : S) (def : TableDef) (rid : Rid) (row : Row) (owners : List Kind) (forests : TableForests) : Type 0 where
  pub slots : List (Option Row)
  pub lies : IsRowAt (spots_of g shape s def owners forests) rid row slots

-- The row lies in the lowest slot of its block that was empty, and nothing else changed.
pub record FillsSlot {S : Type 0} (g : Ghosts S) (shape : Shape) (noted : SpaceNotes) (old new : S) (def : TableDef) (rid : Rid) (row : Row) (owners : List Kind) (forests : TableForests) : Type 0 where
  pub forests_now : TableForests
  pub slots : List (Option Row)
  pub was : slice_index_or (spots_of g shape old def owners forests) rid.block OtherBlock ≡ UsedBlock slots
  pub lowest : IsLowestAt IsEmptySlot slots rid.slot None
  pub turns : TurnsSpot g SameSpot shape noted noted old new def rid.block (UsedBlock (slice_set slots rid.slot (Some row))) owners forests owners forests_now

-- The row that lay in a place was taken out, and a block without rows is Free; after that trees may have given extents back.
pub record EmptiesSlot {S : Type 0} (g : Ghosts S) (shape : Shape) (before noted : SpaceNotes) (old new : S) (def : TableDef) (rid : Rid) (row : Row) (owners : List Kind) (forests : TableForests) : Type 0 where
  pub owners_now : List Kind
  pub forests_now : TableForests
  pub slots : List (Option Row)
  pub lies : IsRowAt (spots_of g shape old def owners forests) rid row slots
  pub turns : TurnsSpot g AfterReturns shape before noted old new def rid.block (left_with (slice_set slots rid.slot None)) owners forests owners_now forests_now

-- ---- a block that is released

-- The block has this state in the block map, without rows, and is what the state says to the table. None of its entries under the
-- cell of these values is left in a block index. No page came to the trees.
pub record ReleasesBlock {S : Type 0} (g : Ghosts S) (shape : Shape) (before noted : SpaceNotes) (old new : S) (def : TableDef) (block : ℕ) (given : BlockState) (values : List Value)
    (owners : List Kind) (forests : TableForests) : Type 0 where
  pub owners_now : List Kind
  pub forests_now : TableForests
  pub changes : ChangesAround g AfterReturns shape before noted old new def block owners forests owners_now forests_now
  pub line : HasRow (released_line given block) forests_now.map
  pub spot : spot_in g shape new def owners_now forests_now block ≡ released_spot given
  pub unlisted : IsListedInEach def forests values block → IsUnlisted def forests_now block
  pub pages : (p : ℕ) → 0 < sum_by (times p) (forests_in_order forests_now) → 0 < sum_by (times p) (forests_in_order forests)

-- A block of a table that stood was released, and the table stands; after that trees may have given extents back. Each extent is a
-- block of the table that it was of, and no page came to the trees.
pub record TurnsReleased {S : Type 0} (g : Ghosts S) (shape : Shape) (before noted : SpaceNotes) (old new : S) (def : TableDef) (block : ℕ) (given : BlockState) (owners : List Kind) (forests : TableForests) : Type 0 where
  pub owners_now : List Kind
  pub forests_now : TableForests
  pub turns : TurnsSpot g AfterReturns shape before noted old new def block (released_spot given) owners forests owners_now forests_now
  pub owned : (e : ℕ) → table_of_block (owner_of owners_now e) ≡ table_of_block (owner_of owners e)
  pub pages : (p : ℕ) → 0 < sum_by (times p) (forests_in_order forests_now) → 0 < sum_by (times p) (forests_in_order forests)

-- what releasing a block expects: it has this line, and is listed under this cell
pub record ExpectsReleasing (def : TableDef) (line : BlockRow) (cell : Cell) (owners : List Kind) (forests : TableForests) : Type 0 where
  pub line_there : HasRow line forests.map
  pub listed : IsListedUnder def forests cell line.block

-- the table has this Free block
pub record HasFreeBlock (block : ℕ) (owners : List Kind) (forests : TableForests) : Type 0 where
  pub free : Contains (free_blocks forests.map) block

-- the changes of space of releasing it: its line, and then its entries under the cell
abbrev pub released_changes : TableDef → Cell → BlockState → BlockRow → List SpaceChange
released_changes def cell given line =
    AmendEntry (map_place def) (row_entry line) (row_entry (released_line given line.block)) ∷ removed_entries (index_listings def cell.values line.block)

-- ---- a block that is given back

-- A Free block of a table that stood is a free extent, and the table stands; trees may have given extents back too. Each other extent
-- is a block of the table that it was of, no page came to the trees, and the block indexes have the trees that they had.
pub record ReclaimsBlock {S : Type 0} (g : Ghosts S) (shape : Shape) (before noted : SpaceNotes) (old new : S) (def : TableDef) (block : ℕ) (owners : List Kind) (forests : TableForests) : Type 0 where
  pub owners_now : List Kind
  pub forests_now : TableForests
  pub turns : TurnsSpot g AfterReturns shape before noted old new def block FreeExtent owners forests owners_now forests_now
  pub owned : (e : ℕ) → e ≢ block → table_of_block (owner_of owners_now e) ≡ table_of_block (owner_of owners e)
  pub pages : (p : ℕ) → 0 < sum_by (times p) (forests_in_order forests_now) → 0 < sum_by (times p) (forests_in_order forests)
  pub composite : forests_now.composite ≡ forests.composite
  pub dims : forests_now.dims ≡ forests.dims

-- the changes of space of giving it back: its line goes, and its extent is free
abbrev pub reclaimed_changes : TableDef → ℕ → List SpaceChange
reclaimed_changes def block = RemoveEntry (map_place def) (row_entry (free_line block)) ∷ GiveBlock def.number block ∷ []

-- ---- steps midway

-- The block map names the block no more, and nothing else changed; trees may have given extents back, and no page came to them.
pub record UnnamesBlock {S : Type 0} (g : Ghosts S) (shape : Shape) (before noted : SpaceNotes) (old new : S) (def : TableDef) (block : ℕ) (owners : List Kind) (forests : TableForests) : Type 0 where
  pub owners_now : List Kind
  pub forests_now : TableForests
  pub changes : ChangesAround g AfterReturns shape before noted old new def block owners forests owners_now forests_now
  pub unnamed : IsUnnamed forests_now.map block
  pub composite : forests_now.composite ≡ forests.composite
  pub dims : forests_now.dims ≡ forests.dims
  pub pages : (p : ℕ) → 0 < sum_by (times p) (forests_in_order forests_now) → 0 < sum_by (times p) (forests_in_order forests)

-- The block's line in the block map became this one, and nothing else changed; trees may have taken or given back extents.
pub record MovesLine {S : Type 0} (g : Ghosts S) (After : Spot → Spot → Type 0) (shape : Shape) (before noted : SpaceNotes) (old new : S) (def : TableDef) (block : ℕ) (line : BlockRow) (owners : List Kind) (forests : TableForests) : Type 0 where
  pub owners_now : List Kind
  pub forests_now : TableForests
  pub changes : ChangesAround g After shape before noted old new def block owners forests owners_now forests_now
  pub line_there : HasRow line forests_now.map
  pub composite : forests_now.composite ≡ forests.composite
  pub dims : forests_now.dims ≡ forests.dims
  pub rows : (slots : List (Option Row)) → HoldsRows g shape old def block slots → HoldsRows g shape new def block slots

-- The block's entries in the block indexes changed, and nothing else; trees may have taken or given back extents.
pub record MovesEntries {S : Type 0} (g : Ghosts S) (After : Spot → Spot → Type 0) (shape : Shape) (before noted : SpaceNotes) (old new : S) (def : TableDef) (block : ℕ) (owners : List Kind) (forests : TableForests) : Type 0 where
  pub owners_now : List Kind
  pub forests_now : TableForests
  pub changes : ChangesAround g After shape before noted old new def block owners forests owners_now forests_now
  pub same_map : forests_now.map ≡ forests.map
  pub rows : (slots : List (Option Row)) → HoldsRows g shape old def block slots → HoldsRows g shape new def block slots

-- Wherever a table stood but for a block, it stands so after calls, and what was expected of it is now this.
pub record StepsTo {S : Type 0} (g : Ghosts S) (After : Spot → Spot → Type 0) (shape : Shape) (before noted : SpaceNotes) (old new : S) (def : TableDef) (block : ℕ)
    (Expected Then : List Kind → TableForests → Type 0) (owners : List Kind) (forests : TableForests) : Type 0 where
  pub owners_now : List Kind
  pub forests_now : TableForests
  pub changes : ChangesAround g After shape before noted old new def block owners forests owners_now forests_now
  pub expects : Expected owners forests → Then owners_now forests_now

-- A free extent is a block of the table now, which no tree of it names.
pub record ClaimsBlock {S : Type 0} (g : Ghosts S) (shape : Shape) (before noted : SpaceNotes) (old new : S) (def : TableDef) (block : ℕ) (owners : List Kind) (forests : TableForests) : Type 0 where
  pub free : owner_of owners block ≡ Free
  pub stands : StandsAround g shape new def (with_block owners block def.number) forests block
  pub own : IsOwnBlock shape (with_block owners block def.number) def block
  pub unnamed : IsUnnamed forests.map block
  pub unlisted : IsUnlisted def forests block
  pub spots : (e : ℕ) → e ≢ block → spot_in g shape new def (with_block owners block def.number) forests e ≡ spot_in g shape old def owners forests e
  pub longer : length (pages_of g old) ≤ length (pages_of g new)
  pub grows : GrowsPages g shape old new
  pub notes : AreRightNotes shape before owners → AreRightNotes shape noted (with_block owners block def.number)
