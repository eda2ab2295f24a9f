-- What a rollout makes of a table: which blocks are Free afterwards, which rows are left, and which entries its record indexes lost.
use Rattle.std.specs.Prelude.{◌≡◌, ◌≢◌, ◌↔◌, ◌<◌, ℕ, Bool, true, false, List, ◌++◌, AllPairs, Contains, IsPermutation, Option, Some, filter, length, not, slice_index_or, slice_set, sum_by}
use Rattle.std.specs.List.{AllByRecursion}
use Rattle.mdc_words.specs.ByteOrder.{Entry}
use Rattle.mdc_ast.specs.declared.definition.TableDef.{TableDef}
use Rattle.mdc_ast.specs.declared.predicate.Pred.{Pred}
use Rattle.mdc_ast.specs.declared.row.Row.{Row}
use Rattle.mdc_ast.specs.declared.statement.RolloutMode.TheVariants.{Immediate}
use Rattle.mdc_ast.specs.Database.{PlainTable}
use Rattle.mdc_ast.specs.Truth.{qualifies}
use Rattle.store_api.specs.declared.pages.Pages.{Ghosts}
use Rattle.store_api.specs.declared.shape.Shape.{Shape}
use Rattle.extent_map.specs.declared.kind.Kind.{Kind}
use Rattle.extent_map.specs.declared.space_notes.SpaceNotes.{SpaceNotes}
use Rattle.entry_tree.specs.Forest.{times}
use Rattle.row_page.specs.RowPage.{count_rows}
use Rattle.block_index.specs.declared.listed_cells.CellBlock.{CellBlock}
use Rattle.table_trees.specs.RowCells.{IsCellOf}
use Rattle.table_trees.specs.SpaceChanges.{MakesChanges, SpaceChange}
use Rattle.table_trees.specs.SpaceChanges.SpaceChange.{AmendEntry, GiveBlock, RemoveEntry}
use Rattle.table_trees.specs.ToldPages.{PageList}
use Rattle.table_trees.specs.TreesBeside.{table_of_block}
use Rattle.extent_map.specs.Owners.{owner_of}
use Rattle.mdc_sound.specs.Placing.{HasChosenRow, RollsOut, SpotsAfterReturns}
use Rattle.mdc_sound.specs.Placing.Spot.{FreeBlock, OtherBlock, UsedBlock}
use Rattle.mdc_sound.specs.StandingTable.{AreRightRooms, ChangesTable, RoomNote, TableForests, forests_in_order, pages_of, spots_of}
use Rattle.mdc_sound.specs.TableRows.{PlacedRow, rows_in_table}
use Rattle.cell_change.specs.ExpectedTables.{HasSoundIndexes}
use Rattle.rollout.specs.LostEntries.{KeepsEntries, LosesEntries}
use Rattle.rollout.specs.declared.rolling.RolledOut.{RolledOut}

-- ---- space

-- a change that takes nothing: an entry is taken out or changed in place, or a block is given back
abbrev pub TakesNothing : SpaceChange → Type 0
TakesNothing (RemoveEntry place entry) = Unit {0}
TakesNothing (AmendEntry place before after) = Unit {0}
TakesNothing (GiveBlock table block) = Unit {0}
TakesNothing change = ⊥

-- such changes were made, one after the other, and no other: space is given back or as it was
pub record GivesBackSpace (shape : Shape) (old new : PageList) : Type 0 where
  pub changes : List SpaceChange
  pub each : AllByRecursion TakesNothing changes
  pub makes : MakesChanges shape old changes new

-- ---- one block

-- the block is a Used one, and this is the cell of a row of it
pub record IsBlockOfCell {S : Type 0} (g : Ghosts S) (shape : Shape) (s : S) (def : TableDef) (one : CellBlock) (owners : List Kind) (forests : TableForests) : Type 0 where
  pub slots : List (Option Row)
  pub spot : slice_index_or (spots_of g shape s def owners forests) one.block OtherBlock ≡ UsedBlock slots
  pub row : Row
  pub there : Contains slots (Some row)
  pub cell : IsCellOf def one.cell row.values

-- A Used block of so many rows is Free now, and trees may have given extents back. The record indexes have the trees that they had.
pub record RollsBlock {S : Type 0} (g : Ghosts S) (shape : Shape) (before noted : SpaceNotes) (old new : S) (def : TableDef) (block rows : ℕ) (owners : List Kind) (forests : TableForests) : Type 0 where
  pub owners_now : List Kind
  pub forests_now : TableForests
  pub slots : List (Option Row)
  pub was : slice_index_or (spots_of g shape old def owners forests) block OtherBlock ≡ UsedBlock slots
  pub counted : rows ≡ count_rows slots
  pub changes : ChangesTable g shape before noted old new def owners forests owners_now forests_now
  pub owned : (e : ℕ) → table_of_block (owner_of owners_now e) ≡ table_of_block (owner_of owners e)
  pub pages : (p : ℕ) → 0 < sum_by (times p) (forests_in_order forests_now) → 0 < sum_by (times p) (forests_in_order forests)
  pub records : forests_now.indexes ≡ forests.indexes
  pub spots : SpotsAfterReturns (slice_set (spots_of g shape old def owners forests) block FreeBlock) (spots_of g shape new def owners_now forests_now)

-- ---- all blocks

-- a row qualifies
abbrev pub is_chosen : Option Pred → Row → Bool
is_chosen pred row = qualifies pred row.values

-- Each block in which a row qualifies is Free now, and trees may have given extents back. The rows that went all qualify, and none that
-- is left does. As many entries left each record index as rows went, all of these rows, and none but such as name a block that went;
-- exactly those of the rows, where it was sound, and it is sound then. It was answered how many rows went, of how many blocks.
pub record RollsOutRows {S : Type 0} (g : Ghosts S) (shape : Shape) (before noted : SpaceNotes) (room_of : Entry → RoomNote) (old new : S) (def : TableDef) (pred : Option Pred) (rolled : RolledOut)
    (owners : List Kind) (forests : TableForests) : Type 0 where
  pub owners_now : List Kind
  pub forests_now : TableForests
  pub changes : ChangesTable g shape before noted old new def owners forests owners_now forests_now
  pub rooms : AreRightRooms def room_of (spots_of g shape new def owners_now forests_now)
  pub rolls : RollsOut def Immediate (is_chosen pred) (spots_of g shape old def owners forests) (spots_of g shape new def owners_now forests_now)
  pub gone : List PlacedRow
  pub entries : HasSoundIndexes g shape old def owners forests → LosesEntries def forests.indexes gone forests_now.indexes
  pub rows : IsPermutation (gone ++ rows_in_table shape (pages_of g new) def forests_now.map) (rows_in_table shape (pages_of g old) def forests.map)
  pub qualify : AllByRecursion (λ placed. is_chosen pred placed.row ≡ true) gone
  pub others : AllByRecursion (λ placed. is_chosen pred placed.row ≡ false) (rows_in_table shape (pages_of g new) def forests_now.map)
  pub sound : HasSoundIndexes g shape old def owners forests → HasSoundIndexes g shape new def owners_now forests_now
  pub row_count : rolled.rows ≡ length gone
  pub blocks : List ℕ
  pub blocks_are : (block : ℕ) → Contains blocks block ↔ HasChosenRow (is_chosen pred) (slice_index_or (spots_of g shape old def owners forests) block OtherBlock)
  pub once : AllPairs (λ a b. a ≢ b) blocks
  pub block_count : rolled.blocks ≡ length blocks
  pub kept : KeepsEntries def blocks forests.indexes gone forests_now.indexes

-- a plain table without the rows that qualify
abbrev pub without_chosen : Option Pred → PlainTable → PlainTable
without_chosen pred table = record table { rows = filter (λ row. not (is_chosen pred row)) table.rows }
