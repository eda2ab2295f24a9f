-- What becomes of the record indexes of a table as rows leave them, one after the other, while the rows stay in their blocks.
use Rattle.std.specs.Prelude.{◌≡◌, ◌≢◌, ◌⊎◌, ◌≤◌, ℕ, false, List, [], Contains, flat_map, length, sum_by}
use Rattle.mdc_ast.specs.declared.definition.TableDef.{TableDef}
use Rattle.store_api.specs.declared.pages.Pages.{Ghosts}
use Rattle.store_api.specs.declared.shape.Shape.{Shape}
use Rattle.extent_map.specs.declared.kind.Kind.{Kind}
use Rattle.extent_map.specs.declared.space_notes.SpaceNotes.{SpaceNotes}
use Rattle.entry_tree.specs.Forest.{Forest, times}
use Rattle.block_map.specs.MapLines.{lines_of_state, used_blocks}
use Rattle.table_trees.specs.ToldPages.{PageList}
use Rattle.mdc_sound.specs.Placing.{SpotsAfterReturns}
use Rattle.mdc_sound.specs.StandingTable.{IsPageOfBlock, StandsTable, TableForests, pages_of, spots_of}
use Rattle.mdc_sound.specs.TableRows.{PlacedRow, rows_in_block}
use Rattle.record_index.specs.SoundRows.{LieApart}
use Rattle.row_entries.specs.ChosenIndexes.{HaveEntries, all_chosen}
use Rattle.row_entries.specs.RowEntries.{ChangesIndexes, IsTreeOrMapPageOfTable, with_indexes}
use Rattle.cell_change.specs.ExpectedTables.{HasSoundIndexes}
use Rattle.rollout.specs.LostEntries.{KeepsEntries, LosesEntries, LosesRows}
use Rattle.rollout.specs.SweptPart.{goes_by_sweep}

-- ---- what is left

-- Each record index lost the entries of these rows and nothing else, and no page came to it; trees may have given extents back.
pub record LeavesRows {S : Type 0} (g : Ghosts S) (shape : Shape) (before noted : SpaceNotes) (old new : S) (def : TableDef) (rows : List PlacedRow) (owners : List Kind) (forests : TableForests) : Type 0 where
  pub owners_now : List Kind
  pub indexes_now : List Forest
  pub table : ChangesIndexes g shape before noted old new def owners forests owners_now indexes_now
  pub lose : LosesRows def forests.indexes rows indexes_now
  pub pages : (p : ℕ) → sum_by (times p) indexes_now ≤ sum_by (times p) forests.indexes
  pub returns : SpotsAfterReturns (spots_of g shape old def owners forests) (spots_of g shape new def owners_now (with_indexes forests indexes_now))

-- the rows of some blocks
abbrev pub rows_in_blocks : Shape → PageList → TableDef → List ℕ → List PlacedRow
rows_in_blocks shape pages def blocks = flat_map (rows_in_block shape pages def) blocks

-- the table has each of some blocks as a Used one
abbrev pub AreUsedBlocks : List ℕ → List Kind → TableForests → Type 0
AreUsedBlocks blocks owners forests = (block : ℕ) → Contains blocks block → Contains (used_blocks forests.map) block

-- As many entries left each record index as some blocks have rows, none but such as name one of the blocks, and all of their rows;
-- exactly those of their rows, where it was sound. No page came to it, and trees may have given extents back.
pub record LeavesBlocks {S : Type 0} (g : Ghosts S) (shape : Shape) (before noted : SpaceNotes) (old new : S) (def : TableDef) (blocks : List ℕ) (owners : List Kind) (forests : TableForests) : Type 0 where
  pub owners_now : List Kind
  pub indexes_now : List Forest
  pub table : ChangesIndexes g shape before noted old new def owners forests owners_now indexes_now
  pub kept : KeepsEntries def blocks forests.indexes (rows_in_blocks shape (pages_of g old) def blocks) indexes_now
  pub lose : HasSoundIndexes g shape old def owners forests → LosesEntries def forests.indexes (rows_in_blocks shape (pages_of g old) def blocks) indexes_now
  pub pages : (p : ℕ) → sum_by (times p) indexes_now ≤ sum_by (times p) forests.indexes
  pub returns : SpotsAfterReturns (spots_of g shape old def owners forests) (spots_of g shape new def owners_now (with_indexes forests indexes_now))

-- ---- what is expected

-- The record indexes have the entries of these rows, no two of which lie in one place.
pub record HaveTheirEntries (def : TableDef) (rows : List PlacedRow) (trees : List Forest) : Type 0 where
  pub has : (placed : PlacedRow) → Contains rows placed → HaveEntries def placed.row placed.rid (all_chosen def) trees
  pub apart : LieApart rows

-- so have those of a table
abbrev pub HasTheirEntries : TableDef → List PlacedRow → List Kind → TableForests → Type 0
HasTheirEntries def rows owners forests = HaveTheirEntries def rows forests.indexes

-- the table has the blocks as Used ones, and its record indexes are sound
pub record ExpectsLeaving {S : Type 0} (g : Ghosts S) (shape : Shape) (s : S) (def : TableDef) (blocks : List ℕ) (owners : List Kind) (forests : TableForests) : Type 0 where
  pub used : AreUsedBlocks blocks owners forests
  pub sound : HasSoundIndexes g shape s def owners forests

-- the lines of the blocks count this many rows, too
pub record ExpectsSweeping {S : Type 0} (g : Ghosts S) (shape : Shape) (s : S) (def : TableDef) (blocks : List ℕ) (rows : ℕ) (owners : List Kind) (forests : TableForests) : Type 0 where
  pub leaving : ExpectsLeaving g shape s def blocks owners forests
  pub count : rows ≡ length (rows_in_blocks shape (pages_of g s) def blocks)

-- ---- pages

-- a page of one of some blocks
abbrev pub IsPageOfBlocks : Shape → List ℕ → ℕ → Type 0
IsPageOfBlocks shape blocks p = (block : ℕ) × Contains blocks block × IsPageOfBlock shape block p

-- the blocks have too few rows for a sweep, where the table was told to stand
abbrev pub AreFewRows : {S : Type 0} → Ghosts S → Shape → S → TableDef → List ℕ → Type 0
AreFewRows g shape s def blocks = (owners : List Kind) (forests : TableForests) → StandsTable g shape s def owners forests → goes_by_sweep (lines_of_state 1 forests.map) blocks ≡ false

-- the pages that come to hand where the rows leave one by one: those of the trees and of the extent map, and those of the blocks
abbrev pub IsTreeOrRowPage : {S : Type 0} → Ghosts S → Shape → S → TableDef → List ℕ → ℕ → Type 0
IsTreeOrRowPage g shape s def blocks p = IsTreeOrMapPageOfTable g shape s def p ⊎ IsPageOfBlocks shape blocks p

-- the pages that come to hand: those of the trees and of the extent map, and where the table has a record index and no sweep is taken
-- those of the blocks
abbrev pub IsLeavingPage : {S : Type 0} → Ghosts S → Shape → S → TableDef → List ℕ → ℕ → Type 0
IsLeavingPage g shape s def blocks p = IsTreeOrMapPageOfTable g shape s def p ⊎ ((def.indexes ≢ []) × AreFewRows g shape s def blocks × IsPageOfBlocks shape blocks p)
