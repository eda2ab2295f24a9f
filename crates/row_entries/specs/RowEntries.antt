-- What the entries of a row that come or go make of a table: its record indexes alone change.
use Rattle.std.specs.Prelude.{◌≡◌, ◌≤◌, ℕ, Bool, List, sum_by}
use Rattle.mdc_values.specs.declared.rid.Rid.{Rid}
use Rattle.mdc_ast.specs.declared.definition.TableDef.{TableDef}
use Rattle.mdc_ast.specs.declared.row.Row.{Row}
use Rattle.store_api.specs.declared.pages.Pages.{Ghosts}
use Rattle.store_api.specs.declared.shape.Shape.{Shape}
use Rattle.extent_map.specs.Owners.{owner_of}
use Rattle.extent_map.specs.declared.kind.Kind.{Kind}
use Rattle.extent_map.specs.declared.space_notes.SpaceNotes.{SpaceNotes}
use Rattle.entry_tree.specs.Forest.{Forest, times}
use Rattle.table_trees.specs.TreesBeside.{table_of_block}
use Rattle.block_index.specs.Listing.{GainsEntry, LosesEntry}
use Rattle.mdc_sound.specs.Placing.{Spot, SpotsAfterClaims, SpotsAfterReturns}
use Rattle.mdc_sound.specs.StandingTable.{ChangesTable, KeepsBlocksBut, TableForests, pages_of, spots_of}
use Rattle.mdc_sound.specs.TableRows.{rows_in_table}
pub use Rattle.table_blocks.specs.BlockChanges.{IsTreeOrMapPageOfTable}
use Rattle.row_entries.specs.ChosenIndexes.{HaveEntries, LackEntries, MoveChosen, all_chosen, differing_chosen, entry_of}

-- ---- the table

-- the trees of a table with others as those of its record indexes
abbrev pub with_indexes : TableForests → List Forest → TableForests
with_indexes forests indexes = record forests { indexes = indexes }

-- Calls on the record indexes of a table made it another one that stands. No other tree of it and no page of its blocks changed, so
-- that it has the rows that it had, and each block is one of the same table.
pub record ChangesIndexes {S : Type 0} (g : Ghosts S) (shape : Shape) (before noted : SpaceNotes) (old new : S) (def : TableDef)
    (owners : List Kind) (forests : TableForests) (owners_now : List Kind) (indexes_now : List Forest) : Type 0 where
  pub changes : ChangesTable g shape before noted old new def owners forests owners_now (with_indexes forests indexes_now)
  pub owned : (e : ℕ) → table_of_block (owner_of owners_now e) ≡ table_of_block (owner_of owners e)
  pub blocks : KeepsBlocksBut g shape old new def owners (λ block. ⊥)
  pub rows : rows_in_table shape (pages_of g new) def forests.map ≡ rows_in_table shape (pages_of g old) def forests.map

-- Each chosen record index gained the entry of a row, and no other changed; trees may have taken free extents.
pub record EntersChosen {S : Type 0} (g : Ghosts S) (shape : Shape) (before noted : SpaceNotes) (old new : S) (def : TableDef) (chosen : List Bool) (row : Row) (rid : Rid)
    (owners : List Kind) (forests : TableForests) : Type 0 where
  pub owners_now : List Kind
  pub indexes_now : List Forest
  pub table : ChangesIndexes g shape before noted old new def owners forests owners_now indexes_now
  pub gain : MoveChosen GainsEntry (entry_of def row rid) chosen def.indexes forests.indexes indexes_now
  pub claims : SpotsAfterClaims (spots_of g shape old def owners forests) (spots_of g shape new def owners_now (with_indexes forests indexes_now))

-- Each chosen record index lost the entry of a row, and no other changed; trees may have given extents back.
pub record LeavesChosen {S : Type 0} (g : Ghosts S) (shape : Shape) (before noted : SpaceNotes) (old new : S) (def : TableDef) (chosen : List Bool) (row : Row) (rid : Rid)
    (owners : List Kind) (forests : TableForests) : Type 0 where
  pub owners_now : List Kind
  pub indexes_now : List Forest
  pub table : ChangesIndexes g shape before noted old new def owners forests owners_now indexes_now
  pub lose : MoveChosen LosesEntry (entry_of def row rid) chosen def.indexes forests.indexes indexes_now
  pub pages : (p : ℕ) → sum_by (times p) indexes_now ≤ sum_by (times p) forests.indexes
  pub returns : SpotsAfterReturns (spots_of g shape old def owners forests) (spots_of g shape new def owners_now (with_indexes forests indexes_now))

-- a row came into each record index
abbrev pub EntersRow : {S : Type 0} → Ghosts S → Shape → SpaceNotes → SpaceNotes → S → S → TableDef → Row → Rid → List Kind → TableForests → Type 0
EntersRow g shape before noted old new def row rid owners forests = EntersChosen g shape before noted old new def (all_chosen def) row rid owners forests

-- a row left each
abbrev pub LeavesRow : {S : Type 0} → Ghosts S → Shape → SpaceNotes → SpaceNotes → S → S → TableDef → Row → Rid → List Kind → TableForests → Type 0
LeavesRow g shape before noted old new def row rid owners forests = LeavesChosen g shape before noted old new def (all_chosen def) row rid owners forests

-- In each record index in which two rows have different keys the entry of the first in a place gave way to that of the second, and
-- no other index changed. All entries were taken out before one was put in.
pub record RenewsRow {S : Type 0} (g : Ghosts S) (shape : Shape) (before noted : SpaceNotes) (old new : S) (def : TableDef) (was is : Row) (rid : Rid)
    (owners : List Kind) (forests : TableForests) : Type 0 where
  pub owners_now : List Kind
  pub indexes_now : List Forest
  pub table : ChangesIndexes g shape before noted old new def owners forests owners_now indexes_now
  pub left : List Forest
  pub lose : MoveChosen LosesEntry (entry_of def was rid) (differing_chosen def was is) def.indexes forests.indexes left
  pub gain : MoveChosen GainsEntry (entry_of def is rid) (differing_chosen def was is) def.indexes left indexes_now
  pub mid : List Spot
  pub returns : SpotsAfterReturns (spots_of g shape old def owners forests) mid
  pub claims : SpotsAfterClaims mid (spots_of g shape new def owners_now (with_indexes forests indexes_now))

-- ---- what is expected

-- no record index of the table has the entry of a row
abbrev pub LacksRowEntries : TableDef → Row → Rid → List Kind → TableForests → Type 0
LacksRowEntries def row rid owners forests = LackEntries def row rid (all_chosen def) forests.indexes

-- each has it
abbrev pub HasRowEntries : TableDef → Row → Rid → List Kind → TableForests → Type 0
HasRowEntries def row rid owners forests = HaveEntries def row rid (all_chosen def) forests.indexes

-- each record index in which two rows have different keys has the entry of the first in a place, and not that of the second
pub record HasRowEntriesOnly (def : TableDef) (was is : Row) (rid : Rid) (owners : List Kind) (forests : TableForests) : Type 0 where
  pub has : HaveEntries def was rid (differing_chosen def was is) forests.indexes
  pub lacks : LackEntries def is rid (differing_chosen def was is) forests.indexes
