-- What a change of one row makes of a table: where the row lies, which rows there are, which entries its record indexes have, and which
-- changes of space were made. And what it makes of the database that the pages stand for.
use Rattle.std.specs.Prelude.{◌≡◌, ◌⊎◌, ◌+◌, ℕ, List, [], ◌∷◌, ◌++◌, Option, IsPermutation, slice_index_or}
use Rattle.mdc_words.specs.ByteOrder.{Entry}
use Rattle.mdc_values.specs.declared.rid.Rid.{Rid}
use Rattle.mdc_ast.specs.Database.{Database, PlainTable, appended, changed_at}
use Rattle.mdc_ast.specs.declared.definition.TableDef.{TableDef}
use Rattle.mdc_ast.specs.declared.row.Row.{Row}
use Rattle.store_api.specs.declared.pages.Pages.{Ghosts}
use Rattle.store_api.specs.declared.shape.Shape.{Shape}
use Rattle.extent_map.specs.declared.kind.Kind.{Kind}
use Rattle.extent_map.specs.declared.space_notes.SpaceNotes.{SpaceNotes}
use Rattle.row_page.specs.RowPage.{count_rows}
use Rattle.entry_tree.specs.Forest.{Forest}
use Rattle.table_trees.specs.RowCells.{AreOfOneCell}
use Rattle.table_trees.specs.SpaceChanges.{MakesChanges, SpaceChange, added_entries, removed_entries}
use Rattle.table_trees.specs.ToldPages.{PageList}
use Rattle.block_index.specs.Listing.{GainsEntry, LosesEntry}
use Rattle.mdc_sound.specs.Placing.{ChangesRow, IsRowAt, PutsRow, Spot, SpotsAfterClaims, SpotsAfterReturns, TakesRow, block_slot_count}
use Rattle.mdc_sound.specs.Placing.Spot.{OtherBlock}
use Rattle.mdc_sound.specs.RunningFull.{differing_indexes, listings_in, putting_changes, taking_changes}
use Rattle.mdc_sound.specs.SoundDatabase.{IsSoundBetweenChanges, with_table_page}
use Rattle.mdc_sound.specs.StandingTable.{AreRightRooms, ChangesTable, IsReadyTable, KeepsBlocksBut, RoomNote, TableForests, pages_of, spots_of}
use Rattle.mdc_sound.specs.StandsForDatabase.{PagesStandFor, with_row, without_row}
use Rattle.mdc_sound.specs.TableRows.{PlacedRow, rows_in_table}
use Rattle.row_entries.specs.ChosenIndexes.{MoveChosen, all_chosen, differing_chosen, entry_of}
pub use Rattle.row_entries.specs.SoundEntries.{placed_at}
pub use Rattle.mdc_table.specs.WhereStanding.{WhereReady, WhereReadyWithRow, WhereStandsWithRow}

-- the rows of a table as a store has them now
abbrev pub rows_now : {S : Type 0} → Ghosts S → Shape → S → TableDef → TableForests → List PlacedRow
rows_now g shape s def forests = rows_in_table shape (pages_of g s) def forests.map

-- ---- the database

-- The pages are sound between two changes of rows with the table's definition as it is now, and stand for each plain database that the
-- old ones stood for, with this table changed.
pub record ChangesPlainTable (shape : Shape) (old new : PageList) (def now : TableDef) (changed : PlainTable → PlainTable) : Type 0 where
  pub sound : IsSoundBetweenChanges shape now new
  pub stands_for : (db : Database) → PagesStandFor shape (with_table_page def old) db → PagesStandFor shape (with_table_page now new) (changed_at db def.number changed)

-- so it is where the old ones were sound so
abbrev pub ChangesDatabase : Shape → PageList → PageList → TableDef → TableDef → (PlainTable → PlainTable) → Type 0
ChangesDatabase shape old new def now changed = IsSoundBetweenChanges shape def old → ChangesPlainTable shape old new def now changed

-- ---- a row more, and one less

-- The row was placed, and after that trees may have taken free extents. Each record index gained its entry and nothing else, and
-- the rows are those that there were with this one. No more space was taken than the row asks for, and the table's other blocks stay.
pub record InsertsRow {S : Type 0} (g : Ghosts S) (shape : Shape) (before noted : SpaceNotes) (room_of : Entry → RoomNote) (old new : S) (def : TableDef) (row : Row) (rid : Rid) (owners : List Kind) (forests : TableForests) : Type 0 where
  pub owners_now : List Kind
  pub forests_now : TableForests
  pub changes : ChangesTable g shape before noted old new def owners forests owners_now forests_now
  pub entries : MoveChosen GainsEntry (entry_of def row rid) (all_chosen def) def.indexes forests.indexes forests_now.indexes
  pub rooms : AreRightRooms def room_of (spots_of g shape new def owners_now forests_now)
  pub mid : List Spot
  pub puts : PutsRow def (block_slot_count shape def) (spots_of g shape old def owners forests) row mid rid
  pub claims : SpotsAfterClaims mid (spots_of g shape new def owners_now forests_now)
  pub rows : IsPermutation (placed_at rid row ∷ rows_now g shape old def forests) (rows_now g shape new def forests_now)
  pub makes : MakesChanges shape (pages_of g old) (putting_changes def row rid (slice_index_or (spots_of g shape old def owners forests) rid.block OtherBlock)) (pages_of g new)
  pub blocks : KeepsBlocksBut g shape old new def owners (λ block. block ≡ rid.block)

-- so it is in the database, where the row has the table's next number, which is raised
pub record InsertsIntoDatabase {S : Type 0} (g : Ghosts S) (shape : Shape) (before noted : SpaceNotes) (room_of : Entry → RoomNote) (old new : S) (def : TableDef) (row : Row) (rid : Rid) (owners : List Kind) (forests : TableForests) : Type 0 where
  pub table : InsertsRow g shape before noted room_of old new def row rid owners forests
  pub database : ChangesDatabase shape (pages_of g old) (pages_of g new) def (record def { next = def.next + 1 }) (appended (row.values ∷ []))

-- The row was taken out, and after that trees may have given extents back. Each record index lost its entry and nothing else, and
-- the rows are those that there were without it. Space changed as the row asks for. So it is whatever the notes say: where they were
-- right, they are.
pub record DeletesRow {S : Type 0} (g : Ghosts S) (shape : Shape) (before noted : SpaceNotes) (room_of room_now : Entry → RoomNote) (old new : S) (def : TableDef) (row : Row) (rid : Rid) (owners : List Kind) (forests : TableForests) : Type 0 where
  pub owners_now : List Kind
  pub forests_now : TableForests
  pub changes : ChangesTable g shape before noted old new def owners forests owners_now forests_now
  pub entries : MoveChosen LosesEntry (entry_of def row rid) (all_chosen def) def.indexes forests.indexes forests_now.indexes
  pub rooms : IsReadyTable g shape before room_of old def owners forests → AreRightRooms def room_now (spots_of g shape new def owners_now forests_now)
  pub mid : List Spot
  pub takes : TakesRow (spots_of g shape old def owners forests) rid row mid
  pub returns : SpotsAfterReturns mid (spots_of g shape new def owners_now forests_now)
  pub rows : IsPermutation (placed_at rid row ∷ rows_now g shape new def forests_now) (rows_now g shape old def forests)
  pub makes : (slots : List (Option Row)) → IsRowAt (spots_of g shape old def owners forests) rid row slots → MakesChanges shape (pages_of g old) (taking_changes def row rid (count_rows slots)) (pages_of g new)

-- so it is in the database
pub record DeletesFromDatabase {S : Type 0} (g : Ghosts S) (shape : Shape) (before noted : SpaceNotes) (room_of room_now : Entry → RoomNote) (old new : S) (def : TableDef) (row : Row) (rid : Rid) (owners : List Kind) (forests : TableForests) : Type 0 where
  pub table : DeletesRow g shape before noted room_of room_now old new def row rid owners forests
  pub database : ChangesDatabase shape (pages_of g old) (pages_of g new) def def (without_row row.number)

-- ---- a row that becomes another

-- The changes of space that one row of an UPDATE asks for, and the spots after it. All that is taken out for it goes before what is
-- put. A row that keeps its cell changes the record indexes in which its keys differ.
pub data TurnsRowBy (def : TableDef) (n : ℕ) (old : List Spot) (rid : Rid) (row other : Row) (new : List Spot) : List SpaceChange → Type 0 where
  stays : {mid : List Spot} → AreOfOneCell def row.values other.values → ChangesRow def n old rid row other mid rid → SpotsAfterClaims mid new
      → TurnsRowBy def n old rid row other new
      (removed_entries (listings_in def (differing_indexes def row other) row rid) ++ added_entries (listings_in def (differing_indexes def row other) other rid))
  moves : {left mid : List Spot} (free : List Spot) {to : Rid} {slots : List (Option Row)} → (AreOfOneCell def row.values other.values → ⊥) → IsRowAt old rid row slots
      → TakesRow old rid row left → SpotsAfterReturns left free → PutsRow def n free other mid to → SpotsAfterClaims mid new
      → TurnsRowBy def n old rid row other new (taking_changes def row rid (count_rows slots) ++ putting_changes def other to (slice_index_or free to.block OtherBlock))

-- these changes were made, and are those that the row asks for
pub record MakesOneChange {S : Type 0} (g : Ghosts S) (shape : Shape) (old new : S) (def : TableDef) (row other : Row) (rid : Rid) (owners : List Kind) (forests : TableForests) (spots_now : List Spot) : Type 0 where
  pub changes : List SpaceChange
  pub makes : MakesChanges shape (pages_of g old) changes (pages_of g new)
  pub turns : TurnsRowBy def (block_slot_count shape def) (spots_of g shape old def owners forests) rid row other spots_now changes

-- What becomes of the trees of the record indexes: where the row keeps its cell, those in which the keys differ lost its entry and
-- gained that of the other, and where it moves, each did. Nothing else changed in them.
pub data TurnsEntries (def : TableDef) (row other : Row) (rid : Rid) (trees after : List Forest) : Rid → Type 0 where
  stays : (left : List Forest) → AreOfOneCell def row.values other.values → MoveChosen LosesEntry (entry_of def row rid) (differing_chosen def row other) def.indexes trees left
      → MoveChosen GainsEntry (entry_of def other rid) (differing_chosen def row other) def.indexes left after → TurnsEntries def row other rid trees after rid
  moves : (left : List Forest) (to : Rid) → (AreOfOneCell def row.values other.values → ⊥) → MoveChosen LosesEntry (entry_of def row rid) (all_chosen def) def.indexes trees left
      → MoveChosen GainsEntry (entry_of def other to) (all_chosen def) def.indexes left after → TurnsEntries def row other rid trees after to

-- The row became another, in its place where it keeps its cell; the other rows stay, and so do all other entries of the record
-- indexes. After that trees may have taken free extents. Trees took no more space than that asks for, and the table's blocks stay but
-- those in which the two lie.
pub record ChangesOneRow {S : Type 0} (g : Ghosts S) (shape : Shape) (before noted : SpaceNotes) (room_of : Entry → RoomNote) (old new : S) (def : TableDef) (row other : Row) (rid to : Rid) (owners : List Kind) (forests : TableForests) : Type 0 where
  pub owners_now : List Kind
  pub forests_now : TableForests
  pub changes : ChangesTable g shape before noted old new def owners forests owners_now forests_now
  pub entries : TurnsEntries def row other rid forests.indexes forests_now.indexes to
  pub rooms : AreRightRooms def room_of (spots_of g shape new def owners_now forests_now)
  pub mid : List Spot
  pub turns : ChangesRow def (block_slot_count shape def) (spots_of g shape old def owners forests) rid row other mid to
  pub claims : SpotsAfterClaims mid (spots_of g shape new def owners_now forests_now)
  pub stay : List PlacedRow
  pub were : IsPermutation (placed_at rid row ∷ stay) (rows_now g shape old def forests)
  pub are : IsPermutation (placed_at to other ∷ stay) (rows_now g shape new def forests_now)
  pub space : MakesOneChange g shape old new def row other rid owners forests (spots_of g shape new def owners_now forests_now)
  pub blocks : KeepsBlocksBut g shape old new def owners (λ block. (block ≡ rid.block) ⊎ (block ≡ to.block))

-- so it is in the database, where both have one number
pub record ChangesInDatabase {S : Type 0} (g : Ghosts S) (shape : Shape) (before noted : SpaceNotes) (room_of : Entry → RoomNote) (old new : S) (def : TableDef) (row other : Row) (rid to : Rid) (owners : List Kind) (forests : TableForests) : Type 0 where
  pub table : ChangesOneRow g shape before noted room_of old new def row other rid to owners forests
  pub database : ChangesDatabase shape (pages_of g old) (pages_of g new) def def (with_row other)
