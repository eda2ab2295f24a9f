-- One row more, one less and one that became another leave pages sound as they are between two changes of rows, with the entries in
-- the record indexes.
use Rattle.std.proofs.Common.{◌≡◌, ◌<◌, ◌≤◌, ◌+◌, ℕ, List, ◌∷◌, Some, length, set, arith}
use Rattle.std.specs.Prelude.{IsPermutation}
use Rattle.std.proofs.lemmas.List.Sorted.{IsPermutation-sym}
use Rattle.mdc_words.specs.ByteOrder.{Entry}
use Rattle.mdc_values.specs.declared.rid.Rid.{Rid}
use Rattle.mdc_ast.specs.declared.definition.TableDef.{TableDef}
use Rattle.mdc_ast.specs.declared.row.Row.{Row}
use Rattle.store_api.specs.Frame.{Touches}
use Rattle.store_api.specs.declared.pages.Pages.{Ghosts}
use Rattle.store_api.specs.declared.shape.Shape.{Shape}
use Rattle.extent_map.specs.declared.kind.Kind.{Kind}
use Rattle.extent_map.specs.declared.space_notes.SpaceNotes.{SpaceNotes}
use Rattle.entry_tree.specs.Forest.{Forest}
use Rattle.block_map.specs.MapLines.{pending_blocks}
use Rattle.mdc_sound.specs.BlockRules.{AreTableIndexesSound}
use Rattle.mdc_sound.specs.Placing.{ChangesRow, Spot, SpotsAfterClaims, block_slot_count}
use Rattle.mdc_sound.specs.Placing.Spot.{OtherBlock, UsedBlock}
use Rattle.mdc_sound.specs.SoundDatabase.{IsSoundBetweenChanges}
use Rattle.mdc_sound.specs.StandingTable.{IsTableSpace, RoomNote, StandsTable, TableForests, pages_of, spots_of, view_of}
use Rattle.mdc_sound.specs.TableRows.{PlacedRow}
use Rattle.mdc_sound.proofs.ChangedTablesLemmas.{between_with_definition, between_with_next}
use Rattle.mdc_sound.proofs.NextNumberLemmas.{with_next}
use Rattle.mdc_sound.proofs.RowNumbersLemmas.{numbers_in_order, numbers_over, numbers_with, numbers_without}
use Rattle.record_index.specs.SoundRows.{LieApart}
use Rattle.row_entries.specs.SoundEntries.{AreIndexesSound, StayPending, StayPendingSpots, placed_at}
use Rattle.row_entries.proofs.PendingSpotsLemmas.{stay_claimed, stay_put, stay_returned, stay_taken}
use Rattle.row_entries.proofs.SoundEntriesLemmas.{sound_coming, sound_giving_way, sound_going}
use Rattle.row_entries.proofs.StandingRowsLemmas.{lie_apart, pending_by_spot}
use Rattle.cell_change.specs.RowChanges.{ChangesOneRow, DeletesRow, InsertsRow, TurnsEntries, rows_now}
use Rattle.cell_change.proofs.RowChangesLemmas.{indexes_here, numbers_here}
use Rattle.cell_change.proofs.SpotStepsLemmas.{pending_turned}

-- ---- a row that became another

-- blocks that are Pending stay so
pending_changed : (def : TableDef) (n : ℕ) (old mid new : List Spot) (rid to : Rid) (row other : Row) → ChangesRow def n old rid row other mid to → SpotsAfterClaims mid new → StayPendingSpots old new
pending_changed def n old mid new rid _ row other (ChangesRow.stays slots cell lies returns) claims block is =
    let with = set old rid.block (UsedBlock (set slots rid.slot (Some other))) in
    stay_claimed mid new claims block (stay_returned with mid returns block (pending_turned old rid slots (set slots rid.slot (Some other)) block (lies.block OtherBlock) is))
pending_changed def n old mid new rid _ row other (ChangesRow.moves left free to apart takes returns puts) claims block is =
    stay_put def n free mid new other to puts claims block (stay_taken old left free row rid takes returns block is)

-- the record indexes are sound for the rows with the other one
indexes_turned : (def : TableDef) (row other : Row) (rid : Rid) (rows rows_now stay : List PlacedRow) (pending pending_now : List ℕ) (trees after : List Forest) → AreIndexesSound def rows pending trees → LieApart rows
    → (to : Rid) → TurnsEntries def row other rid trees after to → IsPermutation (placed_at rid row ∷ stay) rows → IsPermutation (placed_at to other ∷ stay) rows_now → StayPending pending pending_now
    → AreIndexesSound def rows_now pending_now after
indexes_turned def row other rid rows rows_now stay pending pending_now trees after sound apart _ (TurnsEntries.stays left cell lose gain) were are pending_stay =
    sound_giving_way def row other rid rows rows_now stay pending pending_now trees left after sound apart lose gain were are pending_stay
indexes_turned def row other rid rows rows_now stay pending pending_now trees after sound apart _ (TurnsEntries.moves left to cells lose gain) were are pending_stay =
    sound_coming def other to stay rows_now pending pending_now left after (sound_going def row rid rows stay pending pending trees left sound apart lose were (λ block there. there)) gain are pending_stay

module _ {S : Type 0} (g : Ghosts S) where
  -- blocks that are Pending stay so, where the spots say it
  pending_stay : (shape : Shape) (old new : S) (def : TableDef) (owners : List Kind) (forests : TableForests) → StandsTable g shape old def owners forests → (owners_now : List Kind) (forests_now : TableForests) → StandsTable g shape new def owners_now forests_now → StayPendingSpots (spots_of g shape old def owners forests) (spots_of g shape new def owners_now forests_now)
      → StayPending (pending_blocks forests.map) (pending_blocks forests_now.map)
  pending_stay shape old new def owners forests st owners_now forests_now now stay block there = (pending_by_spot g shape new def owners_now forests_now now block).1 (stay block ((pending_by_spot g shape old def owners forests st block).0 there))

  module _ (shape : Shape) {before noted : SpaceNotes} (old new : S) (def : TableDef) (owners : List Kind) (forests : TableForests) (st : StandsTable g shape old def owners forests) where
    -- ---- a row more

    indexes_inserted : {room_of : Entry → RoomNote} (row : Row) (rid : Rid) → (inserts : InsertsRow g shape before noted room_of old new def row rid owners forests) → AreTableIndexesSound shape (pages_of g old) (view_of def forests)
        → AreTableIndexesSound shape (pages_of g new) (view_of def inserts.forests_now)
    indexes_inserted row rid inserts sound =
        let pending = pending_stay shape old new def owners forests st inserts.owners_now inserts.forests_now inserts.changes.stands
        (stay_put def (block_slot_count shape def) (spots_of g shape old def owners forests) inserts.mid (spots_of g shape new def inserts.owners_now inserts.forests_now) row rid inserts.puts inserts.claims) in
        sound_coming def row rid (rows_now g shape old def forests) (rows_now g shape new def inserts.forests_now) (pending_blocks forests.map) (pending_blocks inserts.forests_now.map) forests.indexes inserts.forests_now.indexes
        sound inserts.entries inserts.rows pending

    pub sound_inserted : {room_of : Entry → RoomNote} (row : Row) (rid : Rid) → InsertsRow g shape before noted room_of old new def row rid owners forests → row.number ≡ def.next → def.next + 1 < 18446744073709551616
        → Touches g (IsTableSpace g shape old def) old new → length (pages_of g old) ≤ length (pages_of g new)
        → IsSoundBetweenChanges shape def (pages_of g old) → IsSoundBetweenChanges shape (with_next def (def.next + 1)) (pages_of g new)
    sound_inserted row rid inserts number small touched longer between =
        let were = rows_now g shape old def forests in
        let now = rows_now g shape new def inserts.forests_now in
        let more = numbers_with def (def.next + 1) (placed_at rid row) were (numbers_here g shape old def owners forests between st) (omega (arith, number)) (omega (arith, number)) in
        between_with_next g shape old new def owners inserts.owners_now forests inserts.forests_now between.sound st inserts.changes touched longer between.rule11 between.numbers between.other_keys
        (indexes_inserted row rid inserts (indexes_here g shape old def owners forests between st)) (def.next + 1) small (numbers_in_order (with_next def (def.next + 1)) (placed_at rid row ∷ were) now inserts.rows more)

    -- ---- a row less

    pub indexes_deleted : {room_of room_now : Entry → RoomNote} (row : Row) (rid : Rid) → (deletes : DeletesRow g shape before noted room_of room_now old new def row rid owners forests) → AreTableIndexesSound shape (pages_of g old) (view_of def forests)
        → AreTableIndexesSound shape (pages_of g new) (view_of def deletes.forests_now)
    indexes_deleted row rid deletes sound =
        let pending = pending_stay shape old new def owners forests st deletes.owners_now deletes.forests_now deletes.changes.stands
        (stay_taken (spots_of g shape old def owners forests) deletes.mid (spots_of g shape new def deletes.owners_now deletes.forests_now) row rid deletes.takes deletes.returns) in
        sound_going def row rid (rows_now g shape old def forests) (rows_now g shape new def deletes.forests_now) (pending_blocks forests.map) (pending_blocks deletes.forests_now.map) forests.indexes deletes.forests_now.indexes
        sound (lie_apart g shape old def owners forests st) deletes.entries deletes.rows pending

    pub sound_deleted : {room_of room_now : Entry → RoomNote} (row : Row) (rid : Rid) → DeletesRow g shape before noted room_of room_now old new def row rid owners forests
        → Touches g (IsTableSpace g shape old def) old new → length (pages_of g old) ≤ length (pages_of g new)
        → IsSoundBetweenChanges shape def (pages_of g old) → IsSoundBetweenChanges shape def (pages_of g new)
    sound_deleted row rid deletes touched longer between =
        let were = rows_now g shape old def forests in
        let now = rows_now g shape new def deletes.forests_now in
        let first = placed_at rid row ∷ now in
        let numbers = numbers_in_order def were first (IsPermutation-sym first were deletes.rows) (numbers_here g shape old def owners forests between st) in
        between_with_definition g shape old new def owners deletes.owners_now forests deletes.forests_now between.sound st deletes.changes touched longer between.rule11 between.numbers between.other_keys
        (indexes_deleted row rid deletes (indexes_here g shape old def owners forests between st)) (numbers_without def (placed_at rid row) now numbers)

    -- ---- a row that became another

    pub sound_changed : {room_of : Entry → RoomNote} (row other : Row) (rid to : Rid) → ChangesOneRow g shape before noted room_of old new def row other rid to owners forests → other.number ≡ row.number
        → Touches g (IsTableSpace g shape old def) old new → length (pages_of g old) ≤ length (pages_of g new)
        → IsSoundBetweenChanges shape def (pages_of g old) → IsSoundBetweenChanges shape def (pages_of g new)
    sound_changed row other rid to one number touched longer between =
        let were = rows_now g shape old def forests in
        let now = rows_now g shape new def one.forests_now in
        let first = placed_at rid row ∷ one.stay in
        let pending = pending_stay shape old new def owners forests st one.owners_now one.forests_now one.changes.stands
        (pending_changed def (block_slot_count shape def) (spots_of g shape old def owners forests) one.mid (spots_of g shape new def one.owners_now one.forests_now) rid to row other one.turns one.claims) in
        let numbers = numbers_in_order def were first (IsPermutation-sym first were one.were) (numbers_here g shape old def owners forests between st) in
        let indexes = indexes_turned def row other rid were now one.stay (pending_blocks forests.map) (pending_blocks one.forests_now.map) forests.indexes one.forests_now.indexes (indexes_here g shape old def owners forests between st)
        (lie_apart g shape old def owners forests st) to one.entries one.were one.are pending in
        between_with_definition g shape old new def owners one.owners_now forests one.forests_now between.sound st one.changes touched longer between.rule11 between.numbers between.other_keys
        indexes (numbers_in_order def (placed_at to other ∷ one.stay) now one.are (numbers_over def (placed_at rid row) (placed_at to other) one.stay number numbers))
