-- A row that was taken out or written over, as calls on a table say it.
use Rattle.std.proofs.Common.{◌≡◌, ◌<◌, ◌≤◌, ◌+◌, ℕ, false, List, [], ◌∷◌, length, refl, arith, sym, subst, ◌⊎◌, inl, inr}
use Rattle.std.specs.Prelude.{IsTrue, OnOk, Option, Some, None, Result, Ok, Err, slice_set}
use Rattle.std.specs.List.{AllZip}
use Rattle.std.proofs.lemmas.Bool.Decides.{nat_tests}
use Rattle.mdc_words.specs.ByteOrder.{Entry}
use Rattle.mdc_values.specs.declared.rid.Rid.{Rid}
use Rattle.mdc_ast.specs.declared.definition.ColumnDef.{ColumnDef}
use Rattle.mdc_ast.specs.declared.definition.TableDef.{TableDef}
use Rattle.mdc_ast.specs.declared.row.Row.{Row}
use Rattle.mdc_ast.specs.Definitions.{are_there, places_of}
use Rattle.store_api.specs.declared.fault.StoreFault.{StoreFault}
use Rattle.store_api.specs.declared.pages.Pages.{Ghosts}
use Rattle.store_api.specs.declared.shape.Shape.{Shape}
use Rattle.extent_map.specs.declared.kind.Kind.{Kind}
use Rattle.extent_map.specs.declared.space_notes.SpaceNotes.{SpaceNotes}
use Rattle.key_codec.proofs.KeyLemmas.{first_there}
use Rattle.table_trees.specs.TableTrees.{rising_parts}
use Rattle.block_index.specs.Cells.{HaveKeys}
use Rattle.block_rows.specs.HeldRows.{HasReadValues}
use Rattle.table_trees.specs.RowCells.{AreOfOneCell}
use Rattle.table_trees.specs.SpaceChanges.{IsSameSpace}
use Rattle.mdc_sound.specs.Placing.{IsRowAt, Spot, block_slot_count, left_with}
use Rattle.mdc_sound.specs.Placing.Spot.{UsedBlock}
use Rattle.mdc_sound.proofs.SlotRowsLemmas.{empty_slot}
use Rattle.table_blocks.proofs.ClearedSlotsLemmas.{count_cleared}
use Rattle.row_page.specs.RowPage.{count_rows}
use Rattle.mdc_sound.specs.StandingTable.{AreRightRooms, BreaksExpected, HasRowAt, IsReadyTable, NamesTablePart, RoomNote, StandsTable, TableForests, TakesRowOut, pages_of, spots_of}
use Rattle.table_blocks.specs.BlockChanges.{SameSpot, TurnsSpot}
use Rattle.table_blocks.specs.BlockSteps.{EmptiesSlot, HasThisRow}
use Rattle.free_space.specs.FoundRoom.{cell_key_of}
use Rattle.free_space.specs.RoomNotes.{IsForgotten, Lowers, lowered_to, room_of}
use Rattle.free_space.specs.declared.rooms.Rooms.{Rooms}
use Rattle.free_space.proofs.RoomNotesLemmas.{noted_at_most, others_at_most}
use Rattle.mdc_table.specs.AnyPlace.{TakesOutAnywhere}
use Rattle.mdc_table.specs.LoweredNotes.{LowersNoteOf, NotesRowTaken}
use Rattle.mdc_table.specs.RowSteps.{OverwritesRowInTable}
use Rattle.mdc_table.specs.WhereStanding.{WhereStandsWithRow}
use Rattle.mdc_table.proofs.KeptRoomsLemmas.{rooms_left, rooms_lowered, rooms_overwritten}
use Rattle.mdc_table.proofs.StandingBlocksLemmas.{length-slots_at, lies_within}

-- a row that was read has keys in places that are there
pub keys_of_read : (columns : List ColumnDef) (places : List ℕ) (row : Row) → IsTrue (are_there columns (places_of (rising_parts places))) → HasReadValues columns row → HaveKeys columns places row.values
keys_of_read columns [] row there read = tt
keys_of_read columns (place ∷ places) row there read =
    let split = first_there columns (record { column = place; descending = false }) (rising_parts places) there in
    let within : place < length columns = grind (arith, nat_tests, split.0) in
    (read.each place within, keys_of_read columns places row split.1 read)

-- a note that was lowered by the key of a row's cell
pub note_lowered : (def : TableDef) (row : Row) (block : ℕ) (old new : Rooms) (key : Entry) → key ≡ cell_key_of def row.values → Lowers key block old new → LowersNoteOf def row block (room_of old) (room_of new)
note_lowered def row block old new key is lowers =
    subst (λ (k : Entry). Lowers k block old new → LowersNoteOf def row block (room_of old) (room_of new)) (sym is)
    (λ by. record {
      cell = noted_at_most (cell_key_of def row.values) (lowered_to block (room_of old (cell_key_of def row.values))) old new by;
      others = others_at_most (cell_key_of def row.values) (lowered_to block (room_of old (cell_key_of def row.values))) old new by;
    }) lowers

-- and where all notes were lost
pub note_forgotten : (def : TableDef) (row : Row) (block : ℕ) (old new : Rooms) → IsForgotten new → LowersNoteOf def row block (room_of old) (room_of new)
note_forgotten def row block old new none = record { cell = inr (none (cell_key_of def row.values)); others = λ other differ. inr (none other) }

same_spots : (xs ys : List Spot) → AllZip SameSpot xs ys → xs ≡ ys
same_spots [] [] all = refl
same_spots [] (y ∷ ys) all = absurd all
same_spots (x ∷ xs) [] all = absurd all
same_spots (x ∷ xs) (y ∷ ys) all = let first : x ≡ y = all.0 in let rest : xs ≡ ys = same_spots xs ys all.1 in cc (first, rest)

module _ {S : Type 0} {g : Ghosts S} where
  -- ---- no row lies where there is no such extent or no such slot

  none_lies : (shape : Shape) (s : S) (def : TableDef) (rid : Rid) → (shape.extents ≤ rid.block) ⊎ (block_slot_count shape def ≤ rid.slot) → (row : Row) (slots : List (Option Row)) (owners : List Kind) (forests : TableForests)
      → StandsTable g shape s def owners forests → IsRowAt (spots_of g shape s def owners forests) rid row slots → ⊥
  none_lies shape s def rid past row slots owners forests st lies =
      let within = lies_within shape s def owners forests st rid row slots lies in
      elim past [ inl high ↦ omega (arith, high, within.0) | inr high ↦ omega (arith, high, within.1) ]

  -- so damage is named where one should lie
  pub no_row_there : (shape : Shape) (s : S) (def : TableDef) (rid : Rid) → (shape.extents ≤ rid.block) ⊎ (block_slot_count shape def ≤ rid.slot)
      → BreaksExpected g shape s def (HasRowAt g shape s def rid) (record { page = def.roots.map; rule = 6 })
  no_row_there shape s def rid past = record {
    names = NamesTablePart.block_map refl refl;
    broken = λ owners forests st has. none_lies shape s def rid past has.row has.slots owners forests st has.lies;
  }

  -- or where this one should
  pub not_this_row_there : (shape : Shape) (s : S) (def : TableDef) (rid : Rid) (row : Row) → (shape.extents ≤ rid.block) ⊎ (block_slot_count shape def ≤ rid.slot)
      → BreaksExpected g shape s def (HasThisRow g shape s def rid row) (record { page = def.roots.map; rule = 6 })
  not_this_row_there shape s def rid row past = record {
    names = NamesTablePart.block_map refl refl;
    broken = λ owners forests st has. none_lies shape s def rid past row has.slots owners forests st has.lies;
  }

  -- ---- a row less

  -- whatever the notes say
  pub taken_anywhere : (shape : Shape) (before noted : SpaceNotes) (old new : S) (def : TableDef) (rid : Rid) (row : Row) (owners : List Kind) (forests : TableForests)
      → EmptiesSlot g shape before noted old new def rid row owners forests → TakesOutAnywhere g shape before noted old new def owners forests row rid
  taken_anywhere shape before noted old new def rid row owners forests empties = record {
    owners_now = empties.owners_now;
    forests_now = empties.forests_now;
    changes = empties.turns.changes;
    records = empties.turns.records;
    mid = slice_set (spots_of g shape old def owners forests) rid.block (left_with (slice_set empties.slots rid.slot None));
    takes = record { slots = empties.slots; lies = empties.lies; is_left = refl };
    returns = empties.turns.spots;
  }

  -- and where the notes are right
  module _ (shape : Shape) (before noted : SpaceNotes) (old new : S) (def : TableDef) (rid : Rid) (row : Row) (owners : List Kind) (forests : TableForests) (from now : Entry → RoomNote) (ready : IsReadyTable g shape before from old def owners forests)
      (empties : EmptiesSlot g shape before noted old new def rid row owners forests) where
    row_out : AreRightRooms def now (spots_of g shape new def empties.owners_now empties.forests_now) → TakesRowOut g shape before noted now old new def owners forests row rid
    unfolding taken_anywhere
    row_out rooms =
        let out = taken_anywhere shape before noted old new def rid row owners forests empties in
        record {
          owners_now = out.owners_now;
          forests_now = out.forests_now;
          changes = out.changes;
          records = out.records;
          rooms = rooms;
          mid = out.mid;
          takes = out.takes;
          returns = out.returns;
        }

    -- a row was taken out, and the note of its cell lowered
    row_taken : LowersNoteOf def row rid.block from now → TakesRowOut g shape before noted now old new def owners forests row rid
    row_taken lowers =
        row_out (rooms_lowered shape old new def owners empties.owners_now forests empties.forests_now ready.stands empties.turns.changes.stands from ready.rooms now rid row empties.slots empties.lies
        empties.turns.spots lowers)

  -- a row was taken out of a block that had room before, and others are left in it
  row_taken_of_several : (shape : Shape) (before noted : SpaceNotes) (old new : S) (def : TableDef) (rid : Rid) (row : Row) (owners : List Kind) (forests : TableForests) (from : Entry → RoomNote) (left : ℕ)
      → IsReadyTable g shape before from old def owners forests → EmptiesSlot g shape before noted old new def rid row owners forests
      → ((slots : List (Option Row)) → IsRowAt (spots_of g shape old def owners forests) rid row slots → count_rows slots ≡ left + 1) → 0 < left → left + 1 < block_slot_count shape def
      → TakesRowOut g shape before noted from old new def owners forests row rid
  row_taken_of_several shape before noted old new def rid row owners forests from left ready empties counts several fewer =
      let counted = counts empties.slots empties.lies in
      let less = count_cleared empties.slots rid.slot row empties.lies.slot in
      let long = length-slots_at shape old def owners forests ready.stands rid row empties.slots empties.lies in
      row_out shape before noted old new def rid row owners forests from from ready empties
      (rooms_left shape old new def owners empties.owners_now forests empties.forests_now ready.stands empties.turns.changes.stands from ready.rooms rid row empties.slots empties.lies empties.turns.spots
      (empty_slot empties.slots (omega (arith, counted, long, fewer))) (omega (arith, counted, less, several)))

  -- a row was taken out, and its block's rows that are left and the notes are as they should be
  pub row_taken_noted : (shape : Shape) (before noted : SpaceNotes) (old new : S) (def : TableDef) (rid : Rid) (row : Row) (owners : List Kind) (forests : TableForests) (from now : Entry → RoomNote) (left n : ℕ)
      → n ≡ block_slot_count shape def → IsReadyTable g shape before from old def owners forests → EmptiesSlot g shape before noted old new def rid row owners forests
      → ((slots : List (Option Row)) → IsRowAt (spots_of g shape old def owners forests) rid row slots → count_rows slots ≡ left + 1) → NotesRowTaken def row rid.block left n from now
      → TakesRowOut g shape before noted now old new def owners forests row rid
  row_taken_noted shape before noted old new def rid row owners forests from now left n long ready empties counts (NotesRowTaken.stay several fewer same) =
      subst (λ (notes : Entry → RoomNote). TakesRowOut g shape before noted notes old new def owners forests row rid) (sym same)
      (row_taken_of_several shape before noted old new def rid row owners forests from left ready empties counts several (omega (arith, fewer, long)))
  row_taken_noted shape before noted old new def rid row owners forests from now left n long ready empties counts (NotesRowTaken.lowered by) =
      row_taken shape before noted old new def rid row owners forests from now ready empties by

-- another row was written over the one that lay in the place
pub row_overwritten : {S : Type 0} (g : Ghosts S) (shape : Shape) (old new : S) (def : TableDef) (rid : Rid) (row : Row) (from : Entry → RoomNote) (result : Result (Unit {0}) StoreFault)
    → OnOk result ((noted : SpaceNotes) (owners : List Kind) (forests : TableForests) (was : Row) (slots : List (Option Row)) → StandsTable g shape old def owners forests
    → IsRowAt (spots_of g shape old def owners forests) rid was slots → AreOfOneCell def was.values row.values
    → TurnsSpot g SameSpot shape noted noted old new def rid.block (UsedBlock (slice_set slots rid.slot (Some row))) owners forests owners forests)
    → OnOk result ((owners : List Kind) (forests : TableForests) → StandsTable g shape old def owners forests → HasRowAt g shape old def rid owners forests → IsSameSpace shape (pages_of g old) (pages_of g new))
    → OnOk result ((was : Row) → WhereStandsWithRow g shape old def rid was (OverwritesRowInTable g shape from old new def was row rid))
row_overwritten g shape old new def rid row from (Ok x) turns makes = λ was owners forests st has.
    let noted : SpaceNotes = record { free_from = 0; unused_from = 0 } in
    let other_there = λ (cell : AreOfOneCell def was.values row.values) (slots : List (Option Row)) (lies : IsRowAt (spots_of g shape old def owners forests) rid was slots).
    sym (same_spots (slice_set (spots_of g shape old def owners forests) rid.block (UsedBlock (slice_set slots rid.slot (Some row)))) (spots_of g shape new def owners forests) (turns noted owners forests was slots st lies cell).spots) in
    record {
      makes = makes owners forests st (record { row = was; slots = has.slots; lies = has.lies });
      leaves = λ cell noted. (turns noted owners forests was has.slots st has.lies cell).changes;
      anywhere = other_there;
      overwrites = λ cell noted ready.
          let turned = turns noted owners forests was has.slots st has.lies cell in
          record {
            changes = turned.changes;
            rooms = rooms_overwritten shape old new def owners owners forests forests st turned.changes.stands from ready.rooms rid was row has.slots has.lies cell turned.spots;
            slots = has.slots;
            lay = has.lies;
            spots = other_there cell has.slots has.lies;
          };
    }
row_overwritten g shape old new def rid row from (Err fault) turns makes = tt
