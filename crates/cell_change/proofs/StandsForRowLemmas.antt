-- One row more, one less and one that became another in the database: pages stay sound, and stand for the plain database that is changed
-- so.
use Rattle.std.proofs.Common.{◌≡◌, ◌<◌, ◌≤◌, ◌+◌, List, [], ◌∷◌, length}
use Rattle.mdc_words.specs.ByteOrder.{Entry}
use Rattle.mdc_values.specs.declared.rid.Rid.{Rid}
use Rattle.mdc_ast.specs.declared.definition.TableDef.{TableDef}
use Rattle.mdc_ast.specs.declared.row.Row.{Row}
use Rattle.mdc_ast.specs.Database.{appended}
use Rattle.store_api.specs.Frame.{Touches}
use Rattle.store_api.specs.declared.pages.Pages.{Ghosts}
use Rattle.store_api.specs.declared.shape.Shape.{Shape}
use Rattle.extent_map.specs.declared.kind.Kind.{Kind}
use Rattle.extent_map.specs.declared.space_notes.SpaceNotes.{SpaceNotes}
use Rattle.mdc_sound.specs.StandingTable.{IsTableSpace, RoomNote, StandsTable, TableForests, pages_of}
use Rattle.mdc_sound.specs.StandsForDatabase.{with_row, without_row}
use Rattle.mdc_sound.proofs.NextNumberLemmas.{with_next}
use Rattle.row_entries.specs.SoundEntries.{placed_at}
use Rattle.cell_change.specs.RowChanges.{ChangesDatabase, ChangesOneRow, DeletesRow, InsertsRow}
use Rattle.mdc_sound.proofs.ChangedDatabaseLemmas.{database_with, database_with_more, database_without}
use Rattle.cell_change.proofs.RowChangesLemmas.{numbers_here}
use Rattle.cell_change.proofs.SoundRowsLemmas.{sound_changed, sound_deleted, sound_inserted}

module _ {S : Type 0} (g : Ghosts S) (shape : Shape) {before noted : SpaceNotes} (old new : S) (def : TableDef) (owners : List Kind) (forests : TableForests) (st : StandsTable g shape old def owners forests)
    (touched : Touches g (IsTableSpace g shape old def) old new) (longer : length (pages_of g old) ≤ length (pages_of g new)) where
  -- a row more
  pub database_inserted : {room_of : Entry → RoomNote} (row : Row) (rid : Rid) → InsertsRow g shape before noted room_of old new def row rid owners forests → row.number ≡ def.next → def.next + 1 < 18446744073709551616
      → ChangesDatabase shape (pages_of g old) (pages_of g new) def (with_next def (def.next + 1)) (appended (row.values ∷ []))
  database_inserted row rid inserts number small between = record {
    sound = sound_inserted g shape old new def owners forests st row rid inserts number small touched longer between;
    stands_for = λ db stands.
        database_with_more g shape old new def owners inserts.owners_now forests inserts.forests_now between.sound st inserts.changes touched longer
        (numbers_here g shape old def owners forests between st) db stands (placed_at rid row) number small inserts.rows;
  }

  -- a row less
  pub database_deleted : {room_of room_now : Entry → RoomNote} (row : Row) (rid : Rid) → DeletesRow g shape before noted room_of room_now old new def row rid owners forests
      → ChangesDatabase shape (pages_of g old) (pages_of g new) def def (without_row row.number)
  database_deleted row rid deletes between = record {
    sound = sound_deleted g shape old new def owners forests st row rid deletes touched longer between;
    stands_for = λ db stands.
        database_without g shape old new def owners deletes.owners_now forests deletes.forests_now between.sound st deletes.changes touched longer
        (numbers_here g shape old def owners forests between st) db stands (placed_at rid row) deletes.rows;
  }

  -- a row that became another
  pub database_changed : {room_of : Entry → RoomNote} (row other : Row) (rid to : Rid) → ChangesOneRow g shape before noted room_of old new def row other rid to owners forests → other.number ≡ row.number
      → ChangesDatabase shape (pages_of g old) (pages_of g new) def def (with_row other)
  database_changed row other rid to one number between = record {
    sound = sound_changed g shape old new def owners forests st row other rid to one number touched longer between;
    stands_for = λ db stands.
        database_with g shape old new def owners one.owners_now forests one.forests_now between.sound st one.changes touched longer
        (numbers_here g shape old def owners forests between st) db stands (placed_at rid row) (placed_at to other) one.stay number one.were one.are;
  }
