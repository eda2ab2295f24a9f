-- What calls made of a table, by states of a store whose pages are the same: the one that was marked, and the one that was kept.
use Rattle.std.proofs.Common.{◌≡◌, ◌<◌, ◌∙◌, ℕ, List, ◌∷◌, Option, ap, length, slice_index_or, subst, sym}
use Rattle.std.specs.Prelude.{IsPermutation}
use Rattle.mdc_words.specs.ByteOrder.{Entry}
use Rattle.mdc_values.specs.declared.rid.Rid.{Rid}
use Rattle.mdc_ast.specs.declared.definition.TableDef.{TableDef}
use Rattle.mdc_ast.specs.declared.row.Row.{Row}
use Rattle.mdc_ast.specs.Database.{PlainTable}
use Rattle.store_api.specs.StoreState.{page_at}
use Rattle.store_api.specs.Frame.{HoldsPage}
use Rattle.store_api.specs.declared.pages.Pages.{Ghosts}
use Rattle.store_api.specs.declared.shape.Shape.{Shape}
use Rattle.store_api.proofs.FrameLemmas.{holds_along}
use Rattle.extent_map.specs.Map.{root_stating}
use Rattle.extent_map.specs.declared.kind.Kind.{Kind}
use Rattle.extent_map.specs.declared.space_notes.SpaceNotes.{SpaceNotes}
use Rattle.table_blocks.specs.BlockSteps.{HasThisRow}
use Rattle.row_page.specs.RowPage.{count_rows}
use Rattle.table_trees.specs.SpaceChanges.{MakesChanges}
use Rattle.table_trees.specs.ToldPages.{PageList}
use Rattle.table_trees.specs.TreesBeside.{GrowsPages}
use Rattle.mdc_sound.specs.Placing.{ChangesRow, IsRowAt, PutsRow, SpotsAfterClaims, SpotsAfterReturns, TakesRow, block_slot_count, table_spots}
use Rattle.mdc_sound.specs.Placing.Spot.{OtherBlock}
use Rattle.mdc_sound.specs.RunningFull.{block_changes, left_changes, putting_changes, taking_changes}
use Rattle.mdc_sound.specs.StandingTable.{AreRightRooms, ChangesTable, IsReadyTable, KeepsBlocksBut, PlacesRow, RoomNote, StandsTable, TableForests, TakesRowOut}
use Rattle.mdc_sound.specs.TableRows.{rows_in_table}
use Rattle.mdc_sound.proofs.StandingTableLemmas.{stands_same}
use Rattle.mdc_table.specs.AnyPlace.{PlacesAnywhere, PutsAnywhere, TakesOutAnywhere}
use Rattle.mdc_table.specs.RowSteps.{PlacesRowInTable, TakesRowFromTable}
use Rattle.mdc_table.proofs.PlacingRowsLemmas.{changes_along}
use Rattle.cell_change.specs.RowChanges.{ChangesDatabase, ChangesInDatabase, ChangesOneRow, DeletesFromDatabase, DeletesRow, InsertsIntoDatabase, InsertsRow, TurnsRowBy, placed_at}
use Rattle.checked_table.specs.WholeChanges.{HasSamePages}

module _ {S : Type 0} {g : Ghosts S} {old new : S} where
  pub pages_back : HasSamePages g old new → HasSamePages g new old
  pages_back pages = record { told = sym pages.told; same = sym pages.same }

  lies_there : {rid : Rid} {row : Row} {slots : List (Option Row)} (shape : Shape) (def : TableDef) (owners : List Kind) (forests : TableForests) → HasSamePages g old new → IsRowAt (table_spots shape (g.state old).work def owners forests.map) rid row slots
      → IsRowAt (table_spots shape (g.state new).work def owners forests.map) rid row slots
  lies_there {rid} {row} {slots} shape def owners forests pages lies = subst (λ (work : PageList). IsRowAt (table_spots shape work def owners forests.map) rid row slots) (sym pages.same) lies

  module _ {shape : Shape} {def : TableDef} where
    module _ {owners : List Kind} {forests : TableForests} where
      pub stands_there : HasSamePages g old new → StandsTable g shape old def owners forests → StandsTable g shape new def owners forests
      stands_there pages st = stands_same shape old new def owners forests pages.told pages.same st

      pub ready_there : {noted : SpaceNotes} {rooms : Entry → RoomNote} → HasSamePages g old new → IsReadyTable g shape noted rooms old def owners forests → IsReadyTable g shape noted rooms new def owners forests
      ready_there {noted} {rooms} pages ready = record {
        stands = stands_there pages ready.stands;
        notes = ready.notes;
        rooms = subst (λ (work : PageList). AreRightRooms def rooms (table_spots shape work def owners forests.map)) (sym pages.same) ready.rooms;
      }

      pub row_there : {rid : Rid} {row : Row} → HasSamePages g old new → HasThisRow g shape old def rid row owners forests → HasThisRow g shape new def rid row owners forests
      row_there pages has = record {
        slots = has.slots;
        lies = lies_there shape def owners forests pages has.lies;
      }

    -- what is so wherever the table stands now is so wherever it stood
    pub if_stood : {Is : List Kind → TableForests → Type 0} → HasSamePages g old new → ((owners : List Kind) (forests : TableForests) → StandsTable g shape new def owners forests → Is owners forests)
        → (owners : List Kind) (forests : TableForests) → StandsTable g shape old def owners forests → Is owners forests
    if_stood pages is owners forests st = is owners forests (stands_there pages st)

    -- where all went back, the blocks of the table are as they were
    pub stays_back : {owners : List Kind} {May : ℕ → Type 0} → (g.state new).work ≡ (g.state old).work → KeepsBlocksBut g shape old new def owners May
    stays_back same = record { stay = λ p of not. ap (λ (work : PageList). page_at work p) same }

-- ---- what was made between a mark and its end

module _ {S : Type 0} {g : Ghosts S} {old marked mid new : S} (first : HasSamePages g old marked) (last : HasSamePages g mid new) where
  -- what is said of the pages before and after
  said_between : (P : PageList → PageList → Type 0) → P (g.state marked).work (g.state mid).work → P (g.state old).work (g.state new).work
  said_between P is = subst (λ (work : PageList). P (g.state old).work work) (sym last.same) (subst (λ (work : PageList). P work (g.state mid).work) first.same is)

  grows_between : {shape : Shape} → GrowsPages g shape old mid → GrowsPages g shape old new
  grows_between grows =
      let count : length (g.state new).work ≡ length (g.state mid).work = ap length last.same in
      record {
        stated = record {
          same = λ same bytes holds. holds_along last.told last.same (grows.stated.same (sym count ∙ same) bytes holds);
          grown = λ more bytes holds.
              subst (λ n. HoldsPage g new 0 (root_stating n bytes)) (sym count) (holds_along last.told last.same (grows.stated.grown (subst (λ n. length (g.state old).work < n) count more) bytes holds));
          whole = λ more bytes holds. grows.stated.whole (subst (λ n. length (g.state old).work < n) count more) bytes holds;
        };
        whole = λ was.
            let now = grows.whole was in
            record { extents = now.extents; within = now.within; count = count ∙ now.count };
      }

  pub changes_between : {shape : Shape} {before noted : SpaceNotes} {def : TableDef} {owners : List Kind} {forests : TableForests} {owners_now : List Kind} {forests_now : TableForests}
      → ChangesTable g shape before noted marked mid def owners forests owners_now forests_now → ChangesTable g shape before noted old new def owners forests owners_now forests_now
  changes_between {shape} {before} {noted} {def} {owners} {forests} {owners_now} {forests_now} made =
      let begun = changes_along shape before noted old marked mid def owners forests first.told first.same owners_now forests_now made in
      record {
        stands = stands_there last begun.stands;
        others_blocks = begun.others_blocks;
        no_others_blocks = begun.no_others_blocks;
        others_pages = begun.others_pages;
        used_pages = begun.used_pages;
        pages = begun.pages;
        grows = grows_between begun.grows;
        notes = begun.notes;
      }

  pub stays_between : {shape : Shape} {def : TableDef} {owners : List Kind} {May : ℕ → Type 0} → KeepsBlocksBut g shape marked mid def owners May → KeepsBlocksBut g shape old new def owners May
  stays_between keeps = record { stay = λ p of not. said_between (λ was is. page_at is p ≡ page_at was p) (keeps.stay p of not) }

  database_between : {shape : Shape} {def now : TableDef} {changed : PlainTable → PlainTable} → ChangesDatabase shape (g.state marked).work (g.state mid).work def now changed → ChangesDatabase shape (g.state old).work (g.state new).work def now changed
  database_between {shape} {def} {now} {changed} made = said_between (λ was is. ChangesDatabase shape was is def now changed) made

  rooms_kept : (shape : Shape) (def : TableDef) (rooms : Entry → RoomNote) (owners : List Kind) (forests : TableForests) → AreRightRooms def rooms (table_spots shape (g.state mid).work def owners forests.map)
      → AreRightRooms def rooms (table_spots shape (g.state new).work def owners forests.map)
  rooms_kept shape def rooms owners forests right = said_between (λ was is. AreRightRooms def rooms (table_spots shape is def owners forests.map)) right

  -- a row that was put, and one that was taken out, whatever the notes say
  anywhere_between : {shape : Shape} {before noted : SpaceNotes} {def : TableDef} {row : Row} {rid : Rid} {owners : List Kind} {forests : TableForests} → PlacesAnywhere g shape before noted marked mid def owners forests row rid
      → PlacesAnywhere g shape before noted old new def owners forests row rid
  anywhere_between {shape} {def = def} {row = row} {rid = rid} {owners = owners} {forests = forests} made = record {
    owners_now = made.owners_now;
    forests_now = made.forests_now;
    changes = changes_between made.changes;
    records = made.records;
    mid = made.mid;
    puts = said_between (λ was is. PutsAnywhere def (block_slot_count shape def) (table_spots shape was def owners forests.map) row made.mid rid) made.puts;
    claims = said_between (λ was is. SpotsAfterClaims made.mid (table_spots shape is def made.owners_now made.forests_now.map)) made.claims;
  }

  out_between : {shape : Shape} {before noted : SpaceNotes} {def : TableDef} {row : Row} {rid : Rid} {owners : List Kind} {forests : TableForests} → TakesOutAnywhere g shape before noted marked mid def owners forests row rid
      → TakesOutAnywhere g shape before noted old new def owners forests row rid
  out_between {shape} {def = def} {row = row} {rid = rid} {owners = owners} {forests = forests} made = record {
    owners_now = made.owners_now;
    forests_now = made.forests_now;
    changes = changes_between made.changes;
    records = made.records;
    mid = made.mid;
    takes = said_between (λ was is. TakesRow (table_spots shape was def owners forests.map) rid row made.mid) made.takes;
    returns = said_between (λ was is. SpotsAfterReturns made.mid (table_spots shape is def made.owners_now made.forests_now.map)) made.returns;
  }

  -- the same by right notes
  module _ {shape : Shape} {before noted : SpaceNotes} {rooms : Entry → RoomNote} {def : TableDef} {row : Row} {rid : Rid} {owners : List Kind} {forests : TableForests} where
    places_between : PlacesRow g shape before noted rooms marked mid def owners forests row rid → PlacesRow g shape before noted rooms old new def owners forests row rid
    places_between made = record {
      owners_now = made.owners_now;
      forests_now = made.forests_now;
      changes = changes_between made.changes;
      records = made.records;
      rooms = rooms_kept shape def rooms made.owners_now made.forests_now made.rooms;
      mid = made.mid;
      puts = said_between (λ was is. PutsRow def (block_slot_count shape def) (table_spots shape was def owners forests.map) row made.mid rid) made.puts;
      claims = said_between (λ was is. SpotsAfterClaims made.mid (table_spots shape is def made.owners_now made.forests_now.map)) made.claims;
    }

    takes_between : TakesRowOut g shape before noted rooms marked mid def owners forests row rid → TakesRowOut g shape before noted rooms old new def owners forests row rid
    takes_between made = record {
      owners_now = made.owners_now;
      forests_now = made.forests_now;
      changes = changes_between made.changes;
      records = made.records;
      rooms = rooms_kept shape def rooms made.owners_now made.forests_now made.rooms;
      mid = made.mid;
      takes = said_between (λ was is. TakesRow (table_spots shape was def owners forests.map) rid row made.mid) made.takes;
      returns = said_between (λ was is. SpotsAfterReturns made.mid (table_spots shape is def made.owners_now made.forests_now.map)) made.returns;
    }

  module _ {shape : Shape} {before noted : SpaceNotes} {rooms : Entry → RoomNote} {def : TableDef} {row : Row} {rid : Rid} {owners : List Kind} {forests : TableForests} where
    -- all that is said of them
    pub placed_between : {now : Entry → RoomNote} → PlacesRowInTable g shape before noted rooms now marked mid def row rid owners forests → PlacesRowInTable g shape before noted rooms now old new def row rid owners forests
    placed_between made = record {
      anywhere = anywhere_between made.anywhere;
      stay = stays_between made.stay;
      places = λ ready. places_between (made.places (ready_there first ready));
      makes = λ ready.
          said_between (λ was is. MakesChanges shape was (block_changes def row rid.block (slice_index_or (table_spots shape was def owners forests.map) rid.block OtherBlock)) is) (made.makes (ready_there first ready));
    }

    pub taken_between : {now : Entry → RoomNote} → TakesRowFromTable g shape before noted rooms now marked mid def row rid owners forests → TakesRowFromTable g shape before noted rooms now old new def row rid owners forests
    taken_between made = record {
      leaves = out_between made.leaves;
      makes = λ slots lies. said_between (λ was is. MakesChanges shape was (left_changes def row rid.block (count_rows slots)) is) (made.makes slots (lies_there shape def owners forests first lies));
      takes = λ ready. takes_between (made.takes (ready_there first ready));
    }

    -- a row more, a row less, and one that became another
    inserts_between : InsertsRow g shape before noted rooms marked mid def row rid owners forests → InsertsRow g shape before noted rooms old new def row rid owners forests
    inserts_between made = record {
      owners_now = made.owners_now;
      forests_now = made.forests_now;
      changes = changes_between made.changes;
      entries = made.entries;
      rooms = rooms_kept shape def rooms made.owners_now made.forests_now made.rooms;
      mid = made.mid;
      puts = said_between (λ was is. PutsRow def (block_slot_count shape def) (table_spots shape was def owners forests.map) row made.mid rid) made.puts;
      claims = said_between (λ was is. SpotsAfterClaims made.mid (table_spots shape is def made.owners_now made.forests_now.map)) made.claims;
      rows = said_between (λ was is. IsPermutation (placed_at rid row ∷ rows_in_table shape was def forests.map) (rows_in_table shape is def made.forests_now.map)) made.rows;
      makes = said_between (λ was is. MakesChanges shape was (putting_changes def row rid (slice_index_or (table_spots shape was def owners forests.map) rid.block OtherBlock)) is) made.makes;
      blocks = stays_between made.blocks;
    }

    pub inserted_between : InsertsIntoDatabase g shape before noted rooms marked mid def row rid owners forests → InsertsIntoDatabase g shape before noted rooms old new def row rid owners forests
    inserted_between made = record { table = inserts_between made.table; database = database_between made.database }

    deletes_between : {now : Entry → RoomNote} → DeletesRow g shape before noted rooms now marked mid def row rid owners forests → DeletesRow g shape before noted rooms now old new def row rid owners forests
    deletes_between {now} made = record {
      owners_now = made.owners_now;
      forests_now = made.forests_now;
      changes = changes_between made.changes;
      entries = made.entries;
      rooms = λ ready. rooms_kept shape def now made.owners_now made.forests_now (made.rooms (ready_there first ready));
      mid = made.mid;
      takes = said_between (λ was is. TakesRow (table_spots shape was def owners forests.map) rid row made.mid) made.takes;
      returns = said_between (λ was is. SpotsAfterReturns made.mid (table_spots shape is def made.owners_now made.forests_now.map)) made.returns;
      rows = said_between (λ was is. IsPermutation (placed_at rid row ∷ rows_in_table shape is def made.forests_now.map) (rows_in_table shape was def forests.map)) made.rows;
      makes = λ slots lies. said_between (λ was is. MakesChanges shape was (taking_changes def row rid (count_rows slots)) is) (made.makes slots (lies_there shape def owners forests first lies));
    }

    pub deleted_between : {now : Entry → RoomNote} → DeletesFromDatabase g shape before noted rooms now marked mid def row rid owners forests → DeletesFromDatabase g shape before noted rooms now old new def row rid owners forests
    deleted_between made = record { table = deletes_between made.table; database = database_between made.database }

    turns_between : {other : Row} {to : Rid} → ChangesOneRow g shape before noted rooms marked mid def row other rid to owners forests → ChangesOneRow g shape before noted rooms old new def row other rid to owners forests
    turns_between {other} {to} made = record {
      owners_now = made.owners_now;
      forests_now = made.forests_now;
      changes = changes_between made.changes;
      entries = made.entries;
      rooms = rooms_kept shape def rooms made.owners_now made.forests_now made.rooms;
      mid = made.mid;
      turns = said_between (λ was is. ChangesRow def (block_slot_count shape def) (table_spots shape was def owners forests.map) rid row other made.mid to) made.turns;
      claims = said_between (λ was is. SpotsAfterClaims made.mid (table_spots shape is def made.owners_now made.forests_now.map)) made.claims;
      stay = made.stay;
      were = said_between (λ was is. IsPermutation (placed_at rid row ∷ made.stay) (rows_in_table shape was def forests.map)) made.were;
      are = said_between (λ was is. IsPermutation (placed_at to other ∷ made.stay) (rows_in_table shape is def made.forests_now.map)) made.are;
      space = record {
        changes = made.space.changes;
        makes = said_between (λ was is. MakesChanges shape was made.space.changes is) made.space.makes;
        turns = said_between (λ was is. TurnsRowBy def (block_slot_count shape def) (table_spots shape was def owners forests.map) rid row other (table_spots shape is def made.owners_now made.forests_now.map) made.space.changes) made.space.turns;
      };
      blocks = stays_between made.blocks;
    }

    pub changed_between : {other : Row} {to : Rid} → ChangesInDatabase g shape before noted rooms marked mid def row other rid to owners forests → ChangesInDatabase g shape before noted rooms old new def row other rid to owners forests
    changed_between made = record { table = turns_between made.table; database = database_between made.database }
