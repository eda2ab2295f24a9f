-- Rows that are inserted one after the other: what one of them and the rest make, and when the rest runs full.
use Rattle.std.proofs.Common.{◌≡◌, ◌+◌, ℕ, List, [], ◌∷◌, ◌++◌, length, refl, ap, arith, sym, ◌∙◌, subst}
use Rattle.std.specs.Prelude.{slice_index_or}
use Rattle.std.proofs.lemmas.List.{append-nil, append_assoc}
use Rattle.mdc_words.specs.ByteOrder.{Entry}
use Rattle.mdc_values.specs.declared.rid.Rid.{Rid}
use Rattle.mdc_values.specs.declared.value.Value.{Value}
use Rattle.mdc_ast.specs.declared.definition.TableDef.{TableDef}
use Rattle.mdc_ast.specs.declared.row.Row.{Row}
use Rattle.mdc_ast.specs.Database.{PlainTable, appended, numbered}
use Rattle.store_api.specs.Frame.{Touches}
use Rattle.store_api.specs.Works.{Works}
use Rattle.store_api.specs.declared.pages.Pages.{Ghosts}
use Rattle.store_api.specs.declared.shape.Shape.{Shape}
use Rattle.extent_map.specs.declared.kind.Kind.{Kind}
use Rattle.extent_map.specs.declared.space_notes.SpaceNotes.{SpaceNotes}
use Rattle.table_trees.specs.SpaceChanges.{SpaceChange}
use Rattle.table_trees.specs.ToldPages.{PageList}
use Rattle.table_trees.proofs.SpaceChainsLemmas.{full_then}
use Rattle.mdc_sound.specs.Placing.{HasRoomFor, HoldsNowhere, PutsRow, Spot, block_slot_count}
use Rattle.mdc_sound.specs.Placing.Spot.{FreeExtent, IndexExtent, OtherBlock, FreeBlock, PendingBlock, UsedBlock}
use Rattle.mdc_sound.specs.RunningFull.{InsertingChanges, InsertRunsFull, block_changes, putting_changes}
use Rattle.mdc_sound.specs.StandingTable.{IsTableSpace, RoomNote, TableForests, pages_of, spots_of}
use Rattle.mdc_sound.proofs.NextNumberLemmas.{stands_next, with_next}
use Rattle.cell_change.specs.RowChanges.{InsertsIntoDatabase}
use Rattle.cell_change.proofs.ChangedSpaceLemmas.{shows_spots}
use Rattle.cell_change.proofs.TableStepsLemmas.{puts_no_block}
use Rattle.statement_rows.specs.RowsAndSpace.{PutsRowsBy}
use Rattle.statement_rows.specs.RowsOfStatement.{ChangesRowsOf, IsReadyBetween}
use Rattle.statement_rows.proofs.OtherTablesLemmas.{others_kept}
use Rattle.statement_rows.proofs.RowsThenLemmas.{RowsLeadOn, leads_all, leads_more, leads_none, rooms_next}
use Rattle.statement_rows.proofs.ShownSpotsLemmas.{shown_spots}
use Rattle.statement_rows.proofs.TablePagesLemmas.{table_pages_kept}

-- ---- plain tables

abbrev plain_table : TableDef → ℕ → List Row → PlainTable
plain_table def next rows = record { def = record def { next = next }; rows = rows }

-- one row is appended, and then the rest
pub appended_more : (values : List Value) (rest : List (List Value)) (table : PlainTable) → appended rest (appended (values ∷ []) table) ≡ appended (values ∷ rest) table
appended_more values rest table =
    let next : table.def.next + 1 + length rest ≡ table.def.next + length (values ∷ rest) = omega arith in
    let rows : (table.rows ++ numbered table.def.next (values ∷ [])) ++ numbered (table.def.next + 1) rest ≡ table.rows ++ numbered table.def.next (values ∷ rest) =
    append_assoc table.rows (numbered table.def.next (values ∷ [])) (numbered (table.def.next + 1) rest) in
    ap (λ n. plain_table table.def n ((table.rows ++ numbered table.def.next (values ∷ [])) ++ numbered (table.def.next + 1) rest)) next
    ∙ ap (plain_table table.def (table.def.next + length (values ∷ rest))) rows

pub appended_none : (table : PlainTable) → appended [] table ≡ table
appended_none table =
    let next : table.def.next + 0 ≡ table.def.next = omega arith in
    ap (λ n. plain_table table.def n (table.rows ++ [])) next ∙ ap (plain_table table.def table.def.next) (append-nil table.rows)

-- ---- whatever the next number is

module _ (def : TableDef) (next n : ℕ) where
  room_now : (row : Row) (spot : Spot) → HasRoomFor (with_next def next) row spot → HasRoomFor def row spot
  room_now row FreeExtent has = has
  room_now row IndexExtent has = has
  room_now row OtherBlock has = has
  room_now row FreeBlock has = has
  room_now row PendingBlock has = has
  room_now row (UsedBlock slots) has = has

  room_then : (row : Row) (spot : Spot) → HasRoomFor def row spot → HasRoomFor (with_next def next) row spot
  room_then row FreeExtent has = has
  room_then row IndexExtent has = has
  room_then row OtherBlock has = has
  room_then row FreeBlock has = has
  room_then row PendingBlock has = has
  room_then row (UsedBlock slots) has = has

  no_room : (row : Row) (spots : List Spot) → HoldsNowhere (HasRoomFor (with_next def next) row) spots → HoldsNowhere (HasRoomFor def row) spots
  no_room row spots none k d low has = none k d low (room_then row (slice_index_or spots k d) has)

  -- a row is put in the same place
  pub put_next : (old new : List Spot) (row : Row) (rid : Rid) → PutsRow (with_next def next) n old row new rid → PutsRow def n old row new rid
  put_next old new row rid (PutsRow.in_cell block slot slots lowest empty is) =
      PutsRow.in_cell block slot slots (record {
        within = lowest.within;
        is_it = lowest.is_it;
        holds = room_now row (UsedBlock slots) lowest.holds;
        lowest = λ k d low has. lowest.lowest k d low (room_then row (slice_index_or old k d) has);
      }) empty is
  put_next old new row rid (PutsRow.in_free_block block none lowest is) = PutsRow.in_free_block block (no_room row old none) lowest is
  put_next old new row rid (PutsRow.in_free_extent block none no_block lowest is) = PutsRow.in_free_extent block (no_room row old none) no_block lowest is

  -- what a row changes
  block_changes_next : (row : Row) (block : ℕ) (spot : Spot) → block_changes (with_next def next) row block spot ≡ block_changes def row block spot
  block_changes_next row block FreeExtent = refl
  block_changes_next row block IndexExtent = refl
  block_changes_next row block OtherBlock = refl
  block_changes_next row block FreeBlock = refl
  block_changes_next row block PendingBlock = refl
  block_changes_next row block (UsedBlock slots) = refl

  putting_next : (row : Row) (rid : Rid) (spot : Spot) → putting_changes (with_next def next) row rid spot ≡ putting_changes def row rid spot
  putting_next row rid spot = rw (block_changes_next row rid.block spot) refl

  -- and so all rows
  pub puts_next : (old new : List Spot) (rows : List Row) (space : List SpaceChange) → PutsRowsBy (with_next def next) n old rows space new → PutsRowsBy def n old rows space new
  puts_next old new [] _ (PutsRowsBy.none) = PutsRowsBy.none
  puts_next old new (row ∷ rows) _ (PutsRowsBy.one {mid = mid} {next = later} {changes = changes} rid puts claims rest) =
      subst (λ (first : List SpaceChange). PutsRowsBy def n old (row ∷ rows) (first ++ changes) new) (sym (putting_next row rid (slice_index_or old rid.block OtherBlock)))
      (PutsRowsBy.one rid (put_next old mid row rid puts) claims (puts_next later new rows changes rest))

  -- and what an INSERT does
  inserting_next : (spots : List Spot) (rows : List Row) (changes : List SpaceChange) → InsertingChanges (with_next def next) n spots rows changes → InsertingChanges def n spots rows changes
  inserting_next spots rows _ (InsertingChanges.none) = InsertingChanges.none
  inserting_next spots (row ∷ rows) _ (InsertingChanges.one {mid = mid} {next = later} {changes = changes} rid puts claims rest) =
      subst (λ (first : List SpaceChange). InsertingChanges def n spots (row ∷ rows) (first ++ changes)) (sym (putting_next row rid (slice_index_or spots rid.block OtherBlock)))
      (InsertingChanges.one rid (put_next spots mid row rid puts) claims (inserting_next later rows changes rest))
  inserting_next spots (row ∷ rows) _ (InsertingChanges.stuck no_spot) = InsertingChanges.stuck (no_room row spots no_spot.0, no_spot.1, no_spot.2)

-- what an INSERT of the first rows does, one of more rows does
inserting_more : (def : TableDef) (n : ℕ) (spots : List Spot) (rows more : List Row) (changes : List SpaceChange) → InsertingChanges def n spots rows changes → InsertingChanges def n spots (rows ++ more) changes
inserting_more def n spots rows more _ (InsertingChanges.none) = InsertingChanges.none
inserting_more def n spots (row ∷ rows) more _ (InsertingChanges.one {next = later} {changes = changes} rid puts claims rest) = InsertingChanges.one rid puts claims (inserting_more def n later rows more changes rest)
inserting_more def n spots (row ∷ rows) more _ (InsertingChanges.stuck no_spot) = InsertingChanges.stuck no_spot

-- an INSERT that runs full with its first row
pub full_at_first : (shape : Shape) (pages : PageList) (def : TableDef) (row : Row) (rows : List Row) → InsertRunsFull shape pages def (row ∷ []) → InsertRunsFull shape pages def (row ∷ rows)
full_at_first shape pages def row rows full = record {
  spots = full.spots;
  changes = full.changes;
  shows = full.shows;
  inserting = inserting_more def (block_slot_count shape def) full.spots (row ∷ []) rows full.changes full.inserting;
  full = full.full;
}

-- ---- one row

module _ {S : Type 0} (g : Ghosts S) (shape : Shape) (before now : SpaceNotes) (room_of room_now : Entry → RoomNote) (old new : S) (def : TableDef) (row : Row) (rid : Rid) (owners : List Kind) (forests : TableForests)
    (ready : IsReadyBetween g shape before room_of old def owners forests) (inserts : InsertsIntoDatabase g shape before now room_now old new def row rid owners forests) where
  -- the definition that has the next number
  abbrev pub raised : TableDef
  raised = with_next def (def.next + 1)

  -- what the row needs
  abbrev pub needed : List SpaceChange
  needed = putting_changes def row rid (slice_index_or (spots_of g shape old def owners forests) rid.block OtherBlock)

  -- rows are put behind it, by whichever changes
  abbrev pub PutsBefore : List Spot → List SpaceChange → List Spot → Type 0
  PutsBefore was space between =
      (rows : List Row) (more : List SpaceChange) (is : List Spot) → PutsRowsBy def (block_slot_count shape def) between rows more is → PutsRowsBy def (block_slot_count shape def) was (row ∷ rows) (space ++ more) is

  abbrev pub one_inserted : Works g old new → Touches g (IsTableSpace g shape old def) old new → ChangesRowsOf g shape before now room_now old new def raised owners forests PutsBefore (appended (row.values ∷ []))
  one_inserted works touches = record {
    owners_now = inserts.table.owners_now;
    forests_now = inserts.table.forests_now;
    changes = inserts.table.changes;
    now = record {
      ready = record {
        stands = stands_next g shape new def (def.next + 1) inserts.table.owners_now inserts.table.forests_now inserts.table.changes.stands;
        notes = inserts.table.changes.notes ready.ready.notes;
        rooms = rooms_next def (def.next + 1) room_now (spots_of g shape new def inserts.table.owners_now inserts.table.forests_now) inserts.table.rooms;
      };
      sound = (inserts.database ready.sound).sound;
    };
    space = needed;
    places = λ rows more is rest. PutsRowsBy.one rid inserts.table.puts inserts.table.claims rest;
    makes = inserts.table.makes;
    stands_for = (inserts.database ready.sound).stands_for;
    table_pages = table_pages_kept g shape old new def owners forests ready.ready.stands works touches;
    others = others_kept g shape old new def owners inserts.table.owners_now forests inserts.table.forests_now ready.sound.sound ready.ready.stands inserts.table.changes touches works.no_shorter;
  }

  -- the rows behind it are put as well by the definition before
  pub puts_then : (rows : List Row) (was between is : List Spot) (space more : List SpaceChange) → PutsBefore was space between → PutsRowsBy raised (block_slot_count shape raised) between rows more is
      → PutsRowsBy def (block_slot_count shape def) was (row ∷ rows) (space ++ more) is
  puts_then rows was between is space more first rest =
      first rows more is (puts_next def (def.next + 1) (block_slot_count shape def) between is rows more rest)

  -- where the rest runs full, all do
  pub full_behind : (rows : List Row) → InsertRunsFull shape (pages_of g new) raised rows → InsertRunsFull shape (pages_of g old) def (row ∷ rows)
  full_behind rows full =
      let spots = spots_of g shape old def owners forests in
      let later = spots_of g shape new def inserts.table.owners_now inserts.table.forests_now in
      let stands = stands_next g shape new def (def.next + 1) inserts.table.owners_now inserts.table.forests_now inserts.table.changes.stands in
      let same : full.spots ≡ later = shown_spots g shape new raised inserts.table.owners_now inserts.table.forests_now full.spots stands full.shows in
      let rest : InsertingChanges def (block_slot_count shape def) later rows full.changes =
      inserting_next def (def.next + 1) (block_slot_count shape def) later rows full.changes
      (subst (λ all. InsertingChanges raised (block_slot_count shape raised) all rows full.changes) same full.inserting) in
      record {
        spots = spots;
        changes = needed ++ full.changes;
        shows = shows_spots g shape old def owners forests ready.ready.stands;
        inserting = InsertingChanges.one rid inserts.table.puts inserts.table.claims rest;
        full = full_then shape (pages_of g old) (pages_of g new) needed full.changes inserts.table.makes full.full;
      }

-- ---- rows so far, and the rest

-- Rows were inserted, and so the table is ready for the rest of these values. With these all are inserted, and where they run
-- full, all do.
pub record InsertsOn {S : Type 0} (g : Ghosts S) (shape : Shape) (before now : SpaceNotes) (room_now : Entry → RoomNote) (old mid : S) (def def_now : TableDef) (tuples rest : List (List Value)) (owners : List Kind) (forests : TableForests) : Type 0 where
  pub rows : RowsLeadOn g shape before now room_now old mid def def_now owners forests (λ was space is. PutsRowsBy def_now (block_slot_count shape def_now) was (numbered def_now.next rest) space is)
      (λ was space is. PutsRowsBy def (block_slot_count shape def) was (numbered def.next tuples) space is) (appended rest) (appended tuples)
  pub full_on : InsertRunsFull shape (pages_of g mid) def_now (numbered def_now.next rest) → InsertRunsFull shape (pages_of g old) def (numbered def.next tuples)

module _ {S : Type 0} (g : Ghosts S) where
  pub inserts_none : (shape : Shape) (noted : SpaceNotes) (room_of : Entry → RoomNote) (s : S) (def : TableDef) (tuples : List (List Value)) (owners : List Kind) (forests : TableForests) → IsReadyBetween g shape noted room_of s def owners forests
      → InsertsOn g shape noted noted room_of s s def def tuples tuples owners forests
  inserts_none shape noted room_of s def tuples owners forests ready = record {
    rows = leads_none g shape noted room_of s def owners forests (λ was space is. PutsRowsBy def (block_slot_count shape def) was (numbered def.next tuples) space is) (appended tuples) ready;
    full_on = λ full. full;
  }

  pub inserts_all : (shape : Shape) (before now : SpaceNotes) (room_now : Entry → RoomNote) (old new : S) (def def_now : TableDef) (tuples : List (List Value)) (owners : List Kind) (forests : TableForests)
      → InsertsOn g shape before now room_now old new def def_now tuples [] owners forests
      → ChangesRowsOf g shape before now room_now old new def def_now owners forests (λ was space is. PutsRowsBy def (block_slot_count shape def) was (numbered def.next tuples) space is) (appended tuples)
  inserts_all shape before now room_now old new def def_now tuples owners forests on =
      leads_all g shape before now room_now old new def def_now owners forests (λ was space is. PutsRowsBy def_now (block_slot_count shape def_now) was [] space is)
      (λ was space is. PutsRowsBy def (block_slot_count shape def) was (numbered def.next tuples) space is) (appended []) (appended tuples) on.rows (λ spots. PutsRowsBy.none) appended_none

  module _ (shape : Shape) (before mid : SpaceNotes) (room_mid : Entry → RoomNote) (old middle : S) (def def_mid : TableDef) (tuples rest : List (List Value)) (owners : List Kind) (forests : TableForests) where
    pub inserts_more : (next : SpaceNotes) (room_next : Entry → RoomNote) (new : S) (values : List Value) (rid : Rid) (on : InsertsOn g shape before mid room_mid old middle def def_mid tuples (values ∷ rest) owners forests)
        → InsertsIntoDatabase g shape mid next room_next middle new def_mid (record { number = def_mid.next; values = values }) rid on.rows.owners_now on.rows.forests_now
        → Works g middle new → Touches g (IsTableSpace g shape middle def_mid) middle new → InsertsOn g shape before next room_next old new def (with_next def_mid (def_mid.next + 1)) tuples rest owners forests
    inserts_more next room_next new values rid on inserts works touches =
        let row : Row = record { number = def_mid.next; values = values } in
        let ready = on.rows.ready in
        let rows = numbered (def_mid.next + 1) rest in
        record {
          rows = leads_more g shape before mid next room_mid room_next old middle new def def_mid (def_mid.next + 1) owners forests (PutsBefore g shape mid next room_mid room_next middle new def_mid row rid on.rows.owners_now on.rows.forests_now ready inserts)
              (λ was space is. PutsRowsBy def_mid (block_slot_count shape def_mid) was (numbered def_mid.next (values ∷ rest)) space is)
              (λ was space is. PutsRowsBy (with_next def_mid (def_mid.next + 1)) (block_slot_count shape (with_next def_mid (def_mid.next + 1))) was rows space is)
              (λ was space is. PutsRowsBy def (block_slot_count shape def) was (numbered def.next tuples) space is) (appended (values ∷ [])) (appended (values ∷ rest)) (appended rest) (appended tuples) on.rows
              (one_inserted g shape mid next room_mid room_next middle new def_mid row rid on.rows.owners_now on.rows.forests_now ready inserts works touches)
              (puts_then g shape mid next room_mid room_next middle new def_mid row rid on.rows.owners_now on.rows.forests_now ready inserts rows)
              (puts_no_block g shape middle new def_mid on.rows.owners_now on.rows.forests_now ready.ready.stands inserts.table.owners_now inserts.table.forests_now inserts.table.mid row rid inserts.table.puts inserts.table.claims) (appended_more values rest) works.no_shorter;
          full_on = λ full. on.full_on (full_behind g shape mid next room_mid room_next middle new def_mid row rid on.rows.owners_now on.rows.forests_now ready inserts rows full);
        }
