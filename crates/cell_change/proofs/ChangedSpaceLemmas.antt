-- The changes of space of a row that moves, and when a row that is inserted or moves runs full.
use Rattle.std.proofs.Common.{List, [], ◌∷◌, ◌++◌, refl, arith}
use Rattle.std.specs.Prelude.{IfOk, Result, Ok, Err, slice_index_or}
use Rattle.mdc_words.specs.ByteOrder.{Entry}
use Rattle.mdc_values.specs.declared.rid.Rid.{Rid}
use Rattle.mdc_ast.specs.declared.definition.TableDef.{TableDef}
use Rattle.mdc_ast.specs.declared.row.Row.{Row}
use Rattle.store_api.specs.declared.pages.Pages.{Ghosts}
use Rattle.store_api.specs.declared.shape.Shape.{Shape}
use Rattle.extent_map.specs.declared.kind.Kind.{Kind}
use Rattle.extent_map.specs.declared.space_notes.SpaceNotes.{SpaceNotes}
use Rattle.row_page.specs.RowPage.{count_rows}
use Rattle.table_trees.specs.RowCells.{AreOfOneCell}
use Rattle.table_trees.specs.SpaceChanges.{MakesChanges, SpaceChange}
use Rattle.table_trees.specs.SpaceChanges.SpaceChange.{ClaimBlock}
use Rattle.table_trees.specs.TableTrees.{map_place}
use Rattle.table_trees.proofs.SpaceChainsLemmas.{changes_then, full_before, full_then}
use Rattle.table_trees.proofs.ToldPagesLemmas.{map_of_told, tree_of_told}
use Rattle.mdc_sound.specs.Placing.{IsRowAt, Spot}
use Rattle.mdc_sound.specs.Placing.Spot.{OtherBlock}
use Rattle.mdc_sound.specs.RunningFull.{InsertingChanges, InsertRunsFull, ShowsTableSpots, UpdateRunsFull, UpdatingChanges, putting_changes, taking_changes}
use Rattle.mdc_sound.specs.StandingTable.{RoomNote, StandsTable, TableForests, pages_of, spots_of}
use Rattle.row_entries.specs.SoundEntries.{placed_at}
use Rattle.cell_change.specs.ExpectedTables.{PutRunsFull}
use Rattle.cell_change.specs.RowChanges.{DeletesRow, InsertsRow, MakesOneChange, TurnsRowBy}
use Rattle.cell_change.proofs.ChangedRowLemmas.{same_claims}

-- what two facts say together of a value that there is
pub if_ok_both : {X E : Type 0} (result : Result X E) (P Q R : X → Type 0) → ((x : X) → P x → Q x → R x) → IfOk result P → IfOk result Q → IfOk result R
if_ok_both (Ok x) P Q R both p q = both x p q
if_ok_both (Err fault) P Q R both p q = tt

-- ---- the spots that pages show

module _ {S : Type 0} (g : Ghosts S) (shape : Shape) (s : S) (def : TableDef) (owners : List Kind) (forests : TableForests) (st : StandsTable g shape s def owners forests) where
  pub shows_spots : ShowsTableSpots shape (pages_of g s) def (spots_of g shape s def owners forests)
  shows_spots = record {
    owners = owners;
    map_tree = forests.map;
    has_extents = map_of_told g s st.told shape owners st.trees.map;
    has_map = tree_of_told g s st.told (map_place def) forests.map st.trees.held.0;
    spots_are = refl;
  }

  -- ---- a row that is inserted runs full

  pub insert_full : (row : Row) → PutRunsFull shape (pages_of g s) def (spots_of g shape s def owners forests) row → InsertRunsFull shape (pages_of g s) def (row ∷ [])
  insert_full row (PutRunsFull.placed rid mid puts full) =
      let putting = putting_changes def row rid (slice_index_or (spots_of g shape s def owners forests) rid.block OtherBlock) in
      record {
        spots = spots_of g shape s def owners forests;
        changes = putting ++ [];
        shows = shows_spots;
        inserting = InsertingChanges.one rid puts (same_claims mid) InsertingChanges.none;
        full = full_before shape (pages_of g s) putting [] full;
      }
  insert_full row (PutRunsFull.stuck no_spot full) =
      record { spots = spots_of g shape s def owners forests; changes = ClaimBlock def.number 0 ∷ []; shows = shows_spots; inserting = InsertingChanges.stuck no_spot; full = full }

-- ---- a row that is taken out, and then put

module _ {S : Type 0} (g : Ghosts S) (shape : Shape) {before mid : SpaceNotes} {room_of room_mid : Entry → RoomNote} (old middle : S) (def : TableDef) (row other : Row) (rid : Rid) (owners : List Kind) (forests : TableForests)
    (deletes : DeletesRow g shape before mid room_of room_mid old middle def row rid owners forests) (apart : AreOfOneCell def row.values other.values → ⊥) where
  abbrev lies : IsRowAt (spots_of g shape old def owners forests) rid row deletes.takes.slots
  lies = deletes.takes.lies

  -- the spots once it is out
  abbrev pub free : List Spot
  free = spots_of g shape middle def deletes.owners_now deletes.forests_now

  -- what is taken out
  abbrev pub taking : List SpaceChange
  taking = taking_changes def row rid (count_rows deletes.takes.slots)

  out : MakesChanges shape (pages_of g old) taking (pages_of g middle)
  out = deletes.makes deletes.takes.slots lies

  pub moves_makes : {noted : SpaceNotes} {room_now : Entry → RoomNote} (new : S) (to : Rid) (inserts : InsertsRow g shape mid noted room_now middle new def other to deletes.owners_now deletes.forests_now)
      → MakesOneChange g shape old new def row other rid owners forests (spots_of g shape new def inserts.owners_now inserts.forests_now)
  moves_makes new to inserts =
      let putting = putting_changes def other to (slice_index_or free to.block OtherBlock) in
      record {
        changes = taking ++ putting;
        makes = changes_then shape (pages_of g old) (pages_of g middle) (pages_of g new) taking putting out inserts.makes;
        turns = TurnsRowBy.moves free apart lies deletes.takes deletes.returns inserts.puts inserts.claims;
      }

  -- ---- it runs full once the row is out

  pub update_full : StandsTable g shape old def owners forests → PutRunsFull shape (pages_of g middle) def free other → UpdateRunsFull shape (pages_of g old) def ((placed_at rid row, other) ∷ [])
  update_full st (PutRunsFull.placed to spots puts full) =
      let putting = putting_changes def other to (slice_index_or free to.block OtherBlock) in
      record {
        spots = spots_of g shape old def owners forests;
        changes = taking ++ putting ++ [];
        shows = shows_spots g shape old def owners forests st;
        rising = λ i j d low high. absurd (omega (arith, low, high));
        updating = UpdatingChanges.moves free apart lies deletes.takes deletes.returns puts (same_claims spots) UpdatingChanges.none;
        full = full_before shape (pages_of g old) (taking ++ putting) [] (full_then shape (pages_of g old) (pages_of g middle) taking putting out full);
      }
  update_full st (PutRunsFull.stuck no_spot full) =
      record {
        spots = spots_of g shape old def owners forests;
        changes = taking ++ ClaimBlock def.number 0 ∷ [];
        shows = shows_spots g shape old def owners forests st;
        rising = λ i j d low high. absurd (omega (arith, low, high));
        updating = UpdatingChanges.stuck free apart lies deletes.takes deletes.returns no_spot;
        full = full_then shape (pages_of g old) (pages_of g middle) taking (ClaimBlock def.number 0 ∷ []) out full;
      }
