-- Rows that become others one after the other: what one of them and the rest make, and when the rest runs full.
use Rattle.std.proofs.Common.{◌≡◌, ◌<◌, ℕ, zero, suc, List, [], ◌∷◌, ◌++◌, length, get_or, map, refl, ap, arith, subst}
use Rattle.std.specs.Prelude.{AllPairs}
use Rattle.std.proofs.lemmas.List.{length-map}
use Rattle.mdc_words.specs.ByteOrder.{Entry}
use Rattle.mdc_values.specs.declared.rid.Rid.{Rid}
use Rattle.mdc_ast.specs.declared.definition.TableDef.{TableDef}
use Rattle.mdc_ast.specs.declared.row.Row.{Row}
use Rattle.store_api.specs.Frame.{Touches}
use Rattle.store_api.specs.Works.{Works}
use Rattle.store_api.specs.declared.pages.Pages.{Ghosts}
use Rattle.store_api.specs.declared.shape.Shape.{Shape}
use Rattle.extent_map.specs.declared.kind.Kind.{Kind}
use Rattle.extent_map.specs.declared.space_notes.SpaceNotes.{SpaceNotes}
use Rattle.table_trees.specs.SpaceChanges.{SpaceChange}
use Rattle.table_trees.proofs.SpaceChainsLemmas.{full_then}
use Rattle.table_trees.specs.ToldPages.{PageList}
use Rattle.mdc_sound.specs.Placing.{Spot, block_slot_count}
use Rattle.mdc_sound.specs.RunningFull.{UpdateRunsFull, UpdatingChanges}
use Rattle.mdc_sound.specs.StandingTable.{IsTableSpace, RoomNote, TableForests, pages_of, spots_of}
use Rattle.mdc_sound.specs.StandsForDatabase.{with_row}
use Rattle.mdc_sound.specs.TableRows.{PlacedRow}
use Rattle.cell_change.specs.RowChanges.{ChangesInDatabase, TurnsRowBy, placed_at}
use Rattle.cell_change.proofs.ChangedSpaceLemmas.{shows_spots}
use Rattle.cell_change.proofs.TableStepsLemmas.{turns_no_block}
use Rattle.statement_rows.specs.RowsAndSpace.{TurnsRowsBy}
use Rattle.statement_rows.specs.RowsOfStatement.{ChangesRowsOf, HasTheseRows, IsReadyBetween, with_rows}
use Rattle.statement_rows.specs.Turning.{turned_row}
use Rattle.statement_rows.specs.declared.changing.Turned.{Turned}
use Rattle.statement_rows.proofs.OtherRowsLemmas.{lies_after_claims, lies_turned, rows_behind}
use Rattle.statement_rows.proofs.OtherTablesLemmas.{others_kept}
use Rattle.statement_rows.proofs.RowsThenLemmas.{RowsLeadOn, leads_all, leads_more, leads_none}
use Rattle.statement_rows.proofs.ShownSpotsLemmas.{shown_spots}
use Rattle.statement_rows.proofs.TablePagesLemmas.{table_pages_kept}

-- where the rows lie that become others
abbrev pub places_of : List Turned → List PlacedRow
places_of turned = map (λ (one : Turned). (turned_row one).0) turned

-- the rows that they become
abbrev pub rows_of_turned : List Turned → List Row
rows_of_turned turned = map (λ (one : Turned). one.row) turned

-- ---- running full

-- the changes of some rows are those of these and more rows, up to a row in the middle
pub updating_more : {def : TableDef} {n : ℕ} {spots : List Spot} {rows : List (PlacedRow × Row)} {changes : List SpaceChange} (more : List (PlacedRow × Row)) → UpdatingChanges def n spots rows changes
    → UpdatingChanges def n spots (rows ++ more) changes
updating_more more UpdatingChanges.none = UpdatingChanges.none
updating_more more (UpdatingChanges.stays cell turns claims rest) = UpdatingChanges.stays cell turns claims (updating_more more rest)
updating_more more (UpdatingChanges.moves free apart lies takes returns puts claims rest) = UpdatingChanges.moves free apart lies takes returns puts claims (updating_more more rest)
updating_more more (UpdatingChanges.stuck free apart lies takes returns no_spot) = UpdatingChanges.stuck free apart lies takes returns no_spot

-- the changes of one row go before those of the rows behind it
updating_behind : (def : TableDef) (n : ℕ) (old next : List Spot) (rid : Rid) (row other : Row) (first : List SpaceChange) → TurnsRowBy def n old rid row other next first
    → (rows : List (PlacedRow × Row)) (changes : List SpaceChange) → UpdatingChanges def n next rows changes → UpdatingChanges def n old ((placed_at rid row, other) ∷ rows) (first ++ changes)
updating_behind def n old next rid row other _ (TurnsRowBy.stays cell turns claims) rows changes more = UpdatingChanges.stays cell turns claims more
updating_behind def n old next rid row other _ (TurnsRowBy.moves free apart lies takes returns puts claims) rows changes more = UpdatingChanges.moves free apart lies takes returns puts claims more

-- rows whose places are given by rising number rise
rising_turned : (all : List Turned) → AllPairs (λ a b. a.row.number < b.row.number) (places_of all) → AllPairs (λ a b. a.0.row.number < b.0.row.number) (map turned_row all)
rising_turned all rising i j d less low =
    let long : length (map turned_row all) ≡ length all = length-map all turned_row in
    let short : length (places_of all) ≡ length all = length-map all (λ (one : Turned). (turned_row one).0) in
    let below = rising i j d.0 less (omega (arith, low, long, short)) in
    let first : get_or (places_of all) i d.0 ≡ (get_or (map turned_row all) i d).0 = place_at all i d in
    let second : get_or (places_of all) j d.0 ≡ (get_or (map turned_row all) j d).0 = place_at all j d in
    omega (arith, below, ap (λ (placed : PlacedRow). placed.row.number) first, ap (λ (placed : PlacedRow). placed.row.number) second)
  where
    place_at : (list : List Turned) (k : ℕ) (e : PlacedRow × Row) → get_or (places_of list) k e.0 ≡ (get_or (map turned_row list) k e).0
    place_at [] k e = refl
    place_at (one ∷ list) zero e = refl
    place_at (one ∷ list) (suc k) e = place_at list k e

-- an UPDATE that runs full with its first row
pub full_at_first : (shape : Shape) (pages : PageList) (def : TableDef) (one : Turned) (rest : List Turned) → AllPairs (λ a b. a.row.number < b.row.number) (places_of (one ∷ rest))
    → UpdateRunsFull shape pages def (turned_row one ∷ []) → UpdateRunsFull shape pages def (map turned_row (one ∷ rest))
full_at_first shape pages def one rest rising full = record {
  spots = full.spots;
  changes = full.changes;
  shows = full.shows;
  rising = rising_turned (one ∷ rest) rising;
  updating = updating_more (map turned_row rest) full.updating;
  full = full.full;
}

-- ---- one row

module _ {S : Type 0} (g : Ghosts S) (shape : Shape) (before now : SpaceNotes) (room_of room_now : Entry → RoomNote) (old new : S) (def : TableDef) (one : Turned) (to : Rid) (owners : List Kind) (forests : TableForests)
    (ready : IsReadyBetween g shape before room_of old def owners forests) (turns : ChangesInDatabase g shape before now room_now old new def one.hit.row one.row one.hit.rid to owners forests) where
  -- rows become others behind it, by whichever changes
  abbrev pub TurnsBefore : List Spot → List SpaceChange → List Spot → Type 0
  TurnsBefore was space between =
      (rows : List (PlacedRow × Row)) (more : List SpaceChange) (is : List Spot) → TurnsRowsBy def (block_slot_count shape def) between rows more is
      → TurnsRowsBy def (block_slot_count shape def) was (turned_row one ∷ rows) (space ++ more) is

  abbrev pub one_turned : Works g old new → Touches g (IsTableSpace g shape old def) old new → ChangesRowsOf g shape before now room_now old new def def owners forests TurnsBefore (with_row one.row)
  one_turned works touches = record {
    owners_now = turns.table.owners_now;
    forests_now = turns.table.forests_now;
    changes = turns.table.changes;
    now = record {
      ready = record { stands = turns.table.changes.stands; notes = turns.table.changes.notes ready.ready.notes; rooms = turns.table.rooms };
      sound = (turns.database ready.sound).sound;
    };
    space = turns.table.space.changes;
    places = λ rows more is rest. TurnsRowsBy.one turns.table.space.turns rest;
    makes = turns.table.space.makes;
    stands_for = (turns.database ready.sound).stands_for;
    table_pages = table_pages_kept g shape old new def owners forests ready.ready.stands works touches;
    others = others_kept g shape old new def owners turns.table.owners_now forests turns.table.forests_now ready.sound.sound ready.ready.stands turns.table.changes touches works.no_shorter;
  }

  -- the rows behind it become others as well
  pub turns_then : (rows : List (PlacedRow × Row)) (was between is : List Spot) (space more : List SpaceChange) → TurnsBefore was space between → TurnsRowsBy def (block_slot_count shape def) between rows more is
      → TurnsRowsBy def (block_slot_count shape def) was (turned_row one ∷ rows) (space ++ more) is
  turns_then rows was between is space more first rest = first rows more is rest

  -- they lie where they lay
  pub rows_stay : (rows : List PlacedRow) → HasTheseRows g shape old def ((turned_row one).0 ∷ rows) owners forests → HasTheseRows g shape new def rows turns.table.owners_now turns.table.forests_now
  rows_stay rows =
      rows_behind g shape old new def owners turns.table.owners_now forests turns.table.forests_now (turned_row one).0 rows
      (λ at row apart lies.
      lies_after_claims turns.table.mid (spots_of g shape new def turns.table.owners_now turns.table.forests_now) at row turns.table.claims
      (lies_turned def (block_slot_count shape def) (spots_of g shape old def owners forests) turns.table.mid one.hit.rid at to one.hit.row one.row row turns.table.turns apart lies))

  -- where the rest runs full, all do
  pub full_behind : (rest : List Turned) → AllPairs (λ a b. a.row.number < b.row.number) (places_of (one ∷ rest)) → UpdateRunsFull shape (pages_of g new) def (map turned_row rest)
      → UpdateRunsFull shape (pages_of g old) def (map turned_row (one ∷ rest))
  full_behind rest rising full =
      let later = spots_of g shape new def turns.table.owners_now turns.table.forests_now in
      let rows = map turned_row rest in
      let same : full.spots ≡ later = shown_spots g shape new def turns.table.owners_now turns.table.forests_now full.spots turns.table.changes.stands full.shows in
      let updating : UpdatingChanges def (block_slot_count shape def) later rows full.changes =
      subst (λ all. UpdatingChanges def (block_slot_count shape def) all rows full.changes) same full.updating in
      record {
        spots = spots_of g shape old def owners forests;
        changes = turns.table.space.changes ++ full.changes;
        shows = shows_spots g shape old def owners forests ready.ready.stands;
        rising = rising_turned (one ∷ rest) rising;
        updating = updating_behind def (block_slot_count shape def) (spots_of g shape old def owners forests) later one.hit.rid one.hit.row one.row turns.table.space.changes turns.table.space.turns rows full.changes updating;
        full = full_then shape (pages_of g old) (pages_of g new) turns.table.space.changes full.changes turns.table.space.makes full.full;
      }

-- ---- rows so far, and the rest

module _ {S : Type 0} (g : Ghosts S) where
  -- Rows became others, and so the table is ready for the rest of these, which lie where they lay. With these all become others,
  -- and where they run full, all do.
  pub record TurnsOn (shape : Shape) (before now : SpaceNotes) (room_now : Entry → RoomNote) (old mid : S) (def : TableDef) (all rest : List Turned) (owners : List Kind) (forests : TableForests) : Type 0 where
    pub rows : RowsLeadOn g shape before now room_now old mid def def owners forests (λ was space is. TurnsRowsBy def (block_slot_count shape def) was (map turned_row rest) space is)
        (λ was space is. TurnsRowsBy def (block_slot_count shape def) was (map turned_row all) space is) (with_rows (rows_of_turned rest)) (with_rows (rows_of_turned all))
    pub has : HasTheseRows g shape mid def (places_of rest) rows.owners_now rows.forests_now
    pub full_on : UpdateRunsFull shape (pages_of g mid) def (map turned_row rest) → UpdateRunsFull shape (pages_of g old) def (map turned_row all)

  pub turns_none : (shape : Shape) (noted : SpaceNotes) (room_of : Entry → RoomNote) (s : S) (def : TableDef) (all : List Turned) (owners : List Kind) (forests : TableForests) → IsReadyBetween g shape noted room_of s def owners forests
      → HasTheseRows g shape s def (places_of all) owners forests → TurnsOn shape noted noted room_of s s def all all owners forests
  turns_none shape noted room_of s def all owners forests ready has = record {
    rows = leads_none g shape noted room_of s def owners forests (λ was space is. TurnsRowsBy def (block_slot_count shape def) was (map turned_row all) space is) (with_rows (rows_of_turned all)) ready;
    has = has;
    full_on = λ full. full;
  }

  pub turns_all : (shape : Shape) (before now : SpaceNotes) (room_now : Entry → RoomNote) (old new : S) (def : TableDef) (all : List Turned) (owners : List Kind) (forests : TableForests) → TurnsOn shape before now room_now old new def all [] owners forests
      → ChangesRowsOf g shape before now room_now old new def def owners forests (λ was space is. TurnsRowsBy def (block_slot_count shape def) was (map turned_row all) space is) (with_rows (rows_of_turned all))
  turns_all shape before now room_now old new def all owners forests on =
      leads_all g shape before now room_now old new def def owners forests (λ was space is. TurnsRowsBy def (block_slot_count shape def) was [] space is) (λ was space is. TurnsRowsBy def (block_slot_count shape def) was (map turned_row all) space is)
      (with_rows []) (with_rows (rows_of_turned all)) on.rows (λ spots. TurnsRowsBy.none) (λ table. refl)

  pub turns_more : (shape : Shape) (before mid next : SpaceNotes) (room_mid room_next : Entry → RoomNote) (old middle new : S) (def : TableDef) (all : List Turned) (one : Turned) (rest : List Turned) (to : Rid) (owners : List Kind) (forests : TableForests)
      (on : TurnsOn shape before mid room_mid old middle def all (one ∷ rest) owners forests)
      → ChangesInDatabase g shape mid next room_next middle new def one.hit.row one.row one.hit.rid to on.rows.owners_now on.rows.forests_now → Works g middle new → Touches g (IsTableSpace g shape middle def) middle new
      → TurnsOn shape before next room_next old new def all rest owners forests
  turns_more shape before mid next room_mid room_next old middle new def all one rest to owners forests on turns works touches =
      let now = on.rows.owners_now in
      let trees = on.rows.forests_now in
      let ready = on.rows.ready in
      record {
        rows = leads_more g shape before mid next room_mid room_next old middle new def def def.next owners forests (TurnsBefore g shape mid next room_mid room_next middle new def one to now trees ready turns)
            (λ was space is. TurnsRowsBy def (block_slot_count shape def) was (map turned_row (one ∷ rest)) space is) (λ was space is. TurnsRowsBy def (block_slot_count shape def) was (map turned_row rest) space is)
            (λ was space is. TurnsRowsBy def (block_slot_count shape def) was (map turned_row all) space is) (with_row one.row) (with_rows (rows_of_turned (one ∷ rest))) (with_rows (rows_of_turned rest))
            (with_rows (rows_of_turned all)) on.rows (one_turned g shape mid next room_mid room_next middle new def one to now trees ready turns works touches)
            (turns_then g shape mid next room_mid room_next middle new def one to now trees ready turns (map turned_row rest))
            (turns_no_block g shape middle new def now trees ready.ready.stands turns.table.owners_now turns.table.forests_now turns.table.mid one.hit.row one.row one.hit.rid to turns.table.turns turns.table.claims) (λ table. refl) works.no_shorter;
        has = rows_stay g shape mid next room_mid room_next middle new def one to now trees ready turns (places_of rest) on.has;
        full_on = λ full. on.full_on (full_behind g shape mid next room_mid room_next middle new def one to now trees ready turns rest on.has.rising full);
      }
