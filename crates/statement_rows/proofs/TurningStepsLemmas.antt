-- The loop that makes rows others, one after the other: what it keeps, and what each of its exits says.
use Rattle.std.proofs.Common.{◌≡◌, ◌<◌, ◌+◌, ℕ, List, [], ◌∷◌, None, length, map, drop, get_or, refl, subst}
use Rattle.std.specs.Prelude.{Option}
use Rattle.mdc_words.specs.ByteOrder.{Entry}
use Rattle.mdc_values.specs.declared.rid.Rid.{Rid}
use Rattle.mdc_ast.specs.declared.definition.TableDef.{TableDef}
use Rattle.store_api.specs.RunsOverPages.{RunsOverPages}
use Rattle.store_api.specs.declared.fault.StoreFault.{StoreFault}
use Rattle.store_api.specs.declared.pages.Pages.{Ghosts}
use Rattle.store_api.specs.declared.shape.Shape.{Shape}
use Rattle.store_api.proofs.RunsOverPagesLemmas.{runs_none}
use Rattle.extent_map.specs.Damages.{IfFull}
use Rattle.extent_map.specs.declared.fault.SpaceFault.{SpaceFault}
use Rattle.extent_map.specs.declared.kind.Kind.{Kind}
use Rattle.extent_map.specs.declared.space_notes.SpaceNotes.{SpaceNotes}
use Rattle.mdc_sound.specs.Placing.{block_slot_count}
use Rattle.mdc_sound.specs.RunningFull.{UpdateRunsFull}
use Rattle.mdc_sound.specs.StandingTable.{BreaksExpected, RoomNote, TableForests, pages_of}
use Rattle.mdc_table.specs.KnownBlocks.{IsExpectedSpace}
use Rattle.table_blocks.specs.BlockSteps.{HasThisRow}
use Rattle.cell_change.specs.ExpectedTables.{WithSoundIndexes}
use Rattle.cell_change.specs.RowChanges.{ChangesInDatabase, WhereReadyWithRow, placed_at}
use Rattle.cell_change.proofs.OneTableLemmas.{touches_of_expected}
use Rattle.cell_change.proofs.RowChangesLemmas.{indexes_here}
use Rattle.cell_change.proofs.ChangedRowLemmas.{full_as}
use Rattle.statement_rows.specs.RowsAndSpace.{TurnsRowsBy}
use Rattle.statement_rows.specs.RowsOfStatement.{AnyPage, BreaksReady, ChangesRowsOf, HasTheseRows, IsReadyBetween, with_rows}
use Rattle.statement_rows.specs.Turning.{turned_row}
use Rattle.statement_rows.specs.declared.changing.Turned.{Turned}
use Rattle.statement_rows.proofs.RowDamageLemmas.{runs_on_rows}
use Rattle.statement_rows.proofs.RowsThenLemmas.{rest_at}
use Rattle.statement_rows.proofs.TurningRowsLemmas.{TurnsOn, full_at_first, places_of, rows_of_turned, turns_all, turns_more, turns_none}

module _ {S : Type 0} (g : Ghosts S) (shape : Shape) (before : SpaceNotes) (room_of : Entry → RoomNote) (old : S) (def : TableDef) (all : List Turned) where
  -- that all the rows lie where they are said to
  abbrev pub HasAll : List Kind → TableForests → Type 0
  HasAll = HasTheseRows g shape old def (places_of all)

  -- The rest of the rows is still to become others, and nothing failed so far.
  pub record IsTurning (noted : SpaceNotes) (room_now : Entry → RoomNote) (s : S) (rest : List Turned) : Type 0 where
    pub runs : RunsOverPages g AnyPage AnyPage (BreaksReady g shape before room_of old def HasAll) old s None
    pub turns : (owners : List Kind) (forests : TableForests) → IsReadyBetween g shape before room_of old def owners forests → HasAll owners forests → TurnsOn g shape before noted room_now old s def all rest owners forests

  pub turning_begins : IsTurning before room_of old all
  turning_begins = record {
    runs = runs_none;
    turns = λ owners forests ready has. turns_none g shape before room_of old def all owners forests ready has;
  }

  pub turning_ends : (noted : SpaceNotes) (room_now : Entry → RoomNote) (s : S) (rest : List Turned) → IsTurning noted room_now s rest → rest ≡ [] → (owners : List Kind) (forests : TableForests)
      → IsReadyBetween g shape before room_of old def owners forests → HasAll owners forests
      → ChangesRowsOf g shape before noted room_now old s def def owners forests (λ was space is. TurnsRowsBy def (block_slot_count shape def) was (map turned_row all) space is) (with_rows (rows_of_turned all))
  turning_ends noted room_now s rest turning none owners forests ready has =
      turns_all g shape before noted room_now old s def all owners forests (subst (λ list. TurnsOn g shape before noted room_now old s def all list owners forests) none (turning.turns owners forests ready has))

  -- the next row is the first of the rest
  pub turning_at : (noted : SpaceNotes) (room_now : Entry → RoomNote) (s : S) (i : ℕ) (one : Turned) → IsTurning noted room_now s (drop i all) → i < length all → one ≡ get_or all i one → IsTurning noted room_now s (one ∷ drop (i + 1) all)
  turning_at noted room_now s i one turning low is = subst (IsTurning noted room_now s) (rest_at all i one low is) turning

  module _ (noted : SpaceNotes) (room_now : Entry → RoomNote) (s : S) (one : Turned) (rest : List Turned) (turning : IsTurning noted room_now s (one ∷ rest)) where
    -- the next row lies in its place
    abbrev pub This : List Kind → TableForests → Type 0
    This = HasThisRow g shape s def one.hit.rid one.hit.row

    -- the call that makes the next row another, behind all calls before it
    pub runs_one : (new : S) (fault : Option StoreFault)
        → RunsOverPages g (IsExpectedSpace g shape s def This) (IsExpectedSpace g shape s def This) (BreaksExpected g shape s def (WithSoundIndexes g shape s def This)) s new fault
        → RunsOverPages g AnyPage AnyPage (BreaksReady g shape before room_of old def HasAll) old new fault
    runs_one new fault =
        runs_on_rows g shape before room_of old s def def def.next refl HasAll (WithSoundIndexes g shape s def This)
        (λ owners forests ready has.
        let on = turning.turns owners forests ready has in
        let here = on.rows.ready in
        (on.rows.owners_now, on.rows.forests_now, here.ready.stands, (on.has.each.0, indexes_here g shape s def on.rows.owners_now on.rows.forests_now here.sound here.ready.stands)))
        turning.runs

    -- the next row has become another
    pub turning_goes_on : (then : SpaceNotes) (room_then : Entry → RoomNote) (new : S) (to : Rid)
        → RunsOverPages g (IsExpectedSpace g shape s def This) (IsExpectedSpace g shape s def This) (BreaksExpected g shape s def (WithSoundIndexes g shape s def This)) s new None
        → WhereReadyWithRow g shape noted room_now s def one.hit.rid one.hit.row (ChangesInDatabase g shape noted then room_then s new def one.hit.row one.row one.hit.rid to) → IsTurning then room_then new rest
    turning_goes_on then room_then new to run changes = record {
      runs = runs_one new None run;
      turns = λ owners forests ready has.
          let on = turning.turns owners forests ready has in
          let now = on.rows.owners_now in
          let trees = on.rows.forests_now in
          let here = on.rows.ready in
          let this = on.has.each.0 in
          turns_more g shape before noted then room_now room_then old s new def all one rest to owners forests on (changes now trees here.ready this) run.works
          (touches_of_expected g shape s new def This now trees here.ready.stands this run.touches);
    }

    -- it runs full
    pub full_at_one : (fault : SpaceFault)
        → IfFull fault (λ cap. (cap ≡ shape.extents) × WhereReadyWithRow g shape noted room_now s def one.hit.rid one.hit.row
        (λ owners forests. UpdateRunsFull shape (pages_of g s) def ((placed_at one.hit.rid one.hit.row, one.row) ∷ [])))
        → IfFull fault (λ cap. (cap ≡ shape.extents) × ((owners : List Kind) (forests : TableForests) → IsReadyBetween g shape before room_of old def owners forests → HasAll owners forests
        → UpdateRunsFull shape (pages_of g old) def (map turned_row all)))
    full_at_one fault = full_as fault _ _ (λ cap is. (
      is.0,
      λ owners forests ready has.
          let on = turning.turns owners forests ready has in
          on.full_on (full_at_first shape (pages_of g s) def one rest on.has.rising (is.1 on.rows.owners_now on.rows.forests_now on.rows.ready.ready on.has.each.0)),
    ))
