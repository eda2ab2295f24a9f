-- A row of an INSERT that goes in behind others: what the call that puts it says, as seen from before the first row.
use Rattle.std.proofs.Common.{◌≡◌, ◌+◌, ℕ, List, [], ◌∷◌, None, length, ap, arith, sym, ◌∙◌, subst}
use Rattle.std.specs.Prelude.{Option}
use Rattle.std.specs.List.{AllByRecursion}
use Rattle.mdc_words.specs.ByteOrder.{Entry}
use Rattle.mdc_values.specs.declared.rid.Rid.{Rid}
use Rattle.mdc_values.specs.declared.value.Value.{Value}
use Rattle.mdc_ast.specs.declared.definition.TableDef.{TableDef}
use Rattle.mdc_ast.specs.declared.row.Row.{Row}
use Rattle.mdc_ast.specs.Database.{numbered}
use Rattle.store_api.specs.Frame.{Touches}
use Rattle.store_api.specs.RunsOverPages.{RunsOverPages}
use Rattle.store_api.specs.Works.{Works}
use Rattle.store_api.specs.declared.fault.StoreFault.{StoreFault}
use Rattle.store_api.specs.declared.pages.Pages.{Ghosts}
use Rattle.store_api.specs.declared.shape.Shape.{Shape}
use Rattle.extent_map.specs.declared.kind.Kind.{Kind}
use Rattle.extent_map.specs.declared.space_notes.SpaceNotes.{SpaceNotes}
use Rattle.mdc_ast.specs.FittingRows.{RowFits}
use Rattle.mdc_sound.specs.RunningFull.{InsertRunsFull}
use Rattle.mdc_sound.specs.StandingTable.{BreaksExpected, IsTableSpace, RoomNote, TableForests, pages_of}
use Rattle.mdc_sound.proofs.NextNumberLemmas.{with_next}
use Rattle.cell_change.specs.ExpectedTables.{HasSoundIndexes}
use Rattle.cell_change.specs.RowChanges.{InsertsIntoDatabase, WhereReady}
use Rattle.cell_change.proofs.RowChangesLemmas.{indexes_here}
use Rattle.statement_rows.specs.RowsOfStatement.{AnyPage, BreaksReady, IsReadyBetween, NothingMore}
use Rattle.statement_rows.proofs.InsertingRowsLemmas.{InsertsOn, full_at_first, inserts_more}
use Rattle.statement_rows.proofs.RowDamageLemmas.{runs_on_rows}

-- ---- definitions and rows

-- only the next number was raised
pub raised_on : (def mid now : TableDef) → mid ≡ with_next def mid.next → now ≡ with_next mid (mid.next + 1) → now ≡ with_next def now.next
raised_on def mid now is more = more ∙ ap (λ d. with_next d (mid.next + 1)) is ∙ ap (with_next def) (sym (ap (λ d. d.next) more))

-- the rest fits, numbered behind the first
pub fits_on : (def mid now : TableDef) (items rest : List (List Value)) (values : List Value) → now ≡ with_next mid (mid.next + 1) → items ≡ values ∷ rest
    → AllByRecursion (RowFits def) (numbered mid.next items) → AllByRecursion (RowFits def) (numbered now.next rest)
fits_on def mid now items rest values more split fit =
    subst (λ n. AllByRecursion (RowFits def) (numbered n rest)) (sym (ap (λ d. d.next) more)) (subst (λ all. AllByRecursion (RowFits def) (numbered mid.next all)) split fit).1

-- the numbers end where they did
pub number_on : (end : ℕ) (mid now : TableDef) (items rest : List (List Value)) (values : List Value) → now ≡ with_next mid (mid.next + 1) → items ≡ values ∷ rest → mid.next + length items ≡ end → now.next + length rest ≡ end
number_on end mid now items rest values more split is = omega (arith, ap (λ d. d.next) more, ap length split, is)

-- ---- a row that goes in

module _ {S : Type 0} (g : Ghosts S) (shape : Shape) (before mid : SpaceNotes) (room_of room_mid : Entry → RoomNote) (old middle : S) (def def_mid : TableDef) (tuples items : List (List Value)) (values : List Value) (rest : List (List Value))
    (split : items ≡ values ∷ rest)
    (leads : (owners : List Kind) (forests : TableForests) → IsReadyBetween g shape before room_of old def owners forests → InsertsOn g shape before mid room_mid old middle def def_mid tuples items owners forests) where
  -- the row that goes in next
  abbrev pub next_row : Row
  next_row = record { number = def_mid.next; values = values }

  -- the rest begins with it
  leads_here : (owners : List Kind) (forests : TableForests) → IsReadyBetween g shape before room_of old def owners forests → InsertsOn g shape before mid room_mid old middle def def_mid tuples (values ∷ rest) owners forests
  leads_here owners forests ready = subst (λ all. InsertsOn g shape before mid room_mid old middle def def_mid tuples all owners forests) split (leads owners forests ready)

  pub row_in : (next : SpaceNotes) (room_next : Entry → RoomNote) (new : S) (def_now : TableDef) (rid : Rid) → def_now ≡ with_next def_mid (def_mid.next + 1)
      → WhereReady g shape mid room_mid middle def_mid (InsertsIntoDatabase g shape mid next room_next middle new def_mid next_row rid) → Works g middle new → Touches g (IsTableSpace g shape middle def_mid) middle new
      → (owners : List Kind) (forests : TableForests) → IsReadyBetween g shape before room_of old def owners forests → InsertsOn g shape before next room_next old new def def_now tuples rest owners forests
  row_in next room_next new def_now rid is inserts works touches owners forests ready =
      let on = leads_here owners forests ready in
      subst (λ d. InsertsOn g shape before next room_next old new def d tuples rest owners forests) (sym is)
      (inserts_more g shape before mid room_mid old middle def def_mid tuples rest owners forests next room_next new values rid on (inserts on.rows.owners_now on.rows.forests_now on.rows.ready.ready) works touches)

  -- ---- one that runs full

  pub row_full : (cap : ℕ)
      → (cap ≡ shape.extents) × WhereReady g shape mid room_mid middle def_mid (λ owners forests. InsertRunsFull shape (pages_of g middle) def_mid (next_row ∷ []))
      → (cap ≡ shape.extents) × ((owners : List Kind) (forests : TableForests) → IsReadyBetween g shape before room_of old def owners forests → InsertRunsFull shape (pages_of g old) def (numbered def.next tuples))
  row_full cap full = (
    full.0,
    λ owners forests ready.
        let on = leads_here owners forests ready in
        on.full_on (full_at_first shape (pages_of g middle) def_mid next_row (numbered (def_mid.next + 1) rest) (full.1 on.rows.owners_now on.rows.forests_now on.rows.ready.ready)),
  )

  -- ---- its run

  pub row_run : (new : S) (fault : Option StoreFault) → def_mid ≡ with_next def def_mid.next
      → RunsOverPages g AnyPage AnyPage (BreaksReady g shape before room_of old def NothingMore) old middle None
      → RunsOverPages g (IsTableSpace g shape middle def_mid) (IsTableSpace g shape middle def_mid) (BreaksExpected g shape middle def_mid (HasSoundIndexes g shape middle def_mid)) middle new fault
      → RunsOverPages g AnyPage AnyPage (BreaksReady g shape before room_of old def NothingMore) old new fault
  row_run new fault is first second =
      runs_on_rows g shape before room_of old middle def def_mid def_mid.next is NothingMore (HasSoundIndexes g shape middle def_mid)
      (λ owners forests ready expected.
      let on = leads_here owners forests ready in
      let here = on.rows.ready in
      (on.rows.owners_now, on.rows.forests_now, here.ready.stands, indexes_here g shape middle def_mid on.rows.owners_now on.rows.forests_now here.sound here.ready.stands))
      first second
