-- Runs over the rows of a statement: which damage they name, as seen before the first row.
use Rattle.std.proofs.Common.{◌≡◌, ℕ, List, None, subst}
use Rattle.std.specs.Prelude.{Option}
use Rattle.mdc_words.specs.ByteOrder.{Entry}
use Rattle.mdc_ast.specs.declared.definition.TableDef.{TableDef}
use Rattle.store_api.specs.RunsOverPages.{RunsOverPages}
use Rattle.store_api.specs.declared.fault.Damage.{Damage}
use Rattle.store_api.specs.declared.fault.StoreFault.{StoreFault}
use Rattle.store_api.specs.declared.pages.Pages.{Ghosts}
use Rattle.store_api.specs.declared.shape.Shape.{Shape}
use Rattle.store_api.proofs.RunsOverPagesLemmas.{runs_then}
use Rattle.extent_map.specs.declared.kind.Kind.{Kind}
use Rattle.extent_map.specs.declared.space_notes.SpaceNotes.{SpaceNotes}
use Rattle.mdc_sound.specs.StandingTable.{BreaksExpected, NamesTablePart, RoomNote, StandsTable, TableForests}
use Rattle.mdc_sound.proofs.NamedPartsLemmas.{names_next}
use Rattle.mdc_sound.proofs.NextNumberLemmas.{with_next}
use Rattle.statement_rows.specs.RowsOfStatement.{AnyPage, BreaksReady, IsReadyBetween}

module _ {S : Type 0} (g : Ghosts S) (shape : Shape) (before : SpaceNotes) (room_of : Entry → RoomNote) (old mid : S) (def def_now : TableDef) (next : ℕ) (is : def_now ≡ with_next def next)
    (Expected Later : List Kind → TableForests → Type 0) where
  -- the table stands midway as expected, where it was ready and as expected before
  abbrev pub StandsLater : Type 0
  StandsLater = (owners : List Kind) (forests : TableForests) → IsReadyBetween g shape before room_of old def owners forests → Expected owners forests
      → (owners_now : List Kind) × (forests_now : TableForests) × StandsTable g shape mid def_now owners_now forests_now × Later owners_now forests_now

  -- damage that is named midway was there before
  breaks_before : StandsLater → (damage : Damage) → BreaksExpected g shape mid def_now Later damage → BreaksReady g shape before room_of old def Expected damage
  breaks_before later damage breaks = record {
    names = names_next shape def next damage (subst (λ d. NamesTablePart shape d damage) is breaks.names);
    broken = λ owners forests ready expected. let on = later owners forests ready expected in breaks.broken on.0 on.1 on.2 on.3;
  }

  -- a run over the rows so far, and one over the next row
  pub runs_on_rows : {Mine Kind : ℕ → Type 0} {new : S} {fault : Option StoreFault} → StandsLater → RunsOverPages g AnyPage AnyPage (BreaksReady g shape before room_of old def Expected) old mid None
      → RunsOverPages g Mine Kind (BreaksExpected g shape mid def_now Later) mid new fault → RunsOverPages g AnyPage AnyPage (BreaksReady g shape before room_of old def Expected) old new fault
  runs_on_rows later first second = runs_then first second (λ p low mine. tt) (λ p mine. tt) (breaks_before later)
