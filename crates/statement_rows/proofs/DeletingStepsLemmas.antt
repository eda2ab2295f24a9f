-- A row of a DELETE that goes out behind others: what the call that takes it out says, as seen from before the first row.
use Rattle.std.proofs.Common.{◌≡◌, List, ◌∷◌, None, map, refl, subst}
use Rattle.std.specs.Prelude.{Option}
use Rattle.mdc_words.specs.ByteOrder.{Entry}
use Rattle.mdc_ast.specs.declared.definition.TableDef.{TableDef}
use Rattle.store_api.specs.Frame.{Touches}
use Rattle.store_api.specs.RunsOverPages.{RunsOverPages}
use Rattle.store_api.specs.Works.{Works}
use Rattle.store_api.specs.declared.fault.StoreFault.{StoreFault}
use Rattle.store_api.specs.declared.pages.Pages.{Ghosts}
use Rattle.store_api.specs.declared.shape.Shape.{Shape}
use Rattle.extent_map.specs.declared.kind.Kind.{Kind}
use Rattle.extent_map.specs.declared.space_notes.SpaceNotes.{SpaceNotes}
use Rattle.block_rows.specs.HeldRows.{placed_row}
use Rattle.block_rows.specs.declared.hit.Hit.{Hit}
use Rattle.mdc_sound.specs.StandingTable.{BreaksExpected, IsTableOrMapPage, RoomNote, TableForests}
use Rattle.table_blocks.specs.BlockSteps.{HasThisRow}
use Rattle.cell_change.specs.ExpectedTables.{WithSoundIndexes}
use Rattle.cell_change.specs.RowChanges.{DeletesFromDatabase, WhereStandsWithRow}
use Rattle.cell_change.proofs.RowChangesLemmas.{indexes_here}
use Rattle.statement_rows.specs.RowsOfStatement.{AnyPage, BreaksReady, HasTheseRows, IsReadyBetween}
use Rattle.statement_rows.proofs.DeletingRowsLemmas.{DeletesOn, deletes_more}
use Rattle.statement_rows.proofs.RowDamageLemmas.{runs_on_rows}

module _ {S : Type 0} (g : Ghosts S) (shape : Shape) (before mid : SpaceNotes) (room_of room_mid : Entry → RoomNote) (old middle : S) (def : TableDef) (hits items : List Hit) (hit : Hit) (rest : List Hit) (split : items ≡ hit ∷ rest)
    (leads : (owners : List Kind) (forests : TableForests) → IsReadyBetween g shape before room_of old def owners forests → HasTheseRows g shape old def (map placed_row hits) owners forests
    → DeletesOn g shape before mid room_mid old middle def hits items owners forests) where
  -- the rest begins with the row
  leads_here : (owners : List Kind) (forests : TableForests) → IsReadyBetween g shape before room_of old def owners forests → HasTheseRows g shape old def (map placed_row hits) owners forests
      → DeletesOn g shape before mid room_mid old middle def hits (hit ∷ rest) owners forests
  leads_here owners forests ready has = subst (λ all. DeletesOn g shape before mid room_mid old middle def hits all owners forests) split (leads owners forests ready has)

  pub row_out : (next : SpaceNotes) (room_next : Entry → RoomNote) (new : S)
      → WhereStandsWithRow g shape middle def hit.rid hit.row (DeletesFromDatabase g shape mid next room_mid room_next middle new def hit.row hit.rid)
      → Works g middle new → Touches g (IsTableOrMapPage g shape middle def) middle new
      → (owners : List Kind) (forests : TableForests) → IsReadyBetween g shape before room_of old def owners forests → HasTheseRows g shape old def (map placed_row hits) owners forests
      → DeletesOn g shape before next room_next old new def hits rest owners forests
  row_out next room_next new deletes works touches owners forests ready has =
      let on = leads_here owners forests ready has in
      deletes_more g shape before mid next room_mid room_next old middle new def hits hit rest owners forests on
      (deletes on.rows.owners_now on.rows.forests_now on.rows.ready.ready.stands on.has.each.0) works touches

  pub row_out_run : (new : S) (fault : Option StoreFault)
      → RunsOverPages g AnyPage AnyPage (BreaksReady g shape before room_of old def (HasTheseRows g shape old def (map placed_row hits))) old middle None
      → RunsOverPages g (IsTableOrMapPage g shape middle def) (IsTableOrMapPage g shape middle def) (BreaksExpected g shape middle def (WithSoundIndexes g shape middle def (HasThisRow g shape middle def hit.rid hit.row))) middle new fault
      → RunsOverPages g AnyPage AnyPage (BreaksReady g shape before room_of old def (HasTheseRows g shape old def (map placed_row hits))) old new fault
  row_out_run new fault first second =
      runs_on_rows g shape before room_of old middle def def def.next refl (HasTheseRows g shape old def (map placed_row hits))
      (WithSoundIndexes g shape middle def (HasThisRow g shape middle def hit.rid hit.row))
      (λ owners forests ready has.
      let on = leads_here owners forests ready has in
      let here = on.rows.ready in
      (on.rows.owners_now, on.rows.forests_now, here.ready.stands, (on.has.each.0, indexes_here g shape middle def on.rows.owners_now on.rows.forests_now here.sound here.ready.stands)))
      first second
