-- A row that is taken out, and then put: which pages are touched, and what damage is named.
use Rattle.std.proofs.Common.{ℕ, List, None}
use Rattle.std.specs.Prelude.{Option}
use Rattle.mdc_words.specs.ByteOrder.{Entry}
use Rattle.mdc_values.specs.declared.rid.Rid.{Rid}
use Rattle.mdc_ast.specs.declared.definition.TableDef.{TableDef}
use Rattle.mdc_ast.specs.declared.row.Row.{Row}
use Rattle.store_api.specs.RunsOverPages.{RunsOverPages}
use Rattle.store_api.specs.declared.fault.Damage.{Damage}
use Rattle.store_api.specs.declared.fault.StoreFault.{StoreFault}
use Rattle.store_api.specs.declared.pages.Pages.{Ghosts}
use Rattle.store_api.specs.declared.shape.Shape.{Shape}
use Rattle.store_api.proofs.RunsOverPagesLemmas.{runs_as, runs_wider}
use Rattle.extent_map.specs.declared.kind.Kind.{Kind}
use Rattle.extent_map.specs.declared.space_notes.SpaceNotes.{SpaceNotes}
use Rattle.mdc_sound.specs.StandingTable.{BreaksExpected, IsTableOrMapPage, IsTableSpace, RoomNote, TableForests}
use Rattle.table_blocks.specs.BlockSteps.{HasThisRow}
use Rattle.mdc_table.specs.KnownBlocks.{IsExpectedSpace}
use Rattle.cell_change.specs.ExpectedTables.{HasSoundIndexes, WithSoundIndexes}
use Rattle.cell_change.specs.RowChanges.{DeletesFromDatabase, WhereStandsWithRow}
use Rattle.cell_change.proofs.ChangeRunsLemmas.{in_space}
use Rattle.cell_change.proofs.SoundRowsLemmas.{indexes_deleted}
use Rattle.cell_change.proofs.TableStepsLemmas.{space_before}

module _ {S : Type 0} (g : Ghosts S) (shape : Shape) (old : S) (def : TableDef) (rid : Rid) (row : Row) where
  abbrev This : List Kind → TableForests → Type 0
  This = HasThisRow g shape old def rid row

  abbrev Breaks : Damage → Type 0
  Breaks = BreaksExpected g shape old def (WithSoundIndexes g shape old def This)

  -- one that couldn't be taken out
  pub runs_within : {new : S} {fault : Option StoreFault} → RunsOverPages g (IsTableOrMapPage g shape old def) (IsTableOrMapPage g shape old def) Breaks old new fault
      → RunsOverPages g (IsExpectedSpace g shape old def This) (IsExpectedSpace g shape old def This) Breaks old new fault
  runs_within run =
      runs_wider run (λ p low mine owners forests st this. in_space g shape old def p mine owners forests st) (λ p mine owners forests st this. in_space g shape old def p mine owners forests st) (λ damage is. is)

  -- and one that was, and was then to be put
  pub runs_moved : {before mid : SpaceNotes} {room_of room_mid : Entry → RoomNote} (middle : S) → WhereStandsWithRow g shape old def rid row (DeletesFromDatabase g shape before mid room_of room_mid old middle def row rid)
      → {new : S} {fault : Option StoreFault}
      → RunsOverPages g (IsTableOrMapPage g shape old def) (IsTableOrMapPage g shape old def) Breaks old middle None
      → RunsOverPages g (IsTableSpace g shape middle def) (IsTableSpace g shape middle def) (BreaksExpected g shape middle def (HasSoundIndexes g shape middle def)) middle new fault
      → RunsOverPages g (IsExpectedSpace g shape old def This) (IsExpectedSpace g shape old def This) Breaks old new fault
  runs_moved middle deletes first second = runs_as first second (λ p low mine. early p mine) (λ p low mine. late p mine) early late breaks
    where
      early : (p : ℕ) → IsTableOrMapPage g shape old def p → IsExpectedSpace g shape old def This p
      early p mine owners forests st this = in_space g shape old def p mine owners forests st

      late : (p : ℕ) → IsTableSpace g shape middle def p → IsExpectedSpace g shape old def This p
      late p mine owners forests st this = let out = (deletes owners forests st this).table in space_before g shape old middle def owners forests out.owners_now out.forests_now out.changes p (mine out.owners_now out.forests_now out.changes.stands)

      breaks : (damage : Damage) → BreaksExpected g shape middle def (HasSoundIndexes g shape middle def) damage → Breaks damage
      breaks damage is = record {
        names = is.names;
        broken = λ owners forests st expected.
            let out = (deletes owners forests st expected.0).table in
            is.broken out.owners_now out.forests_now out.changes.stands (indexes_deleted g shape old middle def owners forests st row rid out expected.1);
      }
