-- A table whose Free blocks were given back: its spots, its rows, and the plain database that pages stand for.
use Rattle.std.proofs.Common.{◌≡◌, ◌≤◌, ◌∙◌, ℕ, zero, suc, List, [], ◌∷◌, None, Some, length, map, refl, sym, ap, subst}
use Rattle.std.specs.Prelude.{IsPermutation}
use Rattle.std.specs.List.{AllZip}
use Rattle.std.proofs.lemmas.List.Sorted.{IsPermutation-map, IsPermutation-sym, IsPermutation-trans}
use Rattle.mdc_ast.specs.Database.{Database, PlainTable, changed_at}
use Rattle.mdc_ast.specs.declared.definition.TableDef.{TableDef}
use Rattle.store_api.specs.Frame.{Touches}
use Rattle.store_api.specs.declared.pages.Pages.{Ghosts}
use Rattle.store_api.specs.declared.shape.Shape.{Shape}
use Rattle.store_api.proofs.FrameLemmas.{touches_wider}
use Rattle.extent_map.specs.declared.kind.Kind.{Kind}
use Rattle.extent_map.specs.declared.space_notes.SpaceNotes.{SpaceNotes}
use Rattle.block_map.specs.MapLines.{free_blocks, pending_blocks}
use Rattle.table_blocks.specs.BlockChanges.{IsTreeOrMapPageOfTable}
use Rattle.mdc_sound.specs.BlockRules.{IsSoundIndex}
use Rattle.mdc_sound.specs.Placing.{Spot, SpotsAfterReturns, reclaimed_spot, rows_from_spot}
use Rattle.mdc_sound.specs.Placing.Spot.{OtherBlock}
use Rattle.mdc_sound.specs.SoundDatabase.{IsSoundBetweenChanges, with_table_page}
use Rattle.mdc_sound.specs.StandingTable.{StandsTable, TableForests, pages_of, spots_of}
use Rattle.mdc_sound.specs.StandsForDatabase.{PagesStandFor}
use Rattle.mdc_sound.specs.TableRows.{PlacedRow, rows_in_table}
use Rattle.mdc_sound.proofs.ChangedDatabaseLemmas.{database_of_change}
use Rattle.mdc_sound.proofs.ChangedRowsLemmas.{rows_of_standing}
use Rattle.mdc_sound.proofs.ChangedTablesLemmas.{between_with_definition}
use Rattle.mdc_sound.proofs.PlacingLemmas.{rows_returned}
use Rattle.mdc_sound.proofs.PlainTableLemmas.{IsPlainTable, rows_alone}
use Rattle.mdc_sound.proofs.RowNumbersLemmas.{numbers_in_order}
use Rattle.mdc_sound.proofs.TableSpotsLemmas.{free_block_of_spot, free_block_spot}
use Rattle.row_entries.specs.SoundEntries.{StayPending}
use Rattle.row_entries.proofs.PendingSpotsLemmas.{stay_returned}
use Rattle.row_entries.proofs.StandingRowsLemmas.{pending_by_spot}
use Rattle.cell_change.specs.ExpectedTables.{HasSoundIndexes}
use Rattle.cell_change.proofs.RowChangesLemmas.{indexes_here, numbers_here}
use Rattle.cell_change.proofs.SpotStepsLemmas.{returns_leave, rooms_on}
use Rattle.rollout.specs.ReclaimedBlocks.{ReclaimsFree}
use Rattle.rollout.proofs.ReclaimedSpotsLemmas.{each_reclaimed, pending_stays, reclaims_leave, rows_of_reclaimed, turned_all}
use Rattle.rollout.proofs.ReclaimingLoopLemmas.{ReclaimsSome}
use Rattle.rollout.proofs.RollingBlockLemmas.{sound_all_moved}
use Rattle.rollout.proofs.RollingTableLemmas.{more_pending}
use Rattle.rollout.proofs.SoundRolledLemmas.{in_space}

-- a database in which a table becomes itself is that database
changed_still : (db : Database) (place : ℕ) → changed_at db place (λ x. x) ≡ db
changed_still [] place = refl
changed_still (None ∷ db) zero = refl
changed_still (Some table ∷ db) zero = refl
changed_still (table ∷ db) (suc place) = ap (λ rest. table ∷ rest) (changed_still db place)

module _ {S : Type 0} (g : Ghosts S) (shape : Shape) {before noted : SpaceNotes} (old now : S) (def : TableDef) (owners : List Kind) (forests : TableForests) (st : StandsTable g shape old def owners forests) where
  -- all of them went
  pub reclaims_free : (some : ReclaimsSome g shape before noted old now def (free_blocks forests.map) owners forests) (count : ℕ) → count ≡ length (free_blocks forests.map) → ReclaimsFree g shape before noted old now def count owners forests
  reclaims_free some count counted = record {
    owners_now = some.owners_now;
    forests_now = some.forests_now;
    changes = some.changes;
    composite = some.composite;
    dims = some.dims;
    records = some.records;
    spots = spots;
    counted = counted;
    rooms = λ room_of right. rooms_on returns_leave (map reclaimed_spot then) (spots_of g shape now def some.owners_now some.forests_now) spots def room_of
        (rooms_on reclaims_leave then (map reclaimed_spot then) (each_reclaimed then) def room_of right);
  }
    where
      then : List Spot
      then = spots_of g shape old def owners forests

      spots : SpotsAfterReturns (map reclaimed_spot (spots_of g shape old def owners forests)) (spots_of g shape now def some.owners_now some.forests_now)
      spots = subst (λ l. SpotsAfterReturns l (spots_of g shape now def some.owners_now some.forests_now))
          (turned_all (spots_of g shape old def owners forests) (free_blocks forests.map) (λ e there. free_block_spot shape (pages_of g old) def owners forests.map e OtherBlock st.map there)
          (λ e is. free_block_of_spot shape (pages_of g old) def owners forests.map st.map e is)) some.spots

  module _ (count : ℕ) (reclaims : ReclaimsFree g shape before noted old now def count owners forests) where
    abbrev were : List PlacedRow
    were = rows_in_table shape (pages_of g old) def forests.map

    abbrev are : List PlacedRow
    are = rows_in_table shape (pages_of g now) def reclaims.forests_now.map

    -- the rows are those that there were
    same_rows : IsPermutation were are
    same_rows =
        let then = spots_of g shape old def owners forests in
        let spots_now = spots_of g shape now def reclaims.owners_now reclaims.forests_now in
        let rows_are : rows_from_spot 0 then ≡ rows_from_spot 0 spots_now = sym (rows_of_reclaimed 0 then) ∙ rows_returned 0 (map reclaimed_spot then) spots_now reclaims.spots in
        IsPermutation-trans were (rows_from_spot 0 then) are (rows_of_standing g shape old def owners forests st)
        (subst (λ l. IsPermutation l are) (sym rows_are) (IsPermutation-sym are (rows_from_spot 0 spots_now) (rows_of_standing g shape now def reclaims.owners_now reclaims.forests_now reclaims.changes.stands)))

    -- Pending blocks are Pending
    still_pending : StayPending (pending_blocks forests.map) (pending_blocks reclaims.forests_now.map)
    still_pending e there =
        let then = spots_of g shape old def owners forests in
        (pending_by_spot g shape now def reclaims.owners_now reclaims.forests_now reclaims.changes.stands e).1
        (stay_returned (map reclaimed_spot then) (spots_of g shape now def reclaims.owners_now reclaims.forests_now) reclaims.spots e (pending_stays then e ((pending_by_spot g shape old def owners forests st e).0 there)))

    -- sound record indexes are sound
    indexes_still : HasSoundIndexes g shape old def owners forests → HasSoundIndexes g shape now def reclaims.owners_now reclaims.forests_now
    indexes_still sound = more_pending def are (pending_blocks forests.map) (pending_blocks reclaims.forests_now.map) still_pending def.indexes reclaims.forests_now.indexes
        (sound_all_moved def were are (pending_blocks forests.map) same_rows def.indexes reclaims.forests_now.indexes
        (subst (AllZip (IsSoundIndex def were (pending_blocks forests.map)) def.indexes) (sym reclaims.records) sound))

    module _ (touched : Touches g (IsTreeOrMapPageOfTable g shape old def) old now) (longer : length (g.state old).work ≤ length (g.state now).work) (between : IsSoundBetweenChanges shape def (pages_of g old)) where
      pub sound_reclaimed : IsSoundBetweenChanges shape def (pages_of g now)
      sound_reclaimed =
          between_with_definition g shape old now def owners reclaims.owners_now forests reclaims.forests_now between.sound st reclaims.changes (touches_wider touched (in_space g shape old def)) longer between.rule11 between.numbers between.other_keys
          (indexes_still (indexes_here g shape old def owners forests between st)) (numbers_in_order def were are same_rows (numbers_here g shape old def owners forests between st))

      plain_still : (x : PlainTable) → IsPlainTable def were x → IsPlainTable def are x
      plain_still x is = record {
        def_is = is.def_is;
        same_rows = IsPermutation-trans (rows_alone are) (rows_alone were) x.rows (IsPermutation-map (λ (p : PlacedRow). p.row) are were (IsPermutation-sym were are same_rows)) is.same_rows;
        rising = is.rising;
      }

      pub database_reclaimed : (db : Database) → PagesStandFor shape (with_table_page def (pages_of g old)) db → PagesStandFor shape (with_table_page def (pages_of g now)) db
      database_reclaimed db stands = subst (PagesStandFor shape (with_table_page def (pages_of g now))) (changed_still db def.number)
          (database_of_change g shape old now def owners reclaims.owners_now forests reclaims.forests_now between.sound st reclaims.changes (touches_wider touched (in_space g shape old def)) longer (λ x. x) plain_still db stands)
