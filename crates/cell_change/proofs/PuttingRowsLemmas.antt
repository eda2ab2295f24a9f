-- A row that is placed, and then entered in the record indexes.
use Rattle.std.proofs.Common.{◌≡◌, ◌≤◌, ℕ, List, ◌∷◌, None, length, sym, subst, inl, inr}
use Rattle.std.specs.Prelude.{IsPermutation, Option, slice_index_or}
use Rattle.mdc_words.specs.ByteOrder.{Entry}
use Rattle.mdc_values.specs.declared.rid.Rid.{Rid}
use Rattle.mdc_ast.specs.TableLimits.{IsTableDef}
use Rattle.mdc_ast.specs.declared.definition.TableDef.{TableDef}
use Rattle.mdc_ast.specs.declared.row.Row.{Row}
use Rattle.store_api.specs.RunsOverPages.{RunsOverPages}
use Rattle.store_api.specs.declared.fault.Damage.{Damage}
use Rattle.store_api.specs.declared.fault.StoreFault.{StoreFault}
use Rattle.store_api.specs.declared.pages.Pages.{Ghosts}
use Rattle.store_api.specs.declared.shape.Shape.{Shape}
use Rattle.store_api.proofs.RunsOverPagesLemmas.{runs_as, runs_wider}
use Rattle.extent_map.specs.Owners.{owner_of}
use Rattle.extent_map.specs.declared.kind.Kind.{Kind}
use Rattle.extent_map.specs.declared.space_notes.SpaceNotes.{SpaceNotes}
use Rattle.entry_tree.specs.Forest.{Forest}
use Rattle.block_index.specs.Listing.{GainsEntry}
use Rattle.table_trees.specs.SpaceChanges.{MakesChanges, RunsFull, SpaceChange, added_entries}
use Rattle.table_trees.specs.TreesBeside.{table_of_block}
use Rattle.table_trees.proofs.SpaceChainsLemmas.{changes_then, full_before, full_then}
use Rattle.mdc_sound.specs.Placing.{Spot}
use Rattle.mdc_sound.specs.Placing.Spot.{OtherBlock}
use Rattle.mdc_sound.specs.RunningFull.{RowRunsFull, block_changes, row_listings}
use Rattle.mdc_sound.specs.StandingTable.{BreaksExpected, BreaksTable, IsReadyTable, IsTableSpace, IsTreeSpaceOfTable, KeepsBlocksBut, PlacesRow, RoomNote, TableForests, pages_of, spots_of}
use Rattle.mdc_sound.specs.TableRows.{PlacedRow}
use Rattle.mdc_sound.proofs.ChangedRowsLemmas.{rows_after_placing}
use Rattle.row_entries.specs.ChosenIndexes.{HasRecordKeys, MoveChosen, all_chosen, entry_of}
use Rattle.row_entries.specs.RowEntries.{EntersRow, LacksRowEntries, with_indexes}
use Rattle.row_entries.specs.SoundEntries.{placed_at}
use Rattle.mdc_table.specs.RowSteps.{PlacesRowInTable}
use Rattle.mdc_table.specs.WhereStanding.{WhereStands}
use Rattle.cell_change.specs.ExpectedTables.{HasSoundIndexes, PutRunsFull}
use Rattle.cell_change.specs.RowChanges.{InsertsRow, rows_now}
use Rattle.cell_change.proofs.KeptOthersLemmas.{keeps_as, keeps_then}
use Rattle.cell_change.proofs.BarePlacesLemmas.{lacks_anywhere}
use Rattle.cell_change.proofs.SpotStepsLemmas.{claims_leave, claims_then, rooms_on}
use Rattle.cell_change.proofs.TableStepsLemmas.{changes_table_then, puts_no_block, space_before, tree_space}

module _ {S : Type 0} (g : Ghosts S) (shape : Shape) {before mid : SpaceNotes} {room_of room_now : Entry → RoomNote} (old middle : S) (def : TableDef) (row : Row) (rid : Rid) (owners : List Kind) (forests : TableForests)
    (ready : IsReadyTable g shape before room_of old def owners forests) (placed : PlacesRowInTable g shape before mid room_of room_now old middle def row rid owners forests) where
  abbrev places : PlacesRow g shape before mid room_now old middle def owners forests row rid
  places = placed.places ready

  abbrev spots_old : List Spot
  spots_old = spots_of g shape old def owners forests

  abbrev spots_mid : List Spot
  spots_mid = spots_of g shape middle def places.owners_now places.forests_now

  -- what the row asks for where it is placed
  abbrev placing : List SpaceChange
  placing = block_changes def row rid.block (slice_index_or spots_old rid.block OtherBlock)

  -- it can't be entered there
  pub entering_full : RunsFull shape (pages_of g middle) (added_entries (row_listings def row rid)) → PutRunsFull shape (pages_of g old) def spots_old row
  entering_full full = PutRunsFull.placed rid places.mid places.puts (full_then shape (pages_of g old) (pages_of g middle) placing (added_entries (row_listings def row rid)) (placed.makes ready) full)

  -- ---- both together

  no_block : (e : ℕ) → table_of_block (owner_of places.owners_now e) ≡ None → table_of_block (owner_of owners e) ≡ None
  no_block = puts_no_block g shape old middle def owners forests ready.stands places.owners_now places.forests_now places.mid row rid places.puts places.claims

  rows_placed : IsTableDef def.number def → IsPermutation (placed_at rid row ∷ rows_now g shape old def forests) (rows_now g shape middle def places.forests_now)
  rows_placed defined = rows_after_placing g shape room_now old middle def owners forests ready.stands def.number row rid defined places

  module _ {noted : SpaceNotes} (new : S) (enters : EntersRow g shape mid noted middle new def row rid places.owners_now places.forests_now) where
    put_stays : KeepsBlocksBut g shape old new def owners (λ block. block ≡ rid.block)
    put_stays = keeps_as (keeps_then places.changes no_block placed.stay enters.table.blocks) (λ block may. elim may [ inl same ↦ same | inr wrong ↦ absurd wrong ])

    pub inserts : IsTableDef def.number def → length (pages_of g old) ≤ length (pages_of g middle) → length (pages_of g middle) ≤ length (pages_of g new)
        → MakesChanges shape (pages_of g middle) (added_entries (row_listings def row rid)) (pages_of g new) → InsertsRow g shape before noted room_now old new def row rid owners forests
    inserts defined longer still_longer entered =
        let forests_now = with_indexes places.forests_now enters.indexes_now in
        let spots_new = spots_of g shape new def enters.owners_now forests_now in
        record {
          owners_now = enters.owners_now;
          forests_now = forests_now;
          changes = changes_table_then g shape old middle def owners forests places.owners_now places.forests_now places.changes new enters.owners_now forests_now enters.table.changes no_block longer still_longer;
          entries = subst (λ (trees : List Forest). MoveChosen GainsEntry (entry_of def row rid) (all_chosen def) def.indexes trees enters.indexes_now) places.records enters.gain;
          rooms = rooms_on claims_leave spots_mid spots_new enters.claims def room_now places.rooms;
          mid = places.mid;
          puts = places.puts;
          claims = claims_then places.mid spots_mid spots_new places.claims enters.claims;
          rows = subst (λ (now : List PlacedRow). IsPermutation (placed_at rid row ∷ rows_now g shape old def forests) now) (sym enters.table.rows) (rows_placed defined);
          makes = changes_then shape (pages_of g old) (pages_of g middle) (pages_of g new) placing (added_entries (row_listings def row rid)) (placed.makes ready) entered;
          blocks = put_stays;
        }

-- where it can't be placed
pub placing_full : (shape : Shape) (pages : List (List ℕ)) (def : TableDef) (spots : List Spot) (row : Row) → RowRunsFull shape pages def spots row → PutRunsFull shape pages def spots row
placing_full shape pages def spots row (RowRunsFull.placed rid mid puts full) =
    PutRunsFull.placed rid mid puts (full_before shape pages (block_changes def row rid.block (slice_index_or spots rid.block OtherBlock)) (added_entries (row_listings def row rid)) full)
placing_full shape pages def spots row (RowRunsFull.stuck no_spot full) = PutRunsFull.stuck no_spot full

-- ---- runs

module _ {S : Type 0} (g : Ghosts S) (shape : Shape) (old : S) (def : TableDef) where
  -- a call that expects no more than that the table stands
  pub runs_standing : (More : List Kind → TableForests → Type 0) → {new : S} {fault : Option StoreFault} → RunsOverPages g (IsTableSpace g shape old def) (IsTableSpace g shape old def) (BreaksTable g shape old def) old new fault
      → RunsOverPages g (IsTableSpace g shape old def) (IsTableSpace g shape old def) (BreaksExpected g shape old def More) old new fault
  runs_standing More run =
      runs_wider run (λ p low mine. mine) (λ p mine. mine) (λ damage is. record { names = is.names; broken = λ owners forests st more. is.broken owners forests st })

  -- a row is placed, whatever the notes say, and then it is entered
  module _ {before mid : SpaceNotes} {room_of room_now : Entry → RoomNote} (middle : S) (row : Row) (rid : Rid) (defined : IsTableDef def.number def) (keys : HasRecordKeys def row.values)
      (placed : WhereStands g shape old def (PlacesRowInTable g shape before mid room_of room_now old middle def row rid)) where
    pub runs_entered : {new : S} {fault : Option StoreFault} → RunsOverPages g (IsTableSpace g shape old def) (IsTableSpace g shape old def) (BreaksTable g shape old def) old middle None
        → RunsOverPages g (IsTreeSpaceOfTable g shape middle def) (IsTreeSpaceOfTable g shape middle def) (BreaksExpected g shape middle def (LacksRowEntries def row rid)) middle new fault
        → RunsOverPages g (IsTableSpace g shape old def) (IsTableSpace g shape old def) (BreaksExpected g shape old def (HasSoundIndexes g shape old def)) old new fault
    runs_entered first second = runs_as first second (λ p low mine. mine) (λ p low mine. late p mine) (λ p mine. mine) late breaks
      where
        late : (p : ℕ) → IsTreeSpaceOfTable g shape middle def p → IsTableSpace g shape old def p
        late p mine owners forests st =
            let any = (placed owners forests st).anywhere in
            space_before g shape old middle def owners forests any.owners_now any.forests_now any.changes p (tree_space shape def any.owners_now any.forests_now p (mine any.owners_now any.forests_now any.changes.stands))

        breaks : (damage : Damage) → BreaksExpected g shape middle def (LacksRowEntries def row rid) damage → BreaksExpected g shape old def (HasSoundIndexes g shape old def) damage
        breaks damage is = record {
          names = is.names;
          broken = λ owners forests st sound.
              let any = (placed owners forests st).anywhere in
              is.broken any.owners_now any.forests_now any.changes.stands (lacks_anywhere g shape old def row rid owners forests st defined keys any.mid any.puts sound any.owners_now any.forests_now any.records);
        }
