-- A row that leaves the record indexes, and then its slot.
use Rattle.std.proofs.Common.{◌≡◌, ◌<◌, ◌≤◌, ◌⊎◌, ℕ, List, ◌∷◌, None, length, sum_by, refl, ap, arith, sym, ◌∙◌, subst, inl, inr}
use Rattle.std.specs.Prelude.{IsPermutation, Option}
use Rattle.std.proofs.lemmas.List.Sums.{sum_by-append}
use Rattle.mdc_words.specs.ByteOrder.{Entry}
use Rattle.mdc_values.specs.declared.rid.Rid.{Rid}
use Rattle.mdc_ast.specs.declared.definition.TableDef.{TableDef}
use Rattle.mdc_ast.specs.declared.row.Row.{Row}
use Rattle.store_api.specs.RunsOverPages.{RunsOverPages}
use Rattle.store_api.specs.declared.fault.Damage.{Damage}
use Rattle.store_api.specs.declared.fault.StoreFault.{StoreFault}
use Rattle.store_api.specs.declared.pages.Pages.{Ghosts}
use Rattle.store_api.specs.declared.shape.Shape.{Shape}
use Rattle.store_api.proofs.FrameLemmas.{touches_wider}
use Rattle.store_api.proofs.RunsOverPagesLemmas.{runs_as, runs_wider}
use Rattle.store_api.specs.Frame.{Touches}
use Rattle.extent_map.specs.Map.{IsMapPage}
use Rattle.extent_map.specs.Owners.{extent_of, owner_of}
use Rattle.extent_map.specs.declared.kind.Kind.{Kind}
use Rattle.extent_map.specs.declared.space_notes.SpaceNotes.{SpaceNotes}
use Rattle.entry_tree.specs.Forest.{Forest, times}
use Rattle.block_index.specs.Listing.{LosesEntry}
use Rattle.row_page.specs.RowPage.{count_rows}
use Rattle.table_trees.specs.SpaceChanges.{MakesChanges, removed_entries}
use Rattle.table_trees.specs.TreesBeside.{table_of_block}
use Rattle.table_trees.proofs.SpaceChainsLemmas.{changes_then}
use Rattle.mdc_sound.specs.Placing.{IsRowAt, Spot}
use Rattle.mdc_sound.specs.RunningFull.{left_changes, row_listings}
use Rattle.mdc_sound.specs.StandingTable.{AreRightRooms, BreaksExpected, IsBlockPageOf, IsReadyTable, IsTableOrMapPage, KeepsBlocksBut, RoomNote, StandsTable, TableForests, TakesRowOut, forests_in_order, pages_of, spots_of}
use Rattle.mdc_sound.specs.TableRows.{PlacedRow}
use Rattle.mdc_sound.proofs.ChangedRowsLemmas.{rows_after_taking}
use Rattle.row_entries.specs.ChosenIndexes.{MoveChosen, all_chosen, entry_of}
use Rattle.row_entries.specs.RowEntries.{HasRowEntries, IsTreeOrMapPageOfTable, LeavesRow, with_indexes}
use Rattle.row_entries.specs.SoundEntries.{placed_at}
use Rattle.row_entries.proofs.StandingRowsLemmas.{has_entries}
use Rattle.table_blocks.specs.BlockSteps.{HasThisRow}
use Rattle.free_space.specs.RoomNotes.{no_note}
use Rattle.mdc_table.specs.AnyPlace.{TakesOutAnywhere}
use Rattle.mdc_table.specs.RowSteps.{TakesRowFromTable}
use Rattle.mdc_table.proofs.KeptBlocksLemmas.{keeps_in_trees}
use Rattle.mdc_table.proofs.KeptRoomsLemmas.{rooms_forgotten}
use Rattle.cell_change.specs.ExpectedTables.{WithSoundIndexes}
use Rattle.cell_change.specs.RowChanges.{DeletesRow, rows_now}
use Rattle.cell_change.proofs.KeptOthersLemmas.{block_of_table, keeps_as, keeps_then}
use Rattle.cell_change.proofs.OneTableLemmas.{expected_there}
use Rattle.cell_change.proofs.SpotStepsLemmas.{returned_behind, returns_leave, returns_then, rooms_on, row_on, spots_without, takes_before}
use Rattle.cell_change.proofs.TableStepsLemmas.{changes_table_then}

-- ---- a row that is taken out, with no notes

-- no cell is noted
abbrev no_notes : Entry → RoomNote
no_notes key = no_note

module _ {S : Type 0} (g : Ghosts S) (shape : Shape) {before noted : SpaceNotes} (old new : S) (def : TableDef) (owners : List Kind) (forests : TableForests) (row : Row) (rid : Rid) where
  -- where no cell is noted, the notes are right
  abbrev noted_nowhere : TakesOutAnywhere g shape before noted old new def owners forests row rid → TakesRowOut g shape before noted no_notes old new def owners forests row rid
  noted_nowhere takes = record {
    owners_now = takes.owners_now;
    forests_now = takes.forests_now;
    changes = takes.changes;
    records = takes.records;
    rooms = rooms_forgotten def no_notes (spots_of g shape new def takes.owners_now takes.forests_now) (λ key. refl);
    mid = takes.mid;
    takes = takes.takes;
    returns = takes.returns;
  }

-- ---- behind the record indexes

module _ {S : Type 0} (g : Ghosts S) (shape : Shape) {before mid : SpaceNotes} (old middle : S) (def : TableDef) (row : Row) (rid : Rid) (owners : List Kind) (forests : TableForests)
    (leaves : LeavesRow g shape before mid old middle def row rid owners forests) where
  abbrev pub forests_mid : TableForests
  forests_mid = with_indexes forests leaves.indexes_now

  abbrev spots_old : List Spot
  spots_old = spots_of g shape old def owners forests

  abbrev spots_mid : List Spot
  spots_mid = spots_of g shape middle def leaves.owners_now forests_mid

  no_block : (e : ℕ) → table_of_block (owner_of leaves.owners_now e) ≡ None → table_of_block (owner_of owners e) ≡ None
  no_block e none = sym (leaves.table.owned e) ∙ none

  -- the row lies where it lay, and the table is ready
  pub row_left : (slots : List (Option Row)) → IsRowAt spots_old rid row slots → IsRowAt spots_mid rid row slots
  row_left slots lies = row_on returns_leave spots_old spots_mid leaves.returns lies

  pub this_left : HasThisRow g shape old def rid row owners forests → HasThisRow g shape middle def rid row leaves.owners_now forests_mid
  this_left this = record { slots = this.slots; lies = row_left this.slots this.lies }

  pub ready_left : {room_of : Entry → RoomNote} → IsReadyTable g shape before room_of old def owners forests → IsReadyTable g shape mid room_of middle def leaves.owners_now forests_mid
  ready_left {room_of} ready = record {
    stands = leaves.table.changes.stands;
    notes = leaves.table.changes.notes ready.notes;
    rooms = rooms_on returns_leave spots_old spots_mid leaves.returns def room_of ready.rooms;
  }

  -- no page came to its trees
  no_tree_page : (p : ℕ) → sum_by (times p) (forests_in_order forests_mid) ≤ sum_by (times p) (forests_in_order forests)
  no_tree_page p =
      let front = forests.map ∷ forests.composite ∷ forests.dims in
      omega (arith, leaves.pages p, sum_by-append (times p) front leaves.indexes_now, sum_by-append (times p) front forests.indexes)

  -- its pages are pages that it had
  pub place_before : (p : ℕ) → IsTableOrMapPage g shape middle def p → 0 < sum_by (times p) (forests_in_order forests) ⊎ (IsBlockPageOf shape owners def.number p ⊎ IsMapPage shape p)
  place_before p mine = elim (mine leaves.owners_now forests_mid leaves.table.changes.stands) [
    | inl tree ↦ inl (omega (arith, tree, no_tree_page p))
    | inr more ↦ inr (elim more [
      | inl of ↦
          let e = extent_of shape p in
          inl (record { page = of.page; block = block_of_table (owner_of owners e) def.number (sym (leaves.table.owned e) ∙ ap table_of_block of.block) })
      | inr map ↦ inr map
    ])
  ]

  -- ---- both together

  pub left_stays : {new : S} {May : ℕ → Type 0} → KeepsBlocksBut g shape middle new def leaves.owners_now May → KeepsBlocksBut g shape old new def owners May
  left_stays stay = keeps_as (keeps_then leaves.table.changes no_block leaves.table.blocks stay) (λ block may. elim may [ inl wrong ↦ absurd wrong | inr is ↦ is ])

  module _ {noted : SpaceNotes} {room_of room_now : Entry → RoomNote} (new : S) (taken : TakesRowFromTable g shape mid noted room_of room_now middle new def row rid leaves.owners_now forests_mid) where
    -- where the notes of the rooms were right they are, whatever is taken out
    right_rooms : (owners_now : List Kind) (forests_now : TableForests) → StandsTable g shape new def owners_now forests_now
        → IsReadyTable g shape before room_of old def owners forests → AreRightRooms def room_now (spots_of g shape new def owners_now forests_now)
    right_rooms owners_now forests_now now ready =
        let out = taken.takes (ready_left ready) in
        expected_there g shape new def out.owners_now owners_now out.forests_now forests_now out.changes.stands now (λ owners forests. AreRightRooms def room_now (spots_of g shape new def owners forests)) out.rooms

    pub deletes : MakesChanges shape (pages_of g old) (removed_entries (row_listings def row rid)) (pages_of g middle)
        → length (pages_of g old) ≤ length (pages_of g middle) → length (pages_of g middle) ≤ length (pages_of g new) → DeletesRow g shape before noted room_of room_now old new def row rid owners forests
    deletes left longer still_longer =
        let out = taken.leaves in
        let first = takes_before spots_old spots_mid out.mid rid row leaves.returns out.takes in
        let without = spots_without spots_old rid out.takes.slots in
        let spots_new = spots_of g shape new def out.owners_now out.forests_now in
        let now = rows_now g shape new def out.forests_now in
        record {
          owners_now = out.owners_now;
          forests_now = out.forests_now;
          changes = changes_table_then g shape old middle def owners forests leaves.owners_now forests_mid leaves.table.changes new out.owners_now out.forests_now out.changes no_block longer still_longer;
          entries = subst (λ (after : List Forest). MoveChosen LosesEntry (entry_of def row rid) (all_chosen def) def.indexes forests.indexes after) (sym out.records) leaves.lose;
          rooms = right_rooms out.owners_now out.forests_now out.changes.stands;
          mid = without;
          takes = first;
          returns = returns_then without out.mid spots_new (returned_behind spots_old spots_mid out.mid rid row leaves.returns out.takes) out.returns;
          rows = subst (λ (were : List PlacedRow). IsPermutation (placed_at rid row ∷ now) were) leaves.table.rows
              (rows_after_taking g shape no_notes middle new def leaves.owners_now forests_mid leaves.table.changes.stands row rid (noted_nowhere g shape middle new def leaves.owners_now forests_mid row rid out));
          makes = λ slots lies.
              changes_then shape (pages_of g old) (pages_of g middle) (pages_of g new) (removed_entries (row_listings def row rid)) (left_changes def row rid.block (count_rows slots)) left (taken.makes slots (row_left slots lies));
        }

-- ---- where it couldn't leave the record indexes

module _ {S : Type 0} (g : Ghosts S) (shape : Shape) (old : S) (def : TableDef) where
  tree_in_table : (p : ℕ) → IsTreeOrMapPageOfTable g shape old def p → IsTableOrMapPage g shape old def p
  tree_in_table p mine owners forests st = elim (mine owners forests st) [ inl tree ↦ inl tree | inr map ↦ inr (inr map) ]

  -- no page of the table's blocks changed
  pub blocks_left : {new : S} {May : ℕ → Type 0} (owners : List Kind) (forests : TableForests) → StandsTable g shape old def owners forests → Touches g (IsTreeOrMapPageOfTable g shape old def) old new
      → KeepsBlocksBut g shape old new def owners May
  blocks_left {new} {May} owners forests st touched =
      keeps_in_trees shape old old new def owners forests refl refl st May
      (touches_wider touched (λ p mine owners forests st. elim (mine owners forests st) [ inl tree ↦ inl tree | inr map ↦ inr (inl (inr map)) ]))

  module _ (row : Row) (rid : Rid) where
    abbrev Breaks : Damage → Type 0
    Breaks = BreaksExpected g shape old def (WithSoundIndexes g shape old def (HasThisRow g shape old def rid row))

    pub runs_leaving : {new : S} {fault : Option StoreFault}
        → RunsOverPages g (IsTreeOrMapPageOfTable g shape old def) (IsTreeOrMapPageOfTable g shape old def) (BreaksExpected g shape old def (HasRowEntries def row rid)) old new fault
        → RunsOverPages g (IsTableOrMapPage g shape old def) (IsTableOrMapPage g shape old def) Breaks old new fault
    runs_leaving run = runs_wider run (λ p low mine. tree_in_table p mine) tree_in_table (λ damage is. record {
      names = is.names;
      broken = λ owners forests st expected. is.broken owners forests st (has_entries g shape old def owners forests st expected.1 row rid expected.0.slots expected.0.lies);
    })

    -- and where it did
    pub runs_left : {before mid : SpaceNotes} (middle : S) → ((owners : List Kind) (forests : TableForests) → StandsTable g shape old def owners forests → LeavesRow g shape before mid old middle def row rid owners forests)
        → {new : S} {fault : Option StoreFault}
        → RunsOverPages g (IsTreeOrMapPageOfTable g shape old def) (IsTreeOrMapPageOfTable g shape old def) (BreaksExpected g shape old def (HasRowEntries def row rid)) old middle None
        → RunsOverPages g (IsTableOrMapPage g shape middle def) (IsTableOrMapPage g shape middle def) (BreaksExpected g shape middle def (HasThisRow g shape middle def rid row)) middle new fault
        → RunsOverPages g (IsTableOrMapPage g shape old def) (IsTableOrMapPage g shape old def) Breaks old new fault
    runs_left middle leaves first second = runs_as first second (λ p low mine. tree_in_table p mine) (λ p low mine. late p mine) tree_in_table late breaks
      where
        late : (p : ℕ) → IsTableOrMapPage g shape middle def p → IsTableOrMapPage g shape old def p
        late p mine owners forests st = place_before g shape old middle def row rid owners forests (leaves owners forests st) p mine

        breaks : (damage : Damage) → BreaksExpected g shape middle def (HasThisRow g shape middle def rid row) damage → Breaks damage
        breaks damage is = record {
          names = is.names;
          broken = λ owners forests st expected.
              let left = leaves owners forests st in
              is.broken left.owners_now (with_indexes forests left.indexes_now) left.table.changes.stands (this_left g shape old middle def row rid owners forests left expected.0);
        }
