-- A row that another of its cell comes into the place of, and then into the record indexes.
use Rattle.std.proofs.Common.{◌≡◌, ◌≤◌, ℕ, List, [], ◌∷◌, ◌++◌, None, Some, length, set, arith, sym, subst, inl, inr}
use Rattle.std.specs.Prelude.{IsPermutation, Option}
use Rattle.mdc_words.specs.ByteOrder.{Entry}
use Rattle.mdc_values.specs.declared.rid.Rid.{Rid}
use Rattle.mdc_ast.specs.TableLimits.{IsTableDef}
use Rattle.mdc_ast.specs.declared.definition.TableDef.{TableDef}
use Rattle.mdc_ast.specs.declared.row.Row.{Row}
use Rattle.store_api.specs.RunsOverPages.{RunsOverPages}
use Rattle.store_api.specs.declared.fault.Damage.{Damage}
use Rattle.store_api.specs.declared.fault.StoreFault.{StoreFault}
use Rattle.store_api.specs.declared.pages.Pages.{Ghosts}
use Rattle.store_api.specs.declared.shape.Shape.{Shape}
use Rattle.store_api.proofs.RunsOverPagesLemmas.{runs_as, runs_wider}
use Rattle.extent_map.specs.declared.kind.Kind.{Kind}
use Rattle.extent_map.specs.declared.space_notes.SpaceNotes.{SpaceNotes}
use Rattle.table_trees.specs.RowCells.{AreOfOneCell}
use Rattle.table_trees.specs.SpaceChanges.{MakesChanges, RunsFull, SpaceChange, added_entries, removed_entries}
use Rattle.table_trees.proofs.SpaceChainsLemmas.{changes_then, full_before, full_then, no_changes}
use Rattle.mdc_sound.specs.Placing.{ChangesRow, Spot, SpotsAfterReturns, block_slot_count}
use Rattle.mdc_sound.specs.Placing.Spot.{UsedBlock}
use Rattle.mdc_sound.specs.RunningFull.{UpdateRunsFull, UpdatingChanges, differing_indexes, listings_in}
use Rattle.mdc_sound.specs.StandingTable.{BreaksExpected, HasRowAt, IsReadyTable, IsTreeSpaceOfTable, KeepsBlocksBut, OverwritesRow, RoomNote, StandsTable, TableForests, pages_of, spots_of}
use Rattle.mdc_sound.specs.TableRows.{PlacedRow}
use Rattle.mdc_sound.proofs.ChangedRowsLemmas.{rows_after_overwriting}
use Rattle.row_entries.specs.ChosenIndexes.{HasRecordKeys}
use Rattle.row_entries.specs.RowEntries.{HasRowEntriesOnly, RenewsRow, with_indexes}
use Rattle.row_entries.specs.SoundEntries.{placed_at}
use Rattle.row_entries.proofs.StandingRowsLemmas.{has_only}
use Rattle.table_blocks.specs.BlockSteps.{HasThisRow}
use Rattle.mdc_table.specs.KnownBlocks.{IsExpectedPlace, IsExpectedSpace, IsUsedIfKnown}
use Rattle.mdc_table.specs.RowSteps.{OverwritesRowInTable}
use Rattle.mdc_table.specs.WhereStanding.{WhereStandsWithRow}
use Rattle.mdc_table.proofs.KnownBlocksLemmas.{used_with_row}
use Rattle.cell_change.specs.ExpectedTables.{WithSoundIndexes}
use Rattle.cell_change.specs.RowChanges.{ChangesOneRow, TurnsEntries, TurnsRowBy}
use Rattle.cell_change.proofs.ChangedRowLemmas.{same_claims, same_returns}
use Rattle.cell_change.proofs.ChangedSpaceLemmas.{shows_spots}
use Rattle.cell_change.proofs.KeptOthersLemmas.{keeps_as, keeps_then}
use Rattle.cell_change.proofs.RowChangesLemmas.{has_row}
use Rattle.cell_change.proofs.SpotStepsLemmas.{claims_leave, returns_leave, rooms_on}
use Rattle.cell_change.proofs.TableStepsLemmas.{changes_table_then, tree_space}

module _ {S : Type 0} (g : Ghosts S) (shape : Shape) {noted : SpaceNotes} {room_of : Entry → RoomNote} (old middle : S) (def : TableDef) (row other : Row) (rid : Rid) (owners : List Kind) (forests : TableForests)
    (ready : IsReadyTable g shape noted room_of old def owners forests) (cell : AreOfOneCell def row.values other.values) (wrote : OverwritesRowInTable g shape room_of old middle def row other rid owners forests) where
  -- the other row lies in the place
  abbrev over : OverwritesRow g shape noted noted room_of old middle def owners forests row other rid
  over = wrote.overwrites cell noted ready

  abbrev spots_old : List Spot
  spots_old = spots_of g shape old def owners forests

  abbrev spots_mid : List Spot
  spots_mid = spots_of g shape middle def owners forests

  -- the spots with the other row
  abbrev spots_with : List Spot
  spots_with = set spots_old rid.block (UsedBlock (set over.slots rid.slot (Some other)))

  -- the changes of the record indexes
  abbrev asked : List SpaceChange
  asked = removed_entries (listings_in def (differing_indexes def row other) row rid) ++ added_entries (listings_in def (differing_indexes def row other) other rid)

  -- ---- both together

  module _ {now : SpaceNotes} (new : S) (renews : RenewsRow g shape noted now middle new def row other rid owners forests) where
    abbrev spots_new : List Spot
    spots_new = spots_of g shape new def renews.owners_now (with_indexes forests renews.indexes_now)

    abbrev turns : ChangesRow def (block_slot_count shape def) spots_old rid row other renews.mid rid
    turns = ChangesRow.stays over.slots cell over.lay (subst (λ (spots : List Spot). SpotsAfterReturns spots renews.mid) over.spots renews.returns)

    pub rewrites : length (pages_of g old) ≤ length (pages_of g middle) → length (pages_of g middle) ≤ length (pages_of g new)
        → MakesChanges shape (pages_of g middle) asked (pages_of g new) → KeepsBlocksBut g shape old middle def owners (λ block. block ≡ rid.block)
        → ChangesOneRow g shape noted now room_of old new def row other rid rid owners forests
    rewrites longer still_longer makes stay =
        let rows = rows_after_overwriting g shape room_of old middle def owners forests ready.stands row other rid over in
        let forests_now = with_indexes forests renews.indexes_now in
        record {
          owners_now = renews.owners_now;
          forests_now = forests_now;
          changes = changes_table_then g shape old middle def owners forests owners forests over.changes new renews.owners_now forests_now renews.table.changes (λ e none. none) longer still_longer;
          entries = TurnsEntries.stays renews.left cell renews.lose renews.gain;
          rooms = rooms_on claims_leave renews.mid spots_new renews.claims def room_of (rooms_on returns_leave spots_mid renews.mid renews.returns def room_of over.rooms);
          mid = renews.mid;
          turns = turns;
          claims = renews.claims;
          stay = rows.0;
          were = rows.1;
          are = subst (λ (now : List PlacedRow). IsPermutation (placed_at rid other ∷ rows.0) now) (sym renews.table.rows) rows.2;
          space = record {
            changes = asked;
            makes = changes_then shape (pages_of g old) (pages_of g middle) (pages_of g new) [] asked (no_changes shape (pages_of g old) (pages_of g middle) wrote.makes) makes;
            turns = TurnsRowBy.stays cell turns renews.claims;
          };
          blocks = keeps_as (keeps_then over.changes (λ e none. none) stay renews.table.blocks) (λ block may. elim may [ inl same ↦ inl same | inr wrong ↦ absurd wrong ]);
        }

  -- ---- they run full

  pub rewriting_full : RunsFull shape (pages_of g middle) asked → UpdateRunsFull shape (pages_of g old) def ((placed_at rid row, other) ∷ [])
  rewriting_full full =
      record {
        spots = spots_old;
        changes = asked ++ [];
        shows = shows_spots g shape old def owners forests ready.stands;
        rising = λ i j d low high. absurd (omega (arith, low, high));
        updating = UpdatingChanges.stays cell (ChangesRow.stays over.slots cell over.lay (same_returns spots_with)) (same_claims spots_with) UpdatingChanges.none;
        full = full_before shape (pages_of g old) asked [] (full_then shape (pages_of g old) (pages_of g middle) [] asked (no_changes shape (pages_of g old) (pages_of g middle) wrote.makes) full);
      }

-- ---- runs

module _ {S : Type 0} (g : Ghosts S) (shape : Shape) (old : S) (def : TableDef) (rid : Rid) (row : Row) where
  abbrev This : List Kind → TableForests → Type 0
  This = HasThisRow g shape old def rid row

  abbrev Breaks : Damage → Type 0
  Breaks = BreaksExpected g shape old def (WithSoundIndexes g shape old def This)

  -- the row's block is a Used one, whether that is known or not
  known_place : (known : Option ℕ) (p : ℕ) → IsExpectedPlace g shape old def (IsUsedIfKnown known rid.block) p → IsExpectedSpace g shape old def This p
  known_place known p is owners forests st this = elim (is owners forests st (λ same. used_with_row shape old def rid owners forests st (has_row g shape old def rid row owners forests this))) [
    | inl some ↦ inl some
    | inr more ↦ elim more [ inl of ↦ inr (inl of) | inr map ↦ inr (inr (inl (inr map))) ]
  ]

  pub runs_rewriting : {known : Option ℕ} {new : S} {fault : Option StoreFault}
      → RunsOverPages g (IsExpectedPlace g shape old def (IsUsedIfKnown known rid.block)) (IsExpectedPlace g shape old def (IsUsedIfKnown known rid.block)) (BreaksExpected g shape old def (HasRowAt g shape old def rid)) old new fault
      → RunsOverPages g (IsExpectedSpace g shape old def This) (IsExpectedSpace g shape old def This) Breaks old new fault
  runs_rewriting {known} run = runs_wider run (λ p low is. known_place known p is) (known_place known) (λ damage is. record {
    names = is.names;
    broken = λ owners forests st expected. is.broken owners forests st (has_row g shape old def rid row owners forests expected.0);
  })

  pub runs_rewritten : {known : Option ℕ} (middle : S) (other : Row) → IsTableDef def.number def → HasRecordKeys def row.values → HasRecordKeys def other.values
      → WhereStandsWithRow g shape old def rid row (StandsTable g shape middle def)
      → {new : S} {fault : Option StoreFault}
      → RunsOverPages g (IsExpectedPlace g shape old def (IsUsedIfKnown known rid.block)) (IsExpectedPlace g shape old def (IsUsedIfKnown known rid.block)) (BreaksExpected g shape old def (HasRowAt g shape old def rid)) old middle None
      → RunsOverPages g (IsTreeSpaceOfTable g shape middle def) (IsTreeSpaceOfTable g shape middle def) (BreaksExpected g shape middle def (HasRowEntriesOnly def row other rid)) middle new fault
      → RunsOverPages g (IsExpectedSpace g shape old def This) (IsExpectedSpace g shape old def This) Breaks old new fault
  runs_rewritten {known} middle other defined keys other_keys stands first second = runs_as first second (λ p low is. known_place known p is) (λ p low mine. late p mine) (known_place known) late breaks
    where
      late : (p : ℕ) → IsTreeSpaceOfTable g shape middle def p → IsExpectedSpace g shape old def This p
      late p mine owners forests st this = tree_space shape def owners forests p (mine owners forests (stands owners forests st this))

      breaks : (damage : Damage) → BreaksExpected g shape middle def (HasRowEntriesOnly def row other rid) damage → Breaks damage
      breaks damage is = record {
        names = is.names;
        broken = λ owners forests st expected.
            is.broken owners forests (stands owners forests st expected.0)
            (has_only g shape old def owners forests st expected.1 defined row other rid expected.0.slots keys other_keys expected.0.lies);
      }
