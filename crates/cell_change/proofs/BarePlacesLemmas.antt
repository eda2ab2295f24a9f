-- The place that a row was put into was bare, whatever the notes said: no row lay there, its block isn't Pending, and sound record
-- indexes have no entry of it.
use Rattle.std.proofs.Common.{◌≡◌, ◌≢◌, ◌<◌, ℕ, List, None, length, ap, arith, sym, ◌∙◌, refl, subst, inl, inr}
use Rattle.std.specs.Prelude.{slice_index_or}
use Rattle.std.proofs.lemmas.Bool.{cases_lt}
use Rattle.std.proofs.lemmas.List.{get_or_past}
use Rattle.mdc_values.specs.declared.rid.Rid.{Rid}
use Rattle.mdc_ast.specs.TableLimits.{IsTableDef}
use Rattle.mdc_ast.specs.declared.definition.TableDef.{TableDef}
use Rattle.mdc_ast.specs.declared.row.Row.{Row}
use Rattle.store_api.specs.declared.pages.Pages.{Ghosts}
use Rattle.store_api.specs.declared.shape.Shape.{Shape}
use Rattle.extent_map.specs.declared.kind.Kind.{Kind}
use Rattle.mdc_sound.specs.Placing.{Spot, block_slot_count, row_at_spot, slots_of_spot}
use Rattle.mdc_sound.specs.Placing.Spot.{FreeExtent, IndexExtent, OtherBlock, FreeBlock, PendingBlock, UsedBlock}
use Rattle.mdc_sound.specs.StandingTable.{StandsTable, TableForests, pages_of, spots_of}
use Rattle.mdc_sound.proofs.MappedBlocksLemmas.{small_block}
use Rattle.mdc_sound.proofs.SlotRowsLemmas.{few_slots}
use Rattle.mdc_sound.proofs.TableSpotsLemmas.{length-spots, used_of_spot}
use Rattle.record_index.specs.FoundRids.{IsRid}
use Rattle.row_entries.specs.ChosenIndexes.{HasRecordKeys}
use Rattle.row_entries.specs.RowEntries.{LacksRowEntries}
use Rattle.row_entries.proofs.StandingRowsLemmas.{lacks_entries}
use Rattle.mdc_table.specs.AnyPlace.{IsFreeSpot, PutsAnywhere}
use Rattle.mdc_table.proofs.KeptRoomsLemmas.{used_below}
use Rattle.cell_change.specs.ExpectedTables.{HasSoundIndexes}

-- a spot that is free has no row, and isn't Pending
free_bare : (spot : Spot) → IsFreeSpot spot → (slice_index_or (slots_of_spot spot) 0 None ≡ None) × (spot ≢ PendingBlock)
free_bare FreeBlock free = (refl, λ wrong. absurd (cc wrong))
free_bare FreeExtent free = (refl, λ wrong. absurd (cc wrong))
free_bare IndexExtent (inl wrong) = absurd wrong
free_bare IndexExtent (inr wrong) = absurd wrong
free_bare OtherBlock (inl wrong) = absurd wrong
free_bare OtherBlock (inr wrong) = absurd wrong
free_bare PendingBlock (inl wrong) = absurd wrong
free_bare PendingBlock (inr wrong) = absurd wrong
free_bare (UsedBlock slots) (inl wrong) = absurd wrong
free_bare (UsedBlock slots) (inr wrong) = absurd wrong

-- it is one of the spots
free_below : (spots : List Spot) (e : ℕ) → IsFreeSpot (slice_index_or spots e OtherBlock) → e < length spots
free_below spots e free = elim (cases_lt e (length spots)) [
  | inl low ↦ low
  | inr past ↦ absurd (none (subst IsFreeSpot (get_or_past spots e OtherBlock past) free))
]
  where
    none : IsFreeSpot OtherBlock → ⊥
    none (inl wrong) = wrong
    none (inr wrong) = wrong

bare_anywhere : (def : TableDef) (n : ℕ) (old new : List Spot) (row : Row) (rid : Rid) → PutsAnywhere def n old row new rid → (row_at_spot old rid ≡ None) × (slice_index_or old rid.block OtherBlock ≢ PendingBlock)
bare_anywhere def n old new row _ (PutsAnywhere.in_cell block slot slots there room lowest is) = (
  ap (λ (spot : Spot). slice_index_or (slots_of_spot spot) slot None) there ∙ lowest.is_it None,
  λ pending. let wrong : UsedBlock slots ≡ PendingBlock = sym there ∙ pending in absurd cc,
)
bare_anywhere def n old new row _ (PutsAnywhere.in_free block free is) = free_bare (slice_index_or old block OtherBlock) free

module _ {S : Type 0} (g : Ghosts S) (shape : Shape) (s : S) (def : TableDef) (row : Row) (rid : Rid) (owners : List Kind) (forests : TableForests) (st : StandsTable g shape s def owners forests) where
  -- an entry can name the place
  place_named : (new : List Spot) → PutsAnywhere def (block_slot_count shape def) (spots_of g shape s def owners forests) row new rid → IsRid rid
  place_named new puts = go rid puts
    where
      spots : List Spot
      spots = spots_of g shape s def owners forests

      small : (block : ℕ) → block < length (spots_of g shape s def owners forests) → block < 4294967296
      small block low = small_block shape block (omega (arith, low, length-spots shape (pages_of g s) def owners forests.map))

      go : (rid : Rid) → PutsAnywhere def (block_slot_count shape def) (spots_of g shape s def owners forests) row new rid → IsRid rid
      go _ (PutsAnywhere.in_cell block slot slots there room lowest is) =
          let used = used_of_spot shape (pages_of g s) def owners forests.map st.map block slots there in
          record {
            block = small block (used_below (spots_of g shape s def owners forests) block slots there);
            slot = omega (arith, lowest.within, few_slots shape (pages_of g s) def block slots (sym used.1));
          }
      go _ (PutsAnywhere.in_free block free is) = record { block = small block (free_below (spots_of g shape s def owners forests) block free); slot = omega arith }

  -- no sound record index has an entry of it, and so none of the same trees
  pub lacks_anywhere : IsTableDef def.number def → HasRecordKeys def row.values → (new : List Spot) → PutsAnywhere def (block_slot_count shape def) (spots_of g shape s def owners forests) row new rid
      → HasSoundIndexes g shape s def owners forests → (others : List Kind) (more : TableForests) → more.indexes ≡ forests.indexes → LacksRowEntries def row rid others more
  lacks_anywhere defined keys new puts sound others more same =
      let is = bare_anywhere def (block_slot_count shape def) (spots_of g shape s def owners forests) new row rid puts in
      lacks_entries g shape s def owners forests st sound defined row rid others more keys (place_named new puts) is.0 is.1 same
