-- A row that was placed by any notes, which may be wrong.
use Rattle.std.proofs.Common.{◌≡◌, ℕ, List, refl, sym, subst, inl, inr}
use Rattle.std.specs.Prelude.{IfOk, Some, Result, Ok, Err, slice_index_or, slice_set}
use Rattle.mdc_values.specs.declared.rid.Rid.{Rid}
use Rattle.mdc_ast.specs.declared.definition.TableDef.{TableDef}
use Rattle.mdc_ast.specs.declared.row.Row.{Row}
use Rattle.store_api.specs.declared.pages.Pages.{Ghosts}
use Rattle.store_api.specs.declared.shape.Shape.{Shape}
use Rattle.extent_map.specs.declared.fault.SpaceFault.{SpaceFault}
use Rattle.extent_map.specs.declared.kind.Kind.{Kind}
use Rattle.extent_map.specs.declared.space_notes.SpaceNotes.{SpaceNotes}
use Rattle.table_trees.specs.ToldPages.{PageList}
use Rattle.mdc_sound.specs.Placing.{AfterClaims, HasRoomFor, Spot, begun_with, block_slot_count, table_spots}
use Rattle.mdc_sound.specs.Placing.Spot.{FreeBlock, FreeExtent, OtherBlock, UsedBlock}
use Rattle.mdc_sound.specs.StandingTable.{StandsTable, TableForests, spots_of}
use Rattle.mdc_sound.proofs.StandingTableLemmas.{stands_same}
use Rattle.table_blocks.specs.BlockSteps.{BeginsBlock, FillsSlot}
use Rattle.table_blocks.proofs.AlongLemmas.{changes_along, fills_along, room_along, turns_along}
use Rattle.mdc_table.specs.AnyPlace.{IsFreeSpot, PlacesAnywhere, PutsAnywhere}
use Rattle.mdc_table.proofs.PlacingRowsLemmas.{claims_none}

-- spots that are free
pub is_free_block : (spot : Spot) → spot ≡ FreeBlock → IsFreeSpot spot
is_free_block spot is = subst IsFreeSpot (sym is) (inl tt)

pub is_free_extent : (spot : Spot) → spot ≡ FreeExtent → IsFreeSpot spot
is_free_extent spot is = subst IsFreeSpot (sym is) (inr tt)

module _ {S : Type 0} {g : Ghosts S} (shape : Shape) (def : TableDef) (row : Row) (before noted : SpaceNotes) (old mid new : S) (told : (g.state mid).is_told ≡ (g.state old).is_told) (same : (g.state mid).work ≡ (g.state old).work)
    (owners : List Kind) (forests : TableForests) where
  -- the row went into a block that was free
  pub begun_anywhere : (block : ℕ) → IsFreeSpot (slice_index_or (spots_of g shape mid def owners forests) block OtherBlock) → BeginsBlock g shape before noted mid new def block row owners forests
      → PlacesAnywhere g shape before noted old new def owners forests row (record { block = block; slot = 0 })
  begun_anywhere block free begins =
      let spot = begun_with (block_slot_count shape def) row in
      let turns = turns_along shape before noted old mid new def owners forests told same AfterClaims block spot begins.owners_now begins.forests_now begins.turns in
      record {
        owners_now = begins.owners_now;
        forests_now = begins.forests_now;
        changes = turns.changes;
        records = turns.records;
        mid = slice_set (spots_of g shape old def owners forests) block spot;
        puts = PutsAnywhere.in_free block (subst (λ (pages : PageList). IsFreeSpot (slice_index_or (table_spots shape pages def owners forests.map) block OtherBlock)) same free) refl;
        claims = turns.spots;
      }

  -- the same, behind calls that left the work as it was
  pub anywhere_along : (rid : Rid) → PlacesAnywhere g shape before noted mid new def owners forests row rid → PlacesAnywhere g shape before noted old new def owners forests row rid
  anywhere_along rid places = record {
    owners_now = places.owners_now;
    forests_now = places.forests_now;
    changes = changes_along shape before noted old mid new def owners forests told same places.owners_now places.forests_now places.changes;
    records = places.records;
    mid = places.mid;
    puts = subst (λ (pages : PageList). PutsAnywhere def (block_slot_count shape def) (table_spots shape pages def owners forests.map) row places.mid rid) same places.puts;
    claims = places.claims;
  }

-- the row went into a Used block of its cell
pub filled_anywhere : {S : Type 0} {g : Ghosts S} (shape : Shape) (def : TableDef) (row : Row) (noted : SpaceNotes) (old mid new : S) → (g.state mid).is_told ≡ (g.state old).is_told → (g.state mid).work ≡ (g.state old).work
    → (owners : List Kind) (forests : TableForests) (block : ℕ) (rid : Rid) → rid.block ≡ block → HasRoomFor def row (slice_index_or (spots_of g shape mid def owners forests) block OtherBlock)
    → FillsSlot g shape noted mid new def rid row owners forests → PlacesAnywhere g shape noted noted old new def owners forests row rid
filled_anywhere {g = g} shape def row noted old mid new told same owners forests block rid at room filled =
    let spots = spots_of g shape old def owners forests in
    let fills = fills_along shape old mid new def row owners forests told same noted rid filled in
    let was : HasRoomFor def row (slice_index_or spots block OtherBlock) = room_along g shape old mid def row owners forests same block room in
    let here : HasRoomFor def row (slice_index_or spots rid.block OtherBlock) = subst (λ (n : ℕ). HasRoomFor def row (slice_index_or spots n OtherBlock)) (sym at) was in
    let now = UsedBlock (slice_set fills.slots rid.slot (Some row)) in
    record {
      owners_now = owners;
      forests_now = fills.forests_now;
      changes = fills.turns.changes;
      records = fills.turns.records;
      mid = slice_set spots rid.block now;
      puts = PutsAnywhere.in_cell rid.block rid.slot fills.slots fills.was (subst (HasRoomFor def row) fills.was here) fills.lowest refl;
      claims = claims_none (slice_set spots rid.block now) (spots_of g shape new def owners fills.forests_now) fills.turns.spots;
    }

-- a block that came into use was free, behind calls that left the work as it was
pub new_block_free : {S : Type 0} (g : Ghosts S) (shape : Shape) (old mid : S) (def : TableDef) → (g.state mid).is_told ≡ (g.state old).is_told → (g.state mid).work ≡ (g.state old).work → (result : Result ℕ SpaceFault)
    → IfOk result (λ block. (owners : List Kind) (forests : TableForests) → StandsTable g shape mid def owners forests → slice_index_or (spots_of g shape mid def owners forests) block OtherBlock ≡ FreeExtent)
    → IfOk result (λ block. (owners : List Kind) (forests : TableForests) → StandsTable g shape old def owners forests → IsFreeSpot (slice_index_or (spots_of g shape old def owners forests) block OtherBlock))
new_block_free g shape old mid def told same (Ok block) free = λ owners forests st.
    is_free_extent (slice_index_or (spots_of g shape old def owners forests) block OtherBlock)
    (subst (λ (pages : PageList). slice_index_or (table_spots shape pages def owners forests.map) block OtherBlock ≡ FreeExtent) same (free owners forests (stands_same shape old mid def owners forests told same st)))
new_block_free g shape old mid def told same (Err fault) free = tt
