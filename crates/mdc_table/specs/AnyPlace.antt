-- What becomes of a row that is placed or taken out by any notes, which may be wrong.
use Rattle.std.specs.Prelude.{◌≡◌, ◌⊎◌, ℕ, List, Option, Some, None, slice_index_or, slice_set}
use Rattle.mdc_values.specs.declared.rid.Rid.{Rid}
use Rattle.mdc_ast.specs.declared.definition.TableDef.{TableDef}
use Rattle.mdc_ast.specs.declared.row.Row.{Row}
use Rattle.store_api.specs.declared.pages.Pages.{Ghosts}
use Rattle.store_api.specs.declared.shape.Shape.{Shape}
use Rattle.extent_map.specs.declared.kind.Kind.{Kind}
use Rattle.extent_map.specs.declared.space_notes.SpaceNotes.{SpaceNotes}
use Rattle.mdc_sound.specs.Placing.{HasRoomFor, IsEmptySlot, IsFreeBlock, IsFreeExtent, IsLowestAt, Spot, SpotsAfterClaims, SpotsAfterReturns, TakesRow, begun_with, block_slot_count}
use Rattle.mdc_sound.specs.Placing.Spot.{OtherBlock, UsedBlock}
use Rattle.mdc_sound.specs.StandingTable.{ChangesTable, TableForests, spots_of}

-- a Free block of the table, or an extent that is free
abbrev pub IsFreeSpot : Spot → Type 0
IsFreeSpot spot = IsFreeBlock spot ⊎ IsFreeExtent spot

-- The row is put into a Used block of its cell that has an empty slot, and there into the lowest one; or into a Free block of the
-- table, or an extent that is free, and there into the lowest slot. Blocks have n slots. It need not be the lowest such block.
pub data PutsAnywhere (def : TableDef) (n : ℕ) (old : List Spot) (row : Row) (new : List Spot) : Rid → Type 0 where
  in_cell : (block slot : ℕ) (slots : List (Option Row)) → slice_index_or old block OtherBlock ≡ UsedBlock slots → HasRoomFor def row (UsedBlock slots)
      → IsLowestAt IsEmptySlot slots slot None → new ≡ slice_set old block (UsedBlock (slice_set slots slot (Some row)))
      → PutsAnywhere def n old row new (record { block = block; slot = slot })
  in_free : (block : ℕ) → IsFreeSpot (slice_index_or old block OtherBlock)
      → new ≡ slice_set old block (begun_with n row) → PutsAnywhere def n old row new (record { block = block; slot = 0 })

-- A row was put into such a place, after which trees may have taken free extents. The table stands, and its record indexes have the
-- trees that they had.
pub record PlacesAnywhere {S : Type 0} (g : Ghosts S) (shape : Shape) (before noted : SpaceNotes) (old new : S) (def : TableDef) (owners : List Kind) (forests : TableForests) (row : Row) (rid : Rid) : Type 0 where
  pub owners_now : List Kind
  pub forests_now : TableForests
  pub changes : ChangesTable g shape before noted old new def owners forests owners_now forests_now
  pub records : forests_now.indexes ≡ forests.indexes
  pub mid : List Spot
  pub puts : PutsAnywhere def (block_slot_count shape def) (spots_of g shape old def owners forests) row mid rid
  pub claims : SpotsAfterClaims mid (spots_of g shape new def owners_now forests_now)

-- The row in a place was taken out, whatever the notes say, after which trees may have given extents back. The table stands, and its
-- record indexes have the trees that they had.
pub record TakesOutAnywhere {S : Type 0} (g : Ghosts S) (shape : Shape) (before noted : SpaceNotes) (old new : S) (def : TableDef)
    (owners : List Kind) (forests : TableForests) (row : Row) (rid : Rid) : Type 0 where
  pub owners_now : List Kind
  pub forests_now : TableForests
  pub changes : ChangesTable g shape before noted old new def owners forests owners_now forests_now
  pub records : forests_now.indexes ≡ forests.indexes
  pub mid : List Spot
  pub takes : TakesRow (spots_of g shape old def owners forests) rid row mid
  pub returns : SpotsAfterReturns mid (spots_of g shape new def owners_now forests_now)
