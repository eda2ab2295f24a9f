-- Where a row goes, and what is left when it goes (docs/FORMAT.md, "Placing"). Pages don't occur here: what a table has is one
-- spot for each extent.
use Rattle.std.specs.Prelude.{◌≡◌, ◌<◌, ◌==◌, ◌+◌, ◌*◌, ℕ, Bool, IsTrue, if◌then◌else◌, List, [], ◌∷◌, ◌++◌, length, replicate, slice_index_or, slice_set, Option, Some, None, is_none, Contains}
use Rattle.std.specs.List.{AllZip, list_all}
use Rattle.mdc_words.specs.Listed.{listed}
use Rattle.mdc_values.specs.declared.rid.Rid.{Rid}
use Rattle.mdc_ast.specs.declared.definition.TableDef.{TableDef}
use Rattle.mdc_ast.specs.declared.row.Row.{Row}
use Rattle.mdc_ast.specs.declared.statement.RolloutMode.{RolloutMode}
use Rattle.mdc_ast.specs.declared.statement.RolloutMode.TheVariants.{Deferred}
use Rattle.store_api.specs.declared.shape.Shape.{Shape}
use Rattle.extent_map.specs.Owners.{owner_of}
use Rattle.extent_map.specs.declared.kind.Kind.{Kind}
use Rattle.extent_map.specs.declared.kind.Kind.TheVariants as kind
use Rattle.row_page.specs.RowPage.{slot_count}
use Rattle.entry_tree.specs.Forest.{Forest}
use Rattle.block_map.specs.MapLines.{MapLine}
use Rattle.table_trees.specs.RowCells.{AreOfOneCell}
use Rattle.table_trees.specs.ToldPages.{PageList}
use Rattle.mdc_sound.specs.BlockLines.{mapped_line}
use Rattle.mdc_sound.specs.TableRows.{PlacedRow, rows_from_slot, slots_by_line}

-- What an extent is to a table: one that is free, one that has pages of trees, a block of another table, or a block of this
-- one, which is Free, Pending or Used; a Used block has slots, each empty or with a row.
pub data Spot : Type 0 where
  FreeExtent : Spot
  IndexExtent : Spot
  OtherBlock : Spot
  FreeBlock : Spot
  PendingBlock : Spot
  UsedBlock : (slots : List (Option Row)) → Spot

-- ---- what trees do to spots

-- the same spot, but that trees may have taken a free extent
abbrev pub AfterClaims : Spot → Spot → Type 0
AfterClaims FreeExtent IndexExtent = Unit {0}
AfterClaims a b = a ≡ b

-- the same spot, but that trees may have given an extent back
abbrev pub AfterReturns : Spot → Spot → Type 0
AfterReturns IndexExtent FreeExtent = Unit {0}
AfterReturns a b = a ≡ b

-- each spot is the same, but that trees may have taken free extents
abbrev pub SpotsAfterClaims : List Spot → List Spot → Type 0
SpotsAfterClaims = AllZip AfterClaims

-- each spot is the same, but that trees may have given extents back
abbrev pub SpotsAfterReturns : List Spot → List Spot → Type 0
SpotsAfterReturns = AllZip AfterReturns

-- ---- the lowest that is so

-- P holds of the n-th of them, which is x, and of none before it
pub record IsLowestAt {X : Type 0} (P : X → Type 0) (xs : List X) (n : ℕ) (x : X) : Type 0 where
  pub within : n < length xs
  pub is_it : (d : X) → slice_index_or xs n d ≡ x
  pub holds : P x
  pub lowest : (k : ℕ) (d : X) → k < n → P (slice_index_or xs k d) → ⊥

-- P holds of none
abbrev pub HoldsNowhere : {X : Type 0} → (X → Type 0) → List X → Type 0
HoldsNowhere {X} P xs = (k : ℕ) (d : X) → k < length xs → P (slice_index_or xs k d) → ⊥

-- ---- a row is put

-- a Used block of the row's cell that has an empty slot
abbrev pub HasRoomFor : TableDef → Row → Spot → Type 0
HasRoomFor def row (UsedBlock slots) = ((other : Row) × Contains slots (Some other) × AreOfOneCell def other.values row.values) × Contains slots None
HasRoomFor def row spot = ⊥

-- a Free block of the table
abbrev pub IsFreeBlock : Spot → Type 0
IsFreeBlock FreeBlock = Unit {0}
IsFreeBlock spot = ⊥

-- an extent that is free
abbrev pub IsFreeExtent : Spot → Type 0
IsFreeExtent FreeExtent = Unit {0}
IsFreeExtent spot = ⊥

-- an empty slot
abbrev pub IsEmptySlot : Option Row → Type 0
IsEmptySlot None = Unit {0}
IsEmptySlot (Some row) = ⊥

-- a block of n slots that comes into use with one row, in its lowest slot
abbrev pub begun_with : ℕ → Row → Spot
begun_with n row = UsedBlock (slice_set (replicate n None) 0 (Some row))

-- The row is put into the lowest Used block of its cell that has an empty slot, else into the table's lowest Free block, else
-- into the lowest free extent, and there into the lowest empty slot. Blocks have n slots.
pub data PutsRow (def : TableDef) (n : ℕ) (old : List Spot) (row : Row) (new : List Spot) : Rid → Type 0 where
  in_cell : (block slot : ℕ) (slots : List (Option Row)) → IsLowestAt (HasRoomFor def row) old block (UsedBlock slots)
      → IsLowestAt IsEmptySlot slots slot None → new ≡ slice_set old block (UsedBlock (slice_set slots slot (Some row)))
      → PutsRow def n old row new (record { block = block; slot = slot })
  in_free_block : (block : ℕ) → HoldsNowhere (HasRoomFor def row) old → IsLowestAt IsFreeBlock old block FreeBlock
      → new ≡ slice_set old block (begun_with n row) → PutsRow def n old row new (record { block = block; slot = 0 })
  in_free_extent : (block : ℕ) → HoldsNowhere (HasRoomFor def row) old → HoldsNowhere IsFreeBlock old
      → IsLowestAt IsFreeExtent old block FreeExtent → new ≡ slice_set old block (begun_with n row)
      → PutsRow def n old row new (record { block = block; slot = 0 })

-- ---- a row is taken out, or changed

-- what a Used block is when a slot was emptied: Free, where no row is left
abbrev pub left_with : List (Option Row) → Spot
left_with slots = if list_all is_none slots then FreeBlock else UsedBlock slots

-- a row lies there, in a Used block of these slots
pub record IsRowAt (spots : List Spot) (rid : Rid) (row : Row) (slots : List (Option Row)) : Type 0 where
  pub within : rid.block < length spots
  pub block : (d : Spot) → slice_index_or spots rid.block d ≡ UsedBlock slots
  pub slot : slice_index_or slots rid.slot None ≡ Some row

-- the row that lies there is taken out: its slot is empty, and a block without rows is Free
pub record TakesRow (old : List Spot) (rid : Rid) (row : Row) (new : List Spot) : Type 0 where
  pub slots : List (Option Row)
  pub lies : IsRowAt old rid row slots
  pub is_left : new ≡ slice_set old rid.block (left_with (slice_set slots rid.slot None))

-- A row becomes another: it keeps its slot where it keeps its cell, and else it is taken out and then put. Trees may give an
-- extent back when the old row leaves, which the put may then take.
pub data ChangesRow (def : TableDef) (n : ℕ) (old : List Spot) (rid : Rid) (row other : Row) (new : List Spot) : Rid → Type 0 where
  stays : (slots : List (Option Row)) → AreOfOneCell def row.values other.values → IsRowAt old rid row slots
      → SpotsAfterReturns (slice_set old rid.block (UsedBlock (slice_set slots rid.slot (Some other)))) new → ChangesRow def n old rid row other new rid
  moves : (left free : List Spot) (to : Rid) → (AreOfOneCell def row.values other.values → ⊥) → TakesRow old rid row left
      → SpotsAfterReturns left free → PutsRow def n free other new to → ChangesRow def n old rid row other new to

-- ---- blocks as a whole

-- a Used block with a row that is chosen; where all rows of a block are of one cell and whole cells are chosen, all are
abbrev pub HasChosenRow : (Row → Bool) → Spot → Type 0
HasChosenRow chosen (UsedBlock slots) = (row : Row) × Contains slots (Some row) × IsTrue (chosen row)
HasChosenRow chosen spot = ⊥

-- what rollout makes of a spot: a chosen block becomes what is said, which is Free, or Pending where entries of record indexes
-- are left, and any other stays
pub data RollsOutSpot (chosen : Row → Bool) (rolled : Spot) : Spot → Spot → Type 0 where
  goes : {spot : Spot} → HasChosenRow chosen spot → RollsOutSpot chosen rolled spot rolled
  stays : {spot : Spot} → (HasChosenRow chosen spot → ⊥) → RollsOutSpot chosen rolled spot spot

-- what is left when the Free blocks of a table are given back, and no other
abbrev pub reclaimed_spot : Spot → Spot
reclaimed_spot FreeBlock = FreeExtent
reclaimed_spot spot = spot

-- and when all its blocks are
abbrev pub dropped_spot : Spot → Spot
dropped_spot IndexExtent = IndexExtent
dropped_spot OtherBlock = OtherBlock
dropped_spot spot = FreeExtent

-- ---- the spots that pages show

-- a block of the table in a state, with these slots
abbrev pub spot_of_state : ℕ → List (Option Row) → Spot
spot_of_state state slots =
    if state == 0 then FreeBlock else (if state == 1 then UsedBlock slots else (if state == 2 then PendingBlock else OtherBlock))

-- the block of a line
abbrev pub spot_of_line : Shape → PageList → TableDef → MapLine → Spot
spot_of_line shape pages def line = spot_of_state line.state (slots_by_line shape pages def line)

-- an extent of this kind
abbrev pub spot_of_kind : Shape → PageList → TableDef → Forest → ℕ → Kind → Spot
spot_of_kind shape pages def map_tree e kind.Free = FreeExtent
spot_of_kind shape pages def map_tree e (kind.Index used) = IndexExtent
spot_of_kind shape pages def map_tree e (kind.Block t) =
    if t == def.number then spot_of_line shape pages def (mapped_line map_tree e) else OtherBlock

-- what each extent is to the table, where these are the owners and its block map
abbrev pub table_spots : Shape → PageList → TableDef → List Kind → Forest → List Spot
table_spots shape pages def owners map_tree = listed shape.extents (λ e. spot_of_kind shape pages def map_tree e (owner_of owners e))

-- how many slots a block has
abbrev pub block_slot_count : Shape → TableDef → ℕ
block_slot_count shape def = shape.extent_pages * slot_count def.columns

-- ---- the rows of spots

-- the rows of a spot, by rising slot
abbrev pub rows_in_spot : ℕ → Spot → List PlacedRow
rows_in_spot block (UsedBlock slots) = rows_from_slot block 0 slots
rows_in_spot block spot = []

-- the rows of these spots, which are those of extents from one on
abbrev pub rows_from_spot : ℕ → List Spot → List PlacedRow
rows_from_spot block [] = []
rows_from_spot block (spot ∷ spots) = rows_in_spot block spot ++ rows_from_spot (block + 1) spots

-- the slots of a Used block; nothing else has any
abbrev pub slots_of_spot : Spot → List (Option Row)
slots_of_spot (UsedBlock slots) = slots
slots_of_spot spot = []

-- the row that lies in a place, if any
abbrev pub row_at_spot : List Spot → Rid → Option Row
row_at_spot spots rid = slice_index_or (slots_of_spot (slice_index_or spots rid.block OtherBlock)) rid.slot None

-- ---- blocks that are rolled out

-- blocks are rolled out: Pending where the mode is DEFERRED and the table has record indexes, and else Free
abbrev pub rolled_spot : RolloutMode → TableDef → Spot
rolled_spot Deferred def = if length def.indexes == 0 then FreeBlock else PendingBlock
rolled_spot mode def = FreeBlock

-- each chosen block is rolled out, and trees may have given extents back
pub record RollsOut (def : TableDef) (mode : RolloutMode) (chosen : Row → Bool) (old new : List Spot) : Type 0 where
  pub rolled : List Spot
  pub each : AllZip (RollsOutSpot chosen (rolled_spot mode def)) old rolled
  pub returned : SpotsAfterReturns rolled new
