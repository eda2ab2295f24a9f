-- What one block is to its table: what the block map says of it, which rows lie in it, and under which cell it is listed.
use Rattle.std.specs.Prelude.{◌≡◌, ◌≢◌, ◌<◌, ℕ, List, [], Option, Some, Contains}
use Rattle.std.specs.List.{AllZip}
use Rattle.mdc_words.specs.ByteOrder.{Entry}
use Rattle.mdc_values.specs.declared.value.Value.{Value}
use Rattle.mdc_ast.specs.declared.definition.KeyPart.{KeyPart}
use Rattle.mdc_ast.specs.declared.definition.TableDef.{TableDef}
use Rattle.mdc_ast.specs.declared.row.Cell.{Cell}
use Rattle.mdc_ast.specs.declared.row.Row.{Row}
use Rattle.store_api.specs.declared.pages.Pages.{Ghosts}
use Rattle.store_api.specs.declared.shape.Shape.{Shape}
use Rattle.extent_map.specs.Owners.{owner_of}
use Rattle.extent_map.specs.declared.kind.Kind.{Kind}
use Rattle.extent_map.specs.declared.kind.Kind.TheVariants.{Block}
use Rattle.row_page.specs.RowPage.{count_rows}
use Rattle.entry_tree.specs.EntryBounds.{IsEntryOf}
use Rattle.entry_tree.specs.Forest.{Forest, leaf_entries}
use Rattle.block_map.specs.BlockMaps.{HasRow}
use Rattle.block_map.specs.Counting.{used_row}
use Rattle.block_map.specs.MapLines.{AreMapEntries, map_line}
use Rattle.block_map.specs.MapRows.{state_number}
use Rattle.block_map.specs.declared.row.BlockRow.{BlockRow}
use Rattle.block_map.specs.declared.state.BlockState.{BlockState}
use Rattle.block_map.specs.declared.state.BlockState.TheVariants as state
use Rattle.table_trees.specs.TableTrees.{block_entry, cell_parts, rising_parts}
use Rattle.table_trees.specs.RowCells.{AreOfOneCell, IsCellOf, cell_places}
use Rattle.block_index.specs.Cells.{HaveKeys}
use Rattle.mdc_ast.specs.FittingRows.{RowFits}
use Rattle.mdc_sound.specs.Placing.{Spot, spot_of_state}
use Rattle.mdc_sound.specs.StandingTable.{TableForests}
use Rattle.mdc_sound.specs.BlockRules.{block_in_entry}
use Rattle.block_rows.specs.HeldRows.{HoldsRows}

-- the extent is a block of the table
pub record IsOwnBlock (shape : Shape) (owners : List Kind) (def : TableDef) (block : ℕ) : Type 0 where
  pub within : block < shape.extents
  pub owned : owner_of owners block ≡ Block def.number

-- ---- the block map

-- the block map doesn't name the block
abbrev pub IsUnnamed : Forest → ℕ → Type 0
IsUnnamed map_tree block = (x : Entry) → IsEntryOf x (leaf_entries map_tree) → (map_line x).block ≢ block

-- what the block map says of a block in a state, without rows
abbrev pub released_line : BlockState → ℕ → BlockRow
released_line given block = record { block = block; state = given; rows = 0 }

-- what it says of a Free block
abbrev pub free_line : ℕ → BlockRow
free_line block = released_line state.Free block

-- a block map, whose entries are written as what they say, has the block as a Used one
pub record MapsUsed (block : ℕ) (map_tree : Forest) : Type 0 where
  pub entries : AreMapEntries map_tree
  pub rows : ℕ
  pub line : HasRow (used_row block rows) map_tree

-- ---- the block indexes

-- the index has the block under the cell of these values, and under no other
pub record IsListedIn (def : TableDef) (parts : List KeyPart) (values : List Value) (block : ℕ) (index : Forest) : Type 0 where
  pub has : IsEntryOf (block_entry def.columns parts values block) (leaf_entries index)
  pub only : (y : Entry) → IsEntryOf y (leaf_entries index) → block_in_entry def parts y ≡ block → y ≡ block_entry def.columns parts values block

-- no entry of the index names the block
abbrev pub IsUnlistedIn : TableDef → List KeyPart → ℕ → Forest → Type 0
IsUnlistedIn def parts block index = (y : Entry) → IsEntryOf y (leaf_entries index) → block_in_entry def parts y ≢ block

-- each block index has the block under the cell of these values
pub record IsListedInEach (def : TableDef) (forests : TableForests) (values : List Value) (block : ℕ) : Type 0 where
  pub composite : IsListedIn def (cell_parts def) values block forests.composite
  pub dims : AllZip (λ dim index. IsListedIn def (rising_parts dim) values block index) def.dims forests.dims

-- the cell of a row of these values, which have keys in the dimension columns
pub record IsKeyedCell (def : TableDef) (cell : Cell) (values : List Value) : Type 0 where
  pub cell_is : IsCellOf def cell values
  pub keys : HaveKeys def.columns (cell_places def) values

-- each block index has the block under this cell
pub record IsListedUnder (def : TableDef) (forests : TableForests) (cell : Cell) (block : ℕ) : Type 0 where
  pub values : List Value
  pub of_cell : IsKeyedCell def cell values
  pub listed : IsListedInEach def forests values block

-- none names it
pub record IsUnlisted (def : TableDef) (forests : TableForests) (block : ℕ) : Type 0 where
  pub composite : IsUnlistedIn def (cell_parts def) block forests.composite
  pub dims : AllZip (λ dim index. IsUnlistedIn def (rising_parts dim) block index) def.dims forests.dims

-- ---- the block as a whole

-- A block of the table in a state, without rows, and listed nowhere.
pub record IsReleasedNow (shape : Shape) (def : TableDef) (given : BlockState) (owners : List Kind) (forests : TableForests) (block : ℕ) : Type 0 where
  pub own : IsOwnBlock shape owners def block
  pub line : HasRow (released_line given block) forests.map
  pub unlisted : IsUnlisted def forests block

-- A Free block of the table.
abbrev pub IsFreeNow : Shape → TableDef → List Kind → TableForests → ℕ → Type 0
IsFreeNow shape def = IsReleasedNow shape def state.Free

-- what a block in a state is to the table, without rows
abbrev pub released_spot : BlockState → Spot
released_spot given = spot_of_state (state_number given) []

-- slots with a row at least, whose rows fit and are of the cell of these values
pub record AreOfCell (def : TableDef) (values : List Value) (slots : List (Option Row)) : Type 0 where
  pub some : 0 < count_rows slots
  pub fit : (row : Row) → Contains slots (Some row) → RowFits def row
  pub one_cell : (row : Row) → Contains slots (Some row) → AreOfOneCell def row.values values

-- A Used block of the table with these slots, listed under the cell of these values.
pub record IsUsedNow {S : Type 0} (g : Ghosts S) (shape : Shape) (s : S) (def : TableDef) (owners : List Kind) (forests : TableForests) (block : ℕ) (values : List Value) (slots : List (Option Row)) : Type 0 where
  pub own : IsOwnBlock shape owners def block
  pub line : HasRow (used_row block (count_rows slots)) forests.map
  pub rows : HoldsRows g shape s def block slots
  pub cell : AreOfCell def values slots
  pub listed : IsListedInEach def forests values block
