-- Which block of a cell has room for a row, of those from one on.
use Rattle.std.specs.Prelude.{◌≡◌, ◌≤◌, ◌<◌, ℕ, List, Option, Some, None, slice_index_or}
use Rattle.mdc_words.specs.ByteOrder.{Entry}
use Rattle.mdc_values.specs.declared.value.Value.{Value}
use Rattle.mdc_ast.specs.declared.definition.TableDef.{TableDef}
use Rattle.mdc_ast.specs.declared.row.Row.{Row}
use Rattle.key_codec.specs.Keys.{key_bytes}
use Rattle.entry_tree.specs.Forest.{Forest}
use Rattle.block_map.specs.BlockMaps.{HasRow}
use Rattle.block_map.specs.declared.row.BlockRow.{BlockRow}
use Rattle.block_map.specs.declared.state.BlockState.TheVariants as state
use Rattle.row_page.specs.RowPage.{count_rows}
use Rattle.table_trees.specs.TableTrees.{cell_parts}
use Rattle.mdc_sound.specs.Placing.{HasRoomFor, Spot}
use Rattle.mdc_sound.specs.Placing.Spot.{OtherBlock, UsedBlock}

-- the key of the cell of a row
abbrev pub cell_key_of : TableDef → List Value → Entry
cell_key_of def values = key_bytes def.columns (cell_parts def) values

-- the block that was found: the lowest Used block from a number on that is of the row's cell and has an empty slot, and its row
-- in the block map
pub record IsFirstRoom (def : TableDef) (spots : List Spot) (map_tree : Forest) (row : Row) (from : ℕ) (found : BlockRow) : Type 0 where
  pub reached : from ≤ found.block
  pub room : HasRoomFor def row (slice_index_or spots found.block OtherBlock)
  pub lowest : (block : ℕ) → from ≤ block → block < found.block → HasRoomFor def row (slice_index_or spots block OtherBlock) → ⊥
  pub mapped : HasRow found map_tree
  pub used : found.state ≡ state.Used
  pub counted : (slots : List (Option Row)) → slice_index_or spots found.block OtherBlock ≡ UsedBlock slots → found.rows ≡ count_rows slots

-- the same, or that there is none
abbrev pub FindsRoom : TableDef → List Spot → Forest → Row → ℕ → Option BlockRow → Type 0
FindsRoom def spots map_tree row from None = (block : ℕ) → from ≤ block → HasRoomFor def row (slice_index_or spots block OtherBlock) → ⊥
FindsRoom def spots map_tree row from (Some found) = IsFirstRoom def spots map_tree row from found
