-- A table but for one block: all that the rules say of its other blocks, in the midst of a change of that one.
use Rattle.std.specs.Prelude.{◌≡◌, ◌≢◌, ◌<◌, ℕ, IsTrue, List, Contains}
use Rattle.std.specs.List.{AllZip}
use Rattle.mdc_words.specs.ByteOrder.{Entry}
use Rattle.mdc_ast.specs.declared.definition.KeyPart.{KeyPart}
use Rattle.mdc_ast.specs.declared.definition.TableDef.{TableDef}
use Rattle.store_api.specs.declared.pages.Pages.{Ghosts}
use Rattle.store_api.specs.declared.shape.Shape.{Shape}
use Rattle.extent_map.specs.Owners.{owner_of}
use Rattle.extent_map.specs.declared.kind.Kind.{Kind}
use Rattle.extent_map.specs.declared.kind.Kind.TheVariants.{Block}
use Rattle.key_codec.specs.Keys.{width_of_parts}
use Rattle.node_page.specs.Node.{number_within}
use Rattle.entry_tree.specs.EntryBounds.{IsEntryOf}
use Rattle.entry_tree.specs.Forest.{Forest, leaf_entries}
use Rattle.block_map.specs.BlockMaps.{IsMapForm}
use Rattle.block_map.specs.MapLines.{AreMapEntries, MapLine, map_line, mapped_blocks, used_blocks}
use Rattle.table_trees.specs.TableTrees.{cell_parts, rising_parts, tree_places}
use Rattle.table_trees.specs.TreesBeside.{StandTrees}
use Rattle.table_trees.specs.ToldPages.{PageList}
use Rattle.mdc_sound.specs.BlockRules.{AreBlockRowsSound, IsIdleCountSound, IsOfOneCell, IsUsedCountSound, entry_of_block, block_in_entry}
use Rattle.mdc_sound.specs.SpaceRules.{IsMapLineSound}
use Rattle.mdc_sound.specs.StandingTable.{TableForests, forests_in_order, pages_of}
use Rattle.mdc_sound.specs.TableRows.{PlacedRow, rows_in_block}

-- ---- the block map

-- what the rules say of one line of the block map: its block is one of the table, its rows are counted, and those of a Used
-- block fit and are of one cell
pub record IsLineSound (shape : Shape) (pages : PageList) (owners : List Kind) (def : TableDef) (line : MapLine) : Type 0 where
  pub mapped : IsMapLineSound shape owners def line
  pub used_count : IsUsedCountSound shape pages def line
  pub idle_count : IsIdleCountSound line
  pub rows : line.state ≡ 1 → AreBlockRowsSound shape pages def line.block
  pub cell : line.state ≡ 1 → IsOfOneCell shape pages def line.block

-- The block map has its form, names each block of the table but perhaps the one, and what it says of others is sound.
pub record IsMapAround (shape : Shape) (pages : PageList) (owners : List Kind) (def : TableDef) (map_tree : Forest) (block : ℕ) : Type 0 where
  pub entries : AreMapEntries map_tree
  pub form : IsMapForm map_tree
  pub others : (x : Entry) → IsEntryOf x (leaf_entries map_tree) → (map_line x).block ≢ block → IsLineSound shape pages owners def (map_line x)
  pub all_named : (e : ℕ) → e ≢ block → e < shape.extents → owner_of owners e ≡ Block def.number → Contains (mapped_blocks map_tree) e

-- ---- the block indexes

-- a row of another block that is Used
pub record IsOtherRow (shape : Shape) (pages : PageList) (def : TableDef) (map_tree : Forest) (block : ℕ) (placed : PlacedRow) : Type 0 where
  pub used : Contains (used_blocks map_tree) placed.rid.block
  pub other : placed.rid.block ≢ block
  pub there : Contains (rows_in_block shape pages def placed.rid.block) placed

-- the index has the blocks of these rows under their values, and nothing else of other blocks
pub record IsIndexAround (shape : Shape) (pages : PageList) (def : TableDef) (map_tree : Forest) (parts : List KeyPart) (block : ℕ) (index : Forest) : Type 0 where
  pub has : (placed : PlacedRow) → IsOtherRow shape pages def map_tree block placed → IsEntryOf (entry_of_block def parts placed) (leaf_entries index)
  pub only : (y : Entry) → IsEntryOf y (leaf_entries index) → block_in_entry def parts y ≢ block
      → (placed : PlacedRow) × IsOtherRow shape pages def map_tree block placed × (y ≡ entry_of_block def parts placed)

-- ---- the table

-- The store tells the table but for one block: its trees stand among the extents, and all is sound of its other blocks.
pub record StandsAround {S : Type 0} (g : Ghosts S) (shape : Shape) (s : S) (def : TableDef) (owners : List Kind) (forests : TableForests) (block : ℕ) : Type 0 where
  pub told : IsTrue (g.state s).is_told
  pub trees : StandTrees g shape s owners (tree_places def) (forests_in_order forests)
  pub map : IsMapAround shape (pages_of g s) owners def forests.map block
  pub composite : IsIndexAround shape (pages_of g s) def forests.map (cell_parts def) block forests.composite
  pub dims : AllZip (λ dim index. IsIndexAround shape (pages_of g s) def forests.map (rising_parts dim) block index) def.dims forests.dims
