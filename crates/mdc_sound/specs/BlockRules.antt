-- The rules on blocks and indexes: row pages, counts, cells, block indexes, record indexes and row numbers (docs/FORMAT.md,
-- "Rules").
use Rattle.std.specs.Prelude.{◌≡◌, ◌≢◌, ◌<◌, ◌⊎◌, ℕ, IsTrue, List, length, map, AllPairs, Contains}
use Rattle.std.specs.List.{AllByRecursion, AllZip}
use Rattle.mdc_words.specs.ByteOrder.{Entry}
use Rattle.mdc_ast.specs.declared.definition.ColumnDef.{ColumnDef}
use Rattle.mdc_ast.specs.declared.definition.IndexDef.{IndexDef}
use Rattle.mdc_ast.specs.declared.definition.KeyPart.{KeyPart}
use Rattle.mdc_ast.specs.declared.definition.TableDef.{TableDef}
use Rattle.mdc_ast.specs.ValidDatabase.{AreSameAtParts}
use Rattle.store_api.specs.declared.shape.Shape.{Shape}
use Rattle.key_codec.specs.Keys.{width_of_parts}
use Rattle.node_page.specs.Node.{number_within}
use Rattle.row_page.specs.RowPage.{IsRowPage, rows_of}
use Rattle.entry_tree.specs.Forest.{Forest, leaf_entries}
use Rattle.table_trees.specs.RowCells.{AreOfOneCell}
use Rattle.block_map.specs.MapLines.{MapLine, map_lines, pending_blocks, used_blocks}
use Rattle.mdc_ast.specs.FittingRows.{RowFits}
use Rattle.mdc_sound.specs.SpaceRules.{DatabaseView, EachTable}
use Rattle.mdc_sound.specs.BlockLines.{columns_of_line, mapped_line}
use Rattle.mdc_sound.specs.TableRows.{PlacedRow, block_page, rows_from_slot, rows_in_block, rows_in_table, rows_by_line, slots_by_columns}
use Rattle.table_trees.specs.TableTrees.{block_entry, cell_parts, record_entry, rising_parts}
use Rattle.table_trees.specs.ToldPages.{PageList}
use Rattle.mdc_sound.specs.TableViews.{TableView}

-- P holds of the line of each Used block of each table
abbrev pub EachUsedLine : DatabaseView → (TableDef → MapLine → Type 0) → Type 0
EachUsedLine view P = EachTable view (λ table. AllByRecursion (λ block. P table.def (mapped_line table.map block)) (used_blocks table.map))

-- ---- 7: the row pages

-- page j of a block is a row page of these columns
abbrev pub IsPageOfColumns : Shape → PageList → List ColumnDef → ℕ → ℕ → Type 0
IsPageOfColumns shape pages columns block j =
    IsRowPage columns (block_page shape pages block j) (rows_of columns (block_page shape pages block j))

-- page j of a block whose rows have all columns is a row page
abbrev pub IsBlockPageSound : Shape → PageList → TableDef → ℕ → ℕ → Type 0
IsBlockPageSound shape pages def block j = IsPageOfColumns shape pages def.columns block j

-- the pages of a Used block are row pages of these columns, and its rows fit the definition
pub record AreRowsSoundByColumns (shape : Shape) (pages : PageList) (def : TableDef) (columns : List ColumnDef) (block : ℕ) : Type 0 where
  pub forms : (j : ℕ) → j < shape.extent_pages → IsPageOfColumns shape pages columns block j
  pub rows : AllByRecursion (λ placed. RowFits def placed.row) (rows_from_slot block 0 (slots_by_columns shape pages columns block))

-- so are those of a Used block whose rows have all columns
abbrev pub AreBlockRowsSound : Shape → PageList → TableDef → ℕ → Type 0
AreBlockRowsSound shape pages def block = AreRowsSoundByColumns shape pages def def.columns block

-- and those of the block of a line
abbrev pub AreLineRowsSound : Shape → PageList → TableDef → MapLine → Type 0
AreLineRowsSound shape pages def line = AreRowsSoundByColumns shape pages def (columns_of_line def line) line.block

-- so is each Used block
abbrev pub AreRowPagesSound : Shape → PageList → DatabaseView → Type 0
AreRowPagesSound shape pages view = EachUsedLine view (AreLineRowsSound shape pages)

-- ---- 8: the counts

-- a Used block has a row at least, and as many as the block map says
pub record IsUsedCountSound (shape : Shape) (pages : PageList) (def : TableDef) (line : MapLine) : Type 0 where
  pub some_row : line.state ≡ 1 → 0 < line.rows
  pub counted : line.state ≡ 1 → line.rows ≡ length (rows_by_line shape pages def line)

-- a Free or Pending block has no row in the block map
abbrev pub IsIdleCountSound : MapLine → Type 0
IsIdleCountSound line = line.state ≢ 1 → line.rows ≡ 0

-- each Used block is counted so
abbrev pub AreUsedCountsSound : Shape → PageList → DatabaseView → Type 0
AreUsedCountsSound shape pages view = EachTable view (λ table. AllByRecursion (IsUsedCountSound shape pages table.def) (map_lines table.map))

-- and each other block so
abbrev pub AreIdleCountsSound : DatabaseView → Type 0
AreIdleCountsSound view = EachTable view (λ table. AllByRecursion IsIdleCountSound (map_lines table.map))

-- ---- 9: one cell for each block

-- all rows of a block are of one cell
abbrev pub IsOfOneCell : Shape → PageList → TableDef → ℕ → Type 0
IsOfOneCell shape pages def block = AllPairs (λ a b. AreOfOneCell def a.row.values b.row.values) (rows_in_block shape pages def block)

-- all rows of the block of a line are
abbrev pub IsLineOfOneCell : Shape → PageList → TableDef → MapLine → Type 0
IsLineOfOneCell shape pages def line = AllPairs (λ a b. AreOfOneCell def a.row.values b.row.values) (rows_by_line shape pages def line)

-- so is each Used block
abbrev pub AreCellsSound : Shape → PageList → DatabaseView → Type 0
AreCellsSound shape pages view = EachUsedLine view (IsLineOfOneCell shape pages)

-- ---- 10: the block indexes

-- the entry of a row's block in an index of these parts
abbrev pub entry_of_block : TableDef → List KeyPart → PlacedRow → Entry
entry_of_block def parts placed = block_entry def.columns parts placed.row.values placed.rid.block

-- the index has the block of each row under the row's values, and nothing else
pub record IsBlockIndexSound (def : TableDef) (rows : List PlacedRow) (parts : List KeyPart) (index : Forest) : Type 0 where
  pub has : AllByRecursion (λ placed. Contains (leaf_entries index) (entry_of_block def parts placed)) rows
  pub only : AllByRecursion (Contains (map (entry_of_block def parts) rows)) (leaf_entries index)

-- the composite index and the index of each dimension have exactly the Used blocks, under the values of their cells
pub record AreTableBlockIndexesSound (shape : Shape) (pages : PageList) (table : TableView) : Type 0 where
  pub composite : IsBlockIndexSound table.def (rows_in_table shape pages table.def table.map) (cell_parts table.def) table.composite
  pub dims : AllZip (λ dim index. IsBlockIndexSound table.def (rows_in_table shape pages table.def table.map) (rising_parts dim) index) table.def.dims table.dims

-- so has each table
abbrev pub AreBlockIndexesSound : Shape → PageList → DatabaseView → Type 0
AreBlockIndexesSound shape pages view = EachTable view (AreTableBlockIndexesSound shape pages)

-- ---- 11: the record indexes

-- the entry of a row in a record index
abbrev pub entry_of_row : TableDef → IndexDef → PlacedRow → Entry
entry_of_row def index placed = record_entry def.columns index.parts placed.row.values placed.rid

-- the block that an entry of an index with a key of these parts names: the number behind its key
abbrev pub block_in_entry : TableDef → List KeyPart → Entry → ℕ
block_in_entry def parts entry = number_within (width_of_parts def.columns parts) 4 entry

-- the index has the entry of each row, and any other entry names a Pending block
pub record IsSoundIndex (def : TableDef) (rows : List PlacedRow) (pending : List ℕ) (index : IndexDef) (tree : Forest) : Type 0 where
  pub has : AllByRecursion (λ placed. Contains (leaf_entries tree) (entry_of_row def index placed)) rows
  pub only : AllByRecursion (λ entry. Contains (map (entry_of_row def index) rows) entry ⊎ Contains pending (block_in_entry def index.parts entry)) (leaf_entries tree)

-- so is each record index of a table
abbrev pub AreTableIndexesSound : Shape → PageList → TableView → Type 0
AreTableIndexesSound shape pages table =
    AllZip (IsSoundIndex table.def (rows_in_table shape pages table.def table.map) (pending_blocks table.map)) table.def.indexes table.indexes

-- and of each table
abbrev pub AreSoundIndexes : Shape → PageList → DatabaseView → Type 0
AreSoundIndexes shape pages view = EachTable view (AreTableIndexesSound shape pages)

-- ---- 12: row numbers and unique keys

-- row numbers differ, and lie below the next one
pub record AreRowNumbersSound (def : TableDef) (rows : List PlacedRow) : Type 0 where
  pub below_next : AllByRecursion (λ placed. placed.row.number < def.next) rows
  pub differ : AllPairs (λ a b. a.row.number ≢ b.row.number) rows

-- so are those of each table
abbrev pub AreNumbersSound : Shape → PageList → DatabaseView → Type 0
AreNumbersSound shape pages view = EachTable view (λ table. AreRowNumbersSound table.def (rows_in_table shape pages table.def table.map))

-- in a UNIQUE index no two rows have equal keys, where a null equals a null
abbrev pub IsUniqueSound : List PlacedRow → IndexDef → Type 0
IsUniqueSound rows index =
    IsTrue index.unique → AllPairs (λ a b. AreSameAtParts index.parts a.row.values b.row.values → ⊥) rows

-- so is each of a table
abbrev pub AreTableKeysSound : Shape → PageList → TableView → Type 0
AreTableKeysSound shape pages table = AllByRecursion (IsUniqueSound (rows_in_table shape pages table.def table.map)) table.def.indexes

-- and each of each table
abbrev pub AreUniqueKeysSound : Shape → PageList → DatabaseView → Type 0
AreUniqueKeysSound shape pages view = EachTable view (AreTableKeysSound shape pages)

-- and each of each table but one
abbrev pub AreOtherKeysSound : Shape → PageList → DatabaseView → ℕ → Type 0
AreOtherKeysSound shape pages view t = EachTable view (λ table. table.def.number ≢ t → AreTableKeysSound shape pages table)
