-- The cells that the composite index lists, each with a block.
use Rattle.std.specs.Prelude.{◌≡◌, ◌<◌, ◌^◌, ◌++◌, ℕ, List, IsTrue}
use Rattle.std.specs.List.{AllZip}
use Rattle.mdc_words.specs.ByteOrder.{Entry}
use Rattle.mdc_values.specs.declared.value.Value.{Value}
use Rattle.mdc_ast.specs.declared.definition.ColumnDef.{ColumnDef}
use Rattle.mdc_ast.specs.declared.definition.TableDef.{TableDef}
use Rattle.mdc_ast.specs.Database.{is_of_type}
use Rattle.key_codec.specs.Keys.{type_of_column}
use Rattle.table_trees.specs.RowCells.{cell_places}
use Rattle.block_index.specs.Cells.{entry_under, key_of_values}
use Rattle.block_index.specs.declared.listed_cells.CellBlock.{CellBlock}

-- there is one value for each of these places, of the type of the column there
abbrev pub AreOfTypes : List ColumnDef → List ℕ → List Value → Type 0
AreOfTypes columns places values = AllZip (λ place value. IsTrue (is_of_type (type_of_column columns place) value)) places values

-- an entry of the composite index lists a block under a cell, whose values are of their columns' types
pub record IsCellEntry (def : TableDef) (entry : Entry) (listed : CellBlock) : Type 0 where
  pub entry_is : entry ≡ entry_under (key_of_values def.columns (cell_places def) listed.cell.values) listed.block
  pub typed : AreOfTypes def.columns (cell_places def) listed.cell.values
  pub small : listed.block < 2 ^ 32

-- these are the cells that the entries list, one for each
abbrev pub AreCellEntries : TableDef → List Entry → List CellBlock → Type 0
AreCellEntries def entries all = AllZip (IsCellEntry def) entries all

-- ---- midway

-- an entry was read up to these places: the bytes are those of the values that are left, and of the block
pub record IsReadTo (columns : List ColumnDef) (places : List ℕ) (bytes : List ℕ) (values written : List Value) (block : ℕ) : Type 0 where
  pub left : List Value
  pub bytes_are : bytes ≡ entry_under (key_of_values columns places left) block
  pub typed : AreOfTypes columns places left
  pub whole : values ++ left ≡ written

-- an index was read up to these entries, which list the cells that are left
pub record IsListedTo (def : TableDef) (entries : List Entry) (found all : List CellBlock) : Type 0 where
  pub left : List CellBlock
  pub are : AreCellEntries def entries left
  pub whole : found ++ left ≡ all
