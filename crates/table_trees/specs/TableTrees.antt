-- The trees of a table: its block map, a block index for each dimension and one for all of them, and its record indexes.
use Rattle.std.specs.Prelude.{◌≡◌, ◌<◌, ℕ, ◌+◌, false, List, [], ◌∷◌, ◌++◌, length, map, flat_map, slice_index_or, zip}
use Rattle.std.specs.List.{AllByRecursion}
use Rattle.byteorder.specs.Endian.{big_bytes}
use Rattle.mdc_words.specs.ByteOrder.{Entry}
use Rattle.mdc_values.specs.declared.rid.Rid.{Rid}
use Rattle.mdc_values.specs.declared.value.Value.{Value}
use Rattle.mdc_ast.specs.declared.definition.ColumnDef.{ColumnDef}
use Rattle.mdc_ast.specs.declared.definition.IndexDef.{IndexDef}
use Rattle.mdc_ast.specs.declared.definition.KeyPart.{KeyPart}
use Rattle.mdc_ast.specs.declared.definition.TableDef.{TableDef}
use Rattle.store_api.specs.Format.{Format, first_format}
use Rattle.key_codec.specs.Keys.{ArePartsOf, key_bytes, width_of_parts}
use Rattle.entry_tree.specs.declared.tree.Tree.{Tree}

-- ---- keys and entries

-- the parts of a key of columns in these places, none descending
abbrev pub rising_parts : List ℕ → List KeyPart
rising_parts places = map (λ place. record { column = place; descending = false }) places

-- the parts of the key of a cell: all dimension columns, in the order of the dimensions
abbrev pub cell_parts : TableDef → List KeyPart
cell_parts def = rising_parts (flat_map (λ dim. dim) def.dims)

-- an entry of a block index: the key of a block's rows, and the block
abbrev pub block_entry : List ColumnDef → List KeyPart → List Value → ℕ → Entry
block_entry columns parts values block = key_bytes columns parts values ++ big_bytes 4 block

-- an entry of a record index: the key of a row, and where it lies
abbrev pub record_entry : List ColumnDef → List KeyPart → List Value → Rid → Entry
record_entry columns parts values rid = key_bytes columns parts values ++ big_bytes 4 rid.block ++ big_bytes 2 rid.slot

-- ---- where the trees are

-- where a tree is: its root page, and how many bytes its entries have
pub record TreePlace : Type 0 where
  pub root : ℕ
  pub width : ℕ

-- the block map in a format
abbrev pub map_place_in : Format → TableDef → TreePlace
map_place_in format def = record { root = def.roots.map; width = format.map_width }

-- the block map in the format of the file
abbrev pub map_place : TableDef → TreePlace
map_place def = map_place_in first_format def

-- the composite index, by all dimension columns
abbrev pub composite_place : TableDef → TreePlace
composite_place def = record { root = def.roots.composite; width = width_of_parts def.columns (cell_parts def) + 4 }

-- the index of a dimension, which has this root
abbrev pub dimension_place : TableDef → List ℕ → ℕ → TreePlace
dimension_place def dim root = record { root = root; width = width_of_parts def.columns (rising_parts dim) + 4 }

-- the places of the columns of a dimension, by its number
abbrev pub places_of_dimension : TableDef → ℕ → List ℕ
places_of_dimension def dim = slice_index_or def.dims dim []

-- the index of that dimension
abbrev pub place_of_dimension : TableDef → ℕ → TreePlace
place_of_dimension def dim = dimension_place def (places_of_dimension def dim) (slice_index_or def.roots.dims dim 0)

-- the indexes of all dimensions
abbrev pub dimension_places : TableDef → List TreePlace
dimension_places def = map (λ pair. dimension_place def pair.0 pair.1) (zip def.dims def.roots.dims)

-- a record index
abbrev pub record_place : TableDef → IndexDef → TreePlace
record_place def index = record { root = index.root; width = width_of_parts def.columns index.parts + 6 }

-- all record indexes
abbrev pub record_places : TableDef → List TreePlace
record_places def = map (record_place def) def.indexes

-- the block indexes: the composite one, and then those of the dimensions
abbrev pub block_index_places : TableDef → List TreePlace
block_index_places def = composite_place def ∷ dimension_places def

-- all trees of a table
abbrev pub tree_places : TableDef → List TreePlace
tree_places def = map_place def ∷ composite_place def ∷ dimension_places def ++ record_places def

-- where the tree of a handle is
abbrev pub place_of_tree : Tree → TreePlace
place_of_tree tree = record { root = tree.root; width = tree.width }

-- ---- definitions that have them

-- an index may be of these parts: there is one, their columns are there, and the key is short
pub record AreIndexParts (columns : List ColumnDef) (parts : List KeyPart) : Type 0 where
  pub some : 0 < length parts
  pub key : ArePartsOf columns parts

-- a definition may have block indexes: the columns of its dimensions are there, keys are short, and each dimension has a root
pub record HasBlockIndexes (def : TableDef) : Type 0 where
  pub composite : AreIndexParts def.columns (cell_parts def)
  pub dimensions : AllByRecursion (λ dim. AreIndexParts def.columns (rising_parts dim)) def.dims
  pub one_each : length def.roots.dims ≡ length def.dims
