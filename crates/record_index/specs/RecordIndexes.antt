-- The record indexes of a table by their numbers, and what a row needs to have an entry in one.
use Rattle.std.specs.Prelude.{◌<◌, ℕ, IsTrue, List, [], length, map, slice_index_or}
use Rattle.std.specs.List.{AllByRecursion}
use Rattle.mdc_words.specs.ByteOrder.{Entry}
use Rattle.mdc_values.specs.declared.rid.Rid.{Rid}
use Rattle.mdc_values.specs.declared.value.Value.{Value}
use Rattle.mdc_ast.specs.Truth.{value_at}
use Rattle.mdc_ast.specs.declared.definition.ColumnDef.{ColumnDef}
use Rattle.mdc_ast.specs.declared.definition.KeyPart.{KeyPart}
use Rattle.mdc_ast.specs.declared.definition.TableDef.{TableDef}
use Rattle.key_codec.specs.Keys.{has_key, key_bytes, type_of_column}
use Rattle.table_trees.specs.TableTrees.{AreIndexParts, TreePlace, record_entry, record_places}

-- ---- an index by its number

-- the parts of the key of that record index
abbrev pub parts_of_record_index : TableDef → ℕ → List KeyPart
parts_of_record_index def index = slice_index_or (map (λ which. which.parts) def.indexes) index []

-- where the tree of that record index is
abbrev pub place_of_record_index : TableDef → ℕ → TreePlace
place_of_record_index def index = slice_index_or (record_places def) index (record { root = 0; width = 0 })

-- a definition may have its record indexes: each has a part, its columns are there, and its key is short
abbrev pub HasRecordIndexes : TableDef → Type 0
HasRecordIndexes def = AllByRecursion (λ which. AreIndexParts def.columns which.parts) def.indexes

-- ---- rows in it

-- the values of a row are there in the columns of these parts, and have keys in them
abbrev pub HaveKeysIn : List ColumnDef → List KeyPart → List Value → Type 0
HaveKeysIn columns parts values =
    AllByRecursion (λ part. (part.column < length values) × IsTrue (has_key (type_of_column columns part.column) (value_at values part.column))) parts

-- the key of a row in that record index
abbrev pub key_in_record_index : TableDef → ℕ → List Value → List ℕ
key_in_record_index def index values = key_bytes def.columns (parts_of_record_index def index) values

-- the entry of a row in that record index
abbrev pub entry_in_record_index : TableDef → ℕ → List Value → Rid → Entry
entry_in_record_index def index values rid = record_entry def.columns (parts_of_record_index def index) values rid
