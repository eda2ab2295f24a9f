-- Cells: the values of the dimension columns, and the entries of a block in the block indexes under them.
use Rattle.std.specs.Prelude.{◌≡◌, ◌<◌, ℕ, false, List, [], ◌∷◌, ◌++◌, length, drop, zip, IsTrue}
use Rattle.std.specs.List.{AllByRecursion}
use Rattle.mdc_words.specs.ByteOrder.{Entry}
use Rattle.mdc_values.specs.declared.value.Value.{Value}
use Rattle.mdc_ast.specs.Truth.{value_at}
use Rattle.mdc_ast.specs.declared.definition.ColumnDef.{ColumnDef}
use Rattle.mdc_ast.specs.declared.definition.TableDef.{TableDef}
use Rattle.key_codec.specs.Keys.{has_key, part_bytes, type_of_column}
use Rattle.table_trees.specs.RowCells.{cell_places}
use Rattle.table_trees.specs.TableTrees.{TreePlace, block_index_places}
use Rattle.block_index.specs.Numbered.{numbered}

-- the first values have keys in the columns in these places
abbrev pub FitPlaces : List ColumnDef → List ℕ → List Value → Type 0
FitPlaces columns [] values = Unit {0}
FitPlaces columns (place ∷ places) [] = ⊥
FitPlaces columns (place ∷ places) (value ∷ values) = IsTrue (has_key (type_of_column columns place) value) × FitPlaces columns places values

-- the values of a cell: one for each dimension column, with a key in it
pub record FitsCell (def : TableDef) (values : List Value) : Type 0 where
  pub each : FitPlaces def.columns (cell_places def) values
  pub many : length values ≡ length (cell_places def)

-- the values of a row are there in the columns in these places, and have keys in them
abbrev pub HaveKeys : List ColumnDef → List ℕ → List Value → Type 0
HaveKeys columns places values = AllByRecursion (λ place. (place < length values) × IsTrue (has_key (type_of_column columns place) (value_at values place))) places

-- the key of the first values, as those of columns in these places
abbrev pub key_of_values : List ColumnDef → List ℕ → List Value → List ℕ
key_of_values columns [] values = []
key_of_values columns (place ∷ places) [] = []
key_of_values columns (place ∷ places) (value ∷ values) = part_bytes (type_of_column columns place) false value ++ key_of_values columns places values

-- an entry of a block index: a key, and the block
abbrev pub entry_under : List ℕ → ℕ → Entry
entry_under key block = numbered 4 key block

-- the entries of a block in the indexes of some dimensions, whose values these are in order
abbrev pub dimension_entries : List ColumnDef → List (List ℕ) → List Value → ℕ → List Entry
dimension_entries columns [] values block = []
dimension_entries columns (dim ∷ dims) values block = entry_under (key_of_values columns dim values) block ∷ dimension_entries columns dims (drop (length dim) values) block

-- the entries of a block in the composite index and in those of the dimensions, under the values of its cell
abbrev pub cell_entries : TableDef → List Value → ℕ → List Entry
cell_entries def values block = entry_under (key_of_values def.columns (cell_places def) values) block ∷ dimension_entries def.columns def.dims values block

-- each of these entries with the index that it is of
abbrev pub index_listings : TableDef → List Value → ℕ → List (TreePlace × Entry)
index_listings def values block = zip (block_index_places def) (cell_entries def values block)
