-- The definitions of a database's tables: 16 places, each empty or with a definition (docs/SQL.md, "Meaning").
use Rattle.std.specs.Prelude.{map, ◌≡◌, ◌≤◌, ℕ, ◌+◌, List, [], ◌∷◌, ◌++◌, length, flat_map, ◌==◌, Bool, true, false, Option, Some, None, is_none, option_and_then, option_map, slice_get, slice_set, remove, replicate, nat_lt, nat_le, ◌&&◌}
use Rattle.std.specs.List.{position_from, list_all, list_any}
use Rattle.std.specs.Option.{option_or}
use Rattle.std.specs.Str.{bytes_eq}
use Rattle.mdc_values.specs.declared.value.ColType.{ColType}
use Rattle.mdc_values.specs.declared.value.ColType.TheVariants as column
use Rattle.mdc_ast.specs.declared.definition.ColumnDef.{ColumnDef}
use Rattle.mdc_ast.specs.declared.definition.IndexDef.{IndexDef}
use Rattle.mdc_ast.specs.declared.definition.KeyPart.{KeyPart}
use Rattle.mdc_ast.specs.declared.definition.TableDef.{TableDef}
use Rattle.mdc_ast.specs.declared.name.Name.{Name}

-- places, each empty or with the definition of a table
abbrev pub Definitions : Type 0
Definitions = List (Option TableDef)

-- 16 empty places
abbrev pub no_tables : Definitions
no_tables = replicate 16 None

-- ---- looking up

-- two names have the same bytes; words are in upper case
abbrev pub is_same : Name → Name → Bool
is_same a b = bytes_eq a.0 b.0

-- the place has a table of that name
abbrev pub is_defined : Name → Option TableDef → Bool
is_defined name None = false
is_defined name (Some def) = is_same def.name name

-- the place of the table of that name
abbrev pub place_of : Definitions → Name → Option ℕ
place_of defs name = position_from (is_defined name) 0 defs

-- the definition at a place
abbrev pub def_at : Definitions → ℕ → Option TableDef
def_at defs place = option_and_then (λ def. def) (slice_get defs place)

-- the definition of that name
abbrev pub def_named : Definitions → Name → Option TableDef
def_named defs name = option_and_then (def_at defs) (place_of defs name)

-- the lowest empty place
abbrev pub empty_place : Definitions → Option ℕ
empty_place defs = position_from is_none 0 defs

-- the place of the column of that name
abbrev pub column_place : List ColumnDef → Name → Option ℕ
column_place columns name = position_from (λ column. is_same column.name name) 0 columns

-- the column of that name, if there is one
abbrev pub column_named : List ColumnDef → Name → Option ColumnDef
column_named columns name = option_and_then (slice_get columns) (column_place columns name)

-- ---- looking up record indexes

-- the place of the record index of that name among those of a table
abbrev pub index_in : Name → Option TableDef → Option ℕ
index_in name None = None
index_in name (Some def) = position_from (λ index. is_same index.name name) 0 def.indexes

-- the record index of that name in the tables from a place on: the place of its table, and its place among that table's
abbrev pub index_place_from : ℕ → Definitions → Name → Option (ℕ × ℕ)
index_place_from table [] name = None
index_place_from table (def ∷ defs) name = option_or (option_map (λ index. (table, index)) (index_in name def)) (index_place_from (table + 1) defs name)

-- the record index of that name, whose name no other has: the place of its table, and its place among that table's
abbrev pub index_place_of : Definitions → Name → Option (ℕ × ℕ)
index_place_of defs name = index_place_from 0 defs name

-- ---- changing

-- a definition with one record index more, behind its others
abbrev pub with_index : TableDef → IndexDef → TableDef
with_index def index = record def { indexes = def.indexes ++ index ∷ [] }

-- a definition without the record index in a place; those behind it move up
abbrev pub without_index : TableDef → ℕ → TableDef
without_index def place = record def { indexes = remove def.indexes place }

-- a definition in a place, under the number of that place
abbrev pub with_def : Definitions → ℕ → TableDef → Definitions
with_def defs place def = slice_set defs place (Some (record def { number = place }))

-- a place emptied
abbrev pub without_def : Definitions → ℕ → Definitions
without_def defs place = slice_set defs place None

-- ---- sizes

-- the bytes that a value of a column takes in a row
abbrev pub width : ColType → ℕ
width column.Integer = 4
width column.Bigint = 8
width (column.Char n) = n
width column.Date = 4

-- a row has its number and two bytes of null bits besides
abbrev pub row_width : List ColType → ℕ
row_width [] = 10
row_width (ty ∷ types) = width ty + row_width types

-- a key has a byte for null before each part
abbrev pub key_width : List ColType → ℕ
key_width [] = 0
key_width (ty ∷ types) = 1 + width ty + key_width types

-- ---- what holds of every definition that statements make

-- a name has at most 18 characters
abbrev pub IsShort : Name → Type 0
IsShort name = length name.0 ≤ 18

-- a name is one of these
abbrev pub is_among : Name → List Name → Bool
is_among name names = list_any (is_same name) names

-- no name stands twice
abbrev pub AllNamesDiffer : List Name → Type 0
AllNamesDiffer [] = Unit {0}
AllNamesDiffer (name ∷ names) = (is_among name names ≡ false) × AllNamesDiffer names

-- the names of columns in table order
abbrev pub column_names : List ColumnDef → List Name
column_names [] = []
column_names (column ∷ columns) = column.name ∷ column_names columns

-- the types of columns in table order
abbrev pub column_types : List ColumnDef → List ColType
column_types [] = []
column_types (column ∷ columns) = column.ty ∷ column_types columns

-- CHAR(n) has n from 1 to 254
abbrev pub is_good_type : ColType → Bool
is_good_type (column.Char n) = nat_le 1 n && nat_le n 254
is_good_type ty = true

-- each column that a dimension names is there
abbrev pub are_there : List ColumnDef → List ℕ → Bool
are_there columns places = list_all (λ place. nat_lt place (length columns)) places

-- the places of the parts' columns
abbrev pub places_of : List KeyPart → List ℕ
places_of parts = map (λ part. part.column) parts

-- no number stands twice
abbrev pub AllPlacesDiffer : List ℕ → Type 0
AllPlacesDiffer [] = Unit {0}
AllPlacesDiffer (place ∷ places) = (list_any (λ other. other == place) places ≡ false) × AllPlacesDiffer places

-- the types of the columns in these places, of those that are there
abbrev pub types_at : List ColumnDef → List ℕ → List ColType
types_at columns places = flat_map (λ place. type_in (slice_get columns place)) places
  where
    type_in : Option ColumnDef → List ColType
    type_in None = []
    type_in (Some column) = column.ty ∷ []

-- a key of the columns in these places is within its limit
abbrev pub is_short_key : List ColumnDef → List ℕ → Bool
is_short_key columns places = nat_le (key_width (types_at columns places)) 128
