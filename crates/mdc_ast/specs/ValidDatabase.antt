-- What holds of every plain database: its definitions are ones that statements can make, and its rows keep them (docs/SQL.md, "Meaning").
use Rattle.std.specs.Prelude.{◌≡◌, ◌≤◌, ◌<◌, ℕ, ◌+◌, List, [], ◌∷◌, AllPairs, length, map, flat_map, false, Option, Some, None, IsTrue}
use Rattle.std.specs.List.{list_all, list_any, AllByRecursion}
use Rattle.mdc_values.specs.declared.value.Value.{Value}
use Rattle.mdc_ast.specs.declared.definition.ColumnDef.{ColumnDef}
use Rattle.mdc_ast.specs.declared.definition.IndexDef.{IndexDef}
use Rattle.mdc_ast.specs.declared.definition.KeyPart.{KeyPart}
use Rattle.mdc_ast.specs.declared.definition.TableDef.{TableDef}
use Rattle.mdc_ast.specs.declared.name.Name.{Name}
use Rattle.mdc_ast.specs.declared.row.Row.{Row}
use Rattle.mdc_ast.specs.Database.{Database, PlainTable, defs_of}
use Rattle.mdc_ast.specs.Definitions.{AllNamesDiffer, AllPlacesDiffer, Definitions, IsShort, are_there, column_names, column_types, is_defined, is_good_type, is_short_key, places_of, row_width}
use Rattle.mdc_ast.specs.FittingRows.{RowFits}
use Rattle.mdc_ast.specs.TableLimits.{is_good_source}
use Rattle.mdc_ast.specs.Truth.{value_at}

-- ---- definitions

-- what statements keep of a record index of a table of these columns: its name is short, the columns of its parts are there and
-- differ, and its key is short; nothing is said of its root
pub record IsValidIndex (columns : List ColumnDef) (index : IndexDef) : Type 0 where
  pub short : IsShort index.name
  pub there : IsTrue (are_there columns (places_of index.parts))
  pub apart : AllPlacesDiffer (places_of index.parts)
  pub short_key : IsTrue (is_short_key columns (places_of index.parts))

-- what statements keep of the definition in a place: its number is that of the place, its names are short and its columns'
-- names differ, its types are good, its columns, dimensions, keys and indexes are within the limits, what it generates has a
-- base, and its next row number has eight bytes; nothing is said of its roots
pub record IsValidDef (place : ℕ) (def : TableDef) : Type 0 where
  pub stands : def.number ≡ place
  pub short : IsShort def.name
  pub few : length def.columns ≤ 16
  pub short_names : AllByRecursion (λ column. IsShort column.name) def.columns
  pub good_types : IsTrue (list_all (λ column. is_good_type column.ty) def.columns)
  pub names_differ : AllNamesDiffer (column_names def.columns)
  pub narrow : row_width (column_types def.columns) ≤ 1000
  pub few_dims : length def.dims ≤ 4
  pub dims_there : IsTrue (list_all (are_there def.columns) def.dims)
  pub dims_apart : AllPlacesDiffer (flat_map (λ dim. dim) def.dims)
  pub short_keys : IsTrue (list_all (is_short_key def.columns) def.dims)
  pub short_composite : IsTrue (is_short_key def.columns (flat_map (λ dim. dim) def.dims))
  pub sources : IsTrue (list_all (λ column. is_good_source def.columns column.ty column.made) def.columns)
  pub few_indexes : length def.indexes ≤ 8
  pub indexes : AllByRecursion (IsValidIndex def.columns) def.indexes
  pub few_rows : def.next < 18446744073709551616

-- a place is empty, or has a definition of its number within the limits
abbrev pub IsValidPlace : ℕ → Option TableDef → Type 0
IsValidPlace place None = Unit {0}
IsValidPlace place (Some def) = IsValidDef place def

-- the definitions from a place on are valid
abbrev pub AreValidFrom : ℕ → Definitions → Type 0
AreValidFrom place [] = Unit {0}
AreValidFrom place (def ∷ defs) = IsValidPlace place def × AreValidFrom (place + 1) defs

-- no two places have tables of one name
abbrev pub AllDefsDiffer : Definitions → Type 0
AllDefsDiffer [] = Unit {0}
AllDefsDiffer (None ∷ defs) = AllDefsDiffer defs
AllDefsDiffer (Some def ∷ defs) = (list_any (is_defined def.name) defs ≡ false) × AllDefsDiffer defs

-- the names of a place's record indexes
abbrev pub index_names : Option TableDef → List Name
index_names None = []
index_names (Some def) = map (λ index. index.name) def.indexes

-- 16 places, no name of a table or of an index twice, and each definition within the limits
pub record AreValidDefs (defs : Definitions) : Type 0 where
  pub places : length defs ≡ 16
  pub differ : AllDefsDiffer defs
  pub index_names_differ : AllNamesDiffer (flat_map index_names defs)
  pub each : AreValidFrom 0 defs

-- ---- rows

-- row numbers rise from n on, and stay below the next one
abbrev pub RiseFrom : ℕ → List Row → ℕ → Type 0
RiseFrom n [] next = n ≤ next
RiseFrom n (row ∷ rows) next = (n ≤ row.number) × RiseFrom (row.number + 1) rows next

-- two rows have the same value in the column of each part
abbrev pub AreSameAtParts : List KeyPart → List Value → List Value → Type 0
AreSameAtParts [] a b = Unit {0}
AreSameAtParts (part ∷ parts) a b = (value_at a part.column ≡ value_at b part.column) × AreSameAtParts parts a b

-- in a UNIQUE index no two rows have equal keys, where a null equals a null
abbrev pub IsUniqueIn : List Row → IndexDef → Type 0
IsUniqueIn rows index = IsTrue index.unique → AllPairs (λ a b. AreSameAtParts index.parts a.values b.values → ⊥) rows

-- the rows of a table rise, fit its definition, and have keys of their own in each UNIQUE index
pub record IsValidTable (table : PlainTable) : Type 0 where
  pub rising : RiseFrom 0 table.rows table.def.next
  pub fitting : AllByRecursion (RowFits table.def) table.rows
  pub unique : AllByRecursion (IsUniqueIn table.rows) table.def.indexes

-- so do those of a table that is there; an empty place has none
abbrev pub AreValidRows : Option PlainTable → Type 0
AreValidRows None = Unit {0}
AreValidRows (Some table) = IsValidTable table

-- the definitions are within the limits, and the rows of each table rise, fit it, and keep its UNIQUE indexes
pub record IsValid (db : Database) : Type 0 where
  pub defs : AreValidDefs (defs_of db)
  pub tables : AllByRecursion AreValidRows db
