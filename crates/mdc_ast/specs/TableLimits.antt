-- The definitions that CREATE TABLE and CREATE INDEX can make, whatever roots of four bytes and whatever next row number of
-- eight bytes they have (docs/SQL.md).
use Rattle.std.specs.Prelude.{◌≡◌, ◌≤◌, ◌<◌, ℕ, ℤ, pos, int_le, Bool, true, false, not, ◌&&◌, nat_le, nat_lt, IsTrue, List, [], ◌∷◌, length, map, flat_map, Option, Some, None, is_none, slice_get}
use Rattle.std.specs.List.{AllByRecursion, list_all}
use Rattle.mdc_values.specs.Fitting.{in_bigint}
use Rattle.mdc_values.specs.declared.value.ColType.{ColType}
use Rattle.mdc_values.specs.declared.value.ColType.TheVariants as column
use Rattle.mdc_ast.specs.Classes.{is_name}
use Rattle.mdc_ast.specs.Tokens.{is_letter, is_lower, is_word_byte}
use Rattle.mdc_ast.specs.declared.definition.ColumnDef.{ColumnDef}
use Rattle.mdc_ast.specs.declared.definition.GenExpr.{GenExpr}
use Rattle.mdc_ast.specs.declared.definition.GenKind.{GenKind}
use Rattle.mdc_ast.specs.declared.definition.GenKind.TheVariants.{IntegerOver, Year, Month, Over, Plus}
use Rattle.mdc_ast.specs.declared.definition.IndexDef.{IndexDef}
use Rattle.mdc_ast.specs.declared.definition.Roots.{Roots}
use Rattle.mdc_ast.specs.declared.definition.TableDef.{TableDef}
use Rattle.mdc_ast.specs.declared.name.Name.{Name}
use Rattle.mdc_ast.specs.Definitions.{AllNamesDiffer, AllPlacesDiffer, are_there, column_names, column_types, is_good_type, is_short_key, row_width, places_of}
use Rattle.mdc_ast.specs.Kinds.{is_number}

-- ---- names

-- a word as a statement keeps it: a letter, and then letters, digits and `_`, in upper case
abbrev pub is_kept_word : List ℕ → Bool
is_kept_word [] = false
is_kept_word (b ∷ more) = is_letter b && list_all is_word_byte more && list_all (λ c. not (is_lower c)) (b ∷ more)

-- a name that may be given: a word that isn't reserved, of at most 18 characters
abbrev pub is_given_name : Name → Bool
is_given_name name = is_kept_word name.0 && is_name name.0 && nat_le (length name.0) 18

-- ---- columns

-- the type is DATE
abbrev pub is_day_type : ColType → Bool
is_day_type column.Date = true
is_day_type ty = false

-- the number of an expression that is written without one is kept as 0
abbrev pub is_no_number : ℤ → Bool
is_no_number k = int_le (pos 0) k && int_le k (pos 0)

-- `INTEGER(d)/k`, `YEAR(d)` and `MONTH(d)` have a DATE as base, and `c/k` and `c+k` a number; where k divides it is at least 1
abbrev pub accepts_base : GenKind → ColType → ℤ → Bool
accepts_base IntegerOver ty k = is_day_type ty && int_le (pos 1) k
accepts_base Year ty k = is_day_type ty && is_no_number k
accepts_base Month ty k = is_day_type ty && is_no_number k
accepts_base Over ty k = is_number ty && int_le (pos 1) k
accepts_base Plus ty k = is_number ty

-- the base is there, isn't generated itself, and is of a type that the expression accepts
abbrev pub is_base_of : GenExpr → Option ColumnDef → Bool
is_base_of e None = false
is_base_of e (Some base) = is_none base.made && accepts_base e.kind base.ty e.k

-- what a column is made from, if from something: then it is INTEGER or BIGINT itself
abbrev pub is_good_source : List ColumnDef → ColType → Option GenExpr → Bool
is_good_source columns ty None = true
is_good_source columns ty (Some e) = is_number ty && in_bigint e.k && is_base_of e (slice_get columns e.base)

-- a column of a table of these columns
abbrev pub is_good_column : List ColumnDef → ColumnDef → Bool
is_good_column columns column =
    is_given_name column.name && is_good_type column.ty && is_good_source columns column.ty column.made

-- ---- dimensions and indexes

-- a dimension has 1 to 16 columns, its columns are there, and its key is short
abbrev pub is_good_dimension : List ColumnDef → List ℕ → Bool
is_good_dimension columns dim = nat_lt 0 (length dim) && nat_le (length dim) 16 && are_there columns dim && is_short_key columns dim

-- a record index has 1 to 16 parts, its columns are there and differ, and its key is short
pub record IsGoodIndex (columns : List ColumnDef) (index : IndexDef) : Type 0 where
  pub name : IsTrue (is_given_name index.name)
  pub some_parts : 1 ≤ length index.parts
  pub few_parts : length index.parts ≤ 16
  pub there : IsTrue (are_there columns (places_of index.parts))
  pub apart : AllPlacesDiffer (places_of index.parts)
  pub short : IsTrue (is_short_key columns (places_of index.parts))
  pub root : index.root < 4294967296

-- a root of four bytes for the block map, the composite index and each of the dimensions
pub record AreRootsFor (dims : List (List ℕ)) (roots : Roots) : Type 0 where
  pub map : roots.map < 4294967296
  pub composite : roots.composite < 4294967296
  pub one_each : length roots.dims ≡ length dims
  pub dimensions : AllByRecursion (λ root. root < 4294967296) roots.dims

-- ---- tables

-- 1 to 16 columns, each of which may stand beside the others, in rows within their limit
pub record AreTableColumns (columns : List ColumnDef) : Type 0 where
  pub some : 1 ≤ length columns
  pub few : length columns ≤ 16
  pub good : IsTrue (list_all (is_good_column columns) columns)
  pub differ : AllNamesDiffer (column_names columns)
  pub narrow : row_width (column_types columns) ≤ 1000

-- 1 to 4 dimensions of columns that differ, whose key of all dimensions is short
pub record AreTableDims (columns : List ColumnDef) (dims : List (List ℕ)) : Type 0 where
  pub some : 1 ≤ length dims
  pub few : length dims ≤ 4
  pub good : IsTrue (list_all (is_good_dimension columns) dims)
  pub apart : AllPlacesDiffer (flat_map (λ dim. dim) dims)
  pub short : IsTrue (is_short_key columns (flat_map (λ dim. dim) dims))

-- at most 8 record indexes, of names that differ
pub record AreTableIndexes (columns : List ColumnDef) (indexes : List IndexDef) : Type 0 where
  pub few : length indexes ≤ 8
  pub good : AllByRecursion (IsGoodIndex columns) indexes
  pub differ : AllNamesDiffer (map (λ index. index.name) indexes)

-- a definition of the table in place t that statements can make
pub record IsTableDef (t : ℕ) (def : TableDef) : Type 0 where
  pub stands : def.number ≡ t
  pub name : IsTrue (is_given_name def.name)
  pub columns : AreTableColumns def.columns
  pub dims : AreTableDims def.columns def.dims
  pub indexes : AreTableIndexes def.columns def.indexes
  pub next : def.next < 18446744073709551616
  pub roots : AreRootsFor def.dims def.roots
