-- The plain database: 16 places, each empty or with a table of plain rows (docs/SQL.md, "Meaning").
use Rattle.std.specs.Prelude.{◌++◌, ℕ, zero, suc, ◌+◌, ◌/◌, ◌%◌, pos, List, [], ◌∷◌, length, map, Bool, true, false, not, ◌&&◌, nat_le, Option, None, option_map, option_and_then, slice_get, slice_set, replicate}
use Rattle.std.specs.Str.{bytes_eq}
use Rattle.mdc_values.specs.declared.value.ColType.{ColType}
use Rattle.mdc_values.specs.declared.value.ColType.TheVariants as column
use Rattle.mdc_values.specs.declared.value.Value.{Value}
use Rattle.mdc_values.specs.declared.value.Value.TheVariants.{Null, Int, Text, Day}
use Rattle.mdc_values.specs.Calendar.{is_date}
use Rattle.mdc_values.specs.Fitting.{in_bigint, in_integer}
use Rattle.mdc_values.specs.Value.{are_bytes, trimmed}
use Rattle.mdc_ast.specs.declared.definition.ColumnDef.{ColumnDef}
use Rattle.mdc_ast.specs.declared.definition.TableDef.{TableDef}
use Rattle.mdc_ast.specs.declared.row.Row.{Row}
use Rattle.mdc_ast.specs.Definitions.{Definitions}

-- a table: its definition, and its rows by rising row number
pub record PlainTable : Type 0 where
  pub def : TableDef
  pub rows : List Row

-- places, each empty or with a table
abbrev pub Database : Type 0
Database = List (Option PlainTable)

-- 16 empty places
abbrev pub empty_database : Database
empty_database = replicate 16 None

-- its definitions
abbrev pub defs_of : Database → Definitions
defs_of db = map (option_map (λ table. table.def)) db

-- the table at a place
abbrev pub table_at : Database → ℕ → Option PlainTable
table_at db place = option_and_then (λ table. table) (slice_get db place)

-- ---- changing

-- another table, or none, in a place
abbrev pub with_place : Database → ℕ → Option PlainTable → Database
with_place db place table = slice_set db place table

-- the table at a place changed
abbrev pub changed_at : Database → ℕ → (PlainTable → PlainTable) → Database
changed_at [] place change = []
changed_at (table ∷ db) zero change = option_map change table ∷ db
changed_at (table ∷ db) (suc place) change = table ∷ changed_at db place change

-- rows of these values, numbered from n on
abbrev pub numbered : ℕ → List (List Value) → List Row
numbered n [] = []
numbered n (values ∷ tuples) = record { number = n; values = values } ∷ numbered (n + 1) tuples

-- the table with rows of these values behind its own, and the next row number behind theirs
abbrev pub appended : List (List Value) → PlainTable → PlainTable
appended tuples table = record {
  def = record table.def { next = table.def.next + length tuples };
  rows = table.rows ++ numbered table.def.next tuples;
}

-- ---- what holds of every database that statements make

-- no blank ends a text
abbrev pub is_trimmed : List ℕ → Bool
is_trimmed text = bytes_eq (trimmed text) text

-- a number yyyymmdd names a date that the calendar has
abbrev pub is_day_number : ℕ → Bool
is_day_number day = is_date (pos (day / 10000)) (pos (day / 100 % 100)) (pos (day % 100))

-- a value is within the type of a column: a number within its range, a text of so many bytes with no blank at its end,
-- a day that the calendar has, or a null
abbrev pub is_of_type : ColType → Value → Bool
is_of_type column.Integer (Int n) = in_integer n
is_of_type column.Bigint (Int n) = in_bigint n
is_of_type (column.Char n) (Text text) = nat_le (length text) n && is_trimmed text && are_bytes text
is_of_type column.Date (Day day) = is_day_number day
is_of_type ty Null = true
is_of_type ty value = false

-- the value is a null, of whatever type its column is
abbrev pub is_null : Value → Bool
is_null Null = true
is_null value = false

-- a value fits a column: it is within the column's type, and no null where the column is NOT NULL
abbrev pub fits : ColumnDef → Value → Bool
fits column value = is_of_type column.ty value && not (column.not_null && is_null value)

-- one value for each column, each fitting it
abbrev pub fits_all : List ColumnDef → List Value → Bool
fits_all [] [] = true
fits_all (column ∷ columns) (value ∷ values) = fits column value && fits_all columns values
fits_all columns values = false
