-- A row as its bytes (docs/FORMAT.md, "Rows"). All numbers are written with the highest byte first.
use Rattle.std.specs.Prelude.{ℕ, zero, suc, ◌+◌, ◌-◌, ◌*◌, ◌/◌, ◌%◌, ◌^◌, ◌==◌, ◌≤◌, Bool, IsTrue, ◌≡◌, if◌then◌else◌, List, [], ◌∷◌, ◌++◌, length, take, drop, replicate}
use Rattle.std.specs.Int.{cast_signed, cast_unsigned, w32, w64}
use Rattle.byteorder.specs.Endian.{big_bytes, big_number}
use Rattle.mdc_values.specs.declared.value.ColType.{ColType}
use Rattle.mdc_values.specs.declared.value.ColType.TheVariants.{Integer, Bigint, Char, Date}
use Rattle.mdc_values.specs.declared.value.Value.{Value}
use Rattle.mdc_values.specs.declared.value.Value.TheVariants.{Null, Int, Text, Day}
use Rattle.mdc_values.specs.Value.{trimmed}
use Rattle.mdc_ast.specs.declared.definition.ColumnDef.{ColumnDef}
use Rattle.mdc_ast.specs.declared.row.Row.{Row}
use Rattle.mdc_ast.specs.Database.{is_null}
use Rattle.mdc_ast.specs.Definitions.{column_types, row_width, width}

-- The columns of a definition within the limits, or the first of them: at most 16, in rows of at most 1,000 bytes.
pub record AreRowColumns (columns : List ColumnDef) : Type 0 where
  pub few : length columns ≤ 16
  pub narrow : row_width (column_types columns) ≤ 1000

-- how many bytes the rows of these columns have
abbrev pub row_width_of : List ColumnDef → ℕ
row_width_of columns = row_width (column_types columns)

-- ---- writing

-- The bytes of a value in a column: a number in two's complement, a text with blanks up to the column's length, a day as
-- yyyymmdd, and zeros for a null.
unfoldable pub column_bytes : ColType → Value → List ℕ
column_bytes Integer (Int number) = big_bytes 4 (cast_unsigned w32 number)
column_bytes Bigint (Int number) = big_bytes 8 (cast_unsigned w64 number)
column_bytes (Char n) (Text text) = text ++ replicate (n - length text) 32
column_bytes Date (Day day) = big_bytes 4 day
column_bytes ty value = replicate (width ty) 0

-- the bytes of the values of a row, column by column
abbrev pub columns_bytes : List ColumnDef → List Value → List ℕ
columns_bytes [] values = []
columns_bytes (column ∷ columns) [] = []
columns_bytes (column ∷ columns) (value ∷ values) = column_bytes column.ty value ++ columns_bytes columns values

-- the null bits of values: bit i, which counts 2 ^ i, is set where the value of column i is null
abbrev pub null_bits : List Value → ℕ
null_bits [] = 0
null_bits (value ∷ values) = (if is_null value then 1 else 0) + 2 * null_bits values

-- the bytes of a row: its number, its null bits, and its values
unfoldable pub row_bytes : List ColumnDef → Row → List ℕ
row_bytes columns row = big_bytes 8 row.number ++ big_bytes 2 (null_bits row.values) ++ columns_bytes columns row.values

-- ---- reading

-- the value that the bytes of a column are, where it isn't null
unfoldable pub column_value : ColType → List ℕ → Value
column_value Integer bytes = Int (cast_signed w32 (big_number 4 bytes))
column_value Bigint bytes = Int (cast_signed w64 (big_number 8 bytes))
column_value (Char n) bytes = Text (trimmed bytes)
column_value Date bytes = Day (big_number 4 bytes)

-- the value that the bytes of a column are, or null
abbrev pub value_or_null : Bool → ColType → List ℕ → Value
value_or_null null ty bytes = if null then Null else column_value ty bytes

-- the values that null bits and the bytes behind them are
abbrev pub columns_values : List ColumnDef → ℕ → List ℕ → List Value
columns_values [] nulls bytes = []
columns_values (column ∷ columns) nulls bytes =
    value_or_null (nulls % 2 == 1) column.ty (take (width column.ty) bytes)
    ∷ columns_values columns (nulls / 2) (drop (width column.ty) bytes)

-- the null bits in the bytes of a row
abbrev pub nulls_in : List ℕ → ℕ
nulls_in bytes = big_number 2 (drop 8 bytes)

-- the row that bytes are
unfoldable pub row_in : List ColumnDef → List ℕ → Row
row_in columns bytes = record { number = big_number 8 bytes; values = columns_values columns (nulls_in bytes) (drop 10 bytes) }

-- the bytes of column i, of those that the columns have
abbrev pub bytes_of_column : List ColumnDef → ℕ → List ℕ → List ℕ
bytes_of_column [] i bytes = []
bytes_of_column (column ∷ columns) zero bytes = take (width column.ty) bytes
bytes_of_column (column ∷ columns) (suc i) bytes = bytes_of_column columns i (drop (width column.ty) bytes)

-- the bytes of column i in the bytes of a row
abbrev pub stored_bytes : List ColumnDef → ℕ → List ℕ → List ℕ
stored_bytes columns i bytes = bytes_of_column columns i (drop 10 bytes)

-- column i is null in the bytes of a row
abbrev pub is_stored_null : ℕ → List ℕ → Bool
is_stored_null i bytes = nulls_in bytes / 2 ^ i % 2 == 1

-- the bytes of nulls are zeros, and no null bit is set behind those of the columns
abbrev pub AreNullsBlank : List ColumnDef → ℕ → List ℕ → Type 0
AreNullsBlank [] nulls bytes = nulls ≡ 0
AreNullsBlank (column ∷ columns) nulls bytes =
    (IsTrue (nulls % 2 == 1) → take (width column.ty) bytes ≡ replicate (width column.ty) 0) × AreNullsBlank columns (nulls / 2) (drop (width column.ty) bytes)
