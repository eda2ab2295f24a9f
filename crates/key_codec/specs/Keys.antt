-- Values as bytes of a key, so that the bytes go as SQL order goes (docs/FORMAT.md, "Keys").
use Rattle.std.specs.Prelude.{ℕ, ◌+◌, ◌-◌, ◌<◌, ℤ, pos, negsuc, Bool, true, false, ◌&&◌, nat_le, nat_lt, List, ◌∷◌, length, map, flat_map, replicate, slice_get, slice_index, Option, Some, None, IsTrue}
use Rattle.byteorder.specs.Endian.{big_bytes}
use Rattle.mdc_values.specs.declared.value.ColType.{ColType}
use Rattle.mdc_values.specs.declared.value.ColType.TheVariants as column
use Rattle.mdc_values.specs.declared.value.Value.{Value}
use Rattle.mdc_values.specs.declared.value.Value.TheVariants.{Null, Int, Text, Day}
use Rattle.mdc_values.specs.Fitting.{in_bigint, in_integer}
use Rattle.mdc_values.specs.Order.{padded}
use Rattle.mdc_values.specs.Value.{are_bytes}
use Rattle.mdc_ast.specs.declared.definition.ColumnDef.{ColumnDef}
use Rattle.mdc_ast.specs.declared.definition.KeyPart.{KeyPart}
use Rattle.mdc_ast.specs.Definitions.{are_there, is_short_key, key_width, places_of, types_at, width}
use Rattle.mdc_ast.specs.Truth.{value_at}

-- ---- one part

-- a signed number, moved up by half of the numbers that its type has: its sign bit is flipped
abbrev pub moved_up : ℕ → ℤ → ℕ
moved_up half (pos n) = half + n
moved_up half (negsuc n) = half - (n + 1)

-- the bytes of a value in a key; those of a null are zeros
abbrev pub sort_bytes : ColType → Value → List ℕ
sort_bytes column.Integer (Int n) = big_bytes 4 (moved_up 2147483648 n)
sort_bytes column.Bigint (Int n) = big_bytes 8 (moved_up 9223372036854775808 n)
sort_bytes (column.Char n) (Text text) = padded n text
sort_bytes column.Date (Day day) = big_bytes 4 day
sort_bytes ty value = replicate (width ty) 0

-- the byte before a value: whether it is a null
abbrev pub null_byte : Value → ℕ
null_byte Null = 1
null_byte value = 0

-- all bytes of a descending part are complemented
abbrev pub turned : Bool → List ℕ → List ℕ
turned true bytes = map (λ byte. 255 - byte) bytes
turned false bytes = bytes

-- a value as a part of a key
abbrev pub part_bytes : ColType → Bool → Value → List ℕ
part_bytes ty descending value = turned descending (null_byte value ∷ sort_bytes ty value)

-- how many bytes a part has: one that tells a null, and those of the value, which a null has too
abbrev pub part_width : ColType → ℕ
part_width ty = 1 + width ty

-- a value has a key in a column of that type: a number within it, a text of bytes that is no longer, a day of 32 bits, or a null
abbrev pub has_key : ColType → Value → Bool
has_key column.Integer (Int n) = in_integer n
has_key column.Bigint (Int n) = in_bigint n
has_key (column.Char n) (Text text) = nat_le (length text) n && are_bytes text
has_key column.Date (Day day) = nat_lt day 4294967296
has_key ty Null = true
has_key ty value = false

-- ---- all parts

-- the type of a column that is there, and else INTEGER, so that each place has a type
abbrev pub type_or_none : Option ColumnDef → ColType
type_or_none None = column.Integer
type_or_none (Some column) = column.ty

-- the type of the column in a place
abbrev pub type_of_column : List ColumnDef → ℕ → ColType
type_of_column columns place = type_or_none (slice_get columns place)

-- a row's value in the column of a part
abbrev pub bytes_at_part : List ColumnDef → List Value → KeyPart → List ℕ
bytes_at_part columns values part = part_bytes (type_of_column columns part.column) part.descending (value_at values part.column)

-- the key of a row: its parts in order
abbrev pub key_bytes : List ColumnDef → List KeyPart → List Value → List ℕ
key_bytes columns parts values = flat_map (bytes_at_part columns values) parts

-- how many bytes each key of these parts has
abbrev pub width_of_parts : List ColumnDef → List KeyPart → ℕ
width_of_parts columns parts = key_width (types_at columns (places_of parts))

-- the parts of a key of a definition within the limits: their columns are there, and the key is short
pub record ArePartsOf (columns : List ColumnDef) (parts : List KeyPart) : Type 0 where
  pub there : IsTrue (are_there columns (places_of parts))
  pub short : IsTrue (is_short_key columns (places_of parts))

-- numbers that are bytes
abbrev pub AreBytes : List ℕ → Type 0
AreBytes bytes = (k : ℕ) → slice_index bytes k < 256
