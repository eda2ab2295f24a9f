-- A table page: the definition of a table as bytes (docs/FORMAT.md, "Table pages"). All numbers are written with the highest
-- byte first.
use Rattle.std.specs.Prelude.{◌≡◌, ℕ, ◌-◌, Bool, if◌then◌else◌, List, [], ◌∷◌, ◌++◌, length, flat_map, replicate, Option, Some, None}
use Rattle.std.specs.Int.{cast_unsigned, w64}
use Rattle.byteorder.specs.Endian.{big_bytes}
use Rattle.mdc_values.specs.Order.{padded}
use Rattle.mdc_values.specs.declared.value.ColType.{ColType}
use Rattle.mdc_values.specs.declared.value.ColType.TheVariants as column
use Rattle.mdc_ast.specs.declared.definition.ColumnDef.{ColumnDef}
use Rattle.mdc_ast.specs.declared.definition.GenExpr.{GenExpr}
use Rattle.mdc_ast.specs.declared.definition.GenKind.{GenKind}
use Rattle.mdc_ast.specs.declared.definition.GenKind.TheVariants.{IntegerOver, Year, Month, Over, Plus}
use Rattle.mdc_ast.specs.declared.definition.IndexDef.{IndexDef}
use Rattle.mdc_ast.specs.declared.definition.KeyPart.{KeyPart}
use Rattle.mdc_ast.specs.declared.definition.TableDef.{TableDef}
use Rattle.mdc_ast.specs.declared.name.Name.{Name}
use Rattle.node_page.specs.Node.{filled_page}
use Rattle.mdc_ast.specs.TableLimits.{IsTableDef}

-- these bytes and then zeros, n in all
abbrev pub zero_filled : ℕ → List ℕ → List ℕ
zero_filled n bytes = bytes ++ replicate (n - length bytes) 0

-- these parts, one behind the other
abbrev pub in_a_row : List (List ℕ) → List ℕ
in_a_row parts = flat_map (λ part. part) parts

-- the number of a type
abbrev pub type_code : ColType → ℕ
type_code column.Integer = 1
type_code column.Bigint = 2
type_code (column.Char n) = 3
type_code column.Date = 4

-- the length of a CHAR
abbrev pub char_length : ColType → ℕ
char_length (column.Char n) = n
char_length ty = 0

-- the number of a kind of expression
abbrev pub kind_code : GenKind → ℕ
kind_code IntegerOver = 1
kind_code Year = 2
kind_code Month = 3
kind_code Over = 4
kind_code Plus = 5

-- an expression in 10 bytes: the kind, the base and k
abbrev pub printed_expression : GenExpr → List ℕ
printed_expression e = kind_code e.kind ∷ e.base ∷ big_bytes 8 (cast_unsigned w64 e.k)

-- what a column is made from, or zeros
abbrev pub printed_made : Option GenExpr → List ℕ
printed_made None = replicate 10 0
printed_made (Some e) = printed_expression e

-- 1 for what is so, and else 0
abbrev pub printed_flag : Bool → ℕ
printed_flag flag = if flag then 1 else 0

-- a name of 18 bytes, with blanks behind it
abbrev pub printed_name : Name → List ℕ
printed_name name = padded 18 name.0

-- the parts of a column: name, type, length, whether it is not null, and what it is made from
abbrev pub column_parts : ColumnDef → List (List ℕ)
column_parts column =
    printed_name column.name ∷ (type_code column.ty ∷ char_length column.ty ∷ printed_flag column.not_null ∷ []) ∷ printed_made column.made ∷ []

-- a column in 31 bytes: its parts one behind the other
abbrev pub printed_column : ColumnDef → List ℕ
printed_column column = in_a_row (column_parts column)

-- a dimension in 17 bytes: how many columns, and their places
abbrev pub printed_dimension : List ℕ → List ℕ
printed_dimension dim = zero_filled 17 (length dim ∷ dim)

-- a part of a key in two bytes: its column, and whether it is descending
abbrev pub printed_part : KeyPart → List ℕ
printed_part part = part.column ∷ printed_flag part.descending ∷ []

-- the parts of a record index: name, whether it is unique, how many key parts, these in 32 bytes, and its root
abbrev pub index_parts : IndexDef → List (List ℕ)
index_parts index =
    printed_name index.name ∷ (printed_flag index.unique ∷ length index.parts ∷ [])
    ∷ zero_filled 32 (flat_map printed_part index.parts) ∷ big_bytes 4 index.root ∷ []

-- a record index in 56 bytes: its parts one behind the other
abbrev pub printed_index : IndexDef → List ℕ
printed_index index = in_a_row (index_parts index)

-- the parts before the roots of the dimensions: the mark, the name, the numbers of columns, dimensions and indexes, the next row
-- number, and the roots of the block map and the composite index
abbrev pub head_parts : TableDef → List (List ℕ)
head_parts def =
    (84 ∷ []) ∷ printed_name def.name ∷ (length def.columns ∷ length def.dims ∷ length def.indexes ∷ []) ∷ big_bytes 8 def.next
    ∷ big_bytes 4 def.roots.map ∷ big_bytes 4 def.roots.composite ∷ []

-- The parts of a table page: those above, the roots of four dimension indexes, 16 columns, 4 dimensions and 8 indexes. Those
-- that aren't there are zeros.
abbrev pub table_parts : TableDef → List (List ℕ)
table_parts def =
    head_parts def ++ zero_filled 16 (flat_map (big_bytes 4) def.roots.dims)
    ∷ zero_filled 496 (flat_map printed_column def.columns)
    ∷ zero_filled 68 (flat_map printed_dimension def.dims)
    ∷ zero_filled 448 (flat_map printed_index def.indexes) ∷ []

-- the page that a definition is written as
unfoldable pub table_page : TableDef → List ℕ
table_page def = filled_page (in_a_row (table_parts def))

-- the page is that of this definition of table t, which is within the limits
pub record IsTablePageOf (t : ℕ) (def : TableDef) (page : List ℕ) : Type 0 where
  pub limits : IsTableDef t def
  pub printed : page ≡ table_page def
