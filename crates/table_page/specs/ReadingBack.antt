-- What the parts of a table page are read as, whatever they hold. A definition is read back from its page; other pages are
-- read as something that isn't printed as that page, or is over a limit.
use Rattle.std.specs.Prelude.{ℕ, ◌*◌, ◌==◌, if◌then◌else◌, min, List, slice_index, Option, Some, None}
use Rattle.std.specs.Int.{cast_signed, w64}
use Rattle.byteorder.specs.Endian.{big_number}
use Rattle.mdc_words.specs.Listed.{listed}
use Rattle.mdc_values.specs.Value.{trimmed}
use Rattle.mdc_values.specs.declared.value.ColType.{ColType}
use Rattle.mdc_values.specs.declared.value.ColType.TheVariants as column
use Rattle.mdc_ast.specs.declared.definition.ColumnDef.{ColumnDef}
use Rattle.mdc_ast.specs.declared.definition.GenExpr.{GenExpr}
use Rattle.mdc_ast.specs.declared.definition.GenKind.{GenKind}
use Rattle.mdc_ast.specs.declared.definition.GenKind.TheVariants.{IntegerOver, Year, Month, Over, Plus}
use Rattle.mdc_ast.specs.declared.definition.IndexDef.{IndexDef}
use Rattle.mdc_ast.specs.declared.definition.KeyPart.{KeyPart}
use Rattle.mdc_ast.specs.declared.definition.Roots.{Roots}
use Rattle.mdc_ast.specs.declared.definition.TableDef.{TableDef}
use Rattle.mdc_ast.specs.declared.name.Name.{Name}
use Rattle.node_page.specs.Node.{bytes_in}

-- a name, without the blanks behind it
abbrev pub name_in_page : List ℕ → Name
name_in_page bytes = record { 0 = trimmed bytes }

-- the type of that number and length
abbrev pub type_in_page : ℕ → ℕ → ColType
type_in_page code len =
    if code == 1 then column.Integer else (if code == 2 then column.Bigint else (if code == 3 then column.Char len else column.Date))

-- the kind of expression of that number
abbrev pub kind_in_page : ℕ → GenKind
kind_in_page code =
    if code == 1 then IntegerOver else (if code == 2 then Year else (if code == 3 then Month else (if code == 4 then Over else Plus)))

-- an expression
abbrev pub expression_in_page : List ℕ → GenExpr
expression_in_page bytes = record {
  kind = kind_in_page (slice_index bytes 0);
  base = slice_index bytes 1;
  k = cast_signed w64 (big_number 8 (bytes_in 2 8 bytes));
}

-- what a column is made from
abbrev pub made_in_page : List ℕ → Option GenExpr
made_in_page bytes = if slice_index bytes 0 == 0 then None else Some (expression_in_page bytes)

-- a column of 31 bytes
unfoldable pub column_in_page : List ℕ → ColumnDef
column_in_page bytes = record {
  name = name_in_page (bytes_in 0 18 bytes);
  ty = type_in_page (slice_index bytes 18) (slice_index bytes 19);
  not_null = slice_index bytes 20 == 1;
  made = made_in_page (bytes_in 21 10 bytes);
}

-- entries of a width, as many as stated but no more than there may be
abbrev pub entries_in_page : {X : Type 0} → (List ℕ → X) → ℕ → ℕ → ℕ → List ℕ → List X
entries_in_page entry width most stated bytes = listed (min stated most) (λ i. entry (bytes_in (width * i) width bytes))

-- a dimension of 17 bytes
unfoldable pub dimension_in_page : List ℕ → List ℕ
dimension_in_page bytes = bytes_in 1 (min (slice_index bytes 0) 16) bytes

-- a part of a key of two bytes
abbrev pub part_in_page : List ℕ → KeyPart
part_in_page bytes = record { column = slice_index bytes 0; descending = slice_index bytes 1 == 1 }

-- an index of 56 bytes
unfoldable pub index_in_page : List ℕ → IndexDef
index_in_page bytes = record {
  name = name_in_page (bytes_in 0 18 bytes);
  unique = slice_index bytes 18 == 1;
  parts = entries_in_page part_in_page 2 16 (slice_index bytes 19) (bytes_in 20 32 bytes);
  root = big_number 4 (bytes_in 52 4 bytes);
}

-- the roots, of so many dimensions
abbrev pub roots_in_page : List ℕ → Roots
roots_in_page page = record {
  map = big_number 4 (bytes_in 30 4 page);
  composite = big_number 4 (bytes_in 34 4 page);
  dims = entries_in_page (big_number 4) 4 4 (slice_index page 20) (bytes_in 38 16 page);
}

-- the definition of table t
unfoldable pub definition_in_page : ℕ → List ℕ → TableDef
definition_in_page t page = record {
  number = t;
  name = name_in_page (bytes_in 1 18 page);
  columns = entries_in_page column_in_page 31 16 (slice_index page 19) (bytes_in 54 496 page);
  dims = entries_in_page dimension_in_page 17 4 (slice_index page 20) (bytes_in 550 68 page);
  indexes = entries_in_page index_in_page 56 8 (slice_index page 21) (bytes_in 618 448 page);
  next = big_number 8 (bytes_in 22 8 page);
  roots = roots_in_page page;
}
