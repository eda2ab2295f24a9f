-- Worked rows on the order of refusals: the whole list of what is said against a statement, of which the first is answered.
use Rattle.std.specs.Prelude.{◌≡◌, ℕ, pos, List, [], ◌∷◌, map, replicate, Bool, true, false, Some, None, codes, refl}
use Rattle.std.specs.Fmt.{digits}
use Prim.Native.String.{String}
use Rattle.mdc_values.specs.declared.literal.Literal.TheVariants as literal
use Rattle.mdc_values.specs.declared.value.ColType.{ColType}
use Rattle.mdc_values.specs.declared.value.ColType.TheVariants as column
use Rattle.mdc_values.specs.declared.value.Value.TheVariants.{Int, Text, Day}
use Rattle.mdc_ast.specs.declared.definition.ColumnDef.{ColumnDef}
use Rattle.mdc_ast.specs.declared.definition.IndexDef.{IndexDef}
use Rattle.mdc_ast.specs.declared.statement.ColumnText.{ColumnText}
use Rattle.mdc_ast.specs.declared.statement.Operand.{Operand}
use Rattle.mdc_ast.specs.declared.statement.Operand.TheVariants as operand
use Rattle.mdc_ast.specs.declared.statement.OutList.TheVariants.{Star}
use Rattle.mdc_ast.specs.declared.statement.SetItem.{SetItem}
use Rattle.mdc_ast.specs.declared.statement.SetItem.TheVariants.{One, Two}
use Rattle.mdc_ast.specs.declared.statement.SetText.{SetText}
use Rattle.mdc_ast.specs.declared.statement.Sign.TheVariants.{Plus, Minus, Times}
use Rattle.mdc_ast.specs.declared.statement.Stmt.{Stmt}
use Rattle.mdc_ast.specs.declared.statement.Stmt.TheVariants.{CreateIndex, CreateTable, Update}
use Rattle.mdc_ast.specs.declared.statement.TypeText.TheVariants.{Integer, Char, Date}
use Rattle.statement_meaning.specs.Cause.{ColumnTwice, DuplicateKey, IndexExists, Limit, NoColumn, NoDate, NullIn, NumbersUsedUp, OutOfRange, Overflow, TextTooLong, WrongCount, WrongType}
use Rattle.mdc_ast.specs.Database.{Database, PlainTable, empty_database}
use Rattle.statement_meaning.specs.Rows.{answers, column, into, named, null, number, part, query, t_of_numbers, text}
use Rattle.statement_meaning.specs.Step.{faults}

-- a column of a table, which isn't generated
abbrev defined : String → ColType → Bool → ColumnDef
defined s ty not_null = record { name = named s; ty = ty; not_null = not_null; made = None }

-- T (A INTEGER NOT NULL, B CHAR(2), D DATE, E BIGINT) with one row, and one row number left
abbrev t : PlainTable
t = record {
  def = record {
    number = 0;
    name = named "T";
    columns = defined "A" column.Integer true ∷ defined "B" (column.Char 2) false ∷ defined "D" column.Date false ∷ defined "E" column.Bigint false ∷ [];
    dims = (0 ∷ []) ∷ [];
    indexes = [];
    next = 18446744073709551614;
    roots = record { map = 0; composite = 0; dims = [] };
  };
  rows = record { number = 7; values = Int (pos 2147483647) ∷ Text (codes "x") ∷ Day 20030115 ∷ Int (pos 9223372036854775807) ∷ [] } ∷ [];
}

-- T in place 0, and no other table
abbrev db : Database
db = Some t ∷ replicate 15 None

-- what one column is set to
abbrev set : String → SetItem → SetText
set s item = record { column = named s; item = item }

-- a column as an operand
abbrev of_column : String → Operand
of_column s = operand.Column (named s)

-- a number without a sign as an operand
abbrev of_number : ℕ → Operand
of_number n = operand.Literal (literal.Number false n)

-- an UPDATE of T without a predicate
abbrev update : List SetText → Stmt
update sets = Update (named "T") sets None

-- types in the order of the text, and then values; a tuple of a wrong length says one thing; then nulls, and row numbers
insert_order : faults db (into ((number 2147483648 ∷ number 1 ∷ text "2003-02-29" ∷ null ∷ []) ∷ (number 1 ∷ []) ∷ []))
    ≡ WrongType (named "B") ∷ WrongCount ∷ OutOfRange (named "A") ∷ NoDate (named "D") ∷ NullIn (named "A") ∷ NumbersUsedUp 18446744073709551614 ∷ []
insert_order = refl

-- two rows need two numbers, and one is left
row_numbers : faults db (into ((number 1 ∷ text "x " ∷ null ∷ null ∷ []) ∷ (number 1 ∷ text "x " ∷ null ∷ null ∷ []) ∷ [])) ≡ NumbersUsedUp 18446744073709551614 ∷ []
row_numbers = refl

row_number_left : faults db (into ((number 1 ∷ text "x " ∷ null ∷ null ∷ []) ∷ [])) ≡ []
row_number_left = refl

-- a literal is judged before the row: 33 before 37
update_order : faults db (update (set "A" (Two (of_column "A") Plus (of_number 1)) ∷ set "B" (One (operand.Literal (literal.Text (codes "abc")))) ∷ []))
    ≡ TextTooLong (named "B") ∷ Overflow (named "A") ∷ []
update_order = refl

-- 22 and 23 before 30, and an operand's column behind the one set
update_columns : faults db (update (set "A" (One (of_column "B")) ∷ set "X" (One (of_column "Y")) ∷ set "A" (One (of_number 1)) ∷ []))
    ≡ NoColumn (named "X") ∷ NoColumn (named "Y") ∷ ColumnTwice (named "A") ∷ WrongType (named "A") ∷ []
update_columns = refl

-- a number of one of two operands lies in 64 bits, and so does what is computed; an INTEGER takes no larger copy
update_numbers : faults db (update (set "E" (Two (of_number 9223372036854775808) Minus (of_column "E")) ∷ []))
    ≡ OutOfRange (named "E") ∷ []
update_numbers = refl

update_overflow : faults db (update (set "E" (Two (of_column "E") Times (of_number 2)) ∷ set "A" (One (of_column "E")) ∷ []))
    ≡ Overflow (named "E") ∷ Overflow (named "A") ∷ []
update_overflow = refl

-- a null operand gives null, which column A doesn't take
update_null : faults db (update (set "A" (Two (of_column "A") Plus (operand.Literal literal.Null)) ∷ [])) ≡ NullIn (named "A") ∷ []
update_null = refl

-- each column is set from the row as it was
swapped : answers (t_of_numbers ∷ into ((number 1 ∷ number 10 ∷ []) ∷ []) ∷ update (set "A" (One (of_column "B")) ∷ set "B" (One (of_column "A")) ∷ []) ∷ query Star None ∷ [])
    ≡ codes "OK\n1 ROWS INSERTED\n1 ROWS UPDATED\nA|B\n10|1\n1 ROWS\n"
unfolding digits
swapped = refl

-- eighteen columns, of which only the name of the last has more than 18 characters
abbrev many : List ColumnText
many = map (λ s. column s Integer false) ("A" ∷ "B" ∷ "C" ∷ "D" ∷ "E" ∷ "F" ∷ "G" ∷ "H" ∷ "I" ∷ "J" ∷ "K" ∷ "L" ∷ "M" ∷ "N" ∷ "O" ∷ "P" ∷ "SEVENTEENTHOFTHEMS" ∷ "EIGHTEENTHOFTHEMALL" ∷ [])

-- more columns than 16 are refused before the name of the last of them, and that before the fifth dimension
too_many : faults empty_database (CreateTable (named "T") many ((named "A" ∷ []) ∷ (named "B" ∷ []) ∷ (named "C" ∷ []) ∷ (named "D" ∷ []) ∷ (named "E" ∷ []) ∷ [])) ≡ Limit 16 ∷ Limit 18 ∷ Limit 4 ∷ []
too_many = refl

-- 23 and 22 before 26
create_order : faults empty_database (CreateTable (named "NAMEOFNINETEENCHARS") (column "A" Date false ∷ column "B" Integer false ∷ column "B" (Char 0) false ∷ []) ((named "B" ∷ []) ∷ (named "B" ∷ named "Y" ∷ []) ∷ []))
    ≡ ColumnTwice (named "B") ∷ ColumnTwice (named "B") ∷ NoColumn (named "Y") ∷ Limit 18 ∷ Limit 254 ∷ []
create_order = refl

-- a row of 1,001 bytes: its number and null bits take 10
too_wide : faults empty_database (CreateTable (named "T") (column "A" Integer false ∷ column "B" (Char 254) false ∷ column "C" (Char 254) false ∷ column "D" (Char 254) false ∷ column "E" (Char 225) false ∷ []) ((named "A" ∷ []) ∷ [])) ≡ Limit 1000 ∷ []
too_wide = refl

as_wide_as_may_be : faults empty_database (CreateTable (named "T") (column "A" Integer false ∷ column "B" (Char 254) false ∷ column "C" (Char 254) false ∷ column "D" (Char 254) false ∷ column "E" (Char 224) false ∷ []) ((named "A" ∷ []) ∷ [])) ≡ []
as_wide_as_may_be = refl

-- a key of 129 bytes: a byte for null stands before each part
too_wide_a_key : faults empty_database (CreateTable (named "T") (column "A" (Char 128) false ∷ []) ((named "A" ∷ []) ∷ [])) ≡ Limit 128 ∷ Limit 128 ∷ []
too_wide_a_key = refl

key_that_fits : faults empty_database (CreateTable (named "T") (column "A" (Char 127) false ∷ []) ((named "A" ∷ []) ∷ [])) ≡ []
key_that_fits = refl

-- ---- record indexes

-- a record index of these columns, by their places
abbrev index_of : String → Bool → List ℕ → IndexDef
index_of s unique places = record { name = named s; unique = unique; parts = map (λ place. record { column = place; descending = false }) places; root = 0 }

-- T with record indexes
abbrev with_indexes : List IndexDef → Database
with_indexes indexes = Some (record t { def = record t.def { indexes = indexes } }) ∷ replicate 15 None

-- nulls before keys, and keys before row numbers; each UNIQUE index in the order in which they were made
insert_keys : faults (with_indexes (index_of "V" false (1 ∷ []) ∷ index_of "U" true (2 ∷ 3 ∷ []) ∷ index_of "B" true (1 ∷ []) ∷ [])) (into ((null ∷ text "x" ∷ null ∷ null ∷ []) ∷ (number 1 ∷ text "y" ∷ null ∷ null ∷ []) ∷ []))
    ≡ NullIn (named "A") ∷ DuplicateKey (named "U") ∷ DuplicateKey (named "B") ∷ NumbersUsedUp 18446744073709551614 ∷ []
insert_keys = refl

-- 24 before 22 and 23, and each part in its place
index_columns : faults (with_indexes (index_of "U" true (0 ∷ []) ∷ [])) (CreateIndex (named "U") true (named "T") (part "A" false ∷ part "Y" false ∷ part "A" true ∷ []))
    ≡ IndexExists (named "U") ∷ NoColumn (named "Y") ∷ ColumnTwice (named "A") ∷ []
index_columns = refl

-- a table of one CHAR(127) and one CHAR(1), with so many record indexes
abbrev of_texts : ℕ → Database
of_texts n = Some (record {
  def = record t.def { columns = defined "A" (column.Char 127) false ∷ defined "B" (column.Char 1) false ∷ []; indexes = replicate n (index_of "I" false (1 ∷ [])) };
  rows = [];
}) ∷ replicate 15 None

-- a name of 19 characters, a ninth index and a key of 130 bytes, in this order
index_limits : faults (of_texts 8) (CreateIndex (named "NAMEOFNINETEENCHARS") false (named "T") (part "A" false ∷ part "B" false ∷ [])) ≡ Limit 18 ∷ Limit 8 ∷ Limit 128 ∷ []
index_limits = refl

index_that_fits : faults (of_texts 7) (CreateIndex (named "V") true (named "T") (part "A" true ∷ [])) ≡ []
index_that_fits = refl
