-- What a bound statement does to the plain database, and what is said against it row by row.
use Rattle.std.specs.Prelude.{ℕ, ◌+◌, ℤ, ◌+ℤ◌, ◌-ℤ◌, ◌*ℤ◌, List, [], ◌∷◌, ◌++◌, map, flat_map, filter, length, Bool, false, not, ◌&&◌, nat_lt, if◌then◌else◌, Option, Some, None, slice_get, slice_set}
use Rattle.mdc_values.specs.declared.value.ColType.{ColType}
use Rattle.mdc_values.specs.declared.value.ColType.TheVariants as column
use Rattle.mdc_values.specs.declared.value.Value.{Value}
use Rattle.mdc_values.specs.declared.value.Value.TheVariants.{Null, Int, Text, Day}
use Rattle.mdc_values.specs.Fitting.{in_bigint, in_integer}
use Rattle.mdc_ast.specs.declared.bound.Bound.{Bound}
use Rattle.mdc_ast.specs.declared.bound.Bound.TheVariants as bound
use Rattle.mdc_ast.specs.declared.bound.BoundItem.{BoundItem}
use Rattle.mdc_ast.specs.declared.bound.BoundItem.TheVariants.{One, Two}
use Rattle.mdc_ast.specs.declared.bound.BoundOperand.{BoundOperand}
use Rattle.mdc_ast.specs.declared.bound.BoundOperand.TheVariants as operand
use Rattle.mdc_ast.specs.declared.bound.BoundSet.{BoundSet}
use Rattle.mdc_ast.specs.declared.definition.ColumnDef.{ColumnDef}
use Rattle.mdc_ast.specs.declared.definition.IndexDef.{IndexDef}
use Rattle.mdc_ast.specs.declared.definition.TableDef.{TableDef}
use Rattle.mdc_ast.specs.declared.predicate.Pred.{Pred}
use Rattle.mdc_ast.specs.declared.reply.Reply.{Reply}
use Rattle.mdc_ast.specs.declared.reply.Reply.TheVariants.{Done, Inserted, Updated, Deleted, Lines}
use Rattle.mdc_ast.specs.declared.row.Row.{Row}
use Rattle.mdc_ast.specs.declared.statement.Sign.{Sign}
use Rattle.mdc_ast.specs.declared.statement.Sign.TheVariants.{Plus, Minus, Times}
use Rattle.mdc_ast.specs.Truth.{qualifies, value_at}
use Rattle.statement_meaning.specs.Cause.{Cause, cause_if, DuplicateKey, Overflow, TextTooLong, NullIn, NumbersUsedUp}
use Rattle.mdc_ast.specs.Database.{appended, Database, PlainTable, defs_of, table_at, with_place, changed_at, is_null}
use Rattle.mdc_ast.specs.Definitions.{empty_place, with_index, without_index}
use Rattle.row_groups.specs.Numbers.{values_of}
use Rattle.row_groups.specs.Shape.{shape_of}
use Rattle.statement_meaning.specs.Judging.{of_some}
use Rattle.statement_meaning.specs.Keys.{have_twins}
use Rattle.statement_meaning.specs.Queries.{lines_of, sum_causes}

-- ---- rows as they will be

-- the exact sum, difference or product, whatever its size
abbrev pub computed_number : Sign → ℤ → ℤ → ℤ
computed_number Plus a b = a +ℤ b
computed_number Minus a b = a -ℤ b
computed_number Times a b = a *ℤ b

-- a null operand gives null
abbrev pub computed : Sign → Value → Value → Value
computed sign (Int a) (Int b) = Int (computed_number sign a b)
computed sign a b = Null

-- what an operand is on a row: the value in its column, or the value that it says
abbrev pub operand_on : List Value → BoundOperand → Value
operand_on values (operand.Column column) = value_at values column
operand_on values (operand.Value value) = value

-- an item on a row as it was
abbrev pub item_on : List Value → BoundItem → Value
item_on values (One operand) = operand_on values operand
item_on values (Two a sign b) = computed sign (operand_on values a) (operand_on values b)

-- the row with its columns set, each from the row as it was
abbrev pub set_on : List Value → List BoundSet → List Value → List Value
set_on was [] values = values
set_on was (set ∷ sets) values = set_on was sets (slice_set values set.column (item_on was set.item))

-- ---- values, row by row

-- a number lies in the range of a column
abbrev pub holds_number : ColType → ℤ → Bool
holds_number column.Integer n = in_integer n
holds_number column.Bigint n = in_bigint n
holds_number ty n = false

-- a text is longer than a column holds
abbrev pub is_longer : ColType → List ℕ → Bool
is_longer (column.Char n) text = nat_lt n (length text)
is_longer ty text = false

-- 37 and 33 of a value that was computed or copied into a column
abbrev pub outgrows : ColumnDef → Value → List Cause
outgrows column Null = []
outgrows column (Int n) = cause_if (not (holds_number column.ty n)) (Overflow column.name)
outgrows column (Text text) = cause_if (is_longer column.ty text) (TextTooLong column.name)
outgrows column (Day day) = []

-- 32
abbrev pub null_causes : List ColumnDef → List Value → List Cause
null_causes [] values = []
null_causes (column ∷ columns) [] = []
null_causes (column ∷ columns) (value ∷ values) =
    cause_if (column.not_null && is_null value) (NullIn column.name) ++ null_causes columns values

-- 37 or 33 of one item of an UPDATE at a row
abbrev pub set_causes : List ColumnDef → List Value → BoundSet → List Cause
set_causes columns was set = of_some (slice_get columns set.column) (λ column. outgrows column (item_on was set.item))

-- 37 and 33 of a row's items and then 32 of its nulls; a row that doesn't qualify says nothing
abbrev pub changed_causes : List ColumnDef → List BoundSet → Option Pred → Row → List Cause
changed_causes columns sets pred row =
    if qualifies pred row.values
    then flat_map (set_causes columns row.values) sets ++ null_causes columns (set_on row.values sets row.values) else []

-- 71: the numbers of the new rows are below 2^64
abbrev pub used_up : ℕ → ℕ → List Cause
used_up next count = cause_if (nat_lt 18446744073709551615 (next + count)) (NumbersUsedUp next)

-- the qualifying rows of the table at a place
abbrev pub hits : Option Pred → Option PlainTable → List Row
hits pred None = []
hits pred (Some table) = filter (λ row. qualifies pred row.values) table.rows

-- the values, row by row, and of a query its sums
abbrev pub value_causes : Database → Bound → List Cause
value_causes db (bound.Insert place tuples) = of_some (table_at db place) (λ table.
    flat_map (null_causes table.def.columns) tuples)
value_causes db (bound.Update place sets pred) = of_some (table_at db place) (λ table.
    flat_map (changed_causes table.def.columns sets pred) table.rows)
value_causes db (bound.Query select) = of_some (table_at db select.table) (λ table.
    sum_causes table.def.columns (shape_of select) (hits select.pred (Some table)))
value_causes db statement = []

-- the row numbers
abbrev pub number_causes : Database → Bound → List Cause
number_causes db (bound.Insert place tuples) = of_some (table_at db place) (λ table. used_up table.def.next (length tuples))
number_causes db statement = []

-- ---- effects

-- a table enters a place with that number, and has no rows
abbrev pub entered : Database → Option ℕ → TableDef → Database
entered db None def = db
entered db (Some place) def = with_place db place (Some (record { def = record def { number = place }; rows = [] }))

-- a row that qualifies has its columns set and keeps its number; any other stays
abbrev pub changed_row : List BoundSet → Option Pred → Row → Row
changed_row sets pred row =
    if qualifies pred row.values then record row { values = set_on row.values sets row.values } else row

-- the table with its qualifying rows changed, in the same order
abbrev pub changed_table : List BoundSet → Option Pred → PlainTable → PlainTable
changed_table sets pred table = record table { rows = map (changed_row sets pred) table.rows }

-- the table without its qualifying rows
abbrev pub left_table : Option Pred → PlainTable → PlainTable
left_table pred table = record table { rows = filter (λ row. not (qualifies pred row.values)) table.rows }

-- the table with one record index more, behind its others; its rows stay
abbrev pub indexed_table : IndexDef → PlainTable → PlainTable
indexed_table index table = record table { def = with_index table.def index }

-- the table without the record index in a place; its rows stay
abbrev pub unindexed_table : ℕ → PlainTable → PlainTable
unindexed_table place table = record table { def = without_index table.def place }

-- the columns of the table in a place, and none of an empty place
abbrev pub columns_at : Option PlainTable → List ColumnDef
columns_at None = []
columns_at (Some table) = table.def.columns

-- the database after a bound statement, and the reply
abbrev pub effect : Database → Bound → Database × Reply
effect db (bound.CreateTable def) = (entered db (empty_place (defs_of db)) def, Done)
effect db (bound.CreateIndex place index) = (changed_at db place (indexed_table index), Done)
effect db (bound.DropIndex place index) = (changed_at db place (unindexed_table index), Done)
effect db (bound.DropTable place) = (with_place db place None, Done)
effect db (bound.Insert place tuples) = (changed_at db place (appended tuples), Inserted (length tuples))
effect db (bound.Update place sets pred) = (changed_at db place (changed_table sets pred), Updated (length (hits pred (table_at db place))))
effect db (bound.Delete place pred) = (changed_at db place (left_table pred), Deleted (length (hits pred (table_at db place))))
effect db (bound.Query select) =
    (db, Lines (lines_of (columns_at (table_at db select.table)) (shape_of select) (hits select.pred (table_at db select.table))))
effect db (bound.Reclaim place) = (db, Done)
effect db statement = (db, Done)

-- ---- keys

-- 40 of a record index: it is UNIQUE, and two of these rows have equal keys
abbrev pub twin_causes : List (List Value) → IndexDef → List Cause
twin_causes rows index = cause_if (index.unique && have_twins index.parts rows) (DuplicateKey index.name)

-- 40 of a table, by its record indexes in the order in which they were made
abbrev pub duplicate_causes : PlainTable → List Cause
duplicate_causes table = flat_map (twin_causes (values_of table.rows)) table.def.indexes

-- the place of the table that a statement may leave with two rows of equal keys
abbrev pub keyed_place : Bound → Option ℕ
keyed_place (bound.Insert place tuples) = Some place
keyed_place (bound.Update place sets pred) = Some place
keyed_place (bound.CreateIndex place index) = Some place
keyed_place statement = None

-- the keys, on the rows as the whole statement leaves them
abbrev pub key_causes : Database → Bound → List Cause
key_causes db statement = of_some (keyed_place statement) (λ place. of_some (table_at (effect db statement).0 place) duplicate_causes)

-- ---- what is said by the rows

-- what is said against a bound statement by the rows: values, then keys, then row numbers
abbrev pub causes_of_rows : Database → Bound → List Cause
causes_of_rows db statement = value_causes db statement ++ key_causes db statement ++ number_causes db statement
