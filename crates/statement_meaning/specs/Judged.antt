-- What is said against each form of a statement before a row is looked at.
use Rattle.std.specs.Prelude.{ℕ, ◌+◌, List, [], ◌∷◌, ◌++◌, map, flat_map, length, Bool, true, false, not, ◌==◌, ◌&&◌, ◌||◌, nat_le, nat_lt, if◌then◌else◌, Option, Some, None, is_some, is_none, codes}
use Rattle.std.specs.List.{list_any}
use Rattle.mdc_values.specs.declared.literal.Literal.TheVariants as literal
use Rattle.mdc_values.specs.declared.value.ColType.{ColType}
use Rattle.mdc_values.specs.declared.value.ColType.TheVariants.{Integer, Bigint, Char, Date}
use Rattle.mdc_values.specs.Fitting.{fit_of, in_bigint, signed}
use Rattle.mdc_ast.specs.declared.definition.ColumnDef.{ColumnDef}
use Rattle.mdc_ast.specs.declared.definition.TableDef.{TableDef}
use Rattle.mdc_ast.specs.declared.name.Name.{Name}
use Rattle.mdc_ast.specs.declared.statement.ColumnText.{ColumnText}
use Rattle.mdc_ast.specs.declared.statement.InsertItem.{InsertItem}
use Rattle.mdc_ast.specs.declared.statement.InsertItem.TheVariants as item
use Rattle.mdc_ast.specs.declared.statement.KeyText.{KeyText}
use Rattle.mdc_ast.specs.declared.statement.Operand.{Operand}
use Rattle.mdc_ast.specs.declared.statement.Operand.TheVariants as operand
use Rattle.mdc_ast.specs.declared.statement.Out.{Out}
use Rattle.mdc_ast.specs.declared.statement.Out.TheVariants as out
use Rattle.mdc_ast.specs.declared.statement.OutList.{OutList}
use Rattle.mdc_ast.specs.declared.statement.OutList.TheVariants.{Star, Outs}
use Rattle.mdc_ast.specs.declared.statement.Select.{Select}
use Rattle.mdc_ast.specs.declared.statement.SetItem.{SetItem}
use Rattle.mdc_ast.specs.declared.statement.SetItem.TheVariants.{One, Two}
use Rattle.mdc_ast.specs.declared.statement.SetText.{SetText}
use Rattle.mdc_ast.specs.declared.statement.Stmt.{Stmt}
use Rattle.mdc_ast.specs.declared.statement.Stmt.TheVariants.{CreateIndex, CreateTable, DropIndex, DropTable, Insert, Update, Delete, Query, Explain, Reclaim}
use Rattle.mdc_ast.specs.declared.statement.TypeText.{TypeText}
use Rattle.mdc_ast.specs.declared.statement.TypeText.TheVariants as type
use Rattle.statement_meaning.specs.Cause.{Cause, cause_if, TableExists, ColumnTwice, IndexExists, NoIndex, Limit, NotGrouped, WrongType, OutOfRange, WrongCount, GivenGenerated}
use Rattle.mdc_ast.specs.Definitions.{Definitions, place_of, def_named, empty_place, index_place_of, column_named, column_names, is_among, row_width, key_width}
use Rattle.statement_meaning.specs.Judging.{Judged, no_fault, of_some, on_defined, on_table, listed_names, used_name, type_cause, value_cause, operand_columns, kinds_meet, where_judged, then_judged}
use Rattle.mdc_ast.specs.Kinds.{is_number}

-- ---- CREATE TABLE

-- the names of the columns of a CREATE TABLE
abbrev pub text_names : List ColumnText → List Name
text_names columns = map (λ column. column.name) columns

-- the first column of that name
abbrev pub text_named : List ColumnText → Name → Option ColumnText
text_named [] name = None
text_named (column ∷ columns) name = if is_among name (column.name ∷ []) then Some column else text_named columns name

-- 23 among the columns: a name that stands before
abbrev pub twice_named : List Name → List ColumnText → List Cause
twice_named earlier [] = []
twice_named earlier (column ∷ columns) =
    cause_if (is_among column.name earlier) (ColumnTwice column.name) ++ twice_named (column.name ∷ earlier) columns

-- a name has at most 18 characters
abbrev pub long_name : Name → List Cause
long_name name = cause_if (nat_lt 18 (length name.0)) (Limit 18)

-- CHAR(n) has n from 1 to 254
abbrev pub bad_length : TypeText → List Cause
bad_length type.Integer = []
bad_length type.Bigint = []
bad_length (type.Char n) = cause_if (not (nat_le 1 n && nat_le n 254)) (Limit 254)
bad_length type.Date = []

-- the type of a column that is made
abbrev pub type_of : TypeText → ColType
type_of type.Integer = Integer
type_of type.Bigint = Bigint
type_of (type.Char n) = Char n
type_of type.Date = Date

-- the types of the columns of these names, of those that are there
abbrev pub types_named : List ColumnText → List Name → List ColType
types_named columns [] = []
types_named columns (name ∷ names) = with_type (text_named columns name) (types_named columns names)
  where
    with_type : Option ColumnText → List ColType → List ColType
    with_type None types = types
    with_type (Some column) types = type_of column.ty ∷ types

-- the types of all columns of a CREATE TABLE
abbrev pub text_types : List ColumnText → List ColType
text_types columns = map (λ column. type_of column.ty) columns

-- the columns from place i on, and the row behind the last
abbrev pub column_limits : ℕ → List ColumnText → List ColumnText → List Cause
column_limits i all [] = cause_if (nat_lt 1000 (row_width (text_types all))) (Limit 1000)
column_limits i all (column ∷ columns) =
    cause_if (i == 16) (Limit 16) ++ long_name column.name ++ bad_length column.ty ++ column_limits (i + 1) all columns

-- 26 where the columns of these names make a key of more than 128 bytes
abbrev pub long_key : List ColumnText → List Name → List Cause
long_key columns names = cause_if (nat_lt 128 (key_width (types_named columns names))) (Limit 128)

-- the dimensions from place i on, and the key of all of them behind the last
abbrev pub dim_limits : ℕ → List ColumnText → List Name → List (List Name) → List Cause
dim_limits i columns all [] = long_key columns all
dim_limits i columns all (dim ∷ dims) =
    cause_if (i == 4) (Limit 4) ++ long_key columns dim ++ dim_limits (i + 1) columns all dims

-- CREATE TABLE: 20, then 23 and 22, then the limits of its name, the places, the columns and the dimensions
abbrev pub create_judged : Definitions → Name → List ColumnText → List (List Name) → Judged
create_judged defs name columns dims = record {
  names = cause_if (is_some (place_of defs name)) (TableExists name);
  columns = twice_named [] columns ++ listed_names (text_names columns) [] (flat_map (λ dim. dim) dims);
  types = [];
  limits = long_name name ++ cause_if (is_none (empty_place defs)) (Limit 16)
      ++ column_limits 0 columns columns ++ dim_limits 0 columns (flat_map (λ dim. dim) dims) dims;
  values = [];
}

-- ---- CREATE INDEX and DROP INDEX

-- the names of a key's columns
abbrev pub part_names : List KeyText → List Name
part_names parts = map (λ part. part.column) parts

-- the types of the columns of these names, of those that are there
abbrev pub types_of : List ColumnDef → List Name → List ColType
types_of columns names = flat_map (λ name. types_in (column_named columns name)) names
  where
    types_in : Option ColumnDef → List ColType
    types_in None = []
    types_in (Some column) = column.ty ∷ []

-- 26 where the columns of these names make a key of more than 128 bytes
abbrev pub long_parts : List ColumnDef → List Name → List Cause
long_parts columns names = cause_if (nat_lt 128 (key_width (types_of columns names))) (Limit 128)

-- CREATE INDEX on a table that is there: 24, then 22 and 23 of its parts, then the limits of its name, the places and the key
abbrev pub index_judged : Definitions → Name → List KeyText → TableDef → Judged
index_judged defs name parts def = record no_fault {
  names = cause_if (is_some (index_place_of defs name)) (IndexExists name);
  columns = listed_names (column_names def.columns) [] (part_names parts);
  limits = long_name name ++ cause_if (nat_le 8 (length def.indexes)) (Limit 8) ++ long_parts def.columns (part_names parts);
}

-- DROP INDEX: 25
abbrev pub drop_index_judged : Definitions → Name → Judged
drop_index_judged defs name = record no_fault { names = cause_if (is_none (index_place_of defs name)) (NoIndex name) }

-- ---- INSERT

-- the columns that a tuple gives, in its order
abbrev pub targets : List ColumnDef → Option (List Name) → List Name
targets columns None = column_names columns
targets columns (Some names) = names

-- 36 of a literal for a generated column, and 30 of one that is of another type
abbrev pub given_to : ColumnDef → InsertItem → List Cause
given_to column item.Default = []
given_to column (item.Literal literal) =
    if is_some column.made then GivenGenerated column.name ∷ [] else type_cause column.name (fit_of column.ty literal)

-- 31, 33 or 34 of a literal that the column can't hold
abbrev pub given_value : ColumnDef → InsertItem → List Cause
given_value column item.Default = []
given_value column (item.Literal literal) = value_cause column.name (fit_of column.ty literal)

-- the items of a tuple, each against its column
abbrev pub each_item : List ColumnDef → (ColumnDef → InsertItem → List Cause) → List Name → List InsertItem → List Cause
each_item columns judge [] items = []
each_item columns judge (name ∷ names) [] = []
each_item columns judge (name ∷ names) (item ∷ items) =
    of_some (column_named columns name) (λ column. judge column item) ++ each_item columns judge names items

-- 35 alone of a tuple of a wrong length, and else 36 or 30 of each item
abbrev pub tuple_types : List ColumnDef → List Name → List InsertItem → List Cause
tuple_types columns names items =
    if length items == length names then each_item columns given_to names items else WrongCount ∷ []

-- INSERT: 22 and 23 of its list, then the types of all tuples, and then their values
abbrev pub insert_judged : Option (List Name) → List (List InsertItem) → List ColumnDef → Judged
insert_judged listed tuples columns = record no_fault {
  columns = of_some listed (listed_names (column_names columns) []);
  types = flat_map (tuple_types columns (targets columns listed)) tuples;
  values = flat_map (each_item columns given_value (targets columns listed)) tuples;
}

-- ---- UPDATE

-- 22 of the columns that an item is computed from
abbrev pub item_columns : List ColumnDef → SetItem → List Cause
item_columns columns (One operand) = operand_columns columns operand
item_columns columns (Two a sign b) = operand_columns columns a ++ operand_columns columns b

-- 22 and 23 of the items: the column set, and then the operands
abbrev pub set_columns : List ColumnDef → List Name → List SetText → List Cause
set_columns columns earlier [] = []
set_columns columns earlier (set ∷ sets) =
    used_name columns set.column ++ cause_if (is_among set.column earlier) (ColumnTwice set.column)
    ++ item_columns columns set.item ++ set_columns columns (set.column ∷ earlier) sets

-- a column of numbers, or one that isn't there, of which 22 is said
abbrev pub is_number_or_absent : Option ColumnDef → Bool
is_number_or_absent None = true
is_number_or_absent (Some column) = is_number column.ty

-- one of two operands is a number or NULL
abbrev pub counts : List ColumnDef → Operand → Bool
counts columns (operand.Column name) = is_number_or_absent (column_named columns name)
counts columns (operand.Literal (literal.Number negative size)) = true
counts columns (operand.Literal literal.Null) = true
counts columns (operand.Literal literal) = false

-- 30: a lone operand of another type or kind than the column set; two are numbers or NULL and set a number
abbrev pub item_types : List ColumnDef → ColumnDef → SetItem → List Cause
item_types columns target (One (operand.Literal literal)) = type_cause target.name (fit_of target.ty literal)
item_types columns target (One (operand.Column name)) = of_some (column_named columns name) (kinds_meet target.name target)
item_types columns target (Two a sign b) =
    cause_if (not (is_number target.ty && counts columns a && counts columns b)) (WrongType target.name)

-- a number that is one of two operands lies in 64 bits
abbrev pub wide_number : Name → Operand → List Cause
wide_number name (operand.Literal (literal.Number negative size)) = cause_if (not (in_bigint (signed negative size))) (OutOfRange name)
wide_number name operand = []

-- 31, 33 and 34 of the literals of an item; what is copied or computed is judged at each row
abbrev pub item_values : ColumnDef → SetItem → List Cause
item_values target (One (operand.Literal literal)) = value_cause target.name (fit_of target.ty literal)
item_values target (One (operand.Column name)) = []
item_values target (Two a sign b) = wide_number target.name a ++ wide_number target.name b

-- 36 where the column set is generated, and 30 of its item
abbrev pub set_types : List ColumnDef → SetText → List Cause
set_types columns set = of_some (column_named columns set.column) (λ target.
    cause_if (is_some target.made) (GivenGenerated target.name) ++ item_types columns target set.item)

-- 31, 33 and 34 of the literals that a column is set to
abbrev pub set_values : List ColumnDef → SetText → List Cause
set_values columns set = of_some (column_named columns set.column) (λ target. item_values target set.item)

-- the SET of an UPDATE: 22 and 23 of all items, then 36 and 30, and then 31, 33 and 34
abbrev pub sets_judged : List SetText → List ColumnDef → Judged
sets_judged sets columns = record no_fault {
  columns = set_columns columns [] sets;
  types = flat_map (set_types columns) sets;
  values = flat_map (set_values columns) sets;
}

-- ---- queries

-- the column that a place of the list names, and none of COUNT(*)
abbrev pub names_in : Out → List Name
names_in (out.Column name) = name ∷ []
names_in out.CountAll = []
names_in (out.Count name) = name ∷ []
names_in (out.Sum name) = name ∷ []
names_in (out.Min name) = name ∷ []
names_in (out.Max name) = name ∷ []

-- 22 of what a query shows, of which `*` says nothing
abbrev pub shown_columns : List ColumnDef → OutList → List Cause
shown_columns columns Star = []
shown_columns columns (Outs outs) = flat_map (λ out. flat_map (used_name columns) (names_in out)) outs

-- an aggregate
abbrev pub is_aggregate : Out → Bool
is_aggregate (out.Column name) = false
is_aggregate aggregate = true

-- one of what is shown is an aggregate
abbrev pub has_aggregate : OutList → Bool
has_aggregate Star = false
has_aggregate (Outs outs) = list_any is_aggregate outs

-- with an aggregate or GROUP BY rows share lines
abbrev pub shares_lines : Select → Bool
shares_lines select = has_aggregate select.list || nat_lt 0 (length select.group)

-- 27 of a column whose value the rows of a line need not share
abbrev pub ungrouped : Bool → List Name → Name → List Cause
ungrouped shares group name = cause_if (shares && not (is_among name group)) (NotGrouped name)

-- 30 of the sum of what is no number
abbrev pub no_number : List ColumnDef → Name → List Cause
no_number columns name = of_some (column_named columns name) (λ column. cause_if (not (is_number column.ty)) (WrongType name))

-- 27 of a plain column and 30 of a sum
abbrev pub out_types : List ColumnDef → Bool → List Name → Out → List Cause
out_types columns shares group (out.Column name) = ungrouped shares group name
out_types columns shares group (out.Sum name) = no_number columns name
out_types columns shares group aggregate = []

-- 27 and 30 of what a query shows; `*` stands for all columns
abbrev pub shown_types : List ColumnDef → Bool → List Name → OutList → List Cause
shown_types columns shares group Star = flat_map (ungrouped shares group) (column_names columns)
shown_types columns shares group (Outs outs) = flat_map (out_types columns shares group) outs

-- what is named where the number of FETCH FIRST is refused
abbrev pub fetch_name : Name
fetch_name = record { 0 = codes "FETCH" }

-- 31 of the number of FETCH FIRST, which is from 1 to 2147483647
abbrev pub fetch_value : Option ℕ → List Cause
fetch_value None = []
fetch_value (Some n) = cause_if (not (nat_le 1 n && nat_le n 2147483647)) (OutOfRange fetch_name)

-- what a query shows: 22, and then 27 and 30
abbrev pub list_judged : Select → List ColumnDef → Judged
list_judged select columns = record no_fault {
  columns = shown_columns columns select.list;
  types = shown_types columns (shares_lines select) select.group select.list;
}

-- GROUP BY, ORDER BY and FETCH FIRST: 22 of the columns, 27 of those that the lines are ordered by, and 31
abbrev pub tail_judged : Select → List ColumnDef → Judged
tail_judged select columns = record no_fault {
  columns = flat_map (used_name columns) select.group ++ flat_map (λ key. used_name columns key.column) select.order;
  types = flat_map (λ key. ungrouped (shares_lines select) select.group key.column) select.order;
  values = fetch_value select.first;
}

-- a query in the order of its text: what it shows, its predicate, and what stands behind it
abbrev pub query_judged : Select → List ColumnDef → Judged
query_judged select columns =
    then_judged (then_judged (list_judged select columns) (where_judged columns select.pred)) (tail_judged select columns)

-- ---- any statement that is built

-- what is said against a statement by its text and the definitions alone; of EXPLAIN what is said of its query
abbrev pub judged_of : Definitions → Stmt → Judged
judged_of defs (CreateTable name columns dims) = create_judged defs name columns dims
judged_of defs (CreateIndex name unique table parts) = on_defined table (def_named defs table) (index_judged defs name parts)
judged_of defs (DropTable name) = on_table name (def_named defs name) (λ columns. no_fault)
judged_of defs (DropIndex name) = drop_index_judged defs name
judged_of defs (Insert name listed tuples) = on_table name (def_named defs name) (insert_judged listed tuples)
judged_of defs (Update name sets pred) =
    on_table name (def_named defs name) (λ columns. then_judged (sets_judged sets columns) (where_judged columns pred))
judged_of defs (Delete name pred) = on_table name (def_named defs name) (λ columns. where_judged columns pred)
judged_of defs (Query select) = on_table select.table (def_named defs select.table) (query_judged select)
judged_of defs (Explain select) = on_table select.table (def_named defs select.table) (query_judged select)
judged_of defs (Reclaim name) = on_table name (def_named defs name) (λ columns. no_fault)
judged_of defs stmt = no_fault
