-- A statement with its names as places and its literals as values. It means something where nothing is said against it.
use Rattle.std.specs.Prelude.{ℕ, Bool, List, [], ◌∷◌, map, min, if◌then◌else◌, Option, Some, None, option_map, unwrap_or}
use Rattle.std.specs.List.{position_from}
use Rattle.mdc_values.specs.declared.literal.Literal.{Literal}
use Rattle.mdc_values.specs.declared.value.ColType.{ColType}
use Rattle.mdc_values.specs.declared.value.ColType.TheVariants.{Bigint}
use Rattle.mdc_values.specs.declared.value.Value.{Value}
use Rattle.mdc_values.specs.declared.value.Value.TheVariants.{Null}
use Rattle.mdc_values.specs.Fitting.{fit_of}
use Rattle.mdc_ast.specs.declared.bound.Bound.{Bound}
use Rattle.mdc_ast.specs.declared.bound.Bound.TheVariants as bound
use Rattle.mdc_ast.specs.declared.bound.BoundItem.{BoundItem}
use Rattle.mdc_ast.specs.declared.bound.BoundItem.TheVariants as bound_item
use Rattle.mdc_ast.specs.declared.bound.BoundOperand.{BoundOperand}
use Rattle.mdc_ast.specs.declared.bound.BoundOperand.TheVariants as bound_operand
use Rattle.mdc_ast.specs.declared.bound.BoundOut.{BoundOut}
use Rattle.mdc_ast.specs.declared.bound.BoundOut.TheVariants as bound_out
use Rattle.mdc_ast.specs.declared.bound.BoundSelect.{BoundSelect}
use Rattle.mdc_ast.specs.declared.bound.BoundSet.{BoundSet}
use Rattle.mdc_ast.specs.declared.definition.ColumnDef.{ColumnDef}
use Rattle.mdc_ast.specs.declared.definition.IndexDef.{IndexDef}
use Rattle.mdc_ast.specs.declared.definition.KeyPart.{KeyPart}
use Rattle.mdc_ast.specs.declared.definition.TableDef.{TableDef}
use Rattle.mdc_ast.specs.declared.name.Name.{Name}
use Rattle.mdc_ast.specs.declared.predicate.Atom.{Atom}
use Rattle.mdc_ast.specs.declared.predicate.AtomText.{AtomText}
use Rattle.mdc_ast.specs.declared.predicate.Pred.{Pred}
use Rattle.mdc_ast.specs.declared.predicate.Pred.TheVariants as pred
use Rattle.mdc_ast.specs.declared.predicate.PredText.{PredText}
use Rattle.mdc_ast.specs.declared.predicate.PredText.TheFolds.{fold-PredText}
use Rattle.mdc_ast.specs.declared.predicate.PredText.TheOpen.{PredText-F}
use Rattle.mdc_ast.specs.declared.predicate.PredText.TheOpen as layer
use Rattle.mdc_ast.specs.declared.predicate.Right.{Right}
use Rattle.mdc_ast.specs.declared.predicate.Right.TheVariants as right
use Rattle.mdc_ast.specs.declared.predicate.Test.{Test}
use Rattle.mdc_ast.specs.declared.predicate.Test.TheVariants as test
use Rattle.mdc_ast.specs.declared.predicate.TestText.{TestText}
use Rattle.mdc_ast.specs.declared.predicate.TestText.TheVariants.{Compare, Between, Within, IsNull}
use Rattle.mdc_ast.specs.declared.statement.ColumnText.{ColumnText}
use Rattle.mdc_ast.specs.declared.statement.InsertItem.{InsertItem}
use Rattle.mdc_ast.specs.declared.statement.InsertItem.TheVariants as item
use Rattle.mdc_ast.specs.declared.statement.KeyText.{KeyText}
use Rattle.mdc_ast.specs.declared.statement.Operand.{Operand}
use Rattle.mdc_ast.specs.declared.statement.Operand.TheVariants as operand
use Rattle.mdc_ast.specs.declared.statement.Out.{Out}
use Rattle.mdc_ast.specs.declared.statement.Out.TheVariants as out
use Rattle.mdc_ast.specs.declared.statement.OutList.{OutList}
use Rattle.mdc_ast.specs.declared.statement.OutList.TheVariants.{Star, Outs}
use Rattle.mdc_ast.specs.declared.statement.Select.{Select}
use Rattle.mdc_ast.specs.declared.statement.SetItem.{SetItem}
use Rattle.mdc_ast.specs.declared.statement.SetItem.TheVariants.{One, Two}
use Rattle.mdc_ast.specs.declared.statement.SetText.{SetText}
use Rattle.mdc_ast.specs.declared.statement.Stmt.{Stmt}
use Rattle.mdc_ast.specs.declared.statement.Stmt.TheVariants as stmt
use Rattle.mdc_ast.specs.Definitions.{Definitions, def_named, index_place_of, place_of, column_place, column_named, column_names, is_same}
use Rattle.statement_meaning.specs.Judging.{fit_compared, judged_value}
use Rattle.statement_meaning.specs.Judged.{targets, type_of}

-- the place of a column that is there
abbrev pub the_place : List ColumnDef → Name → ℕ
the_place columns name = unwrap_or (column_place columns name) 0

-- the type of a column that is there
abbrev pub the_type : List ColumnDef → Name → ColType
the_type columns name = unwrap_or (option_map (λ column. column.ty) (column_named columns name)) Bigint

-- ---- predicates

-- what a column is compared with, a literal read in this way
abbrev pub bound_right : List ColumnDef → (Literal → Value) → Operand → Right
bound_right columns read (operand.Column name) = right.Column (the_place columns name)
bound_right columns read (operand.Literal literal) = right.Value (read literal)

-- a test with places for names and values for literals
abbrev pub bound_test : List ColumnDef → (Literal → Value) → TestText → Test
bound_test columns read (Compare op operand) = test.Compare op (bound_right columns read operand)
bound_test columns read (Between low high) = test.Between (read low) (read high)
bound_test columns read (Within literals) = test.Within (map read literals)
bound_test columns read IsNull = test.IsNull

-- a test of a column by its place, each literal a value that may be compared with that column
abbrev pub bound_atom : List ColumnDef → AtomText → Atom
bound_atom columns atom = record {
  column = the_place columns atom.column;
  negated = atom.negated;
  test = bound_test columns (λ literal. judged_value (fit_compared (the_type columns atom.column) literal)) atom.test;
}

-- one layer of a predicate: a test is bound, and AND, OR and NOT stay
abbrev pub bound_layer : List ColumnDef → PredText-F Pred → Pred
bound_layer columns (layer.Atom atom) = pred.Atom (bound_atom columns atom)
bound_layer columns (layer.All parts) = pred.All parts
bound_layer columns (layer.Any parts) = pred.Any parts
bound_layer columns (layer.Not part) = pred.Not part

-- the predicate of a WHERE, if there is one
abbrev pub bound_where : List ColumnDef → Option PredText → Option Pred
bound_where columns text = option_map (fold-PredText Pred (bound_layer columns)) text

-- ---- UPDATE

-- an operand: the place of a column, or a literal as a value of this type
abbrev pub bound_side : List ColumnDef → ColType → Operand → BoundOperand
bound_side columns ty (operand.Column name) = bound_operand.Column (the_place columns name)
bound_side columns ty (operand.Literal literal) = bound_operand.Value (judged_value (fit_of ty literal))

-- one operand fits its column, and each of two is a number of 64 bits or NULL
abbrev pub bound_set_item : List ColumnDef → ColType → SetItem → BoundItem
bound_set_item columns ty (One operand) = bound_item.One (bound_side columns ty operand)
bound_set_item columns ty (Two a sign b) = bound_item.Two (bound_side columns Bigint a) sign (bound_side columns Bigint b)

-- a column that is set, by its place, and its item
abbrev pub bound_set : List ColumnDef → SetText → BoundSet
bound_set columns set = record { column = the_place columns set.column; item = bound_set_item columns (the_type columns set.column) set.item }

-- ---- INSERT

-- what an item of a tuple gives to a column: DEFAULT gives null
abbrev pub item_value : ColType → InsertItem → Value
item_value ty item.Default = Null
item_value ty (item.Literal literal) = judged_value (fit_of ty literal)

-- the value of a column in a tuple whose items go to these names; a column that isn't named is null
abbrev pub given_for : ColumnDef → List Name → List InsertItem → Value
given_for column [] items = Null
given_for column (name ∷ names) [] = Null
given_for column (name ∷ names) (item ∷ items) =
    if is_same name column.name then item_value column.ty item else given_for column names items

-- the row that a tuple is: a value for each column, in table order
abbrev pub bound_tuple : List ColumnDef → List Name → List InsertItem → List Value
bound_tuple columns names items = map (λ column. given_for column names items) columns

-- ---- CREATE TABLE

-- the place of a name among the columns of a CREATE TABLE
abbrev pub text_place : List ColumnText → Name → ℕ
text_place columns name = unwrap_or (position_from (λ column. is_same name column.name) 0 columns) 0

-- a column of a CREATE TABLE; the forms that are built make no generated one
abbrev pub bound_column : ColumnText → ColumnDef
bound_column column = record { name = column.name; ty = type_of column.ty; not_null = column.not_null; made = None }

-- a table that isn't in a database yet has no number, no rows and no roots
abbrev pub bound_table : Name → List ColumnText → List (List Name) → TableDef
bound_table name columns dims = record {
  number = 0;
  name = name;
  columns = map bound_column columns;
  dims = map (λ dim. map (text_place columns) dim) dims;
  indexes = [];
  next = 0;
  roots = record { map = 0; composite = 0; dims = [] };
}

-- ---- queries

-- what a query shows in one place of a line, by the place of its column
abbrev pub bound_out_of : List ColumnDef → Out → BoundOut
bound_out_of columns (out.Column name) = bound_out.Column (the_place columns name)
bound_out_of columns out.CountAll = bound_out.CountAll
bound_out_of columns (out.Count name) = bound_out.Count (the_place columns name)
bound_out_of columns (out.Sum name) = bound_out.Sum (the_place columns name)
bound_out_of columns (out.Min name) = bound_out.Min (the_place columns name)
bound_out_of columns (out.Max name) = bound_out.Max (the_place columns name)

-- `*` shows all columns in table order
abbrev pub shown : List ColumnDef → OutList → List BoundOut
shown columns Star = map (λ name. bound_out.Column (the_place columns name)) (column_names columns)
shown columns (Outs outs) = map (bound_out_of columns) outs

-- a column that lines are ordered by
abbrev pub bound_key : List ColumnDef → KeyText → KeyPart
bound_key columns key = record { column = the_place columns key.column; descending = key.descending }

-- how many lines are given at most; a number of more than 32 bits is refused
abbrev pub bound_first : Option ℕ → Option ℕ
bound_first first = option_map (min 4294967295) first

-- a query on the table in a place
abbrev pub bound_select : ℕ → List ColumnDef → Select → BoundSelect
bound_select place columns select = record {
  table = place;
  outs = shown columns select.list;
  pred = bound_where columns select.pred;
  group = map (the_place columns) select.group;
  order = map (bound_key columns) select.order;
  first = bound_first select.first;
}

-- ---- CREATE INDEX and DROP INDEX

-- a record index that isn't in a database yet has no root
abbrev pub bound_index : List ColumnDef → Name → Bool → List KeyText → IndexDef
bound_index columns name unique parts = record { name = name; unique = unique; parts = map (bound_key columns) parts; root = 0 }

-- DROP INDEX by the place of the table and the index's own; of one that isn't there it is refused
abbrev pub bound_drop_index : Option (ℕ × ℕ) → Bound
bound_drop_index None = bound.Begin
bound_drop_index (Some (table, index)) = bound.DropIndex table index

-- ---- any statement that is built

-- the columns of a table; where there is no table, none
abbrev pub columns_of : Option TableDef → List ColumnDef
columns_of None = []
columns_of (Some def) = def.columns

-- the place of the table of that name, and its columns; a statement on a table that isn't there is refused
abbrev pub on_place : Option ℕ → List ColumnDef → (ℕ → List ColumnDef → Bound) → Bound
on_place None columns bind = bound.Begin
on_place (Some place) columns bind = bind place columns

-- a statement on the table of that name, by its place and its columns
abbrev pub bound_on : Definitions → Name → (ℕ → List ColumnDef → Bound) → Bound
bound_on defs name bind = on_place (place_of defs name) (columns_of (def_named defs name)) bind

-- a statement in places and values; each other form, and one on no table, is BEGIN, which does nothing here
abbrev pub bound_of : Definitions → Stmt → Bound
bound_of defs (stmt.CreateTable name columns dims) = bound.CreateTable (bound_table name columns dims)
bound_of defs (stmt.CreateIndex name unique table parts) =
    bound_on defs table (λ place columns. bound.CreateIndex place (bound_index columns name unique parts))
bound_of defs (stmt.DropIndex name) = bound_drop_index (index_place_of defs name)
bound_of defs (stmt.DropTable name) = bound_on defs name (λ place columns. bound.DropTable place)
bound_of defs (stmt.Insert name listed tuples) =
    bound_on defs name (λ place columns. bound.Insert place (map (bound_tuple columns (targets columns listed)) tuples))
bound_of defs (stmt.Update name sets text) =
    bound_on defs name (λ place columns. bound.Update place (map (bound_set columns) sets) (bound_where columns text))
bound_of defs (stmt.Delete name text) = bound_on defs name (λ place columns. bound.Delete place (bound_where columns text))
bound_of defs (stmt.Query select) = bound_on defs select.table (λ place columns. bound.Query (bound_select place columns select))
bound_of defs (stmt.Explain select) = bound_on defs select.table (λ place columns. bound.Explain (bound_select place columns select))
bound_of defs (stmt.Reclaim name) = bound_on defs name (λ place columns. bound.Reclaim place)
bound_of defs statement = bound.Begin
