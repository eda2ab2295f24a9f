-- What is said of a literal, class by class.
use Rattle.std.specs.Prelude.{List, [], ◌∷◌, ◌++◌, flat_map, Option, Some, None, is_some, Result, Ok, Err}
use Rattle.mdc_values.specs.declared.fitting.ValueFault.{ValueFault}
use Rattle.mdc_values.specs.declared.fitting.ValueFault.TheVariants as fault
use Rattle.mdc_values.specs.declared.value.Value.{Value}
use Rattle.mdc_ast.specs.declared.name.Name.{Name}
use Rattle.statement_meaning.specs.Cause.{Cause, cause_if, GivenGenerated, WrongType, OutOfRange, TextTooLong, NoDate}
use Rattle.mdc_ast.specs.declared.definition.ColumnDef.{ColumnDef}
use Rattle.mdc_ast.specs.declared.predicate.AtomText.{AtomText}
use Rattle.mdc_ast.specs.declared.statement.InsertItem.{InsertItem}
use Rattle.mdc_ast.specs.declared.statement.SetItem.{SetItem}
use Rattle.mdc_ast.specs.declared.statement.SetText.{SetText}
use Rattle.mdc_ast.specs.Definitions.{column_named, column_names}
use Rattle.statement_meaning.specs.Judged.{each_item, given_to, given_value, item_types, item_values, tuple_types}
use Rattle.statement_meaning.specs.Judging.{atom_columns, atom_types, atom_values, fit_compared, kinds_meet, literals_of, of_some, other_column, type_cause, value_cause}
use Rattle.binder.specs.declared.targets.Targets.{Targets}
use Rattle.binder.specs.declared.targets.Targets.TheVariants.{All, Listed}
use Rattle.binder.specs.declared.literals.Class.{Class}
use Rattle.binder.specs.declared.literals.Class.TheVariants.{Columns, Types, Values}

-- why a literal isn't a value, if it isn't
abbrev pub fault_in : Result Value ValueFault → Option ValueFault
fault_in (Ok value) = None
fault_in (Err fault) = Some fault

-- what a class says of a literal for the column of that name
abbrev pub fault_causes : Class → Name → Option ValueFault → List Cause
fault_causes Types name (Some fault.WrongType) = WrongType name ∷ []
fault_causes Values name (Some fault.OutOfRange) = OutOfRange name ∷ []
fault_causes Values name (Some fault.TooLong) = TextTooLong name ∷ []
fault_causes Values name (Some fault.NoDate) = NoDate name ∷ []
fault_causes class name fault = []

-- what a class says of a literal that was fitted to the column of that name
abbrev pub literal_causes : Class → Name → Result Value ValueFault → List Cause
literal_causes Columns name fitted = []
literal_causes Types name fitted = type_cause name fitted
literal_causes Values name fitted = value_cause name fitted

-- ---- INSERT

-- what a class says of an item of a tuple, against its column
abbrev pub item_causes : Class → ColumnDef → InsertItem → List Cause
item_causes Columns column item = []
item_causes Types column item = given_to column item
item_causes Values column item = given_value column item

-- what a class says of a tuple whose items go to these columns
abbrev pub tuple_causes : Class → List ColumnDef → List Name → List InsertItem → List Cause
tuple_causes Columns columns names items = []
tuple_causes Types columns names items = tuple_types columns names items
tuple_causes Values columns names items = each_item columns given_value names items

-- the names of the columns that a tuple gives
abbrev pub target_names : Targets → List Name
target_names (All columns) = column_names columns.now
target_names (Listed names) = names.now

-- ---- UPDATE

-- what a class says of a column that is set
abbrev pub target_causes : Class → List ColumnDef → ColumnDef → SetItem → List Cause
target_causes Columns columns target item = []
target_causes Types columns target item = cause_if (is_some target.made) (GivenGenerated target.name) ++ item_types columns target item
target_causes Values columns target item = item_values target item

-- what a class says of a column by its name, and of what it is set to
abbrev pub setting_causes : Class → List ColumnDef → SetText → List Cause
setting_causes class columns set = of_some (column_named columns set.column) (λ target. target_causes class columns target set.item)

-- ---- predicates

-- what a class says of a test of a column that is there
abbrev pub column_causes : Class → List ColumnDef → AtomText → ColumnDef → List Cause
column_causes Columns columns atom column = []
column_causes Types columns atom column =
    of_some (other_column columns atom.test) (kinds_meet atom.column column)
    ++ flat_map (λ literal. type_cause atom.column (fit_compared column.ty literal)) (literals_of atom.test)
column_causes Values columns atom column = flat_map (λ literal. value_cause atom.column (fit_compared column.ty literal)) (literals_of atom.test)

-- what a class says of a test
abbrev pub atom_causes : Class → List ColumnDef → AtomText → List Cause
atom_causes Columns columns atom = atom_columns columns atom
atom_causes Types columns atom = atom_types columns atom
atom_causes Values columns atom = atom_values columns atom
