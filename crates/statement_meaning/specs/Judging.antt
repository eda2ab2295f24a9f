-- What is said against a statement before a row is looked at: for each class of the order of refusals a flat list, in the
-- order of the text. A class says nothing of what an earlier one refuses.
use Rattle.std.specs.Prelude.{List, [], ◌∷◌, ◌++◌, flat_map, not, Option, Some, None, is_none, Result, Ok, Err}
use Rattle.mdc_values.specs.declared.fitting.ValueFault.{ValueFault}
use Rattle.mdc_values.specs.declared.fitting.ValueFault.TheVariants as fault
use Rattle.mdc_values.specs.declared.literal.Literal.{Literal}
use Rattle.mdc_values.specs.declared.literal.Literal.TheVariants as literal
use Rattle.mdc_values.specs.declared.value.ColType.{ColType}
use Rattle.mdc_values.specs.declared.value.ColType.TheVariants.{Integer, Bigint, Char}
use Rattle.mdc_values.specs.declared.value.Value.{Value}
use Rattle.mdc_values.specs.declared.value.Value.TheVariants as value
use Rattle.mdc_values.specs.Fitting.{fit_of}
use Rattle.mdc_values.specs.Value.{trimmed}
use Rattle.mdc_ast.specs.declared.definition.ColumnDef.{ColumnDef}
use Rattle.mdc_ast.specs.declared.definition.TableDef.{TableDef}
use Rattle.mdc_ast.specs.declared.name.Name.{Name}
use Rattle.mdc_ast.specs.declared.predicate.AtomText.{AtomText}
use Rattle.mdc_ast.specs.declared.predicate.PredText.{PredText}
use Rattle.mdc_ast.specs.declared.predicate.PredText.TheFolds.{fold-PredText}
use Rattle.mdc_ast.specs.declared.predicate.PredText.TheOpen.{PredText-F}
use Rattle.mdc_ast.specs.declared.predicate.PredText.TheOpen as layer
use Rattle.mdc_ast.specs.declared.predicate.TestText.{TestText}
use Rattle.mdc_ast.specs.declared.predicate.TestText.TheVariants.{Compare, Between, Within, IsNull}
use Rattle.mdc_ast.specs.declared.statement.Operand.{Operand}
use Rattle.mdc_ast.specs.declared.statement.Operand.TheVariants as operand
use Rattle.statement_meaning.specs.Cause.{Cause, cause_if, NoTable, NoColumn, ColumnTwice, WrongType, OutOfRange, TextTooLong, NoDate}
use Rattle.mdc_ast.specs.Kinds.{kind_of, same_kind}
use Rattle.mdc_ast.specs.Definitions.{column_named, is_among}

-- The classes that are judged by the text and the definitions alone.
pub record Judged : Type 0 where
  pub names : List Cause
  pub columns : List Cause
  pub types : List Cause
  pub limits : List Cause
  pub values : List Cause

-- the causes in the order of refusals
abbrev pub in_order : Judged → List Cause
in_order j = j.names ++ j.columns ++ j.types ++ j.limits ++ j.values

-- nothing is said in any class
abbrev pub no_fault : Judged
no_fault = record { names = []; columns = []; types = []; limits = []; values = [] }

-- a part of a statement before another part
abbrev pub then_judged : Judged → Judged → Judged
then_judged a b = record {
  names = a.names ++ b.names;
  columns = a.columns ++ b.columns;
  types = a.types ++ b.types;
  limits = a.limits ++ b.limits;
  values = a.values ++ b.values;
}

-- what is said of a thing that is there
abbrev pub of_some : {X : Type 0} → Option X → (X → List Cause) → List Cause
of_some None judge = []
of_some (Some x) judge = judge x

-- a statement on a table that is there is judged by its definition
abbrev pub on_defined : Name → Option TableDef → (TableDef → Judged) → Judged
on_defined name None judge = record no_fault { names = NoTable name ∷ [] }
on_defined name (Some def) judge = judge def

-- or by its columns alone
abbrev pub on_table : Name → Option TableDef → (List ColumnDef → Judged) → Judged
on_table name found judge = on_defined name found (λ def. judge def.columns)

-- ---- names

-- for each name of a list that isn't a column, or that stands before
abbrev pub listed_names : List Name → List Name → List Name → List Cause
listed_names columns earlier [] = []
listed_names columns earlier (name ∷ names) =
    cause_if (not (is_among name columns)) (NoColumn name) ++ cause_if (is_among name earlier) (ColumnTwice name)
    ++ listed_names columns (name ∷ earlier) names

-- 22 of a name that is no column
abbrev pub used_name : List ColumnDef → Name → List Cause
used_name columns name = cause_if (is_none (column_named columns name)) (NoColumn name)

-- ---- literals

-- what a literal is that is compared with a column: any number of 64 bits, and a text of any length
abbrev pub fit_compared : ColType → Literal → Result Value ValueFault
fit_compared Integer literal = fit_of Bigint literal
fit_compared (Char n) (literal.Text text) = Ok (value.Text (trimmed text))
fit_compared ty literal = fit_of ty literal

-- the value, once it is judged
abbrev pub judged_value : Result Value ValueFault → Value
judged_value (Ok value) = value
judged_value (Err fault) = value.Null

-- 30: the literal is of another type than the column
abbrev pub type_cause : Name → Result Value ValueFault → List Cause
type_cause name (Err fault.WrongType) = WrongType name ∷ []
type_cause name fitted = []

-- 31, 33 or 34: the literal is of the column's type, and the column can't hold it
abbrev pub value_cause : Name → Result Value ValueFault → List Cause
value_cause name (Err fault.OutOfRange) = OutOfRange name ∷ []
value_cause name (Err fault.TooLong) = TextTooLong name ∷ []
value_cause name (Err fault.NoDate) = NoDate name ∷ []
value_cause name fitted = []

-- ---- kinds

-- two columns that are compared, or of which one is copied
abbrev pub kinds_meet : Name → ColumnDef → ColumnDef → List Cause
kinds_meet name column other = cause_if (not (same_kind (kind_of column.ty) (kind_of other.ty))) (WrongType name)

-- ---- predicates

-- the tests of one layer of a predicate, those of its parts one behind the other
abbrev pub layer_atoms : PredText-F (List AtomText) → List AtomText
layer_atoms (layer.Atom atom) = atom ∷ []
layer_atoms (layer.All atoms) = flat_map (λ part. part) atoms
layer_atoms (layer.Any atoms) = flat_map (λ part. part) atoms
layer_atoms (layer.Not atoms) = atoms

-- the atoms of a predicate in the order of the text
abbrev pub atoms_of : Option PredText → List AtomText
atoms_of None = []
atoms_of (Some pred) = fold-PredText (List AtomText) layer_atoms pred

-- 22 of an operand that is a name
abbrev pub operand_columns : List ColumnDef → Operand → List Cause
operand_columns columns (operand.Column name) = used_name columns name
operand_columns columns (operand.Literal literal) = []

-- 22 of the other column of a comparison; all other tests have literals alone
abbrev pub test_columns : List ColumnDef → TestText → List Cause
test_columns columns (Compare op operand) = operand_columns columns operand
test_columns columns test = []

-- 22 of the column that is tested, and then of the one that it is compared with
abbrev pub atom_columns : List ColumnDef → AtomText → List Cause
atom_columns columns atom = used_name columns atom.column ++ test_columns columns atom.test

-- the literals of a test
abbrev pub literals_of : TestText → List Literal
literals_of (Compare op (operand.Column name)) = []
literals_of (Compare op (operand.Literal literal)) = literal ∷ []
literals_of (Between low high) = low ∷ high ∷ []
literals_of (Within literals) = literals
literals_of IsNull = []

-- the other column of a test
abbrev pub other_column : List ColumnDef → TestText → Option ColumnDef
other_column columns (Compare op (operand.Column name)) = column_named columns name
other_column columns test = None

-- 30 of a test, where its column is there: the other column is of another kind, or a literal of another type
abbrev pub atom_types : List ColumnDef → AtomText → List Cause
atom_types columns atom = of_some (column_named columns atom.column) (λ column.
    of_some (other_column columns atom.test) (kinds_meet atom.column column)
    ++ flat_map (λ literal. type_cause atom.column (fit_compared column.ty literal)) (literals_of atom.test))

-- 31 and 34 of the literals of a test; no text is too long to be compared
abbrev pub atom_values : List ColumnDef → AtomText → List Cause
atom_values columns atom = of_some (column_named columns atom.column) (λ column.
    flat_map (λ literal. value_cause atom.column (fit_compared column.ty literal)) (literals_of atom.test))

-- the predicate of a WHERE: in each class all its tests, in the order of the text
abbrev pub where_judged : List ColumnDef → Option PredText → Judged
where_judged columns pred = record no_fault {
  columns = flat_map (atom_columns columns) (atoms_of pred);
  types = flat_map (atom_types columns) (atoms_of pred);
  values = flat_map (atom_values columns) (atoms_of pred);
}
