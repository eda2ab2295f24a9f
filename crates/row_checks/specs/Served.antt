-- What a bound statement needs of the definitions that it was bound on, whatever rows there are.
use Rattle.std.specs.Prelude.{◌<◌, ◌≤◌, ◌≡◌, ◌++◌, ℕ, List, [], length, flat_map, Bool, true, false, IsTrue, IsSome, Option, Some, None, slice_get}
use Rattle.std.specs.List.{list_all}
use Rattle.mdc_values.specs.declared.value.ColType.{ColType}
use Rattle.mdc_values.specs.declared.value.ColType.TheVariants as column
use Rattle.mdc_values.specs.declared.value.Value.{Value}
use Rattle.mdc_values.specs.declared.value.Value.TheVariants.{Null, Int, Text, Day}
use Rattle.mdc_ast.specs.Truth.{value_at}
use Rattle.mdc_ast.specs.declared.bound.Bound.{Bound}
use Rattle.mdc_ast.specs.declared.bound.Bound.TheVariants as bound
use Rattle.mdc_ast.specs.declared.bound.BoundOut.{BoundOut}
use Rattle.mdc_ast.specs.declared.bound.BoundSet.{BoundSet}
use Rattle.mdc_ast.specs.declared.definition.ColumnDef.{ColumnDef}
use Rattle.mdc_ast.specs.declared.definition.IndexDef.{IndexDef}
use Rattle.mdc_ast.specs.declared.definition.TableDef.{TableDef}
use Rattle.mdc_ast.specs.declared.predicate.Pred.{Pred}
use Rattle.mdc_ast.specs.Database.{fits_all}
use Rattle.mdc_ast.specs.Definitions.{Definitions, def_at, empty_place, index_place_of, place_of}
use Rattle.mdc_ast.specs.ValidDatabase.{IsValidIndex}
use Rattle.statement_meaning.specs.Doing.{null_causes, set_causes, set_on}
use Rattle.answer_text.specs.Lines.{are_outs_within}
use Rattle.row_checks.specs.Executing.{are_tuples_wide}
use Rattle.row_filter.specs.Filtering.{may_filter}
use Rattle.row_checks.specs.RowChange.{are_within}

-- a value is of the kind of a column's type, within the type or not
abbrev pub is_of_kind : ColType → Value → Bool
is_of_kind column.Integer (Int n) = true
is_of_kind column.Bigint (Int n) = true
is_of_kind (column.Char n) (Text text) = true
is_of_kind column.Date (Day day) = true
is_of_kind ty Null = true
is_of_kind ty value = false

-- there is a value for each column, of the kind of its type, as in a row that was read from a page of these columns
pub record HaveKinds (columns : List ColumnDef) (values : List Value) : Type 0 where
  pub wide : length columns ≤ length values
  pub each : (place : ℕ) (column : ColumnDef) → slice_get columns place ≡ Some column → IsTrue (is_of_kind column.ty (value_at values place))

-- the predicate may be judged on each row that was read
pub record MayJudge (pred : Option Pred) (def : TableDef) : Type 0 where
  pub judged : (values : List Value) → HaveKinds def.columns values → IsTrue (may_filter pred values)

-- each tuple has a value for each column, and those against which nothing is said fit
pub record MayPut (tuples : List (List Value)) (def : TableDef) : Type 0 where
  pub wide : IsTrue (are_tuples_wide (length def.columns) tuples)
  pub fit : flat_map (null_causes def.columns) tuples ≡ [] → IsTrue (list_all (fits_all def.columns) tuples)

-- the items name columns that are there, and a row that fits becomes one that fits where nothing is said against it
pub record MaySet (sets : List BoundSet) (pred : Option Pred) (def : TableDef) : Type 0 where
  pub judge : MayJudge pred def
  pub within : IsTrue (are_within (length def.columns) sets)
  pub fit : (values : List Value) → IsTrue (fits_all def.columns values)
      → flat_map (set_causes def.columns values) sets ++ null_causes def.columns (set_on values sets values) ≡ [] → IsTrue (fits_all def.columns (set_on values sets values))

-- what is shown is there
pub record MayShowRows (outs : List BoundOut) (pred : Option Pred) (def : TableDef) : Type 0 where
  pub judge : MayJudge pred def
  pub shown : IsTrue (are_outs_within (length def.columns) outs)

-- the table has room for one record index more, and this one is valid
pub record MayGainIndex (index : IndexDef) (def : TableDef) : Type 0 where
  pub few : length def.indexes < 8
  pub valid : IsValidIndex def.columns index

-- the table has a record index in that place
pub record MayLoseIndex (index : ℕ) (def : TableDef) : Type 0 where
  pub within : index < length def.indexes

-- a table is defined, of which this holds
abbrev pub IsDefined : Option TableDef → (TableDef → Type 0) → Type 0
IsDefined None P = ⊥
IsDefined (Some def) P = P def

-- what a bound statement needs of the definitions
abbrev pub IsServed : Definitions → Bound → Type 0
IsServed defs (bound.CreateTable def) = IsSome (empty_place defs) × (place_of defs def.name ≡ None)
IsServed defs (bound.CreateIndex place index) = IsDefined (def_at defs place) (MayGainIndex index) × (index_place_of defs index.name ≡ None)
IsServed defs (bound.DropIndex place index) = IsDefined (def_at defs place) (MayLoseIndex index)
IsServed defs (bound.DropTable place) = IsSome (def_at defs place)
IsServed defs (bound.Insert place tuples) = IsDefined (def_at defs place) (MayPut tuples)
IsServed defs (bound.Update place sets pred) = IsDefined (def_at defs place) (MaySet sets pred)
IsServed defs (bound.Delete place pred) = IsDefined (def_at defs place) (MayJudge pred)
IsServed defs (bound.Query select) = IsDefined (def_at defs select.table) (MayShowRows select.outs select.pred)
IsServed defs (bound.Explain select) = IsDefined (def_at defs select.table) (MayJudge select.pred)
IsServed defs (bound.Reclaim place) = IsSome (def_at defs place)
IsServed defs statement = Unit {0}
