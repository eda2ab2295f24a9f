-- Which rows fit a definition: their values fit the columns, and generated values are those of their bases (docs/SQL.md).
use Rattle.std.specs.Prelude.{◌≡◌, ◌/◌, ◌%◌, ℤ, pos, ◌+ℤ◌, int_div, IsTrue, List, [], ◌∷◌, Option, Some, None}
use Rattle.mdc_values.specs.declared.value.Value.{Value}
use Rattle.mdc_values.specs.declared.value.Value.TheVariants.{Null, Int, Day}
use Rattle.mdc_ast.specs.Truth.{value_at}
use Rattle.mdc_ast.specs.declared.definition.ColumnDef.{ColumnDef}
use Rattle.mdc_ast.specs.declared.definition.GenExpr.{GenExpr}
use Rattle.mdc_ast.specs.declared.definition.GenKind.{GenKind}
use Rattle.mdc_ast.specs.declared.definition.GenKind.TheVariants.{IntegerOver, Year, Month, Over, Plus}
use Rattle.mdc_ast.specs.declared.definition.TableDef.{TableDef}
use Rattle.mdc_ast.specs.declared.row.Row.{Row}
use Rattle.mdc_ast.specs.Database.{fits_all}

-- The value of a generated column for a value of its base: a day is the number yyyymmdd, a division drops the remainder
-- towards zero, and of a null it is null.
abbrev pub generated_value : GenKind → ℤ → Value → Value
generated_value IntegerOver k (Day day) = Int (int_div (pos day) k)
generated_value Year k (Day day) = Int (pos (day / 10000))
generated_value Month k (Day day) = Int (pos (day / 100 % 100))
generated_value Over k (Int n) = Int (int_div n k)
generated_value Plus k (Int n) = Int (n +ℤ k)
generated_value kind k value = Null

-- the value is the one that its column is made from, if from something, in a row of these values
abbrev pub IsMadeFrom : Option GenExpr → List Value → Value → Type 0
IsMadeFrom None values value = Unit {0}
IsMadeFrom (Some e) values value = value ≡ generated_value e.kind e.k (value_at values e.base)

-- of these columns and their values, each generated value is the one of its base
abbrev pub AreMadeFrom : List Value → List ColumnDef → List Value → Type 0
AreMadeFrom all [] values = Unit {0}
AreMadeFrom all (column ∷ columns) [] = Unit {0}
AreMadeFrom all (column ∷ columns) (value ∷ values) = IsMadeFrom column.made all value × AreMadeFrom all columns values

-- the row fits the definition: a value for each column, within its type, not null where it may not be, and made from its base
pub record RowFits (def : TableDef) (row : Row) : Type 0 where
  pub values : IsTrue (fits_all def.columns row.values)
  pub generated : AreMadeFrom row.values def.columns row.values
