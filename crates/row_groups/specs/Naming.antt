-- The columns that a query names.
use Rattle.std.specs.Prelude.{◌≡◌, ℕ, nat_lt, List, [], ◌∷◌, length, if◌then◌else◌}
use Rattle.std.specs.List.{AllByRecursion}
use Rattle.mdc_values.specs.declared.value.Value.{Value}
use Rattle.mdc_ast.specs.declared.bound.BoundOut.{BoundOut}
use Rattle.mdc_ast.specs.declared.bound.BoundOut.TheVariants as out
use Rattle.mdc_ast.specs.declared.row.Row.{Row}
use Rattle.mdc_ast.specs.Truth.{value_at}
use Rattle.row_groups.specs.Shape.{Shape}

-- the column that an entry of the list names, and none of COUNT(*)
abbrev pub columns_of : BoundOut → List ℕ
columns_of (out.Column column) = column ∷ []
columns_of out.CountAll = []
columns_of (out.Count column) = column ∷ []
columns_of (out.Sum column) = column ∷ []
columns_of (out.Min column) = column ∷ []
columns_of (out.Max column) = column ∷ []

-- the same values in these columns
abbrev pub AgreeIn : List ℕ → List Value → List Value → Type 0
AgreeIn columns a b = AllByRecursion (λ column. value_at a column ≡ value_at b column) columns

-- two rows with the same number have the same values in the columns that the list, GROUP BY and ORDER BY name
pub record AgreeInNamed (shape : Shape) (a b : Row) : Type 0 where
  pub number : a.number ≡ b.number
  pub shown : AllByRecursion (λ out. AgreeIn (columns_of out) a.values b.values) shape.outs
  pub grouped : AgreeIn shape.group a.values b.values
  pub sorted : AllByRecursion (λ part. value_at a.values part.column ≡ value_at b.values part.column) shape.order

-- the lowest number of some rows
abbrev pub lowest_of : Row → List Row → ℕ
lowest_of row [] = row.number
lowest_of row (next ∷ rows) = if nat_lt (lowest_of next rows) row.number then lowest_of next rows else row.number

-- one row and others, as many as are counted, of which the lowest has this number, and which have the values in the columns that are named
pub record AreAlike (shape : Shape) (lowest count : ℕ) (values : List Value) (row : Row) (rows : List Row) : Type 0 where
  pub many : length (row ∷ rows) ≡ count
  pub first : lowest_of row rows ≡ lowest
  pub agree : AllByRecursion (λ (one : Row). AgreeInNamed shape one (record { number = one.number; values = values })) (row ∷ rows)
