-- The rows of an INSERT that gives every column, each item fitted to its column once.
use Rattle.std.specs.Prelude.{◌≡◌, List, [], ◌∷◌}
use Rattle.mdc_values.specs.declared.value.Value.{Value}
use Rattle.mdc_ast.specs.declared.definition.ColumnDef.{ColumnDef}
use Rattle.mdc_ast.specs.declared.statement.InsertItem.{InsertItem}
use Rattle.statement_meaning.specs.Binding.{item_value}
use Rattle.statement_meaning.specs.Judged.{given_to, given_value}

-- nothing is said against an item in its column, and this is its value there
pub record IsFitted (column : ColumnDef) (item : InsertItem) (value : Value) : Type 0 where
  pub given : given_to column item ≡ []
  pub within : given_value column item ≡ []
  pub worth : value ≡ item_value column.ty item

-- an item for each column, fitted to it
abbrev pub AreFitted : List ColumnDef → List InsertItem → List Value → Type 0
AreFitted [] [] [] = Unit {0}
AreFitted (column ∷ columns) (item ∷ items) (value ∷ values) = IsFitted column item value × AreFitted columns items values
AreFitted columns items values = ⊥

-- each tuple is fitted to all columns
abbrev pub AreWhole : List ColumnDef → List (List InsertItem) → List (List Value) → Type 0
AreWhole columns [] [] = Unit {0}
AreWhole columns (tuple ∷ tuples) (row ∷ rows) = AreFitted columns tuple row × AreWhole columns tuples rows
AreWhole columns tuples rows = ⊥
