-- The cell of a row: its values in the dimension columns, in the order of the dimensions (docs/FORMAT.md, "Placing").
use Rattle.std.specs.Prelude.{◌≡◌, ℕ, List, map, flat_map}
use Rattle.mdc_values.specs.declared.value.Value.{Value}
use Rattle.mdc_ast.specs.Truth.{value_at}
use Rattle.mdc_ast.specs.declared.definition.TableDef.{TableDef}
use Rattle.mdc_ast.specs.declared.row.Cell.{Cell}

-- the places of all dimension columns, in the order of the dimensions
abbrev pub cell_places : TableDef → List ℕ
cell_places def = flat_map (λ dim. dim) def.dims

-- the values of a row in all dimension columns
abbrev pub cell_values : TableDef → List Value → List Value
cell_values def values = map (value_at values) (cell_places def)

-- it is the cell of a row of these values
abbrev pub IsCellOf : TableDef → Cell → List Value → Type 0
IsCellOf def cell values = cell.values ≡ cell_values def values

-- rows of these values are of one cell
abbrev pub AreOfOneCell : TableDef → List Value → List Value → Type 0
AreOfOneCell def a b = cell_values def a ≡ cell_values def b
