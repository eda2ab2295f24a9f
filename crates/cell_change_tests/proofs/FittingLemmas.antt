-- A row that fits where no column is generated.
use Rattle.std.proofs.Common.{◌≡◌, Bool, List, [], ◌∷◌, sym}
use Rattle.std.specs.Prelude.{Option, Some, None, IsTrue, is_none}
use Rattle.std.specs.List.{list_all}
use Rattle.mdc_values.specs.declared.value.Value.{Value}
use Rattle.mdc_ast.specs.declared.definition.ColumnDef.{ColumnDef}
use Rattle.mdc_ast.specs.declared.definition.GenExpr.{GenExpr}
use Rattle.mdc_ast.specs.declared.definition.TableDef.{TableDef}
use Rattle.mdc_ast.specs.declared.row.Row.{Row}
use Rattle.mdc_ast.specs.Database.{fits_all}
use Rattle.mdc_ast.proofs.TestsLemmas.{both}
use Rattle.mdc_ast.specs.FittingRows.{AreMadeFrom, IsMadeFrom, RowFits}

-- a value of a column that isn't generated is free
not_made : (made : Option GenExpr) (all : List Value) (value : Value) → IsTrue (is_none made) → IsMadeFrom made all value
not_made None all value none = tt
not_made (Some e) all value none = absurd cc

-- no value is generated where no column is
none_made : (all : List Value) (columns : List ColumnDef) (values : List Value) → IsTrue (list_all (λ (column : ColumnDef). is_none column.made) columns) → AreMadeFrom all columns values
none_made all [] values none = tt
none_made all (column ∷ columns) [] none = tt
none_made all (column ∷ columns) (value ∷ values) none =
    let parts = both (is_none column.made) (list_all (λ (column : ColumnDef). is_none column.made) columns) none in
    (not_made column.made all value parts.0, none_made all columns values parts.1)

-- a row of values that fit, by what two looks at the columns answered
pub row_fits : (def : TableDef) (row : Row) {columns : List ColumnDef} {values : List Value} {none fit : Bool} → columns ≡ def.columns → values ≡ row.values
    → none ≡ list_all (λ (column : ColumnDef). is_none column.made) columns → IsTrue none → fit ≡ fits_all columns values → IsTrue fit → RowFits def row
row_fits def row is_columns is_values tested none told fit = record {
  values = rw (sym is_columns, sym is_values, sym told) fit;
  generated = none_made row.values def.columns row.values (rw (sym is_columns, sym tested) none);
}
