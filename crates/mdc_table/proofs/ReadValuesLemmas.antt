-- Rows that were read, or fit, have a value for each column.
use Rattle.std.proofs.Common.{◌≤◌, List, [], ◌∷◌, length, arith}
use Rattle.std.specs.Prelude.{IsTrue}
use Rattle.std.proofs.lemmas.Bool.Decides.{nat_tests}
use Rattle.mdc_ast.specs.declared.definition.ColumnDef.{ColumnDef}
use Rattle.mdc_ast.specs.declared.row.Row.{Row}
use Rattle.mdc_ast.specs.Database.{fits_all}
use Rattle.mdc_ast.specs.Definitions.{are_there}
use Rattle.block_rows.specs.HeldRows.{HasReadValues}
use Rattle.block_index.proofs.CellsLemmas.{keys_of_fitting}

-- a row that was read has a value for each column
pub read_length : (columns : List ColumnDef) (row : Row) → HasReadValues columns row → length columns ≤ length row.values
read_length [] row read = omega arith
read_length (column ∷ columns) row read = omega (arith, (read.each (length columns) (omega arith)).0)

-- and so has one that fits, with a key in it
pub read_of_fitting : (columns : List ColumnDef) (row : Row) → IsTrue (fits_all columns row.values) → HasReadValues columns row
read_of_fitting columns row fitted = record {
  each = λ place low.
      let there : IsTrue (are_there columns (place ∷ [])) = grind (arith, nat_tests, low) in
      (keys_of_fitting columns (place ∷ []) row.values there fitted).0;
}
