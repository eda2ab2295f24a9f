-- The first cause of a list.
use Rattle.std.proofs.Common.{◌≡◌, ◌<◌, ◌+◌, ℕ, zero, suc, List, [], ◌∷◌, ◌++◌, refl, length, drop, get_or, arith, add-one}
use Rattle.std.specs.Prelude.{◌&&◌, true, false, Some}
use Rattle.mdc_values.specs.declared.value.Value.{Value}
use Rattle.mdc_ast.specs.declared.definition.ColumnDef.{ColumnDef}
use Rattle.statement_meaning.specs.Cause.{NullIn, cause_if}
use Rattle.statement_meaning.specs.Doing.{null_causes}
use Rattle.binder.specs.Saying.{first_of}
use Rattle.row_checks.specs.RowChange.{is_null_at}

-- what is said of the nulls from a column on: of that column, and of those behind it
null_causes-from : (columns : List ColumnDef) (values : List Value) (i : ℕ) (column : ColumnDef) → i < length columns → i < length values → column ≡ get_or columns i column →
    null_causes (drop i columns) (drop i values) ≡ cause_if (column.not_null && is_null_at i values) (NullIn column.name) ++ null_causes (drop (suc i) columns) (drop (suc i) values)
null_causes-from [] values i column lt within e = absurd (omega arith)
null_causes-from (first ∷ columns) [] i column lt within e = absurd (omega arith)
null_causes-from (first ∷ columns) (value ∷ values) zero column lt within e = rw e refl
null_causes-from (first ∷ columns) (value ∷ values) (suc i) column lt within e =
    let below : i < length columns = omega arith in
    let there : i < length values = omega arith in
    null_causes-from columns values i column below there e

-- a column with a null that it doesn't take is the first cause
pub null_there : (columns : List ColumnDef) (values : List Value) (i : ℕ) (column : ColumnDef) → i < length columns → i < length values → column ≡ get_or columns i column →
    column.not_null && is_null_at i values ≡ true → first_of (null_causes (drop i columns) (drop i values)) ≡ Some (NullIn column.name)
null_there columns values i column lt within e null = rw (null_causes-from columns values i column lt within e, null) refl

-- and one without says nothing
pub no_null_there : (columns : List ColumnDef) (values : List Value) (i : ℕ) (column : ColumnDef) → i < length columns → i < length values → column ≡ get_or columns i column →
    column.not_null && is_null_at i values ≡ false → first_of (null_causes (drop i columns) (drop i values)) ≡ first_of (null_causes (drop (i + 1) columns) (drop (i + 1) values))
no_null_there columns values i column lt within e null = rw (null_causes-from columns values i column lt within e, null, add-one) refl
