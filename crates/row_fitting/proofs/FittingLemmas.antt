-- Values that fit columns or don't, one after the other.
use Rattle.std.proofs.Common.{◌≡◌, ◌≢◌, ◌<◌, ◌≤◌, ◌+◌, ℕ, zero, suc, List, [], ◌∷◌, length, drop, get_or, Bool, true, false, refl, sym, arith, add-one}
use Rattle.std.specs.Prelude.{◌&&◌}
use Rattle.mdc_values.specs.declared.value.Value.{Value}
use Rattle.mdc_ast.specs.declared.definition.ColumnDef.{ColumnDef}
use Rattle.mdc_ast.specs.Database.{fits, fits_all}
use Rattle.mdc_ast.proofs.FitsLemmas.{length-fits_all}

-- another number of values doesn't fit
pub no_fit : (columns : List ColumnDef) (values : List Value) → length columns ≢ length values → fits_all columns values ≡ false
no_fit columns values differ = by_cases (fits_all columns values) refl
  where
    by_cases : (fit : Bool) → fits_all columns values ≡ fit → fits_all columns values ≡ false
    by_cases true e = absurd (differ (sym (length-fits_all columns values e)))
    by_cases false e = e

-- from a place on: the value there, and those behind it
fits_from : (columns : List ColumnDef) (values : List Value) (i : ℕ) (column : ColumnDef) (value : Value) → i < length columns → i < length values → column ≡ get_or columns i column → value ≡ get_or values i value →
    fits_all (drop i columns) (drop i values) ≡ (fits column value && fits_all (drop (suc i) columns) (drop (suc i) values))
fits_from [] values i column value lt within is_column is_value = absurd (omega arith)
fits_from (first ∷ columns) [] i column value lt within is_column is_value = absurd (omega arith)
fits_from (first ∷ columns) (old ∷ values) zero column value lt within is_column is_value = rw (is_column, is_value) refl
fits_from (first ∷ columns) (old ∷ values) (suc i) column value lt within is_column is_value =
    let below : i < length columns = omega arith in
    let there : i < length values = omega arith in
    fits_from columns values i column value below there is_column is_value

-- a value that doesn't fit
pub one_unfit : (columns : List ColumnDef) (values : List Value) (i : ℕ) (column : ColumnDef) (value : Value) → i < length columns → i < length values → column ≡ get_or columns i column → value ≡ get_or values i value →
    fits column value ≡ false → fits_all (drop i columns) (drop i values) ≡ false
one_unfit columns values i column value lt within is_column is_value e = rw (fits_from columns values i column value lt within is_column is_value, e) refl

-- and one that does
pub one_fits : (columns : List ColumnDef) (values : List Value) (i : ℕ) (column : ColumnDef) (value : Value) → i < length columns → i < length values → column ≡ get_or columns i column → value ≡ get_or values i value →
    fits column value ≡ true → fits_all (drop i columns) (drop i values) ≡ fits_all (drop (i + 1) columns) (drop (i + 1) values)
one_fits columns values i column value lt within is_column is_value e = rw (fits_from columns values i column value lt within is_column is_value, e, add-one) refl

-- behind the last one all fit
pub fits_behind : (columns : List ColumnDef) (values : List Value) (i : ℕ) → length columns ≡ length values → length columns ≤ i → fits_all (drop i columns) (drop i values) ≡ true
fits_behind [] [] zero alike past = refl
fits_behind [] [] (suc i) alike past = refl
fits_behind [] (value ∷ values) i alike past = absurd (omega (arith, alike))
fits_behind (column ∷ columns) [] i alike past = absurd (omega (arith, alike))
fits_behind (column ∷ columns) (value ∷ values) zero alike past = absurd (omega (arith, past))
fits_behind (column ∷ columns) (value ∷ values) (suc i) alike past = fits_behind columns values i (omega (arith, alike)) (omega (arith, past))
