-- Which rows may be changed, and how wide rows are.
use Rattle.std.proofs.Common.{◌≡◌, ◌<◌, ℕ, zero, suc, List, [], ◌∷◌, ◌++◌, refl, length, arith, subst, sym}
use Rattle.std.specs.Prelude.{Bool, true, false, Option, Some, IsTrue, ◌==◌, ◌||◌, not, flat_map, slice_get, nat_lt, if◌then◌else◌, ℤ}
use Rattle.std.specs.List.{AllByRecursion}
use Rattle.std.proofs.lemmas.Bool.Decides.{nat_tests}
use Rattle.std.proofs.lemmas.Int.{ints}
use Rattle.mdc_values.specs.Fitting.{in_bigint, in_integer}
use Rattle.mdc_values.specs.declared.value.ColType.{ColType}
use Rattle.mdc_values.specs.declared.value.ColType.TheVariants.{Integer, Bigint, Char, Date}
use Rattle.mdc_values.specs.declared.value.Value.{Value}
use Rattle.mdc_values.specs.declared.value.Value.TheVariants.{Null, Int, Text, Day}
use Rattle.mdc_ast.specs.declared.bound.BoundSet.{BoundSet}
use Rattle.mdc_ast.specs.declared.definition.ColumnDef.{ColumnDef}
use Rattle.mdc_ast.specs.declared.predicate.Pred.{Pred}
use Rattle.mdc_ast.specs.declared.row.Row.{Row}
use Rattle.mdc_ast.specs.Database.{fits_all}
use Rattle.statement_meaning.specs.Doing.{changed_causes, holds_number, item_on, null_causes, outgrows, set_causes, set_on}
use Rattle.mdc_ast.specs.Truth.{qualifies}
use Rattle.statement_meaning.proofs.CausesLemmas.{none_if_not, none_of_both, none_of_each, none_of_some}
use Rattle.mdc_ast.proofs.FitsLemmas.{length-fits_all}
use Rattle.mdc_ast.proofs.TestsLemmas.{and_true, both}
use Rattle.answer_text.specs.Lines.{are_rows_wide}
use Rattle.row_checks.proofs.Each.{number_is, same_number}
use Rattle.row_checks.specs.Filtering.{are_changeable, may_change}
use Rattle.row_checks.specs.RowChange.{are_storable, are_within, is_storable, is_within, item_is_within}

-- ---- how wide rows are

-- rows that fit have a value for each column
pub rows_are_wide : (columns : List ColumnDef) (rows : List Row) → AllByRecursion (λ row. IsTrue (fits_all columns row.values)) rows → IsTrue (are_rows_wide (length columns) rows)
rows_are_wide columns [] fit = refl
rows_are_wide columns (row ∷ rows) fit =
    and_true (length row.values == length columns) (are_rows_wide (length columns) rows) (same_number (length row.values) (length columns) (length-fits_all columns row.values fit.0)) (rows_are_wide columns rows fit.1)

-- ---- what may be changed

-- a number of 32 bits has 64
wider : (n : ℤ) → in_integer n ≡ true → in_bigint n ≡ true
wider n e = grind (arith, ints, e)

-- what is no smaller than its column can be stored
holds : (ty : ColType) (n : ℤ) → holds_number ty n ≡ true → IsTrue (in_bigint n)
holds Integer n e = wider n e
holds Bigint n e = e
holds (Char m) n e = cc
holds Date n e = cc

storable : (column : ColumnDef) (value : Value) → outgrows column value ≡ [] → IsTrue (is_storable value)
storable column Null e = refl
storable column (Int n) e = holds column.ty n (none_if_not (holds_number column.ty n) _ e)
storable column (Text text) e = refl
storable column (Day day) e = refl

-- a place below the number of columns has one
pub there_is : (columns : List ColumnDef) (i : ℕ) → IsTrue (nat_lt i (length columns)) → (column : ColumnDef) × (slice_get columns i ≡ Some column)
there_is [] i h = absurd (omega (arith, below i h))
  where
    below : (i : ℕ) → IsTrue (nat_lt i 0) → i < 0
    below i h = grind (arith, nat_tests, h)
there_is (first ∷ columns) zero h = (first, refl)
there_is (first ∷ columns) (suc i) h = there_is columns i (fewer i (length columns) h)
  where
    fewer : (i n : ℕ) → IsTrue (nat_lt (suc i) (suc n)) → IsTrue (nat_lt i n)
    fewer i n h = grind (arith, nat_tests, h)

-- items that nothing is said against give what can be stored
pub storable_items : (columns : List ColumnDef) (was : List Value) (sets : List BoundSet) → IsTrue (are_within (length columns) sets) → flat_map (set_causes columns was) sets ≡ [] → IsTrue (are_storable was sets)
storable_items columns was [] within e = refl
storable_items columns was (first ∷ sets) within e =
    let parts : IsTrue (is_within (length columns) first) × IsTrue (are_within (length columns) sets) = both (is_within (length columns) first) (are_within (length columns) sets) within in
    let place : IsTrue (nat_lt first.column (length columns)) = (both (nat_lt first.column (length columns)) (item_is_within (length columns) first.item) parts.0).0 in
    let found : (column : ColumnDef) × (slice_get columns first.column ≡ Some column) = there_is columns first.column place in
    let causes = none_of_each (set_causes columns was) first sets e in
    and_true (is_storable (item_on was first.item)) (are_storable was sets)
    (storable found.0 (item_on was first.item) (none_of_some (slice_get columns first.column) found.0 _ found.1 causes.0))
    (storable_items columns was sets parts.1 causes.1)

-- rows that nothing is said against may be changed
pub rows_are_changeable : (columns : List ColumnDef) (sets : List BoundSet) (pred : Option Pred) (rows : List Row) → IsTrue (are_within (length columns) sets) → IsTrue (are_rows_wide (length columns) rows) → flat_map (changed_causes columns sets pred) rows ≡ [] → IsTrue (are_changeable sets pred rows)
rows_are_changeable columns sets pred [] within wide e = refl
rows_are_changeable columns sets pred (row ∷ rows) within wide e =
    let causes = none_of_each (changed_causes columns sets pred) row rows e in
    let widths : IsTrue (length row.values == length columns) × IsTrue (are_rows_wide (length columns) rows) = both (length row.values == length columns) (are_rows_wide (length columns) rows) wide in
    let here : IsTrue (are_within (length row.values) sets) = subst (λ n. IsTrue (are_within n sets)) (sym (number_is (length row.values) (length columns) widths.0)) within in
    and_true (may_change sets pred row) (are_changeable sets pred rows)
    (and_true (are_within (length row.values) sets) (not (qualifies pred row.values) || are_storable row.values sets) here (by_cases (qualifies pred row.values) causes.0))
    (rows_are_changeable columns sets pred rows within widths.1 causes.1)
  where
    by_cases : (b : Bool) → (if b then flat_map (set_causes columns row.values) sets ++ null_causes columns (set_on row.values sets row.values) else []) ≡ [] → IsTrue (not b || are_storable row.values sets)
    by_cases false e = refl
    by_cases true e = storable_items columns row.values sets within (none_of_both (flat_map (set_causes columns row.values) sets) _ e).0
