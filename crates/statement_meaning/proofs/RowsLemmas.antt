-- Rows of a valid table stay valid: those that are left, those that are added, and those that are changed.
use Rattle.std.proofs.Common.{◌≡◌, ℕ, ◌+◌, ◌≤◌, List, [], ◌∷◌, ◌++◌, length, map, Bool, true, false, cond, refl, ap, subst, arith}
use Rattle.std.specs.Prelude.{IsTrue, ◌&&◌, not, filter, flat_map, if◌then◌else◌}
use Rattle.std.specs.List.{AllByRecursion}
use Rattle.mdc_values.specs.declared.value.ColType.{ColType}
use Rattle.mdc_values.specs.declared.value.ColType.TheVariants.{Integer, Bigint, Char, Date}
use Rattle.mdc_values.specs.declared.value.Value.{Value}
use Rattle.mdc_values.specs.declared.value.Value.TheVariants.{Null}
use Rattle.mdc_ast.specs.declared.definition.ColumnDef.{ColumnDef}
use Rattle.mdc_ast.specs.declared.name.Name.{Name}
use Rattle.mdc_ast.specs.declared.row.Row.{Row}
use Rattle.mdc_ast.specs.declared.statement.InsertItem.{InsertItem}
use Rattle.mdc_ast.specs.declared.statement.InsertItem.TheVariants as item
use Rattle.statement_meaning.specs.Binding.{bound_tuple, given_for, item_value}
use Rattle.statement_meaning.specs.Cause.{cause_if, NullIn}
use Rattle.mdc_ast.specs.ValidDatabase.{RiseFrom}
use Rattle.mdc_ast.specs.Database.{fits_all, is_null, is_of_type, numbered}
use Rattle.mdc_ast.specs.Definitions.{is_same}
use Rattle.statement_meaning.specs.Doing.{null_causes}
use Rattle.statement_meaning.proofs.CausesLemmas.{none_if, none_of_both}
use Rattle.statement_meaning.proofs.LiteralsLemmas.{is_of_type-fit_of}
use Rattle.mdc_ast.proofs.TestsLemmas.{and_true, both}

-- ---- row numbers

rises_lower : (m n : ℕ) (rows : List Row) (next : ℕ) → m ≤ n → RiseFrom n rows next → RiseFrom m rows next
rises_lower m n [] next le h = omega (arith, le, h)
rises_lower m n (row ∷ rows) next le h = (omega (arith, le, h.0), h.1)

rises_by : (kept : Bool) (n : ℕ) (row : Row) (rows : List Row) (next : ℕ) → n ≤ row.number → RiseFrom (row.number + 1) rows next → RiseFrom n (cond kept (row ∷ rows) rows) next
rises_by true n row rows next le h = (le, h)
rises_by false n row rows next le h = rises_lower n (row.number + 1) rows next (omega (arith, le)) h

-- rows that are left
pub rises-filter : (p : Row → Bool) (n : ℕ) (rows : List Row) (next : ℕ) → RiseFrom n rows next → RiseFrom n (filter p rows) next
rises-filter p n [] next h = h
rises-filter p n (row ∷ rows) next h = rises_by (p row) n row (filter p rows) next h.0 (rises-filter p (row.number + 1) rows next h.1)

-- rows that keep their numbers
pub rises-map : (f : Row → Row) (n : ℕ) (rows : List Row) (next : ℕ) → ((row : Row) → (f row).number ≡ row.number) → RiseFrom n rows next → RiseFrom n (map f rows) next
rises-map f n [] next same h = h
rises-map f n (row ∷ rows) next same h = (rw (same row) h.0, rw (same row) (rises-map f (row.number + 1) rows next same h.1))

rises-numbered : (n : ℕ) (tuples : List (List Value)) → RiseFrom n (numbered n tuples) (n + length tuples)
rises-numbered n [] = omega arith
rises-numbered n (values ∷ tuples) = (omega arith, subst (RiseFrom (n + 1) (numbered (n + 1) tuples)) (omega arith) (rises-numbered (n + 1) tuples))

-- rows that are added
pub rises-append : (n : ℕ) (rows : List Row) (next : ℕ) (tuples : List (List Value)) → RiseFrom n rows next → RiseFrom n (rows ++ numbered next tuples) (next + length tuples)
rises-append n [] next tuples h = rises_lower n next (numbered next tuples) (next + length tuples) h (rises-numbered next tuples)
rises-append n (row ∷ rows) next tuples h = (h.0, rises-append (row.number + 1) rows next tuples h.1)

-- ---- values

fit_by : (Q : Row → Type 0) (kept : Bool) (row : Row) (rows : List Row) → Q row → AllByRecursion Q rows → AllByRecursion Q (cond kept (row ∷ rows) rows)
fit_by Q true row rows q h = (q, h)
fit_by Q false row rows q h = h

pub all-filter : (Q : Row → Type 0) (p : Row → Bool) (rows : List Row) → AllByRecursion Q rows → AllByRecursion Q (filter p rows)
all-filter Q p [] h = h
all-filter Q p (row ∷ rows) h = fit_by Q (p row) row (filter p rows) h.0 (all-filter Q p rows h.1)

pub all-append : (Q : Row → Type 0) (rows more : List Row) → AllByRecursion Q rows → AllByRecursion Q more → AllByRecursion Q (rows ++ more)
all-append Q [] more h k = k
all-append Q (row ∷ rows) more h k = (h.0, all-append Q rows more h.1 k)

-- each value is of its column's type, null or not
abbrev pub are_of_types : List ColumnDef → List Value → Bool
are_of_types [] [] = true
are_of_types (column ∷ columns) (value ∷ values) = is_of_type column.ty value && are_of_types columns values
are_of_types columns values = false

-- they fit where no null stands in a column that takes none
pub fits_all-are_of_types : (columns : List ColumnDef) (values : List Value) → IsTrue (are_of_types columns values) → null_causes columns values ≡ [] → IsTrue (fits_all columns values)
fits_all-are_of_types [] [] h n = refl
fits_all-are_of_types [] (value ∷ values) h n = cc
fits_all-are_of_types (column ∷ columns) [] h n = cc
fits_all-are_of_types (column ∷ columns) (value ∷ values) h n =
    let types : IsTrue (is_of_type column.ty value) × IsTrue (are_of_types columns values) = both _ _ h in
    let nulls : (cause_if (column.not_null && is_null value) (NullIn column.name) ≡ []) × (null_causes columns values ≡ []) = none_of_both _ _ n in
    and_true _ _ (and_true _ _ types.0 (ap not (none_if _ _ nulls.0))) (fits_all-are_of_types columns values types.1 nulls.1)

-- ---- INSERT

pub null_type : (ty : ColType) → IsTrue (is_of_type ty Null)
null_type Integer = refl
null_type Bigint = refl
null_type (Char n) = refl
null_type Date = refl

item_type : (column : ColumnDef) (item : InsertItem) → IsTrue (is_of_type column.ty (item_value column.ty item))
item_type column (item.Literal literal) = is_of_type-fit_of column.ty literal
item_type column item.Default = null_type column.ty

given_type : (column : ColumnDef) (names : List Name) (items : List InsertItem) → IsTrue (is_of_type column.ty (given_for column names items))
given_type column [] items = null_type column.ty
given_type column (name ∷ names) [] = null_type column.ty
given_type column (name ∷ names) (item ∷ items) = chosen (is_same name column.name) (item_value column.ty item) (given_for column names items) (item_type column item) (given_type column names items)
  where
    chosen : (b : Bool) (x y : Value) → IsTrue (is_of_type column.ty x) → IsTrue (is_of_type column.ty y) → IsTrue (is_of_type column.ty (if b then x else y))
    chosen true x y h k = h
    chosen false x y h k = k

tuple_types : (columns : List ColumnDef) (names : List Name) (items : List InsertItem) → IsTrue (are_of_types columns (bound_tuple columns names items))
tuple_types [] names items = refl
tuple_types (column ∷ columns) names items = and_true _ _ (given_type column names items) (tuple_types columns names items)

-- the rows of an INSERT fit, where no null stands in a column that takes none
pub numbered_fit : (columns : List ColumnDef) (names : List Name) (tuples : List (List InsertItem)) (n : ℕ) → flat_map (null_causes columns) (map (bound_tuple columns names) tuples) ≡ [] → AllByRecursion (λ row. IsTrue (fits_all columns row.values)) (numbered n (map (bound_tuple columns names) tuples))
numbered_fit columns names [] n e = tt
numbered_fit columns names (items ∷ tuples) n e =
    let parts : (null_causes columns (bound_tuple columns names items) ≡ []) × (flat_map (null_causes columns) (map (bound_tuple columns names) tuples) ≡ []) = none_of_both _ _ e in
    (fits_all-are_of_types columns (bound_tuple columns names items) (tuple_types columns names items) parts.0, numbered_fit columns names tuples (n + 1) parts.1)
