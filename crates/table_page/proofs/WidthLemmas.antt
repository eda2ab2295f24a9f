-- Widths of rows and keys, taken from the room that is left.
use Rattle.std.proofs.Common.{◌≡◌, ℕ, ◌+◌, ◌<◌, ◌≤◌, ◌⊎◌, inl, inr, List, [], ◌∷◌, ◌++◌, Option, Some, None, ap, ◌∙◌, sym, arith, drop, get_or, length, refl, slice_get}
use Rattle.std.proofs.lemmas.List.{drop_more}
use Rattle.mdc_values.specs.declared.value.ColType.{ColType}
use Rattle.mdc_ast.specs.declared.definition.ColumnDef.{ColumnDef}
use Rattle.mdc_ast.specs.Definitions.{column_types, key_width, row_width, types_at, width}

least_row : (types : List ColType) → 10 ≤ row_width types
least_row [] = omega arith
least_row (ty ∷ types) = omega (arith, least_row types)

row-step : (columns : List ColumnDef) (i : ℕ) (column : ColumnDef) → i < length columns → column ≡ get_or columns i column
    → row_width (column_types (drop i columns)) ≡ width column.ty + row_width (column_types (drop (i + 1) columns))
row-step columns i column lt at =
    ap (λ some. row_width (column_types some)) (drop_more columns i column lt)
    ∙ ap (λ here. width here.ty + row_width (column_types (drop (i + 1) columns))) (sym at)

-- a column that has no room left
pub row_over : (columns : List ColumnDef) (i : ℕ) (column : ColumnDef) (room : ℕ) → i < length columns → column ≡ get_or columns i column
    → row_width (column_types columns) + room ≡ row_width (column_types (drop i columns)) + 990 → room < width column.ty
    → 1000 < row_width (column_types columns)
row_over columns i column room lt at left over =
    omega (arith, row-step columns i column lt at, least_row (column_types (drop (i + 1) columns)))

cases_of : {X : Type 0} (o : Option X) → (o ≡ None) ⊎ ((x : X) × (o ≡ Some x))
cases_of None = inl refl
cases_of (Some x) = inr (x, refl)

key_at-append : (columns : List ColumnDef) (xs ys : List ℕ) → key_width (types_at columns (xs ++ ys)) ≡ key_width (types_at columns xs) + key_width (types_at columns ys)
key_at-append columns [] ys = omega arith
key_at-append columns (place ∷ xs) ys =
    elim (cases_of (slice_get columns place)) [
      | inl e ↦ rw e (key_at-append columns xs ys)
      | inr (column, e) ↦ rw e (omega (arith, key_at-append columns xs ys))
    ]

-- one place more
pub key_at-step : (columns : List ColumnDef) (places : List ℕ) (i : ℕ) → i < length places
    → key_width (types_at columns (drop i places)) ≡ key_width (types_at columns (get_or places i 0 ∷ [])) + key_width (types_at columns (drop (i + 1) places))
key_at-step columns places i lt =
    ap (λ some. key_width (types_at columns some)) (drop_more places i 0 lt) ∙ key_at-append columns (get_or places i 0 ∷ []) (drop (i + 1) places)

-- what one place adds
pub key_at-some : (columns : List ColumnDef) (place : ℕ) (column : ColumnDef) → slice_get columns place ≡ Some column → 1 + width column.ty ≡ key_width (types_at columns (place ∷ []))
key_at-some columns place column e = rw e (omega arith)

pub key_at-none : (columns : List ColumnDef) (place : ℕ) → slice_get columns place ≡ None → 0 ≡ key_width (types_at columns (place ∷ []))
key_at-none columns place e = rw e refl
