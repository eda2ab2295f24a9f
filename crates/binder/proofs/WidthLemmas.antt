-- Widths of rows and keys, taken from the room that is left.
use Rattle.std.proofs.Common.{◌≡◌, ℕ, suc, ◌+◌, ◌<◌, ◌≤◌, ◌⊎◌, inl, inr, List, [], ◌∷◌, ◌++◌, Option, Some, None, add-one, arith, drop, drop-cons, get_or, length, refl}
use Rattle.std.specs.Prelude.{flat_map}
use Rattle.mdc_values.specs.declared.value.ColType.{ColType}
use Rattle.mdc_ast.specs.declared.name.Name.{Name}
use Rattle.mdc_ast.specs.declared.statement.ColumnText.{ColumnText}
use Rattle.mdc_ast.specs.Definitions.{key_width, row_width, width}
use Rattle.statement_meaning.specs.Judged.{text_named, text_types, type_of, types_named}

least_row : (types : List ColType) → 10 ≤ row_width types
least_row [] = omega arith
least_row (ty ∷ types) = omega (arith, least_row types)

row-step : (columns : List ColumnText) (i : ℕ) (column : ColumnText) → i < length columns → column ≡ get_or columns i column
    → row_width (text_types (drop i columns)) ≡ width (type_of column.ty) + row_width (text_types (drop (i + 1) columns))
row-step columns i column lt at = rw (drop-cons columns i column, add-one, ← at) refl

-- a column that has no room left
pub row_over : (columns : List ColumnText) (i : ℕ) (column : ColumnText) (room : ℕ) → i < length columns → column ≡ get_or columns i column
    → row_width (text_types columns) + room ≡ row_width (text_types (drop i columns)) + 990 → room < width (type_of column.ty)
    → 1000 < row_width (text_types columns)
row_over columns i column room lt at left over =
    omega (arith, row-step columns i column lt at, least_row (text_types (drop (i + 1) columns)))

cases_of : {X : Type 0} (o : Option X) → (o ≡ None) ⊎ ((x : X) × (o ≡ Some x))
cases_of None = inl refl
cases_of (Some x) = inr (x, refl)

key-append : (columns : List ColumnText) (xs ys : List Name) → key_width (types_named columns (xs ++ ys)) ≡ key_width (types_named columns xs) + key_width (types_named columns ys)
key-append columns [] ys = omega arith
key-append columns (name ∷ xs) ys =
    elim (cases_of (text_named columns name)) [
      | inl e ↦ rw e (key-append columns xs ys)
      | inr (column, e) ↦ rw e (omega (arith, key-append columns xs ys))
    ]

-- the key of the dimensions from a place on begins with that of the dimension there
pub dims-step : (columns : List ColumnText) (dims : List (List Name)) (i : ℕ) (dim : List Name) → i < length dims → dim ≡ get_or dims i dim
    → key_width (types_named columns (flat_map (λ dim. dim) (drop i dims))) ≡ key_width (types_named columns dim) + key_width (types_named columns (flat_map (λ dim. dim) (drop (i + 1) dims)))
dims-step columns dims i dim lt at = rw (drop-cons dims i dim, add-one, ← at) (key-append columns dim (flat_map (λ dim. dim) (drop (suc i) dims)))
