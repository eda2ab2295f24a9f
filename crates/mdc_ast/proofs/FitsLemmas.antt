-- What values that fit their columns are.
use Rattle.std.proofs.Common.{◌≡◌, ℕ, zero, suc, ◌≤◌, List, [], ◌∷◌, length, true, refl, ap, subst, arith}
use Rattle.std.specs.Prelude.{IsTrue, not, ◌&&◌, ◌==◌, nat_le, Some, slice_get}
use Rattle.std.specs.Str.{bytes_eq}
use Rattle.std.proofs.lemmas.Bool.Decides.{nat_tests}
use Rattle.std.proofs.lemmas.Slice.Eq.{bytes_eq-Decides}
use Rattle.mdc_values.specs.declared.value.ColType.TheVariants.{Char}
use Rattle.mdc_values.specs.declared.value.Value.{Value}
use Rattle.mdc_values.specs.declared.value.Value.TheVariants.{Text}
use Rattle.mdc_values.specs.Value.{are_bytes, trimmed}
use Rattle.mdc_ast.specs.declared.definition.ColumnDef.{ColumnDef}
use Rattle.mdc_ast.specs.Truth.{value_at}
use Rattle.mdc_ast.specs.Database.{is_of_type, is_null, is_trimmed, fits, fits_all}
use Rattle.mdc_ast.proofs.TestsLemmas.{and_true, both, some_is}

-- there is one value for each column
pub length-fits_all : (columns : List ColumnDef) (values : List Value) → IsTrue (fits_all columns values) → length values ≡ length columns
length-fits_all [] [] h = refl
length-fits_all [] (value ∷ values) h = cc
length-fits_all (column ∷ columns) [] h = cc
length-fits_all (column ∷ columns) (value ∷ values) h = ap suc (length-fits_all columns values (both (fits column value) (fits_all columns values) h).1)

-- the value in a column is of its type
pub fits_all-at : (columns : List ColumnDef) (values : List Value) (i : ℕ) (column : ColumnDef) → slice_get columns i ≡ Some column → IsTrue (fits_all columns values) → IsTrue (is_of_type column.ty (value_at values i))
fits_all-at [] values i column e h = cc
fits_all-at (column' ∷ columns) [] i column e h = cc
fits_all-at (column' ∷ columns) (value ∷ values) zero column e h =
    subst (λ c. IsTrue (is_of_type c.ty value)) (some_is column' column e) (both (is_of_type column'.ty value) (not (column'.not_null && is_null value)) (both (fits column' value) (fits_all columns values) h).0).0
fits_all-at (column' ∷ columns) (value ∷ values) (suc i) column e h = fits_all-at columns values i column e (both (fits column' value) (fits_all columns values) h).1

pub bytes_eq-refl : (xs : List ℕ) → IsTrue (bytes_eq xs xs)
bytes_eq-refl [] = refl
bytes_eq-refl (x ∷ xs) = rw (eqb-refl x) (bytes_eq-refl xs)
  where
    eqb-refl : (x : ℕ) → (x == x) ≡ true
    eqb-refl x = grind (arith, nat_tests)

-- ---- texts

-- a text is one of CHAR(n): no longer, with no blank at its end, and of bytes
pub record IsTextOf (n : ℕ) (text : List ℕ) : Type 0 where
  pub short : length text ≤ n
  pub ends : trimmed text ≡ text
  pub bytes : IsTrue (are_bytes text)

pub text_of_type : (n : ℕ) (text : List ℕ) → IsTrue (is_of_type (Char n) (Text text)) → IsTextOf n text
text_of_type n text h =
    let ends = both (nat_le (length text) n && is_trimmed text) (are_bytes text) h in
    let front = both (nat_le (length text) n) (is_trimmed text) ends.0 in
    record { short = grind (arith, nat_tests, front.0); ends = (bytes_eq-Decides (trimmed text) text).0 front.1; bytes = ends.1 }

pub is_of_type-text : (n : ℕ) (text : List ℕ) → IsTextOf n text → IsTrue (is_of_type (Char n) (Text text))
is_of_type-text n text is =
    let short : IsTrue (nat_le (length text) n) = grind (arith, nat_tests, is.short) in
    let ends : IsTrue (is_trimmed text) = (bytes_eq-Decides (trimmed text) text).1 is.ends in
    and_true (nat_le (length text) n && is_trimmed text) (are_bytes text) (and_true (nat_le (length text) n) (is_trimmed text) short ends) is.bytes
