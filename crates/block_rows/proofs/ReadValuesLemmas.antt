-- What is read from the bytes of a row has a key in each column.
use Rattle.std.proofs.Common.{◌≡◌, ◌≤◌, ◌<◌, ◌+◌, ◌/◌, ◌%◌, ◌^◌, ℕ, zero, suc, Bool, true, false, IsTrue, List, [], ◌∷◌, ◌++◌, length, take, drop, get_or, refl, ap, sym, ◌∙◌, arith, subst}
use Rattle.std.specs.Prelude.{◌==◌, nat_le, nat_lt}
use Rattle.std.specs.Int.{cast_signed, w32, w64}
use Rattle.std.proofs.lemmas.Bool.Decides.{nat_tests}
use Rattle.std.proofs.lemmas.Int.{ints}
use Rattle.std.proofs.lemmas.List.{get_or-drop, length-take}
use Rattle.std.proofs.lemmas.List.Elements.{All-push}
use Rattle.byteorder.specs.Endian.{big_number}
use Rattle.byteorder.specs.Numbers.{big_from-lt}
use Rattle.mdc_values.specs.declared.value.ColType.{ColType}
use Rattle.mdc_values.specs.declared.value.ColType.TheVariants.{Integer, Bigint, Char, Date}
use Rattle.mdc_values.specs.declared.value.Value.TheVariants.{Null}
use Rattle.mdc_values.specs.Fitting.{in_bigint, in_integer}
use Rattle.mdc_values.specs.Value.{are_bytes, trimmed}
use Rattle.mdc_values.proofs.ValueLemmas.{are_bytes-from, are_bytes-trimmed}
use Rattle.mdc_ast.specs.declared.definition.ColumnDef.{ColumnDef}
use Rattle.mdc_ast.specs.declared.row.Row.{Row}
use Rattle.mdc_ast.specs.Truth.{value_at}
use Rattle.mdc_ast.specs.Definitions.{width}
use Rattle.mdc_ast.proofs.TestsLemmas.{and_true}
use Rattle.key_codec.specs.Keys.{has_key, type_of_column}
use Rattle.row_page.specs.Row.{column_value, columns_values, nulls_in, row_in, row_width_of, value_or_null}
use Rattle.row_page.specs.RowPage.{slot_bytes, slot_start}
use Rattle.row_page.proofs.ColumnLemmas.{length-trimmed}
use Rattle.block_rows.specs.HeldRows.{HasReadValues, HaveReadValues}
use Rattle.block_rows.specs.declared.hit.Hit.{Hit}

-- each byte is below 256
abbrev pub AreBytes : List ℕ → Type 0
AreBytes bytes = (i : ℕ) → get_or bytes i 0 < 256

are_taken : (n : ℕ) (bytes : List ℕ) → AreBytes bytes → AreBytes (take n bytes)
are_taken zero bytes are i = omega arith
are_taken (suc n) [] are i = omega arith
are_taken (suc n) (b ∷ bytes) are zero = are zero
are_taken (suc n) (b ∷ bytes) are (suc i) = are_taken n bytes (λ k. are (suc k)) i

are_dropped : (n : ℕ) (bytes : List ℕ) → AreBytes bytes → AreBytes (drop n bytes)
are_dropped n bytes are i = omega (arith, get_or-drop n bytes i 0, are (n + i))

-- ---- one value

in_32_bits : (n : ℕ) → n < 2 ^ 32 → IsTrue (in_integer (cast_signed w32 n))
in_32_bits n lt = grind (arith, ints)

in_64_bits : (n : ℕ) → n < 2 ^ 64 → IsTrue (in_bigint (cast_signed w64 n))
in_64_bits n lt = grind (arith, ints)

no_longer : (m n : ℕ) → m ≤ n → IsTrue (nat_le m n)
no_longer m n le = grind (arith, nat_tests)

below : (m n : ℕ) → m < n → IsTrue (nat_lt m n)
below m n lt = grind (arith, nat_tests)

has_key-column_value : (ty : ColType) (bytes : List ℕ) → length bytes ≤ width ty → AreBytes bytes → IsTrue (has_key ty (column_value ty bytes))
unfolding column_value
has_key-column_value Integer bytes le are = in_32_bits (big_number 4 bytes) (big_from-lt 0 4 bytes are)
has_key-column_value Bigint bytes le are = in_64_bits (big_number 8 bytes) (big_from-lt 0 8 bytes are)
has_key-column_value (Char n) bytes le are =
    let short = no_longer (length (trimmed bytes)) n (omega (arith, length-trimmed bytes, le)) in
    and_true (nat_le (length (trimmed bytes)) n) (are_bytes (trimmed bytes)) short (are_bytes-trimmed bytes (are_bytes-from bytes are))
has_key-column_value Date bytes le are = below (big_number 4 bytes) 4294967296 (big_from-lt 0 4 bytes are)

has_key-null : (ty : ColType) → IsTrue (has_key ty Null)
has_key-null Integer = refl
has_key-null Bigint = refl
has_key-null (Char n) = refl
has_key-null Date = refl

has_key-value_or_null : (null : Bool) (ty : ColType) (bytes : List ℕ) → length bytes ≤ width ty → AreBytes bytes → IsTrue (has_key ty (value_or_null null ty bytes))
has_key-value_or_null true ty bytes le are = has_key-null ty
has_key-value_or_null false ty bytes le are = has_key-column_value ty bytes le are

-- ---- all values

each-value : (columns : List ColumnDef) (nulls : ℕ) (bytes : List ℕ) → AreBytes bytes → (place : ℕ) → place < length columns
    → (place < length (columns_values columns nulls bytes)) × IsTrue (has_key (type_of_column columns place) (value_at (columns_values columns nulls bytes) place))
each-value [] nulls bytes are place lt = absurd (omega arith)
each-value (column ∷ columns) nulls bytes are zero lt = (
  omega arith,
  has_key-value_or_null (nulls % 2 == 1) column.ty (take (width column.ty) bytes) (omega (arith, length-take (width column.ty) bytes)) (are_taken (width column.ty) bytes are),
)
each-value (column ∷ columns) nulls bytes are (suc place) lt =
    let rest = each-value columns (nulls / 2) (drop (width column.ty) bytes) (are_dropped (width column.ty) bytes are) place (omega arith) in
    (omega (arith, rest.0), rest.1)

values_of_row_in : (columns : List ColumnDef) (bytes : List ℕ) → (row_in columns bytes).values ≡ columns_values columns (nulls_in bytes) (drop 10 bytes)
unfolding row_in
values_of_row_in columns bytes = refl

pub read-row : (columns : List ColumnDef) (bytes : List ℕ) → AreBytes bytes → HasReadValues columns (row_in columns bytes)
read-row columns bytes are = record {
  each = λ place lt.
      subst (λ values. (place < length values) × IsTrue (has_key (type_of_column columns place) (value_at values place))) (sym (values_of_row_in columns bytes))
      (each-value columns (nulls_in bytes) (drop 10 bytes) (are_dropped 10 bytes are) place lt);
}

-- the row that was copied from a slot of a page
pub read-slot : (columns view_columns row_columns : List ColumnDef) (page view_page bytes : List ℕ) (slot : ℕ) (row : Row) → view_page ≡ page → view_columns ≡ columns → row_columns ≡ view_columns
    → bytes ≡ slot_bytes view_columns view_page slot → row ≡ row_in row_columns bytes → AreBytes page → HasReadValues columns row
read-slot columns view_columns row_columns page view_page bytes slot row same alike of is copy are =
    let lie : AreBytes view_page = subst AreBytes (sym same) are in
    let read : HasReadValues columns (row_in columns bytes) =
    read-row columns bytes (subst AreBytes (sym is) (are_taken (row_width_of view_columns) (drop (slot_start view_columns slot) view_page) (are_dropped (slot_start view_columns slot) view_page lie))) in
    subst (HasReadValues columns) (ap (λ k. row_in k bytes) (sym (of ∙ alike)) ∙ sym copy) read

-- ---- rows that were found

pub read-pushed : (columns : List ColumnDef) (hits now : List Hit) (hit : Hit) → now ≡ hits ++ hit ∷ [] → HasReadValues columns hit.row → HaveReadValues columns hits → HaveReadValues columns now
read-pushed columns hits now hit is read were =
    subst (HaveReadValues columns) (sym is) (All-push (λ h. HasReadValues columns h.row) hits hit were read)
