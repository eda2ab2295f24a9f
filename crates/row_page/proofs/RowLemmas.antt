-- Rows as bytes, written and read.
use Rattle.std.proofs.Common.{◌≡◌, ◌≤◌, ◌<◌, ◌+◌, ◌-◌, ◌*◌, ◌/◌, ◌%◌, ◌^◌, ℕ, zero, suc, Bool, true, false, cond, IsTrue, List, [], ◌∷◌, ◌++◌, length, take, drop, replicate, get_or, Some, refl, ap, sym, subst, ◌∙◌, arith, length-append, append-nil, append_assoc}
use Rattle.std.specs.Prelude.{◌&&◌, ◌==◌, slice_get, ◌↔◌}
use Rattle.std.proofs.Math.Nat.{div-div-eq-div-mul, div-one, mul-add, mul_assoc, pow-le-pow_right, pow-suc, pow-succ'}
use Rattle.std.proofs.lemmas.Bool.Decides.{nat_tests}
use Rattle.std.proofs.lemmas.List.{at_drop_all, at_drop_more, drop_all, drop_more, drop-drop, get_or-drop, length-drop, length-replicate, length-take, take-append-drop, take-take, take_all, take_at, drop_at}
use Rattle.std.proofs.lemmas.Nat.{be_bytes_2, be_bytes_8}
use Rattle.byteorder.specs.Endian.{big_bytes, big_number}
use Rattle.byteorder.specs.Numbers.{big_from-take, big_number-reads_back}
use Rattle.mdc_values.specs.declared.value.ColType.{ColType}
use Rattle.mdc_values.specs.declared.value.Value.{Value}
use Rattle.mdc_values.specs.declared.value.Value.TheVariants.{Null, Int, Text, Day}
use Rattle.mdc_ast.specs.declared.definition.ColumnDef.{ColumnDef}
use Rattle.mdc_ast.specs.declared.row.Row.{Row}
use Rattle.mdc_ast.specs.Database.{fits, fits_all, is_null, is_of_type}
use Rattle.mdc_ast.specs.Definitions.{width}
use Rattle.row_page.specs.Row.{AreNullsBlank, bytes_of_column, column_bytes, columns_bytes, columns_values, null_bits, nulls_in, row_bytes, row_in, row_width_of, stored_bytes, value_or_null}
use Rattle.row_page.specs.RowPage.{IsWrittenRow}
use Rattle.row_page.proofs.ColumnLemmas.{AreBytes, column_bytes-Null, column_bytes-column_value, column_value-column_bytes, is_null-column_value, length-column_bytes}

-- ---- widths

-- a row has at least its number and its null bits
pub row_width_of-ge : (columns : List ColumnDef) → 10 ≤ row_width_of columns
row_width_of-ge [] = omega arith
row_width_of-ge (column ∷ columns) = omega (arith, row_width_of-ge columns)

-- a column lies within the row
pub row_width_of-take_more : (columns : List ColumnDef) (i : ℕ) (d : ColumnDef) → i < length columns
    → row_width_of (take i columns) + width (get_or columns i d).ty ≤ row_width_of columns
row_width_of-take_more [] i d lt = absurd (omega arith)
row_width_of-take_more (column ∷ columns) zero d lt = omega (arith, row_width_of-ge columns)
row_width_of-take_more (column ∷ columns) (suc i) d lt = omega (arith, row_width_of-take_more columns i d (omega arith))

-- where the bytes of a column stand
pub bytes_of_column-take : (columns : List ColumnDef) (i : ℕ) (d : ColumnDef) (bytes : List ℕ) → i < length columns
    → bytes_of_column columns i bytes ≡ take (width (get_or columns i d).ty) (drop (row_width_of (take i columns) - 10) bytes)
bytes_of_column-take [] i d bytes lt = absurd (omega arith)
bytes_of_column-take (column ∷ columns) zero d bytes lt = refl
bytes_of_column-take (column ∷ columns) (suc i) d bytes lt =
    let at : width column.ty + (row_width_of (take i columns) - 10) ≡ width column.ty + row_width_of (take i columns) - 10 = omega (arith, row_width_of-ge (take i columns)) in
    bytes_of_column-take columns i d (drop (width column.ty) bytes) (omega arith)
    ∙ ap (take (width (get_or columns i d).ty)) (drop-drop (row_width_of (take i columns) - 10) (width column.ty) bytes ∙ ap (λ n. drop n bytes) at)

pub stored_bytes-take : (columns : List ColumnDef) (i : ℕ) (d : ColumnDef) (bytes : List ℕ) → i < length columns
    → stored_bytes columns i bytes ≡ take (width (get_or columns i d).ty) (drop (row_width_of (take i columns)) bytes)
stored_bytes-take columns i d bytes lt =
    let at : 10 + (row_width_of (take i columns) - 10) ≡ row_width_of (take i columns) = omega (arith, row_width_of-ge (take i columns)) in
    bytes_of_column-take columns i d (drop 10 bytes) lt
    ∙ ap (take (width (get_or columns i d).ty)) (drop-drop (row_width_of (take i columns) - 10) 10 bytes ∙ ap (λ n. drop n bytes) at)

pub length-stored_bytes : (columns : List ColumnDef) (i : ℕ) (d : ColumnDef) (bytes : List ℕ) → i < length columns → length bytes ≡ row_width_of columns
    → length (stored_bytes columns i bytes) ≡ width (get_or columns i d).ty
length-stored_bytes columns i d bytes lt len =
    ap length (stored_bytes-take columns i d bytes lt)
    ∙ omega (arith, length-take (width (get_or columns i d).ty) (drop (row_width_of (take i columns)) bytes), length-drop (row_width_of (take i columns)) bytes, row_width_of-take_more columns i d lt)

-- ---- one value of a row

half : (n k : ℕ) → n / 2 ^ suc k ≡ n / 2 / 2 ^ k
half n k = ap (λ p. n / p) (pow-succ' 2 k) ∙ sym (div-div-eq-div-mul n 2 (2 ^ k))

-- the value of a column
pub get-columns_values : (columns : List ColumnDef) (i : ℕ) (d : ColumnDef) (nulls : ℕ) (bytes : List ℕ) → i < length columns
    → slice_get (columns_values columns nulls bytes) i ≡ Some (value_or_null (nulls / 2 ^ i % 2 == 1) (get_or columns i d).ty (bytes_of_column columns i bytes))
get-columns_values [] i d nulls bytes lt = absurd (omega arith)
get-columns_values (column ∷ columns) zero d nulls bytes lt =
    ap (λ n. Some (value_or_null (n % 2 == 1) column.ty (take (width column.ty) bytes))) (sym (div-one nulls))
get-columns_values (column ∷ columns) (suc i) d nulls bytes lt =
    get-columns_values columns i d (nulls / 2) (drop (width column.ty) bytes) (omega arith)
    ∙ ap (λ n. Some (value_or_null (n % 2 == 1) (get_or columns i d).ty (bytes_of_column columns i (drop (width column.ty) bytes)))) (sym (half nulls i))

pub get-row_in : (columns : List ColumnDef) (i : ℕ) (d : ColumnDef) (bytes : List ℕ) → i < length columns
    → slice_get (row_in columns bytes).values i ≡ Some (value_or_null (nulls_in bytes / 2 ^ i % 2 == 1) (get_or columns i d).ty (stored_bytes columns i bytes))
unfolding row_in
get-row_in columns i d bytes lt = get-columns_values columns i d (nulls_in bytes) (drop 10 bytes) lt

-- ---- what was written is read

both : (a b : Bool) → IsTrue (a && b) → IsTrue a × IsTrue b
both true b h = (refl, h)
both false b h = cc

pub of_type : (column : ColumnDef) (value : Value) → IsTrue (fits column value) → IsTrue (is_of_type column.ty value)
of_type column value h = (both _ _ h).0

pub length-columns_bytes : (columns : List ColumnDef) (values : List Value) → IsTrue (fits_all columns values) → length (columns_bytes columns values) + 10 ≡ row_width_of columns
length-columns_bytes [] values h = refl
length-columns_bytes (column ∷ columns) [] h = cc
length-columns_bytes (column ∷ columns) (value ∷ values) h =
    let parts : IsTrue (fits column value) × IsTrue (fits_all columns values) = both _ _ h in
    omega (arith, length-append (column_bytes column.ty value) (columns_bytes columns values), length-column_bytes column.ty value (of_type column value parts.0), length-columns_bytes columns values parts.1)

null_bit : (b : Bool) (m : ℕ) → ((cond b 1 0 + 2 * m) % 2 == 1) ≡ b
null_bit true m = grind (arith, nat_tests)
null_bit false m = grind (arith, nat_tests)

null_rest : (b : Bool) (m : ℕ) → (cond b 1 0 + 2 * m) / 2 ≡ m
null_rest true m = omega arith
null_rest false m = omega arith

is_Null : (value : Value) → is_null value ≡ true → Null ≡ value
is_Null Null e = refl
is_Null (Int z) e = cc
is_Null (Text t) e = cc
is_Null (Day d) e = cc

value_read : (ty : ColType) (value : Value) (b : Bool) → is_null value ≡ b → IsTrue (is_of_type ty value) → value_or_null b ty (column_bytes ty value) ≡ value
value_read ty value true e h = is_Null value e
value_read ty value false e h = column_value-column_bytes ty value h e

pub columns_values-columns_bytes : (columns : List ColumnDef) (values : List Value) → IsTrue (fits_all columns values) → columns_values columns (null_bits values) (columns_bytes columns values) ≡ values
columns_values-columns_bytes [] [] h = refl
columns_values-columns_bytes [] (value ∷ values) h = cc
columns_values-columns_bytes (column ∷ columns) [] h = cc
columns_values-columns_bytes (column ∷ columns) (value ∷ values) h =
    let parts = both _ _ h in
    let typed : IsTrue (is_of_type column.ty value) = of_type column value parts.0 in
    let size : length (column_bytes column.ty value) ≡ width column.ty = length-column_bytes column.ty value typed in
    let first : take (width column.ty) (column_bytes column.ty value ++ columns_bytes columns values) ≡ column_bytes column.ty value = take_at (column_bytes column.ty value) (columns_bytes columns values) (width column.ty) size in
    let rest : drop (width column.ty) (column_bytes column.ty value ++ columns_bytes columns values) ≡ columns_bytes columns values = drop_at (column_bytes column.ty value) (columns_bytes columns values) (width column.ty) size in
    rw (null_bit (is_null value) (null_bits values), null_rest (is_null value) (null_bits values), first, rest, value_read column.ty value (is_null value) refl typed)
    (ap (λ vs. value ∷ vs) (columns_values-columns_bytes columns values parts.1))

one_at_most : (b : Bool) → cond b 1 0 ≤ 1
one_at_most true = omega arith
one_at_most false = omega arith

-- null bits have as many places as there are values
pub null_bits-lt : (values : List Value) → null_bits values < 2 ^ length values
null_bits-lt [] = omega arith
null_bits-lt (value ∷ values) = omega (arith, null_bits-lt values, pow-succ' 2 (length values), one_at_most (is_null value))

pub length-fits_all : (columns : List ColumnDef) (values : List Value) → IsTrue (fits_all columns values) → length values ≡ length columns
length-fits_all [] [] h = refl
length-fits_all [] (value ∷ values) h = cc
length-fits_all (column ∷ columns) [] h = cc
length-fits_all (column ∷ columns) (value ∷ values) h = ap suc (length-fits_all columns values (both _ _ h).1)

pub length-row_bytes : (columns : List ColumnDef) (row : Row) → IsTrue (fits_all columns row.values) → length (row_bytes columns row) ≡ row_width_of columns
unfolding row_bytes
length-row_bytes columns row h = omega (arith, length-columns_bytes columns row.values h)

-- ---- nulls that are blank

head_blank : (ty : ColType) (nulls : ℕ) (bytes : List ℕ) (b : Bool) → (nulls % 2 == 1) ≡ b → (IsTrue (nulls % 2 == 1) → bytes ≡ replicate (width ty) 0)
    → length bytes ≡ width ty → AreBytes bytes → column_bytes ty (value_or_null b ty bytes) ≡ bytes
head_blank ty nulls bytes true e blank len are = column_bytes-Null ty ∙ sym (blank e)
head_blank ty nulls bytes false e blank len are = column_bytes-column_value ty bytes len are

head_blank-back : (ty : ColType) (nulls : ℕ) (bytes : List ℕ) → column_bytes ty (value_or_null (nulls % 2 == 1) ty bytes) ≡ bytes → IsTrue (nulls % 2 == 1) → bytes ≡ replicate (width ty) 0
head_blank-back ty nulls bytes e odd = sym e ∙ (ap (λ b. column_bytes ty (value_or_null b ty bytes)) odd ∙ column_bytes-Null ty)

is_null-value_or_null : (b : Bool) (ty : ColType) (bytes : List ℕ) → is_null (value_or_null b ty bytes) ≡ b
is_null-value_or_null true ty bytes = refl
is_null-value_or_null false ty bytes = is_null-column_value ty bytes

AreBytes-take : (n : ℕ) (bytes : List ℕ) → AreBytes bytes → AreBytes (take n bytes)
AreBytes-take zero bytes are i = omega arith
AreBytes-take (suc n) [] are i = are i
AreBytes-take (suc n) (b ∷ bytes) are zero = are 0
AreBytes-take (suc n) (b ∷ bytes) are (suc i) = AreBytes-take n bytes (λ k. are (suc k)) i

pub AreBytes-drop : (n : ℕ) (bytes : List ℕ) → AreBytes bytes → AreBytes (drop n bytes)
AreBytes-drop n bytes are i = subst (λ b. b < 256) (sym (get_or-drop n bytes i 0)) (are (n + i))

odd_bit : (n : ℕ) (b : Bool) → (n % 2 == 1) ≡ b → cond b 1 0 ≡ n % 2
odd_bit n true e = grind (arith, nat_tests)
odd_bit n false e = grind (arith, nat_tests)

-- the null bits are those that were read
pub null_bits-columns_values : (columns : List ColumnDef) (nulls : ℕ) (bytes : List ℕ) → AreNullsBlank columns nulls bytes → null_bits (columns_values columns nulls bytes) ≡ nulls
null_bits-columns_values [] nulls bytes blank = sym blank
null_bits-columns_values (column ∷ columns) nulls bytes blank =
    let rest = null_bits-columns_values columns (nulls / 2) (drop (width column.ty) bytes) blank.1 in
    rw (is_null-value_or_null (nulls % 2 == 1) column.ty (take (width column.ty) bytes), odd_bit nulls (nulls % 2 == 1) refl, rest) (omega arith)

-- the bytes are those that were read
pub columns_bytes-columns_values : (columns : List ColumnDef) (nulls : ℕ) (bytes : List ℕ) → length bytes + 10 ≡ row_width_of columns → AreBytes bytes
    → AreNullsBlank columns nulls bytes → columns_bytes columns (columns_values columns nulls bytes) ≡ bytes
columns_bytes-columns_values [] nulls [] len are blank = refl
columns_bytes-columns_values [] nulls (b ∷ bytes) len are blank = absurd (omega arith)
columns_bytes-columns_values (column ∷ columns) nulls bytes len are blank =
    let size : length (take (width column.ty) bytes) ≡ width column.ty = omega (arith, length-take (width column.ty) bytes, row_width_of-ge columns) in
    let left : length (drop (width column.ty) bytes) + 10 ≡ row_width_of columns = omega (arith, length-drop (width column.ty) bytes, row_width_of-ge columns) in
    rw (
      head_blank column.ty nulls (take (width column.ty) bytes) (nulls % 2 == 1) refl blank.0 size (AreBytes-take (width column.ty) bytes are),
      columns_bytes-columns_values columns (nulls / 2) (drop (width column.ty) bytes) left (AreBytes-drop (width column.ty) bytes are) blank.1,
    )
    (take-append-drop (width column.ty) bytes)

first_part : (a b x y : List ℕ) → length a ≡ length x → a ++ b ≡ x ++ y → (a ≡ x) × (b ≡ y)
first_part a b x y len e = (
  sym (take_at a b (length a) refl) ∙ (ap (take (length a)) e ∙ take_at x y (length a) (sym len)),
  sym (drop_at a b (length a) refl) ∙ (ap (drop (length a)) e ∙ drop_at x y (length a) (sym len)),
)

odd_of : (n : ℕ) (b : Bool) (m : ℕ) → cond b 1 0 + 2 * m ≡ n → m ≡ n / 2
odd_of n true m e = omega arith
odd_of n false m e = omega arith

length-column_read : (ty : ColType) (b : Bool) (bytes : List ℕ) → length bytes ≡ width ty → AreBytes bytes → length (column_bytes ty (value_or_null b ty bytes)) ≡ width ty
length-column_read ty true bytes len are = ap length (column_bytes-Null ty) ∙ length-replicate (width ty) 0
length-column_read ty false bytes len are = ap length (column_bytes-column_value ty bytes len are) ∙ len

-- where the bytes and the null bits are those that were read, the nulls are blank
pub AreNullsBlank-read : (columns : List ColumnDef) (nulls : ℕ) (bytes : List ℕ) → length bytes + 10 ≡ row_width_of columns → AreBytes bytes
    → null_bits (columns_values columns nulls bytes) ≡ nulls → columns_bytes columns (columns_values columns nulls bytes) ≡ bytes → AreNullsBlank columns nulls bytes
AreNullsBlank-read [] nulls bytes len are bits same = sym bits
AreNullsBlank-read (column ∷ columns) nulls bytes len are bits same =
    let size : length (take (width column.ty) bytes) ≡ width column.ty = omega (arith, length-take (width column.ty) bytes, row_width_of-ge columns) in
    let left : length (drop (width column.ty) bytes) + 10 ≡ row_width_of columns = omega (arith, length-drop (width column.ty) bytes, row_width_of-ge columns) in
    let wide = length-column_read column.ty (nulls % 2 == 1) (take (width column.ty) bytes) size (AreBytes-take (width column.ty) bytes are) in
    let parts = first_part (column_bytes column.ty (value_or_null (nulls % 2 == 1) column.ty (take (width column.ty) bytes)))
    (columns_bytes columns (columns_values columns (nulls / 2) (drop (width column.ty) bytes)))
    (take (width column.ty) bytes) (drop (width column.ty) bytes) (wide ∙ sym size) (same ∙ sym (take-append-drop (width column.ty) bytes)) in (
      head_blank-back column.ty nulls (take (width column.ty) bytes) parts.0,
      AreNullsBlank-read columns (nulls / 2) (drop (width column.ty) bytes) left (AreBytes-drop (width column.ty) bytes are)
          (odd_of nulls (is_null (value_or_null (nulls % 2 == 1) column.ty (take (width column.ty) bytes))) _ bits) parts.1,
    )

-- ---- whole rows

-- the numbers at the head of a row
bytes_of_8 : (bytes : List ℕ) → 8 ≤ length bytes → AreBytes bytes → big_bytes 8 (big_number 8 bytes) ≡ take 8 bytes
bytes_of_8 bytes le are =
    be_bytes_8 (take 8 bytes) (big_number 8 bytes) (omega (arith, length-take 8 bytes)) (AreBytes-take 8 bytes are) (sym (big_from-take 0 8 8 bytes (omega arith)) ∙ omega arith)

bytes_of_2 : (bytes : List ℕ) → 2 ≤ length bytes → AreBytes bytes → big_bytes 2 (big_number 2 bytes) ≡ take 2 bytes
bytes_of_2 bytes le are =
    be_bytes_2 (take 2 bytes) (big_number 2 bytes) (omega (arith, length-take 2 bytes)) (AreBytes-take 2 bytes are) (sym (big_from-take 0 2 2 bytes (omega arith)) ∙ omega arith)

three_parts : (bytes : List ℕ) → take 8 bytes ++ take 2 (drop 8 bytes) ++ drop 10 bytes ≡ bytes
three_parts bytes =
    append_assoc (take 8 bytes) (take 2 (drop 8 bytes)) (drop 10 bytes)
    ∙ (ap (λ r. take 8 bytes ++ (take 2 (drop 8 bytes) ++ r)) (sym (drop-drop 2 8 bytes))
    ∙ (ap (λ r. take 8 bytes ++ r) (take-append-drop 2 (drop 8 bytes)) ∙ take-append-drop 8 bytes))

same_parts : (a b c x y z : List ℕ) → a ≡ x → b ≡ y → c ≡ z → a ++ b ++ c ≡ x ++ y ++ z
same_parts a b c x y z p q r = cc

-- a row that is read where nulls are blank is written as it was
pub IsWrittenRow-blank : (columns : List ColumnDef) (bytes : List ℕ) → length bytes ≡ row_width_of columns → AreBytes bytes
    → AreNullsBlank columns (nulls_in bytes) (drop 10 bytes) → IsWrittenRow columns bytes
unfolding row_bytes row_in
IsWrittenRow-blank columns bytes len are blank =
    let long : 10 ≤ length bytes = omega (arith, row_width_of-ge columns) in
    let values : List Value = columns_values columns (nulls_in bytes) (drop 10 bytes) in
    same_parts (big_bytes 8 (big_number 8 bytes)) (big_bytes 2 (null_bits values)) (columns_bytes columns values) (take 8 bytes) (take 2 (drop 8 bytes)) (drop 10 bytes)
    (bytes_of_8 bytes (omega arith) are)
    (ap (big_bytes 2) (null_bits-columns_values columns (nulls_in bytes) (drop 10 bytes) blank)
    ∙ bytes_of_2 (drop 8 bytes) (omega (arith, length-drop 8 bytes)) (AreBytes-drop 8 bytes are))
    (columns_bytes-columns_values columns (nulls_in bytes) (drop 10 bytes) (omega (arith, length-drop 10 bytes)) (AreBytes-drop 10 bytes are) blank)
    ∙ three_parts bytes

length-columns_values : (columns : List ColumnDef) (nulls : ℕ) (bytes : List ℕ) → length (columns_values columns nulls bytes) ≡ length columns
length-columns_values [] nulls bytes = refl
length-columns_values (column ∷ columns) nulls bytes = ap suc (length-columns_values columns (nulls / 2) (drop (width column.ty) bytes))

few_bits : (values : List Value) → length values ≤ 16 → null_bits values < 256 ^ 2
few_bits values few =
    let most : 2 ^ length values ≤ 2 ^ 16 = pow-le-pow_right {n = 2} (omega arith) {i = length values} {j = 16} few in
    omega (arith, null_bits-lt values)

pub IsWrittenRow-back : (columns : List ColumnDef) (bytes : List ℕ) → length columns ≤ 16 → length bytes ≡ row_width_of columns → AreBytes bytes
    → IsWrittenRow columns bytes → AreNullsBlank columns (nulls_in bytes) (drop 10 bytes)
unfolding row_bytes row_in
IsWrittenRow-back columns bytes few len are written =
    let values : List Value = columns_values columns (nulls_in bytes) (drop 10 bytes) in
    let same : columns_bytes columns values ≡ drop 10 bytes = ap (drop 10) written in
    let bits : null_bits values ≡ nulls_in bytes =
    sym (big_number-reads_back 2 (null_bits values) (columns_bytes columns values) (few_bits values (omega (arith, length-columns_values columns (nulls_in bytes) (drop 10 bytes)))))
    ∙ ap (λ bs. big_number 2 (drop 8 bs)) written in
    AreNullsBlank-read columns (nulls_in bytes) (drop 10 bytes) (omega (arith, length-drop 10 bytes, row_width_of-ge columns)) (AreBytes-drop 10 bytes are) bits same

-- a row that was written is read
pub row_in-row_bytes : (columns : List ColumnDef) (row : Row) → length columns ≤ 16 → row.number < 2 ^ 64 → IsTrue (fits_all columns row.values) → row_in columns (row_bytes columns row) ≡ row
unfolding row_bytes row_in
row_in-row_bytes columns row few lt h =
    let number : big_number 8 (big_bytes 8 row.number ++ big_bytes 2 (null_bits row.values) ++ columns_bytes columns row.values) ≡ row.number =
    big_number-reads_back 8 row.number (big_bytes 2 (null_bits row.values) ++ columns_bytes columns row.values) (omega arith) in
    let bits : big_number 2 (big_bytes 2 (null_bits row.values) ++ columns_bytes columns row.values) ≡ null_bits row.values =
    big_number-reads_back 2 (null_bits row.values) (columns_bytes columns row.values) (few_bits row.values (omega (arith, length-fits_all columns row.values h))) in
    rw (number, bits, columns_values-columns_bytes columns row.values h) refl

-- ---- one column after another

-- a column lies within the row, and the others behind it
pub row_width_of-step : (columns : List ColumnDef) (i at size total : ℕ) (column : ColumnDef) → i < length columns → column ≡ get_or columns i column → size ≡ width column.ty
    → at + row_width_of (drop i columns) ≡ total + 10 → (at + size ≤ total) × (at + size + row_width_of (drop (i + 1) columns) ≡ total + 10)
row_width_of-step columns i at size total column lt is wide room =
    let step : row_width_of (drop i columns) ≡ width column.ty + row_width_of (drop (i + 1) columns) =
    at_drop_more row_width_of columns i column lt ∙ ap (λ c. width c.ty + row_width_of (drop (i + 1) columns)) (sym is) in
    (omega (arith, row_width_of-ge (drop (i + 1) columns)), omega arith)

pub columns_values-step : (columns : List ColumnDef) (i at size nulls : ℕ) (bytes : List ℕ) (column : ColumnDef) → i < length columns → column ≡ get_or columns i column → size ≡ width column.ty
    → columns_values (drop i columns) nulls (drop at bytes)
    ≡ value_or_null (nulls % 2 == 1) column.ty (take size (drop at bytes)) ∷ columns_values (drop (i + 1) columns) (nulls / 2) (drop (at + size) bytes)
columns_values-step columns i at size nulls bytes column lt is wide =
    at_drop_more (λ cs. columns_values cs nulls (drop at bytes)) columns i column lt
    ∙ (ap (λ c. value_or_null (nulls % 2 == 1) c.ty (take (width c.ty) (drop at bytes)) ∷ columns_values (drop (i + 1) columns) (nulls / 2) (drop (width c.ty) (drop at bytes))) (sym is)
    ∙ (ap (λ n. value_or_null (nulls % 2 == 1) column.ty (take n (drop at bytes)) ∷ columns_values (drop (i + 1) columns) (nulls / 2) (drop n (drop at bytes))) (sym wide)
    ∙ ap (λ bs. value_or_null (nulls % 2 == 1) column.ty (take size (drop at bytes)) ∷ columns_values (drop (i + 1) columns) (nulls / 2) bs) (drop-drop size at bytes)))

-- one value more was read
pub columns_values-push : (columns : List ColumnDef) (i at size nulls : ℕ) (bytes : List ℕ) (column : ColumnDef) (done more all : List Value) (value : Value) → i < length columns → column ≡ get_or columns i column → size ≡ width column.ty
    → value ≡ value_or_null (nulls % 2 == 1) column.ty (take size (drop at bytes)) → more ≡ done ++ value ∷ []
    → done ++ columns_values (drop i columns) nulls (drop at bytes) ≡ all
    → more ++ columns_values (drop (i + 1) columns) (nulls / 2) (drop (at + size) bytes) ≡ all
columns_values-push columns i at size nulls bytes column done more all value lt is wide read pushed before =
    ap (λ m. m ++ columns_values (drop (i + 1) columns) (nulls / 2) (drop (at + size) bytes)) pushed
    ∙ (append_assoc done (value ∷ []) (columns_values (drop (i + 1) columns) (nulls / 2) (drop (at + size) bytes))
    ∙ (ap (λ v. done ++ (v ∷ columns_values (drop (i + 1) columns) (nulls / 2) (drop (at + size) bytes))) read
    ∙ (ap (λ vs. done ++ vs) (sym (columns_values-step columns i at size nulls bytes column lt is wide)) ∙ before)))

-- nothing is left behind the last column
pub columns_values-all : (columns : List ColumnDef) (i nulls : ℕ) (bytes : List ℕ) (done all : List Value) → length columns ≤ i
    → done ++ columns_values (drop i columns) nulls bytes ≡ all → done ≡ all
columns_values-all columns i nulls bytes done all le before =
    sym (append-nil done) ∙ (ap (λ vs. done ++ vs) (sym (at_drop_all (λ cs. columns_values cs nulls bytes) columns i le)) ∙ before)

-- the same for nulls that are blank
AreNullsBlank-step : (columns : List ColumnDef) (i at size nulls : ℕ) (bytes : List ℕ) (column : ColumnDef) → i < length columns → column ≡ get_or columns i column → size ≡ width column.ty
    → AreNullsBlank (drop i columns) nulls (drop at bytes)
    ≡ ((IsTrue (nulls % 2 == 1) → take size (drop at bytes) ≡ replicate size 0) × AreNullsBlank (drop (i + 1) columns) (nulls / 2) (drop (at + size) bytes))
AreNullsBlank-step columns i at size nulls bytes column lt is wide =
    ap (λ cs. AreNullsBlank cs nulls (drop at bytes)) (drop_more columns i column lt)
    ∙ (ap (λ c. (IsTrue (nulls % 2 == 1) → take (width c.ty) (drop at bytes) ≡ replicate (width c.ty) 0) × AreNullsBlank (drop (i + 1) columns) (nulls / 2) (drop (width c.ty) (drop at bytes))) (sym is)
    ∙ (ap (λ n. (IsTrue (nulls % 2 == 1) → take n (drop at bytes) ≡ replicate n 0) × AreNullsBlank (drop (i + 1) columns) (nulls / 2) (drop n (drop at bytes))) (sym wide)
    ∙ ap (λ bs. (IsTrue (nulls % 2 == 1) → take size (drop at bytes) ≡ replicate size 0) × AreNullsBlank (drop (i + 1) columns) (nulls / 2) bs) (drop-drop size at bytes)))

pub AreNullsBlank-more : (columns : List ColumnDef) (i at size nulls : ℕ) (bytes : List ℕ) (column : ColumnDef) (All : Type 0) → i < length columns → column ≡ get_or columns i column → size ≡ width column.ty
    → (IsTrue (nulls % 2 == 1) → take size (drop at bytes) ≡ replicate size 0)
    → AreNullsBlank (drop i columns) nulls (drop at bytes) ↔ All → AreNullsBlank (drop (i + 1) columns) (nulls / 2) (drop (at + size) bytes) ↔ All
AreNullsBlank-more columns i at size nulls bytes column All lt is wide blank before =
    let step = AreNullsBlank-step columns i at size nulls bytes column lt is wide in
    ((λ rest. before.0 (subst (λ P. P) (sym step) (blank, rest))), (λ all. (subst (λ P. P) step (before.1 all)).1))

pub AreNullsBlank-not : (columns : List ColumnDef) (i at size nulls : ℕ) (bytes : List ℕ) (column : ColumnDef) (All : Type 0) → i < length columns → column ≡ get_or columns i column → size ≡ width column.ty
    → ((IsTrue (nulls % 2 == 1) → take size (drop at bytes) ≡ replicate size 0) → ⊥)
    → AreNullsBlank (drop i columns) nulls (drop at bytes) ↔ All → All → ⊥
AreNullsBlank-not columns i at size nulls bytes column All lt is wide not_blank before all =
    not_blank (subst (λ P. P) (AreNullsBlank-step columns i at size nulls bytes column lt is wide) (before.1 all)).0

pub AreNullsBlank-end : (columns : List ColumnDef) (i nulls : ℕ) (bytes : List ℕ) (All : Type 0) → length columns ≤ i → AreNullsBlank (drop i columns) nulls bytes ↔ All → (nulls ≡ 0) ↔ All
AreNullsBlank-end columns i nulls bytes All le before =
    let none = ap (λ cs. AreNullsBlank cs nulls bytes) (drop_all i columns le) in
    ((λ e. before.0 (subst (λ P. P) (sym none) e)), (λ all. subst (λ P. P) none (before.1 all)))

-- ---- one value after another

pub fits_all-step : (columns : List ColumnDef) (values : List Value) (i : ℕ) (column : ColumnDef) (value : Value) → i < length columns → i < length values
    → column ≡ get_or columns i column → value ≡ get_or values i value → IsTrue (fits_all (drop i columns) (drop i values))
    → IsTrue (is_of_type column.ty value) × IsTrue (fits_all (drop (i + 1) columns) (drop (i + 1) values))
fits_all-step columns values i column value lt below is_column is_value h =
    let step : fits_all (drop i columns) (drop i values) ≡ (fits column value && fits_all (drop (i + 1) columns) (drop (i + 1) values)) =
    at_drop_more (λ cs. fits_all cs (drop i values)) columns i column lt
    ∙ (at_drop_more (λ vs. fits_all (get_or columns i column ∷ drop (i + 1) columns) vs) values i value below
    ∙ (ap (λ c. fits c (get_or values i value) && fits_all (drop (i + 1) columns) (drop (i + 1) values)) (sym is_column)
    ∙ ap (λ v. fits column v && fits_all (drop (i + 1) columns) (drop (i + 1) values)) (sym is_value))) in
    let parts = both _ _ (sym step ∙ h) in
    (of_type column value parts.0, parts.1)

-- one value more is written
pub columns_bytes-more : (columns : List ColumnDef) (values : List Value) (i at size : ℕ) (old new all : List ℕ) (column : ColumnDef) (value : Value) → i < length columns → i < length values
    → column ≡ get_or columns i column → value ≡ get_or values i value → size ≡ width column.ty → at + size ≤ length old → IsTrue (fits_all (drop i columns) (drop i values))
    → new ≡ take at old ++ column_bytes column.ty value ++ drop (at + size) old
    → all ≡ take at old ++ columns_bytes (drop i columns) (drop i values)
    → all ≡ take (at + size) new ++ columns_bytes (drop (i + 1) columns) (drop (i + 1) values)
columns_bytes-more columns values i at size old new all column value lt below is_column is_value wide room h is before =
    let typed = (fits_all-step columns values i column value lt below is_column is_value h).0 in
    let step : columns_bytes (drop i columns) (drop i values) ≡ column_bytes column.ty value ++ columns_bytes (drop (i + 1) columns) (drop (i + 1) values) =
    at_drop_more (λ cs. columns_bytes cs (drop i values)) columns i column lt
    ∙ (at_drop_more (λ vs. columns_bytes (get_or columns i column ∷ drop (i + 1) columns) vs) values i value below
    ∙ (ap (λ c. column_bytes c.ty (get_or values i value) ++ columns_bytes (drop (i + 1) columns) (drop (i + 1) values)) (sym is_column)
    ∙ ap (λ v. column_bytes column.ty v ++ columns_bytes (drop (i + 1) columns) (drop (i + 1) values)) (sym is_value))) in
    let size_of : length (take at old ++ column_bytes column.ty value) ≡ at + size =
    omega (arith, length-append (take at old) (column_bytes column.ty value), length-take at old, length-column_bytes column.ty value typed) in
    let front : take (at + size) new ≡ take at old ++ column_bytes column.ty value =
    ap (take (at + size)) is ∙ take_at (take at old ++ column_bytes column.ty value) (drop (at + size) old) (at + size) size_of in
    before ∙ (ap (λ r. take at old ++ r) step
    ∙ (sym (append_assoc (take at old) (column_bytes column.ty value) (columns_bytes (drop (i + 1) columns) (drop (i + 1) values)))
    ∙ ap (λ f. f ++ columns_bytes (drop (i + 1) columns) (drop (i + 1) values)) (sym front)))

-- all values are written
pub columns_bytes-all : (columns : List ColumnDef) (values : List Value) (i at : ℕ) (out all : List ℕ) → length columns ≤ i
    → at + row_width_of (drop i columns) ≡ length out + 10
    → all ≡ take at out ++ columns_bytes (drop i columns) (drop i values) → out ≡ all
columns_bytes-all columns values i at out all le room before =
    let none : drop i columns ≡ [] = drop_all i columns le in
    let end : at ≡ length out = omega (arith, ap row_width_of none) in
    sym (before ∙ (ap (λ cs. take at out ++ columns_bytes cs (drop i values)) none ∙ (append-nil (take at out) ∙ take_all at out (omega arith))))

-- one value more, whose bit stands above those that are there
pub null_bits-more : (values : List Value) (i bits bit : ℕ) (value : Value) → i < length values → length values ≤ 16 → value ≡ get_or values i value
    → bit ≡ cond (is_null value) 1 0 → bits + 2 ^ i * null_bits (drop i values) ≡ null_bits values
    → (bits + bit * 2 ^ i % 65536 < 65536) × (bits + bit * 2 ^ i % 65536 + 2 ^ (i + 1) * null_bits (drop (i + 1) values) ≡ null_bits values)
null_bits-more values i bits bit value lt few is is_bit are =
    let rest : ℕ = null_bits (drop (i + 1) values) in
    let step : null_bits (drop i values) ≡ bit + 2 * rest =
    at_drop_more null_bits values i value lt ∙ (ap (λ v. cond (is_null v) 1 0 + 2 * rest) (sym is) ∙ ap (λ n. n + 2 * rest) (sym is_bit)) in
    let place : 2 ^ i ≤ 2 ^ 15 = pow-le-pow_right {n = 2} (omega arith) {i = i} {j = 15} (omega arith) in
    let twice : 2 ^ (i + 1) * rest ≡ 2 ^ i * (2 * rest) = ap (λ n. n * rest) (doubled i) ∙ mul_assoc (2 ^ i) 2 rest in
    let parts : 2 ^ i * null_bits (drop i values) ≡ 2 ^ i * bit + 2 ^ i * (2 * rest) = ap (λ n. 2 ^ i * n) step ∙ mul-add (2 ^ i) bit (2 * rest) in
    let one : 2 ^ i * bit ≡ bit * 2 ^ i % 65536 =
    ap (λ n. 2 ^ i * n) is_bit ∙ (one_bit (is_null value) (2 ^ i) (omega (arith, place)) ∙ ap (λ n. n * 2 ^ i % 65536) (sym is_bit)) in
    (omega (arith, are, parts, one, few_bits values few), omega (arith, are, parts, one, twice))
  where
    doubled : (i : ℕ) → 2 ^ (i + 1) ≡ 2 ^ i * 2
    doubled i = let next : i + 1 ≡ suc i = omega arith in ap (λ n. 2 ^ n) next ∙ pow-suc 2 i

    one_bit : (b : Bool) (n : ℕ) → n < 65536 → n * cond b 1 0 ≡ cond b 1 0 * n % 65536
    one_bit true n small = omega arith
    one_bit false n small = omega arith

-- all values have their bits
pub null_bits-all : (values : List Value) (i bits : ℕ) → length values ≤ i → bits + 2 ^ i * null_bits (drop i values) ≡ null_bits values → bits ≡ null_bits values
null_bits-all values i bits le are =
    let none : null_bits (drop i values) ≡ 0 = ap null_bits (drop_all i values le) in
    let nothing : 2 ^ i * null_bits (drop i values) ≡ 2 ^ i * 0 = ap (λ n. 2 ^ i * n) none in
    omega (arith, are, nothing)

-- the parts of a row, one behind the other
pub row_parts : (number bits : ℕ) (old head values filled new : List ℕ) → 10 ≤ length old → head ≡ big_bytes 8 number ++ drop 8 old → filled ≡ take 10 head ++ values
    → new ≡ take 8 filled ++ big_bytes 2 bits ++ drop 10 filled → new ≡ big_bytes 8 number ++ big_bytes 2 bits ++ values
row_parts number bits old head values filled new long is also last =
    let size : length (take 10 head) ≡ 10 = omega (arith, length-take 10 head, ap length is, length-drop 8 old) in
    let front : take 8 filled ≡ big_bytes 8 number =
    ap (take 8) also ∙ (sym (take-take 8 10 (take 10 head ++ values) (omega arith)) ∙ (ap (take 8) (take_at (take 10 head) values 10 size) ∙ (take-take 8 10 head (omega arith) ∙ ap (take 8) is))) in
    let behind : drop 10 filled ≡ values = ap (drop 10) also ∙ drop_at (take 10 head) values 10 size in
    last ∙ same_parts (take 8 filled) (big_bytes 2 bits) (drop 10 filled) (big_bytes 8 number) (big_bytes 2 bits) values front refl behind
