-- A value as the bytes of a column, written and read.
use Rattle.std.proofs.Common.{◌≡◌, ◌≤◌, ◌<◌, ◌+◌, ◌-◌, ◌/◌, ◌^◌, ℕ, zero, suc, ℤ, pos, Bool, true, false, cond, IsTrue, List, [], ◌∷◌, ◌++◌, length, replicate, get_or, refl, ap, sym, ◌∙◌, arith, length-append, append-nil}
use Rattle.std.specs.Prelude.{◌&&◌, ◌==◌, int_le}
use Rattle.std.specs.Int.{cast_signed, cast_unsigned, w32, w64}
use Rattle.std.specs.Int.RustNames.{FitsSigned}
use Rattle.std.proofs.lemmas.Bool.Decides.{nat_tests}
use Rattle.std.proofs.lemmas.Int.{ints, to_z-of_z, of_z-to_z}
use Rattle.std.proofs.lemmas.List.{length-replicate}
use Rattle.std.proofs.lemmas.Nat.{be_bytes_4, be_bytes_8}
use Rattle.byteorder.specs.Endian.{big_bytes, big_number}
use Rattle.byteorder.specs.Numbers.{big_from-lt, big_number-reads_back}
use Rattle.mdc_values.specs.declared.value.ColType.{ColType}
use Rattle.mdc_values.specs.declared.value.ColType.TheVariants.{Integer, Bigint, Char, Date}
use Rattle.mdc_values.specs.declared.value.Value.{Value}
use Rattle.mdc_values.specs.declared.value.Value.TheVariants.{Null, Int, Text, Day}
use Rattle.mdc_values.specs.Fitting.{in_bigint, in_integer}
use Rattle.mdc_values.specs.Value.{before_text, trimmed}
use Rattle.mdc_ast.specs.Database.{is_day_number, is_null, is_of_type}
use Rattle.mdc_ast.specs.Definitions.{width}
use Rattle.mdc_ast.proofs.FitsLemmas.{text_of_type}
use Rattle.row_page.specs.Row.{column_bytes, column_value}

-- each byte is below 256
abbrev pub AreBytes : List ℕ → Type 0
AreBytes bytes = (i : ℕ) → get_or bytes i 0 < 256

-- ---- texts

trimmed-blanks : (k : ℕ) → trimmed (replicate k 32) ≡ []
trimmed-blanks zero = refl
trimmed-blanks (suc k) = rw (trimmed-blanks k) refl

-- blanks behind a text say nothing
trimmed-append : (text : List ℕ) (k : ℕ) → trimmed (text ++ replicate k 32) ≡ trimmed text
trimmed-append [] k = trimmed-blanks k
trimmed-append (b ∷ text) k = ap (before_text b) (trimmed-append text k)

-- what is cut off a text are blanks
pub length-before_text : (b : ℕ) (text : List ℕ) → length (before_text b text) ≤ suc (length text)
length-before_text b [] = by_byte (b == 32)
  where
    by_byte : (t : Bool) → length (cond t [] (b ∷ [])) ≤ 1
    by_byte true = omega arith
    by_byte false = omega arith
length-before_text b (c ∷ text) = omega arith

pub length-trimmed : (text : List ℕ) → length (trimmed text) ≤ length text
length-trimmed [] = omega arith
length-trimmed (b ∷ text) = omega (arith, length-before_text b (trimmed text), length-trimmed text)

padded-before : (b : ℕ) (text rest : List ℕ) → text ++ replicate (length rest - length text) 32 ≡ rest
    → length text ≤ length rest → before_text b text ++ replicate (suc (length rest) - length (before_text b text)) 32 ≡ b ∷ rest
padded-before b [] rest e le = by_byte (b == 32) refl
  where
    by_byte : (t : Bool) → (b == 32) ≡ t → cond t [] (b ∷ []) ++ replicate (suc (length rest) - length (cond t [] (b ∷ []))) 32 ≡ b ∷ rest
    by_byte true is =
        let blank : b ≡ 32 = grind (arith, nat_tests) in
        let more : suc (length rest) - 0 ≡ suc (length rest - 0) = omega arith in
        rw blank (ap (λ k. replicate k 32) more ∙ ap (λ r. 32 ∷ r) e)
    by_byte false is =
        let left : suc (length rest) - 1 ≡ length rest - 0 = omega arith in
        ap (λ k. b ∷ replicate k 32) left ∙ ap (λ r. b ∷ r) e
padded-before b (c ∷ text) rest e le =
    let left : suc (length rest) - suc (suc (length text)) ≡ length rest - suc (length text) = omega arith in
    ap (λ k. b ∷ c ∷ text ++ replicate k 32) left ∙ ap (λ r. b ∷ r) e

padded-trimmed : (text : List ℕ) → trimmed text ++ replicate (length text - length (trimmed text)) 32 ≡ text
padded-trimmed [] = refl
padded-trimmed (b ∷ text) = padded-before b (trimmed text) text (padded-trimmed text) (length-trimmed text)

-- ---- sizes

padded : (n m : ℕ) → m ≤ n → m + (n - m) ≡ n
padded n m le = omega arith

-- a value takes the bytes of its column
pub length-column_bytes : (ty : ColType) (value : Value) → IsTrue (is_of_type ty value) → length (column_bytes ty value) ≡ width ty
unfolding column_bytes
length-column_bytes Integer (Int n) h = refl
length-column_bytes Bigint (Int n) h = refl
length-column_bytes (Char n) (Text text) h =
    let le = (text_of_type n text h).short in
    length-append text (replicate (n - length text) 32) ∙ (ap (λ k. length text + k) (length-replicate (n - length text) 32) ∙ padded n (length text) le)
length-column_bytes Date (Day d) h = refl
length-column_bytes Integer Null h = refl
length-column_bytes Bigint Null h = refl
length-column_bytes (Char n) Null h = length-replicate n 0
length-column_bytes Date Null h = refl
length-column_bytes Integer (Text t) h = cc
length-column_bytes Integer (Day d) h = cc
length-column_bytes Bigint (Text t) h = cc
length-column_bytes Bigint (Day d) h = cc
length-column_bytes (Char n) (Int z) h = cc
length-column_bytes (Char n) (Day d) h = cc
length-column_bytes Date (Int z) h = cc
length-column_bytes Date (Text t) h = cc

-- ---- what was written is read

fits_integer : (z : ℤ) → IsTrue (in_integer z) → FitsSigned w32 z
fits_integer z h = grind (arith, ints)

fits_bigint : (z : ℤ) → IsTrue (in_bigint z) → FitsSigned w64 z
fits_bigint z h = grind (arith, ints)

number_4 : (x : ℕ) → x < 256 ^ 4 → big_number 4 (big_bytes 4 x) ≡ x
number_4 x lt = ap (big_number 4) (sym (append-nil (big_bytes 4 x))) ∙ big_number-reads_back 4 x [] lt

number_8 : (x : ℕ) → x < 256 ^ 8 → big_number 8 (big_bytes 8 x) ≡ x
number_8 x lt = ap (big_number 8) (sym (append-nil (big_bytes 8 x))) ∙ big_number-reads_back 8 x [] lt

unsigned_lt_4 : (z : ℤ) → FitsSigned w32 z → cast_unsigned w32 z < 256 ^ 4
unsigned_lt_4 z fits = omega (arith, ints)

unsigned_lt_8 : (z : ℤ) → FitsSigned w64 z → cast_unsigned w64 z < 256 ^ 8
unsigned_lt_8 z fits = omega (arith, ints)

le_of : (m n : ℕ) → IsTrue (int_le (pos m) (pos n)) → m ≤ n
le_of m n h = grind (arith, nat_tests, h)

second : (a b c d e f : Bool) → IsTrue (a && b && c && d && e && f) → IsTrue b
second true true c d e f h = refl
second true false c d e f h = cc
second false b c d e f h = cc

day_lt : (d : ℕ) → IsTrue (is_day_number d) → d < 256 ^ 4
day_lt d h =
    let years : d / 10000 ≤ 9999 = le_of (d / 10000) 9999 (second _ _ _ _ _ _ h) in
    omega arith

pub column_value-column_bytes : (ty : ColType) (value : Value) → IsTrue (is_of_type ty value) → is_null value ≡ false → column_value ty (column_bytes ty value) ≡ value
unfolding column_bytes column_value
column_value-column_bytes Integer (Int z) h ne =
    let fits = fits_integer z h in
    ap (λ x. Int (cast_signed w32 x)) (number_4 (cast_unsigned w32 z) (unsigned_lt_4 z fits)) ∙ ap Int (to_z-of_z w32 z fits)
column_value-column_bytes Bigint (Int z) h ne =
    let fits = fits_bigint z h in
    ap (λ x. Int (cast_signed w64 x)) (number_8 (cast_unsigned w64 z) (unsigned_lt_8 z fits)) ∙ ap Int (to_z-of_z w64 z fits)
column_value-column_bytes (Char n) (Text text) h ne =
    ap Text (trimmed-append text (n - length text) ∙ (text_of_type n text h).ends)
column_value-column_bytes Date (Day d) h ne = ap Day (number_4 d (day_lt d h))
column_value-column_bytes ty Null h ne = cc
column_value-column_bytes Integer (Text t) h ne = cc
column_value-column_bytes Integer (Day d) h ne = cc
column_value-column_bytes Bigint (Text t) h ne = cc
column_value-column_bytes Bigint (Day d) h ne = cc
column_value-column_bytes (Char n) (Int z) h ne = cc
column_value-column_bytes (Char n) (Day d) h ne = cc
column_value-column_bytes Date (Int z) h ne = cc
column_value-column_bytes Date (Text t) h ne = cc

-- ---- what is read is written so

bytes_4 : (bytes : List ℕ) → length bytes ≡ 4 → AreBytes bytes → big_bytes 4 (big_number 4 bytes) ≡ bytes
bytes_4 bytes len are = be_bytes_4 bytes (big_number 4 bytes) len are (omega arith)

bytes_8 : (bytes : List ℕ) → length bytes ≡ 8 → AreBytes bytes → big_bytes 8 (big_number 8 bytes) ≡ bytes
bytes_8 bytes len are = be_bytes_8 bytes (big_number 8 bytes) len are (omega arith)

pub column_bytes-column_value : (ty : ColType) (bytes : List ℕ) → length bytes ≡ width ty → AreBytes bytes → column_bytes ty (column_value ty bytes) ≡ bytes
unfolding column_bytes column_value
column_bytes-column_value Integer bytes len are =
    ap (big_bytes 4) (of_z-to_z w32 (big_number 4 bytes) (big_from-lt 0 4 bytes are)) ∙ bytes_4 bytes len are
column_bytes-column_value Bigint bytes len are =
    ap (big_bytes 8) (of_z-to_z w64 (big_number 8 bytes) (big_from-lt 0 8 bytes are)) ∙ bytes_8 bytes len are
column_bytes-column_value (Char n) bytes len are =
    ap (λ k. trimmed bytes ++ replicate (k - length (trimmed bytes)) 32) (sym len) ∙ padded-trimmed bytes
column_bytes-column_value Date bytes len are = bytes_4 bytes len are

-- what is read isn't null
pub is_null-column_value : (ty : ColType) (bytes : List ℕ) → is_null (column_value ty bytes) ≡ false
unfolding column_value
is_null-column_value Integer bytes = refl
is_null-column_value Bigint bytes = refl
is_null-column_value (Char n) bytes = refl
is_null-column_value Date bytes = refl

-- a null is written as zeros
pub column_bytes-Null : (ty : ColType) → column_bytes ty Null ≡ replicate (width ty) 0
unfolding column_bytes
column_bytes-Null Integer = refl
column_bytes-Null Bigint = refl
column_bytes-Null (Char n) = refl
column_bytes-Null Date = refl
