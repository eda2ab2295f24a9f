-- One part of a key: its width, its bytes, and the order that it has.
use Rattle.std.proofs.Common.{◌≡◌, ℕ, ◌+◌, ◌-◌, ◌/◌, ◌%◌, ◌^◌, ◌<◌, ◌≤◌, List, ◌∷◌, length, replicate, Bool, true, false, refl, sym, ap, ◌∙◌, arith}
use Rattle.std.specs.Prelude.{ℤ, pos, negsuc, nat_le, nat_lt, IsTrue}
use Rattle.std.specs.declared.cmp.Ordering.TheVariants.{Equal}
use Rattle.std.specs.Ordering.{nat_cmp, int_cmp, ordering_reverse}
use Rattle.std.specs.Cmp.Lexicographic.{slice_cmp}
use Rattle.std.proofs.lemmas.Bool.Decides.{nat_tests}
use Rattle.std.proofs.lemmas.List.{length-map, length-replicate}
use Rattle.std.proofs.lemmas.Map.Lookups.{exact_signed, exact_unsigned}
use Rattle.std.proofs.Math.Nat.{mod-eq_of_lt}
use Rattle.byteorder.specs.Endian.{big_bytes}
use Rattle.byteorder.specs.Numbers.{length-bytes_high_first}
use Rattle.mdc_values.specs.declared.value.ColType.{ColType}
use Rattle.mdc_values.specs.declared.value.ColType.TheVariants.{Integer, Bigint, Char, Date}
use Rattle.mdc_values.specs.declared.value.Value.{Value}
use Rattle.mdc_values.specs.declared.value.Value.TheVariants.{Null, Int, Text, Day}
use Rattle.mdc_values.specs.Fitting.{in_bigint, in_integer}
use Rattle.mdc_values.specs.Order.{order}
use Rattle.mdc_values.specs.Value.{are_bytes}
use Rattle.mdc_values.proofs.ValueLemmas.{are_bytes-at}
use Rattle.mdc_ast.specs.Definitions.{width}
use Rattle.mdc_ast.specs.Database.{is_day_number, is_of_type}
use Rattle.mdc_ast.proofs.FitsLemmas.{text_of_type}
use Rattle.mdc_ast.proofs.TestsLemmas.{and_true, both}
use Rattle.key_codec.specs.Keys.{AreBytes, has_key, moved_up, null_byte, part_bytes, part_width, sort_bytes, turned}
use Rattle.key_codec.specs.KeyOrder.{turned_order}
use Rattle.key_codec.proofs.OrderLemmas.{AreBytes-append, AreBytes-big_bytes, AreBytes-cons, AreBytes-replicate, front_order-complement, front_order-whole, slice_cmp-big_bytes, slice_cmp-same}
use Rattle.key_codec.proofs.TextLemmas.{length-padded, same_text, slice_cmp-padded}

-- ---- numbers

-- a number is within half of the numbers on either side
abbrev IsWithin : ℕ → ℤ → Type 0
IsWithin half (pos n) = n < half
IsWithin half (negsuc n) = n < half

within_integer : (n : ℤ) → IsTrue (in_integer n) → IsWithin 2147483648 n
within_integer (pos n) h = grind (arith, nat_tests, h)
within_integer (negsuc n) h = grind (arith, nat_tests, h)

within_bigint : (n : ℤ) → IsTrue (in_bigint n) → IsWithin 9223372036854775808 n
within_bigint (pos n) h = grind (arith, nat_tests, h)
within_bigint (negsuc n) h = grind (arith, nat_tests, h)

moved_up-lt : (half : ℕ) (n : ℤ) → IsWithin half n → moved_up half n < half + half
moved_up-lt half (pos n) h = omega (arith, h)
moved_up-lt half (negsuc n) h = omega (arith, h)

nat_cmp-moved_up : (half : ℕ) (a b : ℤ) → IsWithin half a → IsWithin half b → nat_cmp (moved_up half a) (moved_up half b) ≡ int_cmp a b
nat_cmp-moved_up half (pos a) (pos b) ha hb = grind (arith, nat_tests)
nat_cmp-moved_up half (pos a) (negsuc b) ha hb = grind (arith, nat_tests, ha, hb)
nat_cmp-moved_up half (negsuc a) (pos b) ha hb = grind (arith, nat_tests, ha, hb)
nat_cmp-moved_up half (negsuc a) (negsuc b) ha hb = grind (arith, nat_tests, ha, hb)

-- the bytes of two numbers that are there in n bytes
bytes_order : (n a b : ℕ) → a < 256 ^ n → b < 256 ^ n → slice_cmp nat_cmp (big_bytes n a) (big_bytes n b) ≡ nat_cmp a b
bytes_order n a b la lb = slice_cmp-big_bytes n a b ∙ ap (λ x. nat_cmp x (b % 256 ^ n)) (mod-eq_of_lt la) ∙ ap (nat_cmp a) (mod-eq_of_lt lb)

numbers_order : (n half : ℕ) (a b : ℤ) → half + half ≡ 256 ^ n → IsWithin half a → IsWithin half b
    → slice_cmp nat_cmp (big_bytes n (moved_up half a)) (big_bytes n (moved_up half b)) ≡ int_cmp a b
numbers_order n half a b e ha hb =
    let la = moved_up-lt half a ha in
    let lb = moved_up-lt half b hb in
    bytes_order n (moved_up half a) (moved_up half b) (omega (arith, e, la)) (omega (arith, e, lb)) ∙ nat_cmp-moved_up half a b ha hb

-- ---- ascending parts

-- a text that has a key is no longer than its column, and is of bytes
pub text_with_key : (n : ℕ) (text : List ℕ) → IsTrue (has_key (Char n) (Text text)) → (length text ≤ n) × AreBytes text
text_with_key n text h =
    let ends = both (nat_le (length text) n) (are_bytes text) h in
    let le : length text ≤ n = grind (arith, nat_tests, ends.0) in
    (le, are_bytes-at text ends.1)

-- bytes of values go as the values do
pub slice_cmp-part : (ty : ColType) (a b : Value) → IsTrue (has_key ty a) → IsTrue (has_key ty b)
    → slice_cmp nat_cmp (part_bytes ty false a) (part_bytes ty false b) ≡ order a b
slice_cmp-part ty Null Null h g = slice_cmp-same (sort_bytes ty Null)
slice_cmp-part ty Null (Int n) h g = refl
slice_cmp-part ty Null (Text t) h g = refl
slice_cmp-part ty Null (Day d) h g = refl
slice_cmp-part ty (Int n) Null h g = refl
slice_cmp-part ty (Text t) Null h g = refl
slice_cmp-part ty (Day d) Null h g = refl
slice_cmp-part Integer (Int m) (Int n) h g = numbers_order 4 2147483648 m n refl (within_integer m h) (within_integer n g)
slice_cmp-part Bigint (Int m) (Int n) h g = numbers_order 8 9223372036854775808 m n refl (within_bigint m h) (within_bigint n g)
slice_cmp-part (Char n) (Text a) (Text b) h g =
    slice_cmp-padded n a b (text_with_key n a h).0 (text_with_key n b g).0
slice_cmp-part Date (Day a) (Day b) h g =
    let la : a < 4294967296 = grind (arith, nat_tests, h) in
    let lb : b < 4294967296 = grind (arith, nat_tests, g) in
    bytes_order 4 a b la lb
slice_cmp-part Integer a b h g = cc
slice_cmp-part Bigint a b h g = cc
slice_cmp-part (Char n) a b h g = cc
slice_cmp-part Date a b h g = cc

length-sort_bytes : (ty : ColType) (value : Value) → IsTrue (has_key ty value) → length (sort_bytes ty value) ≡ width ty
length-sort_bytes Integer Null h = refl
length-sort_bytes Bigint Null h = refl
length-sort_bytes (Char n) Null h = length-replicate n 0
length-sort_bytes Date Null h = refl
length-sort_bytes Integer (Int n) h = length-bytes_high_first 4 (moved_up 2147483648 n)
length-sort_bytes Bigint (Int n) h = length-bytes_high_first 8 (moved_up 9223372036854775808 n)
length-sort_bytes (Char n) (Text text) h = length-padded n text (text_with_key n text h).0
length-sort_bytes Date (Day day) h = length-bytes_high_first 4 day
length-sort_bytes ty value h = cc

length-turned : (descending : Bool) (bytes : List ℕ) → length (turned descending bytes) ≡ length bytes
length-turned true bytes = length-map bytes (λ byte. 255 - byte)
length-turned false bytes = refl

-- all parts of one type have one width
pub length-part_bytes : (ty : ColType) (descending : Bool) (value : Value) → IsTrue (has_key ty value) → length (part_bytes ty descending value) ≡ part_width ty
length-part_bytes ty descending value h =
    let rest = length-sort_bytes ty value h in
    let whole = length-turned descending (null_byte value ∷ sort_bytes ty value) in
    omega (arith, rest, whole)

null_byte-lt : (value : Value) → null_byte value < 256
null_byte-lt Null = omega arith
null_byte-lt (Int n) = omega arith
null_byte-lt (Text t) = omega arith
null_byte-lt (Day d) = omega arith

AreBytes-sort_bytes : (ty : ColType) (value : Value) → IsTrue (has_key ty value) → AreBytes (sort_bytes ty value)
AreBytes-sort_bytes Integer Null h = AreBytes-replicate 4 0 (omega arith)
AreBytes-sort_bytes Bigint Null h = AreBytes-replicate 8 0 (omega arith)
AreBytes-sort_bytes (Char n) Null h = AreBytes-replicate n 0 (omega arith)
AreBytes-sort_bytes Date Null h = AreBytes-replicate 4 0 (omega arith)
AreBytes-sort_bytes Integer (Int n) h = AreBytes-big_bytes 4 (moved_up 2147483648 n)
AreBytes-sort_bytes Bigint (Int n) h = AreBytes-big_bytes 8 (moved_up 9223372036854775808 n)
AreBytes-sort_bytes (Char n) (Text text) h = AreBytes-append text (replicate (n - length text) 32) (text_with_key n text h).1 (AreBytes-replicate (n - length text) 32 (omega arith))
AreBytes-sort_bytes Date (Day day) h = AreBytes-big_bytes 4 day
AreBytes-sort_bytes ty value h = cc

pub AreBytes-part_bytes : (ty : ColType) (value : Value) → IsTrue (has_key ty value) → AreBytes (part_bytes ty false value)
AreBytes-part_bytes ty value h = AreBytes-cons (null_byte value) (sort_bytes ty value) (null_byte-lt value) (AreBytes-sort_bytes ty value h)

-- ---- both directions

-- bytes of parts go as the values do, or the other way
pub slice_cmp-turned_part : (ty : ColType) (descending : Bool) (a b : Value) → IsTrue (has_key ty a) → IsTrue (has_key ty b)
    → slice_cmp nat_cmp (part_bytes ty descending a) (part_bytes ty descending b) ≡ turned_order descending (order a b)
slice_cmp-turned_part ty false a b h g = slice_cmp-part ty a b h g
slice_cmp-turned_part ty true a b h g =
    let la = length-part_bytes ty false a h in
    let lb = length-part_bytes ty false b g in
    let ma = length-part_bytes ty true a h in
    let mb = length-part_bytes ty true b g in
    sym (front_order-whole (part_bytes ty true a) (part_bytes ty true b) (omega (arith, ma, mb)))
    ∙ front_order-complement (part_bytes ty false a) (part_bytes ty false b) (omega (arith, la, lb)) (AreBytes-part_bytes ty a h) (AreBytes-part_bytes ty b g)
    ∙ ap ordering_reverse (front_order-whole (part_bytes ty false a) (part_bytes ty false b) (omega (arith, la, lb)) ∙ slice_cmp-part ty a b h g)

-- ---- values of columns

day_fits : (day : ℕ) → IsTrue (is_day_number day) → IsTrue (nat_lt day 4294967296)
day_fits day h =
    let le : day / 10000 ≤ 9999 = grind (arith, nat_tests, h) in
    grind (arith, nat_tests, le)

-- a value that fits has a key
pub has_key-is_of_type : (ty : ColType) (value : Value) → IsTrue (is_of_type ty value) → IsTrue (has_key ty value)
has_key-is_of_type Integer Null h = refl
has_key-is_of_type Bigint Null h = refl
has_key-is_of_type (Char n) Null h = refl
has_key-is_of_type Date Null h = refl
has_key-is_of_type Integer (Int n) h = h
has_key-is_of_type Bigint (Int n) h = h
has_key-is_of_type (Char n) (Text text) h =
    let is = text_of_type n text h in
    let short : IsTrue (nat_le (length text) n) = grind (arith, nat_tests, is.short) in
    and_true (nat_le (length text) n) (are_bytes text) short is.bytes
has_key-is_of_type Date (Day day) h = day_fits day h
has_key-is_of_type ty value h = cc

-- values that fit and have one place are the same
pub same_value : (ty : ColType) (a b : Value) → IsTrue (is_of_type ty a) → IsTrue (is_of_type ty b) → order a b ≡ Equal → a ≡ b
same_value ty Null Null h g e = refl
same_value ty (Int m) (Int n) h g e = ap Int (exact_signed m n e)
same_value (Char n) (Text a) (Text b) h g e =
    ap Text (same_text a b (text_of_type n a h).ends (text_of_type n b g).ends e)
same_value ty (Day m) (Day n) h g e = ap Day (exact_unsigned m n e)
same_value Integer a b h g e = cc
same_value Bigint a b h g e = cc
same_value (Char n) a b h g e = cc
same_value Date a b h g e = cc
