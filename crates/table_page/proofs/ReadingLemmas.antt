-- What is printed of a name, a column, a dimension or an index is read back.
use Rattle.std.specs.Prelude.{◌≡◌, ◌≤◌, ◌<◌, ◌-◌, ◌^◌, ◌==◌, ◌&&◌, nat_le, if◌then◌else◌, min, ℕ, ℤ, Bool, true, false, not, IsTrue, FitsSigned, List, [], ◌∷◌, ◌++◌, length, take, replicate, flat_map, Option, Some, None, slice_index}
use Rattle.std.specs.List.{AllByRecursion, AllZip, list_all}
use Rattle.std.specs.Int.{cast_signed, cast_unsigned, w64}
use Rattle.std.proofs.Common.{refl, sym, ap, ◌∙◌, arith, append-nil}
use Rattle.std.proofs.lemmas.Bool.Decides.{nat_tests}
use Rattle.std.proofs.lemmas.Int.{ints}
use Rattle.std.proofs.lemmas.List.{take_at}
use Rattle.byteorder.specs.Endian.{big_bytes, big_number}
use Rattle.byteorder.specs.Numbers.{big_number-reads_back, length-bytes_high_first}
use Rattle.mdc_values.specs.Fitting.{in_bigint}
use Rattle.mdc_values.specs.Value.{trimmed, before_text}
use Rattle.mdc_values.specs.declared.value.ColType.{ColType}
use Rattle.mdc_values.specs.declared.value.ColType.TheVariants as column
use Rattle.mdc_ast.specs.Classes.{is_name}
use Rattle.mdc_ast.specs.Tokens.{is_letter, is_lower, is_word_byte}
use Rattle.mdc_ast.specs.declared.definition.ColumnDef.{ColumnDef}
use Rattle.mdc_ast.specs.declared.definition.GenExpr.{GenExpr}
use Rattle.mdc_ast.specs.declared.definition.GenKind.{GenKind}
use Rattle.mdc_ast.specs.declared.definition.GenKind.TheVariants.{IntegerOver, Year, Month, Over, Plus}
use Rattle.mdc_ast.specs.declared.definition.IndexDef.{IndexDef}
use Rattle.mdc_ast.specs.declared.definition.KeyPart.{KeyPart}
use Rattle.mdc_ast.specs.declared.name.Name.{Name}
use Rattle.mdc_ast.specs.Definitions.{is_good_type}
use Rattle.key_codec.proofs.TextLemmas.{trimmed-filled}
use Rattle.node_page.specs.Node.{bytes_in}
use Rattle.table_page.specs.ReadingBack.{column_in_page, dimension_in_page, entries_in_page, expression_in_page, index_in_page, kind_in_page, made_in_page, name_in_page, part_in_page, type_in_page}
use Rattle.mdc_ast.specs.TableLimits.{is_kept_word, is_given_name, is_good_column, is_good_source, IsGoodIndex}
use Rattle.table_page.specs.TablePage.{zero_filled, type_code, char_length, kind_code, printed_expression, printed_made, printed_flag, printed_name, column_parts, printed_column, printed_dimension, printed_part, index_parts, printed_index}
use Rattle.table_page.proofs.EntriesLemmas.{any_part, length-printed_made, length-printed_name, length-printed_part, length-printed_parts}
use Rattle.table_page.proofs.LimitsLemmas.{name_of_column, short_name}
use Rattle.table_page.proofs.PartsLemmas.{and_left, and_right, all_weaker, byte_in, each_passes, entries_back, part_of_row}

-- a function at equal arguments
apply3 : {A B C R : Type 0} (f : A → B → C → R) {a d : A} {b e : B} {c g : C} → a ≡ d → b ≡ e → c ≡ g → f a b c ≡ f d e g
apply3 f p q r = cc (p, q, r)

apply4 : {A B C D R : Type 0} (f : A → B → C → D → R) {a e : A} {b g : B} {c h : C} {d i : D} → a ≡ e → b ≡ g → c ≡ h → d ≡ i → f a b c d ≡ f e g h i
apply4 f p q r s = cc (p, q, r, s)

-- ---- numbers

pub number_back : (n a : ℕ) → a < 256 ^ n → big_number n (big_bytes n a) ≡ a
number_back n a fits = ap (big_number n) (sym (append-nil (big_bytes n a))) ∙ big_number-reads_back n a [] fits

fits_bigint : (z : ℤ) → IsTrue (in_bigint z) → FitsSigned w64 z
fits_bigint z h = grind (arith, ints)

signed_back : (z : ℤ) → FitsSigned w64 z → cast_signed w64 (cast_unsigned w64 z) ≡ z
signed_back z fits = omega (arith, ints)

unsigned_lt : (z : ℤ) → FitsSigned w64 z → cast_unsigned w64 z < 256 ^ 8
unsigned_lt z fits = omega (arith, ints)

-- ---- names

-- a text of letters, digits and `_` ends with no blank
no_blank : (b : ℕ) → IsTrue (is_word_byte b) → (b == 32) ≡ false
no_blank b h = grind (arith, nat_tests, h)

before : (b : ℕ) (text : List ℕ) → IsTrue (is_word_byte b) → before_text b text ≡ b ∷ text
before b [] h = rw (no_blank b h) refl
before b (c ∷ text) h = refl

trimmed-word : (text : List ℕ) → IsTrue (list_all is_word_byte text) → trimmed text ≡ text
trimmed-word [] h = refl
trimmed-word (b ∷ text) h =
    ap (before_text b) (trimmed-word text (and_right (is_word_byte b) (list_all is_word_byte text) h))
    ∙ before b text (and_left (is_word_byte b) (list_all is_word_byte text) h)

letter_is_word : (b : ℕ) → IsTrue (is_letter b) → IsTrue (is_word_byte b)
letter_is_word b h = rw h refl

both : (a b : Bool) → IsTrue a → IsTrue b → IsTrue (a && b)
both true true p q = refl
both true false p q = absurd (cc q)
both false b p q = absurd (cc p)

word_bytes : (text : List ℕ) → IsTrue (is_kept_word text) → IsTrue (list_all is_word_byte text)
word_bytes [] h = absurd (cc h)
word_bytes (b ∷ more) h =
    let front = and_left (is_letter b && list_all is_word_byte more) (list_all (λ c. not (is_lower c)) (b ∷ more)) h in
    both (is_word_byte b) (list_all is_word_byte more)
    (letter_is_word b (and_left (is_letter b) (list_all is_word_byte more) front)) (and_right (is_letter b) (list_all is_word_byte more) front)

name_trimmed : (name : Name) → IsTrue (is_given_name name) → trimmed name.0 ≡ name.0
name_trimmed name h =
    trimmed-word name.0 (word_bytes name.0 (and_left (is_kept_word name.0) (is_name name.0)
    (and_left (is_kept_word name.0 && is_name name.0) (nat_le (length name.0) 18) h)))

name_with : List ℕ → Name
name_with bytes = record { 0 = bytes }

pub name_back : (name : Name) → IsTrue (is_given_name name) → name_in_page (printed_name name) ≡ name
unfolding name_with
name_back name good = ap name_with (trimmed-filled name.0 _ ∙ name_trimmed name good)

-- ---- columns

type_back : (ty : ColType) → type_in_page (type_code ty) (char_length ty) ≡ ty
type_back column.Integer = refl
type_back column.Bigint = refl
type_back (column.Char n) = refl
type_back column.Date = refl

kind_back : (kind : GenKind) → kind_in_page (kind_code kind) ≡ kind
kind_back IntegerOver = refl
kind_back Year = refl
kind_back Month = refl
kind_back Over = refl
kind_back Plus = refl

some_kind : (kind : GenKind) → (kind_code kind == 0) ≡ false
some_kind IntegerOver = refl
some_kind Year = refl
some_kind Month = refl
some_kind Over = refl
some_kind Plus = refl

flag_back : (flag : Bool) → (printed_flag flag == 1) ≡ flag
flag_back true = refl
flag_back false = refl

expression_with : GenKind → ℕ → ℤ → GenExpr
expression_with kind base k = record { kind = kind; base = base; k = k }

expression_back : (e : GenExpr) → IsTrue (in_bigint e.k) → expression_in_page (printed_expression e) ≡ e
unfolding expression_with
expression_back e h =
    let fits = fits_bigint e.k h in
    let k : cast_signed w64 (big_number 8 (big_bytes 8 (cast_unsigned w64 e.k))) ≡ e.k =
    ap (cast_signed w64) (number_back 8 (cast_unsigned w64 e.k) (unsigned_lt e.k fits)) ∙ signed_back e.k fits in
    apply3 expression_with (kind_back e.kind) refl k

-- a number of an expression that is there lies in BIGINT
abbrev pub HasNumber : Option GenExpr → Type 0
HasNumber None = Unit {0}
HasNumber (Some e) = IsTrue (in_bigint e.k)

made_back : (made : Option GenExpr) → HasNumber made → made_in_page (printed_made made) ≡ made
made_back None h = refl
made_back (Some e) h =
    ap (λ b. if b then None else Some (expression_in_page (printed_expression e))) (some_kind e.kind) ∙ ap Some (expression_back e h)

-- what holds of a column by its own
pub record IsPrintable (column : ColumnDef) : Type 0 where
  pub name : IsTrue (is_given_name column.name)
  pub number : HasNumber column.made

number_of_source : (columns : List ColumnDef) (ty : ColType) (made : Option GenExpr) → IsTrue (is_good_source columns ty made) → HasNumber made
number_of_source columns ty None h = tt
number_of_source columns ty (Some e) h = and_right _ (in_bigint e.k) (and_left (_ && in_bigint e.k) _ h)

printable : (columns : List ColumnDef) (column : ColumnDef) → IsTrue (is_good_column columns column) → IsPrintable column
printable columns column h = record {
  name = name_of_column columns column h;
  number = number_of_source columns column.ty column.made
      (and_right (is_given_name column.name && is_good_type column.ty) (is_good_source columns column.ty column.made) h);
}

pub all_printable : (columns some : List ColumnDef) → IsTrue (list_all (is_good_column columns) some) → AllByRecursion IsPrintable some
all_printable columns some h =
    all_weaker (λ column. IsTrue (is_good_column columns column)) IsPrintable (printable columns) some (each_passes (is_good_column columns) some h)

column_with : Name → ColType → Bool → Option GenExpr → ColumnDef
column_with name ty not_null made = record { name = name; ty = ty; not_null = not_null; made = made }

pub column_back : (column : ColumnDef) → IsPrintable column → column_in_page (printed_column column) ≡ column
unfolding column_in_page column_with
column_back column is =
    let bytes = printed_column column in
    let ns : List ℕ = 18 ∷ 3 ∷ 10 ∷ [] in
    let are : AllZip (λ part n. length part ≡ n) (column_parts column) (18 ∷ 3 ∷ 10 ∷ []) = (length-printed_name column.name (short_name column.name is.name), (refl, (length-printed_made column.made, tt))) in
    let name : bytes_in 0 18 bytes ≡ printed_name column.name = part_of_row (column_parts column) ns 0 are (omega arith) in
    let codes : bytes_in 18 3 bytes ≡ type_code column.ty ∷ char_length column.ty ∷ printed_flag column.not_null ∷ [] = part_of_row (column_parts column) ns 1 are (omega arith) in
    let made : bytes_in 21 10 bytes ≡ printed_made column.made = part_of_row (column_parts column) ns 2 are (omega arith) in
    let code : slice_index bytes 18 ≡ type_code column.ty = sym (byte_in 18 3 0 bytes (omega arith)) ∙ ap (λ part. slice_index part 0) codes in
    let len : slice_index bytes 19 ≡ char_length column.ty = sym (byte_in 18 3 1 bytes (omega arith)) ∙ ap (λ part. slice_index part 1) codes in
    let flag : slice_index bytes 20 ≡ printed_flag column.not_null = sym (byte_in 18 3 2 bytes (omega arith)) ∙ ap (λ part. slice_index part 2) codes in
    apply4 column_with
    (ap name_in_page name ∙ name_back column.name is.name)
    (ap (λ n. type_in_page n (slice_index bytes 19)) code ∙ (ap (type_in_page (type_code column.ty)) len ∙ type_back column.ty))
    (ap (λ n. n == 1) flag ∙ flag_back column.not_null)
    (ap made_in_page made ∙ made_back column.made is.number)

-- ---- dimensions

pub dimension_back : (dim : List ℕ) → length dim ≤ 16 → dimension_in_page (printed_dimension dim) ≡ dim
unfolding dimension_in_page
dimension_back dim few =
    let count : min (length dim) 16 ≡ length dim = omega arith in
    ap (λ n. take n (dim ++ replicate (17 - length (length dim ∷ dim)) 0)) count ∙ take_at dim (replicate (17 - length (length dim ∷ dim)) 0) (length dim) refl

-- ---- indexes

part_with : ℕ → Bool → KeyPart
part_with column descending = record { column = column; descending = descending }

part_back : (part : KeyPart) → Unit {0} → part_in_page (printed_part part) ≡ part
unfolding part_with
part_back part p = ap (part_with part.column) (flag_back part.descending)

index_with : Name → Bool → List KeyPart → ℕ → IndexDef
index_with name unique parts root = record { name = name; unique = unique; parts = parts; root = root }

pub index_back : (columns : List ColumnDef) (index : IndexDef) → IsGoodIndex columns index → index_in_page (printed_index index) ≡ index
unfolding index_in_page index_with
index_back columns index is =
    let bytes = printed_index index in
    let ns : List ℕ = 18 ∷ 2 ∷ 32 ∷ 4 ∷ [] in
    let are : AllZip (λ part n. length part ≡ n) (index_parts index) (18 ∷ 2 ∷ 32 ∷ 4 ∷ []) = (length-printed_name index.name (short_name index.name is.name), (refl, (length-printed_parts index.parts is.few_parts, (length-bytes_high_first 4 index.root, tt)))) in
    let name : bytes_in 0 18 bytes ≡ printed_name index.name = part_of_row (index_parts index) ns 0 are (omega arith) in
    let counts : bytes_in 18 2 bytes ≡ printed_flag index.unique ∷ length index.parts ∷ [] = part_of_row (index_parts index) ns 1 are (omega arith) in
    let parts : bytes_in 20 32 bytes ≡ zero_filled 32 (flat_map printed_part index.parts) = part_of_row (index_parts index) ns 2 are (omega arith) in
    let root : bytes_in 52 4 bytes ≡ big_bytes 4 index.root = part_of_row (index_parts index) ns 3 are (omega arith) in
    let flag : slice_index bytes 18 ≡ printed_flag index.unique = sym (byte_in 18 2 0 bytes (omega arith)) ∙ ap (λ part. slice_index part 0) counts in
    let count : slice_index bytes 19 ≡ length index.parts = sym (byte_in 18 2 1 bytes (omega arith)) ∙ ap (λ part. slice_index part 1) counts in
    apply4 index_with
    (ap name_in_page name ∙ name_back index.name is.name)
    (ap (λ n. n == 1) flag ∙ flag_back index.unique)
    (ap (entries_in_page part_in_page 2 16 (slice_index bytes 19)) parts
    ∙ entries_back printed_part part_in_page 2 16 (λ part. Unit {0}) length-printed_part part_back index.parts (slice_index bytes 19) _ (any_part index.parts) is.few_parts count)
    (ap (big_number 4) root ∙ number_back 4 index.root is.root)
