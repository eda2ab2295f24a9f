-- Ranges of keys between two bounds.
use Rattle.std.proofs.Common.{◌≡◌, ℕ, ◌<◌, List, [], ◌∷◌, ◌++◌, length, Bool, true, false, refl, sym, ap, subst, ◌∙◌, arith, append_assoc}
use Rattle.std.specs.Prelude.{not, ◌&&◌, IsTrue, Option, Some, slice_get}
use Rattle.std.proofs.lemmas.Bool.Decides.{nat_tests}
use Rattle.mdc_words.specs.ByteOrder.{Entry}
use Rattle.mdc_values.specs.declared.value.ColType.{ColType}
use Rattle.mdc_values.specs.declared.value.Value.{Value}
use Rattle.mdc_ast.specs.declared.definition.ColumnDef.{ColumnDef}
use Rattle.mdc_ast.specs.declared.definition.KeyPart.{KeyPart}
use Rattle.mdc_ast.specs.declared.span.Span.{Span}
use Rattle.mdc_ast.specs.Database.{fits_all}
use Rattle.mdc_ast.specs.Truth.{value_at}
use Rattle.mdc_ast.proofs.TestsLemmas.{some_is}
use Rattle.key_codec.specs.Keys.{ArePartsOf, bytes_at_part, key_bytes, part_bytes, type_of_column}
use Rattle.key_codec.specs.Spans.{IsBoundOf, IsRangeOf, first_column, is_above, is_first_descending, is_in_range, lies_in_span, reaches}
use Rattle.key_codec.proofs.KeyLemmas.{first_there, type_at_part}
use Rattle.key_codec.proofs.PartLemmas.{has_key-is_of_type}

-- what lies between two bounds
abbrev pub IsBetween : Option Entry → Option Entry → Entry → Option Entry → Type 0
IsBetween low high from end = (entry : Entry) → is_in_range from end entry ≡ (reaches low entry && not (reaches high entry))

ascending_range : (ty : ColType) (span : Span) (low high : Option Entry) (from : Entry) (end : Option Entry)
    → IsBoundOf ty false span.low low → IsBoundOf ty false span.high high → IsBetween low high from end → IsRangeOf ty false span from end
ascending_range ty span low high from end is_low is_high is_between = λ value rest h.
    is_between (part_bytes ty false value ++ rest)
    ∙ ap (λ b. b && not (reaches high (part_bytes ty false value ++ rest))) (is_low value rest h)
    ∙ ap (λ b. is_above span.low value && not b) (is_high value rest h)

descending_range : (ty : ColType) (span : Span) (low high : Option Entry) (from : Entry) (end : Option Entry)
    → IsBoundOf ty true span.low low → IsBoundOf ty true span.high high → IsBetween high low from end → IsRangeOf ty true span from end
descending_range ty span low high from end is_low is_high is_between = λ value rest h.
    is_between (part_bytes ty true value ++ rest)
    ∙ ap (λ b. b && not (reaches low (part_bytes ty true value ++ rest))) (is_high value rest h)
    ∙ ap (λ b. not (is_above span.high value) && not b) (is_low value rest h)
    ∙ mirrored (is_above span.low value) (is_above span.high value)
  where
    mirrored : (a b : Bool) → (not b && not (not a)) ≡ (a && not b)
    mirrored true true = refl
    mirrored true false = refl
    mirrored false true = refl
    mirrored false false = refl

-- the first part of a key
first_is : (parts : List KeyPart) (part : KeyPart) → slice_get parts 0 ≡ Some part → (first_column parts ≡ part.column) × (is_first_descending parts ≡ part.descending)
first_is [] part e = cc
first_is (first ∷ parts) part e = let same = some_is first part e in (ap (λ p. p.column) same, ap (λ p. p.descending) same)

pub column_of_first : (columns : List ColumnDef) (parts : List KeyPart) (part : KeyPart) → slice_get parts 0 ≡ Some part → ArePartsOf columns parts → part.column < length columns
column_of_first columns [] part e are = absurd (nothing e)
  where
    nothing : slice_get {X = KeyPart} [] 0 ≡ Some part → ⊥
    nothing e = cc
column_of_first columns (first ∷ parts) part e are =
    let there = (first_there columns first parts are.there).0 in
    let same : first.column ≡ part.column = ap (λ p. p.column) (some_is first part e) in
    let lt : first.column < length columns = grind (arith, nat_tests, there) in
    subst (λ c. c < length columns) same lt

-- the type of the first part's column
pub type_of_first : (columns : List ColumnDef) (parts : List KeyPart) (part : KeyPart) (ty : ColType) → slice_get parts 0 ≡ Some part
    → ty ≡ type_of_column columns part.column → ty ≡ type_of_column columns (first_column parts)
type_of_first columns parts part ty e ty_is = ty_is ∙ ap (type_of_column columns) (sym (first_is parts part e).0)

-- a range of the first part's type and direction, as it is said of the parts
range_of_first : (columns : List ColumnDef) (parts : List KeyPart) (part : KeyPart) (ty : ColType) (descending : Bool) (span : Span) (from : Entry) (end : Option Entry)
    → slice_get parts 0 ≡ Some part → ty ≡ type_of_column columns part.column → part.descending ≡ descending
    → IsRangeOf ty descending span from end → IsRangeOf (type_of_column columns (first_column parts)) (is_first_descending parts) span from end
range_of_first columns parts part ty descending span from end e ty_is turn range =
    let first = first_is parts part e in
    let typed : ty ≡ type_of_column columns (first_column parts) = type_of_first columns parts part ty e ty_is in
    subst (λ t. IsRangeOf t (is_first_descending parts) span from end) typed
    (subst (λ d. IsRangeOf ty d span from end) (sym (first.1 ∙ turn)) range)

pub range_of_ascending_parts : (columns : List ColumnDef) (parts : List KeyPart) (part : KeyPart) (ty : ColType) (span : Span) (low high : Option Entry) (from : Entry) (end : Option Entry)
    → slice_get parts 0 ≡ Some part → ty ≡ type_of_column columns part.column → part.descending ≡ false
    → IsBoundOf ty part.descending span.low low → IsBoundOf ty part.descending span.high high → IsBetween low high from end
    → IsRangeOf (type_of_column columns (first_column parts)) (is_first_descending parts) span from end
range_of_ascending_parts columns parts part ty span low high from end e ty_is turn is_low is_high is_between =
    range_of_first columns parts part ty false span from end e ty_is turn
    (ascending_range ty span low high from end
    (subst (λ d. IsBoundOf ty d span.low low) turn is_low) (subst (λ d. IsBoundOf ty d span.high high) turn is_high) is_between)

pub range_of_descending_parts : (columns : List ColumnDef) (parts : List KeyPart) (part : KeyPart) (ty : ColType) (span : Span) (low high : Option Entry) (from : Entry) (end : Option Entry)
    → slice_get parts 0 ≡ Some part → ty ≡ type_of_column columns part.column → part.descending ≡ true
    → IsBoundOf ty part.descending span.low low → IsBoundOf ty part.descending span.high high → IsBetween high low from end
    → IsRangeOf (type_of_column columns (first_column parts)) (is_first_descending parts) span from end
range_of_descending_parts columns parts part ty span low high from end e ty_is turn is_low is_high is_between =
    range_of_first columns parts part ty true span from end e ty_is turn
    (descending_range ty span low high from end
    (subst (λ d. IsBoundOf ty d span.low low) turn is_low) (subst (λ d. IsBoundOf ty d span.high high) turn is_high) is_between)

-- whole keys lie as their first parts do
pub range_of_rows : (columns : List ColumnDef) (parts : List KeyPart) (span : Span) (from : Entry) (end : Option Entry)
    → 0 < length parts → ArePartsOf columns parts → IsRangeOf (type_of_column columns (first_column parts)) (is_first_descending parts) span from end
    → (values : List Value) (rest : List ℕ) → IsTrue (fits_all columns values)
    → is_in_range from end (key_bytes columns parts values ++ rest) ≡ lies_in_span span (value_at values (first_column parts))
range_of_rows columns [] span from end some are range values rest fits = absurd (omega (arith, some))
range_of_rows columns (part ∷ parts) span from end some are range values rest fits =
    let ty = type_of_column columns part.column in
    let value = value_at values part.column in
    let there = first_there columns part parts are.there in
    ap (is_in_range from end) (append_assoc (bytes_at_part columns values part) (key_bytes columns parts values) rest)
    ∙ range value (key_bytes columns parts values ++ rest) (has_key-is_of_type ty value (type_at_part columns values part.column there.0 fits))
