-- Keys of rows: their width, their order, and what equal ones say.
use Rattle.std.proofs.Common.{◌≡◌, ℕ, zero, suc, ◌+◌, ◌<◌, ◌↔◌, List, [], ◌∷◌, ◌++◌, length, Bool, true, false, refl, sym, ap, subst, ◌∙◌, arith, Ordering, add-one, drop, drop-cons, length-append}
use Rattle.std.specs.Prelude.{nat_lt, IsTrue, Some, slice_get, slice_index_or, unwrap_or}
use Rattle.std.specs.declared.cmp.Ordering.TheVariants.{Less, Equal, Greater}
use Rattle.std.specs.Ordering.{nat_cmp, is_lt, ordering_then}
use Rattle.std.specs.Cmp.Lexicographic.{slice_cmp}
use Rattle.std.proofs.lemmas.Bool.Decides.{nat_tests}
use Rattle.mdc_words.specs.ByteOrder.{below}
use Rattle.mdc_values.specs.declared.value.ColType.{ColType}
use Rattle.mdc_values.specs.declared.value.Value.{Value}
use Rattle.mdc_values.specs.declared.value.Value.TheVariants.{Null}
use Rattle.mdc_values.specs.Order.{order}
use Rattle.mdc_ast.specs.declared.definition.ColumnDef.{ColumnDef}
use Rattle.mdc_ast.specs.declared.definition.KeyPart.{KeyPart}
use Rattle.mdc_ast.specs.Definitions.{are_there, places_of}
use Rattle.mdc_ast.specs.Database.{fits_all, is_of_type}
use Rattle.mdc_ast.specs.Truth.{value_at}
use Rattle.mdc_ast.proofs.FitsLemmas.{fits_all-at}
use Rattle.mdc_ast.proofs.TestsLemmas.{both}
use Rattle.key_codec.specs.Keys.{ArePartsOf, bytes_at_part, has_key, key_bytes, part_bytes, part_width, type_of_column, type_or_none, width_of_parts}
use Rattle.mdc_ast.specs.ValidDatabase.{AreSameAtParts}
use Rattle.key_codec.specs.KeyOrder.{order_at_part, order_by_parts, turned_order}
use Rattle.key_codec.proofs.OrderLemmas.{slice_cmp-append, slice_cmp-same}
use Rattle.key_codec.proofs.PartLemmas.{has_key-is_of_type, length-part_bytes, same_value, slice_cmp-turned_part}

-- ---- columns of parts

-- the column in a place that is there
pub column_there : (columns : List ColumnDef) (place : ℕ) → IsTrue (nat_lt place (length columns))
    → (column : ColumnDef) × (slice_get columns place ≡ Some column)
column_there [] place h = absurd (none_below place h)
  where
    none_below : (place : ℕ) → IsTrue (nat_lt place 0) → ⊥
    none_below place h = let lt : place < 0 = grind (arith, nat_tests, h) in omega (arith, lt)
column_there (column ∷ columns) zero h = (column, refl)
column_there (column ∷ columns) (suc place) h = column_there columns place (less place (length columns) h)
  where
    less : (a b : ℕ) → IsTrue (nat_lt (suc a) (suc b)) → IsTrue (nat_lt a b)
    less a b h = grind (arith, nat_tests, h)

-- the value in the column of a part is of its type
pub type_at_part : (columns : List ColumnDef) (values : List Value) (place : ℕ) → IsTrue (nat_lt place (length columns)) → IsTrue (fits_all columns values)
    → IsTrue (is_of_type (type_of_column columns place) (value_at values place))
type_at_part columns values place there fits =
    let found = column_there columns place there in
    let typed : IsTrue (is_of_type found.0.ty (value_at values place)) = fits_all-at columns values place found.0 found.1 fits in
    subst (λ o. IsTrue (is_of_type (type_or_none o) (value_at values place))) (sym found.1) typed

pub first_there : (columns : List ColumnDef) (part : KeyPart) (parts : List KeyPart) → IsTrue (are_there columns (places_of (part ∷ parts)))
    → IsTrue (nat_lt part.column (length columns)) × IsTrue (are_there columns (places_of parts))
first_there columns part parts h = both (nat_lt part.column (length columns)) (are_there columns (places_of parts)) h

-- ---- widths

pub width_of_parts-cons : (columns : List ColumnDef) (part : KeyPart) (parts : List KeyPart) → IsTrue (nat_lt part.column (length columns))
    → width_of_parts columns (part ∷ parts) ≡ part_width (type_of_column columns part.column) + width_of_parts columns parts
width_of_parts-cons columns part parts there = let found = column_there columns part.column there in rw found.1 refl

pub length-key_bytes : (columns : List ColumnDef) (parts : List KeyPart) (values : List Value) → IsTrue (are_there columns (places_of parts)) → IsTrue (fits_all columns values)
    → length (key_bytes columns parts values) ≡ width_of_parts columns parts
length-key_bytes columns [] values there fits = refl
length-key_bytes columns (part ∷ parts) values there fits =
    let split = first_there columns part parts there in
    let ty = type_of_column columns part.column in
    let value = value_at values part.column in
    let first = length-part_bytes ty part.descending value (has_key-is_of_type ty value (type_at_part columns values part.column split.0 fits)) in
    let rest = length-key_bytes columns parts values split.1 fits in
    let whole = length-append (part_bytes ty part.descending value) (key_bytes columns parts values) in
    whole ∙ ap (λ n. n + length (key_bytes columns parts values)) first ∙ ap (λ n. part_width ty + n) rest ∙ sym (width_of_parts-cons columns part parts split.0)

-- ---- order

pub slice_cmp-key_bytes : (columns : List ColumnDef) (parts : List KeyPart) (a b : List Value) → IsTrue (are_there columns (places_of parts))
    → IsTrue (fits_all columns a) → IsTrue (fits_all columns b)
    → slice_cmp nat_cmp (key_bytes columns parts a) (key_bytes columns parts b) ≡ order_by_parts parts a b
slice_cmp-key_bytes columns [] a b there fa fb = refl
slice_cmp-key_bytes columns (part ∷ parts) a b there fa fb =
    let split = first_there columns part parts there in
    let ty = type_of_column columns part.column in
    let x = value_at a part.column in
    let y = value_at b part.column in
    let hx = has_key-is_of_type ty x (type_at_part columns a part.column split.0 fa) in
    let hy = has_key-is_of_type ty y (type_at_part columns b part.column split.0 fb) in
    let rest = slice_cmp-key_bytes columns parts a b split.1 fa fb in
    slice_cmp-append (part_bytes ty part.descending x) (part_bytes ty part.descending y) (key_bytes columns parts a) (key_bytes columns parts b)
    (length-part_bytes ty part.descending x hx ∙ sym (length-part_bytes ty part.descending y hy))
    ∙ ap (λ o. ordering_then o (slice_cmp nat_cmp (key_bytes columns parts a) (key_bytes columns parts b))) (slice_cmp-turned_part ty part.descending x y hx hy)
    ∙ ap (ordering_then (order_at_part part a b)) rest

then_Equal : (o p : Ordering) → ordering_then o p ≡ Equal → (o ≡ Equal) × (p ≡ Equal)
then_Equal Less p e = absurd (less_is_no_tie e)
  where
    less_is_no_tie : Less ≡ Equal → ⊥
    less_is_no_tie e = cc
then_Equal Equal p e = (refl, e)
then_Equal Greater p e = absurd (greater_is_no_tie e)
  where
    greater_is_no_tie : Greater ≡ Equal → ⊥
    greater_is_no_tie e = cc

turned_Equal : (descending : Bool) (o : Ordering) → turned_order descending o ≡ Equal → o ≡ Equal
turned_Equal false o e = e
turned_Equal true Less e = cc
turned_Equal true Equal e = refl
turned_Equal true Greater e = cc

-- rows with one place have the same values
pub same_by_parts : (columns : List ColumnDef) (parts : List KeyPart) (a b : List Value) → IsTrue (are_there columns (places_of parts))
    → IsTrue (fits_all columns a) → IsTrue (fits_all columns b) → order_by_parts parts a b ≡ Equal → AreSameAtParts parts a b
same_by_parts columns [] a b there fa fb e = tt
same_by_parts columns (part ∷ parts) a b there fa fb e =
    let split = first_there columns part parts there in
    let ty = type_of_column columns part.column in
    let ends = then_Equal (order_at_part part a b) (order_by_parts parts a b) e in
    let first = same_value ty (value_at a part.column) (value_at b part.column) (type_at_part columns a part.column split.0 fa) (type_at_part columns b part.column split.0 fb)
    (turned_Equal part.descending (order (value_at a part.column) (value_at b part.column)) ends.0) in
    (first, same_by_parts columns parts a b split.1 fa fb ends.1)

-- a key depends on the values of its parts alone
pub key_bytes-same : (columns : List ColumnDef) (parts : List KeyPart) (a b : List Value) → AreSameAtParts parts a b → key_bytes columns parts a ≡ key_bytes columns parts b
key_bytes-same columns [] a b same = refl
key_bytes-same columns (part ∷ parts) a b same =
    ap (λ value. part_bytes (type_of_column columns part.column) part.descending value ++ key_bytes columns parts a) same.0
    ∙ ap (λ rest. bytes_at_part columns b part ++ rest) (key_bytes-same columns parts a b same.1)

-- ---- the laws

pub below-key_bytes : (columns : List ColumnDef) (parts : List KeyPart) (a b : List Value) → ArePartsOf columns parts
    → IsTrue (fits_all columns a) → IsTrue (fits_all columns b)
    → below (key_bytes columns parts a) (key_bytes columns parts b) ≡ is_lt (order_by_parts parts a b)
unfolding below
below-key_bytes columns parts a b are fa fb = ap is_lt (slice_cmp-key_bytes columns parts a b are.there fa fb)

pub same-key_bytes : (columns : List ColumnDef) (parts : List KeyPart) (a b : List Value) → ArePartsOf columns parts
    → IsTrue (fits_all columns a) → IsTrue (fits_all columns b)
    → (key_bytes columns parts a ≡ key_bytes columns parts b) ↔ AreSameAtParts parts a b
same-key_bytes columns parts a b are fa fb =
    let one_place : key_bytes columns parts a ≡ key_bytes columns parts b → order_by_parts parts a b ≡ Equal =
    λ e. sym (slice_cmp-key_bytes columns parts a b are.there fa fb) ∙ ap (slice_cmp nat_cmp (key_bytes columns parts a)) (sym e) ∙ slice_cmp-same (key_bytes columns parts a) in
    (λ e. same_by_parts columns parts a b are.there fa fb (one_place e), λ same. key_bytes-same columns parts a b same)

-- ---- the parts that are left in a loop

-- the column of each part is there
pub column_of_part : (columns : List ColumnDef) (parts items : List KeyPart) (i : ℕ) (d : KeyPart) → items ≡ parts → IsTrue (are_there columns (places_of parts)) → i < length items
    → (slice_index_or items i d).column < length columns
column_of_part columns parts items i d e there lt = by items i lt (subst (λ ps. IsTrue (are_there columns (places_of ps))) (sym e) there)
  where
    by : (items : List KeyPart) (i : ℕ) → i < length items → IsTrue (are_there columns (places_of items)) → (slice_index_or items i d).column < length columns
    by [] i lt there = absurd (omega (arith, lt))
    by (part ∷ items) zero lt there = grind (arith, nat_tests, (first_there columns part items there).0)
    by (part ∷ items) (suc i) lt there = by items i (omega (arith, lt)) (first_there columns part items there).1

-- a value that a row has in a column has a key
pub has_key_at : (columns : List ColumnDef) (values : List Value) (place : ℕ) (ty : ColType) (value : Value) → place < length columns → IsTrue (fits_all columns values)
    → ty ≡ type_of_column columns place → slice_get values place ≡ Some value → IsTrue (has_key ty value)
has_key_at columns values place ty value lt fits ty_is value_is =
    let there : IsTrue (nat_lt place (length columns)) = grind (arith, nat_tests, lt) in
    let v_is : value_at values place ≡ value = ap (λ o. unwrap_or o Null) value_is in
    let typed : IsTrue (is_of_type ty value) =
    subst (λ v. IsTrue (is_of_type ty v)) v_is (subst (λ t. IsTrue (is_of_type t (value_at values place))) (sym ty_is) (type_at_part columns values place there fits)) in
    has_key-is_of_type ty value typed

-- the widths of the parts that are left, and of one more that is put
pub width_next : (columns : List ColumnDef) (parts items : List KeyPart) (i total w : ℕ) (d : KeyPart) (ty : ColType) → items ≡ parts → IsTrue (are_there columns (places_of parts)) → i < length items
    → ty ≡ type_of_column columns (slice_index_or items i d).column → w ≡ part_width ty
    → total + width_of_parts columns (drop i items) ≡ width_of_parts columns parts
    → (total + w) + width_of_parts columns (drop (i + 1) items) ≡ width_of_parts columns parts
width_next columns parts items i total w d ty e there lt ty_is w_is before =
    let part = slice_index_or items i d in
    let left : drop i items ≡ part ∷ drop (i + 1) items = rw (add-one i) (drop-cons items i d lt) in
    let inside = column_of_part columns parts items i d e there lt in
    let within : IsTrue (nat_lt part.column (length columns)) = grind (arith, nat_tests, inside) in
    let wide : w ≡ part_width (type_of_column columns part.column) = w_is ∙ ap part_width ty_is in
    let whole : total + (part_width (type_of_column columns part.column) + width_of_parts columns (drop (i + 1) items)) ≡ width_of_parts columns parts =
    ap (λ n. total + n) (sym (width_of_parts-cons columns part (drop (i + 1) items) within)) ∙ ap (λ ps. total + width_of_parts columns ps) (sym left) ∙ before in
    omega (arith, wide, whole)
