-- The keys of two rows, compared part by part.
use Rattle.std.proofs.Common.{◌≡◌, ◌≢◌, ◌+◌, ◌<◌, ◌≤◌, ℕ, suc, List, ◌∷◌, length, refl, ap, add-one, sym, ◌∙◌, subst, drop, drop-cons}
use Rattle.std.specs.Prelude.{Bool, true, false, not, ◌==◌, IsTrue, Some, slice_get, slice_index_or as get_or, unwrap_or}
use Rattle.std.specs.declared.cmp.Ordering.{Ordering}
use Rattle.std.specs.declared.cmp.Ordering.TheVariants.{Less, Equal, Greater}
use Rattle.std.specs.Ordering.{is_eq, nat_cmp, ordering_index, ordering_then}
use Rattle.std.specs.Cmp.Lexicographic.{slice_cmp}
use Rattle.std.specs.Str.{bytes_eq}
use Rattle.std.proofs.lemmas.List.{drop_all}
use Rattle.std.proofs.lemmas.Map.Text.{is_eq-slice_cmp}
use Rattle.mdc_values.specs.Order.{are_alike, order}
use Rattle.mdc_values.specs.declared.value.ColType.{ColType}
use Rattle.mdc_values.specs.declared.value.ColType.TheVariants.{Integer, Bigint, Char, Date}
use Rattle.mdc_values.specs.declared.value.Value.{Value}
use Rattle.mdc_values.specs.declared.value.Value.TheVariants.{Null, Int, Text, Day}
use Rattle.mdc_ast.specs.Definitions.{are_there, places_of}
use Rattle.mdc_ast.specs.Truth.{value_at}
use Rattle.mdc_ast.specs.declared.definition.ColumnDef.{ColumnDef}
use Rattle.mdc_ast.specs.declared.definition.KeyPart.{KeyPart}
use Rattle.key_codec.specs.KeyOrder.{turned_order}
use Rattle.key_codec.specs.Keys.{bytes_at_part, has_key, key_bytes, type_of_column}
use Rattle.key_codec.proofs.KeyLemmas.{first_there}
use Rattle.key_codec.proofs.OrderLemmas.{slice_cmp-append}
use Rattle.key_codec.proofs.PartLemmas.{length-part_bytes, slice_cmp-turned_part}
use Rattle.record_index.specs.RecordIndexes.{HaveKeysIn}

-- ---- values of one column

alike : (ty : ColType) (a b : Value) → IsTrue (has_key ty a) → IsTrue (has_key ty b) → IsTrue (are_alike a b)
alike ty Null b h g = refl
alike ty (Int n) Null h g = refl
alike ty (Text text) Null h g = refl
alike ty (Day day) Null h g = refl
alike ty (Int n) (Int m) h g = refl
alike ty (Text text) (Text more) h g = refl
alike ty (Day day) (Day other) h g = refl
alike Integer (Int n) (Text more) h g = absurd cc
alike Bigint (Int n) (Text more) h g = absurd cc
alike (Char k) (Int n) (Text more) h g = absurd cc
alike Date (Int n) (Text more) h g = absurd cc
alike Integer (Int n) (Day other) h g = absurd cc
alike Bigint (Int n) (Day other) h g = absurd cc
alike (Char k) (Int n) (Day other) h g = absurd cc
alike Date (Int n) (Day other) h g = absurd cc
alike Integer (Text text) (Int m) h g = absurd cc
alike Bigint (Text text) (Int m) h g = absurd cc
alike (Char k) (Text text) (Int m) h g = absurd cc
alike Date (Text text) (Int m) h g = absurd cc
alike Integer (Text text) (Day other) h g = absurd cc
alike Bigint (Text text) (Day other) h g = absurd cc
alike (Char k) (Text text) (Day other) h g = absurd cc
alike Date (Text text) (Day other) h g = absurd cc
alike Integer (Day day) (Int m) h g = absurd cc
alike Bigint (Day day) (Int m) h g = absurd cc
alike (Char k) (Day day) (Int m) h g = absurd cc
alike Date (Day day) (Int m) h g = absurd cc
alike Integer (Day day) (Text more) h g = absurd cc
alike Bigint (Day day) (Text more) h g = absurd cc
alike (Char k) (Day day) (Text more) h g = absurd cc
alike Date (Day day) (Text more) h g = absurd cc

-- ---- the test of an order

pub is_tie : (o : Ordering) → not (ordering_index o == 1) ≡ false → o ≡ Equal
is_tie Less test = absurd cc
is_tie Equal test = refl
is_tie Greater test = absurd cc

pub is_no_tie : (o : Ordering) → not (ordering_index o == 1) ≡ true → o ≢ Equal
is_no_tie Less test same = absurd cc
is_no_tie Equal test same = absurd cc
is_no_tie Greater test same = absurd cc

-- ---- the first part decides, where the values differ

goes_on : (descending : Bool) (o p : Ordering) → o ≡ Equal → is_eq (ordering_then (turned_order descending o) p) ≡ is_eq p
goes_on false o p same = ap (λ q. is_eq (ordering_then q p)) same
goes_on true o p same = ap (λ q. is_eq (ordering_then (turned_order true q) p)) same

is_decided : (descending : Bool) (o p : Ordering) → o ≢ Equal → is_eq (ordering_then (turned_order descending o) p) ≡ false
is_decided false Less p other = refl
is_decided false Equal p other = absurd (other refl)
is_decided false Greater p other = refl
is_decided true Less p other = refl
is_decided true Equal p other = absurd (other refl)
is_decided true Greater p other = refl

-- the keys of two rows by the first part and the others
by_first : (columns : List ColumnDef) (part : KeyPart) (parts : List KeyPart) (a b : List Value) → HaveKeysIn columns (part ∷ parts) a → HaveKeysIn columns (part ∷ parts) b
    → bytes_eq (key_bytes columns (part ∷ parts) a) (key_bytes columns (part ∷ parts) b)
    ≡ is_eq (ordering_then (turned_order part.descending (order (value_at a part.column) (value_at b part.column))) (slice_cmp nat_cmp (key_bytes columns parts a) (key_bytes columns parts b)))
by_first columns part parts a b ha hb =
    let ty = type_of_column columns part.column in
    let x = value_at a part.column in
    let y = value_at b part.column in
    sym (is_eq-slice_cmp (key_bytes columns (part ∷ parts) a) (key_bytes columns (part ∷ parts) b))
    ∙ (ap is_eq (slice_cmp-append (bytes_at_part columns a part) (bytes_at_part columns b part) (key_bytes columns parts a) (key_bytes columns parts b)
    (length-part_bytes ty part.descending x ha.0.1 ∙ sym (length-part_bytes ty part.descending y hb.0.1)))
    ∙ ap (λ o. is_eq (ordering_then o (slice_cmp nat_cmp (key_bytes columns parts a) (key_bytes columns parts b)))) (slice_cmp-turned_part ty part.descending x y ha.0.1 hb.0.1))

-- ---- a loop over the parts

-- of these parts, which are left, the keys are the same or not, as they are of all
pub record IsComparedTo (columns : List ColumnDef) (a b : List Value) (whole : Bool) (parts : List KeyPart) : Type 0 where
  pub there : IsTrue (are_there columns (places_of parts))
  pub has_a : HaveKeysIn columns parts a
  pub has_b : HaveKeysIn columns parts b
  pub same : bytes_eq (key_bytes columns parts a) (key_bytes columns parts b) ≡ whole

module _ (columns : List ColumnDef) (a b : List Value) (whole : Bool) (items : List KeyPart) (i : ℕ) (d part : KeyPart) (is : IsComparedTo columns a b whole (drop i items)) (within : i < length items) (at : part ≡ get_or items i d) where
  left : drop i items ≡ part ∷ drop (i + 1) items
  left = rw (add-one i) (drop-cons items i d within ∙ ap (λ p. p ∷ drop (suc i) items) (sym at))

  here : IsComparedTo columns a b whole (part ∷ drop (i + 1) items)
  here = subst (IsComparedTo columns a b whole) left is

  pub within_a : part.column < length a
  within_a = here.has_a.0.0

  pub within_b : part.column < length b
  within_b = here.has_b.0.0

  module _ (x y : Value) (has_x : slice_get a part.column ≡ Some x) (has_y : slice_get b part.column ≡ Some y) where
    is_x : value_at a part.column ≡ x
    is_x = ap (λ o. unwrap_or o Null) has_x

    is_y : value_at b part.column ≡ y
    is_y = ap (λ o. unwrap_or o Null) has_y

    pub alike_here : IsTrue (are_alike x y)
    alike_here = subst (λ v. IsTrue (are_alike v y)) is_x (subst (λ v. IsTrue (are_alike (value_at a part.column) v)) is_y (alike (type_of_column columns part.column) _ _ here.has_a.0.1 here.has_b.0.1))

    order_is : order (value_at a part.column) (value_at b part.column) ≡ order x y
    order_is = ap (λ v. order v (value_at b part.column)) is_x ∙ ap (order x) is_y

    pub compared_next : order x y ≡ Equal → IsComparedTo columns a b whole (drop (i + 1) items)
    compared_next equal = record {
      there = (first_there columns part (drop (i + 1) items) here.there).1;
      has_a = here.has_a.1;
      has_b = here.has_b.1;
      same =
          sym (is_eq-slice_cmp (key_bytes columns (drop (i + 1) items) a) (key_bytes columns (drop (i + 1) items) b))
          ∙ (sym (by_first columns part (drop (i + 1) items) a b here.has_a here.has_b ∙ goes_on part.descending _ _ (order_is ∙ equal)) ∙ here.same);
    }

    pub differs_here : order x y ≢ Equal → whole ≡ false
    differs_here other = sym here.same ∙ (by_first columns part (drop (i + 1) items) a b here.has_a here.has_b ∙ is_decided part.descending _ _ (λ e. other (sym order_is ∙ e)))

-- with no part left they are the same
pub compared_all : (columns : List ColumnDef) (a b : List Value) (whole : Bool) (items : List KeyPart) (i : ℕ) → IsComparedTo columns a b whole (drop i items) → length items ≤ i → whole ≡ true
compared_all columns a b whole items i is past = sym (subst (IsComparedTo columns a b whole) (drop_all i items past) is).same
