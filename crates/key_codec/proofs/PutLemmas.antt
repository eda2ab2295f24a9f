-- What is left of bytes after one part of them was written.
use Rattle.std.proofs.Common.{◌≡◌, ℕ, ◌+◌, ◌-◌, ◌<◌, ◌≤◌, List, [], ◌∷◌, ◌++◌, length, take, drop, sym, ap, subst, ◌∙◌, arith, add-one, append_assoc, drop-cons, length-append, length-drop}
use Rattle.std.specs.Prelude.{IsTrue, Some, slice_get, slice_index_or, slice_set, unwrap_or}
use Rattle.std.proofs.lemmas.List.{append-nil, drop-drop, drop_all, drop_at, length-take, take_at, take_rest}
use Rattle.mdc_values.specs.declared.value.ColType.{ColType}
use Rattle.mdc_values.specs.declared.value.Value.{Value}
use Rattle.mdc_values.specs.declared.value.Value.TheVariants.{Null}
use Rattle.mdc_ast.specs.declared.definition.ColumnDef.{ColumnDef}
use Rattle.mdc_ast.specs.declared.definition.KeyPart.{KeyPart}
use Rattle.mdc_ast.specs.Database.{fits_all}
use Rattle.mdc_ast.specs.Definitions.{are_there, places_of}
use Rattle.mdc_ast.specs.Truth.{value_at}
use Rattle.key_codec.specs.Keys.{bytes_at_part, key_bytes, part_bytes, part_width, type_of_column, width_of_parts}
use Rattle.key_codec.proofs.KeyLemmas.{first_there, type_at_part, width_of_parts-cons}
use Rattle.key_codec.proofs.PartLemmas.{has_key-is_of_type, length-part_bytes}
use borrow.Rule.Slice.PartMut.{put_mid}

-- the first byte, and then all others
pub put_behind_first : (bytes rest : List ℕ) (b : ℕ) → 0 < length bytes → put_mid 1 (length (slice_set bytes 0 b) - 1) (slice_set bytes 0 b) rest ≡ b ∷ rest
put_behind_first [] rest b lt = absurd (omega (arith, lt))
put_behind_first (c ∷ bytes) rest b lt =
    let none : drop (length (b ∷ bytes) - 1) bytes ≡ [] = drop_all (length (b ∷ bytes) - 1) bytes (omega arith) in
    ap (λ more. b ∷ (rest ++ more)) none ∙ ap (λ more. b ∷ more) (append-nil rest)

-- ---- the parts of a key, one after another

-- Of a key all parts but some last ones were put, in a number of bytes, and behind them the bytes are as at the start.
pub record HasPut (columns : List ColumnDef) (parts : List KeyPart) (values : List Value) (old : List ℕ) (left : List KeyPart) (at : ℕ) (out : List ℕ) : Type 0 where
  pub there : IsTrue (are_there columns (places_of left))
  pub width : at + width_of_parts columns left ≡ width_of_parts columns parts
  pub bytes : take at out ++ key_bytes columns left values ≡ key_bytes columns parts values
  pub rest : drop at out ≡ drop at old

-- the part behind the first byte
pub length_behind_first : (bytes : List ℕ) (b : ℕ) → 0 < length bytes → length (take (length (slice_set bytes 0 b) - 1) (drop 1 (slice_set bytes 0 b))) ≡ length bytes - 1
length_behind_first [] b lt = absurd (omega (arith, lt))
length_behind_first (c ∷ bytes) b lt = omega (arith, length-take (length (b ∷ bytes) - 1) bytes)

-- one part more
pub put_next : (columns : List ColumnDef) (parts items : List KeyPart) (values : List Value) (old out new : List ℕ) (i at w : ℕ) (d : KeyPart) (ty : ColType) (value : Value)
    → HasPut columns parts values old (drop i items) at out → i < length items
    → IsTrue (fits_all columns values)
    → ty ≡ type_of_column columns (slice_index_or items i d).column → slice_get values (slice_index_or items i d).column ≡ Some value
    → w ≡ part_width ty → width_of_parts columns parts ≤ length out
    → new ≡ part_bytes ty (slice_index_or items i d).descending value ++ drop (part_width ty) (take (length out - at) (drop at out))
    → HasPut columns parts values old (drop (i + 1) items) (at + w) (put_mid at (length out - at) out new)
put_next columns parts items values old out new i at w d ty value put lt fits ty_is value_is w_is room new_is =
    let part = slice_index_or items i d in
    let more = drop (i + 1) items in
    let bytes = bytes_at_part columns values part in
    let left : drop i items ≡ part ∷ more = rw (add-one i) (drop-cons items i d lt) in
    let there = first_there columns part more (subst (λ ps. IsTrue (are_there columns (places_of ps))) left put.there) in
    let v_is : value_at values part.column ≡ value = ap (λ o. unwrap_or o Null) value_is in
    let bytes_are : part_bytes ty part.descending value ≡ bytes =
    ap (λ t. part_bytes t part.descending value) ty_is ∙ ap (λ v. part_bytes (type_of_column columns part.column) part.descending v) (sym v_is) in
    let width : length bytes ≡ w =
    length-part_bytes (type_of_column columns part.column) part.descending (value_at values part.column)
    (has_key-is_of_type (type_of_column columns part.column) (value_at values part.column) (type_at_part columns values part.column there.0 fits))
    ∙ sym (ap part_width ty_is) ∙ sym w_is in
    let widths : at + (part_width (type_of_column columns part.column) + width_of_parts columns more) ≡ width_of_parts columns parts =
    ap (λ n. at + n) (sym (width_of_parts-cons columns part more there.0)) ∙ ap (λ ps. at + width_of_parts columns ps) (sym left) ∙ put.width in
    let same_width : part_width (type_of_column columns part.column) ≡ w = sym (ap part_width ty_is) ∙ sym w_is in
    let within : at ≤ length out = omega (arith, widths, room) in
    let long : length (take at out) ≡ at = omega (arith, length-take at out, within) in
    let new_now : new ≡ bytes ++ drop w (drop at out) =
    new_is ∙ ap (λ b. b ++ drop (part_width ty) (take (length out - at) (drop at out))) bytes_are
    ∙ ap (λ n. bytes ++ drop n (take (length out - at) (drop at out))) (sym w_is)
    ∙ ap (λ m. bytes ++ drop w m) (take_rest out at) in
    let after : put_mid at (length out - at) out new ≡ (take at out ++ bytes) ++ drop w (drop at out) =
    ap (λ m. take at out ++ (new ++ m)) (drop_all (length out - at) (drop at out) (omega (arith, length-drop at out)))
    ∙ ap (λ m. take at out ++ m) (append-nil new ∙ new_now)
    ∙ sym (append_assoc (take at out) bytes (drop w (drop at out))) in
    let front : length (take at out ++ bytes) ≡ at + w = omega (arith, length-append (take at out) bytes, long, width) in
    let taken : take (at + w) (put_mid at (length out - at) out new) ≡ take at out ++ bytes =
    ap (take (at + w)) after ∙ take_at (take at out ++ bytes) (drop w (drop at out)) (at + w) front in
    let dropped : drop (at + w) (put_mid at (length out - at) out new) ≡ drop w (drop at out) =
    ap (drop (at + w)) after ∙ drop_at (take at out ++ bytes) (drop w (drop at out)) (at + w) front in
    record {
      there = there.1;
      width = omega (arith, widths, same_width);
      bytes = ap (λ t. t ++ key_bytes columns more values) taken ∙ append_assoc (take at out) bytes (key_bytes columns more values)
          ∙ ap (λ ps. take at out ++ key_bytes columns ps values) (sym left) ∙ put.bytes;
      rest = dropped ∙ ap (drop w) put.rest ∙ drop-drop w at old;
    }

-- there is room for one part more
pub room_for_part : (columns : List ColumnDef) (parts items : List KeyPart) (values : List Value) (old out : List ℕ) (i at : ℕ) (d : KeyPart) (ty : ColType)
    → HasPut columns parts values old (drop i items) at out → i < length items
    → ty ≡ type_of_column columns (slice_index_or items i d).column → width_of_parts columns parts ≤ length out
    → part_width ty ≤ length (take (length out - at) (drop at out))
room_for_part columns parts items values old out i at d ty put lt ty_is room =
    let part = slice_index_or items i d in
    let more = drop (i + 1) items in
    let left : drop i items ≡ part ∷ more = rw (add-one i) (drop-cons items i d lt) in
    let there = first_there columns part more (subst (λ ps. IsTrue (are_there columns (places_of ps))) left put.there) in
    let widths : at + (part_width ty + width_of_parts columns more) ≡ width_of_parts columns parts =
    ap (λ t. at + (part_width t + width_of_parts columns more)) ty_is
    ∙ ap (λ n. at + n) (sym (width_of_parts-cons columns part more there.0)) ∙ ap (λ ps. at + width_of_parts columns ps) (sym left) ∙ put.width in
    let rest : length (take (length out - at) (drop at out)) ≡ length out - at = ap length (take_rest out at) ∙ length-drop at out in
    omega (arith, widths, room, rest)
