-- The numbers and the keys of rows, one row or one part more.
use Rattle.std.proofs.Common.{◌≡◌, ◌<◌, ◌+◌, ◌∙◌, ℕ, List, [], ◌∷◌, ◌++◌, add-one, append_assoc, length, take, drop, drop-cons, get_or, ap, sym, subst}
use Rattle.std.specs.Prelude.{map, IsTrue, Some, slice_get, slice_index_or, unwrap_or}
use Rattle.std.proofs.lemmas.List.{append-nil, map-append, take_more}
use Rattle.mdc_values.specs.declared.value.ColType.{ColType}
use Rattle.mdc_values.specs.declared.value.Value.{Value}
use Rattle.mdc_values.specs.declared.value.Value.TheVariants.{Null}
use Rattle.mdc_ast.specs.declared.definition.ColumnDef.{ColumnDef}
use Rattle.mdc_ast.specs.declared.definition.KeyPart.{KeyPart}
use Rattle.mdc_ast.specs.declared.row.Row.{Row}
use Rattle.mdc_ast.specs.Truth.{value_at}
use Rattle.key_codec.specs.Keys.{has_key, key_bytes, part_bytes, type_of_column, type_or_none}
use Rattle.block_rows.specs.HeldRows.{HasReadValues}
use Rattle.mdc_sound.specs.TableRows.{PlacedRow}
use Rattle.file_check.specs.KeysJudged.{AreKeysOf, AreNumbersOf}

-- ---- the parts of a key

-- What was written of a key, before the parts that are left: with them it is whole.
pub record IsKeySoFar (columns : List ColumnDef) (parts : List KeyPart) (values : List Value) (left : List KeyPart) (out : List ℕ) : Type 0 where
  pub bytes : out ++ key_bytes columns left values ≡ key_bytes columns parts values

pub no_part_yet : (columns : List ColumnDef) (parts items : List KeyPart) (values : List Value) (out : List ℕ) → items ≡ parts → out ≡ [] → IsKeySoFar columns parts values items out
no_part_yet columns parts items values out is none = record {
  bytes = ap (λ o. o ++ key_bytes columns items values) none ∙ ap (λ ps. key_bytes columns ps values) is;
}

pub part_more : (columns : List ColumnDef) (parts items : List KeyPart) (values : List Value) (out new : List ℕ) (i : ℕ) (d : KeyPart) (ty : ColType) (value : Value)
    → IsKeySoFar columns parts values (drop i items) out → i < length items
    → ty ≡ type_of_column columns (slice_index_or items i d).column → slice_get values (slice_index_or items i d).column ≡ Some value
    → new ≡ out ++ part_bytes ty (slice_index_or items i d).descending value → IsKeySoFar columns parts values (drop (i + 1) items) new
part_more columns parts items values out new i d ty value so low ty_is value_is new_is =
    let part = slice_index_or items i d in
    let more = drop (i + 1) items in
    let left : drop i items ≡ part ∷ more = rw (add-one i) (drop-cons items i d low) in
    let v_is : value_at values part.column ≡ value = ap (λ o. unwrap_or o Null) value_is in
    let bytes_are : part_bytes ty part.descending value ≡ part_bytes (type_of_column columns part.column) part.descending (value_at values part.column) =
    ap (λ t. part_bytes t part.descending value) ty_is ∙ ap (λ v. part_bytes (type_of_column columns part.column) part.descending v) (sym v_is) in
    let key_left : key_bytes columns (drop i items) values ≡ part_bytes ty part.descending value ++ key_bytes columns more values =
    ap (λ ps. key_bytes columns ps values) left ∙ ap (λ b. b ++ key_bytes columns more values) (sym bytes_are) in
    record {
      bytes = ap (λ o. o ++ key_bytes columns more values) new_is ∙ (append_assoc out (part_bytes ty part.descending value) (key_bytes columns more values)
          ∙ (ap (λ b. out ++ b) (sym key_left) ∙ so.bytes));
    }

pub whole_key : (columns : List ColumnDef) (parts : List KeyPart) (values : List Value) (left : List KeyPart) (out : List ℕ) → IsKeySoFar columns parts values left out → left ≡ [] → out ≡ key_bytes columns parts values
whole_key columns parts values left out so none =
    sym (append-nil out) ∙ (ap (λ ps. out ++ key_bytes columns ps values) (sym none) ∙ so.bytes)

-- ---- rows

module _ {H : Type 0} (placed : H → PlacedRow) where
  one_more : (rows : List H) (i : ℕ) (d : H) (done : List PlacedRow) → i < length rows → done ++ map placed (take (i + 1) rows) ≡ (done ++ map placed (take i rows)) ++ placed (get_or rows i d) ∷ []
  one_more rows i d done low =
      ap (λ hs. done ++ map placed hs) (take_more rows i d low) ∙ (ap (λ ps. done ++ ps) (map-append placed (take i rows) (get_or rows i d ∷ []))
      ∙ sym (append_assoc done (map placed (take i rows)) (placed (get_or rows i d) ∷ [])))

  pub number_more : (rows : List H) (i : ℕ) (d : H) (done : List PlacedRow) (now new : List ℕ) → i < length rows → AreNumbersOf now (done ++ map placed (take i rows))
      → new ≡ now ++ (placed (get_or rows i d)).row.number ∷ [] → AreNumbersOf new (done ++ map placed (take (i + 1) rows))
  number_more rows i d done now new low so pushed =
      pushed ∙ (ap (λ ns. ns ++ (placed (get_or rows i d)).row.number ∷ []) so
      ∙ (sym (map-append (λ p. p.row.number) (done ++ map placed (take i rows)) (placed (get_or rows i d) ∷ [])) ∙ ap (map (λ p. p.row.number)) (sym (one_more rows i d done low))))

  pub key_more : (columns : List ColumnDef) (parts : List KeyPart) (rows : List H) (i : ℕ) (d : H) (done : List PlacedRow) (now new : List (List ℕ)) → i < length rows
      → AreKeysOf columns parts now (done ++ map placed (take i rows)) → new ≡ now ++ key_bytes columns parts (placed (get_or rows i d)).row.values ∷ []
      → AreKeysOf columns parts new (done ++ map placed (take (i + 1) rows))
  key_more columns parts rows i d done now new low so pushed =
      pushed ∙ (ap (λ ks. ks ++ key_bytes columns parts (placed (get_or rows i d)).row.values ∷ []) so
      ∙ (sym (map-append (λ p. key_bytes columns parts p.row.values) (done ++ map placed (take i rows)) (placed (get_or rows i d) ∷ [])) ∙ ap (map (λ p. key_bytes columns parts p.row.values)) (sym (one_more rows i d done low))))

-- ---- values

-- a value that was read has a key in its column
pub has_key_at_part : (columns : List ColumnDef) (row : Row) (place : ℕ) (column : ColumnDef) (value : Value) → HasReadValues columns row → place < length columns
    → slice_get columns place ≡ Some column → slice_get row.values place ≡ Some value → IsTrue (has_key column.ty value)
has_key_at_part columns row place column value keyed low column_is value_is =
    let ty_is : type_of_column columns place ≡ column.ty = ap type_or_none column_is in
    let v_is : value_at row.values place ≡ value = ap (λ o. unwrap_or o Null) value_is in
    subst (λ v. IsTrue (has_key column.ty v)) v_is (subst (λ ty. IsTrue (has_key ty (value_at row.values place))) ty_is (keyed.each place low).1)
