-- The key of a row in an index, and its entry.
use Rattle.std.proofs.Common.{◌≡◌, ℕ, suc, ◌+◌, ◌<◌, ◌≤◌, List, [], ◌∷◌, ◌++◌, length, refl, sym, ap, subst, ◌∙◌, arith, add-one, append-nil, append_assoc, drop, drop-cons, length-append}
use Rattle.std.specs.Prelude.{IsTrue, Some, nat_lt, slice_get, slice_index_or as get_or, unwrap_or}
use Rattle.std.proofs.lemmas.Bool.Decides.{nat_tests}
use Rattle.std.proofs.lemmas.List.{drop_all}
use Rattle.mdc_values.specs.declared.value.Value.{Value}
use Rattle.mdc_values.specs.declared.value.Value.TheVariants.{Null}
use Rattle.mdc_ast.specs.Database.{fits_all}
use Rattle.mdc_ast.specs.Definitions.{are_there, places_of}
use Rattle.mdc_ast.specs.Truth.{value_at}
use Rattle.mdc_ast.specs.declared.definition.ColumnDef.{ColumnDef}
use Rattle.mdc_ast.specs.declared.definition.KeyPart.{KeyPart}
use Rattle.mdc_ast.proofs.FitsLemmas.{length-fits_all}
use Rattle.key_codec.specs.Keys.{ArePartsOf, bytes_at_part, has_key, key_bytes, part_bytes, part_width, type_of_column, type_or_none, width_of_parts}
use Rattle.key_codec.proofs.KeyLemmas.{first_there, type_at_part, width_of_parts-cons}
use Rattle.key_codec.proofs.PartLemmas.{has_key-is_of_type, length-part_bytes}
use Rattle.table_trees.proofs.TableTreesLemmas.{narrow_enough}
use Rattle.record_index.specs.RecordIndexes.{HaveKeysIn}

-- ---- widths

pub length-row_key : (columns : List ColumnDef) (parts : List KeyPart) (values : List Value) → IsTrue (are_there columns (places_of parts)) → HaveKeysIn columns parts values → length (key_bytes columns parts values) ≡ width_of_parts columns parts
length-row_key columns [] values there keys = refl
length-row_key columns (part ∷ parts) values there keys =
    let split = first_there columns part parts there in
    omega (
      arith,
      length-append (bytes_at_part columns values part) (key_bytes columns parts values),
      length-part_bytes (type_of_column columns part.column) part.descending (value_at values part.column) keys.0.1,
      length-row_key columns parts values split.1 keys.1,
      width_of_parts-cons columns part parts split.0,
    )

pub row_key_short : (columns : List ColumnDef) (parts : List KeyPart) (values : List Value) → ArePartsOf columns parts → HaveKeysIn columns parts values → length (key_bytes columns parts values) ≤ 128
row_key_short columns parts values are keys = omega (arith, length-row_key columns parts values are.there keys, narrow_enough columns parts are)

-- a row that fits its columns has keys in them
pub keys_of_fitting : (columns : List ColumnDef) (parts : List KeyPart) (values : List Value) → IsTrue (are_there columns (places_of parts)) → IsTrue (fits_all columns values) → HaveKeysIn columns parts values
keys_of_fitting columns [] values there fitting = tt
keys_of_fitting columns (part ∷ parts) values there fitting =
    let split = first_there columns part parts there in
    let within : part.column < length columns = grind (arith, nat_tests, split.0) in (
      (omega (arith, within, length-fits_all columns values fitting), has_key-is_of_type (type_of_column columns part.column) (value_at values part.column) (type_at_part columns values part.column split.0 fitting)),
      keys_of_fitting columns parts values split.1 fitting,
    )

-- so has one with a key in each column
pub keys_of_each : (columns : List ColumnDef) (parts : List KeyPart) (values : List Value) → IsTrue (are_there columns (places_of parts))
    → ((place : ℕ) → place < length columns → (place < length values) × IsTrue (has_key (type_of_column columns place) (value_at values place))) → HaveKeysIn columns parts values
keys_of_each columns [] values there each = tt
keys_of_each columns (part ∷ parts) values there each =
    let split = first_there columns part parts there in
    let within : part.column < length columns = grind (arith, nat_tests, split.0) in
    (each part.column within, keys_of_each columns parts values split.1 each)

-- ---- a loop over the parts

-- the parts that are left, and what the key becomes with them
pub record IsKeyedTo (columns : List ColumnDef) (values : List Value) (whole : List ℕ) (parts : List KeyPart) (key : List ℕ) : Type 0 where
  pub there : IsTrue (are_there columns (places_of parts))
  pub keys : HaveKeysIn columns parts values
  pub bytes : key ++ key_bytes columns parts values ≡ whole

module _ (columns : List ColumnDef) (values : List Value) (whole : List ℕ) (items : List KeyPart) (i : ℕ) (key : List ℕ) (d part : KeyPart) (is : IsKeyedTo columns values whole (drop i items) key) (within : i < length items) (at : part ≡ get_or items i d) where
  left : drop i items ≡ part ∷ drop (i + 1) items
  left = rw (add-one i) (drop-cons items i d within ∙ ap (λ p. p ∷ drop (suc i) items) (sym at))

  there_here : IsTrue (nat_lt part.column (length columns)) × IsTrue (are_there columns (places_of (drop (i + 1) items)))
  there_here = first_there columns part (drop (i + 1) items) (subst (λ ps. IsTrue (are_there columns (places_of ps))) left is.there)

  keys_here : HaveKeysIn columns (part ∷ drop (i + 1) items) values
  keys_here = subst (λ ps. HaveKeysIn columns ps values) left is.keys

  pub column_within : part.column < length columns
  column_within = grind (arith, nat_tests, there_here.0)

  pub value_within : part.column < length values
  value_within = keys_here.0.0

  module _ (column : ColumnDef) (value : Value) (found : slice_get columns part.column ≡ Some column) (there : slice_get values part.column ≡ Some value) where
    is_value : value_at values part.column ≡ value
    is_value = ap (λ o. unwrap_or o Null) there

    pub value_fits : IsTrue (has_key column.ty value)
    value_fits = subst (λ v. IsTrue (has_key column.ty v)) is_value (subst (λ ty. IsTrue (has_key ty (value_at values part.column))) (ap type_or_none found) keys_here.0.1)

    pub keyed_next : (key_now : List ℕ) → key_now ≡ key ++ part_bytes column.ty part.descending value → IsKeyedTo columns values whole (drop (i + 1) items) key_now
    keyed_next key_now now = record {
      there = there_here.1;
      keys = keys_here.1;
      bytes =
          let rest = key_bytes columns (drop (i + 1) items) values in
          let bytes = bytes_at_part columns values part in
          let bytes_are : part_bytes column.ty part.descending value ≡ bytes =
          ap (λ ty. part_bytes ty part.descending value) (sym (ap type_or_none found)) ∙ ap (part_bytes (type_of_column columns part.column) part.descending) (sym is_value) in
          let step : key_bytes columns (drop i items) values ≡ bytes ++ rest = ap (λ ps. key_bytes columns ps values) left in
          ap (λ k. k ++ rest) (now ∙ ap (λ b. key ++ b) bytes_are) ∙ (append_assoc key bytes rest ∙ (ap (λ b. key ++ b) (sym step) ∙ is.bytes));
    }

    -- it ends within the whole key
    pub part_within : length key + part_width column.ty ≤ length whole
    part_within =
        let bytes = part_bytes column.ty part.descending value in
        let next = keyed_next (key ++ bytes) refl in
        omega (arith, length-append key bytes, length-append (key ++ bytes) (key_bytes columns (drop (i + 1) items) values), ap length next.bytes, length-part_bytes column.ty part.descending value value_fits)

-- with no part left the key is whole
pub key_whole : (columns : List ColumnDef) (values : List Value) (whole : List ℕ) (items : List KeyPart) (i : ℕ) (key : List ℕ) → IsKeyedTo columns values whole (drop i items) key → length items ≤ i → key ≡ whole
key_whole columns values whole items i key is past = sym (append-nil key) ∙ ap (λ parts. key ++ key_bytes columns parts values) (sym (drop_all i items past)) ∙ is.bytes
