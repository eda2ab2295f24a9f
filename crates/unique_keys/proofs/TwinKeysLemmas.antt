-- Rows that fit have equal keys, as statements judge them, exactly where their keys in a record index are the same bytes.
use Rattle.std.proofs.Common.{◌≡◌, List, [], ◌∷◌, Bool, true, false, refl, sym, ◌∙◌}
use Rattle.std.specs.Prelude.{Contains, IsTrue, ◌||◌}
use Rattle.std.specs.List.{AllByRecursion}
use Rattle.std.proofs.lemmas.List.Elements.{All-contains, All-from_recursion}
use Rattle.mdc_values.specs.declared.value.Value.{Value}
use Rattle.mdc_ast.specs.declared.definition.ColumnDef.{ColumnDef}
use Rattle.mdc_ast.specs.declared.definition.KeyPart.{KeyPart}
use Rattle.mdc_ast.specs.Database.{fits_all}
use Rattle.key_codec.specs.Keys.{ArePartsOf, key_bytes}
use Rattle.key_codec.proofs.KeyLemmas.{key_bytes-same, same-key_bytes}
use Rattle.statement_meaning.specs.Keys.{are_twins, has_twin}
use Rattle.statement_meaning.proofs.KeysLemmas.{twins_if_same}
use Rattle.row_checks.proofs.UniqueLemmas.{same_if_twins}
use Rattle.unique_keys.proofs.MovedTwinsLemmas.{apart_from}

-- rows that have equal keys have the same bytes
pub same_bytes : (columns : List ColumnDef) (parts : List KeyPart) (a b : List Value) → IsTrue (fits_all columns a) → IsTrue (fits_all columns b)
    → are_twins parts a b ≡ true → key_bytes columns parts a ≡ key_bytes columns parts b
same_bytes columns parts a b fa fb twins = key_bytes-same columns parts a b (same_if_twins columns parts a b fa fb twins)

-- and the other way round
pub same_keys : (columns : List ColumnDef) (parts : List KeyPart) (a b : List Value) → ArePartsOf columns parts → IsTrue (fits_all columns a) → IsTrue (fits_all columns b)
    → key_bytes columns parts a ≡ key_bytes columns parts b → are_twins parts a b ≡ true
same_keys columns parts a b are fa fb same = twins_if_same parts a b ((same-key_bytes columns parts a b are fa fb).0 same)

-- a row of the same bytes is found
pub twin_of_bytes : (columns : List ColumnDef) (parts : List KeyPart) (rows : List (List Value)) (values row : List Value) → ArePartsOf columns parts → IsTrue (fits_all columns values)
    → AllByRecursion (λ other. IsTrue (fits_all columns other)) rows → Contains rows row → key_bytes columns parts row ≡ key_bytes columns parts values → has_twin parts rows values ≡ true
twin_of_bytes columns parts rows values row are fit fits there same = by_test (has_twin parts rows values) refl
  where
    fits_too : IsTrue (fits_all columns row)
    fits_too = All-contains (λ (other : List Value). IsTrue (fits_all columns other)) rows row (All-from_recursion (λ (other : List Value). IsTrue (fits_all columns other)) rows fits) there

    by_test : (b : Bool) → has_twin parts rows values ≡ b → b ≡ true
    by_test true is = refl
    by_test false is =
        let apart : are_twins parts values row ≡ false =
        All-contains (λ other. are_twins parts values other ≡ false) rows row (All-from_recursion (λ other. are_twins parts values other ≡ false) rows (apart_from parts values rows is)) there in
        let twins : are_twins parts values row ≡ true = same_keys columns parts values row are fit fits_too (sym same) in
        sym apart ∙ twins

-- where none has the same bytes, none is
pub no_twin_of_bytes : (columns : List ColumnDef) (parts : List KeyPart) (rows : List (List Value)) (values : List Value) → IsTrue (fits_all columns values)
    → AllByRecursion (λ other. IsTrue (fits_all columns other)) rows → AllByRecursion (λ row. key_bytes columns parts row ≡ key_bytes columns parts values → ⊥) rows → has_twin parts rows values ≡ false
no_twin_of_bytes columns parts [] values fit fits none = refl
no_twin_of_bytes columns parts (row ∷ rows) values fit fits none = by_test (are_twins parts values row) refl (no_twin_of_bytes columns parts rows values fit fits.1 none.1)
  where
    by_test : (b : Bool) → are_twins parts values row ≡ b → has_twin parts rows values ≡ false → (b || has_twin parts rows values) ≡ false
    by_test true is rest = absurd (none.0 (sym (same_bytes columns parts values row fit fits.0 is)))
    by_test false is rest = rest
