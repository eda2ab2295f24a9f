-- Rows that have a key in each record index, and an index that is there.
use Rattle.std.proofs.Common.{◌≡◌, ◌<◌, ℕ, zero, suc, List, [], ◌∷◌, length, refl, arith, sym, subst}
use Rattle.std.specs.Prelude.{IsTrue, Some, slice_get}
use Rattle.std.specs.List.{AllByRecursion}
use Rattle.std.proofs.lemmas.Option.{same_Some}
use Rattle.mdc_values.specs.declared.value.Value.{Value}
use Rattle.mdc_ast.specs.FittingRows.{RowFits}
use Rattle.mdc_ast.specs.TableLimits.{IsGoodIndex, IsTableDef}
use Rattle.mdc_ast.specs.Truth.{value_at}
use Rattle.mdc_ast.specs.declared.definition.IndexDef.{IndexDef}
use Rattle.mdc_ast.specs.declared.definition.TableDef.{TableDef}
use Rattle.mdc_ast.specs.declared.row.Row.{Row}
use Rattle.key_codec.specs.Keys.{has_key, type_of_column}
use Rattle.record_index.specs.RecordIndexes.{HaveKeysIn, parts_of_record_index}
use Rattle.record_index.proofs.IndexesLemmas.{parts_are}
use Rattle.record_index.proofs.KeysLemmas.{keys_of_each, keys_of_fitting}
use Rattle.row_entries.specs.ChosenIndexes.{HasRecordKeys}

-- ---- the keys of a row

-- a row that fits has them
pub keys_of_fitting_row : (def : TableDef) (row : Row) → IsTableDef def.number def → RowFits def row → HasRecordKeys def row.values
keys_of_fitting_row def row is fits = go def.indexes is.indexes.good
  where
    go : (indexes : List IndexDef) → AllByRecursion (IsGoodIndex def.columns) indexes → AllByRecursion (λ which. HaveKeysIn def.columns which.parts row.values) indexes
    go [] good = tt
    go (which ∷ indexes) good = (keys_of_fitting def.columns which.parts row.values good.0.there fits.values, go indexes good.1)

-- and so has one that was read
pub keys_of_read_row : (def : TableDef) (row : Row) → IsTableDef def.number def
    → ((place : ℕ) → place < length def.columns → (place < length row.values) × IsTrue (has_key (type_of_column def.columns place) (value_at row.values place))) → HasRecordKeys def row.values
keys_of_read_row def row is each = go def.indexes is.indexes.good
  where
    go : (indexes : List IndexDef) → AllByRecursion (IsGoodIndex def.columns) indexes → AllByRecursion (λ which. HaveKeysIn def.columns which.parts row.values) indexes
    go [] good = tt
    go (which ∷ indexes) good = (keys_of_each def.columns which.parts row.values good.0.there each, go indexes good.1)

-- ---- one index

-- which one it is
pub there_at : (indexes : List IndexDef) (n : ℕ) → n < length indexes → (which : IndexDef) × (slice_get indexes n ≡ Some which)
there_at [] n low = absurd (omega (arith, low))
there_at (which ∷ indexes) zero low = (which, refl)
there_at (which ∷ indexes) (suc n) low = there_at indexes n (omega (arith, low))

-- the key of a row in it
pub keys_at : (def : TableDef) (values : List Value) (n : ℕ) → HasRecordKeys def values → n < length def.indexes → HaveKeysIn def.columns (parts_of_record_index def n) values
keys_at def values n keys low =
    let here = there_at def.indexes n low in
    subst (λ parts. HaveKeysIn def.columns parts values) (sym (parts_are def n n here.0 refl here.1)) (go def.indexes n keys here.0 here.1)
  where
    go : (indexes : List IndexDef) (i : ℕ) → AllByRecursion (λ which. HaveKeysIn def.columns which.parts values) indexes → (which : IndexDef) → slice_get indexes i ≡ Some which → HaveKeysIn def.columns which.parts values
    go [] i keys which is = absurd cc
    go (x ∷ indexes) zero keys which is = subst (λ w. HaveKeysIn def.columns w.parts values) (same_Some x which is) keys.0
    go (x ∷ indexes) (suc i) keys which is = go indexes i keys.1 which is
