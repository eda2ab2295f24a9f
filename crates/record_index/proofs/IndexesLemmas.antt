-- A record index by its number: its parts, its place and its width.
use Rattle.std.proofs.Common.{◌≡◌, ◌<◌, ◌+◌, ℕ, zero, suc, List, [], ◌∷◌, length, refl, ap, arith, sym, subst}
use Rattle.std.specs.Prelude.{Some, map, slice_get, slice_index_or}
use Rattle.std.specs.List.{AllByRecursion}
use Rattle.std.proofs.lemmas.Option.{same_Some}
use Rattle.mdc_values.specs.declared.rid.Rid.{Rid}
use Rattle.mdc_values.specs.declared.value.Value.{Value}
use Rattle.mdc_ast.specs.TableLimits.{IsGoodIndex, IsTableDef}
use Rattle.mdc_ast.specs.declared.definition.IndexDef.{IndexDef}
use Rattle.mdc_ast.specs.declared.definition.TableDef.{TableDef}
use Rattle.key_codec.specs.Keys.{ArePartsOf, width_of_parts}
use Rattle.table_trees.specs.TableTrees.{AreIndexParts, TreePlace, record_entry, record_place, record_places}
use Rattle.block_index.proofs.SpansLemmas.{nth_is}
use Rattle.record_index.specs.RecordIndexes.{HasRecordIndexes, entry_in_record_index, parts_of_record_index, place_of_record_index}

-- the index that stands at a number has these parts
pub parts_are : (def : TableDef) (index n : ℕ) (which : IndexDef) → n ≡ index → slice_get def.indexes n ≡ Some which → parts_of_record_index def index ≡ which.parts
parts_are def index n which same is = subst (λ i. parts_of_record_index def i ≡ which.parts) same (go def.indexes n is)
  where
    go : (indexes : List IndexDef) (i : ℕ) → slice_get indexes i ≡ Some which → slice_index_or (map (λ which. which.parts) indexes) i [] ≡ which.parts
    go [] i e = absurd cc
    go (x ∷ xs) zero e = ap (λ w. w.parts) (same_Some x which e)
    go (x ∷ xs) (suc i) e = go xs i e

-- and it is there
pub place_are : (def : TableDef) (index n : ℕ) (place : TreePlace) → n ≡ index → slice_get (record_places def) n ≡ Some place → place ≡ place_of_record_index def index
place_are def index n place same is = subst (λ i. place ≡ place_of_record_index def i) same (sym (nth_is (record_places def) n place (record { root = 0; width = 0 }) is))

-- its parts may be those of an index
pub index_parts : (def : TableDef) (n : ℕ) (which : IndexDef) → HasRecordIndexes def → slice_get def.indexes n ≡ Some which → AreIndexParts def.columns which.parts
index_parts def n which has is = go def.indexes n has is
  where
    go : (indexes : List IndexDef) (i : ℕ) → AllByRecursion (λ which. AreIndexParts def.columns which.parts) indexes → slice_get indexes i ≡ Some which → AreIndexParts def.columns which.parts
    go [] i all e = absurd cc
    go (x ∷ xs) zero all e = subst (λ w. AreIndexParts def.columns w.parts) (same_Some x which e) all.0
    go (x ∷ xs) (suc i) all e = go xs i all.1 e

pub key_parts : (def : TableDef) (n : ℕ) → HasRecordIndexes def → (which : IndexDef) → slice_get def.indexes n ≡ Some which → ArePartsOf def.columns which.parts
key_parts def n has which is = (index_parts def n which has is).key

-- its entries have six bytes behind the key
pub width_is : (def : TableDef) (index : ℕ) (place : TreePlace) → index < length def.indexes → place ≡ place_of_record_index def index → place.width ≡ width_of_parts def.columns (parts_of_record_index def index) + 6
width_is def index place there is = subst (λ p. p.width ≡ width_of_parts def.columns (parts_of_record_index def index) + 6) (sym is) (go def.indexes index there)
  where
    none : TreePlace
    none = record { root = 0; width = 0 }

    go : (indexes : List IndexDef) (i : ℕ) → i < length indexes
        → (slice_index_or (map (record_place def) indexes) i none).width ≡ width_of_parts def.columns (slice_index_or (map (λ which. which.parts) indexes) i []) + 6
    go [] i l = absurd (omega (arith, l))
    go (x ∷ xs) zero l = refl
    go (x ∷ xs) (suc i) l = go xs i (omega (arith, l))

-- a definition that statements can make may have its record indexes
pub has_indexes : (t : ℕ) (def : TableDef) → IsTableDef t def → HasRecordIndexes def
has_indexes t def is = go def.indexes is.indexes.good
  where
    go : (indexes : List IndexDef) → AllByRecursion (IsGoodIndex def.columns) indexes → AllByRecursion (λ which. AreIndexParts def.columns which.parts) indexes
    go [] good = tt
    go (x ∷ xs) good = let one = good.0 in (record { some = omega (arith, one.some_parts); key = record { there = one.there; short = one.short } }, go xs good.1)

-- the tree of an index and the entry of a row in it, in words of the index itself
pub place_of_which : (def : TableDef) (i : ℕ) (which : IndexDef) → slice_get def.indexes i ≡ Some which → place_of_record_index def i ≡ record_place def which
place_of_which def i which is = go def.indexes i is
  where
    go : (indexes : List IndexDef) (i : ℕ) → slice_get indexes i ≡ Some which → slice_index_or (map (record_place def) indexes) i (record { root = 0; width = 0 }) ≡ record_place def which
    go [] i e = absurd cc
    go (x ∷ xs) zero e = ap (record_place def) (same_Some x which e)
    go (x ∷ xs) (suc i) e = go xs i e

pub entry_of_which : (def : TableDef) (i : ℕ) (which : IndexDef) (values : List Value) (rid : Rid) → slice_get def.indexes i ≡ Some which → entry_in_record_index def i values rid ≡ record_entry def.columns which.parts values rid
entry_of_which def i which values rid is = ap (λ parts. record_entry def.columns parts values rid) (parts_are def i i which refl is)

-- the parts of an index that is there may be those of one
pub parts_there : (def : TableDef) (i : ℕ) → HasRecordIndexes def → i < length def.indexes → AreIndexParts def.columns (parts_of_record_index def i)
parts_there def i has there = go def.indexes i has there
  where
    go : (indexes : List IndexDef) (i : ℕ) → AllByRecursion (λ which. AreIndexParts def.columns which.parts) indexes → i < length indexes → AreIndexParts def.columns (slice_index_or (map (λ which. which.parts) indexes) i [])
    go [] i all l = absurd (omega (arith, l))
    go (x ∷ xs) zero all l = all.0
    go (x ∷ xs) (suc i) all l = go xs i all.1 (omega (arith, l))
