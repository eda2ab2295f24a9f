-- The indexes of a table, place by place.
use Rattle.std.proofs.Common.{◌≡◌, ◌+◌, ◌-◌, ℕ, zero, suc, List, [], ◌∷◌, refl, sym, ap, subst, ◌∙◌, arith, length}
use Rattle.std.specs.Prelude.{Some, map, slice_get, zip}
use Rattle.std.specs.List.{AllByRecursion}
use Rattle.std.proofs.lemmas.List.{length-map}
use Rattle.std.proofs.lemmas.Option.{same_Some}
use Rattle.mdc_ast.specs.declared.definition.KeyPart.{KeyPart}
use Rattle.mdc_ast.specs.declared.definition.TableDef.{TableDef}
use Rattle.key_codec.specs.Keys.{ArePartsOf, width_of_parts}
use Rattle.mdc_ast.specs.TableLimits.{IsTableDef}
use Rattle.table_trees.specs.TableTrees.{AreIndexParts, TreePlace, block_index_places, cell_parts, composite_place, dimension_place, rising_parts}
use Rattle.mdc_sound.proofs.DefinitionTreesLemmas.{has_block_indexes}
use Rattle.file_check.specs.declared.table_index.IndexKind.TheVariants.{Blocks}
use Rattle.file_check.specs.TableIndexes.{PlacedIndex, index_of_dimension, indexes_of_kind}

length-zip : {X Y : Type 0} (xs : List X) (ys : List Y) → length ys ≡ length xs → length (zip xs ys) ≡ length xs
length-zip [] ys same = refl
length-zip (x ∷ xs) [] same = absurd (omega (arith, same))
length-zip (x ∷ xs) (y ∷ ys) same = ap suc (length-zip xs ys (omega (arith, same)))

-- how many block indexes there are
pub count_of_blocks : (def : TableDef) → IsTableDef def.number def → 1 + length def.dims ≡ length (indexes_of_kind Blocks def)
count_of_blocks def limits = omega (arith, length-map (zip def.dims def.roots.dims) (index_of_dimension def), length-zip def.dims def.roots.dims limits.roots.one_each)

-- ---- the block index in a place

-- the composite index
pub composite_at : (def : TableDef) (place : ℕ) (tree : TreePlace) (parts : List KeyPart) → place ≡ 0 → parts ≡ cell_parts def → slice_get (block_index_places def) place ≡ Some tree
    → slice_get (indexes_of_kind Blocks def) place ≡ Some (record { place = tree; parts = parts })
composite_at def zero tree parts first parts_are at =
    ap (λ t. Some (record { place = t; parts = cell_parts def })) (same_Some (composite_place def) tree at) ∙ ap (λ ps. Some (record { place = tree; parts = ps })) (sym parts_are)
composite_at def (suc i) tree parts first parts_are at = absurd (omega (arith, first))

dimension_in : (def : TableDef) (dims : List (List ℕ)) (roots : List ℕ) (i : ℕ) (dim : List ℕ) (tree : TreePlace) → slice_get dims i ≡ Some dim
    → slice_get (map (λ pair. dimension_place def pair.0 pair.1) (zip dims roots)) i ≡ Some tree
    → slice_get (map (index_of_dimension def) (zip dims roots)) i ≡ Some (record { place = tree; parts = rising_parts dim })
dimension_in def [] roots i dim tree e f = absurd cc
dimension_in def (d ∷ dims) [] i dim tree e f = absurd cc
dimension_in def (d ∷ dims) (r ∷ roots) zero dim tree e f =
    ap (λ t. Some (record { place = t; parts = rising_parts d })) (same_Some (dimension_place def d r) tree f) ∙ ap (λ x. Some (record { place = tree; parts = rising_parts x })) (same_Some d dim e)
dimension_in def (d ∷ dims) (r ∷ roots) (suc i) dim tree e f = dimension_in def dims roots i dim tree e f

-- that of a dimension
pub dimension_at : (def : TableDef) (place : ℕ) (tree : TreePlace) (parts : List KeyPart) (dim : List ℕ) → (place ≡ 0 → ⊥) → slice_get def.dims (place - 1) ≡ Some dim → parts ≡ rising_parts dim
    → slice_get (block_index_places def) place ≡ Some tree → slice_get (indexes_of_kind Blocks def) place ≡ Some (record { place = tree; parts = parts })
dimension_at def zero tree parts dim later dim_is parts_are at = absurd (later refl)
dimension_at def (suc i) tree parts dim later dim_is parts_are at =
    let back : suc i - 1 ≡ i = omega arith in
    dimension_in def def.dims def.roots.dims i dim tree (subst (λ k. slice_get def.dims k ≡ Some dim) back dim_is) at
    ∙ ap (λ ps. Some (record { place = tree; parts = ps })) (sym parts_are)

-- its keys are of columns that are there, and its entries have a block behind them
pub record FitsBlocks (def : TableDef) (index : PlacedIndex) : Type 0 where
  pub parts : ArePartsOf def.columns index.parts
  pub width : index.place.width ≡ width_of_parts def.columns index.parts + 4

fits_in : (def : TableDef) (dims : List (List ℕ)) (roots : List ℕ) (i : ℕ) (index : PlacedIndex) → AllByRecursion (λ dim. AreIndexParts def.columns (rising_parts dim)) dims
    → slice_get (map (index_of_dimension def) (zip dims roots)) i ≡ Some index → FitsBlocks def index
fits_in def [] roots i index good e = absurd cc
fits_in def (d ∷ dims) [] i index good e = absurd cc
fits_in def (d ∷ dims) (r ∷ roots) zero index good e = subst (FitsBlocks def) (same_Some (index_of_dimension def (d, r)) index e) (record { parts = good.0.key; width = refl })
fits_in def (d ∷ dims) (r ∷ roots) (suc i) index good e = fits_in def dims roots i index good.1 e

pub block_index_fits : (def : TableDef) (place : ℕ) (index : PlacedIndex) → IsTableDef def.number def → slice_get (indexes_of_kind Blocks def) place ≡ Some index → FitsBlocks def index
block_index_fits def zero index limits e =
    subst (FitsBlocks def) (same_Some (record { place = composite_place def; parts = cell_parts def }) index e) (record { parts = (has_block_indexes def.number def limits).composite.key; width = refl })
block_index_fits def (suc i) index limits e = fits_in def def.dims def.roots.dims i index (has_block_indexes def.number def limits).dimensions e
