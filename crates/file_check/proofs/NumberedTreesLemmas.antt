-- The trees of a table by their numbers.
use Rattle.std.proofs.Common.{◌≡◌, ◌+◌, ℕ, zero, suc, List, [], ◌∷◌, ◌++◌, length, min, ap, arith, ◌∙◌, subst, length-append}
use Rattle.std.specs.Prelude.{Some, slice_get}
use Rattle.std.specs.List.{AllByRecursion, zip}
use Rattle.std.proofs.lemmas.List.{length-map}
use Rattle.std.proofs.lemmas.Option.{same_Some}
use Rattle.std.proofs.lemmas.Slice.Zip.{length-zip}
use Rattle.mdc_ast.specs.declared.definition.ColumnDef.{ColumnDef}
use Rattle.mdc_ast.specs.declared.definition.IndexDef.{IndexDef}
use Rattle.mdc_ast.specs.declared.definition.TableDef.{TableDef}
use Rattle.key_codec.specs.Keys.{ArePartsOf}
use Rattle.table_trees.specs.TableTrees.{AreIndexParts, TreePlace, block_index_places, dimension_place, dimension_places, map_place, record_place, record_places, tree_places}

get_front : {X : Type 0} (xs ys : List X) (i : ℕ) (x : X) → slice_get xs i ≡ Some x → slice_get (xs ++ ys) i ≡ Some x
get_front [] ys i x e = absurd (cc)
get_front (y ∷ xs) ys zero x e = e
get_front (y ∷ xs) ys (suc i) x e = get_front xs ys i x e

get_back : {X : Type 0} (xs ys : List X) (i j : ℕ) (x : X) → i ≡ length xs + j → slice_get ys j ≡ Some x → slice_get (xs ++ ys) i ≡ Some x
get_back [] ys i j x is e = let same : i ≡ j = omega arith in ap (slice_get ys) same ∙ e
get_back (y ∷ xs) ys zero j x is e = absurd (omega arith)
get_back (y ∷ xs) ys (suc i) j x is e = get_back xs ys i j x (omega arith) e

pub dimension_places-count : (def : TableDef) → length def.roots.dims ≡ length def.dims → length (dimension_places def) ≡ length def.dims
dimension_places-count def one_each =
    let pairs : length (zip def.dims def.roots.dims) ≡ length def.dims = length-zip def.dims def.roots.dims ∙ ap (min (length def.dims)) one_each ∙ omega arith in
    length-map (zip def.dims def.roots.dims) (λ pair. dimension_place def pair.0 pair.1) ∙ pairs

pub tree_places-count : (def : TableDef) → length def.roots.dims ≡ length def.dims → length (tree_places def) ≡ 2 + length def.dims + length def.indexes
tree_places-count def one_each =
    omega (arith, dimension_places-count def one_each, length-append (dimension_places def) (record_places def), length-map def.indexes (record_place def))

pub block_index-at : (def : TableDef) (i j : ℕ) (place : TreePlace) → i ≡ suc j → slice_get (block_index_places def) j ≡ Some place → slice_get (tree_places def) i ≡ Some place
block_index-at def i j place is at = ap (slice_get (tree_places def)) is ∙ get_front (block_index_places def) (record_places def) j place at

pub record_index-at : (def : TableDef) (i j : ℕ) (place : TreePlace) → length def.roots.dims ≡ length def.dims → i ≡ 2 + length def.dims + j → slice_get (record_places def) j ≡ Some place
    → slice_get (tree_places def) i ≡ Some place
record_index-at def i j place one_each is at =
    get_back (map_place def ∷ block_index_places def) (record_places def) i j place (omega (arith, is, dimension_places-count def one_each)) at

pub index-parts : (columns : List ColumnDef) (indexes : List IndexDef) (j : ℕ) (which : IndexDef) → AllByRecursion (λ index. AreIndexParts columns index.parts) indexes → slice_get indexes j ≡ Some which
    → ArePartsOf columns which.parts
index-parts columns [] j which all e = absurd (cc)
index-parts columns (index ∷ indexes) zero which all e = subst (λ (i : IndexDef). ArePartsOf columns i.parts) (same_Some index which e) all.0.key
index-parts columns (index ∷ indexes) (suc j) which all e = index-parts columns indexes j which all.1 e
