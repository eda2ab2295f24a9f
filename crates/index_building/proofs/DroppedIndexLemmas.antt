-- A record index less: the pages of its tree are given back beside all else, and the table page without it closes the database.
use Rattle.std.proofs.Common.{◌≡◌, ◌≢◌, ◌<◌, ◌+◌, ◌∙◌, ℕ, List, ◌∷◌, ◌++◌, Option, Some, length, map, set, refl, ap, arith, sym, subst}
use Rattle.std.specs.Prelude.{AllPairs, remove, slice_get}
use Rattle.std.proofs.lemmas.List.{length-append}
use Rattle.std.proofs.lemmas.List.Edits.{length-remove, remove-append_left}
use Rattle.std.proofs.lemmas.List.Quantifiers.{all_pairs_remove}
use Rattle.mdc_ast.specs.declared.definition.IndexDef.{IndexDef}
use Rattle.mdc_ast.specs.declared.definition.TableDef.{TableDef}
use Rattle.mdc_ast.specs.TableLimits.{IsGoodIndex, IsTableDef}
use Rattle.mdc_ast.specs.Definitions.{AllNamesDiffer, without_index}
use Rattle.table_trees.specs.TableTrees.{composite_place, dimension_places, map_place, record_place, record_places, tree_places}
use Rattle.mdc_sound.specs.SpaceRules.{tables_there}
use Rattle.mdc_sound.specs.TableViews.{TableView, trees_of_table}
use Rattle.index_building.specs.IndexViews.{view_without_index}
use Rattle.index_building.proofs.AroundIndexLemmas.{cut_at_table, indexes_cut, indexes_of}
use Rattle.index_building.proofs.OtherIndexesLemmas.{limits_other}
use Rattle.index_building.proofs.RemovedLemmas.{differ-remove, each-remove, map-remove, remove-behind}

-- ---- the definition

-- it is within the limits
pub limits_without : (t : ℕ) (def : TableDef) (place : ℕ) → place < length def.indexes → IsTableDef t def → IsTableDef t (without_index def place)
limits_without t def place there is = limits_other t def (remove def.indexes place) (record {
  few = omega (arith, is.indexes.few, length-remove def.indexes place there);
  good = each-remove (IsGoodIndex def.columns) def.indexes place is.indexes.good;
  differ = subst AllNamesDiffer (sym (map-remove (λ (index : IndexDef). index.name) def.indexes place)) (differ-remove (map (λ (index : IndexDef). index.name) def.indexes) place is.indexes.differ);
}) is

-- its trees are all others
pub places_without : (def : TableDef) (place n : ℕ) → n ≡ 2 + (length (dimension_places def) + place) → tree_places (without_index def place) ≡ remove (tree_places def) n
places_without def place n is =
    ap (λ records. map_place def ∷ composite_place def ∷ dimension_places def ++ records) (map-remove (record_place def) def.indexes place)
    ∙ sym (remove-behind (map_place def ∷ composite_place def ∷ dimension_places def) (record_places def) n place (omega (arith, is)))

pub trees_without : (table : TableView) (place n : ℕ) → n ≡ 2 + (length table.dims + place) → trees_of_table (view_without_index table place) ≡ remove (trees_of_table table) n
trees_without table place n is = sym (remove-behind (table.map ∷ table.composite ∷ table.dims) table.indexes n place (omega (arith, is)))

-- ---- names

-- the names of all record indexes differ still
pub indexes_differ_without : (places : List (Option TableView)) (t place : ℕ) (table : TableView) → slice_get places t ≡ Some (Some table) → place < length table.def.indexes
    → AllPairs (λ (a b : IndexDef). a.name ≢ b.name) (indexes_of (tables_there places)) → AllPairs (λ (a b : IndexDef). a.name ≢ b.name) (indexes_of (tables_there (set places t (Some (view_without_index table place)))))
indexes_differ_without places t place table at there all =
    let c = cut_at_table places t table at in
    let less = view_without_index table place in
    let own = table.def.indexes in
    let whole : indexes_of (tables_there places) ≡ indexes_of c.front ++ (own ++ indexes_of c.back) = ap indexes_of c.are ∙ indexes_cut c.front c.back table in
    let n = length (indexes_of c.front) + place in
    let left : indexes_of (tables_there (set places t (Some less))) ≡ remove (indexes_of c.front ++ (own ++ indexes_of c.back)) n =
    ap indexes_of (c.now less) ∙ (indexes_cut c.front c.back less
    ∙ (ap (λ more. indexes_of c.front ++ more) (sym (remove-append_left own (indexes_of c.back) place there))
    ∙ sym (remove-behind (indexes_of c.front) (own ++ indexes_of c.back) n place refl))) in
    subst (AllPairs (λ (a b : IndexDef). a.name ≢ b.name)) (sym left)
    (all_pairs_remove (λ (a b : IndexDef). a.name ≢ b.name) (indexes_of c.front ++ (own ++ indexes_of c.back)) n
    (omega (arith, there, length-append (indexes_of c.front) (own ++ indexes_of c.back), length-append own (indexes_of c.back))) (subst (AllPairs (λ (a b : IndexDef). a.name ≢ b.name)) whole all))
