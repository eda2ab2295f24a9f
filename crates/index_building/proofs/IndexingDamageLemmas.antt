-- No damage is named where a record index is made over the rows of a sound database, or dropped from it.
use Rattle.std.proofs.Common.{◌≡◌, ◌≢◌, ◌<◌, ◌+◌, ℕ, List, [], ◌∷◌, Some, length, sum_by, ap, arith, sym, subst}
use Rattle.std.specs.Prelude.{IsPermutation, IsTrue, remove, slice_get}
use Rattle.std.specs.List.{AllByRecursion}
use Rattle.std.proofs.lemmas.List.{length-map}
use Rattle.std.proofs.lemmas.List.Sorted.{Contains-permutation, IsPermutation-sym}
use Rattle.mdc_ast.specs.Definitions.{Definitions, def_at}
use Rattle.mdc_ast.specs.declared.definition.IndexDef.{IndexDef}
use Rattle.mdc_ast.specs.declared.definition.TableDef.{TableDef}
use Rattle.store_api.specs.declared.fault.Damage.{Damage}
use Rattle.store_api.specs.declared.pages.Pages.{Ghosts}
use Rattle.store_api.specs.declared.shape.Shape.{Shape}
use Rattle.entry_tree.specs.Forest.{Forest, times}
use Rattle.table_trees.specs.TableTrees.{TreePlace, composite_place, dimension_places, map_place, record_place, record_places, tree_places}
use Rattle.table_trees.specs.TreesBeside.{HoldsTreeAt, StandTrees}
use Rattle.table_trees.proofs.ToldPagesLemmas.{told_of_map}
use Rattle.table_trees.proofs.TreeListsLemmas.{beside_at, times-one}
use Rattle.mdc_sound.specs.SoundDatabase.{KeepAllRules}
use Rattle.mdc_sound.specs.SpaceRules.{DatabaseView}
use Rattle.mdc_sound.specs.StandingTable.{forests_in_order, pages_of}
use Rattle.mdc_sound.specs.TablePages.{DefinesTable}
use Rattle.mdc_sound.specs.TableRows.{PlacedRow, rows_in_table}
use Rattle.mdc_sound.proofs.BlockRulesLemmas.{each_as, each_of}
use Rattle.mdc_sound.proofs.StandingTableLemmas.{forests_of, map_of_rules, stands_of_rules, stands_told}
use Rattle.record_index.specs.FoundRids.{IsRid}
use Rattle.record_index.specs.SoundRows.{LieApart}
use Rattle.stored_catalog.specs.StoredDefinitions.{AreStored}
use Rattle.stored_catalog.proofs.LeftDefinitionsLemmas.{stored_at}
use Rattle.stored_catalog.proofs.OpenedTableLemmas.{defined_there}
use Rattle.index_building.specs.IndexSteps.{AreRowsOf, BreaksDroppingIndex, BreaksIndexing}
use Rattle.index_building.proofs.PairsInOrderLemmas.{pairs_in_order}
use Rattle.index_building.proofs.RemovedLemmas.{at-behind, sum-remove, there-at}

-- rows that lie apart do so in any order
pub apart_in_order : (rows others : List PlacedRow) → IsPermutation rows others → LieApart others → LieApart rows
apart_in_order rows others same lie = record {
  places = each_as (λ (placed : PlacedRow). Unit {0}) (λ (placed : PlacedRow). IsRid placed.rid) rows
      (λ placed there any. each_of (λ (x : PlacedRow). IsRid x.rid) others placed lie.places (Contains-permutation rows others placed same there)) (any_rows rows);
  apart = pairs_in_order (λ (a b : PlacedRow). a.rid ≢ b.rid) (λ a b apart alike. apart (sym alike)) others rows (IsPermutation-sym rows others same) lie.apart;
}
  where
    any_rows : (some : List PlacedRow) → AllByRecursion (λ (placed : PlacedRow). Unit {0}) some
    any_rows [] = tt
    any_rows (placed ∷ some) = (tt, any_rows some)

module _ {S : Type 0} (g : Ghosts S) (shape : Shape) (s : S) (view : DatabaseView) (told : IsTrue (g.state s).is_told) (keeps : KeepAllRules shape (pages_of g s) view) where
  -- no damage where an index is made over the rows of a table, which lie apart
  pub no_indexing_damage : (defs : Definitions) (t : ℕ) (index : IndexDef) (rows : List PlacedRow) (damage : Damage) → (are : AreRowsOf shape (pages_of g s) view t rows)
      → LieApart (rows_in_table shape (pages_of g s) are.table.def are.table.map) → BreaksIndexing g shape s defs t index rows damage → ⊥
  no_indexing_damage defs t index rows damage are lie breaks =
      breaks.broken view.owners (told_of_map g s told shape view.owners (map_of_rules shape (pages_of g s) view keeps.first)) (apart_in_order rows (rows_in_table shape (pages_of g s) are.table.def are.table.map) are.same lie)

  -- the tree of a record index that is there stands
  record IsIndexStanding (def : TableDef) (place : ℕ) : Type 0 where
    at : TreePlace
    is : slice_get (record_places def) place ≡ Some at
    tree : Forest
    stands : StandTrees g shape s view.owners (at ∷ []) (tree ∷ [])

  index_stands : (t place : ℕ) (def : TableDef) → t < 16 → DefinesTable (pages_of g s) t def → place < length def.indexes → IsIndexStanding def place
  index_stands t place def low defines there =
      let found = defined_there shape (pages_of g s) view t def keeps low defines in
      let table = found.table in
      let st = stands_told g s told shape table.def view.owners (forests_of table) (stands_of_rules shape (pages_of g s) view keeps.first t table found.there) in
      let inside : place < length (record_places table.def) = omega (arith, there, ap (λ (d : TableDef). length d.indexes) found.same, length-map table.def.indexes (record_place table.def)) in
      let at = there-at (record_places table.def) place inside in
      let n = 2 + (length (dimension_places table.def) + place) in
      let trees = forests_in_order (forests_of table) in
      let tree = beside_at (HoldsTreeAt g s) (tree_places table.def) trees n at.0 st.trees.held
      (at-behind (map_place table.def ∷ composite_place table.def ∷ dimension_places table.def) (record_places table.def) n place at.0 (omega arith) at.1) in
      let all : (p : ℕ) → sum_by (times p) (remove trees n) + times p tree.0 ≡ sum_by (times p) trees = λ p. sum-remove (times p) trees n tree.0 tree.1 in
      record {
        at = at.0;
        is = subst (λ (d : TableDef). slice_get (record_places d) place ≡ Some at.0) found.same at.1;
        tree = tree.0;
        stands = record {
          map = st.trees.map;
          held = (tree.2, tt);
          used = λ p l. st.trees.used p (omega (arith, l, all p, times-one p tree.0));
          apart = λ p. omega (arith, st.trees.apart p, all p, times-one p tree.0);
        };
      }

  -- and none where one is dropped that is there
  pub no_index_dropping_damage : (defs : Definitions) (t place : ℕ) (damage : Damage) → t < 16 → AreStored (pages_of g s) defs → ((def : TableDef) → def_at defs t ≡ Some def → place < length def.indexes)
      → BreaksDroppingIndex g shape s defs t place damage → ⊥
  no_index_dropping_damage defs t place damage low stored there (def, stands, breaks) =
      let one = index_stands t place def low (stored_at (pages_of g s) defs t def stored stands) (there def stands) in
      breaks.broken view.owners one.at one.tree one.is one.stands
