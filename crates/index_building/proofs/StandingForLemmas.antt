-- The plain database that pages stand for, once the definition of a table has other record indexes: its rows are those that it had.
use Rattle.std.proofs.Common.{◌≡◌, ◌<◌, ◌+◌, ◌∙◌, ℕ, zero, suc, List, [], ◌∷◌, Option, Some, None, map, ap, arith, sym, subst}
use Rattle.std.specs.Prelude.{AllPairs, IsPermutation, slice_get}
use Rattle.std.proofs.lemmas.Option.{same_Some}
use Rattle.mdc_ast.specs.declared.definition.IndexDef.{IndexDef}
use Rattle.mdc_ast.specs.declared.definition.TableDef.{TableDef}
use Rattle.mdc_ast.specs.Database.{Database, PlainTable, changed_at, with_place}
use Rattle.store_api.specs.declared.shape.Shape.{Shape}
use Rattle.entry_tree.specs.Forest.{Forest}
use Rattle.table_page.specs.TablePage.{IsTablePageOf}
use Rattle.table_page.proofs.TablePageLemmas.{no_blank_table, one_definition}
use Rattle.table_trees.specs.TableTrees.{map_place}
use Rattle.table_trees.specs.ToldPages.{HasTree, PageList}
use Rattle.mdc_sound.specs.StandsForDatabase.{HoldsPlace, HoldsTable, PagesStandFor, rootless}
use Rattle.mdc_sound.specs.TablePages.{DefinesTable, table_page_at}
use Rattle.mdc_sound.specs.TableRows.{PlacedRow, rows_in_table}
use Rattle.mdc_sound.proofs.SpaceRulesLemmas.{range_at, range_length}
use Rattle.mdc_sound.proofs.StandsForLemmas.{one_tree_at}
use Rattle.index_building.proofs.OtherIndexesLemmas.{with_indexes}
use Rattle.index_building.proofs.RemovedLemmas.{there-at}

-- a table that is changed is one that is put
pub put_is_changed : (db : Database) (t : ℕ) (x : PlainTable) (change : PlainTable → PlainTable) → slice_get db t ≡ Some (Some x) → with_place db t (Some (change x)) ≡ changed_at db t change
put_is_changed [] t x change at = absurd cc
put_is_changed (None ∷ db) zero x change at = absurd cc
put_is_changed (Some first ∷ db) zero x change at =
    let same : first ≡ x = same_Some first x (same_Some (Some first) (Some x) at) in ap (λ y. Some (change y) ∷ db) (sym same)
put_is_changed (first ∷ db) (suc t) x change at = ap (λ rest. first ∷ rest) (put_is_changed db t x change at)

-- the plain table of a place whose page defines one
pub record IsHeldThere (shape : Shape) (pages : PageList) (db : Database) (t : ℕ) : Type 0 where
  pub x : PlainTable
  pub at : slice_get db t ≡ Some (Some x)
  pub holds : HoldsTable shape pages t x

pub held_there : (shape : Shape) (pages : PageList) (db : Database) (t : ℕ) (def : TableDef) → t < 16 → DefinesTable pages t def → PagesStandFor shape pages db → IsHeldThere shape pages db t
held_there shape pages db t def low defines stands =
    let found = there-at db t (omega (arith, low, range_length (HoldsPlace shape pages) 0 16 db stands)) in
    let same : 0 + t ≡ t = omega arith in
    go found.0 found.1 (subst (λ u. HoldsPlace shape pages u found.0) same (range_at (HoldsPlace shape pages) 0 16 db t found.0 stands found.1).1)
  where
    go : (place : Option PlainTable) → slice_get db t ≡ Some place → HoldsPlace shape pages t place → IsHeldThere shape pages db t
    go None at blank = absurd (no_blank_table t def (subst (λ page. IsTablePageOf t def page) blank defines))
    go (Some x) at holds = record { x = x; at = at; holds = holds }

-- it holds the same rows with other record indexes
pub held_other : (shape : Shape) (old last : PageList) (t : ℕ) (def : TableDef) (indexes : List IndexDef) (map_tree : Forest) (x y : PlainTable) → HoldsTable shape old t x
    → DefinesTable old t def → HasTree old (map_place def) map_tree → DefinesTable last t (with_indexes def indexes) → HasTree last (map_place def) map_tree
    → rows_in_table shape last def map_tree ≡ rows_in_table shape old def map_tree
    → (x.def ≡ rootless def → y.def ≡ rootless (with_indexes def indexes)) → y.rows ≡ x.rows → HoldsTable shape last t y
held_other shape old last t def indexes map_tree x y h defines has_map defines_now has_map_now rows_same definition same_rows =
    let def_same : h.def ≡ def = one_definition t h.def def (table_page_at old t) h.defines defines in
    let has : HasTree old (map_place def) h.map_tree = subst (λ d. HasTree old (map_place d) h.map_tree) def_same h.has_map in
    let tree : h.map_tree ≡ map_tree = one_tree_at old (map_place def) h.map_tree map_tree has has_map in
    let rows : rows_in_table shape old h.def h.map_tree ≡ rows_in_table shape last def map_tree =
    ap (λ d. rows_in_table shape old d h.map_tree) def_same ∙ (ap (λ m. rows_in_table shape old def m) tree ∙ sym rows_same) in record {
      def = with_indexes def indexes;
      map_tree = map_tree;
      defines = defines_now;
      has_map = has_map_now;
      def_is = definition (h.def_is ∙ ap rootless def_same);
      same_rows = subst (IsPermutation (map (λ (placed : PlacedRow). placed.row) (rows_in_table shape last def map_tree))) (sym same_rows)
          (subst (λ (all : List PlacedRow). IsPermutation (map (λ placed. placed.row) all) x.rows) rows h.same_rows);
      rising = subst (AllPairs (λ a b. a.number < b.number)) (sym same_rows) h.rising;
    }
