-- A database but for one of its places is a whole one with the table whose trees stand there and whose page is written.
use Rattle.std.proofs.Common.{◌≡◌, ◌≢◌, ◌+◌, ◌∙◌, ℕ, Option, Some, None, length-set, set, sum_by, refl, ap, arith, sym, subst, inl, inr}
use Rattle.std.specs.Prelude.{AllPairs, slice_get}
use Rattle.std.specs.List.{AllByRecursion, AllZip}
use Rattle.std.proofs.lemmas.Bool.{cases_eq}
use Rattle.std.proofs.lemmas.Option.{same_Some}
use Rattle.mdc_words.proofs.PlacesLemmas.{slice_get-set_other, slice_get-set_same}
use Rattle.store_api.specs.declared.shape.Shape.{Shape}
use Rattle.extent_map.specs.Owners.{owner_of}
use Rattle.extent_map.specs.declared.kind.Kind.{Kind}
use Rattle.extent_map.specs.declared.kind.Kind.TheVariants.{Free, Block, Index}
use Rattle.entry_tree.specs.Forest.{times}
use Rattle.block_map.specs.MapLines.{map_lines, used_blocks}
use Rattle.table_page.specs.TablePage.{IsTablePageOf}
use Rattle.table_page.proofs.TablePageLemmas.{no_blank_table}
use Rattle.table_trees.specs.TableTrees.{tree_places}
use Rattle.table_trees.specs.ToldPages.{HasTree, PageList}
use Rattle.mdc_sound.specs.BlockRules.{AreBlockRowsSound, AreNumbersSound, AreRowNumbersSound, AreSoundIndexes, AreTableBlockIndexesSound, AreTableIndexesSound, AreTableKeysSound, IsIdleCountSound, IsOfOneCell, IsUsedCountSound}
use Rattle.mdc_sound.specs.SoundDatabase.{KeepAllRules, KeepFirstRules}
use Rattle.mdc_sound.specs.SpaceRules.{DatabaseView, EachTable, IsBlockMapSound, IsOwnerThere, IsTablePlaceSound, definitions_in, indexes_in, tables_there, times_in_trees}
use Rattle.mdc_sound.specs.TablePages.{DefinesTable, IsTableThere}
use Rattle.mdc_sound.specs.TableRows.{rows_in_table}
use Rattle.mdc_sound.specs.TableViews.{TableView, trees_of_table}
use Rattle.mdc_sound.proofs.SpaceRulesLemmas.{range_each}
use Rattle.stored_catalog.specs.AroundTable.{StandsBut, view_with}
use Rattle.stored_catalog.proofs.NewTablesLemmas.{StandsBetween, each_between, stands_between, sum_between}
use Rattle.stored_catalog.proofs.TablesAroundLemmas.{all_used, roots_used}

-- Table t is defined by its page, its name and those of its record indexes are no other table's, and the rules on blocks, indexes and
-- rows hold of it, but for that on unique keys.
pub record IsWholeTable (shape : Shape) (pages : PageList) (view : DatabaseView) (t : ℕ) (table : TableView) : Type 0 where
  pub defines : DefinesTable pages t table.def
  pub tables_differ : AllPairs (λ a b. a.name ≢ b.name) (definitions_in (view_with view view.owners t (Some table)))
  pub indexes_differ : AllPairs (λ a b. a.name ≢ b.name) (indexes_in (view_with view view.owners t (Some table)))
  pub block_map : IsBlockMapSound shape view.owners table.def table.map
  pub rows : AllByRecursion (AreBlockRowsSound shape pages table.def) (used_blocks table.map)
  pub used_counts : AllByRecursion (IsUsedCountSound shape pages table.def) (map_lines table.map)
  pub idle_counts : AllByRecursion IsIdleCountSound (map_lines table.map)
  pub cells : AllByRecursion (IsOfOneCell shape pages table.def) (used_blocks table.map)
  pub block_indexes : AreTableBlockIndexesSound shape pages table
  pub record_indexes : AreTableIndexesSound shape pages table
  pub numbers : AreRowNumbersSound table.def (rows_in_table shape pages table.def table.map)

-- all rules hold, but for that on unique keys
pub record KeepAllButKeys (shape : Shape) (pages : PageList) (view : DatabaseView) : Type 0 where
  pub first : KeepFirstRules shape pages view
  pub rule11 : AreSoundIndexes shape pages view
  pub numbers : AreNumbersSound shape pages view

-- what holds of each other table and of this one holds of each with it
each_with : (view : DatabaseView) (t : ℕ) (table : TableView) → slice_get view.places t ≡ Some None → (P : TableView → Type 0) → EachTable view P → P table → AllByRecursion P (tables_there (set view.places t (Some table)))
each_with view t table absent P all here = subst (AllByRecursion P) (sym between.are) (each_between P between.front between.back table (subst (AllByRecursion P) between.were all) here)
  where
    between : StandsBetween view.places t table
    between = stands_between view.places t table absent

-- where its trees stand beside all others, it is one of a database that is sound but for its unique keys
pub closed_but_keys : (shape : Shape) (pages : PageList) (view : DatabaseView) (t : ℕ) (table : TableView) → StandsBut shape pages view t (tree_places table.def) (trees_of_table table)
    → IsWholeTable shape pages view t table → KeepAllButKeys shape pages (view_with view view.owners t (Some table))
closed_but_keys shape pages view t table st whole = record {
  first = record {
    rule1 = st.root;
    rule2 = record { count = st.extents.count; each = λ i low. record { held = st.extents.pages i low; owned = λ e on. owner_there (owner_of view.owners e) e refl } };
    rule3 = record {
      each = range_each (IsTablePlaceSound shape pages view.owners) 0 16 (set view.places t (Some table)) (length-set view.places t (Some table) ∙ st.count) place_sound;
      tables_differ = whole.tables_differ;
      indexes_differ = whole.indexes_differ;
    };
    rule4 = all_with (λ other. AllZip (HasTree pages) (tree_places other.def) (trees_of_table other)) st.trees_stand st.held;
    rule5 = λ p. record { used = λ used. times_with p ∙ st.used p used; others = λ unused. times_with p ∙ st.unused p unused };
    rule6 = all_with (λ other. IsBlockMapSound shape view.owners other.def other.map) st.block_maps whole.block_map;
    rule7 = all_with _ st.rows whole.rows;
    rule8 = record { used = all_with _ st.counts.used whole.used_counts; idle = all_with _ st.counts.idle whole.idle_counts };
    rule9 = all_with _ st.cells whole.cells;
    rule10 = all_with (AreTableBlockIndexesSound shape pages) st.block_indexes whole.block_indexes;
  };
  rule11 = all_with (AreTableIndexesSound shape pages) st.record_indexes whole.record_indexes;
  numbers = all_with _ st.keys.numbers whole.numbers;
}
  where
    between : StandsBetween view.places t table
    between = stands_between view.places t table st.absent

    all_with : (P : TableView → Type 0) → EachTable view P → P table → AllByRecursion P (tables_there (set view.places t (Some table)))
    all_with = each_with view t table st.absent

    times_with : (p : ℕ) → times_in_trees p (view_with view view.owners t (Some table)) ≡ times_in_trees p view + sum_by (times p) (trees_of_table table)
    times_with p =
        ap (sum_by (λ other. sum_by (times p) (trees_of_table other))) between.are
        ∙ (sum_between (λ other. sum_by (times p) (trees_of_table other)) between.front between.back table
        ∙ ap (λ n. n + sum_by (times p) (trees_of_table table)) (ap (sum_by (λ other. sum_by (times p) (trees_of_table other))) (sym between.were)))

    owner_there : (kind : Kind) (e : ℕ) → owner_of view.owners e ≡ kind → IsOwnerThere pages kind
    owner_there Free e is = tt
    owner_there (Block u) e is = elim (st.owned e u is) [
      | inl same ↦ subst (λ v. IsTableThere pages v) (sym same) (st.within, λ blank. no_blank_table t table.def (subst (λ page. IsTablePageOf t table.def page) blank whole.defines))
      | inr there ↦ there
    ]
    owner_there (Index used) e is = tt

    here_sound : IsTablePlaceSound shape pages view.owners t (Some table)
    here_sound = (
      whole.defines,
      roots_used shape pages view.owners (tree_places table.def) (trees_of_table table) st.held
          (λ p some. all_used shape pages view t (tree_places table.def) (trees_of_table table) st p (omega (arith, some))),
    )

    place_sound : (i : ℕ) (place : Option TableView) → slice_get (set view.places t (Some table)) i ≡ Some place → IsTablePlaceSound shape pages view.owners (0 + i) place
    place_sound i place at = let same : i ≡ 0 + i = omega arith in subst (λ v. IsTablePlaceSound shape pages view.owners v place) same (elim (cases_eq i t) [
      | inl here ↦
          let is = same_Some (Some table) place (sym (slice_get-set_same view.places t (Some table) (omega (arith, st.within, st.count))) ∙ (ap (slice_get (set view.places t (Some table))) (sym here) ∙ at)) in
          subst (λ v. IsTablePlaceSound shape pages view.owners v place) (sym here) (subst (IsTablePlaceSound shape pages view.owners t) is here_sound)
      | inr other ↦ st.each i place other (sym (slice_get-set_other view.places t (Some table) i other) ∙ at)
    ])

-- where its unique keys are sound too, it is one of a sound database
pub closed_with : (shape : Shape) (pages : PageList) (view : DatabaseView) (t : ℕ) (table : TableView) → StandsBut shape pages view t (tree_places table.def) (trees_of_table table)
    → IsWholeTable shape pages view t table → AreTableKeysSound shape pages table → KeepAllRules shape pages (view_with view view.owners t (Some table))
closed_with shape pages view t table st whole unique = let but = closed_but_keys shape pages view t table st whole in record {
  first = but.first;
  rule11 = but.rule11;
  rule12 = record { numbers = but.numbers; unique = each_with view t table st.absent (AreTableKeysSound shape pages) st.keys.unique unique };
}
