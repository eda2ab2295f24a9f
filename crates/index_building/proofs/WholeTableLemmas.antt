-- The rules on blocks and rows hold of a table with other record indexes, where the pages of its blocks are as they were.
use Rattle.std.proofs.Common.{◌≡◌, ◌≢◌, ◌<◌, ◌+◌, ◌∙◌, ℕ, List, Some, None, arith, refl, sym, subst}
use Rattle.std.specs.Prelude.{AllPairs, IsTrue, slice_get, slice_set}
use Rattle.mdc_ast.specs.declared.definition.IndexDef.{IndexDef}
use Rattle.mdc_ast.specs.declared.definition.TableDef.{TableDef}
use Rattle.store_api.specs.Frame.{Touches}
use Rattle.store_api.specs.declared.pages.Pages.{Ghosts}
use Rattle.store_api.specs.declared.shape.Shape.{Shape}
use Rattle.extent_map.specs.Map.{HoldsMap}
use Rattle.extent_map.specs.Owners.{owner_of}
use Rattle.extent_map.specs.declared.kind.Kind.{Kind}
use Rattle.extent_map.specs.declared.kind.Kind.TheVariants.{Block}
use Rattle.entry_tree.specs.Forest.{Forest}
use Rattle.block_map.specs.MapLines.{map_lines, used_blocks}
use Rattle.table_page.specs.TablePage.{table_page}
use Rattle.table_trees.specs.ToldPages.{PageList, told_pages}
use Rattle.mdc_sound.specs.BlockRules.{AreRowNumbersSound, AreTableIndexesSound}
use Rattle.mdc_sound.specs.SoundDatabase.{KeepAllRules, with_table_page}
use Rattle.mdc_sound.specs.SpaceRules.{DatabaseView, definitions_in, indexes_in}
use Rattle.mdc_sound.specs.StandingTable.{IsBlockPageOf, StandsTable, pages_of}
use Rattle.mdc_sound.specs.TablePages.{DefinesTable}
use Rattle.mdc_sound.specs.TableRows.{rows_in_table}
use Rattle.mdc_sound.specs.TableViews.{TableView}
use Rattle.mdc_sound.proofs.BlockRulesLemmas.{block_map_kept, cells_kept, indexes_kept, rows_kept, table_rows_kept, used_counts_kept}
use Rattle.mdc_sound.proofs.SoundDatabaseLemmas.{put_table_page}
use Rattle.mdc_sound.proofs.SpaceRulesLemmas.{there_at}
use Rattle.mdc_sound.proofs.StandingTableLemmas.{block_below, block_kept, forests_of, stands_of_rules}
use Rattle.mdc_sound.proofs.TableRowsLemmas.{KeepsBlockPages}
use Rattle.stored_catalog.specs.AroundTable.{view_with}
use Rattle.stored_catalog.specs.StoredDefinitions.{with_stored}
use Rattle.stored_catalog.proofs.ClosedTableLemmas.{IsWholeTable}
use Rattle.index_building.proofs.OtherIndexesLemmas.{block_indexes_other, counts_other, map_other, numbers_other, rows_other, with_indexes}

-- the table with these record indexes and their trees
abbrev pub table_with : TableView → List IndexDef → List Forest → TableView
table_with table indexes trees = record table { def = with_indexes table.def indexes; indexes = trees }

module _ (shape : Shape) (old last : PageList) (view : DatabaseView) (owners_now : List Kind) (t : ℕ) (table : TableView) (indexes : List IndexDef) (trees : List Forest)
    (keeps : KeepAllRules shape old view) (there : slice_get view.places t ≡ Some (Some table))
    (still : (e : ℕ) → owner_of view.owners e ≡ Block table.def.number → owner_of owners_now e ≡ Block table.def.number)
    (back : (e : ℕ) → owner_of owners_now e ≡ Block table.def.number → owner_of view.owners e ≡ Block table.def.number)
    (kept : (e : ℕ) → owner_of view.owners e ≡ Block table.def.number → KeepsBlockPages shape old last e) where
  stood : StandsTable told_pages shape old table.def view.owners (forests_of table)
  stood = stands_of_rules shape old view keeps.first t table there

  -- its rows are those that it had
  pub rows_same : rows_in_table shape last table.def table.map ≡ rows_in_table shape old table.def table.map
  rows_same = table_rows_kept shape old last table.def view.owners table.map stood.map kept

  pub whole_of : DefinesTable last t (with_indexes table.def indexes)
      → AllPairs (λ a b. a.name ≢ b.name) (definitions_in (view_with (view_with view owners_now t None) owners_now t (Some (table_with table indexes trees))))
      → AllPairs (λ a b. a.name ≢ b.name) (indexes_in (view_with (view_with view owners_now t None) owners_now t (Some (table_with table indexes trees))))
      → AreTableIndexesSound shape last (table_with table indexes trees)
      → IsWholeTable shape last (view_with view owners_now t None) t (table_with table indexes trees)
  whole_of defines names index_names sound = record {
    defines = defines;
    tables_differ = names;
    indexes_differ = index_names;
    block_map = map_other shape last table.def indexes owners_now table.map (block_map_kept shape view.owners owners_now table.def table.map still back stood.map);
    rows = rows_other shape last table.def indexes (used_blocks table.map) (rows_kept shape old last table.def view.owners table.map stood.map kept stood.rows);
    used_counts = counts_other shape last table.def indexes (map_lines table.map) (used_counts_kept shape old last table.def view.owners table.map stood.map kept stood.used_counts);
    idle_counts = stood.idle_counts;
    cells = cells_kept shape old last table.def view.owners table.map stood.map kept stood.cells;
    block_indexes = block_indexes_other shape last table.def indexes table.map table.composite table.dims table.indexes trees
        (indexes_kept shape old last table.def view.owners table.map stood.map kept table.composite table.dims table.indexes stood.indexes);
    record_indexes = sound;
    numbers = numbers_other shape last table.def indexes (rows_in_table shape last table.def table.map)
        (subst (AreRowNumbersSound table.def) (sym rows_same) (there_at (λ other. AreRowNumbersSound other.def (rows_in_table shape old other.def other.map)) view.places t table there keeps.rule12.numbers));
  }

-- the pages of a table's blocks are as they were, once calls touched none of them, and its table page was written
pub blocks_stay : {S : Type 0} (g : Ghosts S) (shape : Shape) (old new : S) (view : DatabaseView) (owners_now : List Kind) (t : ℕ) (now : TableDef) (Mine : ℕ → Type 0)
    → IsTrue (g.state old).is_told → HoldsMap g shape old view.owners → HoldsMap told_pages shape (pages_of g new) owners_now → now.number ≡ t → t < 16
    → ((e : ℕ) → owner_of view.owners e ≡ Block t → owner_of owners_now e ≡ Block t)
    → Touches g Mine old new → ((p : ℕ) → IsBlockPageOf shape view.owners t p → Mine p → ⊥)
    → (e : ℕ) → owner_of view.owners e ≡ Block t → KeepsBlockPages shape (pages_of g old) (with_stored (pages_of g new) t (Some now)) e
blocks_stay g shape old new view owners_now t now Mine told map map_now number low still touched off e is =
    let below : e < shape.extents = omega (arith, block_below view.owners e t is, map.count) in
    let first = block_kept Mine shape old new view.owners t e map told touched off below is in
    let put : Touches told_pages (λ p. p ≡ 1 + now.number) (pages_of g new) (with_table_page now (pages_of g new)) = put_table_page now (pages_of g new) in
    let second = block_kept (λ p. p ≡ 1 + now.number) shape (pages_of g new) (with_table_page now (pages_of g new)) owners_now t e map_now refl put
    (λ p of only. omega (arith, of.page.behind, only, number, low)) below (still e is) in
    subst (λ n. KeepsBlockPages shape (pages_of g old) (slice_set (pages_of g new) (1 + n) (table_page now)) e) number (record { each = λ j within. second.each j within ∙ first.each j within })
