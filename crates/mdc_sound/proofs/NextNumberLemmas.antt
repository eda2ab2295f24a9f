-- A table stands whatever its next row number is, and its record indexes are sound.
use Rattle.std.proofs.Common.{ℕ, ◌<◌, List, [], ◌∷◌}
use Rattle.std.specs.List.{AllByRecursion, AllZip}
use Rattle.mdc_ast.specs.declared.definition.IndexDef.{IndexDef}
use Rattle.mdc_ast.specs.declared.definition.TableDef.{TableDef}
use Rattle.store_api.specs.declared.pages.Pages.{Ghosts}
use Rattle.store_api.specs.declared.shape.Shape.{Shape}
use Rattle.extent_map.specs.declared.kind.Kind.{Kind}
use Rattle.entry_tree.specs.Forest.{Forest}
use Rattle.block_map.specs.MapLines.{map_lines, pending_blocks, used_blocks}
use Rattle.mdc_ast.specs.TableLimits.{IsTableDef}
use Rattle.table_trees.specs.TableTrees.{cell_parts, rising_parts}
use Rattle.table_trees.specs.ToldPages.{PageList}
use Rattle.mdc_ast.specs.declared.definition.KeyPart.{KeyPart}
use Rattle.mdc_sound.specs.BlockRules.{AreBlockRowsSound, AreTableIndexesSound, IsBlockIndexSound, IsSoundIndex, IsUsedCountSound}
use Rattle.mdc_ast.specs.FittingRows.{RowFits}
use Rattle.mdc_sound.specs.SpaceRules.{IsBlockMapSound, IsMapLineSound}
use Rattle.mdc_sound.specs.StandingTable.{StandsTable, TableForests, pages_of, view_of}
use Rattle.mdc_sound.specs.TableRows.{PlacedRow, rows_in_block, rows_in_table}
use Rattle.mdc_sound.proofs.BlockRulesLemmas.{each_as}

-- the definition with another next row number
abbrev pub with_next : TableDef → ℕ → TableDef
with_next def next = record def { next = next }

pub limits_next : (t : ℕ) (def : TableDef) (next : ℕ) → next < 18446744073709551616 → IsTableDef t def → IsTableDef t (with_next def next)
limits_next t def next small is = record {
  stands = is.stands;
  name = is.name;
  columns = is.columns;
  dims = is.dims;
  indexes = is.indexes;
  next = small;
  roots = is.roots;
}

module _ (shape : Shape) (pages : PageList) (def : TableDef) (next : ℕ) where
  map_next : (owners : List Kind) (map_tree : Forest) → IsBlockMapSound shape owners def map_tree → IsBlockMapSound shape owners (with_next def next) map_tree
  map_next owners map_tree is = record {
    entries = is.entries;
    lines = each_as (IsMapLineSound shape owners def) (IsMapLineSound shape owners (with_next def next)) (map_lines map_tree)
        (λ line there at. record { state = at.state; within = at.within; owned = at.owned }) is.lines;
    once_each = is.once_each;
    all_named = is.all_named;
  }

  rows_next : (blocks : List ℕ) → AllByRecursion (AreBlockRowsSound shape pages def) blocks → AllByRecursion (AreBlockRowsSound shape pages (with_next def next)) blocks
  rows_next blocks all = each_as (AreBlockRowsSound shape pages def) (AreBlockRowsSound shape pages (with_next def next)) blocks
      (λ block there at. record {
        forms = at.forms;
        rows = each_as (λ (placed : PlacedRow). RowFits def placed.row) (λ (placed : PlacedRow). RowFits (with_next def next) placed.row) (rows_in_block shape pages def block)
            (λ placed in_block fits. record { values = fits.values; generated = fits.generated }) at.rows;
      }) all

  index_next : (rows : List PlacedRow) (parts : List KeyPart) (index : Forest) → IsBlockIndexSound def rows parts index → IsBlockIndexSound (with_next def next) rows parts index
  index_next rows parts index is = record { has = is.has; only = is.only }

  dims_next : (rows : List PlacedRow) (dims : List (List ℕ)) (indexes : List Forest) → AllZip (λ dim index. IsBlockIndexSound def rows (rising_parts dim) index) dims indexes
      → AllZip (λ dim index. IsBlockIndexSound (with_next def next) rows (rising_parts dim) index) dims indexes
  dims_next rows [] [] all = tt
  dims_next rows [] (index ∷ indexes) all = absurd all
  dims_next rows (dim ∷ dims) [] all = absurd all
  dims_next rows (dim ∷ dims) (index ∷ indexes) all = (index_next rows (rising_parts dim) index all.0, dims_next rows dims indexes all.1)

  record_indexes_next : (rows : List PlacedRow) (pending : List ℕ) (indexes : List IndexDef) (trees : List Forest) → AllZip (IsSoundIndex def rows pending) indexes trees
      → AllZip (IsSoundIndex (with_next def next) rows pending) indexes trees
  record_indexes_next rows pending [] [] all = tt
  record_indexes_next rows pending [] (tree ∷ trees) all = absurd all
  record_indexes_next rows pending (index ∷ indexes) [] all = absurd all
  record_indexes_next rows pending (index ∷ indexes) (tree ∷ trees) all = (record { has = all.0.has; only = all.0.only }, record_indexes_next rows pending indexes trees all.1)

  pub indexes_next : (forests : TableForests) → AreTableIndexesSound shape pages (view_of def forests) → AreTableIndexesSound shape pages (view_of (with_next def next) forests)
  indexes_next forests all = record_indexes_next (rows_in_table shape pages def forests.map) (pending_blocks forests.map) def.indexes forests.indexes all

pub stands_next : {S : Type 0} (g : Ghosts S) (shape : Shape) (s : S) (def : TableDef) (next : ℕ) (owners : List Kind) (forests : TableForests) → StandsTable g shape s def owners forests
    → StandsTable g shape s (with_next def next) owners forests
stands_next g shape s def next owners forests st = record {
  told = st.told;
  trees = st.trees;
  map = map_next shape (pages_of g s) def next owners forests.map st.map;
  rows = rows_next shape (pages_of g s) def next (used_blocks forests.map) st.rows;
  used_counts = each_as (IsUsedCountSound shape (pages_of g s) def) (IsUsedCountSound shape (pages_of g s) (with_next def next)) (map_lines forests.map)
      (λ line there at. record { some_row = at.some_row; counted = at.counted }) st.used_counts;
  idle_counts = st.idle_counts;
  cells = st.cells;
  indexes = record {
    composite = index_next shape (pages_of g s) def next (rows_in_table shape (pages_of g s) def forests.map) (cell_parts def) forests.composite st.indexes.composite;
    dims = dims_next shape (pages_of g s) def next (rows_in_table shape (pages_of g s) def forests.map) def.dims forests.dims st.indexes.dims;
  };
}
