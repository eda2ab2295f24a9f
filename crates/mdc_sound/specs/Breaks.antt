-- Which page breaks which rule (docs/FORMAT.md, "Rules"). Each rule is judged by what it speaks of alone, so that damage can be
-- named on pages that break other rules too: where the trees that a rule speaks of don't stand, it may be named besides rule 4.
use Rattle.std.specs.Prelude.{◌≡◌, ◌≢◌, ◌≤◌, ◌<◌, ◌⊎◌, ℕ, ◌+◌, ◌/◌, List, length, slice_get, Some, Contains}
use Rattle.mdc_ast.specs.declared.definition.IndexDef.{IndexDef}
use Rattle.mdc_ast.specs.declared.definition.TableDef.{TableDef}
use Rattle.store_api.specs.Extents.{first_page_of, map_pages}
use Rattle.store_api.specs.StoreState.{page_at, zero_page}
use Rattle.store_api.specs.declared.shape.Shape.{Shape}
use Rattle.extent_map.specs.Map.{HoldsMapPage}
use Rattle.extent_map.specs.Owners.{IsExtentPage, IsUsedPage, extent_of, owner_of}
use Rattle.extent_map.specs.declared.kind.Kind.{Kind}
use Rattle.extent_map.specs.declared.kind.Kind.TheVariants as kind
use Rattle.row_page.specs.RowPage.{slot_count}
use Rattle.entry_tree.specs.Forest.{Forest, times}
use Rattle.block_map.specs.BlockMaps.{IsMapForm}
use Rattle.block_map.specs.MapLines.{MapLine, map_lines, pending_blocks, mapped_blocks}
use Rattle.mdc_sound.specs.BlockLines.{HasUsedLine, columns_of_line}
use Rattle.mdc_sound.specs.BlockRules.{IsPageOfColumns, IsUsedCountSound, IsIdleCountSound, IsLineOfOneCell, IsBlockIndexSound, IsSoundIndex, AreRowNumbersSound, IsUniqueSound}
use Rattle.mdc_ast.specs.FittingRows.{RowFits}
use Rattle.mdc_sound.specs.SpaceRules.{IsMapPageSound, IsIndexPage, stated_root}
use Rattle.mdc_sound.specs.TablePages.{DefinesTable, table_page_at}
use Rattle.mdc_sound.specs.TableRows.{PlacedRow, rows_by_line, rows_in_table}
use Rattle.table_trees.specs.TableTrees.{TreePlace, cell_parts, composite_place, dimension_place, map_place, record_place, rising_parts, tree_places}
use Rattle.table_trees.specs.ToldPages.{HasTree, PageList, told_pages}

-- so many pages are those before the extents and some number of whole extents
abbrev pub IsWholeOf : Shape → ℕ → Type 0
IsWholeOf shape n = (extents : ℕ) × (extents ≤ shape.extents) × (n ≡ first_page_of shape.extents shape.extent_pages extents)

-- the extent map shows the extent of a page, with these owners
abbrev pub ShowsExtentOf : Shape → PageList → List Kind → ℕ → Type 0
ShowsExtentOf shape pages owners p = IsExtentPage shape p × HoldsMapPage told_pages shape pages owners (extent_of shape p / 512)

-- table t is defined so, and P holds of its block map, where that stands
pub record ShowsTable (pages : PageList) (t : ℕ) (def : TableDef) (P : Forest → Type 0) : Type 0 where
  pub within : t < 16
  pub defines : DefinesTable pages t def
  pub map : (map_tree : Forest) → HasTree pages (map_place def) map_tree → P map_tree

-- a place of tree i of table t
pub record IsTreePlace (pages : PageList) (t i : ℕ) (place : TreePlace) : Type 0 where
  pub within : t < 16
  pub def : TableDef
  pub defines : DefinesTable pages t def
  pub is_its : slice_get (tree_places def) i ≡ Some place

-- P holds of tree i of table t, where that stands
pub record ShowsTree (pages : PageList) (t i : ℕ) (P : Forest → Type 0) : Type 0 where
  pub place : TreePlace
  pub is_place : IsTreePlace pages t i place
  pub tree : (tree : Forest) → HasTree pages place tree → P tree

-- a table has a record index
pub record HasIndex (pages : PageList) (t : ℕ) (index : IndexDef) : Type 0 where
  pub within : t < 16
  pub def : TableDef
  pub defines : DefinesTable pages t def
  pub is_its : Contains def.indexes index

-- a rule is broken at a page
pub data BreaksRule (shape : Shape) (pages : PageList) : (rule page : ℕ) → Type 0 where
  -- the root page states no count of whole extents, or has another form; and a page that it counts and that isn't there
  root : ((n : ℕ) → IsWholeOf shape n → length pages ≤ n → page_at pages 0 ≡ stated_root n → ⊥) → BreaksRule shape pages 1 0
  missing : (n p : ℕ) → IsWholeOf shape n → page_at pages 0 ≡ stated_root n → length pages ≤ p → p < n → BreaksRule shape pages 1 p
  -- a page of the extent map, of which no owners can be said
  map_page : (i : ℕ) → i < map_pages shape.extents → ((owners : List Kind) → IsMapPageSound shape pages owners i → ⊥) → BreaksRule shape pages 2 (17 + i)
  -- a table page that is neither zeros alone nor that of a definition
  table : (t : ℕ) → t < 16 → table_page_at pages t ≢ zero_page → ((def : TableDef) → DefinesTable pages t def → ⊥) → BreaksRule shape pages 3 (1 + t)
  -- a root that lies in no extent, and one that isn't a page of an index extent
  root_outside : (t : ℕ) (def : TableDef) (place : TreePlace) → t < 16 → DefinesTable pages t def → Contains (tree_places def) place
      → (IsExtentPage shape place.root → ⊥) → BreaksRule shape pages 3 (1 + t)
  root_no_index : (t : ℕ) (def : TableDef) (place : TreePlace) (owners : List Kind) → t < 16 → DefinesTable pages t def → Contains (tree_places def) place
      → ShowsExtentOf shape pages owners place.root → (IsIndexPage shape owners place.root → ⊥) → BreaksRule shape pages 3 (1 + t)
  -- two tables, or two indexes of two tables, of one name: the lower page
  table_name : (t u : ℕ) (a b : TableDef) → t < u → u < 16 → DefinesTable pages t a → DefinesTable pages u b → a.name ≡ b.name → BreaksRule shape pages 3 (1 + t)
  index_name : (t u : ℕ) (i j : IndexDef) → t < u → HasIndex pages t i → HasIndex pages u j → i.name ≡ j.name → BreaksRule shape pages 3 (1 + t)
  -- a root at which no tree stands
  tree : (t : ℕ) (def : TableDef) (place : TreePlace) → t < 16 → DefinesTable pages t def → Contains (tree_places def) place
      → ((t : Forest) → HasTree pages place t → ⊥) → BreaksRule shape pages 4 place.root
  -- a page in two trees, a used index page in none, and a page of a tree that isn't a used index page
  shared : (t u i j p : ℕ) → ShowsTree pages t i (λ a. 0 < times p a) → ShowsTree pages u j (λ b. 0 < times p b) → (t ≢ u) ⊎ (i ≢ j)
      → BreaksRule shape pages 5 p
  in_none : (p : ℕ) (owners : List Kind) → ShowsExtentOf shape pages owners p → IsUsedPage shape owners p
      → ((t i : ℕ) (place : TreePlace) (tree : Forest) → IsTreePlace pages t i place → HasTree pages place tree → times p tree ≡ 0) → BreaksRule shape pages 5 p
  outside : (t i p : ℕ) → ShowsTree pages t i (λ tree. 0 < times p tree) → (IsExtentPage shape p → ⊥) → BreaksRule shape pages 5 p
  not_used : (t i p : ℕ) (owners : List Kind) → ShowsTree pages t i (λ tree. 0 < times p tree) → ShowsExtentOf shape pages owners p
      → (IsUsedPage shape owners p → ⊥) → BreaksRule shape pages 5 p
  -- a block map with a state above 2, or that names a block twice; an entry of one that names no extent; one that names what is
  -- no block of the table, and a block of the table that isn't named
  map_form : (t : ℕ) (def : TableDef) → t < 16 → DefinesTable pages t def → ((map_tree : Forest) → HasTree pages (map_place def) map_tree → IsMapForm map_tree → ⊥)
      → BreaksRule shape pages 6 def.roots.map
  map_past : (t : ℕ) (def : TableDef) (line : MapLine) → ShowsTable pages t def (λ map_tree. Contains (map_lines map_tree) line)
      → shape.extents ≤ line.block → BreaksRule shape pages 6 def.roots.map
  map_other : (t : ℕ) (def : TableDef) (line : MapLine) (owners : List Kind) → ShowsTable pages t def (λ map_tree. Contains (map_lines map_tree) line)
      → line.block < shape.extents → HoldsMapPage told_pages shape pages owners (line.block / 512) → owner_of owners line.block ≢ kind.Block def.number
      → BreaksRule shape pages 6 def.roots.map
  map_lacks : (t e : ℕ) (def : TableDef) (owners : List Kind) → ShowsTable pages t def (λ map_tree. Contains (mapped_blocks map_tree) e → ⊥) → e < shape.extents
      → HoldsMapPage told_pages shape pages owners (e / 512) → owner_of owners e ≡ kind.Block def.number → BreaksRule shape pages 6 def.roots.map
  -- a page of a Used block that is no row page of the columns of its line, and one with a row that doesn't fit
  row_page : (t : ℕ) (def : TableDef) (line : MapLine) (j : ℕ) → ShowsTable pages t def (λ map_tree. HasUsedLine map_tree line)
      → j < shape.extent_pages → (IsPageOfColumns shape pages (columns_of_line def line) line.block j → ⊥)
      → BreaksRule shape pages 7 (first_page_of shape.extents shape.extent_pages line.block + j)
  row : (t : ℕ) (def : TableDef) (line : MapLine) (placed : PlacedRow) → ShowsTable pages t def (λ map_tree. HasUsedLine map_tree line)
      → Contains (rows_by_line shape pages def line) placed → (RowFits def placed.row → ⊥)
      → BreaksRule shape pages 7 (first_page_of shape.extents shape.extent_pages line.block + placed.rid.slot / slot_count (columns_of_line def line))
  -- the first page of a block whose count isn't right
  used_count : (t : ℕ) (def : TableDef) (line : MapLine) → ShowsTable pages t def (λ map_tree. Contains (map_lines map_tree) line)
      → (IsUsedCountSound shape pages def line → ⊥) → BreaksRule shape pages 8 (first_page_of shape.extents shape.extent_pages line.block)
  idle_count : (t : ℕ) (def : TableDef) (line : MapLine) → ShowsTable pages t def (λ map_tree. Contains (map_lines map_tree) line)
      → (IsIdleCountSound line → ⊥) → BreaksRule shape pages 8 (first_page_of shape.extents shape.extent_pages line.block)
  -- the first page of a block whose rows are of two cells
  cell : (t : ℕ) (def : TableDef) (line : MapLine) → ShowsTable pages t def (λ map_tree. HasUsedLine map_tree line)
      → (IsLineOfOneCell shape pages def line → ⊥) → BreaksRule shape pages 9 (first_page_of shape.extents shape.extent_pages line.block)
  -- the root of a block index, and of a record index
  composite : (t : ℕ) (def : TableDef) → t < 16 → DefinesTable pages t def
      → ((map_tree index : Forest) → HasTree pages (map_place def) map_tree → HasTree pages (composite_place def) index
      → IsBlockIndexSound def (rows_in_table shape pages def map_tree) (cell_parts def) index → ⊥) → BreaksRule shape pages 10 def.roots.composite
  dimension : (t i root : ℕ) (def : TableDef) (dim : List ℕ) → t < 16 → DefinesTable pages t def
      → slice_get def.dims i ≡ Some dim → slice_get def.roots.dims i ≡ Some root
      → ((map_tree index : Forest) → HasTree pages (map_place def) map_tree → HasTree pages (dimension_place def dim root) index
      → IsBlockIndexSound def (rows_in_table shape pages def map_tree) (rising_parts dim) index → ⊥) → BreaksRule shape pages 10 root
  record_index : (t : ℕ) (def : TableDef) (index : IndexDef) → t < 16 → DefinesTable pages t def → Contains def.indexes index
      → ((map_tree tree : Forest) → HasTree pages (map_place def) map_tree → HasTree pages (record_place def index) tree
      → IsSoundIndex def (rows_in_table shape pages def map_tree) (pending_blocks map_tree) index tree → ⊥) → BreaksRule shape pages 11 index.root
  -- the table page, for row numbers and for UNIQUE indexes
  numbers : (t : ℕ) (def : TableDef) → ShowsTable pages t def (λ map_tree. AreRowNumbersSound def (rows_in_table shape pages def map_tree) → ⊥)
      → BreaksRule shape pages 12 (1 + t)
  unique : (t : ℕ) (def : TableDef) (index : IndexDef) → Contains def.indexes index
      → ShowsTable pages t def (λ map_tree. IsUniqueSound (rows_in_table shape pages def map_tree) index → ⊥) → BreaksRule shape pages 12 (1 + t)

-- of a database that isn't sound: the first rule that is broken, and the lowest page that breaks it
pub record IsFirstBreak (shape : Shape) (pages : PageList) (rule page : ℕ) : Type 0 where
  pub breaks : BreaksRule shape pages rule page
  pub first : (other p : ℕ) → BreaksRule shape pages other p → rule ≤ other
  pub lowest : (p : ℕ) → BreaksRule shape pages rule p → page ≤ p
