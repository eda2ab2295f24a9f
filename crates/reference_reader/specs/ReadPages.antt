-- Which pages the reference reader looks at, and which damage it names. All of it is said of pages that are told.
use Rattle.std.specs.Prelude.{◌≡◌, ◌<◌, ◌⊎◌, ℕ, ◌+◌, IsTrue, Contains}
use Rattle.mdc_ast.specs.declared.definition.TableDef.{TableDef}
use Rattle.store_api.specs.Extents.{first_page_of}
use Rattle.store_api.specs.StoreState.{StoreState, page_at}
use Rattle.store_api.specs.declared.fault.Damage.{Damage}
use Rattle.store_api.specs.declared.shape.Shape.{Shape}
use Rattle.row_page.specs.RowPage.{IsRowPage, rows_of}
use Rattle.entry_tree.specs.Forest.{Forest, times}
use Rattle.block_map.specs.MapLines.{used_blocks}
use Rattle.table_trees.specs.TableTrees.{map_place}
use Rattle.table_trees.specs.ToldPages.{HasTree, PageList}
use Rattle.mdc_sound.specs.BlockRules.{IsBlockPageSound}
use Rattle.mdc_sound.specs.Breaks.{BreaksRule}
use Rattle.mdc_sound.specs.TablePages.{DefinesTable}

-- table t, whose block map is this tree
pub record IsMappedTable (pages : PageList) (t : ℕ) (def : TableDef) (map_tree : Forest) : Type 0 where
  pub within : t < 16
  pub defines : DefinesTable pages t def
  pub has_map : HasTree pages (map_place def) map_tree

-- ---- the pages that are looked at

-- one of the pages of a block
abbrev pub IsInBlock : Shape → ℕ → ℕ → Type 0
IsInBlock shape block p = (j : ℕ) × (j < shape.extent_pages) × (p ≡ first_page_of shape.extents shape.extent_pages block + j)

-- one of the pages of a Used block
abbrev pub IsInUsedBlock : Shape → Forest → ℕ → Type 0
IsInUsedBlock shape map_tree p = (block : ℕ) × Contains (used_blocks map_tree) block × IsInBlock shape block p

-- where a table's block map is told to be a tree, a page of that tree or of a Used block
abbrev pub IsRowsPage : Shape → StoreState → TableDef → ℕ → Type 0
IsRowsPage shape s def p =
    IsTrue s.is_told → (map_tree : Forest) → HasTree s.work (map_place def) map_tree → (0 < times p map_tree) ⊎ IsInUsedBlock shape map_tree p

-- table page t, or a page of the block map or of a Used block of table t; no page of a block index or of a record index
abbrev pub IsPlainPageOf : Shape → StoreState → ℕ → ℕ → Type 0
IsPlainPageOf shape s t p = (p ≡ 1 + t) ⊎ ((def : TableDef) × DefinesTable s.work t def × IsRowsPage shape s def p)

-- such a page of one of the 16 tables
abbrev pub IsPlainPage : Shape → StoreState → ℕ → Type 0
IsPlainPage shape s p = IsTrue s.is_told → (t : ℕ) × (t < 16) × IsPlainPageOf shape s t p

-- ---- the pages that are judged

-- each page of a block is a row page of the table's columns
abbrev pub HasRowPages : Shape → PageList → TableDef → ℕ → Type 0
HasRowPages shape pages def block = (j : ℕ) → j < shape.extent_pages → IsBlockPageSound shape pages def block j

-- so is each page of each Used block
abbrev pub HaveRowPages : Shape → PageList → Type 0
HaveRowPages shape pages =
    (t : ℕ) (def : TableDef) (map_tree : Forest) (block : ℕ) → IsMappedTable pages t def map_tree → Contains (used_blocks map_tree) block → HasRowPages shape pages def block

-- ---- damage

-- the block map of each table is a tree
abbrev pub HaveMapTrees : PageList → Type 0
HaveMapTrees pages = (t : ℕ) (def : TableDef) → t < 16 → DefinesTable pages t def → (map_tree : Forest) × HasTree pages (map_place def) map_tree

-- the page that is named breaks the rule that is named, where each block map is a tree
pub record BreaksReading (shape : Shape) (s : StoreState) (damage : Damage) : Type 0 where
  pub broken : IsTrue s.is_told → HaveMapTrees s.work → BreaksRule shape s.work damage.rule damage.page

-- the table page that is named is neither zeros alone nor that of a definition
pub record BreaksDefinition (shape : Shape) (s : StoreState) (damage : Damage) : Type 0 where
  pub broken : IsTrue s.is_told → BreaksRule shape s.work damage.rule damage.page

-- the page that is named breaks the rule that is named, where the table's block map is a tree
pub record BreaksTableRows (shape : Shape) (s : StoreState) (def : TableDef) (damage : Damage) : Type 0 where
  pub broken : IsTrue s.is_told → (map_tree : Forest) → IsMappedTable s.work def.number def map_tree → BreaksRule shape s.work damage.rule damage.page

-- a page of the block isn't a row page of the table's columns
pub record BreaksBlock (shape : Shape) (s : StoreState) (def : TableDef) (block : ℕ) (damage : Damage) : Type 0 where
  pub rule : damage.rule ≡ 7
  pub place : ℕ
  pub within : place < shape.extent_pages
  pub page : damage.page ≡ first_page_of shape.extents shape.extent_pages block + place
  pub broken : IsTrue s.is_told → IsBlockPageSound shape s.work def block place → ⊥

-- a page isn't a row page of the table's columns
pub record BreaksRowPage (s : StoreState) (def : TableDef) (p : ℕ) (damage : Damage) : Type 0 where
  pub rule : damage.rule ≡ 7
  pub page : damage.page ≡ p
  pub broken : IsTrue s.is_told → IsRowPage def.columns (page_at s.work p) (rows_of def.columns (page_at s.work p)) → ⊥
