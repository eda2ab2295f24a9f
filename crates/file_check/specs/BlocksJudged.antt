-- What judging the blocks of a table says: the rows on their pages, the counts of rows in its block map, and the cells of rows.
use Rattle.std.specs.Prelude.{AllPairs, Bool, Contains, List, Some, false, true, ℕ, ◌+◌, ◌<◌, ◌≡◌, ◌⊎◌}
use Rattle.mdc_ast.specs.declared.definition.TableDef.{TableDef}
use Rattle.mdc_ast.specs.declared.row.Row.{Row}
use Rattle.store_api.specs.Extents.{first_page_of}
use Rattle.store_api.specs.declared.shape.Shape.{Shape}
use Rattle.row_page.specs.RowPage.{IsRowPage, rows_of, slot_count, slot_row}
use Rattle.table_trees.specs.ToldPages.{PageList}
use Rattle.mdc_ast.specs.FittingRows.{RowFits}
use Rattle.mdc_sound.specs.TableRows.{PlacedRow, block_page}
use Rattle.entry_tree.specs.Forest.{Forest}
use Rattle.block_map.specs.MapLines.{MapLine, map_lines}
use Rattle.mdc_sound.specs.BlockRules.{IsIdleCountSound, IsOfOneCell, IsUsedCountSound}
use Rattle.table_trees.specs.RowCells.{AreOfOneCell}

-- ---- row pages

-- each row of a page fits the definition
abbrev pub DoRowsFit : TableDef → List ℕ → Type 0
DoRowsFit def bytes = (slot : ℕ) (row : Row) → slot < slot_count def.columns → slot_row def.columns bytes slot ≡ Some row → RowFits def row

-- a row of a page doesn't fit the definition
pub record HasMisfit (def : TableDef) (bytes : List ℕ) : Type 0 where
  pub slot : ℕ
  pub row : Row
  pub within : slot < slot_count def.columns
  pub stands : slot_row def.columns bytes slot ≡ Some row
  pub unfit : RowFits def row → ⊥

-- all rows of a page fit, or one doesn't
abbrev pub JudgesRows : TableDef → List ℕ → Bool → Type 0
JudgesRows def bytes true = DoRowsFit def bytes
JudgesRows def bytes false = HasMisfit def bytes

-- a row page of the table's columns
abbrev pub HasRowForm : TableDef → List ℕ → Type 0
HasRowForm def bytes = IsRowPage def.columns bytes (rows_of def.columns bytes)

-- a page is a row page whose rows fit
pub record IsFittingPage (def : TableDef) (bytes : List ℕ) : Type 0 where
  pub form : HasRowForm def bytes
  pub rows : DoRowsFit def bytes

-- or it isn't
abbrev pub IsUnfitPage : TableDef → List ℕ → Type 0
IsUnfitPage def bytes = (HasRowForm def bytes → ⊥) ⊎ HasMisfit def bytes

-- a page was judged so
abbrev pub JudgesPage : TableDef → List ℕ → Bool → Type 0
JudgesPage def bytes true = IsFittingPage def bytes
JudgesPage def bytes false = IsUnfitPage def bytes

-- page p is one of a block, and isn't a row page whose rows fit
pub record BreaksBlockRows (shape : Shape) (pages : PageList) (def : TableDef) (block p : ℕ) : Type 0 where
  pub place : ℕ
  pub within : place < shape.extent_pages
  pub page : p ≡ first_page_of shape.extents shape.extent_pages block + place
  pub unfit : IsUnfitPage def (block_page shape pages block place)

-- ---- counts of rows

-- a line counts the rows of its block
pub record IsLineCounted (shape : Shape) (pages : PageList) (def : TableDef) (line : MapLine) : Type 0 where
  pub used : IsUsedCountSound shape pages def line
  pub idle : IsIdleCountSound line

-- or it doesn't
abbrev pub IsLineMiscounted : Shape → PageList → TableDef → MapLine → Type 0
IsLineMiscounted shape pages def line = (IsUsedCountSound shape pages def line → ⊥) ⊎ (IsIdleCountSound line → ⊥)

-- p is the first page of a block whose line doesn't
pub record BreaksLineCount (shape : Shape) (pages : PageList) (def : TableDef) (line : MapLine) (p : ℕ) : Type 0 where
  pub page : p ≡ first_page_of shape.extents shape.extent_pages line.block
  pub miscounted : IsLineMiscounted shape pages def line

-- ---- by the block

-- each line of a block counts its rows
abbrev pub IsBlockCounted : Shape → PageList → TableDef → Forest → ℕ → Type 0
IsBlockCounted shape pages def map_tree block = (line : MapLine) → Contains (map_lines map_tree) line → line.block ≡ block → IsLineCounted shape pages def line

-- a line of it doesn't
pub record IsBlockMiscounted (shape : Shape) (pages : PageList) (def : TableDef) (map_tree : Forest) (block : ℕ) : Type 0 where
  pub line : MapLine
  pub there : Contains (map_lines map_tree) line
  pub names : line.block ≡ block
  pub miscounted : IsLineMiscounted shape pages def line

-- a block was judged so
abbrev pub JudgesCount : Shape → PageList → TableDef → Forest → ℕ → Bool → Type 0
JudgesCount shape pages def map_tree block true = IsBlockCounted shape pages def map_tree block
JudgesCount shape pages def map_tree block false = IsBlockMiscounted shape pages def map_tree block

-- p is the first page of a block that is counted wrong
pub record BreaksBlockCount (shape : Shape) (pages : PageList) (def : TableDef) (map_tree : Forest) (block p : ℕ) : Type 0 where
  pub page : p ≡ first_page_of shape.extents shape.extent_pages block
  pub miscounted : IsBlockMiscounted shape pages def map_tree block

-- ---- cells

-- rows are of one cell
abbrev pub ShareCell : TableDef → List PlacedRow → Type 0
ShareCell def rows = AllPairs (λ a b. AreOfOneCell def a.row.values b.row.values) rows

-- they are, or they aren't
abbrev pub JudgesCell : TableDef → List PlacedRow → Bool → Type 0
JudgesCell def rows true = ShareCell def rows
JudgesCell def rows false = ShareCell def rows → ⊥

-- p is the first page of a block with rows of two cells
pub record BreaksBlockCell (shape : Shape) (pages : PageList) (def : TableDef) (block p : ℕ) : Type 0 where
  pub page : p ≡ first_page_of shape.extents shape.extent_pages block
  pub two : IsOfOneCell shape pages def block → ⊥
