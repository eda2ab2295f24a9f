-- The rows of a table for which a predicate is true, as a scan of the Used blocks finds them in whose cells it may hold.
use Rattle.std.specs.Prelude.{◌≡◌, ◌≤◌, ◌<◌, ◌⊎◌, ℕ, true, List, map, flat_map, Option, Some, None, Contains, IsPermutation, AllPairs}
use Rattle.std.specs.List.{AllByRecursion}
use Rattle.mdc_values.specs.declared.value.Value.{Value}
use Rattle.mdc_ast.specs.declared.definition.TableDef.{TableDef}
use Rattle.mdc_ast.specs.declared.predicate.Pred.{Pred}
use Rattle.cell_filter.specs.Cells.{may_hold_at}
use Rattle.store_api.specs.declared.pages.Pages.{Ghosts}
use Rattle.store_api.specs.Fetching.{BringsOnce, BringsOnly}
use Rattle.store_api.specs.declared.shape.Shape.{Shape}
use Rattle.extent_map.specs.declared.kind.Kind.{Kind}
use Rattle.entry_tree.specs.Forest.{times}
use Rattle.block_map.specs.MapLines.{used_blocks}
use Rattle.block_rows.specs.Giving.{WasGiven}
use Rattle.block_rows.specs.HeldRows.{placed_row, qualifying}
use Rattle.block_rows.specs.declared.hit.Hit.{Hit}
use Rattle.block_rows.specs.declared.row_sink.RowSink
use Rattle.table_trees.specs.RowCells.{cell_places, cell_values}
use Rattle.table_trees.specs.ToldPages.{PageList}
use Rattle.mdc_sound.specs.StandingTable.{IsPageOfBlock, StandsTable, TableForests, pages_of}
use Rattle.mdc_sound.specs.TableRows.{PlacedRow, rows_in_block, rows_in_table}

-- These are the rows of the table that qualify, each with its place, by row number.
pub record FindsRows {S : Type 0} (g : Ghosts S) (shape : Shape) (s : S) (def : TableDef) (pred : Option Pred) (hits : List Hit) (forests : TableForests) : Type 0 where
  pub found : IsPermutation (qualifying pred (rows_in_table shape (pages_of g s) def forests.map)) (map placed_row hits)
  pub in_order : AllPairs (λ a b. a.row.number ≤ b.row.number) hits

-- A sink was given exactly the rows of the table that qualify, in some order.
pub record GivesRows {K : Type 0} (sinks : RowSink.Ghosts K) (sink_old sink_new : K) {S : Type 0} (g : Ghosts S) (shape : Shape) (s : S) (def : TableDef) (pred : Option Pred) (forests : TableForests) : Type 0 where
  pub rows : List PlacedRow
  pub found : IsPermutation (qualifying pred (rows_in_table shape (pages_of g s) def forests.map)) rows
  pub given : WasGiven sinks sink_old sink_new rows

-- ---- blocks in which a row may qualify

-- a predicate may hold in the cell of a row of these values
abbrev pub MayHoldInCell : TableDef → Pred → List Value → Type 0
MayHoldInCell def pred values = may_hold_at (cell_places def) (cell_values def values) pred ≡ true

-- the block has a row in whose cell the predicate may hold; where there is none, it is any block
abbrev pub MayHaveRow : Shape → PageList → TableDef → Option Pred → ℕ → Type 0
MayHaveRow shape pages def None block = Unit {0}
MayHaveRow shape pages def (Some pred) block = (placed : PlacedRow) × Contains (rows_in_block shape pages def block) placed × MayHoldInCell def pred placed.row.values

-- a Used block in whose cell a row may qualify
pub record IsChosenBlock {S : Type 0} (g : Ghosts S) (shape : Shape) (s : S) (def : TableDef) (pred : Option Pred) (forests : TableForests) (block : ℕ) : Type 0 where
  pub used : Contains (used_blocks forests.map) block
  pub may : MayHaveRow shape (pages_of g s) def pred block

-- These blocks are such, and have all rows of the table that qualify.
pub record HaveQualifying {S : Type 0} (g : Ghosts S) (shape : Shape) (s : S) (def : TableDef) (pred : Option Pred) (blocks : List ℕ) (forests : TableForests) : Type 0 where
  pub chosen : AllByRecursion (IsChosenBlock g shape s def pred forests) blocks
  pub whole : IsPermutation (qualifying pred (rows_in_table shape (pages_of g s) def forests.map)) (qualifying pred (flat_map (rows_in_block shape (pages_of g s) def) blocks))

-- ---- the pages that are looked at

-- a page of a Used block in whose cell a row may qualify, where the table was told to stand
abbrev pub IsChosenRowPage : {S : Type 0} → Ghosts S → Shape → S → TableDef → Option Pred → ℕ → Type 0
IsChosenRowPage g shape s def pred p =
    (owners : List Kind) (forests : TableForests) → StandsTable g shape s def owners forests
    → (block : ℕ) × IsChosenBlock g shape s def pred forests block × IsPageOfBlock shape block p

-- a page of the block map or of the composite index, where the table was told to stand
abbrev pub IsChoicePage : {S : Type 0} → Ghosts S → Shape → S → TableDef → ℕ → Type 0
IsChoicePage g shape s def p =
    (owners : List Kind) (forests : TableForests) → StandsTable g shape s def owners forests → 0 < times p forests.map ⊎ 0 < times p forests.composite

-- the pages that a scan brings to hand
abbrev pub IsScannedPage : {S : Type 0} → Ghosts S → Shape → S → TableDef → Option Pred → ℕ → Type 0
IsScannedPage g shape s def pred p = IsChoicePage g shape s def p ⊎ IsChosenRowPage g shape s def pred p

-- pages of one kind came to hand, and from some state on pages of another, none of these twice
pub record ScansOnce {S : Type 0} (g : Ghosts S) (Early Late : ℕ → Type 0) (old new : S) : Type 0 where
  pub between : S
  pub looks : BringsOnly g Early old between
  pub reads : BringsOnce g Late between new
