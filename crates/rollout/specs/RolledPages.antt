-- Which pages a rollout brings to hand.
use Rattle.std.specs.Prelude.{◌≡◌, ◌≢◌, ◌<◌, ◌⊎◌, ◌↔◌, ℕ, ⊤, Bool, false, All, Contains, List, [], Option, length, slice_index, slice_index_or, sum_by}
use Rattle.mdc_ast.specs.declared.definition.TableDef.{TableDef}
use Rattle.mdc_ast.specs.declared.predicate.Pred.{Pred}
use Rattle.mdc_ast.specs.declared.row.Row.{Row}
use Rattle.store_api.specs.Fetching.{Brought}
use Rattle.store_api.specs.declared.pages.Pages.{Ghosts}
use Rattle.store_api.specs.declared.shape.Shape.{Shape}
use Rattle.extent_map.specs.declared.kind.Kind.{Kind}
use Rattle.block_map.specs.MapLines.{MapLine, lines_of_state}
use Rattle.mdc_sound.specs.Placing.{HasChosenRow, Spot}
use Rattle.mdc_sound.specs.Placing.Spot.{OtherBlock}
use Rattle.extent_map.specs.Map.{IsMapPage}
use Rattle.entry_tree.specs.Forest.{times}
use Rattle.block_index.specs.declared.listed_cells.CellBlock.{CellBlock}
use Rattle.mdc_sound.specs.StandingTable.{IsBlockPageOf, StandsTable, TableForests, forests_in_order, spots_of}
use Rattle.row_entries.specs.RowEntries.{IsTreeOrMapPageOfTable}
use Rattle.rollout.specs.GoingCells.{ListsCells}
use Rattle.rollout.specs.LeavingRows.{IsPageOfBlocks}
use Rattle.rollout.specs.RolledBlocks.{is_chosen}
use Rattle.rollout.specs.SweptPart.{goes_by_sweep}

-- The blocks in which a row is chosen, of which it is a page, have too few rows for a sweep.
pub record IsPageOfFew (shape : Shape) (spots : List Spot) (lines : List MapLine) (chosen : Row → Bool) (p : ℕ) : Type 0 where
  pub blocks : List ℕ
  pub are : (block : ℕ) → Contains blocks block ↔ HasChosenRow chosen (slice_index_or spots block OtherBlock)
  pub page : IsPageOfBlocks shape blocks p
  pub few : goes_by_sweep lines blocks ≡ false

-- a page of such blocks with rows that qualify, where the table has a record index and was told to stand
abbrev pub IsRolledRowPage : {S : Type 0} → Ghosts S → Shape → S → TableDef → Option Pred → ℕ → Type 0
IsRolledRowPage g shape s def pred p =
    (def.indexes ≢ []) × ((owners : List Kind) (forests : TableForests) → StandsTable g shape s def owners forests
    → IsPageOfFew shape (spots_of g shape s def owners forests) (lines_of_state 1 forests.map) (is_chosen pred) p)

-- a page of the table's trees or of the extent map, where the table was told to stand and its composite index to list these cells
abbrev pub IsPageWhereListed : {S : Type 0} → Ghosts S → Shape → S → TableDef → List CellBlock → ℕ → Type 0
IsPageWhereListed g shape s def found p =
    (owners : List Kind) (forests : TableForests) → StandsTable g shape s def owners forests → ListsCells def found owners forests → 0 < sum_by (times p) (forests_in_order forests) ⊎ IsMapPage shape p

-- the pages that a rollout brings to hand: those of the table's trees and of the extent map, and those row pages
abbrev pub IsRolloutPage : {S : Type 0} → Ghosts S → Shape → S → TableDef → Option Pred → ℕ → Type 0
IsRolloutPage g shape s def pred p = IsTreeOrMapPageOfTable g shape s def p ⊎ IsRolledRowPage g shape s def pred p

-- Of the pages that came to hand those that count are of a kind, and none of them came twice.
pub record BringsCountedOnce {S : Type 0} (g : Ghosts S) (Counted Kind : ℕ → Type 0) (old new : S) : Type 0 where
  pub pages : List ℕ
  pub brought : Brought g pages old new
  pub kind : All (λ p. Counted p → Kind p) pages
  pub once : (i j : ℕ) → i < j → j < length pages → Counted (slice_index pages j) → slice_index pages i ≢ slice_index pages j

-- So it is of the pages of the table's blocks.
abbrev pub BringsRowsOnce : {S : Type 0} → Ghosts S → Shape → S → S → TableDef → List Kind → (ℕ → Type 0) → Type 0
BringsRowsOnce g shape old new def owners Kind = BringsCountedOnce g (IsBlockPageOf shape owners def.number) Kind old new

-- any page
abbrev pub AnyPage : ℕ → Type 0
AnyPage p = ⊤
