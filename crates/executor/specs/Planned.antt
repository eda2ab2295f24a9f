-- What is found by a plan, and the pages that are looked at for it.
use Rattle.std.specs.Prelude.{◌≡◌, ◌≢◌, ◌≤◌, ◌⊎◌, ℕ, AllPairs, IsTrue, List, true, map, Contains, Option}
use Rattle.mdc_values.specs.declared.value.Value.{Value}
use Rattle.mdc_ast.specs.declared.definition.TableDef.{TableDef}
use Rattle.mdc_ast.specs.declared.predicate.Pred.{Pred}
use Rattle.mdc_ast.specs.declared.statement.PlanMode.{PlanMode}
use Rattle.mdc_ast.specs.Truth.{qualifies}
use Rattle.store_api.specs.declared.pages.Pages.{Ghosts}
use Rattle.store_api.specs.declared.shape.Shape.{Shape}
use Rattle.extent_map.specs.declared.kind.Kind.{Kind}
use Rattle.row_filter.specs.Filtering.{may_filter}
use Rattle.block_rows.specs.Giving.{WasGiven}
use Rattle.block_rows.specs.HeldRows.{placed_row, qualifying}
use Rattle.block_rows.specs.declared.hit.Hit.{Hit}
use Rattle.block_rows.specs.declared.row_sink.RowSink
use Rattle.mdc_sound.specs.BlockRules.{AreTableIndexesSound}
use Rattle.mdc_sound.specs.StandingTable.{StandsTable, TableForests, pages_of, view_of}
use Rattle.mdc_sound.specs.TableRows.{PlacedRow, rows_in_table}
pub use Rattle.row_entries.specs.SoundEntries.{HasSoundIndexes}
use Rattle.plan_chooser.specs.declared.plan.Plan.{Plan}
use Rattle.plan_chooser.specs.PlanRows.{plan_row}
use Rattle.plan_chooser.specs.Rule.{plan_of}
use Rattle.plan_lists.specs.PlanTrees.{IsListPage}
use Rattle.table_scan.specs.FoundRows.{IsChosenBlock}
use Rattle.executor.specs.LastRows.{IsPageToLastRow}
use Rattle.executor.specs.RowBlocks.{IsBlockWith, IsCountOf}

-- a plan has each row of which a predicate is true, where it may be judged; without a predicate it has all rows
abbrev pub CoversIfAny : TableDef → Plan → Option Pred → Type 0
CoversIfAny def plan pred = (values : List Value) → IsTrue (may_filter pred values) → qualifies pred values ≡ true → plan_row def values plan ≡ true

-- each of these is a row of the table that qualifies, with its place
abbrev pub QualifyInTable : {S : Type 0} → Ghosts S → Shape → S → TableDef → Option Pred → List Hit → TableForests → Type 0
QualifyInTable g shape s def pred hits forests =
    (placed : PlacedRow) → Contains (map placed_row hits) placed → Contains (qualifying pred (rows_in_table shape (pages_of g s) def forests.map)) placed

-- copies of some rows of the table that qualify, each with its place, none of them twice, by row number
pub record LieInTable {S : Type 0} (g : Ghosts S) (shape : Shape) (s : S) (def : TableDef) (pred : Option Pred) (hits : List Hit) (forests : TableForests) : Type 0 where
  pub lie : QualifyInTable g shape s def pred hits forests
  pub apart : AllPairs (λ a b. a.rid ≢ b.rid) hits
  pub in_order : AllPairs (λ a b. a.row.number ≤ b.row.number) hits

-- a sink was given some rows of the table that qualify, none of them twice
pub record GivesSome {K : Type 0} (sinks : RowSink.Ghosts K) (sink_old sink_new : K) {S : Type 0} (g : Ghosts S) (shape : Shape) (s : S) (def : TableDef) (pred : Option Pred) (forests : TableForests) : Type 0 where
  pub rows : List PlacedRow
  pub lie : (placed : PlacedRow) → Contains rows placed → Contains (qualifying pred (rows_in_table shape (pages_of g s) def forests.map)) placed
  pub apart : AllPairs (λ a b. a.rid ≢ b.rid) rows
  pub given : WasGiven sinks sink_old sink_new rows

-- ---- blocks

-- a Used block with a row that the plan has
abbrev pub IsPlannedBlock : {S : Type 0} → Ghosts S → Shape → S → TableDef → Plan → TableForests → ℕ → Type 0
IsPlannedBlock g shape s def plan forests = IsBlockWith shape (pages_of g s) def forests.map (λ placed. plan_row def placed.row.values plan ≡ true)

-- that is how many such blocks there are
abbrev pub CountsPlanned : {S : Type 0} → Ghosts S → Shape → S → TableDef → Plan → TableForests → ℕ → Type 0
CountsPlanned g shape s def plan forests count = IsCountOf (IsPlannedBlock g shape s def plan forests) count

-- ---- the pages that are looked at

-- a page of a Used block with a row that the plan has, not behind its last row, where the table was told to stand with sound record indexes
abbrev pub IsPlannedRowPage : {S : Type 0} → Ghosts S → Shape → S → TableDef → Plan → ℕ → Type 0
IsPlannedRowPage g shape s def plan p =
    (owners : List Kind) (forests : TableForests) → StandsTable g shape s def owners forests → AreTableIndexesSound shape (pages_of g s) (view_of def forests)
    → (block : ℕ) × IsPlannedBlock g shape s def plan forests block × IsPageToLastRow g shape s def block p

-- the pages that come to hand: those of the trees that the plan names, of the block map, and of such blocks up to their last rows
abbrev pub IsFoundPage : {S : Type 0} → Ghosts S → Shape → S → TableDef → Plan → ℕ → Type 0
IsFoundPage g shape s def plan p = IsListPage g s def plan p ⊎ IsPlannedRowPage g shape s def plan p

-- those of the plan that the plan rule gives a predicate in a mode
abbrev pub IsPlanPage : {S : Type 0} → Ghosts S → Shape → S → TableDef → PlanMode → Option Pred → ℕ → Type 0
IsPlanPage g shape s def mode pred p = IsFoundPage g shape s def (plan_of def mode pred) p

-- a page of a Used block in whose cell a row may qualify, not behind its last row, where the table was told to stand with sound record indexes
abbrev pub IsChosenPageIfSound : {S : Type 0} → Ghosts S → Shape → S → TableDef → Option Pred → ℕ → Type 0
IsChosenPageIfSound g shape s def pred p =
    (owners : List Kind) (forests : TableForests) → StandsTable g shape s def owners forests → AreTableIndexesSound shape (pages_of g s) (view_of def forests)
    → (block : ℕ) × IsChosenBlock g shape s def pred forests block × IsPageToLastRow g shape s def block p
