-- Which pages a query, EXPLAIN, a DELETE that goes by blocks and LIST BLOCKS bring to hand.
use Rattle.std.specs.Prelude.{◌≡◌, ◌⊎◌, ℕ, true, List, Option, Some}
use Rattle.mdc_ast.specs.declared.bound.Bound.{Bound}
use Rattle.mdc_ast.specs.declared.bound.Bound.TheVariants as bound
use Rattle.mdc_ast.specs.declared.bound.BoundSelect.{BoundSelect}
use Rattle.mdc_ast.specs.declared.definition.TableDef.{TableDef}
use Rattle.mdc_ast.specs.declared.predicate.Pred.{Pred}
use Rattle.mdc_ast.specs.declared.statement.PlanMode.{PlanMode}
use Rattle.mdc_ast.specs.Definitions.{Definitions, def_at, def_named}
use Rattle.statement_meaning.specs.declared.settings.Settings.{Settings}
use Rattle.store_api.specs.Fetching.{BringsOnly}
use Rattle.store_api.specs.declared.pages.Pages.{Ghosts}
use Rattle.store_api.specs.declared.shape.Shape.{Shape}
use Rattle.extent_map.specs.declared.kind.Kind.{Kind}
use Rattle.table_trees.specs.TableTrees.{map_place}
use Rattle.table_trees.specs.TreesBeside.{IsTreePageAt}
use Rattle.mdc_sound.specs.StandingTable.{StandsTable, TableForests}
use Rattle.plan_chooser.specs.Rule.{goes_by_cells, plan_of}
use Rattle.plan_lists.specs.PlanTrees.{IsListPage}
use Rattle.table_scan.specs.FoundRows.{IsChoicePage}
use Rattle.executor.specs.Planned.{IsChosenPageIfSound, IsPlanPage}
use Rattle.rollout.specs.RolledPages.{AnyPage, BringsRowsOnce, IsRolloutPage}
use Rattle.table_query.specs.QueryPages.{IsQueryPage}
use Rattle.script_engine.specs.Doing.{goes_by_blocks}
use Rattle.script_engine.specs.Roles.{Lists, Role}

-- ---- rows that are found

-- a page of the block map, of the composite index, or of a tree that the plan names, or one of a Used block in whose cell a row may
-- qualify
abbrev pub IsPageOfFewBlocks : {S : Type 0} → Ghosts S → Shape → S → TableDef → PlanMode → Option Pred → ℕ → Type 0
IsPageOfFewBlocks g shape s def mode pred p = IsChoicePage g shape s def p ⊎ (IsListPage g s def (plan_of def mode pred) p ⊎ IsChosenPageIfSound g shape s def pred p)

-- so it is in modes AUTO and BLOCK
abbrev pub IsOfFewBlocksByMode : {S : Type 0} → Ghosts S → Shape → S → TableDef → PlanMode → Option Pred → ℕ → Type 0
IsOfFewBlocksByMode g shape s def mode pred p = goes_by_cells mode ≡ true → IsPageOfFewBlocks g shape s def mode pred p

-- page 0, which a commit looks at, or a page that the query of the table looks at in this mode
abbrev pub IsPageForQuery : {S : Type 0} → Ghosts S → Shape → S → TableDef → PlanMode → BoundSelect → ℕ → Type 0
IsPageForQuery g shape s def mode select p = (p ≡ 0) ⊎ (IsQueryPage g shape s def mode select p × IsOfFewBlocksByMode g shape s def mode select.pred p)

-- page 0, or a page that finding the rows of EXPLAIN's query looks at in this mode
abbrev pub IsPageForExplain : {S : Type 0} → Ghosts S → Shape → S → TableDef → PlanMode → Option Pred → ℕ → Type 0
IsPageForExplain g shape s def mode pred p = (p ≡ 0) ⊎ (IsPlanPage g shape s def mode pred p × IsOfFewBlocksByMode g shape s def mode pred p)

-- page 0, or a page that rolling rows out looks at
abbrev pub IsPageForRollout : {S : Type 0} → Ghosts S → Shape → S → TableDef → Option Pred → ℕ → Type 0
IsPageForRollout g shape s def pred p = (p ≡ 0) ⊎ IsRolloutPage g shape s def pred p

-- ---- statements

-- of a query, of EXPLAIN, and of a DELETE that goes by blocks, over a table that is there, only such pages came to hand; of another
-- statement nothing is said
abbrev pub FetchesForStatement : {S : Type 0} → Ghosts S → Shape → S → S → Definitions → Settings → Bound → Type 0
FetchesForStatement g shape old new defs settings (bound.Query select) =
    (def : TableDef) → def_at defs select.table ≡ Some def → BringsOnly g (IsPageForQuery g shape old def settings.plan select) old new
FetchesForStatement g shape old new defs settings (bound.Explain select) =
    (def : TableDef) → def_at defs select.table ≡ Some def → BringsOnly g (IsPageForExplain g shape old def settings.plan select.pred) old new
FetchesForStatement g shape old new defs settings (bound.Delete place pred) =
    (def : TableDef) → def_at defs place ≡ Some def → goes_by_blocks settings.rollout pred def ≡ true → BringsOnly g (IsPageForRollout g shape old def pred) old new
FetchesForStatement g shape old new defs settings statement = Unit {0}

-- with a DELETE that goes by blocks, over a table that is there, no page of the table's blocks came to hand twice; of another statement
-- nothing is said
abbrev pub FetchesRowsOnce : {S : Type 0} → Ghosts S → Shape → S → S → Definitions → Settings → Bound → Type 0
FetchesRowsOnce g shape old new defs settings (bound.Delete place pred) =
    (def : TableDef) → def_at defs place ≡ Some def → goes_by_blocks settings.rollout pred def ≡ true
    → (owners : List Kind) (forests : TableForests) → StandsTable g shape old def owners forests → BringsRowsOnce g shape old new def owners AnyPage
FetchesRowsOnce g shape old new defs settings statement = Unit {0}

-- of LIST BLOCKS of a table that is there, only pages of its block map came to hand; of another statement nothing is said
abbrev pub FetchesForListing : {S : Type 0} → Ghosts S → S → S → Definitions → Role → Type 0
FetchesForListing g old new defs (Lists name) = (def : TableDef) → def_named defs name ≡ Some def → BringsOnly g (IsTreePageAt g old (map_place def)) old new
FetchesForListing g old new defs role = Unit {0}
