-- The pages that a query looks at.
use Rattle.std.specs.Prelude.{◌⊎◌, ℕ, IsTrue}
use Rattle.mdc_ast.specs.declared.bound.BoundSelect.{BoundSelect}
use Rattle.mdc_ast.specs.declared.definition.TableDef.{TableDef}
use Rattle.mdc_ast.specs.declared.statement.PlanMode.{PlanMode}
use Rattle.store_api.specs.declared.pages.Pages.{Ghosts}
use Rattle.store_api.specs.declared.shape.Shape.{Shape}
use Rattle.row_groups.specs.Lines.{shares_lines}
use Rattle.row_groups.specs.Shape.{shape_of}
use Rattle.table_scan.specs.FoundRows.{IsChoicePage}
use Rattle.table_scan.specs.Settled.{HasOpenTestIfAny, IsSettledIfAny}
use Rattle.executor.specs.Planned.{IsPlanPage}
use Rattle.table_query.specs.Counted.{counts_rows_alone}

-- a query shows how many rows there are, and nothing else, and cells tell which rows qualify
abbrev pub IsCountedByCells : TableDef → BoundSelect → Type 0
IsCountedByCells def select = IsTrue (shares_lines (shape_of select)) × IsTrue (counts_rows_alone (shape_of select)) × IsSettledIfAny def select.pred

-- a query needs rows, unless it shows that alone and cells settle each test
abbrev pub NeedsRows : TableDef → BoundSelect → Type 0
NeedsRows def select = IsTrue (shares_lines (shape_of select)) → IsTrue (counts_rows_alone (shape_of select)) → HasOpenTestIfAny def select.pred

-- where cells tell how many rows there are, a page of the block map or of the composite index; and where it needs rows, a page that
-- finding them by the plan in this mode looks at
abbrev pub IsQueryPage : {S : Type 0} → Ghosts S → Shape → S → TableDef → PlanMode → BoundSelect → ℕ → Type 0
IsQueryPage g shape s def mode select p = (IsCountedByCells def select × IsChoicePage g shape s def p) ⊎ (NeedsRows def select × IsPlanPage g shape s def mode select.pred p)
