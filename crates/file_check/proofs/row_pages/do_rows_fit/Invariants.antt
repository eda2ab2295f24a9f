use Rattle.std.proofs.Common.{◌≡◌, ◌<◌, ℕ, Some}
use Rattle.mdc_ast.specs.declared.row.Row.{Row}
use Rattle.row_page.specs.RowPage.{slot_row}
use Rattle.mdc_ast.specs.FittingRows.{RowFits}
use Rattle.file_check.proofs.row_pages.do_rows_fit.Given as goal

-- the rows in the slots so far fit
abbrev pub invariant-loop-slot : goal.invariant-loop-slot
invariant-loop-slot l = (slot : ℕ) (row : Row) → slot < l.slot → slot_row l.def.columns l.view.page.now slot ≡ Some row → RowFits l.def row
