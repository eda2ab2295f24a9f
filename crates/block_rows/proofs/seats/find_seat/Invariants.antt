use Rattle.std.proofs.Common.{◌≡◌, ◌*◌, List, Option, None, take}
use Rattle.mdc_ast.specs.declared.row.Row.{Row}
use Rattle.store_api.specs.Frame.{NoPage}
use Rattle.store_api.specs.RunsOverPages.{RunsOverPages}
use Rattle.row_page.specs.RowPage.{slot_count}
use Rattle.mdc_sound.specs.Placing.{HoldsNowhere, IsEmptySlot}
use Rattle.mdc_sound.specs.StandingTable.{IsPageOfBlock}
use Rattle.block_rows.specs.HeldRows.{BreaksRows, HoldsRows}
use Rattle.block_rows.proofs.seats.find_seat.Given as goal

-- no page so far has an empty slot, and the work is as it was
abbrev pub invariant-loop-j : goal.invariant-loop-j
invariant-loop-j g l = record {
  same : (g.P.Pages.state l.pages).work ≡ (g.P.Pages.state l.fn.pages).work;
  full : (slots : List (Option Row)) → HoldsRows g.P.Pages l.fn.shape l.fn.pages l.def l.block slots → HoldsNowhere IsEmptySlot (take (l.j * slot_count l.def.columns) slots);
  runs : RunsOverPages g.P.Pages NoPage (IsPageOfBlock l.fn.shape l.block) (BreaksRows g.P.Pages l.fn.shape l.fn.pages l.def l.block) l.fn.pages l.pages None;
}
