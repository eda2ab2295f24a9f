use Rattle.std.proofs.Common.{◌≡◌, ◌<◌, ◌+◌, ℕ, IsTrue, None, length, replicate}
use Rattle.store_api.specs.Extents.{first_page_of}
use Rattle.store_api.specs.RunsOverPages.{RunsOverPages}
use Rattle.row_page.specs.RowPage.{slot_count}
use Rattle.mdc_sound.specs.StandingTable.{IsPageOfBlock}
use Rattle.block_rows.specs.HeldRows.{BreaksExtent}
use Rattle.block_rows.specs.PageRows.{HoldsRowPage}
use Rattle.block_rows.proofs.changing.wipe_block.Given as goal

-- the pages so far are empty row pages
abbrev pub invariant-loop-j : goal.invariant-loop-j
invariant-loop-j g l = record {
  count : length (g.P.Pages.state l.pages).work ≡ length (g.P.Pages.state l.fn.pages).work;
  wiped : IsTrue (g.P.Pages.state l.fn.pages).is_told → (i : ℕ) → i < l.j
      → HoldsRowPage g.P.Pages l.def.columns l.pages (first_page_of l.fn.shape.extents l.fn.shape.extent_pages l.block + i) (replicate (slot_count l.def.columns) None);
  runs : RunsOverPages g.P.Pages (IsPageOfBlock l.fn.shape l.block) (IsPageOfBlock l.fn.shape l.block) (BreaksExtent g.P.Pages l.fn.shape l.fn.pages l.block) l.fn.pages l.pages None;
}
