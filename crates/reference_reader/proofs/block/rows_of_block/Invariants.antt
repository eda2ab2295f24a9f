use Rattle.std.proofs.Common.{ℕ, ◌<◌}
use Rattle.mdc_sound.specs.BlockRules.{IsBlockPageSound}
use Rattle.std.proofs.Common.{◌≡◌, ◌++◌, false}
use Rattle.std.specs.Prelude.{IsTrue, flat_map}
use Rattle.std.specs.List.{range_with_len}
use Rattle.store_api.specs.Frame.{NoPage}
use Rattle.store_api.specs.RunsOverPages.{RunsOverPages}
use Rattle.std.proofs.Common.{None}
use Rattle.row_page.specs.RowPage.{rows_of}
use Rattle.mdc_sound.specs.TableRows.{block_page}
use Rattle.reference_reader.specs.ReadPages.{BreaksBlock, IsInBlock}
use Rattle.reference_reader.specs.ReadTables.{rows_in_slots}
use Rattle.reference_reader.proofs.block.rows_of_block.Given as goal

-- the rows of the pages so far came behind those that were there
abbrev pub invariant-loop-place : goal.invariant-loop-place
invariant-loop-place g l = record {
  rows : IsTrue (g.P.Pages.state l.fn.pages).is_told
      → l.rows.items ≡ l.fn.rows.items ++ rows_in_slots (flat_map (λ j. rows_of l.def.columns (block_page l.fn.shape (g.P.Pages.state l.fn.pages).work l.block j)) (range_with_len 0 l.place));
  judged : IsTrue (g.P.Pages.state l.fn.pages).is_told → (j : ℕ) → j < l.place → IsBlockPageSound l.fn.shape (g.P.Pages.state l.fn.pages).work l.def l.block j;
  same : (g.P.Pages.state l.pages).work ≡ (g.P.Pages.state l.fn.pages).work;
  going : (g.P.Pages.state l.pages).ended ≡ false;
  runs : RunsOverPages g.P.Pages NoPage (IsInBlock l.fn.shape l.block) (BreaksBlock l.fn.shape (g.P.Pages.state l.fn.pages) l.def l.block) l.fn.pages l.pages None;
}
