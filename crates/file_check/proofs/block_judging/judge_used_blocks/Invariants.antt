use Rattle.std.proofs.Common.{◌≡◌, None, false, length, take}
use Rattle.std.specs.Prelude.{IsTrue}
use Rattle.store_api.specs.Frame.{NoPage}
use Rattle.store_api.specs.RunsOverPages.{RunsOverPages}
use Rattle.entry_tree.specs.Forest.{Forest}
use Rattle.file_check.specs.KnownTables.{TableHasRows, TellsTable}
use Rattle.file_check.specs.Looking.{AnyPage, Unless}
use Rattle.file_check.specs.RowsJudged.{JudgesUsed}
use Rattle.file_check.proofs.block_judging.judge_used_blocks.Given as goal

-- the rows of the blocks so far are judged
abbrev pub invariant-loop-block : goal.invariant-loop-block
invariant-loop-block g l = record {
  judged : IsTrue (g.P.Pages.state l.fn.pages).is_told → (map_tree : Forest) → TableHasRows l.fn.shape (g.P.Pages.state l.fn.pages).work l.def map_tree
      → JudgesUsed l.fn.shape (g.P.Pages.state l.fn.pages).work l.def map_tree (take l.block-index l.block-items) l.found;
  count : l.found.blocks ≡ length l.block-items;
  same : (g.P.Pages.state l.pages).work ≡ (g.P.Pages.state l.fn.pages).work;
  going : (g.P.Pages.state l.pages).ended ≡ false;
  runs : RunsOverPages g.P.Pages NoPage AnyPage (Unless g.P.Pages l.fn.pages (TellsTable l.fn.shape l.def)) l.fn.pages l.pages None;
}
